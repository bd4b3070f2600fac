mod Markup
