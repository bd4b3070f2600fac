mod Anywhere
