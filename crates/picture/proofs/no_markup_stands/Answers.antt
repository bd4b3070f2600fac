use Rattle.picture.proofs.Markup.{no_markup}
use Rattle.picture.proofs.no_markup_stands.Goals as goal

pub returns : goal.returns
returns c = no_markup
