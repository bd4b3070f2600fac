use Rattle.std.proofs.Common.{sym, ◌∙◌}
use Rattle.register.specs.Pages.{page_of}
use Rattle.register.proofs.Laws.{settled_for_good}
use Rattle.register.proofs.types.Page.is_settled.Goals as goal

pub returns : goal.returns
returns c =
    record {
      value = c.settled.ensures;
      stays = λ e. settled_for_good c.args.delay c.args.tick (page_of c.args.self.now) (sym c.settled.ensures ∙ e);
    }
