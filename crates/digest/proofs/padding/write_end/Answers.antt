use Rattle.std.proofs.Common.{◌∙◌, arith}
use Rattle.digest.proofs.Endings.{end_written}
use Rattle.digest.proofs.padding.write_end.Goals as goal

pub returns : goal.returns
returns c =
    record {
      within = omega arith;
      value =
          end_written c.args.size c.end_after-end.result c.args.rest.now _ c.args.last.now _
          c.requires.left c.end_after-end.ensures c.requires.zeros c.copy_from_slice.ensures.after
          (c.copy_from_slice-2.ensures.after ∙ c.to_be_bytes.ensures);
    }
