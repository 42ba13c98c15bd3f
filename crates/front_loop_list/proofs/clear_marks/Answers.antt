-- `front_loop_list::clear_marks` meets its contract: zeros, then what was there.
use Rattle.std.proofs.Common.{arith}
use Rattle.std.proofs.lemmas.Grind.{common_steps}
use Rattle.front_loop_list.specs.ListedLaws.{marks_cleared}
use Rattle.front_loop_list.proofs.clear_marks.Goals as goal

pub returns : goal.returns
returns c =
    rw (marks_cleared c.args.n c.args.marks.now)
    (grind (arith, common_steps, c.fill.ensures.after))
