-- `paving_passes::pass` meets its contract: the turns of the pass that are taken, and what the scratch has.
use Rattle.std.proofs.Common.{false, ◌-◌}
use Rattle.laws.specs.Loop.{Run}
use Rattle.front.specs.Lent.{paving_state, SameLists}
use Rattle.paving.specs.Advance.{passing, pass_turn, after_pass}
use Rattle.paving.specs.Lent.{outline_in, field_in, SameScratch}
use Rattle.paving_settling.specs.Searchable.{HelpedIn}
use Rattle.paving_passes.proofs.pass.Given as goal

abbrev pub invariant-loop-a : goal.invariant-loop-a
invariant-loop-a l =
    let a = l.around in
    SameLists l.initial.paving l.paving × SameScratch l.initial.scratch l.scratch
    × Run (pass_turn (outline_in a) a.size (field_in a)) after_pass (passing (paving_state l.initial.paving l.snapshot) false) l.n l.a
    (passing (paving_state l.paving l.snapshot) l.some)
    × HelpedIn a (paving_state l.paving l.snapshot) l.scratch

abbrev pub decreases-loop-a : goal.decreases-loop-a
decreases-loop-a l = l.n - l.a
