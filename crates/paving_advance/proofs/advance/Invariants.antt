-- `paving_advance::advance` meets its contract: the passes that are taken, and what the scratch has.
use Rattle.laws.specs.Loop.{Run}
use Rattle.front.specs.Lent.{paving_state, SameLists}
use Rattle.paving.specs.Advance.{passes_turn, all_used}
use Rattle.paving.specs.Lent.{outline_in, field_in, SameScratch}
use Rattle.paving_settling.specs.Searchable.{HelpedIn}
use Rattle.paving_advance.proofs.advance.Given as goal

abbrev pub invariant-loop : goal.invariant-loop
invariant-loop l =
    let a = l.around in
    SameLists l.initial.paving l.paving × SameScratch l.initial.scratch l.scratch
    × Run (passes_turn (outline_in a) a.size (field_in a)) all_used (paving_state l.initial.paving l.initial.snapshot) l.most l.counter
    (paving_state l.paving l.snapshot)
    × HelpedIn a (paving_state l.paving l.snapshot) l.scratch
