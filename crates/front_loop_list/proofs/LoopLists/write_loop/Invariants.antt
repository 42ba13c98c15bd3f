-- `write_loop` meets its contract: the loop's invariant is `Walking`, and each answer is a law of it. The measure is what is left of the walk.
use Rattle.std.specs.Prelude.{◌≡◌, ◌+◌, ◌-◌, length}
use Rattle.front_loop_list.specs.Listed.{SameLoopLists}
use Rattle.front_loop_list.specs.Walked.{walk_in, Walking}
use Rattle.front_loop_list.proofs.LoopLists.write_loop.Given as goal

abbrev pub invariant-loop-u : goal.invariant-loop-u
invariant-loop-u l =
    let p = l.initial.self in
    Walking l.next p.marks.now p.loops.now l.start p.listed.ids l.self.marks.now l.self.loops.now l.u l.i
    × SameLoopLists p l.self × (l.self.lengths.now ≡ p.lengths.now) × (l.self.listed ≡ p.listed)

abbrev pub decreases-loop-u : goal.decreases-loop-u
decreases-loop-u l = l.initial.self.listed.ids + length (walk_in l.next l.start) - l.i
