-- `Segment::folds_back` meets its contract: `folds_x`, `folds_y`, `folds_none`.
use Rattle.std.proofs.Common.{arith, sym, ◌∙◌}
use Rattle.std.proofs.lemmas.Grind.{common_steps}
use Rattle.outline_orientation.specs.Orient.{is_level}
use Rattle.outline_soundness.specs.AcceptedLoops.{accepted_within}
use Rattle.outline_soundness.proofs.SegmentLaws.{folds_x, folds_y, folds_none}
use Rattle.outline_soundness.proofs.Segment.folds_back.Goals as goal
use Rattle.outline_soundness.proofs.Segment.folds_back.Goals.{then-is_extreme, else-is_extreme}

pub is_extreme-requires : goal.is_extreme-requires
is_extreme-requires c =
    let s = c.args.self in
    ((accepted_within s.start).x, (accepted_within s.end).x, (accepted_within c.args.next.end).x)

pub is_extreme-requires-else-is_extreme : goal.is_extreme-requires-else-is_extreme
is_extreme-requires-else-is_extreme c =
    let s = c.args.self in
    ((accepted_within s.start).y, (accepted_within s.end).y, (accepted_within c.args.next.end).y)

pub side-requires : goal.side-requires
side-requires c = let s = c.args.self in (accepted_within s.start, accepted_within s.end, accepted_within c.args.next.end)

pub returns-then-is_extreme-2 : goal.returns-then-is_extreme-2
returns-then-is_extreme-2 c =
    c.is_eq.ensures ∙ is_level _
    ∙ elim c.if-is_extreme.branch [
      | then-is_extreme w ↦ folds_x _ _ _ c.is_extreme.ensures w.if-is_extreme.true c.side.ensures
      | else-is_extreme w ↦ folds_y _ _ _ c.is_extreme.ensures w.if-is_extreme.false w.is_extreme-else-is_extreme.ensures (sym w.value-is ∙ c.if-is_extreme-2.true) c.side.ensures
    ]

pub returns-else-is_extreme-2 : goal.returns-else-is_extreme-2
returns-else-is_extreme-2 c =
    elim c.if-is_extreme.branch [
      | then-is_extreme w ↦ grind (arith, common_steps)
      | else-is_extreme w ↦ c.if-is_extreme-2.false ∙ folds_none _ _ _ c.is_extreme.ensures w.if-is_extreme.false w.is_extreme-else-is_extreme.ensures (sym w.value-is ∙ c.if-is_extreme-2.false)
    ]
