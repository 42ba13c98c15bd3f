-- `geometry::convex_ccw` meets its contract: a quad that lacks a left turn fails (`LeftTurns`).
use Rattle.std.proofs.Common.{sym, ◌∙◌}
use Rattle.std.proofs.lemmas.Bool.{not-false}
use Rattle.geometry.specs.Plane.{convex_ccw}
use Rattle.geometry.specs.LeftTurns.{corners_turn, quad_fails}
use Rattle.geometry.proofs.convex_ccw.Goals as goal
use Rattle.geometry.proofs.convex_ccw.Goals.{then-not-doubled_area, else-not-doubled_area}

pub returns-then-not-lacks_left_turn : goal.returns-then-not-lacks_left_turn
unfolding convex_ccw corners_turn
returns-then-not-lacks_left_turn c =
    elim c.if-not-doubled_area.branch [
      | then-not-doubled_area w ↦ rw (← c.doubled_area.ensures, w.if-not-doubled_area.true) c.corners_turn.ensures
      | else-not-doubled_area w ↦ let v = rw w.if-not-doubled_area.false at w.value-is in cc
    ]

pub returns-else-not-lacks_left_turn : goal.returns-else-not-lacks_left_turn
unfolding convex_ccw corners_turn
returns-else-not-lacks_left_turn c =
    elim c.if-not-doubled_area.branch [
      | then-not-doubled_area w ↦
          let lacks = not-false _ (sym w.value-is ∙ c.if-not-lacks_left_turn.false) in
          rw (c.if-not-lacks_left_turn.false, ← c.doubled_area.ensures, w.if-not-doubled_area.true) (sym (quad_fails _ (sym w.lacks_left_turn.ensures ∙ lacks)))
      | else-not-doubled_area w ↦ rw (c.if-not-lacks_left_turn.false, ← c.doubled_area.ensures, w.if-not-doubled_area.false)
    ]
