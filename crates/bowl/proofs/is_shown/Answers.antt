-- `bowl::is_shown` meets its contract: `shown_is`.
use mathlib.Core.Bool.{◌&&◌}
use mathlib.Core.Path.{◌≡◌, sym, ◌∙◌}
use Rattle.laws.proofs.Chain.{passes, fails}
use Rattle.bowl.specs.Steps.{turns_left, is_shown}
use Rattle.bowl.specs.Stepped.{vector}
use Rattle.bowl.proofs.StepsLaws.{shown_is}
use Rattle.bowl.proofs.is_shown.Goals as goal
use Rattle.bowl.proofs.is_shown.Goals.{After-way-ca, then-is_left, else-is_left, then-is_left-2, else-is_left-2}

-- the four corners, from the ways answered
corners : (w4 : After-way-ca)
    →
    turns_left (vector w4.way-ca.result) (vector w4.way-ab.result)
    && (turns_left (vector w4.way-ab.result) (vector w4.way-bd.result)
    && (turns_left (vector w4.way-bd.result) (vector w4.way-dc.result) && turns_left (vector w4.way-dc.result) (vector w4.way-ca.result)))
    ≡ is_shown w4.args.mesh.now.xs.now w4.args.mesh.now.ys.now w4.args.q
corners w4 =
    shown_is _ _ _ _ _ _ _ _ _ _ _ _ _ _ w4.steps_at-a.ensures w4.steps_at-b.ensures w4.steps_at-d.ensures w4.steps_at-c.ensures
    w4.way-ab.ensures w4.way-bd.ensures w4.way-dc.ensures w4.way-ca.ensures

pub returns-then-is_left-3 : goal.returns-then-is_left-3
returns-then-is_left-3 c =
    elim c.if-is_left-2.branch [
      | then-is_left-2 w ↦ elim c.if-is_left.branch [
        | then-is_left v ↦
            passes (sym c.is_left.ensures ∙ v.if-is_left.true)
            (passes (sym v.is_left-then-is_left.ensures ∙ sym v.value-is ∙ w.if-is_left-2.true)
            (passes (sym w.is_left-then-is_left-2.ensures ∙ sym w.value-is ∙ c.if-is_left-3.true) c.is_left-then-is_left-3.ensures))
            ∙ corners (goal.at.returns-then-is_left-3 c).After-way-ca
        | else-is_left v ↦ cc
      ]
      | else-is_left-2 w ↦ cc
    ]

pub returns-else-is_left-3 : goal.returns-else-is_left-3
returns-else-is_left-3 c =
    c.if-is_left-3.false
    ∙ elim c.if-is_left-2.branch [
      | then-is_left-2 w ↦ elim c.if-is_left.branch [
        | then-is_left v ↦
            passes (sym c.is_left.ensures ∙ v.if-is_left.true)
            (passes (sym v.is_left-then-is_left.ensures ∙ sym v.value-is ∙ w.if-is_left-2.true)
            (fails _ (sym w.is_left-then-is_left-2.ensures ∙ sym w.value-is ∙ c.if-is_left-3.false)))
            ∙ corners (goal.at.returns-else-is_left-3 c).After-way-ca
        | else-is_left v ↦ cc
      ]
      | else-is_left-2 w ↦ elim c.if-is_left.branch [
        | then-is_left v ↦
            passes (sym c.is_left.ensures ∙ v.if-is_left.true) (fails _ (sym v.is_left-then-is_left.ensures ∙ sym v.value-is ∙ w.if-is_left-2.false))
            ∙ corners (goal.at.returns-else-is_left-3 c).After-way-ca
        | else-is_left v ↦ fails _ (sym c.is_left.ensures ∙ v.if-is_left.false) ∙ corners (goal.at.returns-else-is_left-3 c).After-way-ca
      ]
    ]
