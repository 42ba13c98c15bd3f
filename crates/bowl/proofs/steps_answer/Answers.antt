-- `bowl::steps_answer` meets its contract: `answer_mesh`, `answer_places` and `answer_quads`.
use Rattle.std.proofs.Common.{◌≡◌, true, false, ℕ, Result, Ok, Err, refl, sym, ap, ◌∙◌}
use Rattle.std.proofs.Math.Path.{ap₂}
use Rattle.std.specs.Result.{is_err}
use Rattle.outline.specs.declared.Refusal.{Refusal}
use Rattle.outline.specs.Refusals.{refused}
use Rattle.outline.proofs.Refused.{refusal_some}
use Rattle.bowl.specs.declared.BowlStepsAnswer.{BowlStepsAnswer}
use Rattle.bowl.specs.Steps.{steps_given, hidden_answer}
use Rattle.front.specs.State.{State}
use Rattle.hand_mesh_check.specs.Check.{lent_in}
use Rattle.bowl.proofs.GivenLaws.{quads_within, answer_mesh, answer_places, answer_quads}
use Rattle.bowl.proofs.steps_answer.Goals as goal
use Rattle.bowl.proofs.steps_answer.Goals.{Start, then-is_err-via-then-is_err, then-is_err-via-else-is_err+then-places-lent}

-- the mesh as lent
abbrev lent : Start → State
lent c = lent_in c.args.lent.mesh c.args.lent.origins.now

abbrev steps_numbered : ℕ → ℕ → BowlStepsAnswer
steps_numbered m n = record { refusal = m; quad = n }

-- what `is_err` tells of a check
err_some : {A : Type 0} (r : Result A Refusal) → true ≡ is_err r → refused r ≡ 0 → ⊥
err_some (Ok a) e = cc
err_some (Err r) e = refusal_some r

ok_none : {A : Type 0} (r : Result A Refusal) → false ≡ is_err r → refused r ≡ 0
ok_none (Ok a) e = refl
ok_none (Err r) e = cc

-- an answer whose numbers are 0
given_is : (r : BowlStepsAnswer) → r.refusal ≡ 0 → r.quad ≡ 0 → r ≡ steps_given
given_is r e f = ap₂ (λ (m n : ℕ). steps_numbered m n) e f

pub returns-then-is_err : goal.returns-then-is_err
returns-then-is_err c =
    let s = lent (goal.at.returns-then-is_err c).Start in
    let r = c.check.result in
    rw (c.from.ensures, c.default.ensures.1)
    (elim c.then-is_err.branch [
      | then-is_err-via-then-is_err w ↦ answer_mesh s c.args.places _ c.check.ensures (err_some r w.if-is_err.ensures.value)
      | then-is_err-via-else-is_err+then-places-lent w ↦ answer_places s c.args.places _ c.check.ensures (ok_none r w.if-is_err.ensures.value) w.if-places-lent.true
    ])

pub lowest_hidden-requires : goal.lowest_hidden-requires
lowest_hidden-requires c =
    let m = c.args.lent.mesh in
    quads_within m.xs.now m.ys.now m.next.now m.prev.now c.args.lent.origins.now m.quads.now m.edges.now m.counts c.requires.0 c.requires.1
    (sym c.check.ensures ∙ ok_none c.check.result c.if-is_err.ensures.value)

pub returns-in-Some : goal.returns-in-Some
returns-in-Some c =
    rw c.from-in-Some.ensures
    (ap hidden_answer (sym c.in-Some.is) ∙ c.lowest_hidden.ensures
    ∙ answer_quads (lent (goal.at.returns-in-Some c).Start) c.args.places _ c.check.ensures (ok_none c.check.result c.if-is_err.ensures.value) c.if-places-lent.false)

pub returns-in-None : goal.returns-in-None
returns-in-None c =
    given_is c.default-in-None.result c.default-in-None.ensures.0 c.default-in-None.ensures.1
    ∙ (ap hidden_answer (sym c.in-None.is) ∙ c.lowest_hidden.ensures
    ∙ answer_quads (lent (goal.at.returns-in-None c).Start) c.args.places _ c.check.ensures (ok_none c.check.result c.if-is_err.ensures.value) c.if-places-lent.false)
