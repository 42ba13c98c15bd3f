-- `hand_stepping::step` meets its contract.
use mathlib.Core.Path.{refl, sym, ap, ◌∙◌, ◌≡◌}
use Rattle.std.specs.Prelude.{Err}
use Rattle.std.proofs.lemmas.Grind.{common_steps}
use mathlib.Core.List.{List, []}
use Prim.Native.Nat.{ℕ}
use native.Mathlib.Omega.{arith}
use Rattle.outline.specs.Outline.{Outline, outline_of}
use Rattle.outline.proofs.Refused.{refusal_some}
use Rattle.field_direction.specs.Record.{FieldRecord, field_lent}
use Rattle.front.specs.State.{State, node_places}
use Rattle.hand_mesh_check.specs.Check.{lent_in, lent_paving}
use Rattle.hand_mesh_check.specs.CheckLaws.{length_off}
use Rattle.hand_steps.specs.Hand.{Handled, hand_refusal}
use Rattle.hand_steps.proofs.UseBase.{on_front_lem, front_room}
use Rattle.hand_steps.proofs.UseLaws.{place_grown}
use Rattle.hand_steps.proofs.StepLaws.{step_refused, step_done}
use Rattle.hand_stepping.proofs.Lent.{lent_same}
use Rattle.hand_stepping.proofs.step.Goals as goal
use Rattle.hand_stepping.proofs.step.Goals.{Start, After-check_hand}

-- the outline, the field and the state as they are lent
abbrev around : Start → Outline
around s = outline_of s.args.around.now.domain

abbrev field : Start → List ℕ → FieldRecord
field s marks = field_lent s.args.around.now.field marks

abbrev lent : Start → State
lent s = lent_paving s.args.paving.now s.args.origins.now

-- 23 and 24 are those of the state
refusal_is : (c : After-check_hand) → hand_refusal (lent_in c.mesh-mesh.result c.args.origins.now) c.args.a c.args.b ≡ hand_refusal (lent_paving c.args.paving.now c.args.origins.now) c.args.a c.args.b
refusal_is c = ap (λ (s : State). hand_refusal s c.args.a c.args.b) (lent_same c.mesh-mesh.result c.args.paving.now c.mesh-mesh.ensures c.args.origins.now)

pub returns-in_err-check_hand-clause-taken : goal.returns-in_err-check_hand-clause-taken
returns-in_err-check_hand-clause-taken c =
    let s = (goal.at.returns-in_err-check_hand-clause-taken c).Start in
    let refusal = c.in_err-check_hand.field-0.0 in
    let passed_on : c.from_residual.result ≡ Err refusal = grind (arith, common_steps) in
    λ marks.
    rw passed_on
    (step_refused (around s) c.args.around.now.size (field s marks) c.args.a c.args.b _ _ _ _ _ _ _ c.args.paving.now.counts
    (c.in_err-check_hand.ensures ∙ refusal_is (goal.at.returns-in_err-check_hand-clause-taken c).After-check_hand) (refusal_some refusal))

pub place_on-outcome-requires : goal.place_on-outcome-requires
place_on-outcome-requires c = (
  c.requires,
  on_front_lem (lent (goal.at.place_on-outcome-requires c).Start) c.args.a c.args.b
      (sym (c.in_ok-check_hand.ensures ∙ refusal_is (goal.at.place_on-outcome-requires c).After-check_hand)),
)

pub number_new-requires : goal.number_new-requires
unfolding node_places
number_new-requires c =
    let s = (goal.at.number_new-requires c).Start in
    let z = sym (c.in_ok-check_hand.ensures ∙ refusal_is (goal.at.number_new-requires c).After-check_hand) in
    let S = on_front_lem (lent s) c.args.a c.args.b z in
    let R = front_room _ _ _ _ _ _ _ c.args.paving.now.counts c.args.a c.args.b S in
    let G = place_grown (around s) c.args.around.now.size (field s []) (lent s) c.args.a c.args.b S in
    let m = ap (λ (h : Handled). h.state.counts.nodes) (c.place_on-outcome.ensures.placed []) in
    (omega (arith, S.id_a, R.nodes.origins_fit), omega (arith, m, G.0), omega (arith, m, G.1, length_off c.args.origins.now))

pub returns-clause-taken : goal.returns-clause-taken
returns-clause-taken c =
    let s = (goal.at.returns-clause-taken c).Start in
    λ marks.
    step_done (around s) c.args.around.now.size (field s marks) c.args.a c.args.b _ _ _ _ _ _ _ c.args.paving.now.counts
    (c.in_ok-check_hand.ensures ∙ refusal_is (goal.at.returns-clause-taken c).After-check_hand) refl
    _ _ _ _ _ _ _ _ (c.place_on-outcome.ensures.placed marks) _ c.number_new.ensures
