-- `hand_previews::preview` meets its contract.
use mathlib.Core.Path.{refl, sym, ◌≡◌}
use Rattle.std.specs.Prelude.{Err}
use Rattle.std.proofs.lemmas.Grind.{common_steps}
use mathlib.Core.List.{List, []}
use Prim.Native.Nat.{ℕ}
use native.Mathlib.Omega.{arith}
use Rattle.outline.specs.Outline.{Outline, outline_of}
use Rattle.outline.proofs.Refused.{refusal_some}
use Rattle.field_direction.specs.Record.{FieldRecord, field_lent}
use Rattle.front.specs.State.{State}
use Rattle.hand_mesh_check.specs.Check.{lent_in}
use Rattle.hand_steps.proofs.UseBase.{on_front_lem, front_room}
use Rattle.hand_previews.proofs.PreviewSteps.{preview_passes, shown, shown_known, shown_fits, preview_refused, preview_shown}
use Rattle.hand_previews.proofs.preview.Goals as goal
use Rattle.hand_previews.proofs.preview.Goals.{Start}

-- the outline, the field and the state as they are lent
abbrev around : Start → Outline
around s = outline_of s.args.around.now.domain

abbrev field : Start → List ℕ → FieldRecord
field s marks = field_lent s.args.around.now.field marks

abbrev lent : Start → State
lent s = lent_in s.args.lent.mesh s.args.lent.origins.now

pub returns-in_err-check_preview : goal.returns-in_err-check_preview
returns-in_err-check_preview c =
    let s = (goal.at.returns-in_err-check_preview c).Start in
    let refusal = c.in_err-check_preview.field-0.0 in
    let passed_on : c.from_residual.result ≡ Err refusal = grind (arith, common_steps) in
    λ marks.
    rw passed_on
    (preview_refused (around s) c.args.around.now.size (field s marks) c.args.a c.args.b (lent s) _ c.in_err-check_preview.ensures (refusal_some refusal))

pub foresee_on-foreseen-requires : goal.foresee_on-foreseen-requires
foresee_on-foreseen-requires c =
    let s = (goal.at.foresee_on-foreseen-requires c).Start in (
      c.requires,
      on_front_lem (lent s) c.args.a c.args.b (preview_passes (lent s) _ _ _ (sym c.in_ok-check_preview.ensures)).0,
    )

pub invariant_of-links : goal.invariant_of-links
invariant_of-links c =
    let s = (goal.at.invariant_of-links c).Start in
    let k = c.args.lent.mesh.counts in
    let S = on_front_lem (lent s) c.args.a c.args.b (preview_passes (lent s) _ _ _ (sym c.in_ok-check_preview.ensures)).0 in
    let R = front_room _ _ _ _ _ _ _ k c.args.a c.args.b S in
    let w = c.foresee_on-foreseen in
    let H = shown _ _ _ _ _ _ _ k c.args.a c.args.b S (around s) c.args.around.now.size (field s []) w.result (w.ensures []) in
    let Q = shown_known _ _ _ _ _ _ _ k c.args.a c.args.b S (around s) c.args.around.now.size (field s []) w.result (w.ensures []) in
    record { fit = (R.nodes.next_fit, R.nodes.few, H.few); known = Q }

pub list_front-front-requires : goal.list_front-front-requires
list_front-front-requires c =
    let s = (goal.at.list_front-front-requires c).Start in
    let k = c.args.lent.mesh.counts in
    let P = preview_passes (lent s) _ _ _ (sym c.in_ok-check_preview.ensures) in
    let S = on_front_lem (lent s) c.args.a c.args.b P.0 in
    let w = c.foresee_on-foreseen in
    let F = shown_fits _ _ _ _ _ _ _ k c.args.a c.args.b S (around s) c.args.around.now.size (field s []) w.result (w.ensures []) _ P.1 in
    omega (arith, F)

pub returns : goal.returns
returns c =
    let s = (goal.at.returns c).Start in
    let z = sym c.in_ok-check_preview.ensures in
    let S = on_front_lem (lent s) c.args.a c.args.b (preview_passes (lent s) _ _ _ z).0 in
    λ marks.
    preview_shown _ _ _ _ _ _ _ c.args.lent.mesh.counts c.args.a c.args.b S (around s) c.args.around.now.size (field s marks) _
    c.in_ok-check_preview.ensures refl
    c.foresee_on-foreseen.result (c.foresee_on-foreseen.ensures marks) _ _ c.list_front-front.ensures
