-- What the calls of an entry give makes what it promises. Assumes nothing.
use Rattle.std.specs.Prelude.{Bool, List, Result, Ok, Err, ◌≢◌, length, Float}
use Rattle.std.proofs.Math.Bool.{true, false, cond}
use Rattle.std.proofs.Math.Path.{◌≡◌, refl, ap}
use Rattle.std.proofs.Common.{sym, ◌∙◌, arith}
use Prim.Native.Nat.{ℕ, zero, suc, ◌/◌, ◌≤◌}
use Rattle.std.proofs.Math.Dec.{eqb}
use borrow.Author.Tests.{ne_eqb, eqb-true}
use Rattle.outline.specs.Outline.{Outline, first_of, outline_refusal}
use Rattle.outline.specs.Accepted.{OutlineFits, first_zero}
use Rattle.field_direction.specs.Record.{FieldRecord}
use Rattle.field_direction.specs.Direction.{record_refusal}
use Rattle.field_direction.proofs.RecordLaws.{record_lent_lem}
use Rattle.field_cross.specs.Grid.{bounds, size_refusal, bounds_refusal}
use Rattle.field_cross.specs.Field.{drawn_refusal}
use Rattle.front.specs.declared.Counts.{Counts}
use Rattle.front.specs.State.{State}
use Rattle.hand_mesh_check.specs.Check.{lent_state}
use Rattle.hand_steps.specs.declared.StepOutcome.{StepOutcome}
use Rattle.hand_steps.specs.Hand.{hand_refusal, Handled, place_on, step_on, step_answer, StepTaken}
use Rattle.hand_steps.specs.Lent.{Around, OnFront}
use Rattle.hand_steps.proofs.UseBase.{on_front_lem, front_room}
use Rattle.hand_steps.proofs.StepLaws.{origins_same}
use Rattle.hand_previews.specs.declared.View.{View}
use Rattle.hand_previews.specs.Preview.{preview_refusal, view_on, preview_answer, preview_list, PreviewTaken}
use Rattle.hand_previews.proofs.PreviewSteps.{preview_passes}
use Rattle.hand_step_answers.specs.declared.StepAnswer.{StepAnswer}
use Rattle.hand_step_answers.specs.declared.PreviewAnswer.{PreviewAnswer}
use Rattle.hand_step_answers.specs.Answers.{refused_step, done_step, refused_preview, step_numbers, view_numbers, preview_numbers}
use Rattle.hand_step_entries.specs.Entries.{given_refusal, step_refusal, sight_refusal, step_reply, step_left, counts_given, HostSteps, copy_numbers, preview_reply, preview_left, HostPreviews}
use Rattle.hand_step_entries.proofs.ViewLaws.{view_is}

-- ---- 1 to 7 and 11

module _ (o : Outline) (size : Float) (field : FieldRecord) where
  module _ {r : ℕ} (e : r ≡ drawn_refusal o size) where
    pub given_drawn : r ≢ 0 → r ≡ given_refusal o size field
    unfolding given_refusal
    given_drawn h = rw (← e) (first r (record_refusal field) h)
      where
        first : (r q : ℕ) → r ≢ 0 → r ≡ first_of r q
        first zero q h = absurd (h refl)
        first (suc r) q h = refl

    pub given_record : r ≡ 0 → {q : ℕ} → q ≡ record_refusal field → q ≡ given_refusal o size field
    unfolding given_refusal
    given_record z f = rw (← e, z) f

  -- what isn't refused is what the code asks for
  pub given_around : OutlineFits o → given_refusal o size field ≡ 0 → Around o field.grid field.lists.values
  unfolding given_refusal drawn_refusal
  given_around doubles e =
      let halves = first_zero (first_of (outline_refusal o) (first_of (size_refusal size) (bounds_refusal (bounds o)))) (record_refusal field) e in
      record { taken = (first_zero (outline_refusal o) _ halves.0).0; fits = doubles; field = record_lent_lem field halves.1 }

-- ---- a step

module _ (o : Outline) (size : Float) (field : FieldRecord) (a b : ℕ) (s : State) (before : List ℕ) {r : ℕ} (e : r ≡ given_refusal o size field) where
  pub host_refused : r ≢ 0 → HostSteps o size field a b s before (refused_step r) s before
  unfolding step_reply step_left step_refusal
  host_refused h =
      let stays : step_refusal o size field a b s ≡ r = ap (λ (x : ℕ). first_of x (hand_refusal s a b)) (sym e) ∙ first r (hand_refusal s a b) h in
      record {
        answer = rw (stays, ne_eqb r 0 h);
        state = rw (stays, ne_eqb r 0 h);
        origins = rw (stays, ne_eqb r 0 h) (origins_same a s.counts.nodes before);
      }
    where
      first : (r q : ℕ) → r ≢ 0 → first_of r q ≡ r
      first zero q h = absurd (h refl)
      first (suc r) q h = refl

  -- where nothing of it is refused, it is the step of a sequence
  pub host_stepped : r ≡ 0 → (w : Result StepOutcome ℕ) (t : State) (after : List ℕ) → StepTaken o size field a b s before w t after
      → HostSteps o size field a b s before (step_numbers w t.counts) t after
  unfolding step_reply step_left step_refusal step_answer step_on
  host_stepped z w t after T =
      record {
        answer = rw (sym e ∙ z) (by (eqb (hand_refusal s a b) 0) w t T.answer T.state);
        state = rw (sym e ∙ z) T.state;
        origins = rw (sym e ∙ z) T.origins;
      }
    where
      h : Handled
      h = place_on o size field a b s

      by : (done : Bool) (w : Result StepOutcome ℕ) (t : State) → w ≡ cond done (Ok h.outcome) (Err (hand_refusal s a b)) → t ≡ cond done h.state s
          → step_numbers w t.counts ≡ cond done (done_step h.outcome h.state.counts) (refused_step (hand_refusal s a b))
      by true w t e f = rw (e, f) refl
      by false w t e f = rw e refl

-- the counts that a host reads off the answer
pub counts_read : (o : Outline) (size : Float) (field : FieldRecord) (a b : ℕ) (s : State) (before : List ℕ) (w : Result StepOutcome ℕ) (t : State) (after : List ℕ)
    → StepTaken o size field a b s before w t after → t.counts ≡ counts_given s.counts (step_numbers w t.counts)
unfolding step_answer step_on
counts_read o size field a b s before w t after T = by (eqb (hand_refusal s a b) 0) refl w t T.answer T.state
  where
    h : Handled
    h = place_on o size field a b s

    by : (done : Bool) → eqb (hand_refusal s a b) 0 ≡ done → (w : Result StepOutcome ℕ) (t : State)
        → w ≡ cond done (Ok h.outcome) (Err (hand_refusal s a b)) → t ≡ cond done h.state s → t.counts ≡ counts_given s.counts (step_numbers w t.counts)
    by true z w t e f = rw e refl
    by false z w t e f = rw (e, z) (ap (λ (u : State). u.counts) f)

-- the same over the lists as they are lent and left, with the counts that the answer gives
module _ (o : Outline) (size : Float) (field : FieldRecord) (a b : ℕ) (xs ys : List Float) (next prev origins quads edges : List ℕ) (k : Counts)
    {n : ℕ} (e : n ≡ given_refusal o size field) (r : StepAnswer) where
  abbrev lent : State
  lent = lent_state xs ys next prev origins quads edges k

  pub step_lists_refused : n ≢ 0 → r ≡ refused_step n
      → HostSteps o size field a b lent origins r (lent_state xs ys next prev origins quads edges (counts_given k r)) origins
  step_lists_refused h q = rw (q, ne_eqb n 0 h) (host_refused o size field a b lent origins e h)

  pub lists_stepped : n ≡ 0 → (w : Result StepOutcome ℕ) (xs' ys' : List Float) (next' prev' after quads' edges' : List ℕ) (m : Counts)
      → StepTaken o size field a b lent origins w (lent_state xs' ys' next' prev' after quads' edges' m) after → r ≡ step_numbers w m
      → HostSteps o size field a b lent origins r (lent_state xs' ys' next' prev' after quads' edges' (counts_given k r)) after
  lists_stepped z w xs' ys' next' prev' after quads' edges' m T q =
      rw (q, ← counts_read o size field a b lent origins w _ after T) (host_stepped o size field a b lent origins e z w _ after T)

-- ---- a preview

module _ (o : Outline) (size : Float) (field : FieldRecord) (a b : ℕ) (s : State) (before : List ℕ) {r : ℕ} (e : r ≡ given_refusal o size field) where
  pub sight_refused : r ≢ 0 → HostPreviews o size field a b s before (refused_preview r) before
  unfolding preview_reply preview_left sight_refusal
  sight_refused h =
      let q = preview_refusal s (length before / 2) a b in
      let stays : sight_refusal o size field a b s before ≡ r = ap (λ (x : ℕ). first_of x q) (sym e) ∙ first r q h in
      record { answer = rw (stays, ne_eqb r 0 h); list = rw (stays, ne_eqb r 0 h) }
    where
      first : (r q : ℕ) → r ≢ 0 → first_of r q ≡ r
      first zero q h = absurd (h refl)
      first (suc r) q h = refl

  module _ (z : r ≡ 0) (w : Result View ℕ) (after : List ℕ) (T : PreviewTaken o size field a b s before w after) where
    pub list_is : after ≡ preview_left o size field a b s before
    unfolding preview_left sight_refusal preview_list
    list_is = rw (sym e ∙ z) T.list

    pub sight_mesh : {n : ℕ} → w ≡ Err n → HostPreviews o size field a b s before (refused_preview n) after
    unfolding preview_reply sight_refusal preview_answer
    sight_mesh {n} q =
        let m = preview_refusal s (length before / 2) a b in
        record { answer = rw (sym e ∙ z) (by m (eqb m 0) (sym q ∙ T.answer)); list = list_is }
      where
        h : Handled
        h = place_on o size field a b s

        by : (m : ℕ) (passes : Bool) → Err n ≡ cond passes (Ok (view_on o size field a b s)) (Err m)
            → refused_preview n ≡ cond passes (copy_numbers s h.outcome h.state) (refused_preview m)
        by m true e = absurd (let z : ◌≡◌ {A = ℕ} 0 1 = cc in omega arith)
        by m false e = let p : n ≡ m = cc in ap refused_preview p

    -- what is shown isn't refused
    pub shown_passes : {v : View} → w ≡ Ok v → (preview_refusal s (length before / 2) a b ≡ 0) × (v ≡ view_on o size field a b s)
    unfolding preview_answer
    shown_passes {v} q =
        let m = preview_refusal s (length before / 2) a b in by m (eqb m 0) refl (sym q ∙ T.answer)
      where
        by : (m : ℕ) (passes : Bool) → eqb m 0 ≡ passes → Ok v ≡ cond passes (Ok (view_on o size field a b s)) (Err m)
            → (m ≡ 0) × (v ≡ view_on o size field a b s)
        by m true z e = (eqb-true m 0 z, cc)
        by m false z e = absurd (let z : ◌≡◌ {A = ℕ} 0 1 = cc in omega arith)

-- the same over the lists as they are lent
module _ (o : Outline) (size : Float) (field : FieldRecord) (a b : ℕ) (xs ys : List Float) (next prev origins quads edges : List ℕ) (k : Counts)
    (before : List ℕ) {n : ℕ} (e : n ≡ given_refusal o size field) (z : n ≡ 0) (w : Result View ℕ) (after : List ℕ)
    (T : PreviewTaken o size field a b (lent_state xs ys next prev origins quads edges k) before w after) {v : View} (q : w ≡ Ok v) where
  abbrev seen : State
  seen = lent_state xs ys next prev origins quads edges k

  on : OnFront seen a b
  on = on_front_lem seen a b (preview_passes seen (length before / 2) a b (shown_passes o size field a b seen before e z w after T q).0).0

  -- what is shown has nodes that can be numbered
  pub shown_few : k.nodes ≤ 4294967294
  shown_few = (front_room xs ys next prev origins quads edges k a b on).nodes.few

  pub sight_shown : (r : PreviewAnswer) → r ≡ view_numbers v k.nodes a b → HostPreviews o size field a b seen before r after
  unfolding preview_reply sight_refusal
  sight_shown r p =
      let P = shown_passes o size field a b seen before e z w after T q in
      let same = view_is xs ys next prev origins quads edges k a b on o size field in
      record {
        answer = rw (sym e ∙ z, P.0) (p ∙ (ap (λ (x : View). view_numbers x k.nodes a b) P.1 ∙ same));
        list = list_is o size field a b seen before e z w after T;
      }

-- refused or shown, the answer's numbers are what the entry promises
module _ (o : Outline) (size : Float) (field : FieldRecord) (a b : ℕ) (xs ys : List Float) (next prev origins quads edges : List ℕ) (k : Counts)
    (before : List ℕ) {n : ℕ} (e : n ≡ given_refusal o size field) (z : n ≡ 0) (w : Result View ℕ) (after : List ℕ)
    (T : PreviewTaken o size field a b (lent_state xs ys next prev origins quads edges k) before w after) where
  pub sight_answered : (r : PreviewAnswer) → r ≡ preview_numbers w k.nodes a b
      → HostPreviews o size field a b (lent_state xs ys next prev origins quads edges k) before r after
  sight_answered r p = by w refl
    where
      by : (x : Result View ℕ) → w ≡ x → HostPreviews o size field a b (lent_state xs ys next prev origins quads edges k) before r after
      by (Err m) q = rw (p, q) (sight_mesh o size field a b (lent_state xs ys next prev origins quads edges k) before e z w after T q)
      by (Ok v) q =
          sight_shown o size field a b xs ys next prev origins quads edges k before e z w after T q r
          (p ∙ ap (λ (x : Result View ℕ). preview_numbers x k.nodes a b) q)
