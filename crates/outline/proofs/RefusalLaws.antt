-- Laws of the refusals: the first number that is not 0 is the answer. Assumes nothing.
use Rattle.std.specs.Prelude.{◌≡◌, refl, ℕ, zero, suc, ◌+◌, ◌≤◌, ◌<◌, length}
use Rattle.std.proofs.Math.Path.{sym}
use Rattle.std.proofs.Common.{◌∙◌, subst, arith}
use Rattle.laws.specs.Loop.{for_up, Loop, loop_start_lem, loop_next, loop_end, for_up_stays}
use Rattle.outline.specs.Outline.{Outline, hole_at, first_of, loop_refusal, hole_refusal, loops_refusal}
use Rattle.outline.specs.Queries.{answer_by}

-- a refusal stays whatever follows
pub first_stays : (r next : ℕ) → (r ≡ 0 → ⊥) → first_of r next ≡ r
first_stays zero next h = absurd (h refl)
first_stays (suc n) next h = refl

-- ---- refusals 2 and 3, loop by loop

module _ (o : Outline) where
  -- the invariant of a loop over the holes that has found no refusal
  abbrev pub Unrefused : ℕ → Type 0
  Unrefused k = Loop (hole_refusal o) (loop_refusal o.outer) (length o.lens) k 0

  pub unrefused_start : loop_refusal o.outer ≡ 0 → Unrefused 0
  unrefused_start e =
      subst (Loop (hole_refusal o) (loop_refusal o.outer) (length o.lens) 0) e (loop_start_lem (hole_refusal o) (loop_refusal o.outer) (length o.lens))

  pub unrefused_next : {k : ℕ} → Unrefused k → k < length o.lens → loop_refusal (hole_at o k) ≡ 0 → Unrefused (k + 1)
  unrefused_next {k} l h e =
      subst (Loop (hole_refusal o) (loop_refusal o.outer) (length o.lens) (k + 1)) e (loop_next (hole_refusal o) (loop_refusal o.outer) l h)

  pub unrefused_end : {k : ℕ} → Unrefused k → length o.lens ≤ k → 0 ≡ loops_refusal o
  unfolding loops_refusal
  unrefused_end l h = loop_end (hole_refusal o) (loop_refusal o.outer) l h

  -- the outer loop is refused, or hole k is and none before it
  pub outer_refused : (r : ℕ) → loop_refusal o.outer ≡ r → (r ≡ 0 → ⊥) → r ≡ loops_refusal o
  unfolding loops_refusal for_up
  outer_refused r e h =
      sym (for_up_stays (length o.lens) 0 (hole_refusal o) (loop_refusal o.outer) r (omega arith) e (λ j. first_stays r (loop_refusal (hole_at o j)) h))

  pub hole_refused : {k : ℕ} (r : ℕ) → Unrefused k → k < length o.lens → loop_refusal (hole_at o k) ≡ r → (r ≡ 0 → ⊥) → r ≡ loops_refusal o
  unfolding loops_refusal
  hole_refused {k} r l i e h =
      let next = loop_next (hole_refusal o) (loop_refusal o.outer) l i in
      sym
      (for_up_stays (length o.lens) (k + 1) (hole_refusal o) (loop_refusal o.outer) r next.within (sym next.same ∙ e)
      (λ j. first_stays r (loop_refusal (hole_at o j)) h))

-- ---- an answer

module _ {A : Type 0} (refused : ℕ → A) (answer : A) where
  pub answer_refused : (r : ℕ) → (r ≡ 0 → ⊥) → answer_by refused answer r ≡ refused r
  answer_refused zero h = absurd (h refl)
  answer_refused (suc n) h = refl
