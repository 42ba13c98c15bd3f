-- What holds of the definitions of specs/Accepted.antt.
use Rattle.std.specs.Prelude.{Bool, true, false, List, ◌≡◌, ℕ, ◌-◌, ◌≤◌, ◌<◌, ltb, length, get_or, Float}
use Rattle.std.proofs.Common.{inl, inr, ap, ◌∙◌, zero-le, le_antisymm, le_of_suc-le-suc, eq-or-lt_of_le, ltb-false}
use Rattle.std.proofs.lemmas.Bool.{not-false}
use Rattle.std.specs.Float.{nan}
use Rattle.laws.specs.Loop.{for_up_keeps, any_none}
use Rattle.laws.specs.Tests.{neither}
use Rattle.numbers.specs.Float.{is_finite}
use Rattle.outline.specs.Outline.{Outline, loop_at, points}
use Rattle.outline.specs.Outline.{any_float, not_finite, beyond}
use Rattle.outline.specs.Outline.{misshapen, loop_refusal, hole_refusal, loops_refusal, far_refusal, outline_refusal}
use Rattle.outline.specs.Accepted.{Accepted, cond_zero, first_zero, each}

-- ---- what is refused with no number

-- no loop is refused
loops_zero : (o : Outline) → loops_refusal o ≡ 0 → (k : ℕ) → k ≤ length o.lens → loop_refusal (loop_at o k) ≡ 0
unfolding loops_refusal loop_at
loops_zero o =
    for_up_keeps (λ n r. r ≡ 0 → (k : ℕ) → k ≤ n → loop_refusal (loop_at o k) ≡ 0) (length o.lens) (hole_refusal o) (loop_refusal o.outer)
    (λ e k h. ap (λ (j : ℕ). loop_refusal (loop_at o j)) (le_antisymm h zero-le) ∙ e)
    (λ n r l ih e k h. elim (eq-or-lt_of_le h) [
      | inl last ↦ ap (λ (j : ℕ). loop_refusal (loop_at o j)) last ∙ (first_zero r _ e).1
      | inr less ↦ ih (first_zero r _ e).0 k (le_of_suc-le-suc less)
    ])

-- no float of a list passes a test
no_float : (test : Float → Bool) (xs : List Float) → any_float test xs ≡ false → (i : ℕ) → i < length xs → test (get_or xs i nan) ≡ false
unfolding any_float
no_float test xs e i h = any_none (λ i. test (get_or xs i nan)) (length xs) e i h

loop_three : (s : List Float) → loop_refusal s ≡ 0 → 3 ≤ points s
unfolding loop_refusal
loop_three s e = ltb-false (points s) 3 (cond_zero (ltb (points s) 3) 1 _ e).0

loop_finite : (s : List Float) → loop_refusal s ≡ 0 → (i : ℕ) → i < length s → is_finite (get_or s i nan) ≡ true
unfolding loop_refusal
loop_finite s e i h = not-false _ (no_float not_finite s (cond_zero _ 2 0 (cond_zero (ltb (points s) 3) 1 _ e).1).0 i h)

pub accepted : (o : Outline) → outline_refusal o ≡ 0 → Accepted o
unfolding outline_refusal far_refusal
accepted o e =
    let a = cond_zero (misshapen o) 0 _ e in
    let b = first_zero (loops_refusal o) (far_refusal o) a.1 in
    let loops = loops_zero o b.0 in
    let c = neither (any_float beyond o.outer) (any_float beyond o.holes) (cond_zero _ 3 0 b.1).0 in
    record {
      shape = a.0;
      three = λ k h. loop_three (loop_at o k) (loops k h);
      finite = λ k i h. loop_finite (loop_at o k) (loops k h) i;
      near = λ k i h. each o (λ x. beyond x ≡ false) (no_float beyond o.outer c.0) (no_float beyond o.holes c.1) k i;
    }
