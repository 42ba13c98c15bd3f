-- Laws of the outline: where a hole's points stand in the holes' list, and what an outline that refusal 1 lets through has. Assumes nothing.
use Rattle.std.specs.Prelude.{Bool, true, false, List, ◌≡◌, refl, ℕ, zero, suc, ◌+◌, ◌-◌, ◌*◌, ◌/◌, ◌%◌, ◌≤◌, ◌<◌, eqb, length, take, drop, Float}
use Rattle.std.proofs.Common.{sym, ap, ◌∙◌, le_antisymm, add-one, arith, ltb-false, eqb-true, eq-eqb, ne_eqb}
use Rattle.std.proofs.lemmas.Bool.{eqb-false, not-false}
use Rattle.laws.specs.Loop.{for_up, sum_up}
use Rattle.laws.specs.Tests.{neither}
use Rattle.outline.specs.Outline.{Outline, hole_length, hole_start, hole_at, loop_at, points, most_points, misshapen, LoopPlace}

-- ---- the points before a hole

pub start_first : (lens : List ℕ) → hole_start lens 0 ≡ 0
unfolding hole_start sum_up for_up
start_first lens = refl

pub start_next : (lens : List ℕ) (k : ℕ) → hole_start lens (k + 1) ≡ hole_start lens k + hole_length lens k
unfolding hole_start sum_up for_up
start_next lens k = rw add-one refl

pub start_grows : (lens : List ℕ) (k m : ℕ) → hole_start lens k ≤ hole_start lens (k + m)
start_grows lens k zero = omega (arith, ap (hole_start lens) (plus_zero k))
  where
    plus_zero : (k : ℕ) → k + zero ≡ k
    plus_zero k = omega arith
start_grows lens k (suc m) =
    omega (arith, start_grows lens k m, start_next lens (k + m), ap (hole_start lens) (plus_suc k m))
  where
    plus_suc : (k m : ℕ) → k + suc m ≡ (k + m) + 1
    plus_suc k m = omega arith

-- the points before hole n, where hole k stands before it
pub start_over : (lens : List ℕ) (k n : ℕ) → k < n → hole_start lens k + hole_length lens k ≤ hole_start lens n
start_over lens k n h =
    omega (arith, start_next lens k, start_grows lens (k + 1) (n - (k + 1)), ap (hole_start lens) (rest k n h))
  where
    rest : (k n : ℕ) → k < n → (k + 1) + (n - (k + 1)) ≡ n
    rest k n h = omega arith

-- ---- an outline that refusal 1 lets through

-- no list of odd length, lengths that add up, not too many points
pub record Shaped (o : Outline) : Type 0 where
  pub outer_even : 2 * points o.outer ≡ length o.outer
  pub holes_even : 2 * points o.holes ≡ length o.holes
  pub sum : hole_start o.lens (length o.lens) ≡ points o.holes
  pub few : points o.outer + points o.holes ≤ most_points

abbrev even : (n : ℕ) → eqb (n % 2) 1 ≡ false → 2 * (n / 2) ≡ n
even n e = let h = eqb-false (n % 2) 1 e in two n h
  where
    two : (n : ℕ) → (n % 2 ≡ 1 → ⊥) → 2 * (n / 2) ≡ n
    two n h = omega arith

pub shaped : (o : Outline) → misshapen o ≡ false → Shaped o
unfolding misshapen
shaped o e =
    let a = neither _ _ e in
    let b = neither _ _ a.1 in
    let d = neither _ _ b.1 in
    record {
      outer_even = even (length o.outer) a.0;
      holes_even = even (length o.holes) b.0;
      sum = eqb-true _ _ (not-false _ d.0);
      few = ltb-false _ _ d.1;
    }

-- ---- a loop's place

-- loop k + 1's coordinates as the part that the code takes of the holes' list, which has few enough floats that no place overflows
pub record HolePart (o : Outline) (k start : ℕ) : Type 0 where
  pub ends : 2 * start + 2 * hole_length o.lens (k - 1) ≤ length o.holes
  pub few : length o.holes ≤ 2 * most_points
  pub same : take (2 * start + 2 * hole_length o.lens (k - 1) - 2 * start) (drop (2 * start) o.holes) ≡ loop_at o k

-- the points handed out: loop 0 is the outer one, and loop k + 1 is hole k
pub outer_points : (o : Outline) {s : List Float} → s ≡ loop_at o 0 → s ≡ o.outer
unfolding loop_at
outer_points o e = e

pub hole_points : (o : Outline) (k : ℕ) {s : List Float} → s ≡ loop_at o (k + 1) → s ≡ hole_at o k
unfolding loop_at
hole_points o k e = e ∙ rw add-one refl

pub outer_place : (o : Outline) → misshapen o ≡ false → LoopPlace o 0 0
outer_place o e = record { shape = e; within = omega arith; at = refl }

-- a loop over the holes: k of them are passed, with `start` points
pub record HolesPassed (o : Outline) (k start : ℕ) : Type 0 where
  pub shape : misshapen o ≡ false
  pub at : start ≡ hole_start o.lens k

-- ---- lengths taken off a total

-- k lengths have been taken off, and `left` is left
pub record LengthsLeft (lens : List ℕ) (total left k : ℕ) : Type 0 where
  pub within : k ≤ length lens
  pub sum : left + hole_start lens k ≡ total

pub lengths_start : (lens : List ℕ) (total : ℕ) → LengthsLeft lens total total 0
lengths_start lens total = record { within = omega arith; sum = omega (arith, start_first lens) }

pub lengths_next : {lens : List ℕ} {total left k : ℕ} → LengthsLeft lens total left k → k < length lens → hole_length lens k ≤ left
    → LengthsLeft lens total (left - hole_length lens k) (k + 1)
lengths_next {lens} {total} {left} {k} l h e = record { within = omega arith; sum = omega (arith, start_next lens k) }

-- a length above what is left: the lengths add up to more
pub lengths_short : {lens : List ℕ} {total left k : ℕ} → LengthsLeft lens total left k → k < length lens → left < hole_length lens k
    → false ≡ eqb (hole_start lens (length lens)) total
lengths_short {lens} {total} {left} {k} l h e =
    let over = start_over lens k (length lens) h in
    sym (ne_eqb (hole_start lens (length lens)) total (λ same. omega arith))

pub lengths_end : {lens : List ℕ} {total left k : ℕ} → LengthsLeft lens total left k → length lens ≤ k
    → eqb left 0 ≡ eqb (hole_start lens (length lens)) total
lengths_end {lens} {total} {left} {k} l h =
    decide (eqb left 0) refl (omega (arith, ap (hole_start lens) (le_antisymm l.within h)))
  where
    decide : (b : Bool) → eqb left 0 ≡ b → left + hole_start lens (length lens) ≡ total → eqb left 0 ≡ eqb (hole_start lens (length lens)) total
    decide true e s = let z = eqb-true left 0 e in e ∙ sym (eq-eqb (hole_start lens (length lens)) total (omega arith))
    decide false e s = let z = eqb-false left 0 e in e ∙ sym (ne_eqb (hole_start lens (length lens)) total (λ same. omega (arith, z)))
