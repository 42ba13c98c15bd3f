-- What holds of the definitions of proofs/OutlineBase.antt.
use Rattle.std.specs.Prelude.{Bool, false, List, ◌≡◌, refl, ℕ, zero, suc, ◌+◌, ◌-◌, ◌*◌, ◌≤◌, ◌<◌, length, Float}
use Rattle.std.specs.Float.{nan}
use Rattle.std.specs.List.{list_any}
use Rattle.std.proofs.Common.{sym, ap, add-one, arith}
use Rattle.laws.proofs.Lists.{any_list}
use Rattle.outline.specs.Outline.{Outline, hole_length, hole_at, loop_at, any_float, most_points, misshapen, LoopPlace}
use Rattle.outline.proofs.OutlineBase.{start_first, start_next, start_over, shaped, HolePart, HolesPassed}

-- ---- a loop's place

pub hole_part : {o : Outline} {start : ℕ} (k : ℕ) → LoopPlace o k start → (k ≡ 0 → ⊥) → HolePart o k start
unfolding loop_at hole_at
hole_part zero l h = absurd (h refl)
hole_part {o} {start} (suc k) l h =
    let s = shaped o l.shape in
    let over = start_over o.lens k (length o.lens) l.within in
    let len = ap (hole_length o.lens) (last k) in
    record {
      ends = omega (arith, l.at, len);
      few = omega arith;
      same = rw (len, taken (2 * start) (2 * hole_length o.lens k), l.at) refl;
    }
  where
    last : (k : ℕ) → suc k - 1 ≡ k
    last k = omega arith

    taken : (a b : ℕ) → a + b - a ≡ b
    taken a b = omega arith

module _ {o : Outline} where
  pub passed_none : misshapen o ≡ false → HolesPassed o 0 0
  passed_none e = record { shape = e; at = sym (start_first o.lens) }

  module _ {k start : ℕ} (p : HolesPassed o k start) (h : k < length o.lens) where
    pub passed_next : HolesPassed o (k + 1) (start + hole_length o.lens k)
    passed_next = record { shape = p.shape; at = omega (arith, p.at, start_next o.lens k) }

    pub passed_place : LoopPlace o (k + 1) start
    passed_place = record { shape = p.shape; within = omega arith; at = rw add-one p.at }

    pub passed_few : start + hole_length o.lens k ≤ most_points
    passed_few =
        let s = shaped o p.shape in
        omega (arith, p.at, start_over o.lens k (length o.lens) h)

-- ---- the floats of a list

pub list_any_float : (test : Float → Bool) (s : List Float) → list_any test s ≡ any_float test s
unfolding any_float
list_any_float test s = any_list test nan s
