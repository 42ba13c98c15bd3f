-- Laws of the figures: what a change at one node does to a sum over the quads, and how large the figures can be.
use Prim.Native.Nat.{ℕ, zero, suc, ◌+◌, ◌≤◌, ◌<◌}
use Rattle.std.specs.Prelude.{◌≡◌, Bool, ◌||◌, List, length, ltb, leb}
use Rattle.std.proofs.Math.Path.{refl}
use Rattle.std.proofs.Common.{sym, ◌∙◌, leb-false, leb-true, ltb-false, ltb-true}
use Rattle.std.proofs.Math.Bool.{true, false, cond}
use native.Mathlib.Omega.{arith}
use Rattle.laws.specs.Loop.{sum_up}
use Rattle.laws.proofs.Sums.{sum_zero, sum_suc, sum_most, sum_below}
use Rattle.laws.specs.Tests.{neither, both}
use Rattle.front_lent_mesh.specs.declared.QuadIds.{QuadIds}
use Rattle.front_lent_mesh.specs.Mesh.{Mesh, quad_of}
use Rattle.exam_thresholds.specs.Figures.{most_threshold, threshold_at, stands, is_complete}
use Rattle.exam_thresholds.specs.Figures.{count_at, count_afresh, names, share_at, share_of, moved, is_missing, refusal_at}

-- ---- sums and shares

module _ (m : Mesh) (id : ℕ) where
  pub share_at_most : (f : ℕ → ℕ) (k : ℕ) → share_at m id f k ≤ f k
  unfolding share_at
  share_at_most f k = by (names (quad_of m k) id)
    where
      by : (b : Bool) → cond b (f k) 0 ≤ f k
      by true = omega arith
      by false = omega arith

  -- a share is at most the whole
  pub share_le : (f : ℕ → ℕ) → share_of m id f ≤ sum_up m.quads f
  unfolding share_of
  share_le f = sum_below m.quads (share_at m id f) f (share_at_most f)

  share_sums : (f h : ℕ → ℕ) → ((k : ℕ) → names (quad_of m k) id ≡ false → f k ≡ h k)
      → (n : ℕ) → sum_up n h + sum_up n (share_at m id f) ≡ sum_up n f + sum_up n (share_at m id h)
  unfolding share_at
  share_sums f h same zero = omega (arith, sum_zero f, sum_zero h, sum_zero (share_at m id f), sum_zero (share_at m id h))
  share_sums f h same (suc n) =
      rw (sum_suc h n, sum_suc f n, sum_suc (share_at m id f) n, sum_suc (share_at m id h) n)
      (by (names (quad_of m n) id) refl (share_sums f h same n))
    where
      by : (b : Bool) → names (quad_of m n) id ≡ b → sum_up n h + sum_up n (share_at m id f) ≡ sum_up n f + sum_up n (share_at m id h)
          → (sum_up n h + h n) + (sum_up n (share_at m id f) + cond (names (quad_of m n) id) (f n) 0)
          ≡ (sum_up n f + f n) + (sum_up n (share_at m id h) + cond (names (quad_of m n) id) (h n) 0)
      by true e p = rw e (omega (arith, p))
      by false e p = rw e (omega (arith, p, same n e))

  -- two sums that differ only at quads that name id differ by their shares
  pub share_law : (f h : ℕ → ℕ) → ((k : ℕ) → names (quad_of m k) id ≡ false → f k ≡ h k)
      → sum_up m.quads h + share_of m id f ≡ sum_up m.quads f + share_of m id h
  unfolding share_of
  share_law f h same = share_sums f h same m.quads

-- ---- how large

-- a threshold that stands
pub stands_means : (n : ℕ) (t : List ℕ) (id : ℕ) → stands n t id ≡ true → (id < n) × (threshold_at t id ≤ most_threshold)
unfolding stands
stands_means n t id e =
    let p = both (ltb id n) (leb (threshold_at t id) most_threshold) e in
    (ltb-true id n p.0, leb-true (threshold_at t id) most_threshold p.1)

pub record AllStand (n : ℕ) (t : List ℕ) (q : QuadIds) : Type 0 where
  pub a : (q.a < n) × (threshold_at t q.a ≤ most_threshold)
  pub b : (q.b < n) × (threshold_at t q.b ≤ most_threshold)
  pub d : (q.d < n) × (threshold_at t q.d ≤ most_threshold)
  pub c : (q.c < n) × (threshold_at t q.c ≤ most_threshold)

pub count_at_most : (m : Mesh) (t : List ℕ) (k : ℕ) → count_at m t k ≤ 1
unfolding count_at
count_at_most m t k = by (is_complete m.nodes t (quad_of m k))
  where
    by : (b : Bool) → cond b 1 0 ≤ 1
    by true = omega arith
    by false = omega arith

-- both figures fit 31 bits
pub count_small : (m : Mesh) (t : List ℕ) → m.quads ≤ 250000 → count_afresh m t ≤ 250000
unfolding count_afresh
count_small m t h = omega (arith, sum_most m.quads 1 (count_at m t) (count_at_most m t))

-- what is lost and won moves a figure to the new one
pub moved_is : (x y lost won : ℕ) → y + lost ≡ x + won → lost ≤ x → x < 4294967296 → y < 4294967296 → moved x lost won ≡ y
unfolding moved
moved_is x y lost won e h hx hy = omega (arith, e, h, hx, hy)

-- ---- what no refusal says

-- a call that isn't refused has a node with its place, and a threshold
pub record Taken (t : List ℕ) (id v : ℕ) : Type 0 where
  pub place : id < length t
  pub low : v ≤ most_threshold

pub taken : (n : ℕ) (t : List ℕ) (id v number r : ℕ) → 0 < number → r ≡ refusal_at n t id v number → r ≡ 0 → Taken t id v
unfolding refusal_at is_missing
taken n t id v number r some e none = by (leb n id || leb (length t) id) (ltb most_threshold v) refl refl (sym e ∙ none)
  where
    by : (a b : Bool) → leb n id || leb (length t) id ≡ a → ltb most_threshold v ≡ b → cond a 15 (cond b number 0) ≡ 0 → Taken t id v
    by true b ea eb z = absurd (omega (arith, z))
    by false true ea eb z = absurd (omega (arith, z, some))
    by false false ea eb z = record { place = leb-false (length t) id (neither (leb n id) (leb (length t) id) ea).1; low = ltb-false most_threshold v eb }
