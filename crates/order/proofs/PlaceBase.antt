-- Laws of places, and that nothing stands too early in the order of placing, whatever the quads.
use Rattle.std.specs.Prelude.{ℕ, zero, suc, ◌+◌, ◌≤◌, ◌<◌, ◌≡◌, refl, Bool, true, false, cond, List, [], ◌∷◌, length, get_or, drop, eqb}
use Rattle.std.proofs.Common.{le_of_suc-le-suc, add-one, arith, drop-cons, eqb-true, eq-eqb}
use Rattle.std.proofs.Math.Seq.{drop-length}
use Rattle.order.specs.Order.{first_place}

-- ---- the place of i

-- the list from k on
pub place_step : (l : List ℕ) (i k : ℕ) → k < length l → first_place (drop k l) i ≡ cond (eqb (get_or l k 0) i) 0 (suc (first_place (drop (k + 1) l) i))
unfolding first_place
place_step l i k h = rw (add-one, drop-cons l k 0 h)

pub place_end : (l : List ℕ) (i k : ℕ) → k ≡ length l → first_place (drop k l) i ≡ 0
unfolding first_place
place_end l i k e = rw (e, drop-length l)

-- the search from k on, where i didn't stand before
pub record Seek (l : List ℕ) (i k : ℕ) : Type 0 where
  pub within : k ≤ length l
  pub same : k + first_place (drop k l) i ≡ first_place l i

pub seek_start : (l : List ℕ) (i : ℕ) → Seek l i 0
seek_start l i = record { within = omega arith; same = omega arith }

pub seek_end : (l : List ℕ) (i k : ℕ) → Seek l i k → length l ≤ k → k ≡ first_place l i
seek_end l i k s h = omega (arith, s.same, place_end l i k (omega (arith, s.within)))

-- the first place is one, and no earlier one is
pub place_le : (l : List ℕ) (i : ℕ) → first_place l i ≤ length l
unfolding first_place
place_le [] i = omega arith
place_le (x ∷ l) i = by (place_le l i) (eqb x i)
  where
    by : first_place l i ≤ length l → (b : Bool) → cond b 0 (suc (first_place l i)) ≤ suc (length l)
    by later true = omega arith
    by later false = omega arith

pub place_found : (l : List ℕ) (i : ℕ) → first_place l i < length l → get_or l (first_place l i) 0 ≡ i
unfolding first_place
place_found [] i h = absurd (omega arith)
place_found (x ∷ l) i h = by (place_found l i) (eqb x i) refl
  where
    by : (first_place l i < length l → get_or l (first_place l i) 0 ≡ i) → (b : Bool) → eqb x i ≡ b
        → get_or (x ∷ l) (cond (eqb x i) 0 (suc (first_place l i))) 0 ≡ i
    by later true q = rw q (eqb-true x i q)
    by later false q = rw q (later (le_of_suc-le-suc (rw q at h)))

pub place_first : (l : List ℕ) (i p : ℕ) → p < length l → get_or l p 0 ≡ i → first_place l i ≤ p
unfolding first_place
place_first [] i p h e = absurd (omega arith)
place_first (x ∷ l) i zero h e = rw (eq-eqb x i e) (omega arith)
place_first (x ∷ l) i (suc p) h e = by (place_first l i p (omega arith) e) (eqb x i)
  where
    by : first_place l i ≤ p → (b : Bool) → cond b 0 (suc (first_place l i)) ≤ suc p
    by later true = omega arith
    by later false = omega arith
