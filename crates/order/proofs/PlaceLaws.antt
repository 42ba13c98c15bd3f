-- What holds of the definitions of proofs/PlaceBase.antt.
use Rattle.std.specs.Prelude.{ℕ, ◌+◌, ◌<◌, ◌≡◌, refl, Bool, true, false, List, [], length, get_or, ltb}
use Rattle.std.proofs.Common.{sym, ◌∙◌, arith, eq-eqb, ne_eqb, ltb-true}
use Rattle.laws.specs.Loop.{any_false}
use Rattle.laws.specs.Tests.{both}
use Rattle.laws.specs.Tabulate.{tabulate_length, tabulate_at}
use Rattle.front_lent_mesh.specs.Mesh.{quad_in}
use Rattle.order.specs.Order.{lays_for, needs, first_place, waits_for, too_early, placing_order}
use Rattle.order.proofs.PlaceBase.{place_step, Seek, place_found, place_first}

-- ---- the place of i

pub seek_hit : (l : List ℕ) (i k : ℕ) → Seek l i k → k < length l → get_or l k 0 ≡ i → k ≡ first_place l i
seek_hit l i k s h e = omega (arith, s.same, rw (eq-eqb (get_or l k 0) i e) at (place_step l i k h))

pub seek_next : (l : List ℕ) (i k : ℕ) → Seek l i k → k < length l → (get_or l k 0 ≡ i → ⊥) → Seek l i (k + 1)
seek_next l i k s h e =
    record { within = omega arith; same = omega (arith, s.same, rw (ne_eqb (get_or l k 0) i e) at (place_step l i k h)) }

-- ---- the order of placing

-- each quad has its own number for a place
pub placing_at : (n i : ℕ) → i < n → first_place (placing_order n) i ≡ i
placing_at n i h =
    let all = tabulate_length n (λ (k : ℕ). k) in
    let first = place_first (placing_order n) i i (omega arith) (tabulate_at n (λ k. k) i 0 h) in
    let found = place_found (placing_order n) i (omega arith) in
    sym (tabulate_at n (λ k. k) (first_place (placing_order n) i) 0 (omega arith)) ∙ found

-- nothing stands too early in it
pub placing_early : (quads : List ℕ) (n p : ℕ) → p < n → too_early quads n (placing_order n) p ≡ false
unfolding too_early needs
placing_early quads n p h = any_false (waits_for quads order p (get_or order p 0)) n (λ i less. by i less (waits_for quads order p (get_or order p 0) i) refl)
  where
    order : List ℕ
    order = placing_order n

    by : (i : ℕ) → i < n → (b : Bool) → waits_for quads order p (get_or order p 0) i ≡ b → b ≡ false
    by i less false e = refl
    by i less true e =
        let g = both (needs quads (get_or order p 0) i) (ltb p (first_place order i)) e in
        let k = both (ltb i (get_or order p 0)) (lays_for (quad_in quads i) (quad_in quads (get_or order p 0))) g.0 in
        absurd (omega (
          arith,
          ltb-true i (get_or order p 0) k.0,
          tabulate_at n (λ k. k) p 0 h,
          ltb-true p (first_place order i) g.1,
          placing_at n i less,
        ))
