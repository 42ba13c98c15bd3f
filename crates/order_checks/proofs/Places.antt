-- What holds of the definitions of specs/Places.antt.
use Rattle.std.specs.Prelude.{ℕ, suc, ◌+◌, ◌-◌, ◌≤◌, ◌<◌, ◌≡◌, refl, Bool, true, false, List, length, get_or, set, drop, eqb}
use Rattle.std.proofs.Common.{sym, ◌∙◌, ap, arith, length-set, get_or-set_same, get_or-set_other, eqb-true}
use Rattle.std.proofs.lemmas.Bool.{eqb-false}
use Rattle.order.specs.Order.{first_place}
use Rattle.order.proofs.PlaceBase.{place_step, place_end}
use Rattle.order_checks.specs.Places.{FirstPlaces}

-- the same of the list from p on, where the first p entries are not yet looked at
pub record Filled (places order : List ℕ) (p : ℕ) : Type 0 where
  pub within : p ≤ length order
  pub at : (i : ℕ) → i < length places → get_or places i 0 ≡ p + first_place (drop p order) i

-- the first k places have x
pub record Emptied (places : List ℕ) (x k : ℕ) : Type 0 where
  pub within : k ≤ length places
  pub at : (i : ℕ) → i < k → get_or places i 0 ≡ x

-- ---- laws

pub emptied_next : (places : List ℕ) (x k : ℕ) → Emptied places x k → k < length places → Emptied (set places k x) x (k + 1)
emptied_next places x k E h =
    record { within = rw length-set (omega arith); at = λ i less. by i less (eqb i k) refl }
  where
    by : (i : ℕ) → i < k + 1 → (b : Bool) → eqb i k ≡ b → get_or (set places k x) i 0 ≡ x
    by i less true e = rw (eqb-true i k e) (get_or-set_same places k x 0 h)
    by i less false e =
        get_or-set_other places k i x 0 (eqb-false i k e) ∙ E.at i (under (eqb-false i k e) less)
      where
        under : {a b : ℕ} → (a ≡ b → ⊥) → a < b + 1 → a < b
        under {a} {b} ne l = omega (arith, ne, l)

-- nothing is looked at yet
pub filled_none : (places order : List ℕ) → Emptied places (length order) (length places) → Filled places order (length order)
filled_none places order E =
    record { within = omega arith; at = λ i h. E.at i h ∙ omega (arith, place_end order i (length order) refl) }

pub filled_start : (places order : List ℕ) (k : ℕ) → Emptied places (length order) k → length places ≤ k → Filled places order (length order - 0)
filled_start places order k E past =
    let same : length order - 0 ≡ length order = omega arith in
    rw same
    (record {
      within = omega arith;
      at = λ i h. E.at i (omega arith) ∙ omega (arith, place_end order i (length order) refl);
    })

pub emptied_end : {places : List ℕ} {x k : ℕ} → Emptied places x k → length places ≤ k → Emptied places x (length places)
emptied_end E past = record { within = omega arith; at = λ i h. E.at i (omega arith) }

-- one entry more, at q, before those that are filled
pub filled_next : (places order : List ℕ) (p q : ℕ) → Filled places order p → p ≡ q + 1 → Filled (set places (get_or order q 0) q) order q
filled_next places order p q F e = record { within = omega (arith, F.within); at = λ i h. by i (rw length-set at h) (eqb x i) refl }
  where
    x : ℕ
    x = get_or order q 0

    less : q < length order
    less = omega (arith, F.within)

    by : (i : ℕ) → i < length places → (b : Bool) → eqb x i ≡ b → get_or (set places x q) i 0 ≡ q + first_place (drop q order) i
    by i h true f =
        let here : first_place (drop q order) i ≡ 0 = rw f at (place_step order i q less) in
        rw (eqb-true x i f) (get_or-set_same places i q 0 h ∙ omega arith)
    by i h false f =
        let later : first_place (drop q order) i ≡ suc (first_place (drop (q + 1) order) i) = rw f at (place_step order i q less) in
        let was = F.at i h in
        let now' : get_or places i 0 ≡ q + 1 + first_place (drop (q + 1) order) i = rw e at was in
        get_or-set_other places x i q 0 (λ same. eqb-false x i f (sym same)) ∙ omega arith

-- of n entries all but the first n - k are filled; one more is
pub filled_put : {places next order : List ℕ} {n k q x : ℕ} → Filled places order (n - k) → k < n → q ≡ n - 1 - k → x ≡ get_or order q 0
    → next ≡ set places x q → Filled next order (n - (k + 1))
filled_put {places} {next} {order} {n} {k} {q} {x} F less e f g =
    let same : n - (k + 1) ≡ q = omega arith in
    rw (same, g, f) (filled_next places order (n - k) q F (omega arith))

pub filled_end : {places order : List ℕ} {p : ℕ} → Filled places order p → p ≤ 0 → FirstPlaces places order
filled_end {places} {order} {p} F none = record { at = λ i h. F.at i h ∙ ap (λ (k : ℕ). k + first_place (drop k order) i) p_zero ∙ omega arith }
  where
    p_zero : p ≡ 0
    p_zero = omega arith
