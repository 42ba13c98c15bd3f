-- What holds of the definitions of specs/Accepted.antt.
use Rattle.std.specs.Prelude.{ℕ, suc, ◌<◌, ◌≡◌, refl, Bool, true, false, cond, List, length, ◌-◌, ◌≤◌, not, ◌&&◌, ◌||◌, ◌⊎◌, get_or, eqb, ltb, leb}
use Rattle.std.proofs.Common.{◌∙◌, ap, ⊎_elim, eq-or-lt_of_le, le_of_suc-le-suc, arith, sym, true≢false, eqb-true, eq-eqb, ne_eqb, ltb-true, ltb-false, lt-ltb, leb-false}
use Rattle.laws.specs.Loop.{go, out, Kept, run_keeps_at, any_up, any_found, any_none, any_false}
use Rattle.order.specs.declared.OrderAnswer.{OrderAnswer}
use Rattle.order.specs.Order.{too_early, order_accepted, early_at, early_turn, first_early, is_step, lays, lays_for, needs, first_place, is_wrong, is_absent, names_each_once, waits_for, not_once, order_of, order_answer, placing_order}
use Rattle.std.proofs.lemmas.Bool.{eqb-false, lt-leb, not-true, not-false}
use Rattle.laws.specs.Tests.{both, neither, and_both, or_cases, or_left, or_right}
use Rattle.laws.specs.Tabulate.{tabulate_length, tabulate_at}
use Rattle.front_lent_mesh.specs.declared.QuadIds.{QuadIds}
use Rattle.front_lent_mesh.specs.Mesh.{quad_count_of, quad_in}
use Rattle.order.proofs.PlaceBase.{place_le, place_found, place_first}
use Rattle.order.proofs.PlaceLaws.{placing_early}
use Rattle.order.specs.Accepted.{SameStep, Lays, laid_bd, laid_dc, laid_ca, Uses, used_ab, used_bd, used_ca, LaidFor, EachOnce, Respects, Means, is_accepted, is_not_once, is_early_lem}

-- ---- the first of them

-- what the search for the first answers
pub data Searched (quads : List ℕ) (n : ℕ) (order : List ℕ) (r : OrderAnswer) : Type 0 where
  none_early : r ≡ order_accepted → ((p : ℕ) → p < length order → too_early quads n order p ≡ false) → Searched quads n order r
  some_early : (p : ℕ) → r ≡ early_at p → p < length order → too_early quads n order p ≡ true → ((q : ℕ) → q < p → too_early quads n order q ≡ false)
      → Searched quads n order r

pub first_searched : (quads : List ℕ) (n : ℕ) (order : List ℕ) → Searched quads n order (first_early quads n order)
unfolding first_early
first_searched quads n order =
    run_keeps_at (λ i s. (p : ℕ) → p < i → too_early quads n order p ≡ false) (Searched quads n order) (length order) (early_turn quads n order)
    (λ s. order_accepted) tt (λ p h. absurd (omega arith)) (λ i s h below. next i s h below (too_early quads n order i) refl) (λ s all. none_early refl all)
  where
    next : (i : ℕ) (s : Unit {0}) → i < length order → ((p : ℕ) → p < i → too_early quads n order p ≡ false) → (b : Bool) → too_early quads n order i ≡ b
        → Kept (λ t. (p : ℕ) → p < suc i → too_early quads n order p ≡ false) (Searched quads n order) (cond b (out (early_at i)) (go s))
    next i s h below true e = some_early i refl h e below
    next i s h below false e =
        λ p less. ⊎_elim (λ same. ap (too_early quads n order) same ∙ e) (below p) (eq-or-lt_of_le (le_of_suc-le-suc less))

-- ---- the tests say so

same_step : (u v x y : ℕ) → is_step u v x y ≡ true → SameStep u v x y
same_step u v x y e = let h = both (eqb u x) (eqb v y) e in record { from = eqb-true u x h.0; to = eqb-true v y h.1 }

step_same : (u v x y : ℕ) → SameStep u v x y → is_step u v x y ≡ true
step_same u v x y s = and_both (eqb u x) (eqb v y) (eq-eqb u x s.from) (eq-eqb v y s.to)

lays_says : (p : QuadIds) (u v : ℕ) → lays p u v ≡ true → Lays p u v
unfolding lays
lays_says p u v e =
    ⊎_elim (λ f. laid_bd (same_step _ _ _ _ f))
    (λ f. ⊎_elim (λ g. laid_dc (same_step _ _ _ _ g)) (λ g. laid_ca (same_step _ _ _ _ g)) (or_cases (is_step v u p.d p.c) _ f))
    (or_cases (is_step v u p.b p.d) _ e)

says_lays : (p : QuadIds) (u v : ℕ) → Lays p u v → lays p u v ≡ true
unfolding lays
says_lays p u v (laid_bd s) = or_left _ _ (step_same _ _ _ _ s)
says_lays p u v (laid_dc s) = or_right (is_step v u p.b p.d) (or_left _ _ (step_same _ _ _ _ s))
says_lays p u v (laid_ca s) = or_right (is_step v u p.b p.d) (or_right (is_step v u p.d p.c) (step_same _ _ _ _ s))

needs_says : (quads : List ℕ) (j i : ℕ) → needs quads j i ≡ true → LaidFor quads j i
unfolding needs lays_for
needs_says quads j i e =
    let h = both (ltb i j) (lays_for (quad_in quads i) (quad_in quads j)) e in
    let p = quad_in quads i in
    let q = quad_in quads j in
    let less = ltb-true i j h.0 in
    ⊎_elim
    (λ f. record { u = q.a; v = q.b; before = less; laid = lays_says p _ _ f; used = used_ab (record { from = refl; to = refl }) })
    (λ f.
    ⊎_elim
    (λ g. record { u = q.b; v = q.d; before = less; laid = lays_says p _ _ g; used = used_bd (record { from = refl; to = refl }) })
    (λ g. record { u = q.c; v = q.a; before = less; laid = lays_says p _ _ g; used = used_ca (record { from = refl; to = refl }) })
    (or_cases (lays p q.b q.d) _ f))
    (or_cases (lays p q.a q.b) _ h.1)

pub says_needs : (quads : List ℕ) (j i : ℕ) → LaidFor quads j i → needs quads j i ≡ true
unfolding needs lays_for
says_needs quads j i L = and_both _ _ (lt-ltb i j L.before) (by L.u L.v (says_lays p _ _ L.laid) L.used)
  where
    p : QuadIds
    p = quad_in quads i

    q : QuadIds
    q = quad_in quads j

    by : (u v : ℕ) → lays p u v ≡ true → Uses q u v → lays p q.a q.b || (lays p q.b q.d || lays p q.c q.a) ≡ true
    by u v l (used_ab s) = or_left (lays p q.a q.b) _ (rw (← s.from, ← s.to) l)
    by u v l (used_bd s) = or_right (lays p q.a q.b) (or_left (lays p q.b q.d) _ (rw (← s.from, ← s.to) l))
    by u v l (used_ca s) = or_right (lays p q.a q.b) (or_right (lays p q.b q.d) (rw (← s.from, ← s.to) l))

-- ---- every quad stands once

place_own : {n : ℕ} {order : List ℕ} → EachOnce n order → (p : ℕ) → p < length order → first_place order (get_or order p 0) ≡ p
place_own {n} {order} E p h =
    let x = get_or order p 0 in
    let first = place_first order x p h refl in
    E.once (first_place order x) p (omega arith) h (place_found order x (omega arith))

each_says : (n : ℕ) (order : List ℕ) → names_each_once n order ≡ true → EachOnce n order
unfolding names_each_once
each_says n order e =
    record {
      known = λ p h. leb-false n (get_or order p 0) (right p h).0;
      once = λ p q hp hq same. sym (own p hp) ∙ ap (first_place order) same ∙ own q hq;
      present = λ i h. (first_place order i, stands i h, place_found order i (stands i h));
    }
  where
    parts : (not (any_up (length order) (is_wrong n order)) ≡ true) × (not (any_up n (is_absent order)) ≡ true)
    parts = both (not (any_up (length order) (is_wrong n order))) (not (any_up n (is_absent order))) e

    right : (p : ℕ) → p < length order → (leb n (get_or order p 0) ≡ false) × (not (eqb (first_place order (get_or order p 0)) p) ≡ false)
    right p h =
        neither (leb n (get_or order p 0)) (not (eqb (first_place order (get_or order p 0)) p))
        (any_none (is_wrong n order) (length order) (not-true _ parts.0) p h)

    own : (p : ℕ) → p < length order → first_place order (get_or order p 0) ≡ p
    own p h = eqb-true (first_place order (get_or order p 0)) p (not-false _ (right p h).1)

    stands : (i : ℕ) → i < n → first_place order i < length order
    stands i h =
        let other = eqb-false (first_place order i) (length order) (any_none (is_absent order) n (not-true _ parts.1) i h) in
        less (place_le order i) other
      where
        less : {a b : ℕ} → a ≤ b → (a ≡ b → ⊥) → a < b
        less {a} {b} le ne = omega (arith, le, ne)

says_each : (n : ℕ) (order : List ℕ) → EachOnce n order → names_each_once n order ≡ true
unfolding names_each_once
says_each n order E =
    and_both (not (any_up (length order) (is_wrong n order))) (not (any_up n (is_absent order)))
    (ap not (any_false (is_wrong n order) (length order) right)) (ap not (any_false (is_absent order) n stands))
  where
    right : (p : ℕ) → p < length order → is_wrong n order p ≡ false
    right p h = rw (lt-leb n (get_or order p 0) (E.known p h), eq-eqb (first_place order (get_or order p 0)) p (place_own E p h))

    stands : (i : ℕ) → i < n → is_absent order i ≡ false
    stands i h =
        let P = E.present i h in
        let first = place_first order i P.0 P.1 P.2 in
        ne_eqb (first_place order i) (length order) (λ e. omega (arith, e, first, P.1))

-- ---- and none too early

early_says : (quads : List ℕ) (n : ℕ) (order : List ℕ) → EachOnce n order
    → ((p : ℕ) → p < length order → too_early quads n order p ≡ false) → Respects quads n order
unfolding too_early
early_says quads n order E none = record { each = E; after = after }
  where
    after : (p q : ℕ) → p < length order → q < length order → LaidFor quads (get_or order p 0) (get_or order q 0) → q < p
    after p q hp hq L = by (ltb p q) refl
      where
        no : needs quads (get_or order p 0) (get_or order q 0) && ltb p (first_place order (get_or order q 0)) ≡ false
        no = any_none (waits_for quads order p (get_or order p 0)) n (none p hp) (get_or order q 0) (E.known q hq)

        no_later : ltb p q ≡ false
        no_later = rw (says_needs quads (get_or order p 0) (get_or order q 0) L, place_own E q hq) at no

        other : p ≡ q → ⊥
        other e = omega (arith, L.before, ap (λ (k : ℕ). get_or order k 0) e)

        less : {a b : ℕ} → a ≤ b → (b ≡ a → ⊥) → a < b
        less {a} {b} le ne = omega (arith, le, ne)

        by : (b : Bool) → ltb p q ≡ b → q < p
        by true e = absurd (true≢false (sym e ∙ no_later))
        by false e = less (ltb-false p q e) other

says_early : (quads : List ℕ) (n : ℕ) (order : List ℕ) → Respects quads n order → (p : ℕ) → p < length order → too_early quads n order p ≡ false
unfolding too_early
says_early quads n order R p hp = any_false (waits_for quads order p (get_or order p 0)) n (λ i h. by i h (waits_for quads order p (get_or order p 0) i) refl)
  where
    by : (i : ℕ) → i < n → (b : Bool) → waits_for quads order p (get_or order p 0) i ≡ b → b ≡ false
    by i h false e = refl
    by i h true e =
        let g = both (needs quads (get_or order p 0) i) (ltb p (first_place order i)) e in
        let P = R.each.present i h in
        let first = place_first order i P.0 P.1 P.2 in
        let stands : first_place order i < length order = omega (arith, first, P.1) in
        let here = place_found order i stands in
        let L : LaidFor quads (get_or order p 0) (get_or order (first_place order i) 0) = rw here (needs_says quads (get_or order p 0) i g.0) in
        absurd (omega (arith, R.after p (first_place order i) hp stands L, ltb-true p (first_place order i) g.1))

-- a quad that stands too early: one that laid an edge which it used up stands later
pub early_waits : (quads : List ℕ) (n : ℕ) (order : List ℕ) → EachOnce n order → (p : ℕ) → too_early quads n order p ≡ true
    → (q : ℕ) × (q < length order) × (p < q) × LaidFor quads (get_or order p 0) (get_or order q 0)
unfolding too_early
early_waits quads n order E p e =
    let f = any_found (waits_for quads order p (get_or order p 0)) n e in
    let i = f.0 in
    let g = both (needs quads (get_or order p 0) i) (ltb p (first_place order i)) f.2 in
    let P = E.present i f.1 in
    let first = place_first order i P.0 P.1 P.2 in
    let stands : first_place order i < length order = omega (arith, first, P.1) in
    let L : LaidFor quads (get_or order p 0) (get_or order (first_place order i) 0) =
    rw (place_found order i stands) (needs_says quads (get_or order p 0) i g.0) in
    (first_place order i, stands, ltb-true p (first_place order i) g.1, L)

-- ---- THE STATEMENTS

pub order_means : (quads : List ℕ) (n : ℕ) (order : List ℕ) → Means quads n order (order_of quads n order)
unfolding order_of
order_means quads n order = by (names_each_once n order) refl
  where
    found : EachOnce n order → Searched quads n order (first_early quads n order) → Means quads n order (first_early quads n order)
    found E (none_early e none) = is_accepted e (early_says quads n order E none)
    found E (some_early p e h t below) = is_early_lem p e E h t below

    by : (b : Bool) → names_each_once n order ≡ b → Means quads n order (cond b (first_early quads n order) not_once)
    by true e = found (each_says n order e) (first_searched quads n order)
    by false e = is_not_once refl (λ E. true≢false (sym (says_each n order E) ∙ e))

refusal_of_lem : {r s : OrderAnswer} → r ≡ s → r.refusal ≡ s.refusal
refusal_of_lem e = ap (λ (t : OrderAnswer). t.refusal) e

-- accepted exactly if every quad stands once, and each after those that laid a front edge which it used up
pub accepted_respects : (quads : List ℕ) (n : ℕ) (order : List ℕ) → order_of quads n order ≡ order_accepted → Respects quads n order
accepted_respects quads n order e = by (order_means quads n order)
  where
    by : Means quads n order (order_of quads n order) → Respects quads n order
    by (is_accepted f R) = R
    by (is_not_once f never) = absurd (omega (arith, refusal_of_lem (sym f ∙ e)))
    by (is_early_lem p f E h t below) = absurd (omega (arith, refusal_of_lem (sym f ∙ e)))

pub respects_accepted : (quads : List ℕ) (n : ℕ) (order : List ℕ) → Respects quads n order → order_of quads n order ≡ order_accepted
respects_accepted quads n order R = by (order_means quads n order)
  where
    by : Means quads n order (order_of quads n order) → order_of quads n order ≡ order_accepted
    by (is_accepted f S) = f
    by (is_not_once f never) = absurd (never R.each)
    by (is_early_lem p f E h t below) = absurd (true≢false (sym t ∙ says_early quads n order R p h))

pub accepted_iff : (count : ℕ) (quads order : List ℕ)
    → (order_answer count quads order ≡ order_accepted → Respects quads (quad_count_of count quads) order)
    × (Respects quads (quad_count_of count quads) order → order_answer count quads order ≡ order_accepted)
unfolding order_answer
accepted_iff count quads order =
    (accepted_respects quads (quad_count_of count quads) order, respects_accepted quads (quad_count_of count quads) order)

-- the order of placing names each quad once, and is accepted
pub placing_once : (n : ℕ) → names_each_once n (placing_order n) ≡ true
placing_once n =
    says_each n (placing_order n)
    (record {
      known = λ p h. let less = small p h in omega (arith, tabulate_at n (λ i. i) p 0 less);
      once = λ p q hp hq e. sym (tabulate_at n (λ i. i) p 0 (small p hp)) ∙ e ∙ tabulate_at n (λ i. i) q 0 (small q hq);
      present = λ i h. (i, omega (arith, tabulate_length n (λ (k : ℕ). k)), tabulate_at n (λ k. k) i 0 h);
    })
  where
    small : (p : ℕ) → p < length (placing_order n) → p < n
    small p h = omega (arith, tabulate_length n (λ (k : ℕ). k))

pub placing_accepted : (quads : List ℕ) (n : ℕ) → order_of quads n (placing_order n) ≡ order_accepted
unfolding order_of
placing_accepted quads n = rw (placing_once n) (by (first_searched quads n (placing_order n)))
  where
    by : Searched quads n (placing_order n) (first_early quads n (placing_order n)) → first_early quads n (placing_order n) ≡ order_accepted
    by (none_early e none) = e
    by (some_early p e h t below) =
        absurd (true≢false (sym t ∙ placing_early quads n p (omega (arith, tabulate_length n (λ (k : ℕ). k)))))

pub placing_answer : (count : ℕ) (quads : List ℕ) → order_answer count quads (placing_order (quad_count_of count quads)) ≡ order_accepted
unfolding order_answer
placing_answer count quads = placing_accepted quads (quad_count_of count quads)
