-- The three walks of a quad, and a scan from the first quad that has a step which isn't filed, answer what a scan of all quads answers.
use Rattle.std.specs.Prelude.{ℕ, ◌+◌, ◌*◌, ◌/◌, ◌%◌, ◌<◌, ◌≤◌, ◌≡◌, Bool, true, ◌&&◌, ◌||◌, cond, List, get_or, eqb, ltb}
use Rattle.std.proofs.Math.Path.{sym, ap}
use Rattle.std.proofs.Common.{◌∙◌, ⊎_elim, arith, eqb-true}
use Rattle.std.proofs.Math.Bool.{false}
use Rattle.laws.specs.Loop.{any_up, any_found, any_none, any_true, any_false, Unfound, found_before}
use Rattle.laws.specs.Tests.{both, neither, and_both, or_cases, or_left, or_right, same_truth}
use Rattle.index_key_rects.specs.Rects.{Meets}
use Rattle.front_lent_mesh.specs.declared.QuadIds.{QuadIds}
use Rattle.front_lent_mesh.specs.Mesh.{quad_in}
use Rattle.order.specs.Order.{is_step, lays, lays_for, needs, first_place, waits_for, too_early}
use Rattle.order_walks.specs.Steps.{laid_from, laid_to, step_key, step_rect, keeps_back}

-- ---- the walks

-- whoever passes has the key
pub back_meets : (quads order : List ℕ) (p j u v k : ℕ) → keeps_back quads order p j u v k ≡ true → Meets (step_rect quads k) (step_key u v)
unfolding step_rect
back_meets quads order p j u v k e =
    let q = quad_in quads (k / 3) in
    let from = laid_from q (k % 3) in
    let to = laid_to q (k % 3) in
    let step = (both (is_step v u from to) _ e).0 in
    let ends = both (eqb v from) (eqb u to) step in
    let f = eqb-true v from ends.0 in
    let t = eqb-true u to ends.1 in
    record {
      i = u;
      j = v;
      first = record { left = omega arith; right = omega arith; low = omega arith; high = omega arith };
      second = record { left = omega arith; right = omega arith; low = omega arith; high = omega arith };
    }

-- the test, by what the code has at hand
pub back_is : (quads order : List ℕ) (p j u v : ℕ) {k own : ℕ} {r : Bool} → own ≡ k → r ≡ keeps_back quads order p j u v own
    → keeps_back quads order p j u v k ≡ r
back_is quads order p j u v o t = rw (← o) (sym t)

-- a quad lays the three steps of its items
lays_some : (q : QuadIds) (u v : ℕ) → lays q u v ≡ true → (s : ℕ) × (s < 3) × (is_step v u (laid_from q s) (laid_to q s) ≡ true)
unfolding lays laid_from laid_to
lays_some q u v e =
    ⊎_elim (λ f. (0, omega arith, f))
    (λ f. ⊎_elim (λ g. (1, omega arith, g)) (λ g. (2, omega arith, g)) (or_cases (is_step v u q.d q.c) _ f))
    (or_cases (is_step v u q.b q.d) _ e)

some_lays : (q : QuadIds) (u v s : ℕ) → is_step v u (laid_from q s) (laid_to q s) ≡ true → lays q u v ≡ true
unfolding lays laid_from laid_to
some_lays q u v s e = by (eqb s 0) (eqb s 1) e
  where
    by : (zeroth first : Bool) → is_step v u (cond zeroth q.b (cond first q.d q.c)) (cond zeroth q.d (cond first q.c q.a)) ≡ true
        → is_step v u q.b q.d || (is_step v u q.d q.c || is_step v u q.c q.a) ≡ true
    by true first f = or_left (is_step v u q.b q.d) _ f
    by false true f = or_right (is_step v u q.b q.d) (or_left (is_step v u q.d q.c) _ f)
    by false false f = or_right (is_step v u q.b q.d) (or_right (is_step v u q.d q.c) f)

-- quad i lays u to v, and keeps quad j from place p
pub record KeptBack (quads : List ℕ) (n : ℕ) (order : List ℕ) (p j u v : ℕ) : Type 0 where
  pub i : ℕ
  pub counted : i < n
  pub laid : lays (quad_in quads i) u v ≡ true
  pub before : ltb i j ≡ true
  pub later : ltb p (first_place order i) ≡ true

module _ (quads : List ℕ) (n : ℕ) (order : List ℕ) (p j u v : ℕ) where
  back_found : any_up (3 * n) (keeps_back quads order p j u v) ≡ true → KeptBack quads n order p j u v
  back_found e =
      let f = any_found (keeps_back quads order p j u v) (3 * n) e in
      let k = f.0 in
      let q = quad_in quads (k / 3) in
      let g = both (is_step v u (laid_from q (k % 3)) (laid_to q (k % 3))) (ltb (k / 3) j && ltb p (first_place order (k / 3))) f.2 in
      let h = both (ltb (k / 3) j) (ltb p (first_place order (k / 3))) g.1 in
      record {
        i = k / 3;
        counted = omega (arith, f.1);
        laid = some_lays q u v (k % 3) g.0;
        before = h.0;
        later = h.1;
      }

  back_any : KeptBack quads n order p j u v → any_up (3 * n) (keeps_back quads order p j u v) ≡ true
  back_any B =
      let i = B.i in
      let l = lays_some (quad_in quads i) u v B.laid in
      let s = l.0 in
      let k = 3 * i + s in
      let small = l.1 in
      let less = B.counted in
      let quad : k / 3 ≡ i = omega (arith, small) in
      let step : k % 3 ≡ s = omega (arith, small) in
      any_true (keeps_back quads order p j u v) (3 * n) k (omega (arith, small, less))
      (rw (quad, step)
      (and_both (is_step v u (laid_from (quad_in quads i) s) (laid_to (quad_in quads i) s)) (ltb i j && ltb p (first_place order i)) l.2
      (and_both (ltb i j) (ltb p (first_place order i)) B.before B.later)))

-- the three walks of quad j answer for all quads
pub walks_answer : (quads : List ℕ) (n : ℕ) (order : List ℕ) (p j : ℕ)
    → any_up (3 * n) (keeps_back quads order p j (quad_in quads j).a (quad_in quads j).b)
    || (any_up (3 * n) (keeps_back quads order p j (quad_in quads j).b (quad_in quads j).d)
    || any_up (3 * n) (keeps_back quads order p j (quad_in quads j).c (quad_in quads j).a))
    ≡ any_up n (waits_for quads order p j)
unfolding needs lays_for
walks_answer quads n order p j = same_truth _ _ there back
  where
    q : QuadIds
    q = quad_in quads j

    walk : ℕ → ℕ → Bool
    walk u v = any_up (3 * n) (keeps_back quads order p j u v)

    waits : (u v : ℕ) (B : KeptBack quads n order p j u v) → lays_for (quad_in quads B.i) q ≡ true → any_up n (waits_for quads order p j) ≡ true
    waits u v B l =
        any_true (waits_for quads order p j) n B.i B.counted
        (and_both (needs quads j B.i) (ltb p (first_place order B.i))
        (and_both (ltb B.i j) (lays_for (quad_in quads B.i) q) B.before l) B.later)

    ab : walk q.a q.b ≡ true → any_up n (waits_for quads order p j) ≡ true
    ab e =
        let B = back_found quads n order p j q.a q.b e in
        waits _ _ B (or_left (lays (quad_in quads B.i) q.a q.b) _ B.laid)

    bd : walk q.b q.d ≡ true → any_up n (waits_for quads order p j) ≡ true
    bd e =
        let B = back_found quads n order p j q.b q.d e in
        let i = quad_in quads B.i in
        waits _ _ B (or_right (lays i q.a q.b) (or_left (lays i q.b q.d) _ B.laid))

    ca : walk q.c q.a ≡ true → any_up n (waits_for quads order p j) ≡ true
    ca e =
        let B = back_found quads n order p j q.c q.a e in
        let i = quad_in quads B.i in
        waits _ _ B (or_right (lays i q.a q.b) (or_right (lays i q.b q.d) B.laid))

    there : walk q.a q.b || (walk q.b q.d || walk q.c q.a) ≡ true → any_up n (waits_for quads order p j) ≡ true
    there e = ⊎_elim ab (λ f. ⊎_elim bd ca (or_cases (walk q.b q.d) _ f)) (or_cases (walk q.a q.b) _ e)

    back : any_up n (waits_for quads order p j) ≡ true → walk q.a q.b || (walk q.b q.d || walk q.c q.a) ≡ true
    back e =
        let f = any_found (waits_for quads order p j) n e in
        let i = f.0 in
        let g = both (needs quads j i) (ltb p (first_place order i)) f.2 in
        let h = both (ltb i j) (lays_for (quad_in quads i) q) g.0 in
        let some : (u v : ℕ) → lays (quad_in quads i) u v ≡ true → walk u v ≡ true =
        λ u v l. back_any quads n order p j u v (record { i = i; counted = f.1; laid = l; before = h.0; later = g.1 }) in
        ⊎_elim (λ l. or_left (walk q.a q.b) _ (some q.a q.b l))
        (λ r.
        ⊎_elim (λ l. or_right (walk q.a q.b) (or_left (walk q.b q.d) _ (some q.b q.d l)))
        (λ l. or_right (walk q.a q.b) (or_right (walk q.b q.d) (some q.c q.a l)))
        (or_cases (lays (quad_in quads i) q.b q.d) _ r))
        (or_cases (lays (quad_in quads i) q.a q.b) _ h.1)

-- ---- the same of the quad q at place p, as the code asks: of the 3 n items the first m are walked

none_of : (x y z : Bool) → x ≡ false → y ≡ false → z ≡ false → x || (y || z) ≡ false
none_of x y z e f g = rw (e, f, g)

module _ (quads order : List ℕ) (p : ℕ) {j : ℕ} {q : QuadIds} (ej : j ≡ get_or order p 0) (eq : q ≡ quad_in quads j) where
  abbrev walked : ℕ → ℕ → ℕ → Bool
  walked m u v = any_up m (keeps_back quads order p j u v)

  walks_early : (n : ℕ) → walked (3 * n) q.a q.b || (walked (3 * n) q.b q.d || walked (3 * n) q.c q.a) ≡ too_early quads n order p
  unfolding too_early
  walks_early n =
      ap (λ (r : QuadIds). walked (3 * n) r.a r.b || (walked (3 * n) r.b r.d || walked (3 * n) r.c r.a)) eq
      ∙ walks_answer quads n order p j ∙ ap (λ (k : ℕ). any_up n (waits_for quads order p k)) ej

  module _ {m : ℕ} (n : ℕ) (few : m ≤ 3 * n) where
    pub walks_first : true ≡ walked m q.a q.b → true ≡ too_early quads n order p
    walks_first e = sym (or_left (walked (3 * n) q.a q.b) _ (sym (found_before _ few e))) ∙ walks_early n

    pub walks_second : true ≡ walked m q.b q.d → true ≡ too_early quads n order p
    walks_second e =
        sym (or_right (walked (3 * n) q.a q.b) (or_left (walked (3 * n) q.b q.d) _ (sym (found_before _ few e)))) ∙ walks_early n

    pub walks_third : true ≡ walked m q.c q.a → true ≡ too_early quads n order p
    walks_third e =
        sym (or_right (walked (3 * n) q.a q.b) (or_right (walked (3 * n) q.b q.d) (sym (found_before _ few e)))) ∙ walks_early n

    -- the walks have found nothing: nor would a scan of the quads whose steps are all filed
    pub walks_none : {from : ℕ} → from ≡ m / 3 → walked m q.a q.b ≡ false → walked m q.b q.d ≡ false → walked m q.c q.a ≡ false
        → Unfound (waits_for quads order p (get_or order p 0)) from n
    unfolding too_early
    walks_none {from} at e f g =
        record {
          within = omega arith;
          none = sym (walks_early from) ∙ none_of _ _ _ (fewer _ _ e) (fewer _ _ f) (fewer _ _ g);
        }
      where
        fewer : (u v : ℕ) → walked m u v ≡ false → walked (3 * from) u v ≡ false
        fewer u v none = any_false (keeps_back quads order p j u v) (3 * from) (λ i h. any_none (keeps_back quads order p j u v) m none i (omega arith))

    -- by the three walks' answers together
    pub walks_some : (walked m q.a q.b || walked m q.b q.d) || walked m q.c q.a ≡ true → true ≡ too_early quads n order p
    walks_some e =
        ⊎_elim (λ f. ⊎_elim (λ g. walks_first (sym g)) (λ g. walks_second (sym g)) (or_cases (walked m q.a q.b) _ f)) (λ f. walks_third (sym f))
        (or_cases (walked m q.a q.b || walked m q.b q.d) _ e)

    pub walks_nothing : {from : ℕ} → from ≡ m / 3 → (walked m q.a q.b || walked m q.b q.d) || walked m q.c q.a ≡ false
        → Unfound (waits_for quads order p (get_or order p 0)) from n
    walks_nothing at e =
        let last = neither (walked m q.a q.b || walked m q.b q.d) (walked m q.c q.a) e in
        let first = neither (walked m q.a q.b) (walked m q.b q.d) last.0 in
        walks_none at first.0 first.1 last.1
