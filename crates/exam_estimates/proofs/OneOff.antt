-- What holds of the definitions of specs/OneOff.antt.
use Rattle.std.specs.Prelude.{◌≡◌, Bool, false, not, ◌||◌, cond, List, ◌⊎◌, length, eqb, ltb, leb, Result, Ok, Err, IfOk}
use Rattle.std.proofs.Math.Path.{refl, subst}
use Rattle.std.proofs.Common.{sym, ◌∙◌, inl, inr, arith, get_or-set_same, lit≤, rules}
use Rattle.std.proofs.Math.Bool.{true}
use Rattle.std.proofs.Math.Logic.{⊎_elim}
use Prim.Native.Nat.{ℕ, zero, suc, ◌+◌, ◌≤◌, ◌<◌}
use Rattle.std.proofs.Math.ListN.{set, get_or-eq_default}
use borrow.Author.Tests.{eqb-true, ltb-true, ltb-false, le-leb, lt-ltb}
use Rattle.laws.specs.Tests.{neither}
use Rattle.front_lent_mesh.specs.declared.QuadIds.{QuadIds}
use Rattle.front_lent_mesh.specs.Mesh.{Mesh, quad_of}
use Rattle.exam_thresholds.specs.Figures.{no_threshold, most_threshold, threshold_at, stands, is_complete, names}
use Rattle.exam_thresholds.specs.Figures.{Results, unless_refused, refusal_at, with_threshold, enter_answer, withdraw_answer}
use Rattle.exam_thresholds.specs.Laws.{stands_means, taken}
use Rattle.exam_thresholds.proofs.Laws.{other_same}
use Rattle.exam_estimates.specs.Estimate.{estimate_of, least_threshold, greatest_threshold, estimate_refusal, estimated, estimate_answer}
use Rattle.exam_estimates.proofs.MovesBase.{estimate_moves}
use Rattle.exam_estimates.proofs.Moves.{estimate_least, estimate_greatest}
use Rattle.exam_estimates.specs.OneOff.{tenths_apart, EqualWithin, elsewhere}

equal_within : (most : ℕ) (p : Result ℕ ℕ) → EqualWithin most p p
equal_within most (Ok x) = (omega arith, omega arith)
equal_within most (Err r) = refl

-- ---- one place of the list

-- a threshold that stands has its place in the list
stands_within : (n : ℕ) (t : List ℕ) (id : ℕ) → stands n t id ≡ true → id < length t
stands_within n t id e = by (ltb id (length t)) refl
  where
    by : (b : Bool) → ltb id (length t) ≡ b → id < length t
    by true h = ltb-true id (length t) h
    by false h = absurd (omega (arith, get_or-eq_default t no_threshold (ltb-false id (length t) h), (stands_means n t id e).1))

module _ (n : ℕ) (t : List ℕ) (id x : ℕ) (here : stands n t id ≡ true) (low : x ≤ most_threshold) where
  -- what stood stands, and nothing else
  stands_same : (j : ℕ) → stands n (set t id x) j ≡ stands n t j
  unfolding stands
  stands_same j = by (eqb j id) refl
    where
      at_id : stands n (set t id x) id ≡ true
      at_id = rw (get_or-set_same t id x no_threshold (stands_within n t id here), lt-ltb id n (stands_means n t id here).0, le-leb x most_threshold low)

      at_other : threshold_at (set t id x) j ≡ threshold_at t j → stands n (set t id x) j ≡ stands n t j
      at_other e = rw e

      by : (b : Bool) → eqb j id ≡ b → stands n (set t id x) j ≡ stands n t j
      by true e = let p = eqb-true j id e in rw p (at_id ∙ sym here)
      by false e = at_other (other_same t id x j e)

  complete_stays : (q : QuadIds) → is_complete n (set t id x) q ≡ is_complete n t q
  unfolding is_complete
  complete_stays q = rw (stands_same q.a, stands_same q.b, stands_same q.d, stands_same q.c)

  -- no threshold moves by more
  place_moves : (j : ℕ)
      → (threshold_at (set t id x) j ≤ threshold_at t j + tenths_apart x (threshold_at t id))
      × (threshold_at t j ≤ threshold_at (set t id x) j + tenths_apart x (threshold_at t id))
  place_moves j = by (eqb j id) refl
    where
      by : (b : Bool) → eqb j id ≡ b
          → (threshold_at (set t id x) j ≤ threshold_at t j + tenths_apart x (threshold_at t id))
          × (threshold_at t j ≤ threshold_at (set t id x) j + tenths_apart x (threshold_at t id))
      by true e =
          let p = eqb-true j id e in
          let s = get_or-set_same t id x no_threshold (stands_within n t id here) in
          rw (p, s) (omega arith, omega arith)
      by false e = let s = other_same t id x j e in (omega (arith, s), omega (arith, s))

  -- so no estimate of the quad does
  estimate_of_moves : (u v : ℕ) (q : QuadIds) → u ≤ 256 → v ≤ 256
      → (estimate_of u v (set t id x) q ≤ estimate_of u v t q + tenths_apart x (threshold_at t id))
      × (estimate_of u v t q ≤ estimate_of u v (set t id x) q + tenths_apart x (threshold_at t id))
  unfolding estimate_of
  estimate_of_moves u v q hu hv =
      let s = set t id x in
      let m = tenths_apart x (threshold_at t id) in (
        estimate_moves u v (threshold_at s q.a) (threshold_at s q.b) (threshold_at s q.d) (threshold_at s q.c)
            (threshold_at t q.a) (threshold_at t q.b) (threshold_at t q.d) (threshold_at t q.c) m hu hv
            (place_moves q.a).0 (place_moves q.b).0 (place_moves q.d).0 (place_moves q.c).0,
        estimate_moves u v (threshold_at t q.a) (threshold_at t q.b) (threshold_at t q.d) (threshold_at t q.c)
            (threshold_at s q.a) (threshold_at s q.b) (threshold_at s q.d) (threshold_at s q.c) m hu hv
            (place_moves q.a).1 (place_moves q.b).1 (place_moves q.d).1 (place_moves q.c).1,
      )

-- ---- the answers

-- an answer by its two tests
answer : Bool → Bool → ℕ → Result ℕ ℕ
answer a b x = estimated (cond a 18 (cond b 19 0)) x

-- two answers with the same tests
same_tests : (a : Bool) (u v x y most : ℕ) → (u ≤ 256 → v ≤ 256 → (x ≤ y + most) × (y ≤ x + most))
    → EqualWithin most (answer a (ltb 256 u || ltb 256 v) x) (answer a (ltb 256 u || ltb 256 v) y)
unfolding answer
same_tests true u v x y most h = equal_within most (estimated 18 0)
same_tests false u v x y most h = by (ltb 256 u || ltb 256 v) refl
  where
    by : (b : Bool) → ltb 256 u || ltb 256 v ≡ b → EqualWithin most (answer false b x) (answer false b y)
    by true e = equal_within most (estimated 19 0)
    by false e =
        let p = neither (ltb 256 u) (ltb 256 v) e in
        h (ltb-false 256 u p.0) (ltb-false 256 v p.1)

-- ONE OFF: a threshold that stands is replaced by x. Then every answer, of every quad and all weights, is refused as before, or its estimate moves
-- by no more than the threshold moved.
pub one_off : (m : Mesh) (t : List ℕ) (id x k u v : ℕ) → stands m.nodes t id ≡ true → x ≤ most_threshold
    → EqualWithin (tenths_apart x (threshold_at t id)) (estimate_answer m (set t id x) k u v) (estimate_answer m t k u v)
unfolding estimate_answer estimate_refusal answer
one_off m t id x k u v here low =
    rw (complete_stays m.nodes t id x here low (quad_of m k))
    (same_tests (leb m.quads k || not (is_complete m.nodes t (quad_of m k))) u v (estimate_of u v (set t id x) (quad_of m k))
    (estimate_of u v t (quad_of m k)) (tenths_apart x (threshold_at t id)) (estimate_of_moves m.nodes t id x here low u v (quad_of m k)))

-- ---- with what `enter` and `withdraw` leave

-- a call leaves what it was lent, or isn't refused
leaves : (r : ℕ) (x y : Results) → ((unless_refused r x y).results ≡ x) ⊎ ((r ≡ 0) × ((unless_refused r x y).results ≡ y))
leaves zero x y = inr (refl, refl)
leaves (suc n) x y = inl refl

module _ (m : Mesh) (r : Results) (id k u v : ℕ) where
  abbrev t : List ℕ
  t = r.thresholds

  pub one_entered : (x : ℕ) → stands m.nodes r.thresholds id ≡ true
      → EqualWithin (tenths_apart x (threshold_at r.thresholds id)) (estimate_answer m (enter_answer m r id x).results.thresholds k u v)
      (estimate_answer m r.thresholds k u v)
  unfolding enter_answer with_threshold
  one_entered x here =
      ⊎_elim
      (λ e. subst Within (sym e) (equal_within most (estimate_answer m t k u v)))
      (λ e. subst Within (sym e.1) (one_off m t id x k u v here (taken m.nodes t id x 16 (refusal_at m.nodes t id x 16) (lit≤ tt) refl e.0).low))
      (leaves (refusal_at m.nodes t id x 16) r (with_threshold m r id x))
    where
      most : ℕ
      most = tenths_apart x (threshold_at t id)

      Within : Results → Type 0
      Within z = EqualWithin most (estimate_answer m z.thresholds k u v) (estimate_answer m t k u v)

  -- whatever a call leaves that writes nothing but at the node
  unnamed : (n x : ℕ) → names (quad_of m k) id ≡ false
      → estimate_answer m (unless_refused n r (with_threshold m r id x)).results.thresholds k u v ≡ estimate_answer m t k u v
  unfolding with_threshold
  unnamed zero x e = elsewhere m t id x k u v e
  unnamed (suc n) x e = refl

  pub elsewhere_entered : (x : ℕ) → names (quad_of m k) id ≡ false
      → estimate_answer m (enter_answer m r id x).results.thresholds k u v ≡ estimate_answer m r.thresholds k u v
  unfolding enter_answer
  elsewhere_entered x e = unnamed (refusal_at m.nodes t id x 16) x e

  pub elsewhere_withdrawn : names (quad_of m k) id ≡ false
      → estimate_answer m (withdraw_answer m r id).results.thresholds k u v ≡ estimate_answer m r.thresholds k u v
  unfolding withdraw_answer
  elsewhere_withdrawn e = unnamed (refusal_at m.nodes t id (threshold_at t id) 17) no_threshold e

-- ---- between

-- BETWEEN: an estimate that is answered lies between the least and the greatest of its corners
pub between_corners : (m : Mesh) (t : List ℕ) (k u v : ℕ)
    → IfOk (estimate_answer m t k u v) (λ e. (least_threshold t (quad_of m k) ≤ e) × (e ≤ greatest_threshold t (quad_of m k)))
unfolding estimate_answer estimate_refusal estimate_of least_threshold greatest_threshold answer
between_corners m t k u v = by (leb m.quads k || not (is_complete m.nodes t q)) (ltb 256 u || ltb 256 v) refl
  where
    q : QuadIds
    q = quad_of m k

    by : (a b : Bool) → ltb 256 u || ltb 256 v ≡ b
        → IfOk (answer a b (estimate_of u v t (quad_of m k))) (λ e. (least_threshold t (quad_of m k) ≤ e) × (e ≤ greatest_threshold t (quad_of m k)))
    by true b f = search rules
    by false true f = search rules
    by false false f =
        let p = neither (ltb 256 u) (ltb 256 v) f in
        let hu = ltb-false 256 u p.0 in
        let hv = ltb-false 256 v p.1 in (
          estimate_least u v (threshold_at t q.a) (threshold_at t q.b) (threshold_at t q.d) (threshold_at t q.c) (least_threshold t (quad_of m k)) hu hv
              (omega arith) (omega arith) (omega arith) (omega arith),
          estimate_greatest u v (threshold_at t q.a) (threshold_at t q.b) (threshold_at t q.d) (threshold_at t q.c) (greatest_threshold t (quad_of m k)) hu hv
              (omega arith) (omega arith) (omega arith) (omega arith),
        )
