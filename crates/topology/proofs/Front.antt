-- What holds of the definitions of specs/Front.antt.
use Rattle.std.specs.Prelude.{ℕ, zero, suc, ◌+◌, ◌<◌, ◌≤◌, ◌≡◌, refl, Bool, true, false, ◌≢◌, length, eqb, ltb}
use mathlib.Core.List.{List, [], ◌∷◌, ◌++◌}
use Rattle.std.proofs.Common.{sym, ◌∙◌, arith, eqb-true, ltb-true, ltb-false}
use Rattle.std.proofs.Math.Path.{ap}
use Rattle.std.proofs.lemmas.Bool.{eqb-false}
use Rattle.topology.specs.Sums.{All, total, path_sum, loop_sum, front_sum, one, Even, rotate, loop_one}
use Rattle.topology.specs.Links.{off, at, delta_same, delta_is, delta_le, at_self, at_is}
use Rattle.topology.specs.Front.{Loops, Front, head_or, EdgeFirst, Last, empty, last, last_of, out_edge, in_edge}

-- ---- a loop turned to start with an edge of it

-- the path from u along vs to z has the edge a to b: a stands in u ∷ vs, and b is what follows it
record EdgeSplit (a b u : ℕ) (vs : List ℕ) (z : ℕ) : Type 0 where
  before : List ℕ
  after : List ℕ
  whole : u ∷ vs ≡ before ++ a ∷ after
  next : b ≡ head_or z after

split : (a b u : ℕ) (vs : List ℕ) (z : ℕ) → 0 < path_sum (at a b) u vs z → EdgeSplit a b u vs z
unfolding path_sum
split a b u [] z h =
    let e = at_is a b u z h in
    record { before = []; after = []; whole = ap (λ (x : ℕ). x ∷ []) e.0; next = sym e.1 }
split a b u (v ∷ vs) z h = by (at a b u v) refl (split a b v vs z)
  where
    by : (k : ℕ) → at a b u v ≡ k → (0 < path_sum (at a b) v vs z → EdgeSplit a b v vs z) → EdgeSplit a b u (v ∷ vs) z
    by zero e later =
        let s = later (omega (arith, e)) in
        record { before = u ∷ s.before; after = s.after; whole = ap (λ (l : List ℕ). u ∷ l) s.whole; next = s.next }
    by (suc k) e later =
        let q = at_is a b u v (omega (arith, e)) in
        record { before = []; after = v ∷ vs; whole = ap (λ (x : ℕ). x ∷ v ∷ vs) q.0; next = sym q.1 }

-- the loop l, turned: a, b and the rest
record Turned (a b : ℕ) (l : List ℕ) : Type 0 where
  rest : List ℕ
  same : (w : ℕ → ℕ → ℕ) → loop_sum w l ≡ loop_sum w (a ∷ b ∷ rest)

turned : (a b x : ℕ) (xs P Q : List ℕ) → x ∷ xs ≡ P ++ a ∷ Q → b ≡ head_or x Q → 2 ≤ length (x ∷ xs) → Turned a b (x ∷ xs)
turned a b x xs P (q ∷ Q) e h two = record { rest = Q ++ P; same = λ w. rw (e, h) (rotate w P a (q ∷ Q)) }
turned a b x xs (y ∷ P) [] e h two =
    let xy : x ≡ y = cc in
    record { rest = P; same = λ w. rw (e, h, xy) (rotate w (y ∷ P) a []) }
turned a b x xs [] [] e h two = absurd (omega (arith, ap length e))

turn_loop : (a b : ℕ) (l : List ℕ) → Even l → 0 < loop_sum (at a b) l → Turned a b l
unfolding loop_sum
turn_loop a b [] e h = absurd (omega arith)
turn_loop a b (x ∷ xs) e h =
    let s = split a b x xs x h in
    turned a b x xs s.before s.after s.whole s.next e.two

pub edge_first : (a b : ℕ) (ls : List (List ℕ)) → All Even ls → 0 < front_sum (at a b) ls → EdgeFirst a b ls
unfolding total
edge_first a b [] e h = absurd (omega arith)
edge_first a b (l ∷ ls) e h = by (loop_sum (at a b) l) refl (edge_first a b ls e.1)
  where
    by : (k : ℕ) → loop_sum (at a b) l ≡ k → (0 < front_sum (at a b) ls → EdgeFirst a b ls) → EdgeFirst a b (l ∷ ls)
    by zero q later =
        let s = later (omega (arith, q)) in
        record {
          rest = s.rest;
          others = l ∷ s.others;
          same = λ w. omega (arith, s.same w);
          count = ap suc s.count;
          evens = (s.evens.0, (e.0, s.evens.1));
        }
    by (suc k) q later =
        let t = turn_loop a b l e.0 (omega (arith, q)) in
        let long : length l ≡ length (a ∷ b ∷ t.rest) = sym (loop_one l) ∙ (t.same one ∙ loop_one (a ∷ b ∷ t.rest)) in
        record {
          rest = t.rest;
          others = ls;
          same = λ w. ap (λ (k : ℕ). k + front_sum w ls) (t.same w);
          count = refl;
          evens = (record { even = rw long at e.0.even; two = omega arith }, e.1);
        }

-- ---- links are edges, edges are links

module _ (n : ℕ) (f : ℕ → ℕ) (ls : List (List ℕ)) (L : Loops n f ls) where
  -- an edge begins and ends at nodes
  pub source : (u v : ℕ) → 0 < front_sum (at u v) ls → u < n
  source u v h = by (ltb u n) refl
    where
      by : (s : Bool) → ltb u n ≡ s → u < n
      by true e = ltb-true u n e
      by false e = omega (arith, L.inside u v (ltb-false u n e))

  -- where an edge ends, another begins
  onward : (u v : ℕ) → 0 < front_sum (at u v) ls → (z : ℕ) × (0 < front_sum (at v z) ls)
  unfolding total loop_sum path_sum
  onward u v h =
      let s = edge_first u v ls L.evens h in
      let z = head_or u s.rest in
      (z, omega (arith, s.same (at v z), out_edge v s.rest u))

  pub target : (u v : ℕ) → 0 < front_sum (at u v) ls → v < n
  target u v h = let e = onward u v h in source v e.0 e.1

  -- an edge is a link
  pub edge_next : (u v : ℕ) → 0 < front_sum (at u v) ls → f u ≡ v
  edge_next u v h = delta_is (f u) v (omega (arith, L.nexts u v (omega (arith, target u v h, L.few))))

  -- and stands in the loops once
  pub edge_once : (u v : ℕ) → v ≢ off → front_sum (at u v) ls ≤ 1
  edge_once u v h = omega (arith, L.nexts u v h, delta_le (f u) v)

  -- a link is an edge
  pub next_edge : (u v : ℕ) → v ≢ off → f u ≡ v → front_sum (at u v) ls ≡ 1
  next_edge u v h e = L.nexts u v h ∙ delta_same (f u) v e

  -- a link that is not `off` is a node
  pub next_in : (u : ℕ) → f u ≢ off → f u < n
  next_in u h = target u (f u) (omega (arith, next_edge u (f u) h refl))

  -- a node with a link to it has a link
  pub next_next : (u : ℕ) → f u ≢ off → f (f u) ≢ off
  next_next u h e =
      let v = f u in
      let o = onward u v (omega (arith, next_edge u v h refl)) in
      omega (arith, e, edge_next v o.0 o.1, target v o.0 o.1, L.few)

  -- links are ids or `off`
  pub next_le : (u : ℕ) → f u ≤ off
  next_le u = by (eqb (f u) off) refl
    where
      by : (s : Bool) → eqb (f u) off ≡ s → f u ≤ off
      by true e = omega (arith, eqb-true (f u) off e)
      by false e = omega (arith, next_in u (eqb-false (f u) off e), L.few)

  -- no node is linked to itself
  pub no_self : (u : ℕ) → u < n → f u ≢ u
  unfolding total loop_sum path_sum
  no_self u h e =
      let hu : u ≢ off = omega (arith, L.few) in
      let s = edge_first u u ls L.evens (omega (arith, next_edge u u hu e)) in
      by s.rest s.others (λ v. s.same (at u v))
    where
      by : (R : List ℕ) (LS : List (List ℕ)) → ((v : ℕ) → front_sum (at u v) ls ≡ front_sum (at u v) ((u ∷ u ∷ R) ∷ LS)) → ⊥
      by [] LS same = omega (arith, same u, edge_once u u (omega (arith, L.few)), at_self u u)
      by (r ∷ R) LS same =
          let q = edge_next u r (omega (arith, same r, at_self u r)) in
          let z : at u u u r ≡ 1 = ap (λ (k : ℕ). at u u u k) (sym q ∙ e) ∙ at_self u u in
          omega (arith, same u, edge_once u u (omega (arith, L.few)), at_self u u, z)

  -- loops with an edge have two
  pub edges_two : (u : ℕ) → f u ≢ off → 2 ≤ front_sum one ls
  unfolding total
  edges_two u h =
      let s = edge_first u (f u) ls L.evens (omega (arith, next_edge u (f u) h refl)) in
      omega (arith, s.same one, loop_one (u ∷ f u ∷ s.rest))

-- ---- the links and the links back are inverse to each other

module _ (n : ℕ) (f g : ℕ → ℕ) (ls : List (List ℕ)) (F : Front n f g ls) where
  pub edge_prev : (u v : ℕ) → 0 < front_sum (at u v) ls → g v ≡ u
  edge_prev u v h = delta_is (g v) u (omega (arith, F.prevs u v (omega (arith, source n f ls F.loops u v h, F.loops.few))))

  pub prev_of_next : (u v : ℕ) → v ≢ off → f u ≡ v → g v ≡ u
  prev_of_next u v h e = edge_prev u v (omega (arith, next_edge n f ls F.loops u v h e))

  pub next_of_prev : (u v : ℕ) → u ≢ off → g v ≡ u → f u ≡ v
  next_of_prev u v h e = edge_next n f ls F.loops u v (omega (arith, F.prevs u v h, delta_same (g v) u e))

  -- a link back that is not `off` is a node, and goes from a node
  pub prev_in : (v : ℕ) → g v ≢ off → (g v < n) × (v < n)
  prev_in v h =
      let p : 0 < front_sum (at (g v) v) ls = omega (arith, F.prevs (g v) v h, delta_same (g v) (g v) refl) in
      (source n f ls F.loops (g v) v p, target n f ls F.loops (g v) v p)

  -- a node with a link has a link to it
  pub prev_next : (u : ℕ) → f u ≢ off → g u ≢ off
  unfolding total loop_sum path_sum
  prev_next u h =
      let s = edge_first u (f u) ls F.loops.evens (omega (arith, next_edge n f ls F.loops u (f u) h refl)) in
      by (last_of s.rest) s.others s.same
    where
      into : (v : ℕ) → 0 < front_sum (at v u) ls → g u ≢ off
      into v p e = omega (arith, e, edge_prev v u p, source n f ls F.loops v u p, F.loops.few)

      by : {R : List ℕ} → Last R → (LS : List (List ℕ)) → ((w : ℕ → ℕ → ℕ) → front_sum w ls ≡ front_sum w ((u ∷ f u ∷ R) ∷ LS)) → g u ≢ off
      by empty LS same = into (f u) (omega (arith, same (at (f u) u), at_self (f u) u))
      by (last M m) LS same = into m (omega (arith, same (at m u), in_edge (f u) M m u))
