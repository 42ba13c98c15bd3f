-- Links read off the edges themselves, in whatever order these stand, as a book of the front holds them: they are the links of the
-- loops. And loops in which no node stands twice are the loops of the links that their edges give.
use Rattle.std.specs.Prelude.{ℕ, zero, suc, ◌+◌, ◌<◌, ◌≤◌, List, [], ◌∷◌, ◌≡◌, refl, Bool, true, false, cond, ◌≢◌, eqb}
use Rattle.std.proofs.Common.{sym, ◌∙◌, arith, eqb-true}
use Rattle.std.proofs.lemmas.Bool.{eqb-false}
use Rattle.topology.specs.Sums.{All, total, path_sum, loop_sum, front_sum, Even}
use Rattle.topology.specs.Links.{off, delta, at, delta_same, delta_other}
use Rattle.topology.specs.Front.{Loops}
use Rattle.topology.specs.Walk.{count}

-- from u, h follows an edge of the loops, or there is none to follow and h is `off`
pub data Follows (ls : List (List ℕ)) (h : ℕ → ℕ) (u : ℕ) : Type 0 where
  edge : 0 < front_sum (at u (h u)) ls → Follows ls h u
  none : h u ≡ off → ((v : ℕ) → front_sum (at u v) ls ≡ 0) → Follows ls h u

-- ---- two edges out of a node stand for two places of it

at_two : (x y z u v : ℕ) → y ≢ z → at x y u v + at x z u v ≤ delta u x
unfolding at delta
at_two x y z u v other = by (eqb u x) (eqb v y) refl (eqb v z) refl
  where
    by : (a b : Bool) → eqb v y ≡ b → (c : Bool) → eqb v z ≡ c → cond a (cond {A = ℕ} b 1 0) 0 + cond a (cond c 1 0) 0 ≤ cond a 1 0
    by false b p c q = omega arith
    by true true p true q = absurd (other (sym (eqb-true v y p) ∙ eqb-true v z q))
    by true true p false q = omega arith
    by true false p true q = omega arith
    by true false p false q = omega arith

path_two : (x y z u : ℕ) (vs : List ℕ) (w : ℕ) → y ≢ z → path_sum (at x y) u vs w + path_sum (at x z) u vs w ≤ count x (u ∷ vs)
unfolding path_sum count
path_two x y z u [] w other = omega (arith, at_two x y z u w other)
path_two x y z u (v ∷ vs) w other = omega (arith, at_two x y z u v other, path_two x y z v vs w other)

front_two : (x y z : ℕ) (ls : List (List ℕ)) → y ≢ z → front_sum (at x y) ls + front_sum (at x z) ls ≤ total (count x) ls
unfolding total loop_sum count
front_two x y z [] other = omega arith
front_two x y z ([] ∷ ls) other = omega (arith, front_two x y z ls other)
front_two x y z ((u ∷ vs) ∷ ls) other = omega (arith, path_two x y z u vs u other, front_two x y z ls other)

front_one_at : (x y : ℕ) (ls : List (List ℕ)) → front_sum (at x y) ls ≤ total (count x) ls
front_one_at x y ls = omega (arith, front_two x y (suc y) ls (λ e. omega arith))

-- ---- the theorems

-- even loops, of nodes that stand in them once at most, are the loops of the links that follow their edges
pub follows_loops : (n : ℕ) (h : ℕ → ℕ) (ls : List (List ℕ)) → n ≤ off → All Even ls → ((u : ℕ) → 0 < total (count u) ls → u < n)
    → ((u : ℕ) → total (count u) ls ≤ 1) → ((u : ℕ) → Follows ls h u) → Loops n h ls
follows_loops n h ls few evens nodes once follows =
    record {
      few = few;
      evens = evens;
      inside = λ u v p. outside u v p (total (count u) ls) refl;
      nexts = λ u v p. by u v p (follows u) (eqb (h u) v) refl;
    }
  where
    outside : (u v : ℕ) → n ≤ u → (k : ℕ) → total (count u) ls ≡ k → front_sum (at u v) ls ≡ 0
    outside u v p zero e = omega (arith, e, front_one_at u v ls)
    outside u v p (suc k) e = absurd (omega (arith, nodes u (omega (arith, e))))

    by : (u v : ℕ) → v ≢ off → Follows ls h u → (b : Bool) → eqb (h u) v ≡ b → front_sum (at u v) ls ≡ delta (h u) v
    by u v p (edge e) true q =
        let s = eqb-true (h u) v q in
        let t : 0 < front_sum (at u v) ls = rw s at e in
        omega (arith, front_one_at u v ls, once u, delta_same (h u) v s)
    by u v p (edge e) false q =
        let s = eqb-false (h u) v q in
        omega (arith, front_two u (h u) v ls s, once u, delta_other (h u) v s)
    by u v p (none e z) b q = omega (arith, z v, delta_other (h u) v (λ s. p (sym s ∙ e)))
