-- The front: links to the next node and to the one before, and the loops whose edges are exactly these links. The loops stand in
-- the specification alone: nothing stores them. What a link says of the loops, and what an edge of the loops says of the links.
use Rattle.std.specs.Prelude.{ℕ, ◌+◌, ◌<◌, ◌≤◌, ◌≡◌, ◌≢◌, length}
use mathlib.Core.List.{List, [], ◌∷◌, ◌++◌}
use Rattle.std.proofs.Common.{sym, ◌∙◌, arith}
use Rattle.topology.specs.Sums.{All, path_sum, front_sum, Even, path_append}
use Rattle.topology.specs.Links.{off, delta, at, link_of, at_self}

-- ---- definitions

-- ls are the loops of the links f between n nodes
pub record Loops (n : ℕ) (f : ℕ → ℕ) (ls : List (List ℕ)) : Type 0 where
  -- `off` is no node
  pub few : n ≤ off
  -- each loop has an even number of edges, two or more
  pub evens : All Even ls
  -- an edge goes out of a node
  pub inside : (u v : ℕ) → n ≤ u → front_sum (at u v) ls ≡ 0
  -- u to v is an edge of the loops, once, where v is the link of u, and none elsewhere
  pub nexts : (u v : ℕ) → v ≢ off → front_sum (at u v) ls ≡ delta (f u) v

-- and g are the links back
pub record Front (n : ℕ) (f g : ℕ → ℕ) (ls : List (List ℕ)) : Type 0 where
  pub loops : Loops n f ls
  pub prevs : (u v : ℕ) → u ≢ off → front_sum (at u v) ls ≡ delta (g v) u

-- the same of two lists of links, of n nodes
abbrev pub FrontOf : ℕ → List ℕ → List ℕ → List (List ℕ) → Type 0
FrontOf n next prev ls = Front n (link_of n next) (link_of n prev) ls

-- ---- a loop turned to start with an edge of it

abbrev pub head_or : ℕ → List ℕ → ℕ
head_or z [] = z
head_or z (x ∷ xs) = x

-- the loops ls with the edge a to b brought to the front of the first
pub record EdgeFirst (a b : ℕ) (ls : List (List ℕ)) : Type 0 where
  pub rest : List ℕ
  pub others : List (List ℕ)
  pub same : (w : ℕ → ℕ → ℕ) → front_sum w ls ≡ front_sum w ((a ∷ b ∷ rest) ∷ others)
  pub count : length ls ≡ length ((a ∷ b ∷ rest) ∷ others)
  pub evens : All Even ((a ∷ b ∷ rest) ∷ others)

-- a list is empty, or has a last entry
pub data Last : List ℕ → Type 0 where
  empty : Last []
  last : (xs : List ℕ) (x : ℕ) → Last (xs ++ x ∷ [])

pub last_of : (xs : List ℕ) → Last xs
last_of [] = empty
last_of (x ∷ xs) = by (last_of xs)
  where
    by : {xs : List ℕ} → Last xs → Last (x ∷ xs)
    by empty = last [] x
    by (last ys y) = last (x ∷ ys) y

-- from the first node of a path an edge goes out, and into the last one comes in
pub out_edge : (u : ℕ) (vs : List ℕ) (z : ℕ) → 0 < path_sum (at u (head_or z vs)) u vs z
unfolding path_sum
out_edge u [] z = omega (arith, at_self u z)
out_edge u (v ∷ vs) z = omega (arith, at_self u v)

pub in_edge : (u : ℕ) (vs : List ℕ) (v z : ℕ) → 0 < path_sum (at v z) u (vs ++ v ∷ []) z
unfolding path_sum
in_edge u vs v z = omega (arith, path_append (at v z) u vs v [] z, at_self v z)

-- ---- links are edges, edges are links

-- loops with the same edges are as good
pub loops_same : (n : ℕ) (f : ℕ → ℕ) (ls ms : List (List ℕ)) → ((u v : ℕ) → front_sum (at u v) ls ≡ front_sum (at u v) ms) → All Even ms
    → Loops n f ls → Loops n f ms
loops_same n f ls ms same evens L =
    record {
      few = L.few;
      evens = evens;
      inside = λ u v h. sym (same u v) ∙ L.inside u v h;
      nexts = λ u v h. sym (same u v) ∙ L.nexts u v h;
    }

-- ---- the links and the links back are inverse to each other

-- loops with the same edges are as good
pub front_same : (n : ℕ) (f g : ℕ → ℕ) (ls ms : List (List ℕ)) → ((w : ℕ → ℕ → ℕ) → front_sum w ls ≡ front_sum w ms) → All Even ms
    → Front n f g ls → Front n f g ms
front_same n f g ls ms same evens F =
    record { loops = loops_same n f ls ms (λ u v. same (at u v)) evens F.loops; prevs = λ u v h. sym (same (at u v)) ∙ F.prevs u v h }
