-- One placing: quad a b d c on the front edge a to b. Each far corner, c beside a and d beside b, is reused or fresh. The edges of
-- the quad that are on the front come off, and the others go on, reversed; the loops go on to be closed and even.
use Rattle.std.specs.Prelude.{ℕ, ◌+◌, ◌*◌, ◌≡◌, ◌≢◌, length}
use mathlib.Core.List.{List, [], ◌∷◌}
use Rattle.std.proofs.Common.{arith}
use Rattle.topology.specs.Sums.{front_sum, one}
use Rattle.topology.specs.Links.{off}
use Rattle.topology.proofs.Changes.{Change, remove, add, OffFront, Changed}

-- ---- definitions

-- a far corner is a node of the front, or a new node
pub data Kind : Type 0 where
  reused : Kind
  fresh : Kind

-- the edge u to v comes off, where the corner is reused; goes on, where it is fresh
abbrev pub off_if : Kind → ℕ → ℕ → List Change → List Change
off_if reused u v cs = remove u v ∷ cs
off_if fresh u v cs = cs

abbrev pub on_if : Kind → ℕ → ℕ → List Change → List Change
on_if reused u v cs = cs
on_if fresh u v cs = add u v ∷ cs

-- what placing quad a b d c does to the front, in the order of the Rust
abbrev pub placing : Kind → Kind → ℕ → ℕ → ℕ → ℕ → List Change
placing kc kd a b c d = remove a b ∷ off_if kc c a (off_if kd b d (on_if kc a c (add c d ∷ on_if kd d b [])))

-- how many nodes a corner adds
abbrev pub new_nodes : Kind → ℕ
new_nodes reused = 0
new_nodes fresh = 1

-- A where the corner is reused, B where it is fresh
abbrev pub ByKind : Kind → Type 0 → Type 0 → Type 0
ByKind reused A B = A
ByKind fresh A B = B

-- What the checks before a placing have shown. A reused corner is the neighbour of an end of the edge and not its other end; a
-- fresh one is a node off the front, among the n.
pub record Placeable (kc kd : Kind) (n : ℕ) (f g : ℕ → ℕ) (a b c d : ℕ) : Type 0 where
  pub edge : f a ≡ b
  pub node : b ≢ off
  pub corner_c_lem : ByKind kc ((g a ≡ c) × (c ≢ b)) (OffFront n f g c)
  pub corner_d_lem : ByKind kd ((f b ≡ d) × (d ≢ a)) (OffFront n f g d)
  pub apart : c ≢ d

-- What a placing leaves: other loops, as many as before, where the changes have been made.
pub record After (n : ℕ) (next prev : List ℕ) (ls : List (List ℕ)) (cs : List Change) : Type 0 where
  pub loops : List (List ℕ)
  pub count : length loops ≡ length ls
  pub changes : Changed n next prev ls loops cs

-- ---- the theorem

-- each new node adds two edges to the front, and the quad takes two
pub placed_edges : (kc kd : Kind) (n a b c d : ℕ) (next prev : List ℕ) (ls ms : List (List ℕ))
    → Changed n next prev ls ms (placing kc kd a b c d) → front_sum one ms + 2 ≡ front_sum one ls + 2 * (new_nodes kc + new_nodes kd)
placed_edges reused reused n a b c d next prev ls ms H = omega (arith, H.sums one)
placed_edges reused fresh n a b c d next prev ls ms H = omega (arith, H.sums one)
placed_edges fresh reused n a b c d next prev ls ms H = omega (arith, H.sums one)
placed_edges fresh fresh n a b c d next prev ls ms H = omega (arith, H.sums one)
