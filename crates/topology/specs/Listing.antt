-- The list of loops, each from its smallest id, in the order of these ids: what the walks from all nodes find. Those of three nodes
-- or more are `front_loops`; those of one or more are all loops of the links.
use Prim.Native.Nat.{ℕ, ◌+◌}
use Rattle.std.specs.Prelude.{List, [], ◌∷◌, ◌++◌, ◌≡◌, refl, Bool, true, false, length, leb}
use Rattle.std.proofs.Math.Bool.{cond}
use native.Mathlib.Omega.{arith}
use Rattle.laws.specs.Loop.{for_up}
use Rattle.topology.specs.Sums.{All, total, front_sum}
use Rattle.topology.specs.Front.{Loops}
use Rattle.topology.specs.Walk.{walk_by}

-- ---- definitions

-- a loop of k nodes or more is listed
unfoldable pub add_loop : ℕ → List ℕ → List (List ℕ) → List (List ℕ)
add_loop k l ls = cond (leb k (length l)) (ls ++ l ∷ []) ls

-- of the loops L 0, .., L (n - 1) those of k nodes or more, in order
unfoldable pub long_loops : ℕ → ℕ → (ℕ → List ℕ) → List (List ℕ)
long_loops k n L = for_up n (λ u ls. add_loop k (L u) ls) []

-- the loops of k nodes or more that the walks along f find from n nodes, each of m nodes at most
abbrev pub walks : ℕ → ℕ → ℕ → (ℕ → ℕ) → List (List ℕ)
walks k n m f = long_loops k n (λ u. walk_by f m u u)

-- r of a loop that is long enough to be listed, else 0
unfoldable pub if_listed : ℕ → (List ℕ → ℕ) → List ℕ → ℕ
if_listed k r l = cond (leb k (length l)) (r l) 0

-- ---- sums over what is listed

total_append : (p : List ℕ → ℕ) (ls : List (List ℕ)) (l : List ℕ) → total p (ls ++ l ∷ []) ≡ total p ls + p l
unfolding total
total_append p [] l = omega arith
total_append p (x ∷ ls) l = omega (arith, total_append p ls l)

pub total_one : (ls : List (List ℕ)) → total (λ l. 1) ls ≡ length ls
unfolding total
total_one [] = refl
total_one (l ∷ ls) = omega (arith, total_one ls)

pub total_add : (r : List ℕ → ℕ) (k : ℕ) (l : List ℕ) (ls : List (List ℕ)) → total r (add_loop k l ls) ≡ total r ls + if_listed k r l
unfolding add_loop if_listed
total_add r k l ls = by (leb k (length l))
  where
    by : (b : Bool) → total r (cond b (ls ++ l ∷ []) ls) ≡ total r ls + cond b (r l) 0
    by true = total_append r ls l
    by false = omega arith

-- ---- what is listed

pub all_snoc : (P : List ℕ → Type 0) (ls : List (List ℕ)) (l : List ℕ) → All P ls → P l → All P (ls ++ l ∷ [])
all_snoc P [] l a p = (p, tt)
all_snoc P (x ∷ ls) l a p = (a.0, all_snoc P ls l a.1 p)

-- ---- the theorems

-- ms lists the loops ls of the links f: as many, of the same edges, and loops of the links themselves
pub record ListsLoops (n : ℕ) (f : ℕ → ℕ) (ls ms : List (List ℕ)) : Type 0 where
  pub number : length ms ≡ length ls
  pub sums : (w : ℕ → ℕ → ℕ) → front_sum w ms ≡ front_sum w ls
  pub loops : Loops n f ms
