-- Loops and sums over their edges. A loop is the list of its node ids, in order; its edges go from each id to the next and from
-- the last to the first. What is said of the edges of loops is said by sums of a weight over them.
use Rattle.std.specs.Prelude.{ℕ, suc, ◌+◌, ◌≤◌, ◌%◌, ◌⊎◌, ◌≡◌, length}
use mathlib.Core.List.{List, [], ◌∷◌, ◌++◌, append-nil}
use Rattle.std.proofs.Math.Path.{refl}
use Rattle.std.proofs.Common.{add_assoc, add_comm, arith}

-- P holds of every entry
abbrev pub All {ℓ} : {A : Type ℓ} → (A → Type 0) → List A → Type 0
All P [] = Unit {0}
All P (x ∷ xs) = P x × All P xs

-- P holds of an entry
abbrev pub Some {ℓ} : {A : Type ℓ} → (A → Type 0) → List A → Type 0
Some P [] = ⊥
Some P (x ∷ xs) = P x ⊎ Some P xs

-- ---- sums

-- p over the loops ls
unfoldable pub total : (List ℕ → ℕ) → List (List ℕ) → ℕ
total p [] = 0
total p (l ∷ ls) = p l + total p ls

-- w over the edges of the path from u along vs to z
unfoldable pub path_sum : (ℕ → ℕ → ℕ) → ℕ → List ℕ → ℕ → ℕ
path_sum w u [] z = w u z
path_sum w u (v ∷ vs) z = w u v + path_sum w v vs z

-- w over the edges of a loop
unfoldable pub loop_sum : (ℕ → ℕ → ℕ) → List ℕ → ℕ
unfolding path_sum
loop_sum w [] = 0
loop_sum w (x ∷ xs) = path_sum w x xs x

-- w over the edges of the loops ls
abbrev pub front_sum : (ℕ → ℕ → ℕ) → List (List ℕ) → ℕ
front_sum w ls = total (loop_sum w) ls

-- the weight that counts edges
abbrev pub one : ℕ → ℕ → ℕ
one u v = 1

-- an even number of edges, and two at least
pub record Even (l : List ℕ) : Type 0 where
  pub even : length l % 2 ≡ 0
  pub two : 2 ≤ length l

-- ---- laws

module _ (w : ℕ → ℕ → ℕ) where
  pub path_append : (u : ℕ) (xs : List ℕ) (v : ℕ) (ys : List ℕ) (z : ℕ)
      → path_sum w u (xs ++ v ∷ ys) z ≡ path_sum w u xs v + path_sum w v ys z
  unfolding path_sum
  path_append u [] v ys z = refl
  path_append u (x ∷ xs) v ys z = rw (path_append x xs v ys z, add_assoc)

  -- a loop's sum does not depend on where the loop starts
  pub rotate : (P : List ℕ) (a : ℕ) (Q : List ℕ) → loop_sum w (P ++ a ∷ Q) ≡ loop_sum w (a ∷ (Q ++ P))
  unfolding loop_sum
  rotate [] a Q = rw append-nil
  rotate (x ∷ P) a Q = rw (path_append x P a Q x, path_append a Q x P a) (add_comm _ _)

path_one : (u : ℕ) (vs : List ℕ) (z : ℕ) → path_sum one u vs z ≡ suc (length vs)
unfolding path_sum
path_one u [] z = refl
path_one u (v ∷ vs) z = omega (arith, path_one v vs z)

-- a loop has as many edges as nodes
pub loop_one : (l : List ℕ) → loop_sum one l ≡ length l
unfolding loop_sum
loop_one [] = refl
loop_one (x ∷ xs) = path_one x xs x

pub total_ext : (p q : List ℕ → ℕ) → ((l : List ℕ) → p l ≡ q l) → (ls : List (List ℕ)) → total p ls ≡ total q ls
unfolding total
total_ext p q e [] = refl
total_ext p q e (l ∷ ls) = omega (arith, e l, total_ext p q e ls)

-- the number of edges of the loops ls
pub front_one : (ls : List (List ℕ)) → front_sum one ls ≡ total length ls
front_one = total_ext (loop_sum one) length loop_one
