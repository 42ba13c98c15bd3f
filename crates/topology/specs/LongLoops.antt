-- THE LIST OF LOOPS, `front_loops`: what it is to list the loops of three nodes or more, and that the walks along the links list them, whichever loops
-- have these links.
use Prim.Native.Nat.{ℕ, ◌<◌, ◌≤◌}
use mathlib.Core.List.{List, [], ◌∷◌}
use Rattle.std.specs.Prelude.{◌≡◌, Bool, ◌↔◌}
use Rattle.std.proofs.Math.Path.{refl}
use Rattle.std.proofs.Common.{arith}
use Rattle.std.proofs.Math.Bool.{true, false}
use Rattle.std.proofs.Math.Logic.{inl, inr}
use Rattle.std.proofs.Math.ListN.{length}
use Rattle.std.proofs.Math.Dec.{eqb, leb}
use borrow.Author.Tests.{eqb-true, eq-eqb, leb-true, leb-false}
use Rattle.topology.specs.Sums.{All, Some, Even}
use Rattle.topology.specs.Front.{head_or}
use Rattle.topology.specs.Walk.{FromSmallest}

-- ---- the statement

-- each loop of a list begins with a smaller id than those after it
abbrev pub Rising : List (List ℕ) → Type 0
Rising [] = Unit {0}
Rising (l ∷ ls) = All (λ m. head_or 0 l < head_or 0 m) ls × Rising ls

-- ms lists those of the loops ls that have three nodes or more
pub record LongLoops (ls ms : List (List ℕ)) : Type 0 where
  -- each of these is listed, from its smallest id on
  pub all : All (λ l. 3 ≤ length l → Some (FromSmallest l) ms) ls
  -- and nothing else is
  pub only : All (λ m. Some (λ l. (3 ≤ length l) × FromSmallest l m) ls) ms
  -- in rising order of the smallest ids, and so each once
  pub rising : Rising ms

-- ---- where all have two nodes

-- nothing is listed exactly if each loop has two nodes
pub none_listed : (ls ms : List (List ℕ)) → All Even ls → LongLoops ls ms → (eqb (length ms) 0 ≡ true) ↔ All (λ l. length l ≡ 2) ls
none_listed ls ms evens L =
    (λ e. two ms (eqb-true (length ms) 0 e) ls evens L.all, λ h. eq-eqb (length ms) 0 (nothing ms L.only h))
  where
    two : (ms : List (List ℕ)) → length ms ≡ 0 → (ls : List (List ℕ)) → All Even ls
        → All (λ l. 3 ≤ length l → Some (FromSmallest l) ms) ls → All (λ l. length l ≡ 2) ls
    two ms e [] E h = tt
    two [] e (l ∷ ls) E h = (by (leb 3 (length l)) refl, two [] e ls E.1 h.1)
      where
        by : (b : Bool) → leb 3 (length l) ≡ b → length l ≡ 2
        by true q = absurd (h.0 (leb-true 3 (length l) q))
        by false q = omega (arith, leb-false 3 (length l) q, E.0.two)
    two (m ∷ ms) e (l ∷ ls) E h = absurd (omega arith)

    short : (m : List ℕ) (ls : List (List ℕ)) → All (λ l. length l ≡ 2) ls → Some (λ l. (3 ≤ length l) × FromSmallest l m) ls → ⊥
    short m [] h s = s
    short m (l ∷ ls) h (inl s) = omega (arith, h.0, s.0)
    short m (l ∷ ls) h (inr s) = short m ls h.1 s

    nothing : (ms : List (List ℕ)) → All (λ m. Some (λ l. (3 ≤ length l) × FromSmallest l m) ls) ms → All (λ l. length l ≡ 2) ls
        → length ms ≡ 0
    nothing [] o h = refl
    nothing (m ∷ ms) o h = absurd (short m ls h o.0)
