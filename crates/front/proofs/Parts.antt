-- Four ids copied into a list's part are four stores. Assumes nothing.
use Rattle.std.specs.Prelude.{ℕ, zero, suc, ◌+◌, ◌≤◌, List, [], ◌∷◌, ◌≡◌, refl, length, set}
use Rattle.std.proofs.Common.{ap, arith}
use native.Mathlib.Numerals.{unary_clauses}
use borrow.Rule.Slice.PartMut.{put_mid}

pub four_stored : (a p q r s : ℕ) (l : List ℕ) → a + 4 ≤ length l
    → put_mid a 4 l (p ∷ q ∷ r ∷ s ∷ []) ≡ set (set (set (set l a p) (a + 1) q) (a + 2) r) (a + 3) s
four_stored zero p q r s (w ∷ x ∷ y ∷ z ∷ l) h = refl
four_stored zero p q r s (w ∷ x ∷ y ∷ []) h = absurd (omega arith)
four_stored zero p q r s (w ∷ x ∷ []) h = absurd (omega arith)
four_stored zero p q r s (w ∷ []) h = absurd (omega arith)
four_stored zero p q r s [] h = absurd (omega arith)
four_stored (suc a) p q r s [] h = absurd (omega arith)
four_stored (suc a) p q r s (x ∷ l) h = simp unary_clauses (simp unary_clauses at (ap (λ t. x ∷ t) (four_stored a p q r s l (omega arith))))
