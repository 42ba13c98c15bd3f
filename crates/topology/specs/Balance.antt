-- The balance over ℤ: for a weight that changes its sign with the direction of an edge, such as a signed area, the front before a
-- placing has the sum of the quad's four sides and the front after.
use Rattle.std.specs.Prelude.{ℕ, ◌+◌, ◌≡◌, refl, ℤ, pos, negsuc, neg_ℤ, ◌+ℤ◌}
use mathlib.Core.List.{List, [], ◌∷◌}
use Rattle.std.proofs.Math.Path.{sym}
use Rattle.std.proofs.Common.{◌∙◌, ap, ap₂}
use Rattle.std.proofs.Math.IntN.{neg_ℤ-+ℤ, pos-+ℤ-pos}
use Rattle.laws.proofs.Integer.{+ℤ_swap}

-- ---- sums over ℤ

-- w over the edges of the path from u along vs to z
unfoldable pub path_sumℤ : (ℕ → ℕ → ℤ) → ℕ → List ℕ → ℕ → ℤ
path_sumℤ w u [] z = w u z
path_sumℤ w u (v ∷ vs) z = w u v +ℤ path_sumℤ w v vs z

-- w over the edges of a loop
unfoldable pub loop_sumℤ : (ℕ → ℕ → ℤ) → List ℕ → ℤ
unfolding path_sumℤ
loop_sumℤ w [] = pos 0
loop_sumℤ w (x ∷ xs) = path_sumℤ w x xs x

-- w over the edges of the loops ls
unfoldable pub front_sumℤ : (ℕ → ℕ → ℤ) → List (List ℕ) → ℤ
unfolding loop_sumℤ
front_sumℤ w [] = pos 0
front_sumℤ w (l ∷ ls) = loop_sumℤ w l +ℤ front_sumℤ w ls

-- w over the sides of quad a b d c
abbrev pub quad_sumℤ : (ℕ → ℕ → ℤ) → ℕ → ℕ → ℕ → ℕ → ℤ
quad_sumℤ w a b d c = w a b +ℤ w b d +ℤ w d c +ℤ w c a

-- the sign of w changes with the direction
abbrev pub Antisymmetric : (ℕ → ℕ → ℤ) → Type 0
Antisymmetric w = (u v : ℕ) → w v u ≡ neg_ℤ (w u v)

-- ---- differences of natural numbers

-- a − b
unfoldable pub difference : ℕ → ℕ → ℤ
difference a b = pos a +ℤ neg_ℤ (pos b)

pub difference_add : (a b c d : ℕ) → difference a b +ℤ difference c d ≡ difference (a + c) (b + d)
unfolding difference
difference_add a b c d =
    +ℤ_swap (pos a) (neg_ℤ (pos b)) (pos c) (neg_ℤ (pos d))
    ∙ ap₂ ◌+ℤ◌ (pos-+ℤ-pos a c) (sym (neg_ℤ-+ℤ (pos b) (pos d)) ∙ ap neg_ℤ (pos-+ℤ-pos b d))

pub difference_zero : difference 0 0 ≡ pos 0
unfolding difference
difference_zero = refl

-- the part above 0
unfoldable pub above : ℤ → ℕ
above (pos n) = n
above (negsuc n) = 0

-- ---- an antisymmetric weight is a difference of two weights

-- what w has above 0
unfoldable pub gain : (ℕ → ℕ → ℤ) → ℕ → ℕ → ℕ
unfolding above
gain w u v = above (w u v)

-- the weight of the edge reversed
abbrev pub flip : (ℕ → ℕ → ℕ) → ℕ → ℕ → ℕ
flip p u v = p v u
