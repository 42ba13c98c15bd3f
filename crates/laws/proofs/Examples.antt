-- Worked uses of `ring` and `prove`, each with the call of tools/ring.py that wrote it. They show the form, and the check computes them. Assumes nothing.
use Rattle.std.specs.Prelude.{◌≡◌, [], ◌∷◌, ℕ, ◌+◌, ◌*◌, ◌^◌, ◌≤◌, ℤ, pos, ◌+ℤ◌, ◌*ℤ◌, ◌-ℤ◌, ◌≤ℤ◌}
use Rattle.laws.proofs.RingBase.{var, num, ◌+ᵉ◌, ◌*ᵉ◌, ◌-ᵉ◌}
use Rattle.laws.proofs.Ring.{ring}
use Rattle.laws.proofs.CertificateBase.{Nonneg, of-≤ℤ, to-≤ℤ, to_le, hyp, nat, ◌⊞◌, ◌⊠◌, sq, eqn, zero_of}
use Rattle.laws.proofs.Certificate.{prove}

-- Lagrange's identity: the cross product and the dot product of two vectors.
-- ring.py identity lagrange 'a b c d' '(a*d - b*c)^2 + (a*c + b*d)^2' '(a*a + b*b)*(c*c + d*d)'
lagrange : (a b c d : ℤ)
    → (a *ℤ d -ℤ b *ℤ c) *ℤ (a *ℤ d -ℤ b *ℤ c) +ℤ (a *ℤ c +ℤ b *ℤ d) *ℤ (a *ℤ c +ℤ b *ℤ d) ≡ (a *ℤ a +ℤ b *ℤ b) *ℤ (c *ℤ c +ℤ d *ℤ d)
lagrange a b c d =
    ring (a ∷ b ∷ c ∷ d ∷ [])
    ((var 0 *ᵉ var 3 -ᵉ var 1 *ᵉ var 2) *ᵉ (var 0 *ᵉ var 3 -ᵉ var 1 *ᵉ var 2) +ᵉ (var 0 *ᵉ var 2 +ᵉ var 1 *ᵉ var 3) *ᵉ (var 0 *ᵉ var 2 +ᵉ var 1 *ᵉ var 3))
    ((var 0 *ᵉ var 0 +ᵉ var 1 *ᵉ var 1) *ᵉ (var 2 *ᵉ var 2 +ᵉ var 3 *ᵉ var 3)) tt

-- A coefficient of more than a thousand bits: the units in one, where floats are counted.
-- ring.py identity scaled 'a b' '2^1074*(a + b)' '2^1074*a + 2^1074*b'
scaled : (a b : ℤ) → pos (2 ^ 1074) *ℤ (a +ℤ b) ≡ pos (2 ^ 1074) *ℤ a +ℤ pos (2 ^ 1074) *ℤ b
scaled a b = ring (a ∷ b ∷ []) (num (2 ^ 1074) *ᵉ (var 0 +ᵉ var 1)) (num (2 ^ 1074) *ᵉ var 0 +ᵉ num (2 ^ 1074) *ᵉ var 1) tt

-- Cauchy's inequality, in ℕ. The certificate is one square.
-- ring.py certificate 'a b c d' '(a*a + c*c)*(b*b + d*d) - (a*b + c*d)^2' -s 'a*d - b*c'
pub cauchy : (a b c d : ℕ) → (a * b + c * d) * (a * b + c * d) ≤ (a * a + c * c) * (b * b + d * d)
cauchy a b c d =
    to_le _ _
    (prove (pos a ∷ pos b ∷ pos c ∷ pos d ∷ []) [] tt [] tt 0
    ((var 0 *ᵉ var 0 +ᵉ var 2 *ᵉ var 2) *ᵉ (var 1 *ᵉ var 1 +ᵉ var 3 *ᵉ var 3) -ᵉ (var 0 *ᵉ var 1 +ᵉ var 2 *ᵉ var 3) *ᵉ (var 0 *ᵉ var 1 +ᵉ var 2 *ᵉ var 3))
    (sq (var 0 *ᵉ var 3 -ᵉ var 1 *ᵉ var 2)) tt)

-- Squares keep the order of what is not negative. Two hypotheses, and products of them.
-- ring.py certificate 'a b' 'b*b - a*a' 'a' 'b - a'
square_mono : {a b : ℤ} → Nonneg a → a ≤ℤ b → (a *ℤ a) ≤ℤ (b *ℤ b)
square_mono {a} {b} p h =
    to-≤ℤ
    (prove (a ∷ b ∷ []) (var 0 ∷ (var 1 -ᵉ var 0) ∷ []) (p, (of-≤ℤ h, tt)) [] tt 0
    (var 1 *ᵉ var 1 -ᵉ var 0 *ᵉ var 0)
    (nat 2 ⊠ (hyp 0 ⊠ hyp 1) ⊞ hyp 1 ⊠ hyp 1) tt)

-- An equation among the hypotheses: w = a b with a at least 1 and b not negative is at least b.
-- ring.py certificate 'a b w' 'w - b' 'a - 1' 'b' -e 'w - a*b'
product_above : (a b w : ℤ) → Nonneg (a -ℤ pos 1) → Nonneg b → w ≡ a *ℤ b → b ≤ℤ w
product_above a b w p q e =
    to-≤ℤ
    (prove (a ∷ b ∷ w ∷ []) ((var 0 -ᵉ num 1) ∷ var 1 ∷ []) (p, (q, tt)) ((var 2 -ᵉ var 0 *ᵉ var 1) ∷ []) (zero_of e, tt) 0
    (var 2 -ᵉ var 1)
    (hyp 0 ⊠ hyp 1 ⊞ eqn 0 (num 1)) tt)

-- A goal that has to be multiplied: 3 (2 a - 1) = 2 (3 a - 2) + 1.
-- ring.py certificate 'a' '2*a - 1' '3*a - 2'
multiplied : (a : ℤ) → Nonneg (pos 3 *ℤ a -ℤ pos 2) → Nonneg (pos 2 *ℤ a -ℤ pos 1)
multiplied a h = prove (a ∷ []) ((num 3 *ᵉ var 0 -ᵉ num 2) ∷ []) (h, tt) [] tt 2 (num 2 *ᵉ var 0 -ᵉ num 1) (nat 1 ⊞ nat 2 ⊠ hyp 0) tt
