-- What holds of the definitions of specs/Scale.antt.
use Rattle.std.specs.Prelude.{◌≡◌, [], ◌∷◌, ℕ, T, ℤ, pos, ◌+ℤ◌, ◌*ℤ◌, ◌-ℤ◌, ◌<ℤ◌}
use Rattle.std.proofs.Common.{subst, ⊎_elim}
use Rattle.std.specs.Int.Signed.{lt_z, lt_z_yes}
use Rattle.std.specs.Float.Ieee.Fits.{and_i, and_l, and_r}
use Rattle.laws.proofs.RingBase.{var, num, neg, ◌+ᵉ◌, ◌*ᵉ◌, ◌-ᵉ◌}
use Rattle.laws.proofs.Ring.{ring}
use Rattle.laws.proofs.CertificateBase.{Nonneg, nonneg, nonneg-*, not_nonneg, of-≤ℤ, <ℤ_or-≤ℤ, hyp, ◌⊞◌, ◌⊠◌}
use Rattle.laws.proofs.Certificate.{of-<ℤ, prove}
use Rattle.exact.specs.Corner.{Vector, cross, squared_length, sine_above_third}

abbrev pub scaled_by : ℤ → Vector → Vector
scaled_by w u = record { x = w *ℤ u.x; y = w *ℤ u.y }

cancel : (m a b : ℤ) → Nonneg m → (m *ℤ a) <ℤ (m *ℤ b) → a <ℤ b
cancel m a b n h =
    ⊎_elim (λ less. less)
    (λ more. absurd (not_nonneg
    (prove (m ∷ a ∷ b ∷ []) (var 0 ∷ (var 1 -ᵉ var 2) ∷ (var 0 *ᵉ var 2 -ᵉ var 0 *ᵉ var 1 -ᵉ num 1) ∷ []) (n, (of-≤ℤ more, (of-<ℤ h, tt))) [] tt 0
    (neg (num 1)) (hyp 2 ⊞ hyp 0 ⊠ hyp 1) tt))) (<ℤ_or-≤ℤ a b)

cancel_test : (m a b x y : ℤ) → Nonneg m → x ≡ m *ℤ a → y ≡ m *ℤ b → T (lt_z x y) → T (lt_z a b)
cancel_test m a b x y n e f t =
    let h : x <ℤ y = lt_z_yes t in
    let k : (m *ℤ a) <ℤ (m *ℤ b) = subst (λ (z : ℤ). (m *ℤ a) <ℤ z) f (subst (λ (z : ℤ). z <ℤ y) e h) in
    (cancel m a b n k).lt

nothing : (m : ℤ) → pos 0 ≡ m *ℤ pos 0
nothing m = ring (m ∷ []) (num 0) (var 0 *ᵉ num 0) tt

cross_scaled : (w a b c d : ℤ) → (w *ℤ a) *ℤ (w *ℤ d) -ℤ (w *ℤ b) *ℤ (w *ℤ c) ≡ (w *ℤ w) *ℤ (a *ℤ d -ℤ b *ℤ c)
cross_scaled w a b c d =
    ring (w ∷ a ∷ b ∷ c ∷ d ∷ []) ((var 0 *ᵉ var 1) *ᵉ (var 0 *ᵉ var 4) -ᵉ (var 0 *ᵉ var 2) *ᵉ (var 0 *ᵉ var 3))
    ((var 0 *ᵉ var 0) *ᵉ (var 1 *ᵉ var 4 -ᵉ var 2 *ᵉ var 3)) tt

lengths_scaled : (w a b c d : ℤ)
    → ((w *ℤ a) *ℤ (w *ℤ a) +ℤ (w *ℤ b) *ℤ (w *ℤ b)) *ℤ ((w *ℤ c) *ℤ (w *ℤ c) +ℤ (w *ℤ d) *ℤ (w *ℤ d))
    ≡ ((w *ℤ w) *ℤ (w *ℤ w)) *ℤ ((a *ℤ a +ℤ b *ℤ b) *ℤ (c *ℤ c +ℤ d *ℤ d))
lengths_scaled w a b c d =
    ring (w ∷ a ∷ b ∷ c ∷ d ∷ [])
    (((var 0 *ᵉ var 1) *ᵉ (var 0 *ᵉ var 1) +ᵉ (var 0 *ᵉ var 2) *ᵉ (var 0 *ᵉ var 2))
    *ᵉ ((var 0 *ᵉ var 3) *ᵉ (var 0 *ᵉ var 3) +ᵉ (var 0 *ᵉ var 4) *ᵉ (var 0 *ᵉ var 4)))
    (((var 0 *ᵉ var 0) *ᵉ (var 0 *ᵉ var 0)) *ᵉ ((var 1 *ᵉ var 1 +ᵉ var 2 *ᵉ var 2) *ᵉ (var 3 *ᵉ var 3 +ᵉ var 4 *ᵉ var 4))) tt

square_scaled : (w a b c d : ℤ)
    → pos 9 *ℤ (((w *ℤ a) *ℤ (w *ℤ d) -ℤ (w *ℤ b) *ℤ (w *ℤ c)) *ℤ ((w *ℤ a) *ℤ (w *ℤ d) -ℤ (w *ℤ b) *ℤ (w *ℤ c)))
    ≡ ((w *ℤ w) *ℤ (w *ℤ w)) *ℤ (pos 9 *ℤ ((a *ℤ d -ℤ b *ℤ c) *ℤ (a *ℤ d -ℤ b *ℤ c)))
square_scaled w a b c d =
    ring (w ∷ a ∷ b ∷ c ∷ d ∷ [])
    (num 9 *ᵉ (((var 0 *ᵉ var 1) *ᵉ (var 0 *ᵉ var 4) -ᵉ (var 0 *ᵉ var 2) *ᵉ (var 0 *ᵉ var 3))
    *ᵉ ((var 0 *ᵉ var 1) *ᵉ (var 0 *ᵉ var 4) -ᵉ (var 0 *ᵉ var 2) *ᵉ (var 0 *ᵉ var 3))))
    (((var 0 *ᵉ var 0) *ᵉ (var 0 *ᵉ var 0)) *ᵉ (num 9 *ᵉ ((var 1 *ᵉ var 4 -ᵉ var 2 *ᵉ var 3) *ᵉ (var 1 *ᵉ var 4 -ᵉ var 2 *ᵉ var 3)))) tt

pub unscale : (w : ℕ) (u v : Vector) → T (sine_above_third (scaled_by (pos w) u) (scaled_by (pos w) v)) → T (sine_above_third u v)
unfolding sine_above_third cross squared_length
unscale n u v t =
    let w = pos n in
    let a = u.x in
    let b = u.y in
    let c = v.x in
    let d = v.y in
    let square = nonneg-* (nonneg n) (nonneg n) in
    let p = a *ℤ d -ℤ b *ℤ c in
    let lengths = (a *ℤ a +ℤ b *ℤ b) *ℤ (c *ℤ c +ℤ d *ℤ d) in
    let P = (w *ℤ a) *ℤ (w *ℤ d) -ℤ (w *ℤ b) *ℤ (w *ℤ c) in
    let Lengths = ((w *ℤ a) *ℤ (w *ℤ a) +ℤ (w *ℤ b) *ℤ (w *ℤ b)) *ℤ ((w *ℤ c) *ℤ (w *ℤ c) +ℤ (w *ℤ d) *ℤ (w *ℤ d)) in
    let left = lt_z (pos 0) P in
    let above = lt_z Lengths (pos 9 *ℤ (P *ℤ P)) in
    and_i (lt_z (pos 0) p) (lt_z lengths (pos 9 *ℤ (p *ℤ p)))
    (cancel_test (w *ℤ w) (pos 0) p (pos 0) P square (nothing (w *ℤ w)) (cross_scaled w a b c d) (and_l left above t))
    (cancel_test ((w *ℤ w) *ℤ (w *ℤ w)) lengths (pos 9 *ℤ (p *ℤ p)) Lengths (pos 9 *ℤ (P *ℤ P)) (nonneg-* square square)
    (lengths_scaled w a b c d) (square_scaled w a b c d) (and_r left above t))
