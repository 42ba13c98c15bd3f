-- What holds of the definitions of proofs/Part.antt.
use Rattle.std.specs.Prelude.{◌≡◌, [], ◌∷◌, false, not, ℕ, ◌+◌, ◌*◌, ◌^◌, ◌≤◌, ◌<◌, ℤ, ◌≤ℤ◌, T, Float}
use Rattle.std.proofs.Common.{sym, ◌∙◌, subst, inl, inr, zero-le}
use Rattle.std.specs.Float.{binary64}
use Rattle.std.specs.Float.Ieee.{fits, le, unlike}
use Rattle.std.specs.Float.Ieee.Fits.{add-fits, div-fits}
use Rattle.laws.proofs.RingBase.{var, ◌+ᵉ◌, ◌-ᵉ◌}
use Rattle.laws.proofs.CertificateBase.{of-≤ℤ, to-≤ℤ, <ℤ_or-≤ℤ, hyp, ◌⊞◌}
use Rattle.laws.proofs.Certificate.{<ℤ_weaken, prove}
use Rattle.numbers.specs.Float.{◌⊕◌, ◌⊖◌, ◌⊗◌, ◌⊘◌, zero_f, one_f, clamp_f}
use Rattle.exact.specs.Units.{W-pos, units, Within, within_units}
use Rattle.exact.proofs.Operations.{Moderate}
use Rattle.exact.proofs.Keeps.{rounds_keep_over, sum_rounds, double_rounds}
use Rattle.exact.proofs.Keeps.{add_within, sub_within, mul_within, square_within}
use Rattle.exact.proofs.Keeps.{zero_within, one_within, zero_units, zero_times, one_times}
use Rattle.exact.proofs.Keeps.{le_within, le_chain, nonneg_units, add_keeps_right, mul_keeps, mul_turns}
use Rattle.exact.proofs.PartLaws.{ZeroToOne, signed_zero, part_within, clamp_part, quotient_number}

-- ---- t times w lies between 0 and w

module _ {L : ℕ} {t w : Float} (l : Moderate L) (p : ZeroToOne t) (f : T (fits binary64 w)) (q : Within L w) where
  abbrev nothing : Within 0 (zero_f ⊗ w)
  nothing = record { sign = unlike false q.sign; size = 0; val = zero_times q; small = zero-le }

  nothing_units : units (zero_f ⊗ w) ≡ units zero_f
  nothing_units = within_units nothing ∙ signed_zero (unlike false q.sign) ∙ sym zero_units

  plus : T (le zero_f w) → T (le (t ⊗ w) w)
  plus h = subst (λ (x : Float). T (le (t ⊗ w) x)) (one_times f q) (mul_keeps p.within one_within q p.most h)

  minus : T (le w zero_f) → T (le w (t ⊗ w))
  minus h = subst (λ (x : Float). T (le x (t ⊗ w))) (one_times f q) (mul_turns p.within one_within q p.most h)

  plus_least : T (le zero_f w) → T (le zero_f (t ⊗ w))
  plus_least h =
      (le_within zero_within (part_within l p f q)).1
      (subst (λ (a : ℤ). a ≤ℤ units (t ⊗ w)) nothing_units ((le_within nothing (part_within l p f q)).0 (mul_keeps zero_within p.within q p.least h)))

-- ---- a + t·w

module _ {J L M : ℕ} {a t w e : Float} (l : Moderate L) (A : Within J a) (p : ZeroToOne t) (f : T (fits binary64 w)) (q : Within L w)
    (g : T (fits binary64 e)) (E : Within M e) where
  P : Within (2 * (1 * L) + 1) (t ⊗ w)
  P = part_within l p f q

  pub part_least : T (le e a) → T (le e (a ⊕ w)) → T (le e (a ⊕ t ⊗ w))
  part_least h k =
      elim (<ℤ_or-≤ℤ (units zero_f) (units w)) [
        | inl above ↦
            let m = nonneg_units P (plus_least l p f q ((le_within zero_within q).1 (<ℤ_weaken above))) in
            rounds_keep_over W-pos (double_rounds g E) (sum_rounds A P)
            (to-≤ℤ
            (prove (units a ∷ units (t ⊗ w) ∷ units e ∷ []) ((var 0 -ᵉ var 2) ∷ var 1 ∷ []) (of-≤ℤ ((le_within E A).0 h), (m, tt)) [] tt 0
            (var 0 +ᵉ var 1 -ᵉ var 2) (hyp 0 ⊞ hyp 1) tt))
        | inr below ↦
            le_chain e (a ⊕ w) (a ⊕ t ⊗ w) g (add-fits binary64 a w) (add-fits binary64 a (t ⊗ w)) k
            (add_keeps_right q P A (minus l p f q ((le_within q zero_within).1 below)))
      ]

-- ---- a clamped quotient

-- how far from a to b the point of the segment next to p is
pub foot_part : {px py ax ay bx by : Float} → Within (2 ^ 20) px → Within (2 ^ 20) py → Within 1000 ax → Within 1000 ay → Within 1000 bx → Within 1000 by
    → let abx = bx ⊖ ax in
    let aby = by ⊖ ay in
    let length2 = abx ⊗ abx ⊕ aby ⊗ aby in
    T (not (le length2 zero_f)) → ZeroToOne (clamp_f (((px ⊖ ax) ⊗ abx ⊕ (py ⊖ ay) ⊗ aby) ⊘ length2) zero_f one_f)
foot_part px py ax ay bx by h =
    let abx = sub_within tt tt bx ax in
    let aby = sub_within tt tt by ay in
    let dot = add_within tt tt (mul_within tt tt (sub_within tt tt px ax) abx) (mul_within tt tt (sub_within tt tt py ay) aby) in
    let length2 = add_within tt tt (square_within tt abx) (square_within tt aby) in
    clamp_part _ (div-fits binary64 _ _) (quotient_number dot length2 h)
