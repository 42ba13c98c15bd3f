-- A part of the way stays between the ends. For t from 0 to 1, a + t·w as the code computes it is at most any double that is at least both a and
-- a + w, and the same below: `part_most`, `part_least`. Such a t is the quotient of heights for an edge that straddles one (`slope_part`), and the
-- clamped quotient that finds the point of a segment next to another (`foot_part`). All of it rests on rounding's keeping the order (Keeps), so
-- no error is left over. Assumes nothing.
use Rattle.std.specs.Prelude.{◌≡◌, refl, ◌⊎◌, [], ◌∷◌, Bool, true, false, not, cond, ℕ, ◌+◌, ◌*◌, ◌≤◌, ◌<◌, ℤ, pos, ◌*ℤ◌, ◌≤ℤ◌, T, Float}
use Rattle.std.proofs.Common.{sym, ap, ◌∙◌, subst, inl, inr, zero-le, le_trans, le_of_eq, zero-mul, mul_comm, mul-le-mul_left, mul-le-mul_right, mul-pos, arith, le→leb}
use Rattle.std.specs.Float.{nan, inf, fin, binary64}
use Rattle.std.specs.Float.Ieee.{fits, is_nan, le, lt, eq, unlike, round, of_bits}
use Rattle.std.specs.Float.Ieee.Fits.{add-fits, div-fits}
use Rattle.laws.proofs.RingBase.{var, ◌+ᵉ◌, ◌*ᵉ◌, ◌-ᵉ◌, neg}
use Rattle.laws.proofs.CertificateBase.{of-≤ℤ, to-≤ℤ, <ℤ_or-≤ℤ, hyp, ◌⊞◌, ◌⊠◌}
use Rattle.laws.proofs.Certificate.{<ℤ_weaken, prove}
use Rattle.numbers.specs.Float.{◌⊕◌, ◌⊖◌, ◌⊗◌, ◌⊘◌, zero_f, one_f, clamp_f}
use Rattle.exact.proofs.Rounding.{Close}
use Rattle.exact.specs.Units.{W, W-pos, Val, signed, units, Within, within_units}
use Rattle.exact.proofs.Constants.{zero_val}
use Rattle.exact.proofs.Order.{above_of_not_le, within_le}
use Rattle.exact.proofs.Operations.{Moderate, sub_law, sum_within}
use Rattle.exact.proofs.Blend.{straddled}
use Rattle.exact.proofs.Keeps.{round_either, sizes_keep, rounds_keep, rounds_keep_over, sum_rounds, product_rounds, quotient_rounds, double_rounds}
use Rattle.exact.proofs.Keeps.{mul_within}
use Rattle.exact.proofs.Keeps.{zero_fits, one_fits, zero_within, one_within, zero_units, one_units, zero_times, one_times}
use Rattle.exact.proofs.Keeps.{le_within, le_self, le_chain, le_of_not_lt, nonneg_units, nonpos_units, add_keeps_right, mul_turns}

-- ---- t from 0 to 1

-- a double from 0 to 1
pub record ZeroToOne (t : Float) : Type 0 where
  pub within : Within 1 t
  pub least : T (le zero_f t)
  pub most : T (le t one_f)

pub zero_to_one : (t : Float) → T (fits binary64 t) → T (le zero_f t) → T (le t one_f) → ZeroToOne t
unfolding of_bits le lt eq fits
zero_to_one t f h k = record {
  within = within_le 1 t f k (le_chain (fin true 1 (pos 0)) zero_f t tt tt f tt h);
  least = h;
  most = k;
}

pub signed_zero : (s : Bool) → signed s 0 ≡ pos 0
signed_zero true = refl
signed_zero false = refl

-- ---- t times w lies between 0 and w

module _ {L : ℕ} {t w : Float} (l : Moderate L) (p : ZeroToOne t) (f : T (fits binary64 w)) (q : Within L w) where
  pub part_within : Within (2 * (1 * L) + 1) (t ⊗ w)
  part_within = mul_within tt l p.within q

  abbrev nothing : Within 0 (zero_f ⊗ w)
  nothing = record { sign = unlike false q.sign; size = 0; val = zero_times q; small = zero-le }

  nothing_units : units (zero_f ⊗ w) ≡ units zero_f
  nothing_units = within_units nothing ∙ signed_zero (unlike false q.sign) ∙ sym zero_units

  minus_most : T (le w zero_f) → T (le (t ⊗ w) zero_f)
  minus_most h =
      (le_within part_within zero_within).1
      (subst (λ (a : ℤ). units (t ⊗ w) ≤ℤ a) nothing_units ((le_within part_within nothing).0 (mul_turns zero_within p.within q p.least h)))

-- ---- a + t·w

module _ {J L M : ℕ} {a t w e : Float} (l : Moderate L) (A : Within J a) (p : ZeroToOne t) (f : T (fits binary64 w)) (q : Within L w)
    (g : T (fits binary64 e)) (E : Within M e) where
  P : Within (2 * (1 * L) + 1) (t ⊗ w)
  P = part_within l p f q

  pub part_most : T (le a e) → T (le (a ⊕ w) e) → T (le (a ⊕ t ⊗ w) e)
  part_most h k =
      elim (<ℤ_or-≤ℤ (units w) (units zero_f)) [
        | inl below ↦
            let m = nonpos_units P (minus_most l p f q ((le_within q zero_within).1 (<ℤ_weaken below))) in
            rounds_keep_over W-pos (sum_rounds A P) (double_rounds g E)
            (to-≤ℤ
            (prove (units a ∷ units (t ⊗ w) ∷ units e ∷ []) ((var 2 -ᵉ var 0) ∷ neg (var 1) ∷ []) (of-≤ℤ ((le_within A E).0 h), (m, tt)) [] tt 0
            (var 2 -ᵉ (var 0 +ᵉ var 1)) (hyp 0 ⊞ hyp 1) tt))
        | inr above ↦
            le_chain (a ⊕ t ⊗ w) (a ⊕ w) e (add-fits binary64 a (t ⊗ w)) (add-fits binary64 a w) g
            (add_keeps_right P q A (at_most ((le_within zero_within q).1 above))) k
      ]
    where
      -- t·w is at most w
      at_most : T (le zero_f w) → T (le (t ⊗ w) w)
      at_most u =
          subst (λ (x : Float). T (le (t ⊗ w) x)) (one_times f q)
          (rounds_keep_over (mul-pos W-pos W-pos) (product_rounds p.within q) (product_rounds one_within q)
          (to-≤ℤ
          (prove (units t ∷ units one_f ∷ units w ∷ []) ((var 1 -ᵉ var 0) ∷ var 2 ∷ []) (of-≤ℤ ((le_within p.within one_within).0 p.most), (nonneg_units q u, tt)) []
          tt 0 (var 1 *ᵉ var 2 -ᵉ var 0 *ᵉ var 2) (hyp 0 ⊠ hyp 1) tt)))

-- ---- the quotient of two sizes

-- x / y where x is no farther from 0 than y, on the same side
quotient_part : {J L : ℕ} {x y : Float} (p : Within J x) (q : Within L y) → 0 < q.size → p.size ≤ q.size
    → (unlike p.sign q.sign ≡ false) ⊎ (p.size ≡ 0) → ZeroToOne (x ⊘ y)
quotient_part {x = x} {y = y} p q D h s =
    let r = quotient_rounds p q D in
    zero_to_one (x ⊘ y) (div-fits binary64 x y)
    (rounds_keep (double_rounds zero_fits zero_within) r W-pos D (rw (zero_units, same s) least))
    (rounds_keep r (double_rounds one_fits one_within) D W-pos (rw (one_units, same s) most))
  where
    same : (unlike p.sign q.sign ≡ false) ⊎ (p.size ≡ 0) → signed (unlike p.sign q.sign) p.size ≡ pos p.size
    same (inl e) = ap (λ (s : Bool). signed s p.size) e
    same (inr e) = ap (signed (unlike p.sign q.sign)) e ∙ signed_zero (unlike p.sign q.sign) ∙ ap pos (sym e)

    least : (pos 0 *ℤ pos q.size) ≤ℤ (pos p.size *ℤ pos W)
    least = record { le = le→leb (0 * q.size) (p.size * W) (le_trans (le_of_eq (zero-mul q.size)) zero-le) }

    most : (pos p.size *ℤ pos W) ≤ℤ (pos W *ℤ pos q.size)
    most = record { le = le→leb (p.size * W) (W * q.size) (le_trans (le_of_eq (mul_comm p.size W)) (mul-le-mul_left W h)) }

-- how far up the edge from height ay to height by the height py is
pub slope_part : {py ay by : Float} → Within 1000 py → Within 1000 ay → Within 1000 by → T (unlike (lt py ay) (lt py by))
    → ZeroToOne ((py ⊖ ay) ⊘ (by ⊖ ay))
slope_part p a b h =
    let n = sub_law p a tt tt in
    let d = sub_law b a tt tt in
    let between = straddled p a b h n d in
    quotient_part (sum_within 2000 n (both p.size a.size p.small a.small)) (sum_within 2000 d (both b.size a.size b.small a.small))
    (some d.exact d.size between.some d.near)
    (sizes_keep n.sign d.sign n.exact W d.exact W n.size d.size W-pos W-pos
    (subst (λ (x : Float). Val x n.sign n.size) n.same n.val) (subst (λ (x : Float). Val x d.sign d.size) d.same d.val)
    (mul-le-mul_right W between.less))
    (elim between.same [ inl e ↦ inl e | inr z ↦ inr (nothing_left n.exact n.size z n.near) ])
  where
    both : (a b : ℕ) → a ≤ 1000 * W → b ≤ 1000 * W → a + b ≤ 2000 * W
    both a b h k = omega arith

    some : (w g : ℕ) → 0 < w → Close g w w → 0 < g
    some w g h c = omega arith

    nothing_left : (w g : ℕ) → w ≡ 0 → Close g w w → g ≡ 0
    nothing_left w g e c = omega arith

-- ---- a clamped quotient

zero_number : T (not (is_nan zero_f))
unfolding of_bits is_nan
zero_number = tt

one_number : T (not (is_nan one_f))
unfolding of_bits is_nan
one_number = tt

zero_le_one : T (le zero_f one_f)
unfolding of_bits le lt eq
zero_le_one = tt

pub clamp_part : (q : Float) → T (fits binary64 q) → T (not (is_nan q)) → ZeroToOne (clamp_f q zero_f one_f)
unfolding clamp_f
clamp_part q f n = lower (lt q zero_f) (le_of_not_lt q zero_f f zero_fits n zero_number)
  where
    upper : (y : Float) → T (fits binary64 y) → T (not (is_nan y)) → T (le zero_f y) → ZeroToOne (cond (lt one_f y) one_f y)
    upper y f n h = go (lt one_f y) (le_of_not_lt one_f y one_fits f one_number n)
      where
        go : (b : Bool) → (T (not b) → T (le y one_f)) → ZeroToOne (cond b one_f y)
        go true k = zero_to_one one_f one_fits zero_le_one (le_self one_within)
        go false k = zero_to_one y f h (k tt)

    lower : (b : Bool) → (T (not b) → T (le zero_f q)) → ZeroToOne (cond (lt one_f (cond b zero_f q)) one_f (cond b zero_f q))
    lower true k = upper zero_f zero_fits zero_number (le_self zero_within)
    lower false k = upper q f n (k tt)

-- x / y is a number for a y above 0, though it may overflow
pub quotient_number : {J L : ℕ} {x y : Float} → Within J x → Within L y → T (not (le y zero_f)) → T (not (is_nan (x ⊘ y)))
unfolding is_nan
quotient_number {x = x} {y = y} p q h =
    let above = above_of_not_le y zero_f q.sign q.size 0 q.val zero_val h in
    let r = quotient_rounds p q above.1 in
    subst (λ (z : Float). T (not (is_nan z))) (sym r.same)
    (go (round binary64 r.sign r.size q.size) r.sign (round_either r.sign r.size q.size))
  where
    go : (z : Float) (s : Bool) → (z ≡ inf s) ⊎ ((n : ℕ) × Val z s n) → T (not (is_nan z))
    go nan s (inl e) = subst (λ (z : Float). T (not (is_nan z))) (sym e) tt
    go nan s (inr (n, v)) = absurd v
    go (inf t) s e = tt
    go (fin t m e) s v = tt
