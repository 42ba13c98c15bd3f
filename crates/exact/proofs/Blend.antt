-- A coordinate some part of the way from a to b as the code computes it, a + t·(b − a), for a and b within 1,000: `blend` says that it is within
-- 1,001, for all the rounding. `slope` says that a height between those of an edge's ends is such a part of the way. Roundings are taken
-- crudely, at one in a million each. Assumes nothing.
use Rattle.std.specs.Prelude.{◌≡◌, refl, ◌⊎◌, List, [], ◌∷◌, Bool, true, false, not, ℕ, zero, suc, ◌+◌, ◌*◌, ◌^◌, ◌≤◌, ◌<◌, T, ℤ, pos, neg_ℤ, ◌+ℤ◌, ◌*ℤ◌, ◌-ℤ◌, Float}
use Rattle.std.proofs.Common.{sym, ap, ap₂, ◌∙◌, subst, inl, inr, true≢false, le_trans, le_of_eq, add-mul, zero-mul, suc-mul, mul_comm, mul_assoc, mul-le-mul, mul-le-mul_right, mul-le-mul_left, le_of_mul-le-mul_right, arith, lit≤}
use Rattle.std.proofs.Math.Nat.{mul-mul-mul_comm}
use Rattle.std.proofs.Math.IntN.{neg_ℤ-neg_ℤ}
use Rattle.std.specs.Float.Ieee.{unlike, lt}
use Rattle.laws.proofs.RingBase.{Expr, var, num, ◌+ᵉ◌, ◌*ᵉ◌, ◌-ᵉ◌, neg}
use Rattle.laws.proofs.Ring.{ring}
use Rattle.laws.proofs.CertificateBase.{Nonneg, nonneg, not_nonneg, of_le, to_le, of-≤ℤ, hyp, nat, eqn, ◌⊞◌, ◌⊠◌, Hyps, Eqns, zero_of}
use Rattle.laws.proofs.Certificate.{of-<ℤ, prove}
use Rattle.numbers.specs.Float.{◌⊕◌, ◌⊖◌, ◌⊗◌, ◌⊘◌}
use Rattle.exact.proofs.Rounding.{Close}
use Rattle.exact.specs.Units.{W, W-pos, W-big, Val, signed, signed_not, units, Within, within_units}
use Rattle.exact.proofs.Order.{lt_val, not_lt_val}
use Rattle.exact.proofs.Operations.{mul_law, product_within, Sum, add_law, sub_law, sum_within, div_law}
use Rattle.exact.proofs.SineBounds.{mul_le}

-- ---- roundings

-- x is n within a millionth
abbrev pub Millionth : ℕ → ℕ → Type 0
Millionth x n = (1000000 * x ≤ 1000001 * n) × (999999 * n ≤ 1000000 * x)

pub millionth : (x n : ℕ) → Close x n n → Millionth x n
millionth x n h = omega arith

-- x is at most n and a millionth of it, and u besides
abbrev Over : ℕ → ℕ → ℕ → Type 0
Over x n u = 1000000 * x ≤ 1000001 * n + 1000000 * u

over : (x n u : ℕ) → Close x n (n + 2 ^ 52 * u) → Over x n u
over x n u h = go h.0
  where
    go : 2 ^ 53 * x ≤ 2 ^ 53 * n + (n + 2 ^ 52 * u) → 1000000 * x ≤ 1000001 * n + 1000000 * u
    go h = omega arith

-- what is close to 0, but for half of a step u, is no step
zero_close : (m u n : ℕ) → 0 < u → n ≡ 0 → Close (m * u) n (n + 2 ^ 52 * u) → m ≡ 0
zero_close zero u n U e c = refl
zero_close (suc m) u n U e c = absurd (no (m * u) (subst (λ (z : ℕ). 2 ^ 53 * z ≤ 2 ^ 53 * n + (n + 2 ^ 52 * u)) (suc-mul m u) c.0))
  where
    no : (x : ℕ) → 2 ^ 53 * (x + u) ≤ 2 ^ 53 * n + (n + 2 ^ 52 * u) → ⊥
    no x l = omega arith

-- ---- P lies between A and B

-- u and n are the sign and the size of P - A, and v and d those of B - A
pub record Part (u v : Bool) (n d : ℕ) : Type 0 where
  pub less : n ≤ d
  pub some : 0 < d
  pub same : (unlike u v ≡ false) ⊎ (n ≡ 0)

nonneg_sign : (u : Bool) (w : ℕ) → Nonneg (signed u w) → (pos w ≡ signed u w) × ((u ≡ false) ⊎ (w ≡ 0))
nonneg_sign false w h = (refl, inl refl)
nonneg_sign true zero h = (refl, inr refl)
nonneg_sign true (suc w) h = absurd (not_nonneg h)

-- X < Y, so X ≤ Y
weaken : (X Y : ℤ) → Nonneg (Y -ℤ X -ℤ pos 1) → Nonneg (Y -ℤ X)
weaken X Y h = prove (X ∷ Y ∷ []) ((var 1 -ᵉ var 0 -ᵉ num 1) ∷ []) (h, tt) [] tt 0 (var 1 -ᵉ var 0) (hyp 0 ⊞ nat 1) tt

-- A ≤ P ≤ B and A < B
part_up : (P A B : ℤ) (u v : Bool) (n d : ℕ) → signed u n ≡ P -ℤ A → signed v d ≡ B -ℤ A
    → Nonneg (P -ℤ A) → Nonneg (B -ℤ P) → Nonneg (B -ℤ A -ℤ pos 1) → Part u v n d
part_up P A B u v n d e f h k l =
    let x = nonneg_sign u n (subst Nonneg (sym e) h) in
    let y = nonneg_sign v d (subst Nonneg (sym f) (weaken A B l)) in
    let ρ = P ∷ A ∷ B ∷ pos n ∷ pos d ∷ [] in
    let hs = (var 2 -ᵉ var 0) ∷ (var 2 -ᵉ var 1 -ᵉ num 1) ∷ [] in
    let es = (var 3 -ᵉ (var 0 -ᵉ var 1)) ∷ (var 4 -ᵉ (var 2 -ᵉ var 1)) ∷ [] in
    let exact : Eqns ρ es = (zero_of (x.0 ∙ e), (zero_of (y.0 ∙ f), tt)) in
    let some : 0 < d = to_le 1 d (prove ρ hs (k, (l, tt)) es exact 0 (var 4 -ᵉ num 1) (hyp 1 ⊞ eqn 1 (num 1)) tt) in
    record {
      less = to_le n d (prove ρ hs (k, (l, tt)) es exact 0 (var 4 -ᵉ var 3) (hyp 0 ⊞ eqn 1 (num 1) ⊞ eqn 0 (neg (num 1))) tt);
      some = some;
      same = signs x.1 y.1 some;
    }
  where
    signs : (u ≡ false) ⊎ (n ≡ 0) → (v ≡ false) ⊎ (d ≡ 0) → 0 < d → (unlike u v ≡ false) ⊎ (n ≡ 0)
    signs (inl p) (inl q) s = inl (ap₂ unlike p q)
    signs (inl p) (inr q) s = absurd (omega arith)
    signs (inr p) q s = inr p

-- B ≤ P ≤ A and B < A: the same of the negated ones
part_down : (P A B : ℤ) (u v : Bool) (n d : ℕ) → signed u n ≡ P -ℤ A → signed v d ≡ B -ℤ A
    → Nonneg (A -ℤ P) → Nonneg (P -ℤ B) → Nonneg (A -ℤ B -ℤ pos 1) → Part u v n d
part_down P A B u v n d e f h k l =
    let p = part_up (neg_ℤ P) (neg_ℤ A) (neg_ℤ B) (not u) (not v) n d (mirror P u n e) (mirror B v d f) (turn P A h) (turn B P k)
    (prove (A ∷ B ∷ []) ((var 0 -ᵉ var 1 -ᵉ num 1) ∷ []) (l, tt) [] tt 0 (neg (var 1) -ᵉ neg (var 0) -ᵉ num 1) (hyp 0) tt) in
    record { less = p.less; some = p.some; same = elim p.same [ inl s ↦ inl (sym (unlike_not u v) ∙ s) | inr z ↦ inr z ] }
  where
    unlike_not : (u v : Bool) → unlike (not u) (not v) ≡ unlike u v
    unlike_not true true = refl
    unlike_not true false = refl
    unlike_not false true = refl
    unlike_not false false = refl

    mirror : (X : ℤ) (t : Bool) (b : ℕ) → signed t b ≡ X -ℤ A → signed (not t) b ≡ neg_ℤ X -ℤ neg_ℤ A
    mirror X t b e = signed_not t b ∙ ap neg_ℤ e ∙ ring (X ∷ A ∷ []) (neg (var 0 -ᵉ var 1)) (neg (var 0) -ᵉ neg (var 1)) tt

    turn : (X Y : ℤ) → Nonneg (Y -ℤ X) → Nonneg (neg_ℤ X -ℤ neg_ℤ Y)
    turn X Y h = prove (X ∷ Y ∷ []) ((var 1 -ᵉ var 0) ∷ []) (h, tt) [] tt 0 (neg (var 0) -ᵉ neg (var 1)) (hyp 0) tt

-- ---- t, a part of the way: from 0 to 1, and a little; what has a minus sign is 0

pub record Fraction (t : Float) : Type 0 where
  pub sign : Bool
  pub size : ℕ
  pub val : Val t sign size
  pub small : 1000000 * size ≤ 1000005 * W
  pub plus : (sign ≡ false) ⊎ (size ≡ 0)

-- g and k are n and d rounded, and t is g / k rounded
quotient_small : (t g k : ℕ) → 0 < k → 1000000 * g ≤ 1000003 * k → Over (t * k) (g * W) k → 1000000 * t ≤ 1000005 * W
quotient_small t g k K h c =
    let l = le_trans (le_of_eq (sym (mul_assoc 1000000 g W))) (le_trans (mul-le-mul_right W h) (le_of_eq (mul_assoc 1000003 k W))) in
    let unit = le_trans (le_of_eq (mul_comm 10000000 k)) (mul-le-mul_left k (le_trans (lit≤ tt) W-big)) in
    le_of_mul-le-mul_right
    (le_trans (le_of_eq (mul_assoc 1000000 t k))
    (le_trans (go (t * k) (g * W) (k * W) c l unit) (le_of_eq (ap (λ (z : ℕ). 1000005 * z) (mul_comm k W) ∙ sym (mul_assoc 1000005 W k))))) K
  where
    go : (x y z : ℕ) → 1000000 * x ≤ 1000001 * y + 1000000 * k → 1000000 * y ≤ 1000003 * z → 10000000 * k ≤ z → 1000000 * x ≤ 1000005 * z
    go x y z h l m = omega arith

-- the quotient of two doubles that are n and d rounded
pub fraction : (x y : Float) (u v : Bool) (n d g k : ℕ) → Val x u g → Val y v k → Millionth g n → Millionth k d → Part u v n d → Fraction (x ⊘ y)
fraction x y u v n d g k p q rn rd b =
    let K = positive b.some rd in
    let r = ratio b.less rn rd in
    let t = div_law x y u v g k p q K (room r) in
    record {
      sign = unlike u v;
      size = t.size;
      val = t.val;
      small = quotient_small t.size g k K r (over (t.size * k) (g * W) k t.near);
      plus = elim b.same [ inl e ↦ inl e | inr z ↦ inr (zero_close t.size k (g * W) K (nothing z) t.near) ];
    }
  where
    positive : 0 < d → Millionth k d → 0 < k
    positive h r = omega arith

    ratio : n ≤ d → Millionth g n → Millionth k d → 1000000 * g ≤ 1000003 * k
    ratio h p q = omega arith

    nothing : n ≡ 0 → g * W ≡ 0
    nothing e = ap (λ (z : ℕ). z * W) none ∙ zero-mul W
      where
        none : g ≡ 0
        none = omega (arith, rn)

    room : 1000000 * g ≤ 1000003 * k → g ≤ 2 ^ 400 * k
    room h = le_trans two (mul-le-mul_right k (lit≤ tt))
      where
        two : g ≤ 2 * k
        two = omega arith

-- the edge from height ay to height by straddles the height py, so that lies between them
pub straddled : {J K L m l : ℕ} {py ay by x y : Float} → Within J py → Within K ay → Within L by → T (unlike (lt py ay) (lt py by))
    → (n : Sum (units py -ℤ units ay) m x) (d : Sum (units by -ℤ units ay) l y) → Part n.sign d.sign n.exact d.exact
straddled {py = py} {ay = ay} {by = by} p a b h n d = part (lt py ay) (lt py by) refl refl h
  where
    P : ℤ
    P = units py

    A : ℤ
    A = units ay

    B : ℤ
    B = units by

    below : {K L : ℕ} {x y : Float} (p : Within K x) (q : Within L y) → lt x y ≡ true → Nonneg (units y -ℤ units x -ℤ pos 1)
    below {x = x} {y = y} p q e =
        rw (within_units p, within_units q)
        (of-<ℤ ((lt_val x y p.sign q.sign p.size q.size p.val q.val).0 (subst T (sym e) tt)))

    above : {K L : ℕ} {x y : Float} (p : Within K x) (q : Within L y) → lt x y ≡ false → Nonneg (units x -ℤ units y)
    above {x = x} {y = y} p q e =
        rw (within_units p, within_units q)
        (of-≤ℤ ((not_lt_val x y p.sign q.sign p.size q.size p.val q.val).0 (subst (λ (c : Bool). T (not c)) (sym e) tt)))

    -- X ≤ Y < Z
    chain : (X Y Z : ℤ) → Nonneg (Y -ℤ X) → Nonneg (Z -ℤ Y -ℤ pos 1) → Nonneg (Z -ℤ X -ℤ pos 1)
    chain X Y Z h k =
        prove (X ∷ Y ∷ Z ∷ []) ((var 1 -ᵉ var 0) ∷ (var 2 -ᵉ var 1 -ᵉ num 1) ∷ []) (h, (k, tt)) [] tt 0 (var 2 -ᵉ var 0 -ᵉ num 1)
        (hyp 0 ⊞ hyp 1) tt

    part : (f g : Bool) → lt py ay ≡ f → lt py by ≡ g → T (unlike f g) → Part n.sign d.sign n.exact d.exact
    part true true e e' h = absurd h
    part false false e e' h = absurd h
    part true false e e' h =
        let less = below p a e in
        let more = above p b e' in
        part_down P A B n.sign d.sign n.exact d.exact n.is d.is (weaken P A less) more (chain B P A more less)
    part false true e e' h =
        let less = below p b e' in
        let more = above p a e in
        part_up P A B n.sign d.sign n.exact d.exact n.is d.is more (weaken P B less) (chain A P B more less)

-- how far up the edge from height ay to height by the height py is
pub slope : (py ay by : Float) → Within 1000 py → Within 1000 ay → Within 1000 by → T (unlike (lt py ay) (lt py by))
    → Fraction ((py ⊖ ay) ⊘ (by ⊖ ay))
slope py ay by p a b h =
    let n = sub_law p a tt tt in
    let d = sub_law b a tt tt in
    fraction (py ⊖ ay) (by ⊖ ay) n.sign d.sign n.exact d.exact n.size d.size n.val d.val
    (millionth n.size n.exact n.near) (millionth d.size d.exact d.near) (straddled p a b h n d)

-- ---- whole numbers from -c to c

record Between (c : ℕ) (z : ℤ) : Type 0 where
  high : Nonneg (pos c -ℤ z)
  low : Nonneg (pos c +ℤ z)

between_neg : (c : ℕ) (z : ℤ) → Between c z → Between c (neg_ℤ z)
between_neg c z b = record {
  high = prove (pos c ∷ z ∷ []) ((var 0 +ᵉ var 1) ∷ []) (b.low, tt) [] tt 0 (var 0 -ᵉ neg (var 1)) (hyp 0) tt;
  low = prove (pos c ∷ z ∷ []) ((var 0 -ᵉ var 1) ∷ []) (b.high, tt) [] tt 0 (var 0 +ᵉ neg (var 1)) (hyp 0) tt;
}

between_signed : (s : Bool) (n c : ℕ) → n ≤ c → Between c (signed s n)
between_signed false n c h = record { high = of_le h; low = nonneg (c + n) }
between_signed true n c h = between_neg c (pos n) (record { high = of_le h; low = nonneg (c + n) })

between_within : {K : ℕ} {x : Float} → Within K x → Between (K * W) (units x)
between_within {K} {x} p = subst (Between (K * W)) (sym (within_units p)) (between_signed p.sign p.size (K * W) p.small)

between_size : (s : Bool) (n c k : ℕ) → Between c (pos k *ℤ signed s n) → k * n ≤ c
between_size false n c k b = to_le (k * n) c b.high
between_size true n c k b =
    to_le (k * n) c
    (prove (pos c ∷ pos k ∷ pos n ∷ []) ((var 0 +ᵉ var 1 *ᵉ neg (var 2)) ∷ []) (b.low, tt) [] tt 0 (var 0 -ᵉ var 1 *ᵉ var 2) (hyp 0) tt)

-- ---- the sum a + m, where m has the sign of b - a and is at most its size w, and a little

blend_up : (A B : ℤ) (w m K : ℕ) → Between K A → Between K B → pos w ≡ B -ℤ A → 1000000 * m ≤ 1000020 * w + 1000000
    → Between (1000040 * K + 1000000) (pos 1000000 *ℤ (A +ℤ pos m))
blend_up A B w m K a b e h = record {
  high =
      prove ρ hs hyps es (zero_of (sym e), tt) 0 (num 1000040 *ᵉ var 4 +ᵉ num 1000000 -ᵉ num 1000000 *ᵉ (var 0 +ᵉ var 3))
      (nat 1000020 ⊠ hyp 1 ⊞ nat 20 ⊠ hyp 0 ⊞ hyp 2 ⊞ eqn 0 (num 1000020)) tt;
  low =
      prove ρ hs hyps es (zero_of (sym e), tt) 0 (num 1000040 *ᵉ var 4 +ᵉ num 1000000 +ᵉ num 1000000 *ᵉ (var 0 +ᵉ var 3))
      (nat 1000000 ⊠ hyp 0 ⊞ nat 40 ⊠ hyp 4 ⊞ nat 1000000 ⊞ nat 1000000 ⊠ hyp 3) tt;
}
  where
    ρ : List ℤ
    ρ = A ∷ B ∷ pos w ∷ pos m ∷ pos K ∷ []

    hs : List Expr
    hs = (var 4 +ᵉ var 0) ∷ (var 4 -ᵉ var 1) ∷ (num 1000020 *ᵉ var 2 +ᵉ num 1000000 -ᵉ num 1000000 *ᵉ var 3) ∷ var 3 ∷ var 4 ∷ []

    es : List Expr
    es = (var 1 -ᵉ var 0 -ᵉ var 2) ∷ []

    hyps : Hyps ρ hs
    hyps = (a.low, (b.high, (of_le h, (nonneg m, (nonneg K, tt)))))

blend_between : (A B : ℤ) (s : Bool) (w m K : ℕ) → Between K A → Between K B → signed s w ≡ B -ℤ A → 1000000 * m ≤ 1000020 * w + 1000000
    → Between (1000040 * K + 1000000) (pos 1000000 *ℤ (A +ℤ signed s m))
blend_between A B false w m K a b e h = blend_up A B w m K a b e h
blend_between A B true w m K a b e h =
    subst (Between (1000040 * K + 1000000))
    (ring (A ∷ pos m ∷ []) (neg (num 1000000 *ᵉ (neg (var 0) +ᵉ var 1))) (num 1000000 *ᵉ (var 0 +ᵉ neg (var 1))) tt)
    (between_neg (1000040 * K + 1000000) (pos 1000000 *ℤ (neg_ℤ A +ℤ pos m))
    (blend_up (neg_ℤ A) (neg_ℤ B) w m K (between_neg K A a) (between_neg K B b) mirrored h))
  where
    mirrored : pos w ≡ neg_ℤ B -ℤ neg_ℤ A
    mirrored = sym (neg_ℤ-neg_ℤ (pos w)) ∙ ap neg_ℤ e ∙ ring (A ∷ B ∷ []) (neg (var 1 -ᵉ var 0)) (neg (var 1) -ᵉ neg (var 0)) tt

-- ---- the product of t and a step that is w units exactly and g rounded

product_over : (t g w m : ℕ) → 1000000 * t ≤ 1000005 * W → Millionth g w → Over (m * W) (t * g) W → 1000000 * m ≤ 1000020 * w + 1000000
product_over t g w m h r c =
    let l = le_trans (mul_le t W g w 1000000 1000005 1000000 1000001 h r.0) (le_of_eq (ap (λ (z : ℕ). 1000006000005 * z) (mul_comm W w))) in
    let split = add-mul (1000020 * w) 1000000 W ∙ ap (λ (z : ℕ). z + 1000000 * W) (mul_assoc 1000020 w W) in
    le_of_mul-le-mul_right
    (le_trans (le_of_eq (mul_assoc 1000000 m W)) (le_trans (go (m * W) (t * g) (w * W) c l) (le_of_eq (sym split)))) W-pos
  where
    go : (x y z : ℕ) → 1000000 * x ≤ 1000001 * y + 1000000 * W → 1000000000000 * y ≤ 1000006000005 * z → 1000000 * x ≤ 1000020 * z + 1000000 * W
    go x y z h k = omega arith

-- the product has the step's sign, or is 0
sign_same : (u s : Bool) (m : ℕ) → (u ≡ false) ⊎ (m ≡ 0) → signed (unlike u s) m ≡ signed s m
sign_same false true m p = refl
sign_same false false m p = refl
sign_same true s m (inl e) = absurd (true≢false e)
sign_same true s m (inr e) = subst (λ (z : ℕ). signed (unlike true s) z ≡ signed s z) (sym e) (none s)
  where
    none : (s : Bool) → signed (unlike true s) 0 ≡ signed s 0
    none true = refl
    none false = refl

-- ---- the theorem

pub blend : (t a b : Float) → Fraction t → Within 1000 a → Within 1000 b → Within 1001 (a ⊕ t ⊗ (b ⊖ a))
blend t a b f p q =
    let d = sub_law q p tt tt in
    let D = sum_within 2000 d (both q.size p.size q.small p.small) in
    let F : Within 2 t = record { sign = f.sign; size = f.size; val = f.val; small = two f.size f.small } in
    let m = mul_law F D tt tt in
    let M = product_within 8000 m (le_trans (mul-le-mul F.small D.small) (le_of_eq (mul-mul-mul_comm 2 W 4000 W))) in
    let s = add_law p M tt tt in
    let n = f.size * d.size in
    let none : f.size ≡ 0 → m.size ≡ 0 = λ e. zero_close m.size W n W-pos (ap (λ (z : ℕ). z * d.size) e ∙ zero-mul d.size) m.near in
    let same = sign_same f.sign d.sign m.size (elim f.plus [ inl e ↦ inl e | inr e ↦ inr (none e) ]) in
    let near = millionth d.size d.exact d.near in
    let product = product_over f.size d.size d.exact m.size f.small near (over (m.size * W) n W m.near) in
    let between =
    blend_between (units a) (units b) d.sign d.exact m.size (1000 * W) (between_within p) (between_within q) d.is product in
    let is : units a +ℤ signed d.sign m.size ≡ signed s.sign s.exact =
    ap (λ (z : ℤ). units a +ℤ z) (sym (within_units M ∙ same)) ∙ sym s.is in
    let c = 1000040 * (1000 * W) + 1000000 in
    let small = between_size s.sign s.exact c 1000000 (subst (λ (z : ℤ). Between c (pos 1000000 *ℤ z)) is between) in
    record { sign = s.sign; size = s.size; val = s.val; small = last s.exact s.size small (millionth s.size s.exact s.near) }
  where
    both : (a b : ℕ) → a ≤ 1000 * W → b ≤ 1000 * W → a + b ≤ 2000 * W
    both a b h k = omega arith

    two : (n : ℕ) → 1000000 * n ≤ 1000005 * W → n ≤ 2 * W
    two n h = omega arith

    last : (w g : ℕ) → 1000000 * w ≤ 1000040 * (1000 * W) + 1000000 → Millionth g w → g ≤ 1001 * W
    last w g h r = omega (arith, le_trans (lit≤ {m = 1000000} tt) W-big)
