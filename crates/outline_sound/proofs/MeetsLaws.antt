-- What holds of the definitions of specs/MeetsLaws.antt.
use Rattle.std.specs.Prelude.{◌≡◌, not, ◌↔◌, List, [], ◌∷◌, ℕ, ◌+◌, ◌≤◌, ◌<◌, T, ℤ, neg_ℤ, nat_abs, ◌+ℤ◌, ◌*ℤ◌, ◌-ℤ◌, ◌≤ℤ◌, ◌<ℤ◌}
use Rattle.std.proofs.Common.{sym, ap, ap₂, ◌∙◌, subst, inl, inr, arith}
use Rattle.std.proofs.Math.IntN.{pos, ℤ_discrete}
use Rattle.laws.proofs.Integer.{eq_of_sub}
use Rattle.laws.proofs.RingBase.{Expr, var, num, ◌+ᵉ◌, ◌*ᵉ◌, ◌-ᵉ◌, neg}
use Rattle.laws.proofs.Ring.{ring}
use Rattle.laws.proofs.CertificateBase.{Nonneg, nonneg, nonneg_is, not_nonneg, to_le, of-≤ℤ, to-≤ℤ, <ℤ_or-≤ℤ, sign, hyp, nat, ◌⊞◌, ◌⊠◌}
use Rattle.laws.proofs.Certificate.{of-<ℤ, to-<ℤ, ≤ℤ_antisym}
use Rattle.laws.proofs.CertificateBase.{eqn, zero_of}
use Rattle.laws.proofs.Certificate.{prove}
use Rattle.exact.specs.Corner.{Vector, cross}
use Rattle.outline_orientation.specs.Orient.{orient}
use Rattle.outline_sound.specs.Sound.{overlap, parted, meets}
use Rattle.outline_sound.specs.Zero.{vanishes, cancel}
use Rattle.outline_sound.specs.OverlapLaws.{Level, Weights, Common, common, weights_flip, common_flip, some_ℤ, overlap_common}
use Rattle.outline_sound.specs.MeetsLaws.{Shares, shares_of, weights_of, shares_flip, places, xᵉ, yᵉ, orientᵉ, Straddle, not_parted, MeetsParts, four}

-- ---- from the point to the turns

abbrev levelᵉ : (ℕ → Expr) → (i' i j' j : Expr) → Expr
levelᵉ w i' i j' j = i' *ᵉ w 0 +ᵉ i *ᵉ w 1 -ᵉ (j' *ᵉ w 2 +ᵉ j *ᵉ w 3)

module _ (a b c d : Vector) (i' i j' j : ℕ) (w : Weights i' i j' j) (x : Level i' i j' j a.x b.x c.x d.x) where
  -- the weights as variables, and what is known of them
  abbrev ρ : List ℤ
  ρ = places a b c d (pos i' ∷ pos i ∷ pos j' ∷ pos j ∷ [])

  abbrev xᵉ_level : Expr
  xᵉ_level = levelᵉ xᵉ (var 8) (var 9) (var 10) (var 11)

  abbrev yᵉ_level : Expr
  yᵉ_level = levelᵉ yᵉ (var 8) (var 9) (var 10) (var 11)

  abbrev evenᵉ : Expr
  evenᵉ = var 8 +ᵉ var 9 -ᵉ (var 10 +ᵉ var 11)

  -- how far the line of a and b passes from the origin
  abbrev originᵉ : Expr
  originᵉ = (xᵉ 1 -ᵉ xᵉ 0) *ᵉ yᵉ 0 -ᵉ (yᵉ 1 -ᵉ yᵉ 0) *ᵉ xᵉ 0

  -- a common point is on the line of a and b, so the turns of c and d, weighed, cancel out
  orient_level : Level i' i j' j a.y b.y c.y d.y → pos j' *ℤ orient a b c +ℤ pos j *ℤ orient a b d ≡ pos 0
  unfolding orient cross
  orient_level y =
      vanishes ρ (xᵉ_level ∷ yᵉ_level ∷ evenᵉ ∷ []) (zero_of x, (zero_of y, (zero_of (ap pos w.even), tt)))
      (var 10 *ᵉ orientᵉ 0 1 2 +ᵉ var 11 *ᵉ orientᵉ 0 1 3) ((yᵉ 1 -ᵉ yᵉ 0) ∷ neg (xᵉ 1 -ᵉ xᵉ 0) ∷ originᵉ ∷ []) tt

  -- c and d lie in the line of a and b: what is level in x is level in y, unless the line is upright
  upright : orient a b c ≡ pos 0 → orient a b d ≡ pos 0
      → (b.x -ℤ a.x) *ℤ (pos i' *ℤ a.y +ℤ pos i *ℤ b.y -ℤ (pos j' *ℤ c.y +ℤ pos j *ℤ d.y)) ≡ pos 0
  unfolding orient cross
  upright p q =
      vanishes ρ (xᵉ_level ∷ evenᵉ ∷ orientᵉ 0 1 2 ∷ orientᵉ 0 1 3 ∷ []) (zero_of x, (zero_of (ap pos w.even), (p, (q, tt))))
      ((xᵉ 1 -ᵉ xᵉ 0) *ᵉ yᵉ_level) ((yᵉ 1 -ᵉ yᵉ 0) ∷ originᵉ ∷ neg (var 10) ∷ neg (var 11) ∷ []) tt

-- two numbers above 0 don't, nor do two below 0
above : (j' j : ℕ) (p q : ℤ) → 0 < j' + j → pos j' *ℤ p +ℤ pos j *ℤ q ≡ pos 0 → pos 0 <ℤ p → pos 0 <ℤ q → ⊥
above j' j p q s e hp hq =
    not_nonneg {n = 0}
    (prove (pos j' ∷ pos j ∷ p ∷ q ∷ [])
    (var 0 ∷ var 1 ∷ (var 2 -ᵉ num 0 -ᵉ num 1) ∷ (var 3 -ᵉ num 0 -ᵉ num 1) ∷ (var 0 +ᵉ var 1 -ᵉ num 1) ∷ [])
    (nonneg j', (nonneg j, (of-<ℤ hp, (of-<ℤ hq, (some_ℤ j' j s, tt))))) ((var 0 *ᵉ var 2 +ᵉ var 1 *ᵉ var 3) ∷ []) (e, tt) 0
    (neg (num 1)) (hyp 0 ⊠ hyp 2 ⊞ hyp 1 ⊠ hyp 3 ⊞ hyp 4 ⊞ eqn 0 (neg (num 1))) tt)

below : (j' j : ℕ) (p q : ℤ) → 0 < j' + j → pos j' *ℤ p +ℤ pos j *ℤ q ≡ pos 0 → p <ℤ pos 0 → q <ℤ pos 0 → ⊥
below j' j p q s e hp hq =
    not_nonneg {n = 0}
    (prove (pos j' ∷ pos j ∷ p ∷ q ∷ [])
    (var 0 ∷ var 1 ∷ (num 0 -ᵉ var 2 -ᵉ num 1) ∷ (num 0 -ᵉ var 3 -ᵉ num 1) ∷ (var 0 +ᵉ var 1 -ᵉ num 1) ∷ [])
    (nonneg j', (nonneg j, (of-<ℤ hp, (of-<ℤ hq, (some_ℤ j' j s, tt))))) ((var 0 *ᵉ var 2 +ᵉ var 1 *ᵉ var 3) ∷ []) (e, tt) 0
    (neg (num 1)) (hyp 0 ⊠ hyp 2 ⊞ hyp 1 ⊠ hyp 3 ⊞ hyp 4 ⊞ eqn 0 (num 1)) tt)

level_straddles : (a b c d : Vector) (i' i j' j : ℕ) → Weights i' i j' j
    → Level i' i j' j a.x b.x c.x d.x → Level i' i j' j a.y b.y c.y d.y → Straddle (orient a b c) (orient a b d)
level_straddles a b c d i' i j' j w x y =
    let e = orient_level a b c d i' i j' j w x y in
    let s : 0 < j' + j = omega (arith, w.some, w.even) in
    record { not_above = above j' j (orient a b c) (orient a b d) s e; not_below = below j' j (orient a b c) (orient a b d) s e }

pub meets_parts : (a b c d : Vector) → T (meets a b c d) ↔ MeetsParts a b c d
unfolding meets
meets_parts a b c d =
    let f = four (overlap a.x b.x c.x d.x) (overlap a.y b.y c.y d.y) (not (parted a b c d)) (not (parted c d a b)) in (
      λ t. let h = f.0 t in record { x = h.0; y = h.1; first = (not_parted a b c d).0 h.2; second = (not_parted c d a b).0 h.3 },
      λ h. f.1 (h.x, h.y, (not_parted a b c d).1 h.first, (not_parted c d a b).1 h.second),
    )

pub shares_parts : (a b c d : Vector) → Shares a b c d → MeetsParts a b c d
shares_parts a b c d h =
    let w = weights_of h in
    record {
      x = (overlap_common a.x b.x c.x d.x).1 (common _ _ _ _ w h.x);
      y = (overlap_common a.y b.y c.y d.y).1 (common _ _ _ _ w h.y);
      first = level_straddles a b c d _ _ _ _ w h.x h.y;
      second = level_straddles c d a b _ _ _ _ (weights_flip w) (sym h.x) (sym h.y);
    }

-- ---- from the signs to the point: the turns are the weights

-- r and s weigh b and a as q and p weigh c and d
record Balanced (a b c d : Vector) (p q r s : ℤ) : Type 0 where
  pub even : r -ℤ s ≡ q -ℤ p
  pub x : r *ℤ b.x -ℤ s *ℤ a.x ≡ q *ℤ c.x -ℤ p *ℤ d.x
  pub y : r *ℤ b.y -ℤ s *ℤ a.y ≡ q *ℤ c.y -ℤ p *ℤ d.y

-- p, q, r, s and four coordinates as variables
abbrev balanceᵉ : Expr → Expr → Expr → Expr → Expr
balanceᵉ p q r s = r *ᵉ var 5 -ᵉ s *ᵉ var 4 -ᵉ (q *ᵉ var 6 -ᵉ p *ᵉ var 7)

module _ (a b c d : Vector) where
  turns_balanced : Balanced a b c d (orient a b c) (orient a b d) (orient c d a) (orient c d b)
  unfolding orient cross
  turns_balanced =
      record {
        even = ring (places a b c d []) (orientᵉ 2 3 0 -ᵉ orientᵉ 2 3 1) (orientᵉ 0 1 3 -ᵉ orientᵉ 0 1 2) tt;
        x = ring (places a b c d []) (orientᵉ 2 3 0 *ᵉ xᵉ 1 -ᵉ orientᵉ 2 3 1 *ᵉ xᵉ 0) (orientᵉ 0 1 3 *ᵉ xᵉ 2 -ᵉ orientᵉ 0 1 2 *ᵉ xᵉ 3) tt;
        y = ring (places a b c d []) (orientᵉ 2 3 0 *ᵉ yᵉ 1 -ᵉ orientᵉ 2 3 1 *ᵉ yᵉ 0) (orientᵉ 0 1 3 *ᵉ yᵉ 2 -ᵉ orientᵉ 0 1 2 *ᵉ yᵉ 3) tt;
      }

  -- p ≤ 0 ≤ q and s ≤ 0 ≤ r, not all of them 0
  weighing : {p q r s : ℤ} → Balanced a b c d p q r s → Nonneg (neg_ℤ p) → Nonneg q → Nonneg r → Nonneg (neg_ℤ s) → Nonneg (q -ℤ p -ℤ pos 1)
      → Shares a b c d
  weighing {p} {q} {r} {s} bal np nq nr ns h =
      let P = nonneg_is np in
      let Q = nonneg_is nq in
      let R = nonneg_is nr in
      let S = nonneg_is ns in
      let even : pos (S.0 + R.0) ≡ pos (Q.0 + P.0) =
      eq_of_sub _ _
      (vanishes (p ∷ q ∷ r ∷ s ∷ pos S.0 ∷ pos R.0 ∷ pos Q.0 ∷ pos P.0 ∷ [])
      ((var 2 -ᵉ var 3 -ᵉ (var 1 -ᵉ var 0)) ∷ (neg (var 3) -ᵉ var 4) ∷ (var 2 -ᵉ var 5) ∷ (var 1 -ᵉ var 6) ∷ (neg (var 0) -ᵉ var 7) ∷ [])
      (zero_of bal.even, (zero_of S.1, (zero_of R.1, (zero_of Q.1, (zero_of P.1, tt)))))
      (var 4 +ᵉ var 5 -ᵉ (var 6 +ᵉ var 7)) (num 1 ∷ neg (num 1) ∷ neg (num 1) ∷ num 1 ∷ num 1 ∷ []) tt) in
      let some : 1 ≤ Q.0 + P.0 = to_le 1 (Q.0 + P.0) (subst Nonneg (ap₂ (λ (u v : ℤ). u +ℤ v -ℤ pos 1) Q.1 P.1) h) in
      shares_of a b c d (weights S.0 R.0 Q.0 P.0 (ap nat_abs even) some)
      (each a.x b.x c.x d.x P.1 Q.1 R.1 S.1 bal.x) (each a.y b.y c.y d.y P.1 Q.1 R.1 S.1 bal.y)
    where
      weights : (i' i j' j : ℕ) → i' + i ≡ j' + j → 1 ≤ j' + j → Weights i' i j' j
      weights i' i j' j e h = record { some = omega arith; even = e }

      each : {P Q R S : ℕ} (u v m n : ℤ) → neg_ℤ p ≡ pos P → q ≡ pos Q → r ≡ pos R → neg_ℤ s ≡ pos S
          → r *ℤ v -ℤ s *ℤ u ≡ q *ℤ m -ℤ p *ℤ n → Level S R Q P u v m n
      each u v m n ep eq er es e =
          ap₂ (λ (y z : ℤ). y *ℤ u +ℤ z *ℤ v) (sym es) (sym er)
          ∙ eq_of_sub _ _
          (vanishes (p ∷ q ∷ r ∷ s ∷ u ∷ v ∷ m ∷ n ∷ []) (balanceᵉ (var 0) (var 1) (var 2) (var 3) ∷ []) (zero_of e, tt)
          (neg (var 3) *ᵉ var 4 +ᵉ var 2 *ᵉ var 5 -ᵉ (var 1 *ᵉ var 6 +ᵉ neg (var 0) *ᵉ var 7)) (num 1 ∷ []) tt)
          ∙ ap₂ (λ (y z : ℤ). y *ℤ m +ℤ z *ℤ n) eq ep

-- of two numbers that straddle 0, the smaller is not above it and the larger is not below it
straddle_low : (p q : ℤ) → Straddle p q → Nonneg (q -ℤ p -ℤ pos 1) → Nonneg (neg_ℤ p)
straddle_low p q s h =
    elim (sign (neg_ℤ p)) [
      | inl n ↦ n
      | inr n ↦ absurd
          (s.not_above (to-<ℤ (prove (p ∷ q ∷ []) ((neg (neg (var 0)) -ᵉ num 1) ∷ []) (n, tt) [] tt 0 (var 0 -ᵉ num 0 -ᵉ num 1) (hyp 0) tt))
          (to-<ℤ
          (prove (p ∷ q ∷ []) ((neg (neg (var 0)) -ᵉ num 1) ∷ (var 1 -ᵉ var 0 -ᵉ num 1) ∷ []) (n, (h, tt)) [] tt 0 (var 1 -ᵉ num 0 -ᵉ num 1)
          (hyp 0 ⊞ hyp 1 ⊞ nat 1) tt)))
    ]

straddle_high : (p q : ℤ) → Straddle p q → Nonneg (q -ℤ p -ℤ pos 1) → Nonneg q
straddle_high p q s h =
    elim (sign q) [
      | inl n ↦ n
      | inr n ↦ absurd
          (s.not_below
          (to-<ℤ
          (prove (p ∷ q ∷ []) ((neg (var 1) -ᵉ num 1) ∷ (var 1 -ᵉ var 0 -ᵉ num 1) ∷ []) (n, (h, tt)) [] tt 0 (num 0 -ᵉ var 0 -ᵉ num 1)
          (hyp 0 ⊞ hyp 1 ⊞ nat 1) tt))
          (to-<ℤ (prove (p ∷ q ∷ []) ((neg (var 1) -ᵉ num 1) ∷ []) (n, tt) [] tt 0 (num 0 -ᵉ var 1 -ᵉ num 1) (hyp 0) tt)))
    ]

-- and of two that are equal both are 0
straddle_zero : (p q : ℤ) → Straddle p q → p ≡ q → p ≡ pos 0
straddle_zero p q s e =
    elim (<ℤ_or-≤ℤ (pos 0) p) [
      | inl h ↦ absurd (s.not_above h (subst (λ (z : ℤ). pos 0 <ℤ z) e h))
      | inr h ↦ elim (<ℤ_or-≤ℤ p (pos 0)) [
        | inl k ↦ absurd (s.not_below k (subst (λ (z : ℤ). z <ℤ pos 0) e k))
        | inr k ↦ ≤ℤ_antisym h k
      ]
    ]

swap : {p q : ℤ} → Straddle p q → Straddle q p
swap s = record { not_above = λ h k. s.not_above k h; not_below = λ h k. s.not_below k h }

-- the four of them, where they straddle 0 and are not all 0
crossing : (a b c d : Vector) {p q r s : ℤ} → Balanced a b c d p q r s → Straddle p q → Straddle r s → Nonneg (q -ℤ p -ℤ pos 1) → Shares a b c d
crossing a b c d {p} {q} {r} {s} bal f g h =
    let k : Nonneg (r -ℤ s -ℤ pos 1) = subst (λ (z : ℤ). Nonneg (z -ℤ pos 1)) (sym bal.even) h in
    weighing a b c d bal (straddle_low p q f h) (straddle_high p q f h) (straddle_high s r (swap g) k) (straddle_low s r (swap g) k) h

-- ---- in one line

-- on a line that is not upright x decides
slanted : (a b c d : Vector) → (a.x ≡ b.x → ⊥) → orient a b c ≡ pos 0 → orient a b d ≡ pos 0 → (l : Common a.x b.x c.x d.x)
    → Level l.i' l.i l.j' l.j a.y b.y c.y d.y
slanted a b c d f p q l =
    eq_of_sub _ _
    (cancel (b.x -ℤ a.x) _ (λ e. f (sym (eq_of_sub b.x a.x e))) (upright a b c d l.i' l.i l.j' l.j l.weights l.level p q))

-- both are upright: they have one x, and y decides
level_upright : (u v s t : ℤ) (i' i j' j : ℕ) → Weights i' i j' j → u ≡ v → s ≡ t → u ≡ s → Level i' i j' j u v s t
level_upright u v s t i' i j' j w p q r =
    eq_of_sub _ _
    (vanishes (u ∷ v ∷ s ∷ t ∷ pos i' ∷ pos i ∷ pos j' ∷ pos j ∷ [])
    ((var 0 -ᵉ var 1) ∷ (var 2 -ᵉ var 3) ∷ (var 0 -ᵉ var 2) ∷ (var 4 +ᵉ var 5 -ᵉ (var 6 +ᵉ var 7)) ∷ [])
    (zero_of p, (zero_of q, (zero_of r, (zero_of (ap pos w.even), tt))))
    (var 4 *ᵉ var 0 +ᵉ var 5 *ᵉ var 1 -ᵉ (var 6 *ᵉ var 2 +ᵉ var 7 *ᵉ var 3)) (neg (var 5) ∷ var 7 ∷ (var 4 +ᵉ var 5) ∷ var 2 ∷ []) tt)

common_same : (u v s t : ℤ) → Common u v s t → u ≡ v → s ≡ t → u ≡ s
common_same u v s t l p q =
    eq_of_sub u s
    (cancel (pos (l.i' + l.i)) (u -ℤ s) (λ e. not_zero (l.i' + l.i) l.weights.some (ap nat_abs e))
    (vanishes (u ∷ v ∷ s ∷ t ∷ pos l.i' ∷ pos l.i ∷ pos l.j' ∷ pos l.j ∷ [])
    ((var 0 -ᵉ var 1) ∷ (var 2 -ᵉ var 3) ∷ (var 4 *ᵉ var 0 +ᵉ var 5 *ᵉ var 1 -ᵉ (var 6 *ᵉ var 2 +ᵉ var 7 *ᵉ var 3))
    ∷ (var 4 +ᵉ var 5 -ᵉ (var 6 +ᵉ var 7)) ∷ [])
    (zero_of p, (zero_of q, (zero_of l.level, (zero_of (ap pos l.weights.even), tt))))
    ((var 4 +ᵉ var 5) *ᵉ (var 0 -ᵉ var 2)) (var 5 ∷ neg (var 7) ∷ num 1 ∷ neg (var 2) ∷ []) tt))
  where
    not_zero : (n : ℕ) → 0 < n → n ≡ 0 → ⊥
    not_zero n h e = omega arith

-- four places in one line, by overlapping boxes
aligned : (a b c d : Vector) → MeetsParts a b c d → orient a b c ≡ pos 0 → orient a b d ≡ pos 0 → orient c d a ≡ pos 0 → orient c d b ≡ pos 0 → Shares a b c d
aligned a b c d h p q r s = go (ℤ_discrete a.x b.x) (ℤ_discrete c.x d.x)
  where
    x : Common a.x b.x c.x d.x
    x = (overlap_common a.x b.x c.x d.x).0 h.x

    y : Common a.y b.y c.y d.y
    y = (overlap_common a.y b.y c.y d.y).0 h.y

    go : Dec (a.x ≡ b.x) → Dec (c.x ≡ d.x) → Shares a b c d
    go (no f) g = shares_of a b c d x.weights x.level (slanted a b c d f p q x)
    go (yes e) (no f) =
        let m : Common c.x d.x a.x b.x = common_flip x in
        shares_flip (shares_of c d a b m.weights m.level (slanted c d a b f r s m))
    go (yes e) (yes f) =
        shares_of a b c d y.weights
        (level_upright a.x b.x c.x d.x y.i' y.i y.j' y.j y.weights e f
        (common_same a.x b.x c.x d.x x e f)) y.level

-- ---- the law

-- p < q, or r < s and the segments change places, or all four turns are 0
pub parts_share : (a b c d : Vector) → MeetsParts a b c d → Shares a b c d
parts_share a b c d h =
    elim (<ℤ_or-≤ℤ p q) [
      | inl l ↦ crossing a b c d (turns_balanced a b c d) h.first h.second (of-<ℤ l)
      | inr l ↦ elim (<ℤ_or-≤ℤ r s) [
        | inl m ↦ shares_flip (crossing c d a b (turns_balanced c d a b) h.second h.first (of-<ℤ m))
        | inr m ↦ level (≤ℤ_antisym (rest m) l)
      ]
    ]
  where
    p : ℤ
    p = orient a b c

    q : ℤ
    q = orient a b d

    r : ℤ
    r = orient c d a

    s : ℤ
    s = orient c d b

    rest : s ≤ℤ r → p ≤ℤ q
    rest m = to-≤ℤ (subst Nonneg (turns_balanced a b c d).even (of-≤ℤ m))

    level : p ≡ q → Shares a b c d
    level e =
        let f : r ≡ s = eq_of_sub r s ((turns_balanced a b c d).even ∙ zero_of (sym e)) in
        let z = straddle_zero p q h.first e in
        let t = straddle_zero r s h.second f in
        aligned a b c d h z (sym e ∙ z) t (sym f ∙ t)

-- SEGMENTS MEET EXACTLY IF THEY HAVE A POINT IN COMMON.
pub meets_shares : (a b c d : Vector) → T (meets a b c d) ↔ Shares a b c d
meets_shares a b c d =
    let f = meets_parts a b c d in
    (λ t. parts_share a b c d (f.0 t), λ h. f.1 (shares_parts a b c d h))
