-- Two stretches of numbers, from u to v and from s to t, overlap exactly if they have a number in common (`overlap_common`, the last statement). A common number
-- is given by weights: naturals i', i of the ends of one and j', j of the ends of the other, with the same sum. Assumes nothing.
use Rattle.std.specs.Prelude.{◌≡◌, refl, Bool, true, false, not, cond, ◌⊎◌, ◌↔◌, [], ◌∷◌, ℕ, zero, suc, ◌+◌, ◌<◌, T, ℤ, pos, ◌+ℤ◌, ◌*ℤ◌, ◌-ℤ◌, ◌≤ℤ◌, ◌<ℤ◌}
use Rattle.std.proofs.Common.{sym, ap, ap₂, ◌∙◌, subst, subst₂, inl, inr, arith}
use Rattle.std.proofs.Math.Dec.{not_T}
use Rattle.std.proofs.Math.IntN.{+ℤ_comm}
use Rattle.std.specs.Int.Signed.{lt_z, lt_z_yes, lt_z_no, ≤ℤ_refl}
use Rattle.std.specs.Float.Ieee.Fits.{and_i, and_l, and_r}
use Rattle.laws.proofs.Integer.{eq_of_sub}
use Rattle.laws.proofs.RingBase.{var, num, ◌+ᵉ◌, ◌*ᵉ◌, ◌-ᵉ◌, neg}
use Rattle.laws.proofs.Ring.{ring}
use Rattle.laws.proofs.CertificateBase.{Nonneg, nonneg, nonneg_is, not_nonneg, of_le, of-≤ℤ, <ℤ_or-≤ℤ, hyp, ◌⊞◌, ◌⊠◌, eqn, zero_of}
use Rattle.laws.proofs.Certificate.{of-<ℤ, <ℤ_weaken, prove}
use Rattle.outline_sound.specs.Sound.{min_z, max_z, overlap}

-- ---- weights

-- u and v, weighed by i' and i, are s and t, weighed by j' and j
abbrev pub Level : (i' i j' j : ℕ) (u v s t : ℤ) → Type 0
Level i' i j' j u v s t = pos i' *ℤ u +ℤ pos i *ℤ v ≡ pos j' *ℤ s +ℤ pos j *ℤ t

-- not all 0, and the same sum for both
pub record Weights (i' i j' j : ℕ) : Type 0 where
  pub some : 0 < i' + i
  pub even : i' + i ≡ j' + j

-- a number in common
pub record Common (u v s t : ℤ) : Type 0 where
  pub i' : ℕ
  pub i : ℕ
  pub j' : ℕ
  pub j : ℕ
  pub weights : Weights i' i j' j
  pub level : Level i' i j' j u v s t

abbrev pub common : (i' i j' j : ℕ) {u v s t : ℤ} → Weights i' i j' j → Level i' i j' j u v s t → Common u v s t
common i' i j' j w l = record { i' = i'; i = i; j' = j'; j = j; weights = w; level = l }

-- the stretches change places
pub weights_flip : {i' i j' j : ℕ} → Weights i' i j' j → Weights j' j i' i
weights_flip w = record { some = omega (arith, w.some, w.even); even = sym w.even }

pub common_flip : {u v s t : ℤ} → Common s t u v → Common u v s t
common_flip l = common l.j' l.j l.i' l.i (weights_flip l.weights) (sym l.level)

-- the ends of one do
back : {u v s t : ℤ} → Common v u s t → Common u v s t
back {u} {v} l =
    common l.i l.i' l.j' l.j (record { some = omega (arith, l.weights.some); even = omega (arith, l.weights.even) })
    (+ℤ_comm (pos l.i *ℤ u) (pos l.i' *ℤ v) ∙ l.level)

pub some_ℤ : (i' i : ℕ) → 0 < i' + i → Nonneg (pos i' +ℤ pos i -ℤ pos 1)
some_ℤ i' i h = of_le {a = 1} {b = i' + i} h

-- ---- u and v in order

record Ordered (u v lo hi : ℤ) : Type 0 where
  pub low : min_z u v ≡ lo
  pub high : max_z u v ≡ hi
  pub order : lo ≤ℤ hi

ordered : (u v : ℤ) → Ordered u v u v ⊎ Ordered u v v u
ordered u v = go (lt_z u v) refl
  where
    go : (b : Bool) → lt_z u v ≡ b → Ordered u v u v ⊎ Ordered u v v u
    go true e =
        inl
        (record {
          low = ap (λ (c : Bool). cond c u v) e;
          high = ap (λ (c : Bool). cond c v u) e;
          order = <ℤ_weaken (record { lt = subst T (sym e) tt });
        })
    go false e =
        inr
        (record {
          low = ap (λ (c : Bool). cond c u v) e;
          high = ap (λ (c : Bool). cond c v u) e;
          order = lt_z_no (subst (λ (c : Bool). T (not c)) (sym e) tt);
        })

record RangeBounds (u v lo hi : ℤ) : Type 0 where
  pub low_u : lo ≤ℤ u
  pub low_v : lo ≤ℤ v
  pub high_u : u ≤ℤ hi
  pub high_v : v ≤ℤ hi

bounds : (u v : ℤ) → RangeBounds u v (min_z u v) (max_z u v)
bounds u v =
    elim (ordered u v) [
      | inl h ↦ rw (h.low, h.high) (record { low_u = ≤ℤ_refl u; low_v = h.order; high_u = h.order; high_v = ≤ℤ_refl v })
      | inr h ↦ rw (h.low, h.high) (record { low_u = h.order; low_v = ≤ℤ_refl v; high_u = ≤ℤ_refl u; high_v = h.order })
    ]

-- ---- from a common number to the order

-- of two stretches one is up to g, the other from l, and g is below l
apart : (u v s t g l : ℤ) → Common u v s t → u ≤ℤ g → v ≤ℤ g → g <ℤ l → l ≤ℤ s → l ≤ℤ t → ⊥
apart u v s t g l m hu hv h hs ht =
    let I' = var 0 in let I = var 1 in let J' = var 2 in let J = var 3 in
    let A = var 4 in let B = var 5 in let C = var 6 in let D = var 7 in let G = var 8 in let L = var 9 in
    not_nonneg {n = 0}
    (prove (pos m.i' ∷ pos m.i ∷ pos m.j' ∷ pos m.j ∷ u ∷ v ∷ s ∷ t ∷ g ∷ l ∷ [])
    (I' ∷ I ∷ J' ∷ J ∷ (G -ᵉ A) ∷ (G -ᵉ B) ∷ (C -ᵉ L) ∷ (D -ᵉ L) ∷ (L -ᵉ G -ᵉ num 1) ∷ (I' +ᵉ I -ᵉ num 1) ∷ []) (
      nonneg m.i',
      (
        nonneg m.i,
        (
          nonneg m.j',
          (
            nonneg m.j,
            (
              of-≤ℤ hu,
              (
                of-≤ℤ hv,
                (
                  of-≤ℤ hs,
                  (
                    of-≤ℤ ht,
                    (of-<ℤ h, (some_ℤ m.i' m.i m.weights.some, tt)),
                  ),
                ),
              ),
            ),
          ),
        ),
      ),
    )
    ((I' *ᵉ A +ᵉ I *ᵉ B -ᵉ (J' *ᵉ C +ᵉ J *ᵉ D)) ∷ (I' +ᵉ I -ᵉ (J' +ᵉ J)) ∷ []) (zero_of m.level, (zero_of (ap pos m.weights.even), tt)) 0
    (neg (num 1))
    (hyp 0 ⊠ hyp 4 ⊞ hyp 1 ⊠ hyp 5 ⊞ hyp 2 ⊠ hyp 6 ⊞ hyp 3 ⊠ hyp 7 ⊞ (hyp 0 ⊞ hyp 1) ⊠ hyp 8 ⊞ hyp 9 ⊞ eqn 0 (num 1) ⊞ eqn 1 (neg L)) tt)

pub common_overlap : (u v s t : ℤ) → Common u v s t → T (overlap u v s t)
unfolding overlap
common_overlap u v s t m =
    let p = bounds u v in
    let q = bounds s t in
    and_i (not (lt_z (max_z u v) (min_z s t))) (not (lt_z (max_z s t) (min_z u v)))
    (not_T (lt_z (max_z u v) (min_z s t))
    (λ h. apart u v s t (max_z u v) (min_z s t) m p.high_u p.high_v (lt_z_yes h) q.low_u q.low_v))
    (not_T (lt_z (max_z s t) (min_z u v))
    (λ h. apart s t u v (max_z s t) (min_z u v) (common_flip m) q.high_u q.high_v (lt_z_yes h) p.low_u p.low_v))

-- ---- and back

-- a number from u to v, by weights
between : (u v m : ℤ) → u ≤ℤ m → m ≤ℤ v → (i' : ℕ) × (i : ℕ) × (0 < i' + i) × (pos i' *ℤ u +ℤ pos i *ℤ v ≡ pos (i' + i) *ℤ m)
between u v m h k = let p = nonneg_is (of-≤ℤ k) in let q = nonneg_is (of-≤ℤ h) in go p.0 q.0 p.1 q.1
  where
    weighed : (i' i : ℕ) → v -ℤ m ≡ pos i' → m -ℤ u ≡ pos i → pos i' *ℤ u +ℤ pos i *ℤ v ≡ pos (i' + i) *ℤ m
    weighed i' i p q =
        ap₂ (λ (y z : ℤ). y *ℤ u +ℤ z *ℤ v) (sym p) (sym q)
        ∙ ring (u ∷ v ∷ m ∷ []) ((var 1 -ᵉ var 2) *ᵉ var 0 +ᵉ (var 2 -ᵉ var 0) *ᵉ var 1) (((var 1 -ᵉ var 2) +ᵉ (var 2 -ᵉ var 0)) *ᵉ var 2) tt
        ∙ ap₂ (λ (y z : ℤ). (y +ℤ z) *ℤ m) p q

    -- where both are 0, u is the number
    go : (i' i : ℕ) → v -ℤ m ≡ pos i' → m -ℤ u ≡ pos i → (i' : ℕ) × (i : ℕ) × (0 < i' + i) × (pos i' *ℤ u +ℤ pos i *ℤ v ≡ pos (i' + i) *ℤ m)
    go zero zero p q = (
      1,
      0,
      omega arith,
      ring (u ∷ v ∷ []) (num 1 *ᵉ var 0 +ᵉ num 0 *ᵉ var 1) (num 1 *ᵉ var 0) tt ∙ ap (λ (z : ℤ). pos 1 *ℤ z) (sym (eq_of_sub m u q)),
    )
    go zero (suc i) p q = (0, suc i, omega arith, weighed 0 (suc i) p q)
    go (suc i') i p q = (suc i', i, omega arith, weighed (suc i') i p q)

-- u ≤ s ≤ v: s is in common, whatever t is
common_end : (u v s t : ℤ) → u ≤ℤ s → s ≤ℤ v → Common u v s t
common_end u v s t h k =
    let b = between u v s h k in
    common b.0 b.1 (b.0 + b.1) 0 (record { some = b.2; even = omega arith })
    (b.3 ∙ ring (pos (b.0 + b.1) ∷ s ∷ t ∷ []) (var 0 *ᵉ var 1) (var 0 *ᵉ var 1 +ᵉ num 0 *ᵉ var 2) tt)

-- two stretches that go up, neither wholly below the other: the higher of the two starts is in common
common_start : (u v s t : ℤ) → s ≤ℤ v → u ≤ℤ t → Common u v s t
common_start u v s t sv ut =
    elim (<ℤ_or-≤ℤ s u) [ inl h ↦ common_flip (common_end s t u v (<ℤ_weaken h) ut) | inr h ↦ common_end u v s t h sv ]

pub overlap_common : (u v s t : ℤ) → T (overlap u v s t) ↔ Common u v s t
unfolding overlap
overlap_common u v s t = (there, common_overlap u v s t)
  where
    there : T (overlap u v s t) → Common u v s t
    there h =
        elim (ordered u v) [
          | inl p ↦ elim (ordered s t) [
            | inl q ↦ common_start u v s t (low p q) (high p q)
            | inr q ↦ common_flip (back (common_flip (common_start u v t s (low p q) (high p q))))
          ]
          | inr p ↦ back (elim (ordered s t) [
            | inl q ↦ common_start v u s t (low p q) (high p q)
            | inr q ↦ common_flip (back (common_flip (common_start v u t s (low p q) (high p q))))
          ])
        ]
      where
        low : {lo hi lo' hi' : ℤ} → Ordered u v lo hi → Ordered s t lo' hi' → lo' ≤ℤ hi
        low p q =
            subst₂ (λ (y z : ℤ). y ≤ℤ z) q.low p.high
            (lt_z_no (and_l (not (lt_z (max_z u v) (min_z s t))) (not (lt_z (max_z s t) (min_z u v))) h))

        high : {lo hi lo' hi' : ℤ} → Ordered u v lo hi → Ordered s t lo' hi' → lo ≤ℤ hi'
        high p q =
            subst₂ (λ (y z : ℤ). y ≤ℤ z) p.low q.high
            (lt_z_no (and_r (not (lt_z (max_z u v) (min_z s t))) (not (lt_z (max_z s t) (min_z u v))) h))
