-- What it means that two segments meet: `meets` holds exactly if they have a point in common (`meets_shares`, the last statement), segments of no length
-- included. From the point to the signs: the turns of two places, weighed as the point is, add up to 0. From the signs to the point: the four turns are
-- the weights; where all four are 0 the segments lie in one line, and the overlapping boxes give the point. Assumes nothing.
use Rattle.std.specs.Prelude.{◌≡◌, refl, Bool, true, false, not, ◌&&◌, ◌||◌, ◌↔◌, List, ◌∷◌, ℕ, ◌+◌, ◌*◌, ◌-◌, ◌≤◌, ◌<◌, T, ℤ, ◌+ℤ◌, ◌*ℤ◌, ◌<ℤ◌}
use Rattle.std.proofs.Common.{sym, ap, ◌∙◌, arith, T_not}
use Rattle.std.proofs.Math.Dec.{not_T}
use Rattle.std.proofs.Math.IntN.{pos}
use Rattle.std.specs.Int.Signed.{lt_z, lt_z_yes}
use Rattle.laws.proofs.RingBase.{Expr, var, ◌*ᵉ◌, ◌-ᵉ◌}
use Rattle.exact.specs.Corner.{Vector}
use Rattle.outline_orientation.specs.Orient.{orient}
use Rattle.outline_sound.specs.Sound.{overlap, parted}
use Rattle.outline_sound.specs.OverlapLaws.{Level, Weights}

-- ---- the statement

-- n times the number that is i n-ths of the way from u to v
abbrev pub along : ℕ → ℕ → ℤ → ℤ → ℤ
along n i u v = pos (n - i) *ℤ u +ℤ pos i *ℤ v

-- A common point of the segments a to b and c to d: i n-ths of the way from a to b, and j n-ths of the way from c to d. The ends may be one point.
pub record Shares (a b c d : Vector) : Type 0 where
  pub n : ℕ
  pub i : ℕ
  pub j : ℕ
  pub some : 0 < n
  pub first : i ≤ n
  pub second : j ≤ n
  pub x : along n i a.x b.x ≡ along n j c.x d.x
  pub y : along n i a.y b.y ≡ along n j c.y d.y

-- the same by weights
unfoldable pub shares_of : {i' i j' j : ℕ} (a b c d : Vector) → Weights i' i j' j
    → Level i' i j' j a.x b.x c.x d.x → Level i' i j' j a.y b.y c.y d.y → Shares a b c d
shares_of {i'} {i} {j'} {j} a b c d w x y =
    record {
      n = i' + i;
      i = i;
      j = j;
      some = w.some;
      first = omega arith;
      second = omega (arith, w.even);
      x = take i' i (i' + i) refl a.x b.x ∙ x ∙ sym (take j' j (i' + i) (sym w.even) c.x d.x);
      y = take i' i (i' + i) refl a.y b.y ∙ y ∙ sym (take j' j (i' + i) (sym w.even) c.y d.y);
    }
  where
    rest : (k' k n : ℕ) → k' + k ≡ n → n - k ≡ k'
    rest k' k n e = omega arith

    take : (k' k n : ℕ) → k' + k ≡ n → (u v : ℤ) → along n k u v ≡ pos k' *ℤ u +ℤ pos k *ℤ v
    take k' k n e u v = ap (λ (z : ℕ). pos z *ℤ u +ℤ pos k *ℤ v) (rest k' k n e)

pub weights_of : {a b c d : Vector} (h : Shares a b c d) → Weights (h.n - h.i) h.i (h.n - h.j) h.j
weights_of h = record { some = omega (arith, h.some, h.first); even = omega (arith, h.first, h.second) }

-- the segments change places
pub shares_flip : {a b c d : Vector} → Shares c d a b → Shares a b c d
shares_flip h =
    record { n = h.n; i = h.j; j = h.i; some = h.some; first = h.second; second = h.first; x = sym h.x; y = sym h.y }

-- ---- from the point to the turns

-- Four places as variables: x and y of place k are the variables 2 k and 2 k + 1, and a fifth number is variable 8, and so on.
abbrev pub places : Vector → Vector → Vector → Vector → List ℤ → List ℤ
places a b c d rest = a.x ∷ a.y ∷ b.x ∷ b.y ∷ c.x ∷ c.y ∷ d.x ∷ d.y ∷ rest

abbrev pub xᵉ : ℕ → Expr
xᵉ k = var (2 * k)

abbrev pub yᵉ : ℕ → Expr
yᵉ k = var (2 * k + 1)

-- the orientation of places a, b and c
abbrev pub orientᵉ : ℕ → ℕ → ℕ → Expr
orientᵉ a b c = (xᵉ b -ᵉ xᵉ a) *ᵉ (yᵉ c -ᵉ yᵉ a) -ᵉ (yᵉ b -ᵉ yᵉ a) *ᵉ (xᵉ c -ᵉ xᵉ a)

-- two numbers neither both above 0 nor both below it
pub record Straddle (p q : ℤ) : Type 0 where
  pub not_above : pos 0 <ℤ p → pos 0 <ℤ q → ⊥
  pub not_below : p <ℤ pos 0 → q <ℤ pos 0 → ⊥

not_both : (p q : Bool) → T (not (p && q)) ↔ (T p → T q → ⊥)
not_both true q = (λ h x y. T_not q h y, λ f. not_T q (f tt))
not_both false q = (λ h x y. x, λ f. tt)

not_either : (p q : Bool) → T (not (p || q)) ↔ (T (not p) × T (not q))
not_either true q = (λ h. absurd h, λ h. absurd h.0)
not_either false q = (λ h. (tt, h), λ h. h.1)

pub not_parted : (a b c d : Vector) → T (not (parted a b c d)) ↔ Straddle (orient a b c) (orient a b d)
unfolding parted
not_parted a b c d = (there, back)
  where
    p : ℤ
    p = orient a b c

    q : ℤ
    q = orient a b d

    there : T (not (parted a b c d)) → Straddle (orient a b c) (orient a b d)
    there h =
        let e = (not_either (lt_z (pos 0) p && lt_z (pos 0) q) (lt_z p (pos 0) && lt_z q (pos 0))).0 h in
        record {
          not_above = λ l m. (not_both (lt_z (pos 0) p) (lt_z (pos 0) q)).0 e.0 l.lt m.lt;
          not_below = λ l m. (not_both (lt_z p (pos 0)) (lt_z q (pos 0))).0 e.1 l.lt m.lt;
        }

    back : Straddle (orient a b c) (orient a b d) → T (not (parted a b c d))
    back s =
        (not_either (lt_z (pos 0) p && lt_z (pos 0) q) (lt_z p (pos 0) && lt_z q (pos 0))).1 (
          (not_both (lt_z (pos 0) p) (lt_z (pos 0) q)).1 (λ l m. s.not_above (lt_z_yes l) (lt_z_yes m)),
          (not_both (lt_z p (pos 0)) (lt_z q (pos 0))).1 (λ l m. s.not_below (lt_z_yes l) (lt_z_yes m)),
        )

-- the four parts of `meets`
pub record MeetsParts (a b c d : Vector) : Type 0 where
  pub x : T (overlap a.x b.x c.x d.x)
  pub y : T (overlap a.y b.y c.y d.y)
  pub first : Straddle (orient a b c) (orient a b d)
  pub second : Straddle (orient c d a) (orient c d b)

pub four : (p q r s : Bool) → T (p && (q && (r && s))) ↔ (T p × T q × T r × T s)
four true true true s = (λ h. (tt, tt, tt, h), λ h. h.3)
four true true false s = (λ h. absurd h, λ h. h.2)
four true false r s = (λ h. absurd h, λ h. h.1)
four false q r s = (λ h. absurd h, λ h. h.0)
