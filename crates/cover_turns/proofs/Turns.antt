-- What holds of `turn`: a step back takes back what the step counted, and triangles and quads that turn left have each point once or not at all.
use Rattle.std.specs.Prelude.{◌≡◌, refl, Bool, true, false, cond, not, [], ◌∷◌, T, ℕ, ℤ, pos, negsuc, neg_ℤ, nat_abs, ◌+ℤ◌, ◌-ℤ◌, ◌<ℤ◌}
use Rattle.std.proofs.Common.{sym, ap, ◌∙◌, subst, inl, inr, arith}
use Rattle.std.specs.Int.Signed.{lt_z, lt_z_yes, lt_z_no}
use Rattle.std.proofs.lemmas.Int.{ints}
use Rattle.laws.proofs.RingBase.{var, num, ◌+ᵉ◌, ◌*ᵉ◌, ◌-ᵉ◌, neg}
use Rattle.laws.proofs.Ring.{ring}
use Rattle.laws.proofs.CertificateBase.{Nonneg, of-≤ℤ, to-≤ℤ, hyp}
use Rattle.laws.proofs.Certificate.{of-<ℤ, prove}
use Rattle.exact.specs.Corner.{Vector, cross}
use Rattle.outline_orientation.specs.Orient.{orient, way}
use Rattle.cover_turns.specs.Turn.{is_high, crossing, turn, IsLeft, NotRight, Covers}
use Rattle.cover_turns.proofs.Seen.{Above, Height, above_yes, Counted, inside, outside, area, Counted3, triangle_seen, Counted4, quad_seen}

-- ---- a step back

flipped : (z : ℤ) → (lt_z (pos 0) (neg_ℤ z) ≡ lt_z z (pos 0)) × (lt_z (neg_ℤ z) (pos 0) ≡ lt_z (pos 0) z)
flipped z = (grind (arith, ints), grind (arith, ints))

crossing_back : (i j : Bool) (z : ℤ) → crossing j i (neg_ℤ z) ≡ neg_ℤ (crossing i j z)
crossing_back false false z = refl
crossing_back true true z = refl
crossing_back false true z = rw (flipped z).1 (by (lt_z (pos 0) z))
  where
    by : (t : Bool) → cond t (negsuc 0) (pos 0) ≡ neg_ℤ (cond t (pos 1) (pos 0))
    by true = refl
    by false = refl
crossing_back true false z = rw (flipped z).0 (by (lt_z z (pos 0)))
  where
    by : (t : Bool) → cond t (pos 1) (pos 0) ≡ neg_ℤ (cond t (negsuc 0) (pos 0))
    by true = refl
    by false = refl

orient_back : (p u v : Vector) → orient v u p ≡ neg_ℤ (orient u v p)
unfolding orient cross
orient_back p u v =
    ring (u.x ∷ u.y ∷ v.x ∷ v.y ∷ p.x ∷ p.y ∷ [])
    ((var 0 -ᵉ var 2) *ᵉ (var 5 -ᵉ var 3) -ᵉ (var 1 -ᵉ var 3) *ᵉ (var 4 -ᵉ var 2))
    (neg ((var 2 -ᵉ var 0) *ᵉ (var 5 -ᵉ var 1) -ᵉ (var 3 -ᵉ var 1) *ᵉ (var 4 -ᵉ var 0))) tt

pub turn_back : (p u v : Vector) → turn p v u ≡ neg_ℤ (turn p u v)
unfolding turn
turn_back p u v = ap (crossing (is_high p v) (is_high p u)) (orient_back p u v) ∙ crossing_back (is_high p u) (is_high p v) (orient u v p)

-- ---- seen from the point

orient_seen : (p u v : Vector) → orient u v p ≡ cross (way p u) (way p v)
unfolding orient cross
orient_seen p u v =
    ring (u.x ∷ u.y ∷ v.x ∷ v.y ∷ p.x ∷ p.y ∷ [])
    ((var 2 -ᵉ var 0) *ᵉ (var 5 -ᵉ var 1) -ᵉ (var 3 -ᵉ var 1) *ᵉ (var 4 -ᵉ var 0))
    ((var 0 -ᵉ var 4) *ᵉ (var 3 -ᵉ var 5) -ᵉ (var 1 -ᵉ var 5) *ᵉ (var 2 -ᵉ var 4)) tt

orient_sum : (p u v w : Vector) → orient u v w ≡ orient u v p +ℤ orient v w p +ℤ orient w u p
unfolding orient cross
orient_sum p u v w =
    ring (u.x ∷ u.y ∷ v.x ∷ v.y ∷ w.x ∷ w.y ∷ p.x ∷ p.y ∷ [])
    ((var 2 -ᵉ var 0) *ᵉ (var 5 -ᵉ var 1) -ᵉ (var 3 -ᵉ var 1) *ᵉ (var 4 -ᵉ var 0))
    ((var 2 -ᵉ var 0) *ᵉ (var 7 -ᵉ var 1) -ᵉ (var 3 -ᵉ var 1) *ᵉ (var 6 -ᵉ var 0)
    +ᵉ ((var 4 -ᵉ var 2) *ᵉ (var 7 -ᵉ var 3) -ᵉ (var 5 -ᵉ var 3) *ᵉ (var 6 -ᵉ var 2))
    +ᵉ ((var 0 -ᵉ var 4) *ᵉ (var 7 -ᵉ var 5) -ᵉ (var 1 -ᵉ var 5) *ᵉ (var 6 -ᵉ var 4))) tt

area_seen : (p u v w : Vector) → orient u v w ≡ area (way p u) (way p v) (way p w)
area_seen p u v w = rw (orient_sum p u v w, orient_seen p u v, orient_seen p v w, orient_seen p w u) refl

turn_seen : (p u v : Vector) → turn p u v ≡ crossing (is_high p u) (is_high p v) (cross (way p u) (way p v))
unfolding turn
turn_seen p u v = ap (crossing (is_high p u) (is_high p v)) (orient_seen p u v)

height_seen : (p u : Vector) → Height (is_high p u) (way p u).y
height_seen p u = by (is_high p u) (λ t. of-<ℤ {a = p.y} {b = u.y} (lt_z_yes t)) (λ t. of-≤ℤ {a = u.y} {b = p.y} (lt_z_no t))
  where
    by : (h : Bool) → (T h → Nonneg (u.y -ℤ p.y -ℤ pos 1)) → (T (not h) → Nonneg (p.y -ℤ u.y)) → Height h (u.y -ℤ p.y)
    by true f g = f tt
    by false f g = prove (u.y ∷ p.y ∷ []) ((var 1 -ᵉ var 0) ∷ []) (g tt, tt) [] tt 0 (neg (var 0 -ᵉ var 1)) (hyp 0) tt

above_0 : {z : ℤ} → pos 0 <ℤ z → Above z
above_0 {z} h = above_yes z h.lt

left_seen : (p u v : Vector) → IsLeft p u v → Above (cross (way p u) (way p v))
left_seen p u v h = subst Above (orient_seen p u v) (above_0 h)

right_seen : (p u v : Vector) → Nonneg (cross (way p u) (way p v)) → NotRight p u v
right_seen p u v h = to-≤ℤ {a = pos 0} {b = orient u v p} (more (subst Nonneg (sym (orient_seen p u v)) h))
  where
    more : {z : ℤ} → Nonneg z → Nonneg (z -ℤ pos 0)
    more {z} k = prove (z ∷ []) (var 0 ∷ []) (k, tt) [] tt 0 (var 0 -ᵉ num 0) (hyp 0) tt

-- ---- triangles and quads

covers : {In Inner Left Within : Type 0} {n : ℤ} → Counted In (Inner → ⊥) n → (In → Within) → (Left → Inner) → Covers Left Within n
covers (inside i) f g = record { once = inr refl; left = λ l. refl; within = λ e. f i }
covers (outside o) f g = record { once = inl refl; left = λ l. absurd (o (g l)); within = λ e. absurd (zero_one (ap nat_abs e)) }
  where
    zero_one : ◌≡◌ {A = ℕ} 0 1 → ⊥
    zero_one e = omega arith

-- A triangle that turns left has p once or not at all.
pub triangle_covers : (p u v w : Vector) → pos 0 <ℤ orient u v w
    → Covers (IsLeft p u v × IsLeft p v w × IsLeft p w u) (NotRight p u v × NotRight p v w × NotRight p w u) (turn p u v +ℤ turn p v w +ℤ turn p w u)
triangle_covers p u v w h =
    let c : Counted3 (way p u) (way p v) (way p w) (turn p u v +ℤ turn p v w +ℤ turn p w u) =
    rw (turn_seen p u v, turn_seen p v w, turn_seen p w u)
    (triangle_seen (is_high p u) (is_high p v) (is_high p w) (way p u) (way p v) (way p w) (subst Above (area_seen p u v w) (above_0 h))
    (height_seen p u) (height_seen p v) (height_seen p w)) in
    covers c (λ i. (right_seen p u v i.0, right_seen p v w i.1, right_seen p w u i.2))
    (λ l. (left_seen p u v l.0, left_seen p v w l.1, left_seen p w u l.2))

-- So has a quad that turns left at all four corners.
pub quad_covers : (p a b c d : Vector) → pos 0 <ℤ orient d a b → pos 0 <ℤ orient a b c → pos 0 <ℤ orient b c d → pos 0 <ℤ orient c d a
    → Covers (IsLeft p a b × IsLeft p b c × IsLeft p c d × IsLeft p d a) (NotRight p a b × NotRight p b c × NotRight p c d × NotRight p d a)
    (turn p a b +ℤ turn p b c +ℤ turn p c d +ℤ turn p d a)
quad_covers p a b c d e f g h =
    let k : Counted4 (way p a) (way p b) (way p c) (way p d) (turn p a b +ℤ turn p b c +ℤ turn p c d +ℤ turn p d a) =
    rw (turn_seen p a b, turn_seen p b c, turn_seen p c d, turn_seen p d a)
    (quad_seen (way p a) (way p b) (way p c) (way p d)
    record {
      at_a = subst Above (area_seen p d a b) (above_0 e);
      at_b = subst Above (area_seen p a b c) (above_0 f);
      at_c = subst Above (area_seen p b c d) (above_0 g);
      at_d = subst Above (area_seen p c d a) (above_0 h);
    }
    (is_high p a) (is_high p b) (is_high p c) (is_high p d) (height_seen p a) (height_seen p b) (height_seen p c) (height_seen p d)) in
    covers k (λ i. (right_seen p a b i.0, right_seen p b c i.1, right_seen p c d i.2, right_seen p d a i.3))
    (λ l. (left_seen p a b l.0, left_seen p b c l.1, left_seen p c d l.2, left_seen p d a l.3))
