-- For code that judges segments: the order of the units is Rust's order of the doubles, a side tells the sign of an orientation, and what is read off two
-- segments is what the definition says of them. Assumes nothing.
use Rattle.std.specs.Prelude.{◌≡◌, Bool, true, false, ◌&&◌, ◌||◌, cond, List, ℕ, zero, suc, T, ℤ, pos, negsuc, nat_abs, Float}
use Rattle.std.proofs.Math.Path.{refl, sym, ap, ap₂}
use Rattle.std.proofs.Common.{◌∙◌, subst, arith, lt-ltb, le-ltb, eq-eqb, ne_eqb}
use Rattle.std.proofs.Math.Bool.{not}
use Rattle.std.specs.Bool.{beq}
use Rattle.std.proofs.Math.Dec.{eqb}
use Rattle.std.specs.Int.Signed.{lt_z, lt_z_yes, clash_ℤ}
use Rattle.std.specs.Float.Ieee.{lt}
use Rattle.laws.proofs.Certificate.{<ℤ_weaken}
use Rattle.laws.specs.Tests.{T-ext, and_true, and_false}
use Rattle.laws.specs.Loop.{any_up}
use Rattle.exact.specs.Units.{units, Within, within_units}
use Rattle.exact.proofs.Order.{lt_val}
use Rattle.exact.specs.Corner.{Vector}
use Rattle.outline.specs.declared.Point.{Point}
use Rattle.outline.specs.Outline.{points, point_at, point_after, after}
use Rattle.outline_orientation.specs.Orient.{in_units, orient, side_number}
use Rattle.outline_sound.specs.Sound.{segment_start, segment_end, min_z, max_z, overlap, parted, meets, folds_back, folds_at, clash, ray_meets, is_inside}
use Rattle.outline_sound.specs.FoldsLaws.{is_extreme, folds_extreme}

or_false_right : (b : Bool) → (b || false) ≡ b
or_false_right true = refl
or_false_right false = refl

-- ---- the order of coordinates

-- Rust's `<` is that of the units
pub lt_lt_z : {K L : ℕ} {x y : Float} → Within K x → Within L y → lt x y ≡ lt_z (units x) (units y)
lt_lt_z {K} {L} {x} {y} p q =
    let i = lt_val x y p.sign q.sign p.size q.size p.val q.val in
    T-ext (lt x y) (lt_z (units x) (units y))
    (λ t. rw (within_units p, within_units q) (i.0 t).lt) (λ t. i.1 (lt_z_yes (rw (← within_units p, ← within_units q) t)))

-- the smaller of two floats, and the larger, as code selects them
abbrev pub lesser_f : Float → Float → Float
lesser_f x y = cond (lt x y) x y

abbrev pub greater_f : Float → Float → Float
greater_f x y = cond (lt x y) y x

pick : (b : Bool) (x y : Float) → units (cond b x y) ≡ cond b (units x) (units y)
pick true x y = refl
pick false x y = refl

pick_within : {K : ℕ} (b : Bool) {x y : Float} → Within K x → Within K y → Within K (cond b x y)
pick_within true p q = p
pick_within false p q = q

module _ {K : ℕ} {x y : Float} (p : Within K x) (q : Within K y) where
  least_units : units (lesser_f x y) ≡ min_z (units x) (units y)
  least_units = pick (lt x y) x y ∙ ap (λ (b : Bool). cond b (units x) (units y)) (lt_lt_z p q)

  greatest_units : units (greater_f x y) ≡ max_z (units x) (units y)
  greatest_units = pick (lt x y) y x ∙ ap (λ (b : Bool). cond b (units y) (units x)) (lt_lt_z p q)

-- the greater of u and v is below the lesser of s and t
pub clear_below : {K : ℕ} {u v s t : Float} → Within K u → Within K v → Within K s → Within K t
    → lt (greater_f u v) (lesser_f s t) ≡ lt_z (max_z (units u) (units v)) (min_z (units s) (units t))
clear_below {K} {u} {v} {s} {t} p q r w =
    lt_lt_z (pick_within (lt u v) q p) (pick_within (lt s t) r w) ∙ ap₂ lt_z (greatest_units p q) (least_units r w)

-- and so of two stretches: one lies below the other, or neither does
module _ {K : ℕ} {u v s t : Float} (p : Within K u) (q : Within K v) (r : Within K s) (w : Within K t) where
  pub overlap_below : {g l : Float} → g ≡ greater_f u v → l ≡ lesser_f s t → lt g l ≡ true → false ≡ overlap (units u) (units v) (units s) (units t)
  unfolding overlap
  overlap_below e f h =
      ap (λ (b : Bool). not b && not (lt_z (max_z (units s) (units t)) (min_z (units u) (units v)))) (sym h ∙ ap₂ lt e f ∙ clear_below p q r w)

  pub overlap_rest : {g l i m : Float} → g ≡ greater_f u v → l ≡ lesser_f s t → lt g l ≡ false → i ≡ greater_f s t → m ≡ lesser_f u v
      → not (lt i m) ≡ overlap (units u) (units v) (units s) (units t)
  unfolding overlap
  overlap_rest e f h g k =
      ap₂ (λ (a b : Bool). not a && not b) (sym h ∙ ap₂ lt e f ∙ clear_below p q r w) (ap₂ lt g k ∙ clear_below r w p q)

-- ---- sides

pub level_side : (z : ℤ) → eqb (nat_abs z) 0 ≡ eqb (side_number z) 0
unfolding side_number
level_side (pos zero) = refl
level_side (pos (suc n)) = ne_eqb (suc n) 0 (λ e. omega arith)
level_side (negsuc n) = ne_eqb (suc n) 0 (λ e. omega arith)

pub left_side : (z : ℤ) → lt_z (pos 0) z ≡ eqb (side_number z) 1
unfolding side_number
left_side (pos zero) = refl
left_side (pos (suc n)) = lt-ltb 0 (suc n) (omega arith)
left_side (negsuc n) = refl

pub right_side : (z : ℤ) → lt_z z (pos 0) ≡ eqb (side_number z) 2
unfolding side_number
right_side (pos zero) = refl
right_side (pos (suc n)) = le-ltb (suc n) 0 (omega arith)
right_side (negsuc n) = refl

-- both to the left or both to the right: on the same side, and not on the line
sides_same : (p q : ℤ)
    → ((eqb (side_number p) 1 && eqb (side_number q) 1) || (eqb (side_number p) 2 && eqb (side_number q) 2)) ≡ (not (eqb (side_number p) 0) && eqb (side_number p) (side_number q))
unfolding side_number
sides_same (pos zero) (pos zero) = refl
sides_same (pos zero) (pos (suc n)) = refl
sides_same (pos zero) (negsuc n) = refl
sides_same (pos (suc m)) (pos zero) = refl
sides_same (pos (suc m)) (pos (suc n)) = refl
sides_same (pos (suc m)) (negsuc n) = refl
sides_same (negsuc m) (pos zero) = refl
sides_same (negsuc m) (pos (suc n)) = refl
sides_same (negsuc m) (negsuc n) = refl

pub parted_sides : (a b c d : Vector)
    → parted a b c d ≡ (not (eqb (side_number (orient a b c)) 0) && eqb (side_number (orient a b c)) (side_number (orient a b d)))
unfolding parted
parted_sides a b c d =
    let p = orient a b c in
    let q = orient a b d in
    rw (left_side p, left_side q, right_side p, right_side q) (sides_same p q)

module _ (a b c d : Vector) {x : ℕ} (e : x ≡ side_number (orient a b c)) where
  pub parted_line : x ≡ 0 → false ≡ parted a b c d
  parted_line z = ap (λ (s : ℕ). not (eqb s 0) && eqb s (side_number (orient a b d))) (sym z ∙ e) ∙ sym (parted_sides a b c d)

  pub parted_rest : {y : ℕ} → y ≡ side_number (orient a b d) → (x ≡ 0 → ⊥) → eqb x y ≡ parted a b c d
  parted_rest {y} f h =
      ap (λ (z : Bool). not z && eqb x y) (sym (ne_eqb x 0 h)) ∙ ap₂ (λ (s t : ℕ). not (eqb s 0) && eqb s t) e f ∙ sym (parted_sides a b c d)

-- ---- neighbours that fold back

asymmetric : (a b : ℤ) → lt_z a b ≡ true → lt_z b a ≡ false
asymmetric a b e = go (lt_z b a) refl
  where
    go : (c : Bool) → lt_z b a ≡ c → c ≡ false
    go true h = absurd (clash_ℤ {a = a} {b = b} (lt_z_yes (subst T (sym e) tt)) (<ℤ_weaken (lt_z_yes (subst T (sym h) tt))))
    go false h = refl

module _ (u v w : ℤ) where
  pub extreme_up : lt_z u v ≡ true → lt_z w v ≡ is_extreme u v w
  unfolding is_extreme
  extreme_up e = sym (or_false_right (lt_z w v)) ∙ ap₂ (λ (a b : Bool). (a && lt_z w v) || (b && lt_z v w)) (sym e) (sym (asymmetric u v e))

  pub extreme_down : lt_z u v ≡ false → lt_z v u ≡ true → lt_z v w ≡ is_extreme u v w
  unfolding is_extreme
  extreme_down e f = ap₂ (λ (a b : Bool). (a && lt_z w v) || (b && lt_z v w)) (sym e) (sym f)

  pub extreme_none : lt_z u v ≡ false → lt_z v u ≡ false → false ≡ is_extreme u v w
  unfolding is_extreme
  extreme_none e f = ap₂ (λ (a b : Bool). (a && lt_z w v) || (b && lt_z v w)) (sym e) (sym f)

module _ (a b c : Vector) where
  abbrev on_line : Bool
  on_line = eqb (nat_abs (orient a b c)) 0

  folds_of : {x y : Bool} → x ≡ is_extreme a.x b.x c.x → y ≡ is_extreme a.y b.y c.y → (on_line && (x || y)) ≡ folds_back a b c
  folds_of e f = ap₂ (λ (x y : Bool). on_line && (x || y)) e f ∙ sym (folds_extreme a b c)

  level_of : {s : ℕ} → s ≡ side_number (orient a b c) → eqb s 0 ≡ on_line && true
  level_of e = ap (λ (s : ℕ). eqb s 0) e ∙ sym (level_side (orient a b c)) ∙ sym (and_true on_line)

  pub folds_x : {x : Bool} {s : ℕ} → x ≡ is_extreme a.x b.x c.x → x ≡ true → s ≡ side_number (orient a b c) → eqb s 0 ≡ folds_back a b c
  folds_x e h f = level_of f ∙ folds_of (sym h ∙ e) refl

  pub folds_y : {x y : Bool} {s : ℕ} → x ≡ is_extreme a.x b.x c.x → x ≡ false → y ≡ is_extreme a.y b.y c.y → y ≡ true
      → s ≡ side_number (orient a b c) → eqb s 0 ≡ folds_back a b c
  folds_y e h g k f = level_of f ∙ folds_of (sym h ∙ e) (sym k ∙ g)

  pub folds_none : {x y : Bool} → x ≡ is_extreme a.x b.x c.x → x ≡ false → y ≡ is_extreme a.y b.y c.y → y ≡ false
      → false ≡ folds_back a b c
  folds_none e h g k = sym (and_false on_line) ∙ folds_of (sym h ∙ e) (sym k ∙ g)

-- ---- the segments of a loop

-- the end of a segment, as code reads it
pub end_is : (s : List Float) (i : ℕ) {a : Point} → a ≡ point_after s i → in_units a ≡ segment_end s i
unfolding point_after
end_is s i e = ap in_units e

module _ (s : List Float) (i j : ℕ) {r : ℕ} (e : r ≡ after (points s) i) where
  pub folds_off : (j ≡ r → ⊥) → false ≡ folds_at s i j
  unfolding folds_at
  folds_off h = ap (λ (b : Bool). b && folds_back (segment_start s i) (segment_start s j) (segment_end s j)) (sym (ne_eqb j (after (points s) i) (λ f. h (f ∙ sym e))))

  pub folds_on : {a b c : Point} {x : Bool} → j ≡ r → a ≡ point_at s i → b ≡ point_at s j → c ≡ point_after s j
      → x ≡ folds_back (in_units a) (in_units b) (in_units c) → x ≡ folds_at s i j
  unfolding folds_at
  folds_on {a} {b} {c} h f g k l =
      l ∙ ap (λ (p : Point). folds_back (in_units p) (in_units b) (in_units c)) f ∙ ap₂ (folds_back (segment_start s i)) (ap in_units g) (end_is s j k)
      ∙ ap (λ (z : Bool). z && folds_back (segment_start s i) (segment_start s j) (segment_end s j)) (sym (eq-eqb j (after (points s) i) (h ∙ e)))

-- the same, by the places of the segments' ends
module _ (s : List Float) (i j : ℕ) {n r : ℕ} (k : n ≡ points s) (e : r ≡ after n i) where
  folds_place : r ≡ after (points s) i
  folds_place = rw (← k) e

  pub folds_apart : {x : Bool} → (j ≡ r → ⊥) → eqb j r ≡ x → x ≡ folds_at s i j
  folds_apart h f = sym f ∙ ne_eqb j r h ∙ folds_off s i j folds_place h

  pub folds_along : {u v w : Vector} {x : Bool} → j ≡ r → u ≡ segment_start s i → v ≡ segment_end s i → w ≡ segment_end s j
      → x ≡ folds_back u v w → x ≡ folds_at s i j
  unfolding folds_at
  folds_along {u} {v} {w} h f g l q =
      q ∙ ap (λ (p : Vector). folds_back p v w) f
      ∙ ap₂ (folds_back (segment_start s i)) (g ∙ ap (segment_start s) (sym (h ∙ folds_place))) l
      ∙ ap (λ (z : Bool). z && folds_back (segment_start s i) (segment_start s j) (segment_end s j)) (sym (eq-eqb j (after (points s) i) (h ∙ folds_place)))

-- two segments, by their points as read
pub meets_at : (a b : Vector) (t : List Float) (j : ℕ) {c d : Point} {x : Bool} → c ≡ point_at t j → d ≡ point_after t j
    → x ≡ meets a b (in_units c) (in_units d) → x ≡ meets a b (segment_start t j) (segment_end t j)
meets_at a b t j e f h = h ∙ ap₂ (meets a b) (ap in_units e) (end_is t j f)

module _ (s : List Float) (i j : ℕ) {x y : Bool} (e : x ≡ folds_at s i j) (f : x ≡ false) (g : y ≡ folds_at s j i) (h : y ≡ false) where
  clash_of : {n p m : Bool} → n ≡ eqb j (after (points s) i) → p ≡ eqb i (after (points s) j) → m ≡ meets (segment_start s i) (segment_end s i) (segment_start s j) (segment_end s j)
      → (not (n || p) && m) ≡ clash s i j
  unfolding clash
  clash_of {n} {p} {m} k l q =
      ap₂ (λ (a b : Bool). a || (b || (not (n || p) && m))) (sym f ∙ e) (sym h ∙ g)
      ∙ ap (λ (z : Bool). folds_at s i j || (folds_at s j i || z)) (ap₂ (λ (a b : Bool). not a && b) (ap₂ (λ (a b : Bool). a || b) k l) q)

  module _ {r : ℕ} (k : r ≡ after (points s) i) where
    pub clash_next : j ≡ r → false ≡ clash s i j
    clash_next l = clash_of (sym (eq-eqb j (after (points s) i) (l ∙ k))) refl refl

    module _ (l : j ≡ r → ⊥) {t : ℕ} (m : t ≡ after (points s) j) where
      no_next : false ≡ eqb j (after (points s) i)
      no_next = sym (ne_eqb j (after (points s) i) (λ z. l (z ∙ sym k)))

      pub clash_last : i ≡ t → false ≡ clash s i j
      clash_last z = clash_of no_next (sym (eq-eqb i (after (points s) j) (z ∙ m))) refl

      pub clash_apart : {z : Bool} → (i ≡ t → ⊥) → z ≡ meets (segment_start s i) (segment_end s i) (segment_start s j) (segment_end s j) → z ≡ clash s i j
      clash_apart never q = q ∙ clash_of no_next (sym (ne_eqb i (after (points s) j) (λ z. never (z ∙ sym m)))) refl

      pub clash_other : {a b c d : Point} {z : Bool} → (i ≡ t → ⊥) → a ≡ point_at s i → b ≡ point_after s i → c ≡ point_at s j → d ≡ point_after s j
          → z ≡ meets (in_units a) (in_units b) (in_units c) (in_units d) → z ≡ clash s i j
      clash_other {a} {b} {c} {d} never ea eb ec ed q =
          meets_at (in_units a) (in_units b) s j ec ed q ∙ ap₂ (λ (u v : Vector). meets u v (segment_start s j) (segment_end s j)) (ap in_units ea) (end_is s i eb)
          ∙ clash_of no_next (sym (ne_eqb i (after (points s) j) (λ z. never (z ∙ sym m)))) refl

-- ---- the ray

module _ (p a b : Vector) where
  pub ray_above : lt_z p.y a.y ≡ true → lt_z p.y b.y ≡ true → false ≡ ray_meets p a b
  unfolding ray_meets
  ray_above e f = rw (e, f) refl

  pub ray_down : {s : ℕ} → lt_z p.y a.y ≡ true → lt_z p.y b.y ≡ false → s ≡ side_number (orient a b p) → eqb s 2 ≡ ray_meets p a b
  unfolding ray_meets
  ray_down e f h = rw (e, f) (ap (λ (s : ℕ). eqb s 2) h ∙ sym (right_side (orient a b p)))

  pub ray_up : {s : ℕ} → lt_z p.y a.y ≡ false → lt_z p.y b.y ≡ true → s ≡ side_number (orient a b p) → eqb s 1 ≡ ray_meets p a b
  unfolding ray_meets
  ray_up e f h = rw (e, f) (ap (λ (s : ℕ). eqb s 1) h ∙ sym (left_side (orient a b p)) ∙ sym (or_false_right (lt_z (pos 0) (orient a b p))))

  pub ray_below : lt_z p.y a.y ≡ false → lt_z p.y b.y ≡ false → false ≡ ray_meets p a b
  unfolding ray_meets
  ray_below e f = rw (e, f) refl

pub ray_at : (p : Vector) (s : List Float) (i : ℕ) {a b : Point} {x : Bool} → a ≡ point_at s i → b ≡ point_after s i
    → x ≡ ray_meets p (in_units a) (in_units b) → x ≡ ray_meets p (segment_start s i) (segment_end s i)
ray_at p s i e f h = h ∙ ap₂ (ray_meets p) (ap in_units e) (end_is s i f)

-- ---- the points of a loop

-- the segment from a to b, as read, meets some segment of t
pub segment_at : (s t : List Float) (i : ℕ) {a b : Point} {x : Bool} → a ≡ point_at s i → b ≡ point_after s i
    → x ≡ any_up (points t) (λ j. meets (in_units a) (in_units b) (segment_start t j) (segment_end t j))
    → x ≡ any_up (points t) (λ j. meets (segment_start s i) (segment_end s i) (segment_start t j) (segment_end t j))
segment_at s t i e f h = h ∙ ap₂ (λ (a b : Vector). any_up (points t) (λ j. meets a b (segment_start t j) (segment_end t j))) (ap in_units e) (end_is s i f)

-- a point, as read, is inside t or not
pub point_in : (s t : List Float) (i : ℕ) (inside : Bool) {a : Point} {x y : Bool} → a ≡ point_at s i → x ≡ is_inside (in_units a) t → beq x inside ≡ y
    → beq (is_inside (segment_start s i) t) inside ≡ y
point_in s t i inside e f h = ap (λ (z : Bool). beq z inside) (sym (f ∙ ap (λ (p : Point). is_inside (in_units p) t) e)) ∙ h
