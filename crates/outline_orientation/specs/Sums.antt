-- Products of digits added to sums of limbs. Definitions, then laws. Assumes nothing.
use Rattle.std.specs.Prelude.{Bool, true, false, not, List, [], ◌∷◌, ◌≡◌, refl, ℕ, ◌+◌, ◌*◌, ◌^◌, ◌≤◌, ◌<◌, ℤ, pos, neg_ℤ, nat_abs, ◌+ℤ◌, ◌*ℤ◌, ◌-ℤ◌, length, get_or, set, Float}
use Rattle.std.specs.Bool.{beq}
use Rattle.std.proofs.Common.{ap, ap₂, ◌∙◌, arith, mul-le-mul, le_of_lt, le_trans, length-set, pow-add}
use Rattle.laws.proofs.RingBase.{var, num, ◌+ᵉ◌, ◌*ᵉ◌, ◌-ᵉ◌, neg}
use Rattle.laws.proofs.Ring.{ring}
use Rattle.exact.specs.Units.{signed, sign_of, size_of, units}
use Rattle.outline.specs.declared.Point.{Point}
use Rattle.outline_orientation.specs.declared.Digits.{Digits}
use Rattle.outline_orientation.specs.declared.Coordinates.{Coordinates}
use Rattle.outline_orientation.specs.Limbs.{B, value, Small, value_set, small_set}

-- ---- the definitions

-- the number of a coordinate's three digits
abbrev pub three : Digits → ℕ
three d = d.d0 + d.d1 * B + d.d2 * (B * B)

-- its size, in units
abbrev pub amount : Digits → ℕ
amount d = three d * B ^ d.place

-- the coordinate, in units
abbrev pub integer : Digits → ℤ
integer d = signed d.negative (amount d)

-- p.x·q.y − p.y·q.x, of two points
abbrev pub crossed : Coordinates → Coordinates → ℤ
crossed p q = integer p.x *ℤ integer q.y -ℤ integer p.y *ℤ integer q.x

-- each digit is one, and the place is one of 37
pub record Digital (d : Digits) : Type 0 where
  pub low : d.d0 < B
  pub mid : d.d1 < B
  pub high : d.d2 < B
  pub near : d.place ≤ 36

-- d are the digits of x
pub record IsDigits (x : Float) (d : Digits) : Type 0 where
  pub digital : Digital d
  pub size : amount d ≡ size_of x
  pub sign : d.negative ≡ sign_of x

pub record IsCoordinates (a : Point) (p : Coordinates) : Type 0 where
  pub at_x : IsDigits a.x p.x
  pub at_y : IsDigits a.y p.y

-- the sum ls has become ls', greater by v, and no limb grew by more than k
pub record Grown (ls ls' : List ℕ) (v k : ℕ) : Type 0 where
  pub more : value ls' ≡ value ls + v
  pub long : length ls' ≡ length ls
  pub small : (m : ℕ) → Small m ls → Small (m + k) ls'

-- the difference of the sums p and n has grown by z, and no limb of either by more than k
pub record DifferenceGrown (p n p' n' : List ℕ) (z : ℤ) (k : ℕ) : Type 0 where
  pub more : pos (value p') -ℤ pos (value n') ≡ pos (value p) -ℤ pos (value n) +ℤ z
  pub long_p : length p' ≡ length p
  pub long_n : length n' ≡ length n
  pub small : (m : ℕ) → Small m p → Small m n → Small (m + k) p' × Small (m + k) n'

-- ---- a sum that grows

pub grown_at : (ls : List ℕ) (i d : ℕ) → i < length ls → Grown ls (set ls i (get_or ls i 0 + d)) (d * B ^ i) d
grown_at ls i d h = record {
  more = value_set ls i d h;
  long = length-set ls i (get_or ls i 0 + d);
  small = λ m s. small_set ls i d m s;
}

-- where the amounts are others, and a larger bound
pub grown_as : {a b : List ℕ} {v k : ℕ} (w l : ℕ) → Grown a b v k → v ≡ w → k ≤ l → Grown a b w l
grown_as {a} {b} {v} {k} w l g e h = record {
  more = g.more ∙ ap (λ (x : ℕ). value a + x) e;
  long = g.long;
  small = λ m s i. le_trans (g.small m s i) (wider m);
}
  where
    wider : (m : ℕ) → m + k ≤ m + l
    wider m = omega arith

-- three times in turn
pub grown_thrice : {a b c e : List ℕ} {u v w j k l : ℕ} → Grown a b u j → Grown b c v k → Grown c e w l → Grown a e (u + v + w) (j + k + l)
grown_thrice {a} {b} {c} {e} {u} {v} {w} {j} {k} {l} f g h = record {
  more = sums (value a) (value b) (value c) (value e) f.more g.more h.more;
  long = h.long ∙ g.long ∙ f.long;
  small = λ m s i. le_trans (h.small (m + j + k) (g.small (m + j) (f.small m s)) i) (bounds m);
}
  where
    sums : (x y z t : ℕ) → y ≡ x + u → z ≡ y + v → t ≡ z + w → t ≡ x + (u + v + w)
    sums x y z t p q r = omega arith

    bounds : (m : ℕ) → m + j + k + l ≤ m + (j + k + l)
    bounds m = omega arith

next : (i : ℕ) → B ^ (i + 1) ≡ B ^ i * B
next i = pow-add B i 1

next_but_one : (i : ℕ) → B ^ (i + 2) ≡ B ^ i * (B * B)
next_but_one i = pow-add B i 2

-- the product of a digit and three
row : (d x y z P : ℕ) → d * x * P + d * y * (P * B) + d * z * (P * (B * B)) ≡ d * (x + y * B + z * (B * B)) * P
row d x y z P =
    ap nat_abs
    (ring (pos d ∷ pos x ∷ pos y ∷ pos z ∷ pos P ∷ [])
    (var 0 *ᵉ var 1 *ᵉ var 4 +ᵉ var 0 *ᵉ var 2 *ᵉ (var 4 *ᵉ num B) +ᵉ var 0 *ᵉ var 3 *ᵉ (var 4 *ᵉ num (B * B)))
    (var 0 *ᵉ (var 1 +ᵉ var 2 *ᵉ num B +ᵉ var 3 *ᵉ num (B * B)) *ᵉ var 4) tt)

pub products : (d : ℕ) (y : Digits) → d < B → Digital y → (d * y.d0 ≤ B * B) × (d * y.d1 ≤ B * B) × (d * y.d2 ≤ B * B)
products d y h k =
    let e = le_of_lt h in
    (mul-le-mul e (le_of_lt k.low), mul-le-mul e (le_of_lt k.mid), mul-le-mul e (le_of_lt k.high))

pub grown_row : {a b c e : List ℕ} (at d : ℕ) (y : Digits) → d < B → Digital y
    → Grown a b (d * y.d0 * B ^ at) (d * y.d0) → Grown b c (d * y.d1 * B ^ (at + 1)) (d * y.d1) → Grown c e (d * y.d2 * B ^ (at + 2)) (d * y.d2)
    → Grown a e (d * three y * B ^ at) (3 * (B * B))
grown_row at d y h k f g l =
    grown_as (d * three y * B ^ at) (3 * (B * B)) (grown_thrice f g l)
    (ap₂ (λ (u v : ℕ). d * y.d0 * B ^ at + d * y.d1 * u + d * y.d2 * v) (next at) (next_but_one at) ∙ row d y.d0 y.d1 y.d2 (B ^ at))
    (bounds (d * y.d0) (d * y.d1) (d * y.d2) (products d y h k))
  where
    bounds : (u v w : ℕ) → (u ≤ B * B) × (v ≤ B * B) × (w ≤ B * B) → u + v + w ≤ 3 * (B * B)
    bounds u v w p = omega arith

-- the product of three digits and three
product : (x y z Y P Q : ℕ) → x * Y * (P * Q) + y * Y * (P * Q * B) + z * Y * (P * Q * (B * B)) ≡ (x + y * B + z * (B * B)) * P * (Y * Q)
product x y z Y P Q =
    ap nat_abs
    (ring (pos x ∷ pos y ∷ pos z ∷ pos Y ∷ pos P ∷ pos Q ∷ [])
    (var 0 *ᵉ var 3 *ᵉ (var 4 *ᵉ var 5) +ᵉ var 1 *ᵉ var 3 *ᵉ (var 4 *ᵉ var 5 *ᵉ num B) +ᵉ var 2 *ᵉ var 3 *ᵉ (var 4 *ᵉ var 5 *ᵉ num (B * B)))
    ((var 0 +ᵉ var 1 *ᵉ num B +ᵉ var 2 *ᵉ num (B * B)) *ᵉ var 4 *ᵉ (var 3 *ᵉ var 5)) tt)

pub grown_product : {a b c e : List ℕ} (x y : Digits)
    → Grown a b (x.d0 * three y * B ^ (x.place + y.place)) (3 * (B * B))
    → Grown b c (x.d1 * three y * B ^ (x.place + y.place + 1)) (3 * (B * B))
    → Grown c e (x.d2 * three y * B ^ (x.place + y.place + 2)) (3 * (B * B))
    → Grown a e (amount x * amount y) (9 * (B * B))
grown_product x y f g l =
    let at = x.place + y.place in
    let P = B ^ x.place in
    let Q = B ^ y.place in
    let e : B ^ at ≡ P * Q = pow-add B x.place y.place in
    grown_as (amount x * amount y) (9 * (B * B)) (grown_thrice f g l)
    (ap₂ (λ (u v : ℕ). x.d0 * three y * B ^ at + x.d1 * three y * u + x.d2 * three y * v) (next at) (next_but_one at)
    ∙ ap (λ (u : ℕ). x.d0 * three y * u + x.d1 * three y * (u * B) + x.d2 * three y * (u * (B * B))) e
    ∙ product x.d0 x.d1 x.d2 (three y) P Q)
    (omega arith)

-- ---- the difference of two sums

unchanged : (ls : List ℕ) (k : ℕ) → (m : ℕ) → Small m ls → Small (m + k) ls
unchanged ls k m s i = wider m (get_or ls i 0) (s i)
  where
    wider : (m x : ℕ) → x ≤ m → x ≤ m + k
    wider m x h = omega arith

-- the product goes to the second sum
pub added_minus : {p n n' : List ℕ} {v k : ℕ} → Grown n n' v k → DifferenceGrown p n p n' (signed true v) k
added_minus {p} {n} {n'} {v} {k} g = record {
  more =
      ap (λ (z : ℕ). pos (value p) -ℤ pos z) g.more
      ∙ ring (pos (value p) ∷ pos (value n) ∷ pos v ∷ []) (var 0 -ᵉ (var 1 +ᵉ var 2)) (var 0 -ᵉ var 1 +ᵉ neg (var 2)) tt;
  long_p = refl;
  long_n = g.long;
  small = λ m s t. (unchanged p k m s, g.small m t);
}

-- or to the first
pub added_plus : {p n p' : List ℕ} {v k : ℕ} → Grown p p' v k → DifferenceGrown p n p' n (signed false v) k
added_plus {p} {n} {p'} {v} {k} g = record {
  more =
      ap (λ (z : ℕ). pos z -ℤ pos (value n)) g.more
      ∙ ring (pos (value p) ∷ pos (value n) ∷ pos v ∷ []) (var 0 +ᵉ var 2 -ᵉ var 1) (var 0 -ᵉ var 1 +ᵉ var 2) tt;
  long_p = g.long;
  long_n = refl;
  small = λ m s t. (g.small m s, unchanged n k m t);
}

pub added_twice : {a b c d e f : List ℕ} {y z : ℤ} {k l : ℕ} (t : ℤ) → DifferenceGrown a b c d y k → DifferenceGrown c d e f z l → y +ℤ z ≡ t → DifferenceGrown a b e f t (k + l)
added_twice {a} {b} {c} {d} {e} {f} {y} {z} {k} {l} t g h q = record {
  more =
      h.more
      ∙ ap (λ (x : ℤ). x +ℤ z) g.more
      ∙ ring (pos (value a) ∷ pos (value b) ∷ y ∷ z ∷ []) (var 0 -ᵉ var 1 +ᵉ var 2 +ᵉ var 3) (var 0 -ᵉ var 1 +ᵉ (var 2 +ᵉ var 3)) tt
      ∙ ap (λ (x : ℤ). pos (value a) -ℤ pos (value b) +ℤ x) q;
  long_p = h.long_p ∙ g.long_p;
  long_n = h.long_n ∙ g.long_n;
  small = λ m s r. let i = g.small m s r in let j = h.small (m + k) i.0 i.1 in (wider m e j.0, wider m f j.1);
}
  where
    regroup : (m : ℕ) → m + k + l ≤ m + (k + l)
    regroup m = omega arith

    wider : (m : ℕ) (ls : List ℕ) → Small (m + k + l) ls → Small (m + (k + l)) ls
    wider m ls s i = le_trans (s i) (regroup m)

-- ---- signs

pub signed_product : (s t : Bool) (a b : ℕ) → signed (not (beq s t)) (a * b) ≡ signed s a *ℤ signed t b
signed_product false false a b = refl
signed_product false true a b = ring (pos a ∷ pos b ∷ []) (neg (var 0 *ᵉ var 1)) (var 0 *ᵉ neg (var 1)) tt
signed_product true false a b = ring (pos a ∷ pos b ∷ []) (neg (var 0 *ᵉ var 1)) (neg (var 0) *ᵉ var 1) tt
signed_product true true a b = ring (pos a ∷ pos b ∷ []) (var 0 *ᵉ var 1) (neg (var 0) *ᵉ neg (var 1)) tt

pub signed_taken : (s t : Bool) (a b : ℕ) → signed (beq s t) (a * b) ≡ neg_ℤ (signed s a *ℤ signed t b)
signed_taken false false a b = refl
signed_taken false true a b = ring (pos a ∷ pos b ∷ []) (var 0 *ᵉ var 1) (neg (var 0 *ᵉ neg (var 1))) tt
signed_taken true false a b = ring (pos a ∷ pos b ∷ []) (var 0 *ᵉ var 1) (neg (neg (var 0) *ᵉ var 1)) tt
signed_taken true true a b = ring (pos a ∷ pos b ∷ []) (neg (var 0 *ᵉ var 1)) (neg (neg (var 0) *ᵉ neg (var 1))) tt

-- in units
pub integer_is : (x : Float) (d : Digits) → IsDigits x d → integer d ≡ units x
integer_is x d p = ap₂ signed p.sign p.size

-- p.x·q.y, and p.y·q.x taken off
pub added_cross : {a b c d e f : List ℕ} (p q : Coordinates)
    → DifferenceGrown a b c d (signed (not (beq p.x.negative q.y.negative)) (amount p.x * amount q.y)) (9 * (B * B))
    → DifferenceGrown c d e f (signed (beq p.y.negative q.x.negative) (amount p.y * amount q.x)) (9 * (B * B))
    → DifferenceGrown a b e f (crossed p q) (18 * (B * B))
added_cross p q g h =
    added_twice (crossed p q) g h
    (ap₂ (λ (y z : ℤ). y +ℤ z) (signed_product p.x.negative q.y.negative (amount p.x) (amount q.y))
    (signed_taken p.y.negative q.x.negative (amount p.y) (amount q.x)))
