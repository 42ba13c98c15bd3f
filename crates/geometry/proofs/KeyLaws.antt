-- Laws of the keys: their order as the machine tests it, and their gap as a difference of unsigned numbers.
use Rattle.std.specs.Prelude.{Bool, true, false, not, cond, ◌≡◌, refl, ℕ, zero, suc, ◌+◌, ◌-◌, ◌^◌, ◌<◌, ◌≤◌, ℤ, pos, negsuc, nat_abs, ◌-ℤ◌, leb, ltb, int_lt}
use Rattle.std.proofs.Common.{true≢false, sym, ap, ◌∙◌, arith, lt-ltb, le-ltb, le-leb, ltb-true, ltb-false, leb-true, leb-false, to_z, of_z, SFits}
use Rattle.std.proofs.lemmas.Bool.{lt-leb}
use Rattle.std.proofs.Math.IntN.{sub_ℕ}
use Rattle.std.proofs.Math.Dec.{leb-suc-suc}
use Rattle.std.specs.Int.Signed.{mag, le_z, lt_z}
use Rattle.std.specs.Int.{w64, int_min, int_max}
use Rattle.std.proofs.lemmas.Int.{to_z-of_z}
use Rattle.geometry.specs.Keys.{is_negative, at_most, lesser, greater, gap}

-- ---- the order

-- a difference in ℕ, as `sub_ℕ` makes it, is negative by its test
sign : (m n : ℕ) (t : Bool) → is_negative (cond t (negsuc m) (pos n)) ≡ t
sign m n true = refl
sign m n false = refl

by_test : (a b : ℕ) (t : Bool) → ltb b a ≡ t → leb a b ≡ not t
by_test a b true e = lt-leb a b (ltb-true b a e)
by_test a b false e = le-leb a b (ltb-false b a e)

not_below_lem : (a b : ℕ) → leb a b ≡ not (ltb b a)
not_below_lem a b = by_test a b (ltb b a) refl

-- the machine's test of two keys is the definition's
pub at_most_lem : (k l : ℤ) → le_z k l ≡ at_most k l
at_most_lem (pos zero) (pos b) = le-leb zero b (omega arith)
at_most_lem (pos (suc a)) (pos b) = not_below_lem (suc a) b ∙ ap not (sym (sign _ _ (ltb b (suc a))))
at_most_lem (pos zero) (negsuc b) = ap not (sym (sign _ _ (ltb zero (suc b)) ∙ lt-ltb zero (suc b) (omega arith)))
at_most_lem (pos (suc a)) (negsuc b) = refl
at_most_lem (negsuc a) (pos b) = refl
at_most_lem (negsuc a) (negsuc b) = sym (leb-suc-suc b a) ∙ not_below_lem (suc b) (suc a) ∙ ap not (sym (sign _ _ (ltb (suc a) (suc b))))

-- and so are its least and its greatest of two
le_by_lt : (k l : ℤ) → le_z k l ≡ not (int_lt l k)
le_by_lt (pos a) (pos b) = not_below_lem a b
le_by_lt (pos a) (negsuc b) = refl
le_by_lt (negsuc a) (pos b) = refl
le_by_lt (negsuc a) (negsuc b) = not_below_lem b a

picked : (t : Bool) (k l : ℤ) → cond t l k ≡ cond (not t) k l
picked true k l = refl
picked false k l = refl

least_is : (k l : ℤ) → int_min k l ≡ lesser k l
least_is k l = rw (sym (at_most_lem k l), le_by_lt k l) (picked (int_lt l k) k l)

greatest_is : (k l : ℤ) → int_max k l ≡ greater k l
greatest_is k l = rw (sym (at_most_lem k l), le_by_lt k l) (picked (int_lt l k) l k)

pub ends_meet : (k l m n : ℤ) {a b : ℤ} → a ≡ int_min k l → b ≡ int_max m n → le_z a b ≡ at_most (lesser k l) (greater m n)
ends_meet k l m n e f = rw (e, f, least_is k l, greatest_is m n) (at_most_lem (lesser k l) (greater m n))

-- ---- the gap

-- k moved up by 2^63
abbrev pub offset : ℤ → ℕ
offset (pos n) = 2 ^ 63 + n
offset (negsuc n) = 2 ^ 63 - suc n

-- of a - b and b - a in ℕ, one is the distance and the other is 0
apart_by : (a b : ℕ) (t : Bool) → ltb a b ≡ t → nat_abs (cond t (negsuc (b - suc a)) (pos (a - b))) ≡ (a - b) + (b - a)
apart_by a b true e = let below = ltb-true a b e in omega arith
apart_by a b false e = let above = ltb-false a b e in omega arith

-- how far apart two whole numbers are
pub abs_subℕ : (a b : ℕ) → nat_abs (sub_ℕ a b) ≡ (a - b) + (b - a)
abs_subℕ a b = apart_by a b (ltb a b) refl

pub gap_of : (k l : ℤ) → SFits w64 k → SFits w64 l → gap k l ≡ (offset k - offset l) + (offset l - offset k)
gap_of (pos a) (pos zero) f g = omega arith
gap_of (pos a) (pos (suc b)) f g = omega (arith, abs_subℕ a (suc b))
gap_of (pos a) (negsuc b) f g = omega (arith, g.sfits)
gap_of (negsuc a) (pos zero) f g = omega (arith, abs_subℕ zero (suc a), f.sfits)
gap_of (negsuc a) (pos (suc b)) f g = omega (arith, f.sfits)
gap_of (negsuc a) (negsuc b) f g = omega (arith, abs_subℕ (suc b) (suc a), f.sfits, g.sfits)

-- what the code of `offset` needs of a negative key: -1 - k is n, in range
pub record Negative (k : ℤ) : Type 0 where
  pub n : ℕ
  pub small : n < 2 ^ 63
  pub flipped : negsuc 0 -ℤ to_z w64 (of_z w64 k) ≡ pos n
  pub moved : 2 ^ 63 - 1 - n ≡ offset k

-- and of one that is not
pub record Plain (k : ℤ) : Type 0 where
  pub n : ℕ
  pub small : n < 2 ^ 63
  pub same : to_z w64 (of_z w64 k) ≡ pos n
  pub moved : 2 ^ 63 + n ≡ offset k

negative_of : (k : ℤ) → SFits w64 k → lt_z k (pos 0) ≡ true → Negative k
negative_of (pos n) f h = absurd (let none = ltb-true n 0 h in omega arith)
negative_of (negsuc n) f h =
    record {
      n = n;
      small = f.sfits;
      flipped = rw (to_z-of_z w64 (negsuc n) f, le-ltb (suc n) 1 (omega arith)) (ap pos (omega arith));
      moved = omega (arith, f.sfits);
    }

pub negative : (k : ℤ) → SFits w64 k → lt_z (to_z w64 (of_z w64 k)) (pos 0) ≡ true → Negative k
negative k f h = negative_of k f (rw (to_z-of_z w64 k f) at h)

plain_of : (k : ℤ) → SFits w64 k → lt_z k (pos 0) ≡ false → Plain k
plain_of (pos n) f h = record { n = n; small = f.sfits; same = to_z-of_z w64 (pos n) f; moved = refl }
plain_of (negsuc n) f h = absurd (true≢false h)

pub plain : (k : ℤ) → SFits w64 k → lt_z (to_z w64 (of_z w64 k)) (pos 0) ≡ false → Plain k
plain k f h = plain_of k f (rw (to_z-of_z w64 k f) at h)

-- ---- passing

-- a key that went through a register is the key: by its range, and by its range as a struct's field or a call's answer has it
pub back : {k : ℤ} → SFits w64 k → to_z w64 (of_z w64 k) ≡ k
back f = to_z-of_z w64 _ f

pub back_of : (k : ℤ) → mag k < 2 ^ 63 → to_z w64 (of_z w64 k) ≡ k
back_of k small = to_z-of_z w64 k (record { sfits = small })

-- ---- the spans

-- a sum tested against a limit without taking it
pub leb_sum_within : (a b limit : ℕ) → a ≤ limit → leb b (limit - a) ≡ leb (a + b) limit
leb_sum_within a b limit h = within_by (leb b (limit - a)) refl
  where
    within_by : (t : Bool) → leb b (limit - a) ≡ t → t ≡ leb (a + b) limit
    within_by true e = let low = leb-true b (limit - a) e in sym (le-leb (a + b) limit (omega arith))
    within_by false e = let high = leb-false b (limit - a) e in sym (lt-leb (a + b) limit (omega arith))

-- and where the first summand is above it
pub leb_sum_over : (a b limit : ℕ) → limit < a → leb (a + b) limit ≡ false
leb_sum_over a b limit h = lt-leb (a + b) limit (omega arith)
