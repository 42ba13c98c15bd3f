-- The digits that the kit's `itoa` and `hex` write are the definitions'.
use Rattle.std.specs.Prelude.{◌≡◌, refl, ℕ, zero, suc, ◌*◌, ◌/◌, ◌%◌, ◌^◌, ◌<◌, List, [], ◌∷◌, ◌++◌, slice_index}
use Rattle.std.proofs.Common.{sym, ap, ap₂, ◌∙◌, arith, lt-ltb, le-ltb, pow-suc}
use Rattle.std.proofs.Math.Nat.{div-div-eq-div-mul}
use Rattle.std.proofs.lemmas.Fmt.{AppendsLastDigit, decimal_from_appends, length-decimal-le}
use Rattle.std.specs.Fmt as library
use Rattle.std.specs.Int.{w64, byte_at, bytes_high_first, to_be_bytes}
use Rattle.hex.specs.Hex.{lower_digits, encode_with, encode_lower}
use Rattle.listing.specs.Listing.{decimal_of, decimal, hex_of, hex_digit}

-- ---- decimals

appends : AppendsLastDigit decimal_of
unfolding decimal_of
appends = record { one = λ k n h. rw (lt-ltb n 10 h); more = λ k n h. rw (le-ltb n 10 h) }

pub decimal_is : (v : ℕ) → v < 2 ^ 64 → decimal v ≡ library.decimal v
unfolding decimal
decimal_is v h = decimal_from_appends decimal_of appends 20 v h (length-decimal-le 20 v (omega arith) (omega arith) h)

-- ---- hexadecimal digits

-- the first of n + 1 digits, and the others
first_digit : (n v : ℕ) → hex_of (suc n) v ≡ hex_digit (v / 16 ^ n % 16) ∷ hex_of n v
unfolding hex_of
first_digit zero v = ap (λ (k : ℕ). hex_digit (k % 16) ∷ []) (omega arith)
first_digit (suc n) v =
    let power : 16 * 16 ^ n ≡ 16 ^ suc n = rw pow-suc (omega arith) in
    let shift : v / 16 / 16 ^ n ≡ v / 16 ^ suc n = div-div-eq-div-mul v 16 (16 ^ n) ∙ ap (λ (k : ℕ). v / k) power in
    ap (λ (l : List ℕ). l ++ hex_digit (v % 16) ∷ []) (first_digit n (v / 16) ∙ ap (λ (k : ℕ). hex_digit (k % 16) ∷ hex_of n (v / 16)) shift)

glyph : (d : ℕ) → d < 16 → slice_index lower_digits d ≡ hex_digit d
unfolding hex_digit
glyph zero h = refl
glyph (suc zero) h = refl
glyph (suc (suc zero)) h = refl
glyph (suc (suc (suc zero))) h = refl
glyph (suc (suc (suc (suc zero)))) h = refl
glyph (suc (suc (suc (suc (suc zero))))) h = refl
glyph (suc (suc (suc (suc (suc (suc zero)))))) h = refl
glyph (suc (suc (suc (suc (suc (suc (suc zero))))))) h = refl
glyph (suc (suc (suc (suc (suc (suc (suc (suc zero)))))))) h = refl
glyph (suc (suc (suc (suc (suc (suc (suc (suc (suc zero))))))))) h = refl
glyph (suc (suc (suc (suc (suc (suc (suc (suc (suc (suc zero)))))))))) h = refl
glyph (suc (suc (suc (suc (suc (suc (suc (suc (suc (suc (suc zero))))))))))) h = refl
glyph (suc (suc (suc (suc (suc (suc (suc (suc (suc (suc (suc (suc zero)))))))))))) h = refl
glyph (suc (suc (suc (suc (suc (suc (suc (suc (suc (suc (suc (suc (suc zero))))))))))))) h = refl
glyph (suc (suc (suc (suc (suc (suc (suc (suc (suc (suc (suc (suc (suc (suc zero)))))))))))))) h = refl
glyph (suc (suc (suc (suc (suc (suc (suc (suc (suc (suc (suc (suc (suc (suc (suc zero))))))))))))))) h = refl
glyph (suc (suc (suc (suc (suc (suc (suc (suc (suc (suc (suc (suc (suc (suc (suc (suc d)))))))))))))))) h = absurd (omega arith)

byte_is : (k v : ℕ) → byte_at k v ≡ v / 256 ^ k % 256
byte_is zero v = ap (λ (n : ℕ). n % 256) (omega arith)
byte_is (suc k) v = refl

double : ℕ → ℕ
double zero = zero
double (suc k) = suc (suc (double k))

two_powers : (k : ℕ) → 16 ^ double k ≡ 256 ^ k
unfolding double
two_powers zero = refl
two_powers (suc k) = rw pow-suc (omega (arith, two_powers k))

-- the two digits of byte k
module _ (k v : ℕ) where
  low_digit : v / 16 ^ double k ≡ v / 256 ^ k
  low_digit = ap (λ (n : ℕ). v / n) (two_powers k)

  high_digit : v / 16 ^ suc (double k) ≡ v / 256 ^ k / 16
  high_digit = rw pow-suc (sym (div-div-eq-div-mul v (16 ^ double k) 16) ∙ ap (λ (n : ℕ). n / 16) low_digit)

encoded : (k v : ℕ) → encode_with lower_digits (bytes_high_first k v) ≡ hex_of (double k) v
unfolding encode_with hex_of double
encoded zero v = refl
encoded (suc k) v =
    let byte = byte_is k v in
    let high : byte_at k v / 16 ≡ v / 16 ^ suc (double k) % 16 = omega (arith, byte, high_digit k v) in
    let low : byte_at k v % 16 ≡ v / 16 ^ double k % 16 = omega (arith, byte, low_digit k v) in
    let first : slice_index lower_digits (byte_at k v / 16) ≡ hex_digit (v / 16 ^ suc (double k) % 16) =
    ap (λ (n : ℕ). slice_index lower_digits n) high ∙ glyph (v / 16 ^ suc (double k) % 16) (omega arith) in
    let second : slice_index lower_digits (byte_at k v % 16) ≡ hex_digit (v / 16 ^ double k % 16) =
    ap (λ (n : ℕ). slice_index lower_digits n) low ∙ glyph (v / 16 ^ double k % 16) (omega arith) in
    ap₂ ◌∷◌ first (ap₂ ◌∷◌ second (encoded k v) ∙ sym (first_digit (double k) v)) ∙ sym (first_digit (suc (double k)) v)

pub hex_is : (v : ℕ) → encode_lower (to_be_bytes w64 v) ≡ hex_of 16 v
unfolding double
hex_is v = encoded 8 v
