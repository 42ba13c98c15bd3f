-- The definitions of Listing by the cases that the code tells apart.
use Rattle.std.specs.Prelude.{◌≡◌, refl, cond, List, [], ◌∷◌, ◌++◌, ℕ, zero, suc, ◌+◌, ◌-◌, ◌/◌, ◌%◌, ◌^◌, ◌≤◌, ◌<◌, ltb}
use Rattle.std.proofs.Math.Path.{ap}
use Prim.Native.Char.{code}
use Rattle.std.proofs.Common.{pow-suc, arith, lt-ltb, le-ltb}
use Rattle.listing.specs.Listing.{decimal_of, decimal, hex_of, hex_digit, end_word}

-- ---- digits

-- one digit more than are there changes nothing
enough : (n v : ℕ) → v < 10 ^ suc n → decimal_of (suc n) v ≡ decimal_of (suc (suc n)) v
unfolding decimal_of
enough zero v h = rw (lt-ltb v 10 (omega arith))
enough (suc n) v h =
    ap (λ (l : List ℕ). cond (ltb v 10) ((code "0" + v) ∷ []) (l ++ (code "0" + v % 10) ∷ [])) (enough n (v / 10) (omega (arith, pow-suc 10 (suc n))))

pub decimal_digit : (v : ℕ) → v < 10 → decimal v ≡ (code "0" + v) ∷ []
unfolding decimal decimal_of
decimal_digit v h = rw (lt-ltb v 10 h)

pub decimal_longer : (v : ℕ) → 10 ≤ v → v < 2 ^ 64 → decimal v ≡ decimal (v / 10) ++ (code "0" + v % 10) ∷ []
unfolding decimal decimal_of
decimal_longer v h k = rw (le-ltb v 10 h) (ap (λ (l : List ℕ). l ++ (code "0" + v % 10) ∷ []) (enough 18 (v / 10) (omega arith)))

pub hex_none : (n v : ℕ) → n ≡ 0 → hex_of n v ≡ []
unfolding hex_of
hex_none n v e = ap (λ (k : ℕ). hex_of k v) e

pub hex_longer : (n v : ℕ) → (n ≡ 0 → ⊥) → hex_of n v ≡ hex_of (n - 1) (v / 16) ++ hex_digit (v % 16) ∷ []
unfolding hex_of
hex_longer zero v h = absurd (h refl)
hex_longer (suc n) v h = let e : suc n - 1 ≡ n = omega arith in rw e

-- ---- words

-- no other end: it is full
pub end_full : (n : ℕ) → (n ≡ 0 → ⊥) → (n ≡ 1 → ⊥) → (n ≡ 2 → ⊥) → end_word n ≡ end_word 3
unfolding end_word
end_full zero h₀ h₁ h₂ = absurd (h₀ refl)
end_full (suc zero) h₀ h₁ h₂ = absurd (h₁ refl)
end_full (suc (suc zero)) h₀ h₁ h₂ = absurd (h₂ refl)
end_full (suc (suc (suc n))) h₀ h₁ h₂ = refl
