-- Whether a test holds an odd number of times, and that the changes round a ring are even in number. Assumes nothing.
use Rattle.std.specs.Prelude.{Bool, true, false, cond, ◌≡◌, refl, ℕ, suc, ◌+◌, ◌<◌, ltb}
use Rattle.std.proofs.Common.{sym, ap, ap₂, ◌∙◌, le_refl, add-one, lt-ltb, le-ltb}
use Rattle.std.specs.Float.Ieee.{unlike}
use Rattle.laws.specs.Loop.{for_up, for_up_keeps, for_up_same}
use Rattle.exact.specs.Units.{unlike_self}
use Rattle.outline.specs.Outline.{after}

abbrev pub odd_turn : (ℕ → Bool) → ℕ → Bool → Bool
odd_turn test i odd = unlike odd (test i)

-- the test holds at an odd number of the indices below n
abbrev pub odd_up : ℕ → (ℕ → Bool) → Bool
odd_up n test = for_up n (odd_turn test) false

pub odd_same : (n : ℕ) (test other : ℕ → Bool) → ((i : ℕ) → i < n → test i ≡ other i) → odd_up n test ≡ odd_up n other
odd_same n test other same = for_up_same n (odd_turn test) (odd_turn other) false (λ i odd h. ap (unlike odd) (same i h))

-- 0 is even
pub odd_none : (n : ℕ) (test : ℕ → Bool) → ((i : ℕ) → i < n → test i ≡ false) → odd_up n test ≡ false
odd_none n test none = for_up_keeps (λ i odd. odd ≡ false) n (odd_turn test) false refl (λ i odd h e. ap₂ unlike e (none i h))

unlike_between : (a b c : Bool) → unlike (unlike a b) (unlike b c) ≡ unlike a c
unlike_between true true true = refl
unlike_between true true false = refl
unlike_between true false true = refl
unlike_between true false false = refl
unlike_between false true true = refl
unlike_between false true false = refl
unlike_between false false true = refl
unlike_between false false false = refl

-- Round a ring of n flags, an even number differ from the next one. After i steps from flag 0 the number of changes is odd where the flag reached
-- differs from flag 0, and the last step is back to flag 0.
pub odd_ring : (n : ℕ) (flag : ℕ → Bool) → odd_up n (λ i. unlike (flag i) (flag (after n i))) ≡ false
odd_ring n flag =
    for_up_keeps (λ i odd. odd ≡ unlike (flag 0) (at i)) n (odd_turn change) false (first (ltb 0 n)) step
    ∙ ap (λ (b : Bool). unlike (flag 0) (flag (cond b n 0))) (le-ltb n n (le_refl n)) ∙ unlike_self (flag 0)
  where
    change : ℕ → Bool
    change i = unlike (flag i) (flag (after n i))

    -- the flag after i steps
    at : ℕ → Bool
    at i = flag (cond (ltb i n) i 0)

    first : (b : Bool) → false ≡ unlike (flag 0) (flag (cond b 0 0))
    first true = sym (unlike_self (flag 0))
    first false = sym (unlike_self (flag 0))

    step : (i : ℕ) (odd : Bool) → i < n → odd ≡ unlike (flag 0) (at i) → unlike odd (change i) ≡ unlike (flag 0) (at (suc i))
    step i odd h e =
        ap (λ (x : Bool). unlike x (change i)) (e ∙ ap (λ (b : Bool). unlike (flag 0) (flag (cond b i 0))) (lt-ltb i n h))
        ∙ unlike_between (flag 0) (flag i) (flag (after n i)) ∙ ap (λ (j : ℕ). unlike (flag 0) (at j)) (add-one i)
