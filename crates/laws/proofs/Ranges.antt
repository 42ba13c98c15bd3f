-- A search of the numbers from `from` on by the library's `any`, where none before passes the test, is `any_up`; one of all of them by `all` is that of a number which
-- fails; and a fold of the numbers below n, or of n numbers from `from` on, is `for_up`.
use Rattle.std.specs.Prelude.{Bool, not, ◌&&◌, ◌||◌, List, [], ◌∷◌, ◌≡◌, refl, ℕ, zero, suc, ◌+◌, ◌-◌}
use Rattle.std.specs.List.{fold, list_any, list_all, range_with_len}
use Rattle.std.proofs.Common.{sym, ap, ◌∙◌, add-one, arith}
use Rattle.std.proofs.Math.Bool.{true, false}
use Rattle.laws.specs.Loop.{for_up, for_up_same, any_up, any_true, Unfound, unfound_none}

ranged : (test : ℕ → Bool) (n a : ℕ) → any_up a test ≡ false → list_any test (range_with_len a n) ≡ any_up (a + n) test
unfolding any_up for_up
ranged test zero a none = sym (let e : a + 0 ≡ a = omega arith in ap (λ (k : ℕ). any_up k test) e ∙ none)
ranged test (suc n) a none =
    let e : a + 1 + n ≡ a + suc n = omega arith in
    by (test a) refl (λ fails. ranged test n (a + 1) (more fails) ∙ ap (λ (k : ℕ). any_up k test) e)
  where
    more : test a ≡ false → any_up (a + 1) test ≡ false
    more fails = rw add-one (ap (λ (b : Bool). b || test a) none ∙ fails)

    by : (b : Bool) → test a ≡ b → (test a ≡ false → list_any test (range_with_len (a + 1) n) ≡ any_up (a + suc n) test)
        → test a || list_any test (range_with_len (a + 1) n) ≡ any_up (a + suc n) test
    by true e rest = ap (λ (b : Bool). b || list_any test (range_with_len (a + 1) n)) e ∙ sym (any_true test (a + suc n) a (omega arith) e)
    by false e rest = ap (λ (b : Bool). b || list_any test (range_with_len (a + 1) n)) e ∙ rest e

pub any_ranged_from : (test : ℕ → Bool) {from count : ℕ} → Unfound test from count → list_any test (range_with_len from (count - from)) ≡ any_up count test
any_ranged_from test {from} {count} u =
    let le = u.within in
    let e : from + (count - from) ≡ count = omega arith in
    ranged test (count - from) from u.none ∙ ap (λ (k : ℕ). any_up k test) e

pub any_ranged : (test : ℕ → Bool) (n : ℕ) → list_any test (range_with_len 0 n) ≡ any_up n test
any_ranged test n = let e : 0 + n ≡ n = omega arith in ranged test n 0 (unfound_none test n).none ∙ ap (λ (k : ℕ). any_up k test) e

module _ {A : Type 0} (turn : ℕ → A → A) (a : A) (from : ℕ) where
  folded : (n i : ℕ) → fold (λ s i. turn i s) (for_up i (λ j. turn (from + j)) a) (range_with_len (from + i) n) ≡ for_up (i + n) (λ j. turn (from + j)) a
  unfolding for_up
  folded zero i = let e : i ≡ i + 0 = omega arith in ap (λ (k : ℕ). for_up k (λ j. turn (from + j)) a) e
  folded (suc n) i =
      let e : i + 1 + n ≡ i + suc n = omega arith in
      let f : from + i + 1 ≡ from + (i + 1) = omega arith in
      let here : turn (from + i) (for_up i (λ j. turn (from + j)) a) ≡ for_up (i + 1) (λ j. turn (from + j)) a = rw add-one refl in
      ap (λ (s : A). fold (λ s i. turn i s) s (range_with_len (from + i + 1) n)) here
      ∙ ap (λ (k : ℕ). fold (λ s i. turn i s) (for_up (i + 1) (λ j. turn (from + j)) a) (range_with_len k n)) f
      ∙ folded n (i + 1) ∙ ap (λ (k : ℕ). for_up k (λ j. turn (from + j)) a) e

  pub fold_ranged_from : (n : ℕ) → fold (λ s i. turn i s) a (range_with_len from n) ≡ for_up n (λ j. turn (from + j)) a
  unfolding for_up
  fold_ranged_from n =
      let e : 0 + n ≡ n = omega arith in
      let f : from ≡ from + 0 = omega arith in
      ap (λ (k : ℕ). fold (λ s i. turn i s) a (range_with_len k n)) f ∙ folded n 0 ∙ ap (λ (k : ℕ). for_up k (λ j. turn (from + j)) a) e

pub fold_ranged : {A : Type 0} (turn : ℕ → A → A) (a : A) (n : ℕ) → fold (λ s i. turn i s) a (range_with_len 0 n) ≡ for_up n turn a
fold_ranged turn a n =
    fold_ranged_from turn a 0 n
    ∙ for_up_same n (λ j. turn (0 + j)) turn a (λ i s h. let e : 0 + i ≡ i = omega arith in ap (λ (k : ℕ). turn k s) e)

all_any : (test : ℕ → Bool) (xs : List ℕ) → list_all test xs ≡ not (list_any (λ x. not (test x)) xs)
all_any test [] = refl
all_any test (x ∷ xs) = by (test x) (all_any test xs)
  where
    by : (b : Bool) → list_all test xs ≡ not (list_any (λ y. not (test y)) xs) → b && list_all test xs ≡ not (not b || list_any (λ y. not (test y)) xs)
    by true rest = rest
    by false rest = refl

pub all_ranged : (test : ℕ → Bool) (n : ℕ) → list_all test (range_with_len 0 n) ≡ not (any_up n (λ x. not (test x)))
all_ranged test n = all_any test (range_with_len 0 n) ∙ ap not (any_ranged (λ x. not (test x)) n)
