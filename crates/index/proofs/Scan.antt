-- A scan of the numbers from `from` up to `count` by the library's `any`, where none before passes the test, is `any_up`. Assumes nothing.
use Rattle.std.specs.Prelude.{Bool, true, false, ◌≡◌, refl, ℕ, ◌+◌, ◌-◌, ◌<◌, ltb, length}
use Rattle.std.specs.Bool.{MatchBool}
use Rattle.std.specs.List.{range_with_len, AllWithin, HoldsAt}
use Rattle.std.proofs.Common.{sym, arith, ltb-true, ltb-false}
use Rattle.std.proofs.lemmas.List.FromFn.{length-range_with_len, get_or-range_with_len}
use Rattle.laws.specs.Loop.{any_up, any_none, any_true, none_found, Unfound}

-- the test answers so of a number, if it is below `count`
abbrev pub Answered : (ℕ → Bool) → ℕ → Bool → ℕ → Type 0
Answered test count b i = i < count → test i ≡ b

pub scanned : (test : ℕ → Bool) {from count : ℕ} → Unfound test from count → (r : Bool)
    → MatchBool r ((k : ℕ) × (k < length (range_with_len from (count - from))) × HoldsAt (Answered test count true) (range_with_len from (count - from)) k)
    (AllWithin (Answered test count false) (range_with_len from (count - from)) 0 (length (range_with_len from (count - from))))
    → r ≡ any_up count test
scanned test {from} {count} u true h =
    let k = h.0 in
    let long = length-range_with_len from (count - from) in
    let here : k < count - from = omega (arith, h.1) in
    let e = get_or-range_with_len from (count - from) k 0 here in
    sym (any_true test count (from + k) (omega arith) ((rw e at (h.2 0)) (omega arith)))
scanned test {from} {count} u false h = sym (none_found test count (λ i low. by i low (ltb i from) refl))
  where
    by : (i : ℕ) → i < count → (b : Bool) → ltb i from ≡ b → test i ≡ false
    by i low true e = any_none test from u.none i (ltb-true i from e)
    by i low false e =
        let high = ltb-false i from e in
        let long = length-range_with_len from (count - from) in
        let same : from + (i - from) ≡ i = omega arith in
        let at = get_or-range_with_len from (count - from) (i - from) 0 (omega arith) in
        (rw (at, same) at (h (i - from) 0 (omega arith) (omega arith))) low
