-- What a search among the sorted numbers of a mesh's sides finds.
use Rattle.std.specs.Prelude.{◌≡◌, refl, Bool, true, false, ◌&&◌, ◌||◌, List, ℕ, suc, ◌+◌, ◌-◌, ◌<◌, ◌≤◌, eqb, ltb, map, length, get_or, Result, Ok, Err}
use Rattle.std.proofs.Common.{sym, ap, ◌∙◌, arith, lt-ltb, le-ltb, ltb-true, ltb-false, eqb-true, eq-eqb, true≢false}
use Rattle.std.specs.Result.{MatchResult, is_ok}
use Rattle.laws.specs.Tests.{both, and_both}
use Rattle.front.specs.State.{State}
use Rattle.books.specs.Book.{edge}
use Rattle.books.specs.Net.{count_edge}
use Rattle.cover_sides.specs.Sides.{sides_of, side_key, count_key, SidesListed}
use Rattle.cover_sides.proofs.Writing.{sides_fit}
use Rattle.cover_sides.proofs.Counts.{count_keys, count_none, count_some, count_two, alone}

-- what `binary_search` says in a rising list
abbrev pub Searched : List ℕ → ℕ → Result ℕ ℕ → Type 0
Searched xs x r =
    MatchResult r (λ i. (i < length xs) × (get_or xs i 0 ≡ x))
    (λ i. (i ≤ length xs) × ((k : ℕ) → k < i → get_or xs k 0 < x) × ((k : ℕ) → i ≤ k → k < length xs → x < get_or xs k 0))

module _ (s : State) (keys : List ℕ) (L : SidesListed s keys) (u v : ℕ) (few : v < 4294967296) (x : ℕ) (e : x ≡ side_key (edge u v)) where
  side_count : count_edge u v (sides_of s) ≡ count_key x keys
  side_count =
      count_keys (edge u v) (sides_of s) few (sides_fit s s.counts.quads L.fit) ∙ (ap (λ (y : ℕ). count_key y (map side_key (sides_of s))) (sym e) ∙ sym (L.counts x))

  absent : (i : ℕ) → ((k : ℕ) → k < i → get_or keys k 0 < x) → ((k : ℕ) → i ≤ k → k < length keys → x < get_or keys k 0) → count_key x keys ≡ 0
  absent i below above = count_none x keys (λ j h f. by j h f (ltb j i) refl)
    where
      by : (j : ℕ) → j < length keys → get_or keys j 0 ≡ x → (b : Bool) → ltb j i ≡ b → ⊥
      by j h f true q = let l = below j (ltb-true j i q) in omega arith
      by j h f false q = let l = above j (ltb-false j i q) h in omega arith

  pub has_is : (r : Result ℕ ℕ) → Searched keys x r → is_ok r ≡ ltb 0 (count_edge u v (sides_of s))
  has_is (Ok i) f = sym (lt-ltb 0 _ (omega (arith, side_count, count_some x keys i f.0 f.1)))
  has_is (Err i) f = sym (le-ltb 0 _ (omega (arith, side_count, absent i f.1 f.2)))

  pub twice_err : (i : ℕ) → ((k : ℕ) → k < i → get_or keys k 0 < x) → ((k : ℕ) → i ≤ k → k < length keys → x < get_or keys k 0)
      → false ≡ ltb 1 (count_edge u v (sides_of s))
  twice_err i below above = sym (le-ltb 1 _ (omega (arith, side_count, absent i below above)))

  abbrev IsAt : ℕ → Bool
  IsAt j = ltb j (length keys) && eqb (get_or keys j 0) x

  at_true : (j : ℕ) → IsAt j ≡ true → (j < length keys) × (get_or keys j 0 ≡ x)
  at_true j q = let t = both (ltb j (length keys)) (eqb (get_or keys j 0) x) q in (ltb-true j (length keys) t.0, eqb-true (get_or keys j 0) x t.1)

  at_false : (j : ℕ) → IsAt j ≡ false → j < length keys → get_or keys j 0 ≡ x → ⊥
  at_false j q h f = true≢false (sym (and_both _ _ (lt-ltb j (length keys) h) (eq-eqb _ _ f)) ∙ q)

  module _ (i : ℕ) (h : i < length keys) (f : get_or keys i 0 ≡ x) where
    pub twice_after : IsAt (i + 1) ≡ true → true ≡ ltb 1 (count_edge u v (sides_of s))
    twice_after q = let t = at_true (i + 1) q in sym (lt-ltb 1 _ (omega (arith, side_count, count_two x keys i (i + 1) (omega arith) t.0 f t.1)))

    pub twice_before : 0 < i → IsAt (i - 1) ≡ true → true ≡ ltb 1 (count_edge u v (sides_of s))
    twice_before above q = let t = at_true (i - 1) q in sym (lt-ltb 1 _ (omega (arith, side_count, count_two x keys (i - 1) i (omega arith) h t.1 f)))

    pub twice_none : IsAt (i + 1) ≡ false → (0 < i → IsAt (i - 1) ≡ false) → false ≡ ltb 1 (count_edge u v (sides_of s))
    twice_none after before =
        sym (le-ltb 1 _ (omega (
          arith,
          side_count,
          alone keys L.up x i h f (at_false (i + 1) after)
              (λ j q g. at_false (i - 1) (before (omega arith)) (omega arith) (ap (λ (k : ℕ). get_or keys k 0) (sub j q) ∙ g)),
        )))
      where
        sub : (j : ℕ) → j + 1 ≡ i → i - 1 ≡ j
        sub j q = omega arith

    -- where the number after isn't the same, that before decides
    pub twice_as_before : IsAt (i + 1) ≡ false → 0 < i → IsAt (i - 1) ≡ ltb 1 (count_edge u v (sides_of s))
    twice_as_before after above = by (IsAt (i - 1)) refl
      where
        by : (b : Bool) → IsAt (i - 1) ≡ b → b ≡ ltb 1 (count_edge u v (sides_of s))
        by true q = twice_before above q
        by false q = twice_none after (λ l. q)
