-- Searches by a walk: a chain from place to place, and a row of cells from cell to cell. `whole` is what the search is to answer.
use Rattle.std.specs.Prelude.{Bool, true, false, ◌||◌, ◌≡◌, ℕ, zero, suc, ◌+◌, ◌-◌, ◌<◌, ◌≤◌, length}
use Rattle.std.proofs.Common.{refl, sym, ap, ap₂, ◌∙◌, arith}
use mathlib.Core.List.{List, ◌++◌}
use Rattle.index_pools.specs.Pool.{cells, capacity, own_at, link_at, head_at, falling, chain, any_of, cell_of, chain_at}
use Rattle.index_pools.specs.ChainLaws.{any_left, any_right, any_neither, falling_high, falling_step}
use Rattle.std.specs.Bool.{MatchBool}
use Rattle.std.specs.List.{range_with_len, AllWithin, HoldsAt}
use Rattle.std.proofs.lemmas.List.FromFn.{length-range_with_len, get_or-range_with_len}
use Rattle.index.specs.Walk.{across, columns}
use Rattle.index.proofs.AcrossLaws.{across_some}

module _ (tests : ℕ → Bool) where
  any_joined : (l m : List ℕ) → any_of tests (l ++ m) ≡ (any_of tests l || any_of tests m)
  any_joined l m = by (any_of tests l) refl
    where
      by : (b : Bool) → any_of tests l ≡ b → any_of tests (l ++ m) ≡ (any_of tests l || any_of tests m)
      by true e = any_left tests l m e ∙ sym (ap (λ (b : Bool). b || any_of tests m) e)
      by false e = more (any_of tests m) refl
        where
          more : (b : Bool) → any_of tests m ≡ b → any_of tests (l ++ m) ≡ (any_of tests l || any_of tests m)
          more true f = any_right tests l m f ∙ sym (ap₂ (λ (b c : Bool). b || c) e f)
          more false f = any_neither tests l m e f ∙ sym (ap₂ (λ (b c : Bool). b || c) e f)

  -- what is left of a chain answers: all of it does at first
  pub chain_all : {limit : ℕ} (n : ℕ) (pool : List ℕ) (t : ℕ) → limit ≡ capacity n
      → any_of tests (falling (own_at n pool) (link_at n pool) limit t) ≡ any_of tests (chain n pool t)
  unfolding chain
  chain_all n pool t e = ap (λ (k : ℕ). any_of tests (falling (own_at n pool) (link_at n pool) k t)) e

  module _ (n : ℕ) (pool : List ℕ) (limit t : ℕ) {whole : Bool}
      (left : any_of tests (falling (own_at n pool) (link_at n pool) limit t) ≡ whole) where
    step : t < limit → (tests (own_at n pool t) || any_of tests (falling (own_at n pool) (link_at n pool) t (link_at n pool t))) ≡ whole
    unfolding any_of
    step h = sym (ap (any_of tests) (falling_step (own_at n pool) (link_at n pool) limit t h)) ∙ left

    -- the owner here passes
    pub chain_hit : {own : ℕ} → t < limit → own ≡ own_at n pool t → tests own ≡ true → true ≡ whole
    chain_hit h e passes = sym (ap (λ (b : Bool). b || any_of tests (falling (own_at n pool) (link_at n pool) t (link_at n pool t))) (ap tests (sym e) ∙ passes)) ∙ step h

    -- it fails, and the link goes on
    pub chain_next : {own link : ℕ} → t < limit → own ≡ own_at n pool t → link ≡ link_at n pool t → tests own ≡ false
        → any_of tests (falling (own_at n pool) (link_at n pool) t link) ≡ whole
    chain_next h e l fails =
        ap (λ (u : ℕ). any_of tests (falling (own_at n pool) (link_at n pool) t u)) l
        ∙ sym (ap (λ (b : Bool). b || any_of tests (falling (own_at n pool) (link_at n pool) t (link_at n pool t))) (ap tests (sym e) ∙ fails)) ∙ step h

    -- no place is left
    pub chain_over : limit ≤ t → false ≡ whole
    unfolding any_of
    chain_over h = sym (ap (any_of tests) (falling_high (own_at n pool) (link_at n pool) limit t h)) ∙ left

  -- of lists joined from the one of number i up to that below b: the first, and then the others
  pub across_step : (f : ℕ → List ℕ) (i b : ℕ) → i < b
      → any_of tests (across f (b - i) i) ≡ (any_of tests (f i) || any_of tests (across f (b - (i + 1)) (i + 1)))
  unfolding across
  across_step f i b h =
      let e : b - i ≡ suc (b - (i + 1)) = omega arith in
      ap (λ (w : ℕ). any_of tests (across f w i)) e ∙ any_joined (f i) (across f (b - (i + 1)) (i + 1))

  -- none is left
  pub across_nothing : (f : ℕ → List ℕ) {w : ℕ} (i : ℕ) → w ≡ 0 → any_of tests (across f w i) ≡ false
  unfolding across any_of
  across_nothing f i e = ap (λ (v : ℕ). any_of tests (across f v i)) e

  across_nowhere : (f : ℕ → List ℕ) (w a : ℕ) → ((i : ℕ) → a ≤ i → i < a + w → any_of tests (f i) ≡ false) → any_of tests (across f w a) ≡ false
  across_nowhere f zero a fails = across_nothing f a refl
  across_nowhere f (suc w) a fails =
      let e : suc w ≡ (a + suc w) - a = omega arith in
      let m : (a + suc w) - (a + 1) ≡ w = omega arith in
      ap (λ (v : ℕ). any_of tests (across f v a)) e ∙ across_step f a (a + suc w) (omega arith)
      ∙ ap₂ (λ (b c : Bool). b || c) (fails a (omega arith) (omega arith))
      (ap (λ (v : ℕ). any_of tests (across f v (a + 1))) m ∙ across_nowhere f w (a + 1) (λ i low high. fails i (omega arith) (omega arith)))

  -- `any` over the numbers from a up to b, of tests of the lists joined
  pub across_any : (f : ℕ → List ℕ) (a w : ℕ) (r : Bool)
      → MatchBool r ((k : ℕ) × (k < length (range_with_len a w)) × HoldsAt (λ i. any_of tests (f i) ≡ true) (range_with_len a w) k)
      (AllWithin (λ i. any_of tests (f i) ≡ false) (range_with_len a w) 0 (length (range_with_len a w)))
      → r ≡ any_of tests (across f w a)
  across_any f a w true h =
      let k = h.0 in
      let long = length-range_with_len a w in
      let here : k < w = omega (arith, h.1) in
      let e = get_or-range_with_len a w k 0 here in
      sym (across_some tests f w a (a + k) (omega arith) (omega arith) (rw e at (h.2 0)))
  across_any f a w false h = sym (across_nowhere f w a (λ i low high. by i low high))
    where
      by : (i : ℕ) → a ≤ i → i < a + w → any_of tests (f i) ≡ false
      by i low high =
          let long = length-range_with_len a w in
          let same : a + (i - a) ≡ i = omega arith in
          let at = get_or-range_with_len a w (i - a) 0 (omega arith) in
          rw (at, same) at (h (i - a) 0 (omega arith) (omega arith))

  -- what is left of a row answers
  module _ (pool : List ℕ) (j k last : ℕ) {cell : ℕ} {whole : Bool} (here : cell ≡ cell_of (cells (length pool)) k j)
      (left : any_of tests (columns pool j (last - k) k) ≡ whole) where
    row_step : k < last → (any_of tests (chain (length pool) pool (head_at pool cell)) || any_of tests (columns pool j (last - (k + 1)) (k + 1))) ≡ whole
    unfolding chain_at
    row_step h =
        ap (λ (m : ℕ). any_of tests (chain (length pool) pool (head_at pool m)) || any_of tests (columns pool j (last - (k + 1)) (k + 1))) here
        ∙ sym (across_step (λ i. chain_at (length pool) pool i j) k last h) ∙ left

    -- the cell's chain passes
    pub row_hit : {head : ℕ} {found : Bool} → k < last → head ≡ head_at pool cell → found ≡ any_of tests (chain (length pool) pool head) → found ≡ true → true ≡ whole
    row_hit h e f passes =
        sym (ap (λ (b : Bool). b || any_of tests (columns pool j (last - (k + 1)) (k + 1)))
        (ap (λ (t : ℕ). any_of tests (chain (length pool) pool t)) (sym e) ∙ sym f ∙ passes)) ∙ row_step h

    -- it fails, and the others are left
    pub row_next : {head : ℕ} {found : Bool} → k < last → head ≡ head_at pool cell → found ≡ any_of tests (chain (length pool) pool head) → found ≡ false
        → any_of tests (columns pool j (last - (k + 1)) (k + 1)) ≡ whole
    row_next h e f fails =
        sym (ap (λ (b : Bool). b || any_of tests (columns pool j (last - (k + 1)) (k + 1)))
        (ap (λ (t : ℕ). any_of tests (chain (length pool) pool t)) (sym e) ∙ sym f ∙ fails)) ∙ row_step h

    -- no cell is left
    pub row_over : last - k ≡ 0 → false ≡ whole
    row_over h = sym (across_nothing (λ i. chain_at (length pool) pool i j) k h) ∙ left
