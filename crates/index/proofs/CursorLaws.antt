-- Laws of a walk by a cursor: it visits what `visited` has.
use Rattle.std.specs.Prelude.{Bool, true, false, ◌||◌, ◌≡◌, ℕ, ◌+◌, ◌-◌, ◌%◌, ◌<◌, ◌≤◌}
use Rattle.std.specs.Option.{IfSome, MatchOption, unwrap_or}
use Rattle.std.proofs.Common.{Option, Some, None, true≢false, ◌∙◌, arith}
use mathlib.Core.List.{List, [], ◌∷◌, ◌++◌}
use Rattle.std.proofs.Math.Path.{refl, sym, ap, ap₂}
use borrow.Author.Tests.{ne_eqb}
use Rattle.std.proofs.Math.ListN.{length}
use Rattle.laws.specs.Loop.{any_up}
use Rattle.index_pools.specs.declared.Rect.{Rect}
use Rattle.index_pools.specs.Pool.{none, cells, capacity, own_at, link_at, head_at, falling, chain, any_of, cell_of, chain_at, filed}
use Rattle.index_pools.specs.Pool.{Indexed}
use Rattle.index_key_rects.specs.Rects.{Meets}
use Rattle.index.specs.declared.cursors.Cursor.{Cursor}
use Rattle.index.specs.Walk.{columns, rows, visited}
use Rattle.index.specs.Cursors.{over, cursor_of, row_ahead, ahead, At, InRow, Stands, NextCursor}
use Rattle.index_pools.specs.ChainLaws.{any_left, falling_high, falling_step, falling_on, falling_last}
use Rattle.index.proofs.AcrossLaws.{across_more}
use Rattle.index_pools.specs.FileLaws.{place_small, next_column}
use Rattle.index.proofs.WalkLaws.{visited_filed}

-- ---- the invariant of a search: what is left of the walk answers

pub record Walk (pool : List ℕ) (r : Rect) (test : ℕ → Bool) (answer : Bool) (c : Cursor) : Type 0 where
  pub at : over c ≡ false → At pool c
  pub same : any_of test (ahead pool r c) ≡ answer

module _ {pool : List ℕ} {r : Rect} {test : ℕ → Bool} where
  -- `first`: every item filed that passes the test has a rectangle that meets r
  pub walk_start : {rects : ℕ → Rect} {count : ℕ} {c : Cursor} → Indexed pool rects count
      → ((id : ℕ) → test id ≡ true → Meets (rects id) r) → Stands pool r (visited pool r) c → Walk pool r test (any_up (filed pool) test) c
  walk_start I hits s = record { at = s.at; same = ap (any_of test) s.all ∙ visited_filed I hits }

  module _ {answer : Bool} {c : Cursor} (w : Walk pool r test answer c) where
    -- the walk is over: no item passes
    pub walk_none : over c ≡ true → false ≡ answer
    unfolding ahead any_of
    walk_none e = rw e at w.same

    -- `after`, where the cursor's item fails
    pub walk_next : {d : Cursor} → test (own_at (length pool) pool c.t) ≡ false → NextCursor pool r c d → Walk pool r test answer d
    unfolding any_of
    walk_next {d} fails a =
        record {
          at = a.at;
          same = sym (ap (λ (b : Bool). b || any_of test (ahead pool r d)) fails) ∙ ap (any_of test) (sym a.rest) ∙ w.same;
        }

    -- where it passes
    pub walk_hit : over c ≡ false → test (own_at (length pool) pool c.t) ≡ true → true ≡ answer
    unfolding ahead row_ahead chain any_of
    walk_hit on passes =
        let n = length pool in
        let here : any_of test (chain n pool c.t) ≡ true =
        ap (any_of test) (falling_step (own_at n pool) (link_at n pool) (capacity n) c.t (w.at on).place)
        ∙ ap (λ (b : Bool). b || any_of test (falling (own_at n pool) (link_at n pool) c.t (link_at n pool c.t))) passes in
        let row = columns pool c.j (r.right - c.i) (c.i + 1) in
        sym (any_left test (chain n pool c.t ++ row) (rows pool r (r.high - c.j) (c.j + 1)) (any_left test (chain n pool c.t) row here))
        ∙ (rw on at w.same)

-- the measure falls
pub walk_less : {pool : List ℕ} {r : Rect} {c d : Cursor} → NextCursor pool r c d → length (ahead pool r d) < length (ahead pool r c)
walk_less a = omega (arith, ap length a.rest)

-- ---- how the code finds its places

-- none is at no place
pub none_over : over (cursor_of None) ≡ true
unfolding over
none_over = refl

-- the cursor of an answer, or else the one at no place
pub or_nowhere : (found : Option Cursor) → unwrap_or found (record { i = 0; j = 0; cell = 0; t = none }) ≡ cursor_of found
or_nowhere None = refl
or_nowhere (Some c) = refl

-- a place of the pool isn't none
pub on_place : (n : ℕ) (c : Cursor) → c.t < capacity n → over c ≡ false
unfolding over
on_place n c small = ne_eqb c.t none (λ is_none. omega (arith, place_small n c.t small))

module _ (pool : List ℕ) (right i j cell : ℕ) (some : 4 ≤ length pool) (e : cell ≡ cell_of (cells (length pool)) i j) where
  abbrev n : ℕ
  n = length pool

  -- a place under the key (i, j)
  pub row_hit : (rest : List ℕ) (t : ℕ) → t ≡ head_at pool cell → t < capacity n
      → rest ≡ chain_at n pool i j ++ columns pool j (right - i) (i + 1)
      → InRow pool right j rest (record { i = i; j = j; cell = cell; t = t })
  unfolding row_ahead over chain_at
  row_hit rest t head small f =
      let on = ne_eqb t none (λ is_none. omega (arith, place_small n t small)) in
      record {
        at = λ o. record { some = some; cell = e; place = small };
        row = λ o. refl;
        all = rw on (ap (λ (s : ℕ). chain n pool s ++ columns pool j (right - i) (i + 1)) (head ∙ ap (head_at pool) e) ∙ sym f);
      }

  -- no place under it
  pub row_miss : (l : List ℕ) → capacity n ≤ head_at pool cell → chain_at n pool i j ++ l ≡ l
  unfolding chain_at chain
  row_miss l past =
      ap (λ (h : ℕ). falling (own_at n pool) (link_at n pool) (capacity n) (head_at pool h) ++ l) (sym e)
      ∙ ap (λ (q : List ℕ). q ++ l) (falling_high (own_at n pool) (link_at n pool) (capacity n) (head_at pool cell) past)

-- the invariant of the search in a row: the columns from i₀ + 1 to i have no place under them
pub record Seeking (pool : List ℕ) (right i₀ j i cell : ℕ) : Type 0 where
  pub here : cell ≡ cell_of (cells (length pool)) i j
  pub same : columns pool j (right - i₀) (i₀ + 1) ≡ columns pool j (right - i) (i + 1)

module _ {pool : List ℕ} {right i₀ j i cell next : ℕ} (some : 4 ≤ length pool) (s : Seeking pool right i₀ j i cell) (less : i < right)
    (step : next ≡ (cell + 1) % cells (length pool)) where
  pub seeking_cell : next ≡ cell_of (cells (length pool)) (i + 1) j
  seeking_cell = step ∙ ap (λ (c : ℕ). (c + 1) % cells (length pool)) s.here ∙ sym (next_column (cells (length pool)) i j)

  pub seeking_hit : (t : ℕ) → t ≡ head_at pool next → t < capacity (length pool)
      → InRow pool right j (columns pool j (right - i₀) (i₀ + 1)) (record { i = i + 1; j = j; cell = next; t = t })
  seeking_hit t head small =
      row_hit pool right (i + 1) j next some seeking_cell _ t head small
      (s.same ∙ across_more (λ i. chain_at (length pool) pool i j) i right less)

  pub seeking_next : capacity (length pool) ≤ head_at pool next → Seeking pool right i₀ j (i + 1) next
  seeking_next past =
      record {
        here = seeking_cell;
        same =
            s.same ∙ across_more (λ i. chain_at (length pool) pool i j) i right less
            ∙ row_miss pool right (i + 1) j next some seeking_cell (columns pool j (right - (i + 1)) (i + 1 + 1)) past;
      }

-- nothing is left of the row
pub row_none : {pool : List ℕ} {right j : ℕ} {rest : List ℕ} {c : Cursor} → over c ≡ true → rest ≡ [] → InRow pool right j rest c
unfolding row_ahead
row_none {pool} {right} {j} {rest} {c} e f =
    record {
      at = λ on. absurd (true≢false (sym e ∙ on));
      row = λ on. absurd (true≢false (sym e ∙ on));
      all = rw e (sym f);
    }

-- the rest, said otherwise
pub row_same : {pool : List ℕ} {right j : ℕ} {rest rest' : List ℕ} {c : Cursor} → rest ≡ rest' → InRow pool right j rest c → InRow pool right j rest' c
row_same e found = record { at = found.at; row = found.row; all = found.all ∙ e }

pub stands_same : {pool : List ℕ} {r : Rect} {rest rest' : List ℕ} {c : Cursor} → rest ≡ rest' → Stands pool r rest c → Stands pool r rest' c
stands_same e s = record { at = s.at; all = s.all ∙ e }

-- a place in row j
pub row_stands : {pool : List ℕ} (r : Rect) {j : ℕ} {rest : List ℕ} {c : Cursor} → InRow pool r.right j rest c → over c ≡ false
    → Stands pool r (rest ++ rows pool r (r.high - j) (j + 1)) c
unfolding ahead
row_stands {pool} r {j} {rest} {c} found on =
    record {
      at = found.at;
      all = rw on (ap₂ (λ (l : List ℕ) (k : ℕ). l ++ rows pool r (r.high - k) (k + 1)) found.all (found.row on));
    }

-- none in it
pub row_walked : {pool : List ℕ} {right j : ℕ} {rest : List ℕ} {c : Cursor} → InRow pool right j rest c → over c ≡ true → rest ≡ []
unfolding row_ahead
row_walked found e = sym found.all ∙ rw e refl

-- nothing is left of the walk
pub stands_none : {pool : List ℕ} {r : Rect} {rest : List ℕ} {c : Cursor} → over c ≡ true → rest ≡ [] → Stands pool r rest c
unfolding ahead
stands_none {pool} {r} {rest} {c} e f = record { at = λ on. absurd (true≢false (sym e ∙ on)); all = rw e (sym f) }

-- a place in row j, or else one under the later rows
pub or_stands : {P : Type 0} (pool : List ℕ) (r : Rect) (j : ℕ) (rest : List ℕ) (found result : Option Cursor)
    → InRow pool r.right j rest (cursor_of found) → IfSome found (λ c. over c ≡ false) → MatchOption found P (λ c. result ≡ Some c)
    → (P → Stands pool r (rows pool r (r.high - j) (j + 1)) (cursor_of result) × IfSome result (λ c. over c ≡ false))
    → Stands pool r (rest ++ rows pool r (r.high - j) (j + 1)) (cursor_of result) × IfSome result (λ c. over c ≡ false)
or_stands pool r j rest None result row on was later =
    let s = later was in
    (stands_same (sym (ap (λ (l : List ℕ). l ++ rows pool r (r.high - j) (j + 1)) (row_walked row none_over))) s.0, s.1)
or_stands pool r j rest (Some c) result row on was later = rw was (row_stands r row on, on)

module _ {pool : List ℕ} (r : Rect) {c : Cursor} (at : At pool c) where
  abbrev m : ℕ
  m = length pool

  stays : over c ≡ false
  stays = on_place m c at.place

  -- the next place of the chain
  pub after_link : link_at m pool c.t < c.t
      → NextCursor pool r c (record { i = c.i; j = c.j; cell = c.cell; t = link_at m pool c.t })
  unfolding ahead row_ahead chain over
  after_link less =
      let off = ne_eqb (link_at m pool c.t) none (λ is_none. omega (arith, place_small m c.t at.place)) in
      let row = columns pool c.j (r.right - c.i) (c.i + 1) in
      record {
        at = λ on. record { some = at.some; cell = at.cell; place = omega (arith, at.place) };
        rest =
            rw (stays, off)
            (ap (λ (l : List ℕ). (l ++ row) ++ rows pool r (r.high - c.j) (c.j + 1))
            (falling_on (own_at m pool) (link_at m pool) (capacity m) c.t at.place less));
      }

  -- the chain ends: the rest is what is left of the row, and then the later rows
  pub after_chain : {d : Cursor} → c.t ≤ link_at m pool c.t
      → Stands pool r (columns pool c.j (r.right - c.i) (c.i + 1) ++ rows pool r (r.high - c.j) (c.j + 1)) d → NextCursor pool r c d
  unfolding ahead row_ahead chain
  after_chain last s =
      let row = columns pool c.j (r.right - c.i) (c.i + 1) in
      record {
        at = s.at;
        rest =
            rw stays
            (ap (λ (l : List ℕ). (l ++ row) ++ rows pool r (r.high - c.j) (c.j + 1))
            (falling_last (own_at m pool) (link_at m pool) (capacity m) c.t at.place last))
            ∙ ap (λ (l : List ℕ). own_at m pool c.t ∷ l) (sym s.all);
      }
