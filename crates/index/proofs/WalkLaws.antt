-- Laws of walks: the owners that a walk visits answer what a scan of all items answers.
use Rattle.std.specs.Prelude.{Bool, ◌||◌, ◌≡◌, ℕ, ◌<◌, ◌≤◌}
use Rattle.std.proofs.Math.Bool.{true, false}
use Rattle.std.proofs.Common.{◌∙◌, arith}
use mathlib.Core.List.{List, []}
use Rattle.std.proofs.Math.Logic.{⊎_elim}
use Rattle.std.proofs.Math.Path.{refl, sym, ap, ap₂}
use Rattle.std.proofs.Math.ListN.{length}
use Rattle.laws.specs.Loop.{for_up, any_up, any_found, any_none}
use Rattle.index_pools.specs.declared.Rect.{Rect}
use Rattle.index_pools.specs.Pool.{cells, capacity, own_at, link_at, head_at, used, chain, any_of, cell_of, chain_at, span, filed}
use Rattle.index_pools.specs.Pool.{Filed, Indexed}
use Rattle.index_key_rects.specs.Rects.{Meets}
use Rattle.index.specs.Walk.{columns, visited}
use Rattle.index_pools.specs.ChainLaws.{any_has, falling_high, falling_keeps}
use Rattle.index_pools.specs.ChainLaws.{below_or_not}
use Rattle.index.proofs.AcrossLaws.{across_empty, across_none, across_some}
use Rattle.index_pools.specs.FileLaws.{filed_short, cell_in}

-- ---- a search by the visited owners is the scan

module _ (pool : List ℕ) (rects : ℕ → Rect) (count : ℕ) (r : Rect) (test : ℕ → Bool) (some : 4 ≤ length pool) (F : Filed pool rects count) where
  -- no item below the count passes: so no owner does
  none_visited : ((id : ℕ) → id < count → test id ≡ false) → any_of test (visited pool r) ≡ false
  unfolding visited chain_at chain any_of
  none_visited fails =
      across_none test (λ j. columns pool j (span r.left r.right) r.left)
      (λ j. across_none test (λ i. chain_at (length pool) pool i j) (λ i. in_chain (cell_of (cells (length pool)) i j) (cell_in (length pool) i j some))
      (span r.left r.right) r.left)
      (span r.low r.high) r.low
    where
      in_chain : (c : ℕ) → c < cells (length pool) → any_of test (chain (length pool) pool (head_at pool c)) ≡ false
      in_chain c h =
          ⊎_elim
          (falling_keeps (own_at (length pool) pool) (link_at (length pool) pool) (λ l. any_of test l ≡ false) (used pool) refl
          (λ t l less e. ap₂ (λ (b c : Bool). b || c) (fails (own_at (length pool) pool t) (F.holds.owners t less)) e)
          (capacity (length pool)) (head_at pool c))
          (λ past. ap (any_of test) (falling_high (own_at (length pool) pool) (link_at (length pool) pool) (capacity (length pool)) (head_at pool c) past))
          (F.holds.heads c h)

  -- an item that passes and meets the rectangle is visited
  some_visited : (id : ℕ) → id < count → test id ≡ true → Meets (rects id) r → any_of test (visited pool r) ≡ true
  unfolding visited chain_at
  some_visited id small e M =
      let m = M.second in
      across_some test (λ j. columns pool j (span r.left r.right) r.left) (span r.low r.high) r.low M.j m.low
      (omega (arith, m.low, m.high))
      (across_some test (λ i. chain_at (length pool) pool i M.j) (span r.left r.right) r.left M.i m.left
      (omega (arith, m.left, m.right))
      (any_has test id (chain_at (length pool) pool M.i M.j)
      (F.holds.has (cell_of (cells (length pool)) M.i M.j) id (cell_in (length pool) M.i M.j some)
      (record { i = M.i; j = M.j; counted = small; within = M.first; cell = refl })) e))

  -- the law: where every item that passes the test has a rectangle that meets r, the visited owners answer for all items
  pub visited_answers : ((id : ℕ) → id < count → test id ≡ true → Meets (rects id) r) → any_of test (visited pool r) ≡ any_up count test
  visited_answers hits = by (any_up count test) refl
    where
      by : (b : Bool) → any_up count test ≡ b → any_of test (visited pool r) ≡ b
      by true e = let f = any_found test count e in some_visited f.0 f.1 f.2 (hits f.0 f.1 f.2)
      by false e = none_visited (any_none test count e)

-- a pool with no cell has nothing to visit
pub visited_short : (pool : List ℕ) (r : Rect) → length pool < 4 → visited pool r ≡ []
unfolding visited chain_at chain capacity cells
visited_short pool r short =
    across_empty (λ j. columns pool j (span r.left r.right) r.left)
    (λ j. across_empty (λ i. chain_at (length pool) pool i j) (λ i. falling_high _ _ (capacity (length pool)) _ (omega arith)) _ _) _ _

-- where every item filed that passes the test has a rectangle that meets r, the visited owners answer for all that are filed
pub visited_filed : {pool : List ℕ} {r : Rect} {test : ℕ → Bool} {rects : ℕ → Rect} {count : ℕ} → Indexed pool rects count
    → ((id : ℕ) → test id ≡ true → Meets (rects id) r) → any_of test (visited pool r) ≡ any_up (filed pool) test
unfolding any_up for_up any_of
visited_filed {pool} {r} {test} {rects} I hits =
    ⊎_elim (λ short. ap (any_of test) (visited_short pool r short) ∙ sym (ap (λ (k : ℕ). any_up k test) (filed_short pool short)))
    (λ some. visited_answers pool rects (filed pool) r test some (I.first some) (λ id less. hits id)) (below_or_not (length pool) 4)
