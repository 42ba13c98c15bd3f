-- The loops that file items one after the other, with `Filing` as their invariant; and what a walk that finds nothing leaves to a scan.
use Rattle.std.specs.Prelude.{Bool, false, List, ◌≡◌, refl, ℕ, ◌<◌, ◌≤◌, length}
use Rattle.std.proofs.Common.{sym, ap, ◌∙◌, subst, arith}
use Rattle.laws.specs.Loop.{any_up, Unfound}
use Rattle.index_pools.specs.declared.Rect.{Rect}
use Rattle.index_pools.specs.Pool.{filed, cleared_pool, Indexed}
use Rattle.index_pools.specs.FileLaws.{indexed_none}

-- what a call gives for each of the first `count` items is the item's rectangle
abbrev pub Gives : (ℕ → Rect → Type 0) → ℕ → (ℕ → Rect) → Type 0
Gives post count rects = (k : ℕ) (r : Rect) → k < count → post k r → r ≡ rects k

-- those before id are filed, of the pool's own length
pub record Filing (rects : ℕ → Rect) (to : ℕ) (pool₀ pool : List ℕ) (id : ℕ) : Type 0 where
  pub size : length pool ≡ length pool₀
  pub within : id ≤ to
  pub filed : Indexed pool rects id

pub filing_start : (rects : ℕ → Rect) (to : ℕ) (pool₀ : List ℕ) {pool : List ℕ} → pool ≡ cleared_pool pool₀ → Filing rects to pool pool 0
filing_start rects to pool₀ e =
    record { size = refl; within = omega arith; filed = subst (λ (p : List ℕ). Indexed p rects 0) (sym e) (indexed_none pool₀ rects) }

-- the walk has found nothing
pub unfound : {test : ℕ → Bool} {from count : ℕ} {pool : List ℕ} {rects : ℕ → Rect} → from ≡ filed pool → Indexed pool rects count
    → false ≡ any_up (filed pool) test → Unfound test from count
unfound {test} e I none = record { within = omega (arith, I.within); none = ap (λ (k : ℕ). any_up k test) e ∙ sym none }
