-- `index_pools::file` meets its contract: one row more a turn.
use mathlib.Core.Path.{◌≡◌, sym, ap, ◌∙◌}
use mathlib.Core.Bool.{true}
use mathlib.Core.List.{List}
use Prim.Native.Nat.{ℕ, ◌+◌, ◌<◌}
use native.Mathlib.Omega.{arith}
use borrow.Author.Tests.{not-true, not-false}
use lib.ListN.{set, length-set}
use Rattle.laws.specs.Loop.{loop_end, for_up}
use Rattle.index_pools.specs.Pool.{takes, file_line, file}
use Rattle.index_pools.specs.FileLaws.{takes_some}
use Rattle.index_pools.proofs.FileLaws.{rect_start, rect_room, rect_next}
use Rattle.index_pools.proofs.file.Goals as goal
use Rattle.index_pools.proofs.file.Goals.{After-file_row-arg-1, At-loop-k}

taken : (c : At-loop-k)
    → let args = c.args in takes args.r args.own args.pool.now ≡ true
taken c = sym c.takes.ensures ∙ not-false _ c.if-not-takes.false-raw

-- the row is one of the rectangle's
row_small : (c : After-file_row-arg-1)
    → c.args.r.low + c.loop-k.k < 4294967296
row_small c =
    omega (arith, c.struct_known-1.given, c.height-h.ensures, c.loop-k-test.true)

pub returns-then-not-takes : goal.returns-then-not-takes
unfolding file
returns-then-not-takes c = rw (sym c.takes.ensures ∙ not-true _ c.if-not-takes.true-raw)

pub loop-k-init : goal.loop-k-init
loop-k-init c = rect_start

pub overflow_add-low : goal.overflow_add-low
overflow_add-low c = omega (arith, row_small (goal.at.overflow_add-low c).After-file_row-arg-1)

pub file_row-requires : goal.file_row-requires
file_row-requires c =
    let t = takes_some _ _ _ (taken (goal.at.file_row-requires c).At-loop-k) in (
      omega (arith, c.loop-k.invariant.size, t.0),
      row_small (goal.at.file_row-requires c).After-file_row-arg-1,
      rect_room c.loop-k.invariant c.loop-k-test.true (rw c.height-h.ensures t.2),
    )

pub loop-k-preserved : goal.loop-k-preserved
loop-k-preserved c =
    rect_next c.loop-k.invariant (takes_some _ _ _ (taken (goal.at.loop-k-preserved c).At-loop-k)).0 c.loop-k-test.true c.file_row.ensures

pub bounds-pool-1 : goal.bounds-pool-1
bounds-pool-1 c = omega (arith, c.loop-k.invariant.size, (takes_some _ _ _ (taken (goal.at.bounds-pool-1 c).At-loop-k)).0)

pub shape_of-pool : goal.shape_of-pool
shape_of-pool c = simp length-set c.loop-k.invariant.size

pub returns : goal.returns
unfolding file
returns c =
    let args = c.args in
    rw (taken (goal.at.returns c).At-loop-k)
    (ap (λ (p : List ℕ). set p 1 (args.own + 1))
    (loop_end (file_line args.r args.own) args.pool.now c.loop-k.invariant.loop c.loop-k-test.false
    ∙ ap (λ (h : ℕ). for_up h (file_line args.r args.own) args.pool.now) c.height-h.ensures))
