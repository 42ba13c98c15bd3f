-- `index_pools::file_items` meets its contract: one item more a turn.
use mathlib.Core.Path.{refl}
use native.Mathlib.Omega.{arith}
use Rattle.index_pools.proofs.Filing.{filing_next, filing_end}
use Rattle.index_pools.proofs.file_items.Goals as goal

pub loop-k-init : goal.loop-k-init
loop-k-init g c = λ rects gives more filed. record { size = refl; within = more; filed = filed }

pub loop-k-preserved : goal.loop-k-preserved
loop-k-preserved g c =
    λ rects gives more filed.
    let small = c.loop-k-test.true in
    filing_next (c.loop-k.invariant rects gives more filed) (omega (arith, small, c.min-k-end.ensures))
    (gives _ _ (omega (arith, small, c.min-k-end.ensures)) c.rect.ensures) c.file.ensures

pub returns : goal.returns
returns g c =
    λ rects gives more filed.
    filing_end (c.loop-k.invariant rects gives more filed) (omega (arith, c.loop-k-test.false, c.min-k-end.ensures))
