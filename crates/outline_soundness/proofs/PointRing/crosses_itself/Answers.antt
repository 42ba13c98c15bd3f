-- `PointRing::crosses_itself` meets its contract: both loops are searches that have found nothing yet; the label is left where both have found something.
use Rattle.std.proofs.Common.{refl, sym, ◌∙◌, arith}
use Rattle.outline_sound.specs.Sound.{crosses_itself}
use Rattle.laws.specs.Loop.{scan_start, scan_next, scan_hit, scan_none}
use Rattle.outline_soundness.proofs.PointRing.crosses_itself.Goals as goal

pub pairs-init : goal.pairs-init
pairs-init c = (refl, scan_start _ _)

pub loop-j-init : goal.loop-j-init
loop-j-init c = (c.pairs.invariant.0, scan_start _ _)

pub loop-j-preserved : goal.loop-j-preserved
loop-j-preserved c =
    let inv = c.loop-j.invariant in
    (inv.0, scan_next _ inv.1 (omega (arith, c.loop-j-test.true)) (sym c.clash.ensures ∙ c.if-clash.false))

pub pairs-preserved : goal.pairs-preserved
pairs-preserved c =
    let inv = c.pairs.invariant in
    (c.loop-j.invariant.0, scan_next _ inv.1 (omega (arith, c.pairs-test.true)) (sym (scan_none _ c.loop-j.invariant.1 (omega (arith, c.loop-j-test.false)))))

pub returns-after-pairs : goal.returns-after-pairs
unfolding crosses_itself
returns-after-pairs c = let inv = c.pairs.invariant in inv.0 ∙ scan_none _ inv.1 (omega (arith, c.pairs-test.false))

pub returns-then-clash : goal.returns-then-clash
unfolding crosses_itself
returns-then-clash c =
    scan_hit _ c.pairs.invariant.1 (omega (arith, c.pairs-test.true))
    (sym (scan_hit _ c.loop-j.invariant.1 (omega (arith, c.loop-j-test.true)) (sym c.clash.ensures ∙ c.if-clash.true)))
