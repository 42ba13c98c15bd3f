-- `overlaps` meets its contract: `overlap_below` where one stretch is below the other, `overlap_rest` elsewhere.
use Rattle.std.proofs.Common.{arith}
use Rattle.std.proofs.lemmas.Grind.{common_steps}
use Rattle.outline_soundness.proofs.SegmentLaws.{overlap_below, overlap_rest}
use Rattle.outline_soundness.proofs.overlaps.Goals as goal

pub returns-then-not-higher_of-lower_of : goal.returns-then-not-higher_of-lower_of
returns-then-not-higher_of-lower_of c =
    let p = c.requires in
    overlap_rest p.0 p.1 p.2 p.3 c.higher_of.ensures c.lower_of.ensures (grind (arith, common_steps)) c.higher_of-then-not-higher_of-lower_of.ensures c.lower_of-then-not-higher_of-lower_of.ensures

pub returns-else-not-higher_of-lower_of : goal.returns-else-not-higher_of-lower_of
returns-else-not-higher_of-lower_of c =
    let p = c.requires in
    let below = overlap_below p.0 p.1 p.2 p.3 c.higher_of.ensures c.lower_of.ensures in
    grind (arith, common_steps)
