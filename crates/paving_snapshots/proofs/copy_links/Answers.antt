-- `paving_snapshots::copy_links` meets its contract: the loop copies node by node, but for the stretches. Assumes nothing.
use native.Mathlib.Omega.{arith}
use Rattle.paving_snapshots.proofs.StretchLaws.{after_more}
use Rattle.paving_snapshots.proofs.Taking.{taking_starts, taking_on, taking_over, taking_ends, taking_joined}
use Rattle.paving_snapshots.proofs.copy_links.Goals as goal

pub loop-i-init : goal.loop-i-init
loop-i-init c = taking_starts _ _ _ _ c.requires.0 c.requires.2

pub node_after-i-requires : goal.node_after-i-requires
node_after-i-requires c = c.loop-i-test.true

pub loop-i-smaller-then-link : goal.loop-i-smaller-then-link
loop-i-smaller-then-link c = omega (arith, c.loop-i-test.true, c.node_after-i.ensures, after_more c.loop-i.tried c.loop-i.i c.args.n)

pub loop-i-preserved-then-link : goal.loop-i-preserved-then-link
loop-i-preserved-then-link c = taking_over _ _ _ _ c.requires.0 c.loop-i.invariant c.loop-i-test.true c.requires.1 c.if-link.true c.node_after-i.ensures c.set_stretch.ensures

pub loop-i-smaller : goal.loop-i-smaller
loop-i-smaller c = omega (arith, c.loop-i-test.true)

pub loop-i-preserved : goal.loop-i-preserved
loop-i-preserved c = taking_on _ _ _ _ c.requires.0 c.loop-i.invariant c.loop-i-test.true c.requires.1 c.if-link.false

pub shape_of-snapshot : goal.shape_of-snapshot
shape_of-snapshot c = c.loop-i.invariant.long

pub shape_of-tried : goal.shape_of-tried
shape_of-tried c = c.loop-i.invariant.fewer.long

pub returns : goal.returns
returns c = (taking_ends _ _ _ _ c.requires.0 c.loop-i.invariant c.loop-i-test.false, c.loop-i.invariant.stretches, c.loop-i.invariant.fewer, taking_joined _ _ _ _ c.requires.0 c.loop-i.invariant c.loop-i-test.false)
