-- `bowl::store_steps` meets its contract: `store_next_lem`.
use borrow.Author.Rules.{rules}
use Prim.Native.Nat.{◌*◌}
use lib.ListN.{length-set}
use native.Mathlib.Omega.{arith}
use Rattle.laws.specs.Loop.{loop_start_lem, loop_end}
use Rattle.bowl.specs.Steps.{stored_steps}
use Rattle.bowl.proofs.StepsLaws.{store_length, store_next_lem}
use Rattle.bowl.proofs.store_steps.Goals as goal

pub loop-i-init : goal.loop-i-init
loop-i-init c = loop_start_lem _ _ _

pub offset_bounds-mesh-i : goal.offset_bounds-mesh-i
offset_bounds-mesh-i c =
    let node = c.requires.0 c.loop-i.i c.loop-i-test.true in
    search (rules, node.x_lent)

pub bounds-mesh-i : goal.bounds-mesh-i
bounds-mesh-i c =
    let node = c.requires.0 c.loop-i.i c.loop-i-test.true in
    node.x_lent

pub nearest_step-requires : goal.nearest_step-requires
nearest_step-requires c =
    let node = c.requires.0 c.loop-i.i c.loop-i-test.true in
    node.x

pub offset_bounds-mesh-i-in-loop-i : goal.offset_bounds-mesh-i-in-loop-i
offset_bounds-mesh-i-in-loop-i c =
    let node = c.requires.0 c.loop-i.i c.loop-i-test.true in
    search (rules, node.y_lent)

pub bounds-mesh-i-in-loop-i : goal.bounds-mesh-i-in-loop-i
bounds-mesh-i-in-loop-i c =
    let node = c.requires.0 c.loop-i.i c.loop-i-test.true in
    node.y_lent

pub nearest_step-requires-in-loop-i : goal.nearest_step-requires-in-loop-i
nearest_step-requires-in-loop-i c =
    let node = c.requires.0 c.loop-i.i c.loop-i-test.true in
    node.y

pub bounds-steps-i : goal.bounds-steps-i
bounds-steps-i c =
    let long = store_length _ _ _ _ _ _ c.loop-i.invariant in
    let room = c.requires.1 in
    let less = c.loop-i-test.true in
    omega arith

pub bounds-steps-i-in-loop-i : goal.bounds-steps-i-in-loop-i
bounds-steps-i-in-loop-i c =
    let long = store_length _ _ _ _ _ _ c.loop-i.invariant in
    let room = c.requires.1 in
    let less = c.loop-i-test.true in
    rw (length-set c.loop-i.steps (2 * c.loop-i.i) _) (omega arith)

pub loop-i-preserved : goal.loop-i-preserved
loop-i-preserved c =
    let less = c.loop-i-test.true in
    store_next_lem _ _ _ _ _ _ c.loop-i.invariant less (c.requires.0 c.loop-i.i less) _ _ c.nearest_step.ensures c.nearest_step-in-loop-i.ensures

pub shape_of-steps : goal.shape_of-steps
shape_of-steps c = store_length _ _ _ _ _ _ c.loop-i.invariant

pub returns : goal.returns
unfolding stored_steps
returns c = loop_end _ _ c.loop-i.invariant c.loop-i-test.false
