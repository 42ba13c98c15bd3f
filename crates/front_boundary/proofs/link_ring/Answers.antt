-- `front_boundary::link_ring` meets its contract: after i turns the edges of `link_turn` are written.
use Rattle.std.specs.Prelude.{◌≡◌}
use Rattle.std.proofs.Common.{◌∙◌, ap, le_antisymm, arith}
use Rattle.front.specs.declared.Counts.{Counts}
use Rattle.front.specs.Sampling.{ring_count}
use Rattle.front_boundary.specs.Laying.{link_ring, link_turn}
use Rattle.front_boundary.proofs.Written.{edges_start, edges_turn}
use Rattle.front_boundary.proofs.link_ring.Goals as goal

pub loop-i-init : goal.loop-i-init
loop-i-init c = (c.len-n.ensures, omega arith, edges_start _ _)

pub link-requires-clause-ids : goal.link-requires-clause-ids
link-requires-clause-ids c =
    let room = c.loop-i.invariant.2.more.places in
    (omega (arith, c.at.ensures.1, c.requires.in_next, room.next), omega (arith, c.at-in-loop-i.ensures.1, c.requires.in_prev, room.prev))

pub link-requires-clause-edges : goal.link-requires-clause-edges
link-requires-clause-edges c =
    let inv = c.loop-i.invariant in
    let counts = inv.2.more.counts in
    let edges = ap (λ (k : Counts). k.edges) counts in (
      omega (arith, c.requires.in_edges, inv.0, c.loop-i-test.true, inv.2.more.places.edges, edges),
      omega (arith, c.requires.front, edges, ap (λ (k : Counts). k.front) counts),
    )

pub loop-i-preserved : goal.loop-i-preserved
loop-i-preserved c =
    let inv = c.loop-i.invariant in
    let linked = rw (c.at.ensures.0, c.at-in-loop-i.ensures.0, c.after.ensures.0, inv.0) at c.link.ensures in
    (inv.0, omega (arith, c.loop-i-test.true), edges_turn (link_turn _) inv.2 linked)

pub returns : goal.returns
unfolding link_ring
returns c =
    let all : c.loop-i.i ≡ ring_count c.args.ring = le_antisymm c.loop-i.invariant.1 c.loop-i-test.false ∙ c.loop-i.invariant.0 in
    rw all at c.loop-i.invariant.2
