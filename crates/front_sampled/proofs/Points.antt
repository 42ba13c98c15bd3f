-- What holds of the definitions of proofs/PointsBase.antt.
use Rattle.std.specs.Prelude.{◌≡◌, Bool, true, false, cond, [], ◌∷◌, Float}
use Rattle.std.proofs.Common.{subst, arith}
use Prim.Native.Nat.{ℕ, zero, suc, ◌+◌, ◌-◌, ◌<◌, ◌≤◌}
use Rattle.std.specs.Float.{nan}
use Rattle.laws.specs.Loop.{for_up}
use Rattle.outline.specs.declared.Point.{Point}
use Rattle.outline.specs.Outline.{Outline, loop_at, point, after}
use Rattle.topology.specs.Sums.{All}
use Rattle.front.specs.declared.Ring.{Ring}
use Rattle.front.specs.State.{State, node, cleared}
use Rattle.front.specs.Sampling.{loop_count, sampled_count, front_refusal, sample_loop, ring_of, sampled_at, midpoint, ring_in, from_boundary}
use Rattle.front_sampled.proofs.Lists.{all_append, all_at}
use Rattle.front_sampled.specs.Nodes.{nodes_of, nodes_length, nodes_at}
use Rattle.front_sampled.proofs.Cuts.{loop_cuts, cuts_length, cuts_least, cuts_all}
use Rattle.front_sampled.proofs.Rings.{ring_longest, ordered_in, after_in}
use Rattle.front_sampled.proofs.TurnBase.{split_points, added_points, turn_points}
use Rattle.front_sampled.proofs.Turn.{turn_sampled}
use Rattle.front_sampled.proofs.Outlines.{Threes}
use Rattle.front_sampled.proofs.BegunBase.{Places, refusal_places, no_nodes, state_at}
use Rattle.front_sampled.proofs.Begun.{turn_ready, turn_fits, turn_at, begun_in}
use Rattle.front_sampled.proofs.PointsBase.{OfSamples}

-- ---- laws

module _ (P : Point → Type 0) (o : Outline) (size : Float) (H : OfSamples P o size) where
  node_of : (s : State) → All P (nodes_of s) → (id : ℕ) → id < s.counts.nodes → P (node s id)
  node_of s all id h = subst P (nodes_at s id h) (all_at P (nodes_of s) all id (point nan nan) (omega (arith, nodes_length s)))

  -- of the midpoint of a ring of nodes
  midpoint_of : (r : Ring) (s : State) → r.longest < r.count → r.base + r.count ≤ s.counts.nodes → All P (nodes_of s) → All P (split_points r s)
  unfolding split_points midpoint
  midpoint_of r s h fit all = by r.split
    where
      of : (j : ℕ) → j < r.count → P (node s (sampled_at r j))
      of j q = let i = ordered_in r.base r.count r.turned j q in node_of s all (sampled_at r j) (omega arith)

      by : (b : Bool) → All P (cond b (midpoint s.xs s.ys r ∷ []) [])
      by true = (H.midpoints _ _ (of r.longest h) (of (after r.count r.longest) (after_in r.count r.longest (omega arith))), tt)
      by false = tt

  module _ (lent : State) (three : Threes o) (A : Places (sampled_count o size) lent) where
    turn_of : (k : ℕ) → k < loop_count o → All P (nodes_of (state_at o size lent k)) → All P (turn_points o size k (state_at o size lent k))
    unfolding turn_points ring_of
    turn_of k h all =
        let l = loop_at o k in
        let s = state_at o size lent k in
        let t = sample_loop size l s in
        let S = turn_ready o size lent three A k (omega arith) in
        let Q = turn_sampled (cleared lent) o size k s S.room (turn_fits o size lent three A k h S) in
        let cuts = cuts_all size l P (λ i j p q. H.cuts k i j h p q) in
        let more : s.counts.nodes < t.counts.nodes = omega (arith, Q.count, cuts_length size l, cuts_least size l, three k h) in
        all_append P (loop_cuts size l) (added_points k s.counts.nodes t) cuts
        (midpoint_of (ring_in k s.counts.nodes t) t
        (ring_longest k t.xs t.ys s.counts.nodes (t.counts.nodes - s.counts.nodes) (omega arith)) (omega arith)
        (rw Q.nodes (all_append P (nodes_of s) (loop_cuts size l) all cuts)))

    all_of : (k : ℕ) → k ≤ loop_count o → All P (nodes_of (state_at o size lent k))
    unfolding for_up
    all_of zero h = rw (no_nodes lent) tt
    all_of (suc k) h =
        let s = state_at o size lent k in
        let all = all_of k (omega arith) in
        rw (turn_at o size lent three A k h (turn_ready o size lent three A k (omega arith))).nodes
        (all_append P (nodes_of s) (turn_points o size k s) all (turn_of k h all))

-- ---- the theorem

pub sampled_all : (P : Point → Type 0) (o : Outline) (size : Float) (lent : State) → OfSamples P o size
    → Threes o → front_refusal o size lent ≡ 0
    → (id : ℕ) → id < sampled_count o size → P (node (from_boundary o size lent) id)
unfolding from_boundary
sampled_all P o size lent H three none id h =
    let A = refusal_places o size lent none in
    node_of P o size H (from_boundary o size lent) (all_of P o size H lent three A (loop_count o) (omega arith)) id
    (omega (arith, (begun_in o size lent three A).node_count_of))
