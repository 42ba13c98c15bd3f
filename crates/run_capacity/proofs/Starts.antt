-- The states that `from_boundary` leaves in lists of different lengths are alike: `starts_alike`. The mesh edges are joined in step, loop by loop.
use Prim.Native.Nat.{ℕ, zero, suc, ◌+◌, ◌-◌, ◌*◌, ◌<◌, ◌≤◌}
use Rattle.std.specs.Prelude.{List, [], ◌∷◌, ◌++◌, ◌≡◌, Bool, true, false, cond, length, get_or, Float}
use Rattle.std.proofs.Math.Path.{refl, ap}
use Rattle.std.proofs.Common.{sym, ◌∙◌, subst, arith}
use Rattle.std.proofs.Math.ListN.{length-append}
use Rattle.std.specs.Float.{nan}
use Rattle.laws.specs.Loop.{for_up}
use Rattle.laws.specs.Tabulate.{tabulate, tabulate_at}
use Rattle.outline.specs.declared.Point.{Point}
use Rattle.outline.specs.Outline.{Outline, point, loop_at, after}
use Rattle.topology.specs.Sums.{front_sum}
use Rattle.front.specs.declared.Ring.{Ring}
use Rattle.front.specs.State.{State, node, node_places, quad_places, edge_places, push_node, add_front, add_edge, cleared}
use Rattle.front.specs.Sampling.{loop_count, sampled_count, front_refusal, sample_loop, ring_of, ring_count, ring_at, split_longest, join_turn, join_ring}
use Rattle.front.specs.Sampling.{ring_in, close_loop, boundary_turn, from_boundary, ring_ids, loop_ids, boundary_loops}
use Rattle.front.proofs.FrameLaws.{frame_node_places, frame_quad_places, frame_edge_places}
use Rattle.front_sampled.specs.Nodes.{nodes_of, nodes_at}
use Rattle.front_sampled.proofs.Cuts.{loop_cuts, cuts_length, cuts_least}
use Rattle.front_sampled.proofs.Rings.{ring_longest, after_in, ring_in_lem, ids_length}
use Rattle.front_sampled.proofs.TurnBase.{split_points, turn_points}
use Rattle.front_sampled.proofs.Turn.{turn_sampled, turn_length}
use Rattle.front_sampled.proofs.Outlines.{Threes}
use Rattle.front_sampled.proofs.BegunBase.{Begun, Places, refusal_places, state_at, TurnReady}
use Rattle.front_sampled.proofs.Begun.{turn_ready, turn_fits, turn_at, begun_in}
use Rattle.front_sampled.proofs.Same.{turn_same, same_at, same_start}
use Rattle.run_capacity.proofs.Alike.{EdgesAlike, Alike, add_alike}
use Rattle.run_capacity.proofs.Placings.{SameEdges, same_trans, either, same_add, alike_same, alike_more, Longer, longer}
use Rattle.run_capacity.specs.Twins.{NoFewer}
use Rattle.run_capacity.proofs.Twins.{Twins}

-- ---- one ring is joined in step

joined_longer : (u v : ℕ) (s : State) → Longer s (add_edge u v (add_front u v s))
unfolding add_front
joined_longer u v s = let l = longer u v (add_front u v s) in record { more = l.more; long = l.long; snapshot = l.snapshot }

ring_longer : (r : Ring) (k : ℕ) (s : State) → Longer s (for_up k (join_turn r) s)
unfolding for_up
ring_longer r zero s = record { more = omega arith; long = refl; snapshot = refl }
ring_longer r (suc k) s =
    let m = ring_longer r k s in
    let l = joined_longer (ring_at r k) (ring_at r (after (ring_count r) k)) (for_up k (join_turn r) s) in
    record { more = omega (arith, m.more, l.more); long = l.long ∙ m.long; snapshot = l.snapshot ∙ m.snapshot }

join_alike : (n : ℕ) (s t : State) (u v x y : ℕ) → x ≡ u → y ≡ v → u < n → v < n
    → 2 * (add_edge u v (add_front u v s)).counts.edges ≤ length s.edges → 2 * (add_edge x y (add_front x y t)).counts.edges ≤ length t.edges
    → EdgesAlike n s t → EdgesAlike n (add_edge u v (add_front u v s)) (add_edge x y (add_front x y t))
unfolding add_front
join_alike n s t u v x y p q hu hv long wide E =
    rw (p, q)
    (add_alike n (add_front u v s) (add_front u v t) u v hu hv long (rw (p, q) at wide)
    (alike_same n s t (add_front u v s) (add_front u v t) E (same_add u v s) (same_add u v t)))

module _ (n : ℕ) (r q : Ring) (count : ring_count q ≡ ring_count r) (at : (i : ℕ) → i < ring_count r → ring_at q i ≡ ring_at r i)
    (below : (i : ℕ) → i < ring_count r → ring_at r i < n) (s t : State) (E : EdgesAlike n s t) where
  joins_alike : (k : ℕ) → k ≤ ring_count r → 2 * (for_up k (join_turn r) s).counts.edges ≤ length s.edges
      → 2 * (for_up k (join_turn q) t).counts.edges ≤ length t.edges → EdgesAlike n (for_up k (join_turn r) s) (for_up k (join_turn q) t)
  unfolding for_up
  joins_alike zero h long wide = E
  joins_alike (suc k) h long wide =
      let x = for_up k (join_turn r) s in
      let y = for_up k (join_turn q) t in
      let i = after (ring_count r) k in
      let next = after_in (ring_count r) k (omega arith) in
      let to : ring_at q (after (ring_count q) k) ≡ ring_at r i = ap (λ (m : ℕ). ring_at q (after m k)) count ∙ at i next in
      let p = joined_longer (ring_at r k) (ring_at r i) x in
      let w = joined_longer (ring_at q k) (ring_at q (after (ring_count q) k)) y in
      join_alike n x y (ring_at r k) (ring_at r i) (ring_at q k) (ring_at q (after (ring_count q) k)) (at k h) to (below k h) (below i next)
      (omega (arith, (ring_longer r k s).long)) (omega (arith, (ring_longer q k t).long))
      (joins_alike k (omega arith) (omega (arith, p.more)) (omega (arith, w.more)))

-- rings with the same ids
ids_at : (r q : Ring) → ring_ids r ≡ ring_ids q → ring_count q ≡ ring_count r → (i : ℕ) → i < ring_count r → ring_at q i ≡ ring_at r i
unfolding ring_ids
ids_at r q e count i h =
    sym (tabulate_at (ring_count q) (ring_at q) i 0 (omega arith))
    ∙ (ap (λ (l : List ℕ). get_or l i 0) (sym e) ∙ tabulate_at (ring_count r) (ring_at r) i 0 h)

split_length : (r : Ring) (s : State) → length (split_points r s) ≡ cond r.split 1 0
unfolding split_points
split_length r s = by r.split
  where
    by : (b : Bool) → length (cond b (Rattle.front.specs.Sampling.midpoint s.xs s.ys r ∷ []) []) ≡ cond b 1 0
    by true = refl
    by false = refl

split_edges : (r : Ring) (s : State) → SameEdges s (split_longest r s)
unfolding split_longest push_node
split_edges r s =
    either r.split s _ s (record { list = refl; number = refl; snapshot = refl }) (record { list = refl; number = refl; snapshot = refl })

-- ---- loop by loop

module _ (o : Outline) (size : Float) (a b : State) (three : Threes o) (A : Places (sampled_count o size) a) (B : Places (sampled_count o size) b) where
  -- what turn k does to one of the states
  module _ (lent : State) (P : Places (sampled_count o size) lent) (k : ℕ) (h : k < loop_count o) where
    abbrev before : State
    before = state_at o size lent k

    abbrev later : State
    later = state_at o size lent (suc k)

    abbrev cut_loop : State
    cut_loop = sample_loop size (loop_at o k) before

    abbrev ring : Ring
    ring = ring_in k before.counts.nodes cut_loop

    R : TurnReady o size lent k
    R = turn_ready o size lent three P k (omega arith)

    same : SameEdges before (split_longest ring cut_loop)
    same =
        let S = turn_sampled (cleared lent) o size k before R.room (turn_fits o size lent three P k h R) in
        same_trans (record { list = S.edges; number = S.edge_count; snapshot = S.snapshot }) (split_edges ring cut_loop)

    joined : later ≡ for_up (ring_count ring) (join_turn ring) (split_longest ring cut_loop)
    unfolding for_up boundary_turn close_loop join_ring
    joined = refl

    room : 2 * (for_up (ring_count ring) (join_turn ring) (split_longest ring cut_loop)).counts.edges ≤ length (split_longest ring cut_loop).edges
    room =
        let T = turn_at o size lent three P k h R in
        let long = turn_length (cleared lent) o size k before R.room (turn_fits o size lent three P k h R) (three k h) in
        omega (
          arith,
          ap (λ (u : State). u.counts.edges) joined,
          T.laid.edge_count,
          T.count,
          long,
          turn_fits o size lent three P k h R,
          R.room.edges,
          ap length same.list,
        )

    inside : (i : ℕ) → i < ring_count ring → ring_at ring i < later.counts.nodes
    unfolding ring_of turn_points
    inside i g =
        let l = loop_at o k in
        let S = turn_sampled (cleared lent) o size k before R.room (turn_fits o size lent three P k h R) in
        let T = turn_at o size lent three P k h R in
        let some : 0 < cut_loop.counts.nodes - before.counts.nodes =
        omega (arith, S.count, cuts_length size l, cuts_least size l, three k h) in
        let at = ring_in_lem ring (ring_longest k cut_loop.xs cut_loop.ys before.counts.nodes (cut_loop.counts.nodes - before.counts.nodes) some) i g in
        omega (arith, at.1, T.count, S.count, length-append (loop_cuts size l) (split_points ring cut_loop), split_length ring cut_loop)

  turn_edges : (k : ℕ) → k < loop_count o → EdgesAlike (state_at o size a k).counts.nodes (state_at o size a k) (state_at o size b k)
      → EdgesAlike (state_at o size a (suc k)).counts.nodes (state_at o size a (suc k)) (state_at o size b (suc k))
  turn_edges k h E =
      let s = state_at o size a k in
      let n = (state_at o size a (suc k)).counts.nodes in
      let r = ring a A k h in
      let q = ring b B k h in
      let ids = (turn_same o size a b three A B k h (same_at o size a b three A B k (omega arith)).0).0 in
      let count : ring_count q ≡ ring_count r = sym (ids_length q) ∙ (ap length (sym ids) ∙ ids_length r) in
      let more : s.counts.nodes ≤ n =
      omega (arith, (turn_at o size a three A k h (R a A k h)).count) in
      let x = split_longest r (cut_loop a A k h) in
      let y = split_longest q (cut_loop b B k h) in
      let base = alike_same n s (state_at o size b k) x y (alike_more _ n s (state_at o size b k) more E) (same a A k h) (same b B k h) in
      let room_b = subst (λ (m : ℕ). 2 * (for_up m (join_turn q) y).counts.edges ≤ length y.edges) count (room b B k h) in
      let rings =
      joins_alike n r q count (ids_at r q ids count) (inside a A k h) x y base (ring_count r) (omega arith) (room a A k h) room_b in
      subst (λ (u : State). EdgesAlike n u (state_at o size b (suc k))) (sym (joined a A k h))
      (subst (λ (u : State). EdgesAlike n (for_up (ring_count r) (join_turn r) x) u) (sym (joined b B k h))
      (subst (λ (m : ℕ). EdgesAlike n (for_up (ring_count r) (join_turn r) x) (for_up m (join_turn q) y)) (sym count) rings))

  edges_at : (k : ℕ) → k ≤ loop_count o → EdgesAlike (state_at o size a k).counts.nodes (state_at o size a k) (state_at o size b k)
  unfolding for_up cleared
  edges_at zero h = record { number = refl; ends = λ i g. absurd (omega arith); below = λ i g. absurd (omega arith) }
  edges_at (suc k) h = turn_edges k h (edges_at k (omega arith))

-- ---- the theorem

cleared_places : (s : State) → (node_places (cleared s) ≡ node_places s) × (quad_places (cleared s) ≡ quad_places s) × (edge_places (cleared s) ≡ edge_places s)
unfolding cleared node_places quad_places edge_places
cleared_places s = (refl, refl, refl)

pub starts_alike : (o : Outline) (size : Float) (lent more : State) → Threes o → front_refusal o size lent ≡ 0 → front_refusal o size more ≡ 0
    → NoFewer lent more → Twins (sampled_count o size) (from_boundary o size lent) (from_boundary o size more)
unfolding from_boundary
starts_alike o size lent more three none nones places =
    let A = refusal_places o size lent none in
    let B = refusal_places o size more nones in
    let S = begun_in o size lent three A in
    let T = begun_in o size more three B in
    let E = same_start o size lent more three A B in
    let s = from_boundary o size lent in
    let t = from_boundary o size more in
    let p = cleared_places lent in
    let q = cleared_places more in
    record {
      ls = boundary_loops o size lent;
      ms = boundary_loops o size more;
      first = S.sound;
      second = T.sound;
      alike = record {
        nodes = T.node_count_of ∙ sym S.node_count_of;
        quads = T.quad_count_of ∙ sym S.quad_count_of;
        points = λ id h.
            sym (nodes_at t id (omega (arith, T.node_count_of, S.node_count_of)))
            ∙ (ap (λ (l : List Point). get_or l id (point nan nan)) (sym E.0) ∙ nodes_at s id h);
        answered = λ k h. absurd (omega (arith, S.quad_count_of));
        sums = λ w. ap (front_sum w) (sym E.1);
        edges = edges_at o size lent more three A B (loop_count o) (omega arith);
      };
      places = record {
        nodes = omega (arith, p.0, q.0, frame_node_places (cleared lent) s S.frame, frame_node_places (cleared more) t T.frame, places.nodes);
        quads = omega (arith, p.1, q.1, frame_quad_places (cleared lent) s S.frame, frame_quad_places (cleared more) t T.frame, places.quads);
        edges = omega (arith, p.2, q.2, frame_edge_places (cleared lent) s S.frame, frame_edge_places (cleared more) t T.frame, places.edges);
      };
    }
