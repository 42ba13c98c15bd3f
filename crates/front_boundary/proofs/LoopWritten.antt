-- A loop that is sampled, split and linked is laid as `lay_loop` has it.
use Rattle.std.specs.Prelude.{cond, List, [], ◌≡◌, refl, ℕ, ◌+◌, ◌-◌, ◌<◌, Float}
use Rattle.std.proofs.Common.{sym, ◌∙◌, ap, arith}
use Rattle.front.specs.declared.Counts.{Counts}
use Rattle.front.specs.declared.Paving.{Paving}
use Rattle.front.specs.declared.Ring.{Ring}
use Rattle.front.specs.Lent.{paving_state}
use Rattle.front.specs.State.{state_of, counted}
use Rattle.front.specs.Sampling.{loop_parts, sample_loop, ring_of, ring_count, ring_in, split_longest}
use Rattle.front_boundary.specs.Counting.{even_up}
use Rattle.front_boundary.specs.Laying.{with_nodes, between_in, NodeRoomIn, NodesFrom, CanLink, CanLay, NodesWritten, EdgesWritten, LoopWritten}
use Rattle.front_boundary.specs.Laying.{link_ring, lay_loop}
use Rattle.front_boundary.proofs.LayingLaws.{RingOf, ring_of_lem, nodes_some, nodes_from, ring_nodes, ring_end, ring_fits, laid}
use Rattle.front_boundary.proofs.Written.{room_left, room_trans, node_count}

-- the same counts
counted_as : {n n' q q' e e' f f' : ℕ} → n ≡ n' → q ≡ q' → e ≡ e' → f ≡ f' → counted n q e f ≡ counted n' q' e' f'
counted_as a b c d = rw (a, b, c, d) refl

-- the same state, by equal nodes, edges and counts
state_as : {xs xs' ys ys' : List Float} {edges edges' : List ℕ} {k k' : Counts} (next prev snapshot quads : List ℕ) → xs ≡ xs' → ys ≡ ys' → edges ≡ edges' → k ≡ k'
    → state_of xs ys next prev snapshot quads edges k ≡ state_of xs' ys' next prev snapshot quads edges' k'
state_as next prev snapshot quads a b c d = rw (a, b, c, d) refl

module _ {s : List Float} {size : Float} {p q : Paving} (C : CanLay s size p) (W : NodesWritten (loop_parts size s) (sample_loop size s) p q) where
  pub sampled_from : NodesFrom p.counts.nodes (q.counts.nodes - p.counts.nodes)
  sampled_from = nodes_from C.room (node_count W.more)

  module _ (k : ℕ) {r : Ring} (e : r ≡ ring_in k p.counts.nodes (paving_state q [])) where
    ring_is : RingOf r p.counts.nodes (q.counts.nodes - p.counts.nodes)
    ring_is =
        ring_of_lem k q.xs.now q.ys.now p.counts.nodes (q.counts.nodes - p.counts.nodes) (nodes_some C.room (node_count W.more)) e

    pub ring_sampled : NodesFrom r.base r.count × (r.longest < r.count) × (q.counts.nodes ≡ r.base + r.count)
    ring_sampled = ring_nodes C.room (node_count W.more) ring_is

    end : r.base + ring_count r ≡ p.counts.nodes + even_up (loop_parts size s)
    end = ring_end C.room (node_count W.more) ring_is

    pub midpoint_room : NodeRoomIn (r.base + ring_count r) q
    midpoint_room = room_left _ C.room.nodes (omega (arith, end)) W.more.places

    module _ {t : Paving} (V : NodesWritten (cond r.split 1 0) (split_longest r) q t) where
      edge_list : t.edges.now ≡ p.edges.now
      edge_list = V.more.edges ∙ W.more.edges

      quads_at : t.counts.quads ≡ 0
      quads_at = ap (λ (c : Counts). c.quads) V.more.counts ∙ ap (λ (c : Counts). c.quads) W.more.counts ∙ ap (λ (c : Counts). c.quads) C.counts

      edges_at : t.counts.edges ≡ p.counts.nodes
      edges_at = ap (λ (c : Counts). c.edges) V.more.counts ∙ ap (λ (c : Counts). c.edges) W.more.counts ∙ ap (λ (c : Counts). c.edges) C.counts

      front_at : t.counts.front ≡ p.counts.nodes
      front_at = ap (λ (c : Counts). c.front) V.more.counts ∙ ap (λ (c : Counts). c.front) W.more.counts ∙ ap (λ (c : Counts). c.front) C.counts

      all_edges : t.counts.edges + ring_count r ≡ p.counts.nodes + even_up (loop_parts size s)
      all_edges = ap (λ (n : ℕ). n + ring_count r) (edges_at ∙ sym ring_is.base_is) ∙ end

      nodes_at : t.counts.nodes ≡ p.counts.nodes + even_up (loop_parts size s)
      nodes_at = omega (arith, node_count V.more, ring_sampled.2, end)

      pub can_link : CanLink r t
      can_link =
          record {
            fits = ring_fits C.room (node_count W.more) ring_is;
            in_next = omega (arith, end, C.room.nodes.in_next, W.more.places.next, V.more.places.next);
            in_prev = omega (arith, end, C.room.nodes.in_prev, W.more.places.prev, V.more.places.prev);
            in_edges = omega (arith, all_edges, C.room.in_edges, W.more.places.edges, V.more.places.edges);
            front = front_at ∙ sym edges_at;
          }

      module _ {u : Paving} (E : EdgesWritten (ring_count r) (link_ring r) t u) where
        nodes_end : u.counts.nodes ≡ t.counts.nodes
        nodes_end = ap (λ (c : Counts). c.nodes) E.more.counts

        pub loop_written : LoopWritten (even_up (loop_parts size s)) (lay_loop k s size) p u
        loop_written =
            record {
              places = room_trans W.more.places (room_trans V.more.places E.more.places);
              counts = E.more.counts
                  ∙ counted_as nodes_at quads_at all_edges (ap (λ (n : ℕ). n + ring_count r) (front_at ∙ sym edges_at) ∙ all_edges);
              state = λ snapshot quads.
                  let st = between_in snapshot quads p in
                  let t' = with_nodes st t.xs.now t.ys.now t.next.now t.prev.now (q.counts.nodes + cond r.split 1 0) in
                  state_as _ _ snapshot quads E.more.xs E.more.ys refl
                  (counted_as (nodes_end ∙ node_count V.more) refl (nodes_end ∙ nodes_at ∙ sym all_edges) (nodes_end ∙ nodes_at ∙ sym all_edges))
                  ∙ laid k s size st _ t' _ r (W.state st)
                  (e ∙ ap (λ (n : ℕ). ring_of k q.xs.now q.ys.now p.counts.nodes (n - p.counts.nodes)) (node_count W.more))
                  (V.state st ∙ ap (λ (n : ℕ). split_longest r (with_nodes st q.xs.now q.ys.now q.next.now q.prev.now n)) (node_count W.more))
                  (E.state t' ∙ ap (link_ring r) (state_as _ _ snapshot quads refl refl edge_list (counted_as refl refl edges_at edges_at)));
            }
