-- What holds of the definitions of proofs/BegunBase.antt.
use Rattle.std.specs.Prelude.{◌≡◌, refl, [], Float}
use Rattle.std.proofs.Math.Path.{sym}
use Rattle.std.proofs.Common.{◌∙◌, arith}
use Prim.Native.Nat.{ℕ, zero, suc, ◌+◌, ◌<◌, ◌≤◌}
use Rattle.laws.specs.Loop.{for_up, any_up}
use Rattle.laws.proofs.Sums.{sum_zero, sum_suc, sum_term}
use Rattle.laws.specs.Tabulate.{tabulate, tabulate_length}
use Rattle.outline.specs.Outline.{Outline}
use Rattle.topology.specs.Sums.{total}
use Rattle.topology.specs.Links.{link_out}
use Rattle.topology.proofs.Laying.{empty_front}
use Rattle.front.specs.State.{State, node_places, edge_places, has_edge, cleared}
use Rattle.front.specs.Sampling.{loop_count, loop_nodes, sampled_count, front_refusal, from_boundary, loop_ids, boundary_loops}
use Rattle.front.proofs.FrameLaws.{frame_same, frame_node_places, frame_edge_places}
use Rattle.front.specs.Ready.{Known}
use Rattle.front_sampled.specs.Nodes.{Room, room_places, room_kept}
use Rattle.front_sampled.specs.Joins.{OnlyLinked}
use Rattle.front_sampled.proofs.Laid.{Laid, Added}
use Rattle.front_sampled.proofs.TurnBase.{turn_points}
use Rattle.front_sampled.proofs.Turn.{turn_added, turn_length}
use Rattle.front_sampled.proofs.Outlines.{Threes}
use Rattle.front_sampled.proofs.BegunBase.{Begun, Places, state_at, loops_at, TurnReady, refusal_places}

-- ---- laws

-- clearing changes no list
cleared_places : (n : ℕ) (lent : State) → Places n lent → Places n (cleared lent)
unfolding cleared node_places edge_places
cleared_places n lent P = record { nodes = P.nodes; edges = P.edges }

cleared_lists : (lent : State) → ((cleared lent).snapshot ≡ lent.snapshot) × ((cleared lent).quads ≡ lent.quads)
unfolding cleared
cleared_lists lent = (refl, refl)

none_count : (lent : State) → (cleared lent).counts.nodes ≡ 0
unfolding cleared
none_count lent = refl

none_linked : (lent : State) → OnlyLinked (cleared lent)
unfolding OnlyLinked has_edge cleared any_up for_up
none_linked lent a b ha hb na nb = refl

none_known : (lent : State) → Known (cleared lent)
unfolding cleared
none_known lent =
    record {
      fronts = λ u v h q. absurd (h (sym q ∙ link_out 0 lent.next u (omega arith)));
      joined = λ k h. absurd (omega arith);
    }

none_laid : (lent : State) → Laid (cleared lent) (cleared lent) []
unfolding cleared total
none_laid lent =
    record {
      frame = frame_same (cleared lent);
      front = empty_front lent.next lent.prev;
      edges = refl;
      front_count = refl;
      edge_count = refl;
      quad_count_of = refl;
      snapshot = refl;
      quads = refl;
      linked = none_linked lent;
      known = none_known lent;
    }

-- ---- turn by turn

module _ (o : Outline) (size : Float) (lent : State) (three : Threes o) (P : Places (sampled_count o size) lent) where
  pub turn_fits : (k : ℕ) → k < loop_count o → TurnReady o size lent k → (state_at o size lent k).counts.nodes + loop_nodes o size k ≤ sampled_count o size
  unfolding sampled_count
  turn_fits k h A = omega (arith, A.count, sum_term (loop_nodes o size) k (loop_count o) h)

  -- and what it leaves
  pub turn_at : (k : ℕ) → k < loop_count o → TurnReady o size lent k
      → Added (cleared lent) (state_at o size lent k) (state_at o size lent (suc k)) (loops_at o size lent k)
      (loop_ids o size k (state_at o size lent k)) (turn_points o size k (state_at o size lent k))
  unfolding for_up
  turn_at k h A = turn_added (cleared lent) o size k (state_at o size lent k) A.room (turn_fits k h A) (three k h) (loops_at o size lent k) A.laid

  start_room : Room (sampled_count o size) (cleared lent)
  start_room = let Q = cleared_places (sampled_count o size) lent P in room_places (sampled_count o size) (cleared lent) Q.nodes Q.edges

  pub turn_ready : (k : ℕ) → k ≤ loop_count o → TurnReady o size lent k
  unfolding for_up tabulate
  turn_ready zero h =
      record {
        laid = none_laid lent;
        room = start_room;
        count = none_count lent ∙ sym (sum_zero (loop_nodes o size));
      }
  turn_ready (suc k) h =
      let s = state_at o size lent k in
      let A = turn_ready k (omega arith) in
      let T = turn_at k h A in
      record {
        laid = T.laid;
        room = room_kept (sampled_count o size) (cleared lent) (state_at o size lent (suc k)) T.laid.frame start_room;
        count = T.count ∙ omega (arith, turn_length (cleared lent) o size k s A.room (turn_fits k h A) (three k h), A.count, sum_suc (loop_nodes o size) k);
      }

-- ---- the theorem

pub begun_in : (o : Outline) (size : Float) (lent : State) → Threes o → Places (sampled_count o size) lent
    → Begun o (sampled_count o size) lent (from_boundary o size lent) (boundary_loops o size lent)
unfolding from_boundary boundary_loops sampled_count
begun_in o size lent three P =
    let n = sampled_count o size in
    let s = from_boundary o size lent in
    let A = turn_ready o size lent three P (loop_count o) (omega arith) in
    let L = A.laid in
    let c : s.counts.nodes ≡ n = A.count in
    let Q = cleared_places n lent P in
    let same = cleared_lists lent in
    record {
      sound = record {
        front = L.front;
        edges = L.edges;
        counts = omega (arith, L.front_count, L.quad_count_of);
        nodes_fit = omega (arith, Q.nodes, frame_node_places (cleared lent) s L.frame);
        quads_fit = omega (arith, L.quad_count_of);
        edges_fit = omega (arith, Q.edges, L.edge_count, frame_edge_places (cleared lent) s L.frame);
      };
      known = L.known;
      loops = tabulate_length (loop_count o) (λ k. loop_ids o size k (state_at o size lent k));
      node_count_of = c;
      quad_count_of = L.quad_count_of;
      edge_count = L.edge_count ∙ c;
      front_count = L.front_count ∙ c;
      frame = L.frame;
      snapshot = L.snapshot ∙ same.0;
      quads = L.quads ∙ same.1;
    }

pub begun : (o : Outline) (size : Float) (lent : State) → Threes o → front_refusal o size lent ≡ 0
    → Begun o (sampled_count o size) lent (from_boundary o size lent) (boundary_loops o size lent)
begun o size lent three none = begun_in o size lent three (refusal_places o size lent none)
