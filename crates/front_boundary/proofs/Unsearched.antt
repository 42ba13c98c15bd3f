-- In a sampled outline every edge of a ring is new, so that it may be written with no search: `join_ring` is `link_ring`, and one turn of
-- `from_boundary` is `lay_loop`.
use Rattle.std.specs.Prelude.{Bool, true, false, cond, List, [], ◌∷◌, ◌++◌, ◌≢◌, ◌≡◌, ltb, eqb, Float, length}
use Rattle.std.proofs.Math.Path.{refl, ap}
use Rattle.std.proofs.Common.{sym, ◌∙◌, arith}
use Prim.Native.Nat.{ℕ, zero, suc, ◌+◌, ◌-◌, ◌%◌, ◌≤◌, ◌<◌}
use borrow.Author.Tests.{lt-ltb, ltb-true, ltb-false, eq-eqb}
use Rattle.laws.specs.Loop.{for_up, for_up_keeps}
use Rattle.outline.specs.declared.Point.{Point}
use Rattle.outline.specs.Outline.{Outline, loop_at, points, after}
use Rattle.topology.specs.Links.{off, update, update_other}
use Rattle.topology.proofs.Changes.{add}
use Rattle.front.specs.declared.Ring.{Ring}
use Rattle.front.specs.State.{State, next_of, cleared}
use Rattle.front.specs.Sampling.{loop_count, loop_nodes, sampled_count, sample_loop, ring_of, ring_count, ring_at, ring_in, split_longest}
use Rattle.front.specs.Sampling.{join_turn, join_ring, close_loop, boundary_turn}
use Rattle.front.specs.Sound.{Frame}
use Rattle.front.proofs.FrameLaws.{frame_same, frame_trans}
use Rattle.front.specs.Ready.{Known}
use Rattle.front.proofs.KnownLaws.{known_same}
use Rattle.front_sampled.specs.Nodes.{Room, room_kept, Pushed, push_more}
use Rattle.front_sampled.proofs.Cuts.{loop_cuts, cuts_length}
use Rattle.front_sampled.proofs.Rings.{ring_in_lem, ring_differ, ring_longest}
use Rattle.front_sampled.specs.Joins.{join, OnlyLinked, Joinable, join_is, join_one, next_joined}
use Rattle.front_sampled.proofs.Laid.{Laid, linked_pushed, off_pushed}
use Rattle.front_sampled.proofs.TurnBase.{split_points, split_count, split_pushed}
use Rattle.front_sampled.proofs.Turn.{turn_sampled, sampled_count_lem, cuts_three}
use Rattle.front_sampled.proofs.BegunBase.{Places, state_at, loops_at}
use Rattle.front_sampled.proofs.Begun.{turn_ready, turn_fits}
use Rattle.front_sampled.proofs.Outlines.{Threes}
use Rattle.front_boundary.specs.Laying.{link_turn, link_ring, lay_loop}

-- ---- a ring

-- the ring's ids are nodes of st with no links, of which st has no edges
pub record Unlinked (n : ℕ) (r : Ring) (st : State) : Type 0 where
  pub room : Room n st
  pub few : st.counts.nodes ≤ n
  pub edges : st.counts.edges + ring_count r ≤ n
  pub longest : r.longest < r.count
  pub three : 3 ≤ ring_count r
  pub inside : (k : ℕ) → k < ring_count r → ring_at r k < st.counts.nodes
  pub free : (k : ℕ) → k < ring_count r → next_of st (ring_at r k) ≡ off
  pub linked : OnlyLinked st
  pub known : Known st

-- i edges of the ring have been added to st, and s is left: the ids from i on have no links
record RingJoined (r : Ring) (st : State) (i : ℕ) (s : State) : Type 0 where
  pub frame : Frame st s
  pub nodes : s.counts.nodes ≡ st.counts.nodes
  pub edges : s.counts.edges ≡ st.counts.edges + i
  pub linked : OnlyLinked s
  pub known : Known s
  pub free : (k : ℕ) → i ≤ k → k < ring_count r → next_of s (ring_at r k) ≡ off
  pub first : 0 < i → next_of s (ring_at r 0) ≡ ring_at r 1
  pub same : s ≡ for_up i (link_turn r) st

module _ {n : ℕ} (r : Ring) (st : State) (U : Unlinked n r st) where
  after_in : (i : ℕ) → i < ring_count r → after (ring_count r) i < ring_count r
  after_in i h = by (ltb (i + 1) (ring_count r)) refl
    where
      by : (b : Bool) → ltb (i + 1) (ring_count r) ≡ b → cond b (i + 1) 0 < ring_count r
      by true e = ltb-true (i + 1) (ring_count r) e
      by false e = omega arith

  module _ (i : ℕ) (s : State) (h : i < ring_count r) (J : RingJoined r st i s) where
    -- the next id is not linked to id i
    one_way : next_of s (ring_at r (after (ring_count r) i)) ≢ ring_at r i
    one_way = by (ltb (i + 1) (ring_count r)) refl
      where
        by : (b : Bool) → ltb (i + 1) (ring_count r) ≡ b → next_of s (ring_at r (cond b (i + 1) 0)) ≢ ring_at r i
        by true e q =
            omega (arith, J.free (i + 1) (omega arith) (ltb-true (i + 1) (ring_count r) e), q, U.inside i h, U.few, U.room.few)
        by false e q =
            let last = ltb-false (i + 1) (ring_count r) e in
            ring_differ r U.longest 1 i (omega (arith, U.three)) h (sym (J.first (omega (arith, U.three))) ∙ q)

    -- nor is it id i
    apart : ring_at r (after (ring_count r) i) ≢ ring_at r i
    apart = by (ltb (i + 1) (ring_count r)) refl
      where
        by : (b : Bool) → ltb (i + 1) (ring_count r) ≡ b → ring_at r (cond b (i + 1) 0) ≢ ring_at r i
        by true e q = ring_differ r U.longest i (i + 1) (omega arith) (ltb-true (i + 1) (ring_count r) e) (sym q)
        by false e q =
            let last = ltb-false (i + 1) (ring_count r) e in
            ring_differ r U.longest 0 i (omega (arith, U.three)) h q

    joinable : Joinable n s (add (ring_at r i) (ring_at r (after (ring_count r) i)) ∷ [])
    joinable =
        record {
          room = room_kept n st s J.frame U.room;
          few = omega (arith, J.nodes, U.few);
          edges = omega (arith, J.edges, U.edges);
          within = ((omega (arith, J.nodes, U.inside i h), omega (arith, J.nodes, U.inside (after (ring_count r) i) (after_in i h))), tt);
          valid = (J.free i (omega arith) h, tt);
          one_way = ((one_way, apart), tt);
          linked = J.linked;
          known = J.known;
        }

    joined_next : RingJoined r st (suc i) (join_turn r i s)
    unfolding for_up
    joined_next =
        let u = ring_at r i in
        let v = ring_at r (after (ring_count r) i) in
        let A = join_one s u v joinable in
        let links = next_joined s u v joinable in
        record {
          frame = frame_trans st s (join s u v) J.frame A.frame;
          nodes = A.node_count_of ∙ J.nodes;
          edges = omega (arith, A.edge_count, J.edges);
          linked = A.linked;
          known = A.known;
          free = λ k g q. rw links (update_other (next_of s) u v (ring_at r k) (ring_differ r U.longest i k (omega arith) q) ∙ J.free k (omega arith) q);
          first = λ g. rw links (start i refl);
          same = join_is s u v joinable ∙ ap (link_turn r i) J.same;
        }
      where
        start : (j : ℕ) → i ≡ j → update (next_of s) (ring_at r i) (ring_at r (after (ring_count r) i)) (ring_at r 0) ≡ ring_at r 1
        start zero e = rw (e, eq-eqb (ring_at r 0) (ring_at r 0) refl, lt-ltb 1 (ring_count r) (omega (arith, U.three)))
        start (suc j) e =
            update_other (next_of s) (ring_at r i) (ring_at r (after (ring_count r) i)) (ring_at r 0)
            (λ q. ring_differ r U.longest 0 i (omega arith) h (sym q)) ∙ J.first (omega arith)

  -- each edge of the ring is new
  pub ring_unsearched : join_ring r st ≡ link_ring r st
  unfolding join_ring link_ring for_up
  ring_unsearched =
      (for_up_keeps (RingJoined r st) (ring_count r) (join_turn r) st
      (record {
        frame = frame_same st;
        nodes = refl;
        edges = omega arith;
        linked = U.linked;
        known = U.known;
        free = λ k g q. U.free k q;
        first = λ g. absurd (omega arith);
        same = refl;
      })
      (λ i s h J. joined_next i s h J)).same

-- ---- a turn

module _ {n : ℕ} (lent s t : State) (ls : List (List ℕ)) (ps : List Point) (L : Laid lent s ls) (P : Pushed s t ps) (R : Room n s) where
  -- the points ps are new: so is the ring's midpoint
  ring_unlinked : (r : Ring) → r.base ≡ s.counts.nodes → r.count ≡ length ps → r.longest < r.count → r.split ≡ eqb (r.count % 2) 1
      → 3 ≤ length ps → s.counts.nodes + (length ps + length ps % 2) ≤ n → Unlinked n r (split_longest r t)
  ring_unlinked r base count longest split three fit =
      let counts = split_count r t ps count split in
      let long = counts.0 in
      let size = counts.1 in
      let Q = push_more P (split_pushed r t (room_kept n s t P.frame R) (omega (arith, P.count, size, count))) in
      let here : s.counts.nodes + ring_count r ≡ (split_longest r t).counts.nodes = omega (arith, Q.count, long) in
      let fits : (split_longest r t).counts.nodes ≤ n = omega arith in
      let points = ps ++ split_points r t in
      record {
        room = room_kept n s (split_longest r t) Q.frame R;
        few = fits;
        edges = omega (arith, Q.edge_count, L.edge_count);
        longest = longest;
        three = omega arith;
        inside = λ k h. omega (arith, ring_in_lem r longest k h);
        free = λ k h. (off_pushed lent s (split_longest r t) ls points L Q R fits (ring_at r k)
            (omega (arith, ring_in_lem r longest k h), omega (arith, ring_in_lem r longest k h))).next;
        linked = linked_pushed lent s (split_longest r t) ls points L Q R fits;
        known = known_same s (split_longest r t) Q.edges Q.edge_count (omega (arith, Q.count)) Q.next L.known;
      }

module _ {n : ℕ} (lent : State) (o : Outline) (size : Float) (k : ℕ) (s : State) (R : Room n s) (fit : s.counts.nodes + loop_nodes o size k ≤ n)
    (three : 3 ≤ points (loop_at o k)) (ls : List (List ℕ)) (L : Laid lent s ls) where
  -- loop k is laid with no search
  pub turn_unsearched : boundary_turn o size k s ≡ lay_loop k (loop_at o k) size s
  unfolding boundary_turn close_loop lay_loop ring_of loop_nodes
  turn_unsearched =
      let l = loop_at o k in
      let t = sample_loop size l s in
      let count = sampled_count_lem lent o size k s R fit in
      let long = cuts_three lent o size k s R fit three in
      ring_unsearched (ring_in k s.counts.nodes t) (split_longest (ring_in k s.counts.nodes t) t)
      (ring_unlinked lent s t ls (loop_cuts size l) L (turn_sampled lent o size k s R fit) R (ring_in k s.counts.nodes t) refl count
      (ring_longest k t.xs t.ys s.counts.nodes (t.counts.nodes - s.counts.nodes) (omega (arith, count, long)))
      refl long (rw (cuts_length size l) fit))

-- ---- every turn

module _ (o : Outline) (size : Float) (lent : State) (three : Threes o) (P : Places (sampled_count o size) lent) where
  -- turn k, on the state that the turns before it leave
  pub unsearched : (k : ℕ) → k < loop_count o → boundary_turn o size k (state_at o size lent k) ≡ lay_loop k (loop_at o k) size (state_at o size lent k)
  unsearched k h =
      let A = turn_ready o size lent three P k (omega arith) in
      turn_unsearched (cleared lent) o size k (state_at o size lent k) A.room (turn_fits o size lent three P k h A) (three k h) (loops_at o size lent k) A.laid
