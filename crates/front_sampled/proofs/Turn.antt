-- What holds of the definitions of proofs/TurnBase.antt.
use Rattle.std.specs.Prelude.{◌≡◌, List, [], ◌++◌, ℕ, ◌+◌, ◌-◌, ◌<◌, ◌≤◌, ◌%◌, eqb, length, Float}
use Rattle.std.proofs.Math.Path.{refl, ap}
use Rattle.std.proofs.Common.{sym, ◌∙◌, arith}
use Rattle.outline.specs.declared.Point.{Point}
use Rattle.outline.specs.Outline.{Outline, loop_at, points}
use Rattle.topology.proofs.Changes.{stored}
use Rattle.front.specs.declared.Ring.{Ring}
use Rattle.front.specs.State.{State}
use Rattle.front.specs.Sampling.{loop_nodes, sample_loop, ring_of, ring_count, ring_at, ring_ids, split_longest, join_ring, ring_in, close_loop}
use Rattle.front.specs.Sampling.{boundary_turn, loop_ids}
use Rattle.front_sampled.specs.Nodes.{Room, room_kept, Pushed, push_more}
use Rattle.front_sampled.proofs.Cuts.{loop_cuts, cuts_length, cuts_least, loop_pushed}
use Rattle.front_sampled.proofs.Rings.{ring_longest, ring_in_lem, ids_distinct, ids_length, ids_all}
use Rattle.front_sampled.proofs.RingJoins.{loop_joins, ring_stored}
use Rattle.front_sampled.specs.Joins.{join}
use Rattle.front_sampled.proofs.Laid.{Laid, Added, lay}
use Rattle.front_sampled.proofs.TurnBase.{split_points, turn_points, split_pushed, split_count}

-- ---- laws

join_ring_lem : (r : Ring) (st : State) → 0 < ring_count r → join_ring r st ≡ stored join (loop_joins (ring_ids r)) st
unfolding join_ring ring_ids
join_ring_lem r st h = ring_stored join (ring_at r) st (ring_count r) h

-- ---- the turn

module _ {n : ℕ} (lent s t : State) (ls : List (List ℕ)) (ps : List Point) (L : Laid lent s ls) (P : Pushed s t ps) (R : Room n s) where
  -- the points ps become a loop of the front
  ring_added : (r : Ring) → r.base ≡ s.counts.nodes → r.count ≡ length ps → r.longest < r.count → r.split ≡ eqb (r.count % 2) 1
      → 3 ≤ length ps → s.counts.nodes + (length ps + length ps % 2) ≤ n
      → Added lent s (join_ring r (split_longest r t)) ls (ring_ids r) (ps ++ split_points r t)
  ring_added r base count longest split three fit =
      let counts = split_count r t ps count split in
      let long = counts.0 in
      let size = counts.1 in
      let Q = push_more P (split_pushed r t (room_kept n s t P.frame R) (omega (arith, P.count, size, count))) in
      let here : s.counts.nodes + ring_count r ≡ (split_longest r t).counts.nodes = omega (arith, Q.count, long) in
      rw (join_ring_lem r (split_longest r t) (omega arith))
      (lay lent s (split_longest r t) ls (ps ++ split_points r t) L Q R (omega arith) (ring_ids r)
      (omega (arith, ids_length r)) (ap (λ (k : ℕ). k % 2) (ids_length r ∙ size) ∙ omega arith) (ids_distinct r longest)
      (ids_all r (λ u. (s.counts.nodes ≤ u) × (u < (split_longest r t).counts.nodes))
      (λ k h. let i = ring_in_lem r longest k h in (omega arith, omega arith))) (ids_length r ∙ sym long))

module _ {n : ℕ} (lent : State) (o : Outline) (size : Float) (k : ℕ) (s : State) (R : Room n s)
    (fit : s.counts.nodes + loop_nodes o size k ≤ n) where
  pub turn_sampled : Pushed s (sample_loop size (loop_at o k) s) (loop_cuts size (loop_at o k))
  unfolding loop_nodes
  turn_sampled = loop_pushed size (loop_at o k) s R (omega arith)

  pub sampled_count_lem : (sample_loop size (loop_at o k) s).counts.nodes - s.counts.nodes ≡ length (loop_cuts size (loop_at o k))
  sampled_count_lem = omega (arith, turn_sampled.count)

  module _ (three : 3 ≤ points (loop_at o k)) where
    pub cuts_three : 3 ≤ length (loop_cuts size (loop_at o k))
    cuts_three = omega (arith, cuts_length size (loop_at o k), cuts_least size (loop_at o k))

    -- loop k of the outline becomes the last loop of the front
    pub turn_added : (ls : List (List ℕ)) → Laid lent s ls
        → Added lent s (boundary_turn o size k s) ls (loop_ids o size k s) (turn_points o size k s)
    unfolding boundary_turn close_loop ring_of turn_points loop_nodes
    turn_added ls L =
        let l = loop_at o k in
        let t = sample_loop size l s in
        ring_added lent s t ls (loop_cuts size l) L turn_sampled R (ring_in k s.counts.nodes t) refl sampled_count_lem
        (ring_longest k t.xs t.ys s.counts.nodes (t.counts.nodes - s.counts.nodes) (omega (arith, sampled_count_lem, cuts_three)))
        refl cuts_three (rw (cuts_length size l) fit)

    pub turn_length : length (turn_points o size k s) ≡ loop_nodes o size k
    unfolding ring_of turn_points loop_nodes
    turn_length =
        let l = loop_at o k in
        let t = sample_loop size l s in
        let counts = split_count (ring_in k s.counts.nodes t) t (loop_cuts size l) sampled_count_lem refl in
        counts.0 ∙ counts.1 ∙ ap (λ (n : ℕ). n + n % 2) (cuts_length size l)
