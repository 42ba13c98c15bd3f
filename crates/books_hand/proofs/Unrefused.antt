-- 23 never refuses a mesh that a run or a hand-stepped sequence left: `reached_unrefused`.
use Rattle.std.specs.Prelude.{Bool, ◌&&◌, ◌||◌, cond, List, ◌≡◌, ltb, leb, ℤ, pos, Float}
use Rattle.std.proofs.Math.Bool.{true, false, not}
use Rattle.std.proofs.Math.Path.{refl, sym}
use Rattle.std.proofs.Common.{ap, ◌∙◌, subst, le→leb}
use Prim.Native.Nat.{ℕ, zero, suc, ◌+◌, ◌*◌, ◌/◌, ◌%◌, ◌<◌, ◌≤◌}
use native.Mathlib.Omega.{arith}
use Rattle.std.proofs.Math.Dec.{T, eqb}
use Rattle.std.proofs.Math.ListN.{get_or}
use Rattle.std.specs.Float.{nan}
use Rattle.std.specs.Float.Ieee.{le, of_bits}
use borrow.Author.Tests.{le-ltb, lt-leb, eq-eqb, eqb-true, eqb-false}
use Rattle.laws.specs.Loop.{any_up, none_found}
use Rattle.numbers.specs.Float.{is_finite, abs_f}
use Rattle.exact.specs.Units.{W, Val, Within, finite_val, abs_val}
use Rattle.exact.proofs.Order.{le_val}
use Rattle.field_direction.specs.Direction.{within}
use Rattle.outline.specs.declared.Point.{Point}
use Rattle.topology.specs.Links.{off, link_of}
use Rattle.topology.proofs.Front.{next_in, prev_in, prev_of_next, next_of_prev}
use Rattle.front.specs.State.{State, node_in, node, next_of, prev_of, edge_from, edge_to, Quad, quad_at, node_places, quad_places, edge_places}
use Rattle.front.specs.Sound.{Sound}
use Rattle.front.specs.Ready.{Known, Joined}
use Rattle.outline.specs.Outline.{Outline}
use Rattle.front.specs.Sampling.{sampled_count, from_boundary, boundary_loops}
use Rattle.front.proofs.FrameLaws.{frame_same}
use Rattle.front.proofs.KnownLaws.{known_same, known_placed}
use Rattle.paving.specs.Advance.{with_snapshot}
use Rattle.paving.specs.Reach.{Reaches, begin, snapshot, placed}
use Rattle.books.proofs.Answered.{answered}
use Rattle.books_bounded.proofs.Run.{run_bounded}
use Rattle.books_hold.proofs.StagesBase.{standing}
use Rattle.books_hold.proofs.Stages.{stage_at}
use Rattle.books_hold.specs.Runs.{AcceptedRun}
use Rattle.books_hold.proofs.Runs.{begins, start, turns}
use Rattle.books_bounded.proofs.Point.{Bounded}
use Rattle.books_bounded.proofs.Nodes.{AllNodes}
use Rattle.hand_mesh_check.specs.Check.{beyond_places, counts_beyond, beyond_nodes, ids_beyond, link_unsound, link_count, farthest_node, coordinate_unsound}
use Rattle.hand_mesh_check.specs.Check.{node_unsound, front_unsound, mesh_unsound, mesh_refusal}
use Rattle.books_hand.proofs.LinkCounts.{links_counted}

-- ---- what is asked of a state

pub record IdsBelow (n : ℕ) (q : Quad) : Type 0 where
  pub a : q.a < n
  pub b : q.b < n
  pub d : q.d < n
  pub c : q.c < n

module _ (n : ℕ) (s : State) (ls : List (List ℕ)) (S : Sound n s ls) (joined : Joined s.counts.nodes s)
    (quads : (k : ℕ) → k < s.counts.quads → IdsBelow s.counts.nodes (quad_at s k)) (near : AllNodes Bounded s) where
  counts_within : counts_beyond s ≡ false
  unfolding beyond_places
  counts_within = rw (le-ltb _ _ S.nodes_fit, le-ltb _ _ S.quads_fit, le-ltb _ _ S.edges_fit) refl

  -- ---- ids
  not_beyond : (m v : ℕ) → v < m → leb m v ≡ false
  not_beyond m v h = lt-leb m v h

  quad_id : (i : ℕ) → i < 4 * s.counts.quads → beyond_nodes s.counts.nodes s.quads i ≡ false
  unfolding quad_at
  quad_id i h =
      let k = i / 4 in
      let Q = quads k (omega arith) in
      not_beyond _ _ (by k (i % 4) (omega arith) (omega arith) Q)
    where
      by : (k r : ℕ) → i ≡ 4 * k + r → r < 4 → IdsBelow s.counts.nodes (quad_at s k) → get_or s.quads i 0 < s.counts.nodes
      by k zero e h Q = let z : i ≡ 4 * k = omega arith in rw z Q.a
      by k (suc zero) e h Q = rw e Q.b
      by k (suc (suc zero)) e h Q = rw e Q.d
      by k (suc (suc (suc zero))) e h Q = rw e Q.c
      by k (suc (suc (suc (suc r)))) e h Q = absurd (omega arith)

  edge_id : (i : ℕ) → i < 2 * s.counts.edges → beyond_nodes s.counts.nodes s.edges i ≡ false
  edge_id i h =
      let k = i / 2 in
      let J = joined k (omega arith) in
      not_beyond _ _ (by k (i % 2) (omega arith) (omega arith) J)
    where
      by : (k r : ℕ) → i ≡ 2 * k + r → r < 2 → (edge_from s k < edge_to s k) × (edge_to s k < s.counts.nodes)
          → get_or s.edges i 0 < s.counts.nodes
      by k zero e h J = let z : i ≡ 2 * k = omega arith in rw z (omega (arith, J.0, J.1))
      by k (suc zero) e h J = rw e J.1
      by k (suc (suc r)) e h J = absurd (omega arith)

  ids_within : ids_beyond s.counts.nodes s.quads s.counts.quads s.edges s.counts.edges ≡ false
  unfolding ids_beyond
  ids_within = rw (none_found _ _ quad_id, none_found _ _ edge_id) refl

  -- ---- links
  link_sound : (u : ℕ) → u < s.counts.nodes → link_unsound s.counts.nodes s.next s.prev u ≡ false
  unfolding link_unsound
  link_sound u h = by (eqb (next_of s u) off) refl
    where
      by : (b : Bool) → eqb (next_of s u) off ≡ b
          → not b && (leb s.counts.nodes (next_of s u) || not (eqb (prev_of s (next_of s u)) u)) ≡ false
      by true e = refl
      by false e =
          let ne = eqb-false _ _ e in
          let F = S.front in
          let inn = next_in s.counts.nodes (next_of s) ls F.loops u ne in
          let back = prev_of_next s.counts.nodes (next_of s) (prev_of s) ls F u (next_of s u) ne refl in
          rw (not_beyond _ _ inn, eq-eqb _ _ back) refl

  back_sound : (u : ℕ) → u < s.counts.nodes → link_unsound s.counts.nodes s.prev s.next u ≡ false
  unfolding link_unsound
  back_sound u h = by (eqb (prev_of s u) off) refl
    where
      by : (b : Bool) → eqb (prev_of s u) off ≡ b
          → not b && (leb s.counts.nodes (prev_of s u) || not (eqb (next_of s (prev_of s u)) u)) ≡ false
      by true e = refl
      by false e =
          let ne = eqb-false _ _ e in
          let F = S.front in
          let inn = prev_in s.counts.nodes (next_of s) (prev_of s) ls F u ne in
          let on = next_of_prev s.counts.nodes (next_of s) (prev_of s) ls F (prev_of s u) u ne refl in
          rw (not_beyond _ _ inn.0, eq-eqb _ _ on) refl

  front_counted : eqb (link_count s.counts.nodes s.next) s.counts.front ≡ true
  unfolding link_count
  front_counted = eq-eqb _ _ (links_counted s.counts.nodes (next_of s) ls S.front.loops ∙ sym S.edges)

  -- ---- coordinates
  farthest_val : Val farthest_node false (1001 * W)
  unfolding of_bits W
  farthest_val = (refl, refl)

  near_float : (x : Float) → Within 1001 x → coordinate_unsound x ≡ false
  unfolding coordinate_unsound within
  near_float x w = rw (true_of (is_finite x) (finite_val x w.sign w.size w.val), true_of (le (abs_f x) farthest_node) below) refl
    where
      true_of : (b : Bool) → T b → b ≡ true
      true_of true t = refl
      true_of false t = absurd t

      below : T (le (abs_f x) farthest_node)
      below =
          (le_val (abs_f x) farthest_node false false w.size (1001 * W) (abs_val x w.sign w.size w.val) farthest_val).1
          (record { le = le→leb w.size (1001 * W) w.small })

  node_near : (i : ℕ) → i < s.counts.nodes → node_unsound s.xs s.ys i ≡ false
  unfolding node_in
  node_near i h = let B = (near i h).within in rw (near_float _ B.x, near_float _ B.y) refl

  pub unrefused : mesh_refusal s ≡ 0
  unfolding mesh_refusal mesh_unsound front_unsound
  unrefused =
      rw (
        counts_within,
        ids_within,
        none_found _ _ link_sound,
        none_found _ _ back_sound,
        front_counted,
        none_found _ _ node_near,
      ) refl

-- ---- every state that is reached from a sampled outline

module _ (o : Outline) (size : Float) (lent : State) (A : AcceptedRun o size lent) where
  known_reached : {k : ℕ} {t : State} → Reaches o size (from_boundary o size lent) k t → Known t
  unfolding with_snapshot
  known_reached begin = (begins o size lent A).known
  known_reached (snapshot {t = t} r) = known_same t (with_snapshot t) refl refl (omega arith) refl (known_reached r)
  known_reached (placed {t = t} {a = a} {b = b} {c = c} {d = d} r P) =
      let Y = standing (start o size lent A).sound r in
      known_placed (sampled_count o size) t Y.loops a b c d Y.sound (known_reached r) (answered o size t a b c d P).choice P.fits

  pub reached_unrefused : {k : ℕ} {t : State} → Reaches o size (from_boundary o size lent) k t → mesh_refusal t ≡ 0
  reached_unrefused {k} {t} r =
      let Y = stage_at o size (from_boundary o size lent) (boundary_loops o size lent) (start o size lent A) (turns o size lent A) t r (frame_same t) in
      unrefused (sampled_count o size) t Y.loops Y.sound (known_reached r).joined
      (λ i h. let Q = Y.each i (rw Y.quads at h) in record { a = Q.a; b = Q.b; d = Q.d; c = Q.c })
      (run_bounded o size A.doubles A.outline lent A.front r)
