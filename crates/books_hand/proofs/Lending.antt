-- Another list in the snapshot's place: every change of a state but the snapshot's leaves what it leaves otherwise, with that list in its place.
-- Assumes nothing.
use Rattle.std.proofs.Math.Bool.{Bool, true, false, cond}
use Rattle.std.specs.Prelude.{◌||◌, List, ◌≡◌, eqb, length, set, Float}
use Rattle.std.proofs.Math.Path.{refl, ap, subst}
use Rattle.std.proofs.Common.{sym, ◌∙◌}
use Prim.Native.Nat.{ℕ, zero, suc, ◌+◌, ◌-◌, ◌≤◌, min, max}
use native.Mathlib.Omega.{arith}
use Rattle.std.proofs.Math.Dec.{ltb}
use borrow.Author.Tests.{ltb-false, le-ltb}
use Rattle.laws.specs.Loop.{for_up}
use Rattle.laws.specs.Tests.{neither}
use Rattle.topology.specs.Links.{off}
use Rattle.outline.specs.declared.Point.{Point}
use Rattle.outline.specs.Outline.{Outline, loop_at, point_at, point_after}
use Rattle.front.specs.declared.Corner.{Corner}
use Rattle.front.specs.declared.Corner.TheVariants.{Reused, Fresh}
use Rattle.front.specs.declared.Ring.{Ring}
use Rattle.front.specs.State.{State, most_nodes, node_places, quad_places, edge_places, next_of, has_edge, push_node, with_front, add_front, remove_front}
use Rattle.front.specs.State.{push_edge, add_edge, push_quad, cleared}
use Rattle.front.specs.Place.{added, id_c, id_d, push_corner, add_edges, take_off, put_on, move_front, place, edges_added, is_full}
use Rattle.front.specs.Sampling.{cut_turn, parts, sample_segment, sample_turn, sample_loop, midpoint, split_longest, join_turn, join_ring, ring_count, ring_in}
use Rattle.front.specs.Sampling.{close_loop, boundary_turn, loop_count, from_boundary}
use Rattle.paving.specs.Attempt.{attempt_quad}
use Rattle.paving.specs.Advance.{with_snapshot}
use Rattle.paving.specs.Reach.{Placement, Reaches, begin, snapshot, placed}
use Rattle.paving_attempts.proofs.SeenLaws.{attempt_seen}
use Rattle.hand_placing.proofs.Local.{placed_nodes}
use Rattle.books_hand.specs.Moves.{with_scratch}

module _ (l : List ℕ) where
  abbrev In : State → State
  In = with_scratch l

  -- a change that doesn't see the list
  abbrev Blind : (State → State) → Type 0
  Blind F = (s : State) → F (In s) ≡ In (F s)

  blind_then : (F G : State → State) → Blind F → Blind G → Blind (λ s. G (F s))
  blind_then F G f g s = ap G (f s) ∙ g (F s)

  blind_loop : (n : ℕ) (turn : ℕ → State → State) → ((i : ℕ) → Blind (turn i)) → Blind (for_up n turn)
  unfolding for_up
  blind_loop zero turn h s = refl
  blind_loop (suc n) turn h s = ap (turn n) (blind_loop n turn h s) ∙ h n (for_up n turn s)

  -- ---- elementary changes

  node_blind : (p : Point) → Blind (push_node p)
  unfolding push_node
  node_blind p s = refl

  add_blind : (u v : ℕ) → Blind (add_front u v)
  unfolding add_front
  add_blind u v s = refl

  remove_blind : (u v : ℕ) → Blind (remove_front u v)
  unfolding remove_front
  remove_blind u v s = by (eqb (next_of s u) v)
    where
      by : (b : Bool)
          → cond b (with_front (In s) (set s.next u off) (set s.prev v off) (s.counts.front - 1)) (In s)
          ≡ In (cond b (with_front s (set s.next u off) (set s.prev v off) (s.counts.front - 1)) s)
      by true = refl
      by false = refl

  edge_blind : (u v : ℕ) → Blind (add_edge u v)
  unfolding add_edge has_edge push_edge
  edge_blind u v s = by (has_edge s u v)
    where
      by : (b : Bool) → cond b (In s) (push_edge (min u v) (max u v) (In s)) ≡ In (cond b s (push_edge (min u v) (max u v) s))
      by true = refl
      by false = refl

  quad_blind : (a b d c : ℕ) → Blind (push_quad a b d c)
  unfolding push_quad
  quad_blind a b d c s = refl

  -- ---- the placing

  corner_blind : (c : Corner) → Blind (push_corner c)
  corner_blind (Reused id) s = refl
  corner_blind (Fresh x y) s = node_blind _ s

  take_blind : (c : Corner) (u v : ℕ) → Blind (take_off c u v)
  take_blind (Reused id) u v s = remove_blind u v s
  take_blind (Fresh x y) u v s = refl

  put_blind : (c : Corner) (u v : ℕ) → Blind (put_on c u v)
  put_blind (Reused id) u v s = refl
  put_blind (Fresh x y) u v s = add_blind u v s

  edges_blind : (a b d c : ℕ) → Blind (add_edges a b d c)
  unfolding add_edges
  edges_blind a b d c =
      let F1 = add_edge a b in
      let F2 : State → State = λ s. add_edge b d (F1 s) in
      let F3 : State → State = λ s. add_edge d c (F2 s) in
      blind_then F3 (add_edge c a)
      (blind_then F2 (add_edge d c) (blind_then F1 (add_edge b d) (edge_blind a b) (edge_blind b d)) (edge_blind d c)) (edge_blind c a)

  move_blind : (c d : Corner) (a b id_d id_c : ℕ) → Blind (move_front c d a b id_d id_c)
  unfolding move_front
  move_blind c d a b id_d id_c =
      let F1 = remove_front a b in
      let F2 : State → State = λ s. take_off c id_c a (F1 s) in
      let F3 : State → State = λ s. take_off d b id_d (F2 s) in
      let F4 : State → State = λ s. put_on c a id_c (F3 s) in
      let F5 : State → State = λ s. add_front id_c id_d (F4 s) in
      let B2 = blind_then F1 (take_off c id_c a) (remove_blind a b) (take_blind c id_c a) in
      let B3 = blind_then F2 (take_off d b id_d) B2 (take_blind d b id_d) in
      let B4 = blind_then F3 (put_on c a id_c) B3 (put_blind c a id_c) in
      let B5 = blind_then F4 (add_front id_c id_d) B4 (add_blind id_c id_d) in
      blind_then F5 (put_on d id_d b) B5 (put_blind d id_d b)

  place_blind : (a b : ℕ) (c d : Corner) → Blind (place a b c d)
  unfolding place
  place_blind a b c d s =
      let C = id_c s c in
      let D = id_d s c d in
      let F1 : State → State = λ t. push_corner d (push_corner c t) in
      let F2 : State → State = λ t. add_edges a b D C (F1 t) in
      let F3 : State → State = λ t. push_quad a b D C (F2 t) in
      let B1 = blind_then (push_corner c) (push_corner d) (corner_blind c) (corner_blind d) in
      let B2 = blind_then F1 (add_edges a b D C) B1 (edges_blind a b D C) in
      let B3 = blind_then F2 (push_quad a b D C) B2 (quad_blind a b D C) in
      blind_then F3 (move_front c d a b D C) B3 (move_blind c d a b D C) s

  -- ---- `from_boundary`

  segment_blind : (a b : Point) (n : ℕ) → Blind (sample_segment a b n)
  unfolding sample_segment
  segment_blind a b n = blind_loop n (cut_turn a b n) (λ k s. node_blind _ s)

  loop_blind : (size : Float) (s : List Float) → Blind (sample_loop size s)
  unfolding sample_loop
  loop_blind size s = blind_loop _ (sample_turn size s) (λ i st. segment_blind (point_at s i) (point_after s i) (parts size s i) st)

  split_blind : (r : Ring) → Blind (split_longest r)
  unfolding split_longest
  split_blind r s = by r.split
    where
      by : (b : Bool) → cond b (push_node (midpoint s.xs s.ys r) (In s)) (In s) ≡ In (cond b (push_node (midpoint s.xs s.ys r) s) s)
      by true = node_blind _ s
      by false = refl

  ring_blind : (r : Ring) → Blind (join_ring r)
  unfolding join_ring
  ring_blind r =
      blind_loop (ring_count r) (join_turn r) (λ i s. blind_then (add_front _ _) (add_edge _ _) (add_blind _ _) (edge_blind _ _) s)

  close_blind : (k base : ℕ) → Blind (close_loop k base)
  unfolding close_loop
  close_blind k base s =
      let r = ring_in k base s in
      blind_then (split_longest r) (join_ring r) (split_blind r) (ring_blind r) s

  boundary_blind : (o : Outline) (size : Float) (k : ℕ) → Blind (boundary_turn o size k)
  unfolding boundary_turn
  boundary_blind o size k s =
      blind_then (sample_loop size (loop_at o k)) (close_loop k s.counts.nodes) (loop_blind size (loop_at o k)) (close_blind k s.counts.nodes) s

  pub sampled_blind : (o : Outline) (size : Float) (lent : State) → from_boundary o size (In lent) ≡ In (from_boundary o size lent)
  unfolding from_boundary cleared
  sampled_blind o size lent = blind_loop (loop_count o) (boundary_turn o size) (boundary_blind o size) (cleared lent)

  -- ---- an attempt, and when its quad is full

  attempt_blind : (o : Outline) (size : Float) (s : State) (a b : ℕ) (da db : Point)
      → attempt_quad o size (In s) a b da db ≡ attempt_quad o size s a b da db
  attempt_blind o size s a b da db = sym (attempt_seen (In s) o size a b da db) ∙ attempt_seen s o size a b da db

  -- node places that were lent still are, as far as the list goes
  pub places_in : (s : State) (m : ℕ) → m ≤ node_places s → m ≤ length l → m ≤ node_places (In s)
  unfolding node_places
  places_in s m h long = by _ (length s.snapshot) (length l) most_nodes m h long
    where
      by : (a p l q m : ℕ) → m ≤ min (min a p) q → m ≤ l → m ≤ min (min a l) q
      by a p l q m h long = omega arith

  -- where the list has places for the nodes, a quad that fits still fits
  fits_in : (s : State) (a b : ℕ) (c d : Corner) → s.counts.nodes + (added c + added d) ≤ length l → is_full s a b c d ≡ false
      → is_full (In s) a b c d ≡ false
  unfolding is_full quad_places edge_places edges_added has_edge
  fits_in s a b c d long e =
      let m = s.counts.nodes + added c + added d in
      let rest : Bool =
      ltb (quad_places s) (s.counts.quads + 1) || ltb (edge_places s) (s.counts.edges + edges_added s a b (id_d s c d) (id_c s c)) in
      let halves = neither (ltb (node_places s) m) rest e in
      let few : m ≤ node_places s = ltb-false (node_places s) m halves.0 in
      let still : ltb (node_places (In s)) m ≡ false = le-ltb (node_places (In s)) m (places_in s m few (omega arith)) in
      rw still halves.1

  -- ---- what is reached

  module _ (o : Outline) (size : Float) (s : State) where
    pub reached_in : {k : ℕ} {t : State} → Reaches o size s k t → t.counts.nodes ≤ length l → Reaches o size (In s) k (In t)
    unfolding with_snapshot
    reached_in begin h = begin
    reached_in (snapshot r) h = reached_in r h
    reached_in (placed {k = k} {t = t} {a = a} {b = b} {c = c} {d = d} r P) h =
        let N = placed_nodes a b c d t in
        let Q : Placement o size (In t) a b c d =
        record {
          there = P.there;
          da = P.da;
          db = P.db;
          answered = attempt_blind o size t a b P.da P.db ∙ P.answered;
          fits = fits_in t a b c d (omega (arith, N, h)) P.fits;
        } in
        subst (Reaches o size (In s) (suc k)) (place_blind a b c d t) (placed (reached_in r (omega (arith, N, h))) Q)
