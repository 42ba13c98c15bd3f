-- What each change of a placing leaves for the next one: the nodes and the places that it asks for. Assumes nothing.
use Rattle.std.specs.Prelude.{[], ◌≡◌, ℕ, ◌+◌, ◌*◌, ◌^◌, ◌<◌, ◌≤◌, length}
use Rattle.std.proofs.Common.{refl, sym, ap, subst, ◌∙◌, length-set, arith}
use Rattle.front.specs.declared.Corner.{Corner}
use Rattle.front.specs.declared.Corner.TheVariants.{Reused, Fresh}
use Rattle.front.specs.declared.NewQuad.{NewQuad}
use Rattle.front.specs.declared.Paving.{Paving}
use Rattle.front.specs.State.{State, push_node, add_edge, push_quad}
use Rattle.front.specs.Lent.{paving_state}
use Rattle.front.proofs.MeshEdges.{with_edges, edged, quad_edged}
use Rattle.front.specs.Place.{added, new_quad, push_corner, add_edges, move_front, place}
use Rattle.front.specs.Stores.{Ids}
use Rattle.hand_mesh_changes.specs.Parts.{edges_in, NodesFit, EdgeFits, ChangedBy}
use Rattle.hand_placing.proofs.Local.{EdgesLocal, over_edges, bare_edges, alone, edge_local, local_then}
use Rattle.hand_placing.proofs.PlaceLaws.{second_edge_fits, second_pair}
use Rattle.hand_placing.specs.Room.{QuadFits, EdgesFit, TwoFit}

-- ---- edges

edges_seen : (F : State → State) → EdgesLocal F → (p q : Paving) → ChangedBy F p q
    → edges_in q.edges.now q.counts.edges ≡ F (edges_in p.edges.now p.counts.edges)
edges_seen F f p q h =
    let s = paving_state p [] in
    ap (over_edges (bare_edges s)) (h [] ∙ f s s) ∙ sym (alone over_edges bare_edges (λ s. refl) F f s s)

-- the list of edges is as long as it was
long_edge : (u v : ℕ) (p q : Paving) → ChangedBy (add_edge u v) p q → length q.edges.now ≡ length p.edges.now
long_edge u v p q h = ap (λ (s : State). length s.edges) (h []) ∙ (edged u v (paving_state p [])).list.long

pub second_edge : (p q : Paving) (u v w : ℕ) → ChangedBy (add_edge u v) p q → TwoFit p u v w → EdgeFits q v w
second_edge p q u v w h fit =
    second_edge_fits p.edges.now q.edges.now p.counts.edges q.counts.edges u v w (edges_seen (add_edge u v) (edge_local u v) p q h)
    (omega (arith, long_edge u v p q h)) fit

pub second_two : (p q : Paving) (a b d c : ℕ) → ChangedBy (λ s. add_edge b d (add_edge a b s)) p q → EdgesFit p a b d c → TwoFit q d c a
second_two p q a b d c h fit =
    let F : State → State = λ s. add_edge b d (add_edge a b s) in
    let s = paving_state p [] in
    let long = (edged b d (add_edge a b s)).list.long ∙ (edged a b s).list.long in
    second_pair p.edges.now q.edges.now p.counts.edges q.counts.edges a b d c
    (edges_seen F (local_then over_edges bare_edges (λ s. refl) (add_edge a b) (add_edge b d) (edge_local a b) (edge_local b d)) p q h)
    (omega (arith, ap (λ (s : State). length s.edges) (h []) ∙ long)) fit

-- ---- the corners

-- t is s with m nodes more; of the rest it has what s has
record NodesMore (m : ℕ) (s t : State) : Type 0 where
  nodes : t.counts.nodes ≡ s.counts.nodes + m
  quad_count : t.counts.quads ≡ s.counts.quads
  front : t.counts.front ≡ s.counts.front
  xs : length t.xs ≡ length s.xs
  ys : length t.ys ≡ length s.ys
  next : length t.next ≡ length s.next
  prev : length t.prev ≡ length s.prev
  quads : t.quads ≡ s.quads
  edges : edges_in t.edges t.counts.edges ≡ edges_in s.edges s.counts.edges

corner_more : (c : Corner) (s : State) → NodesMore (added c) s (push_corner c s)
unfolding push_node
corner_more (Reused id) s =
    record {
      nodes = omega arith;
      quad_count = refl;
      front = refl;
      xs = refl;
      ys = refl;
      next = refl;
      prev = refl;
      quads = refl;
      edges = refl;
    }
corner_more (Fresh x y) s =
    let n = s.counts.nodes in
    record {
      nodes = refl;
      quad_count = refl;
      front = refl;
      xs = length-set s.xs n _;
      ys = length-set s.ys n _;
      next = length-set s.next n _;
      prev = length-set s.prev n _;
      quads = refl;
      edges = refl;
    }

more : (c : Corner) (p q : Paving) → ChangedBy (push_corner c) p q → NodesMore (added c) (paving_state p []) (paving_state q [])
more c p q h = subst (NodesMore (added c) (paving_state p [])) (sym (h [])) (corner_more c (paving_state p []))

-- ---- the whole

module _ (p0 p1 : Paving) (a b : ℕ) (c d : Corner) (room : QuadFits p0 a b c d) (h1 : ChangedBy (push_corner c) p0 p1) where
  M1 : NodesMore (added c) (paving_state p0 []) (paving_state p1 [])
  M1 = more c p0 p1 h1

  pub second_corner : NodesFit p1.xs.now p1.ys.now p1.next.now p1.prev.now (p1.counts.nodes + added d)
  second_corner =
      let N = room.nodes in
      record {
        few = omega (arith, M1.nodes, N.few);
        xs_fit = omega (arith, M1.nodes, M1.xs, N.xs_fit);
        ys_fit = omega (arith, M1.nodes, M1.ys, N.ys_fit);
        next_fit = omega (arith, M1.nodes, M1.next, N.next_fit);
        prev_fit = omega (arith, M1.nodes, M1.prev, N.prev_fit);
      }

  module _ (p2 : Paving) (q : NewQuad) (is : q ≡ new_quad p0.counts.nodes a b c d) (h2 : ChangedBy (push_corner d) p1 p2) where
    M2 : NodesMore (added d) (paving_state p1 []) (paving_state p2 [])
    M2 = more d p1 p2 h2

    part : edges_in p2.edges.now p2.counts.edges ≡ edges_in p0.edges.now p0.counts.edges
    part = M2.edges ∙ M1.edges

    pub edges_room : EdgesFit p2 q.a q.b q.id_d q.id_c
    edges_room = rw (part, ap (λ (s : State). length s.edges) part, is) room.edges_fit

    module _ (p3 : Paving) (h3 : ChangedBy (add_edges q.a q.b q.id_d q.id_c) p2 p3) where
      abbrev s2 : State
      s2 = paving_state p2 []

      -- the rest is as it was
      rest : paving_state p3 [] ≡ with_edges s2 (add_edges q.a q.b q.id_d q.id_c s2).edges (add_edges q.a q.b q.id_d q.id_c s2).counts.edges
      rest = h3 [] ∙ (quad_edged q.a q.b q.id_d q.id_c s2).rest

      pub quad_place : 4 * (p3.counts.quads + 1) ≤ length p3.quads.now
      quad_place =
          let count : p3.counts.quads ≡ p0.counts.quads = ap (λ (s : State). s.counts.quads) rest ∙ (M2.quad_count ∙ M1.quad_count) in
          let list : length p3.quads.now ≡ length p0.quads.now = ap (λ (s : State). length s.quads) rest ∙ ap length (M2.quads ∙ M1.quads) in
          omega (arith, count, list, room.quads_fit)

      module _ (p4 : Paving) (h4 : ChangedBy (push_quad q.a q.b q.id_d q.id_c) p3 p4) where
        nodes : p4.counts.nodes ≡ p0.counts.nodes + (added c + added d)
        unfolding push_quad
        nodes =
            let to_3 : p4.counts.nodes ≡ p3.counts.nodes = ap (λ (s : State). s.counts.nodes) (h4 []) in
            let to_2 : p3.counts.nodes ≡ p2.counts.nodes = ap (λ (s : State). s.counts.nodes) rest in
            omega (arith, to_3, to_2, M2.nodes, M1.nodes)

        next : length p4.next.now ≡ length p0.next.now
        unfolding push_quad
        next = ap (λ (s : State). length s.next) (h4 []) ∙ (ap (λ (s : State). length s.next) rest ∙ (M2.next ∙ M1.next))

        prev : length p4.prev.now ≡ length p0.prev.now
        unfolding push_quad
        prev = ap (λ (s : State). length s.prev) (h4 []) ∙ (ap (λ (s : State). length s.prev) rest ∙ (M2.prev ∙ M1.prev))

        front : p4.counts.front ≡ p0.counts.front
        unfolding push_quad
        front = ap (λ (s : State). s.counts.front) (h4 []) ∙ (ap (λ (s : State). s.counts.front) rest ∙ (M2.front ∙ M1.front))

        pub sides_room : ((p4.counts.nodes ≤ length p4.next.now) × (p4.counts.nodes ≤ length p4.prev.now) × Ids p4.counts.nodes q.a q.b q.id_c q.id_d)
            × (p4.counts.front < 2 ^ 62)
        sides_room =
            let N = room.nodes in (
              (omega (arith, nodes, next, N.next_fit), omega (arith, nodes, prev, N.prev_fit), rw (nodes, is) room.ids),
              omega (arith, front, room.front),
            )

        pub all_placed : (p5 : Paving) → ChangedBy (move_front q.c q.d q.a q.b q.id_d q.id_c) p4 p5 → ChangedBy (place a b c d) p0 p5
        unfolding place
        all_placed p5 h5 t =
            h5 t ∙ ap (move_front q.c q.d q.a q.b q.id_d q.id_c) (h4 t ∙ ap (push_quad q.a q.b q.id_d q.id_c) (h3 t ∙ ap (add_edges q.a q.b q.id_d q.id_c) (h2 t ∙ ap (push_corner d) (h1 t))))
            ∙ rw is refl
