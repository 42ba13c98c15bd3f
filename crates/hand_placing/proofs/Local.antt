-- Changes that read and write one part of a state: what such a change leaves of a whole state is what it leaves of the part alone, with the rest as it
-- was. So the code of a change needs to be lent that part only. Assumes nothing.
use Rattle.std.specs.Prelude.{Bool, true, false, cond, ◌≡◌, ℕ, ◌+◌, ◌-◌, min, max, eqb, Float}
use mathlib.Core.List.{List, []}
use Rattle.std.proofs.Math.Path.{refl, sym, ap}
use Rattle.std.proofs.Common.{◌∙◌}
use native.Mathlib.Omega.{arith}
use Rattle.std.proofs.Math.ListN.{set}
use Rattle.topology.specs.Links.{off, link_of}
use Rattle.front.specs.declared.Counts.{Counts}
use Rattle.front.specs.declared.Corner.{Corner}
use Rattle.front.specs.declared.Corner.TheVariants.{Reused, Fresh}
use Rattle.front.specs.State.{State, state_of, counted, with_front, edge_in, has_edge, push_node, push_edge, add_edge, add_front, remove_front, push_quad}
use Rattle.front.proofs.MeshEdges.{with_edges, quad_edged}
use Rattle.front.specs.Stores.{store_x, store_y, store_quad}
use Rattle.front.specs.Place.{added, corner_id, push_corner, add_edges, take_off, put_on, move_front, place}
use Rattle.hand_mesh_changes.specs.Parts.{front_in, edges_in, nodes_alone}

-- ---- parts: `over s p` is s with the part taken from p, and `bare s` has of s what a change reads and never writes

module _ (over : State → State → State) (bare : State → State) (same : (s : State) → bare (bare s) ≡ bare s) where
  abbrev pub Local : (State → State) → Type 0
  Local F = (s p : State) → F (over s p) ≡ over s (F (over (bare s) p))

  -- of the part alone a change leaves the part alone
  pub alone : (F : State → State) → Local F → (s p : State) → F (over (bare s) p) ≡ over (bare s) (F (over (bare s) p))
  alone F f s p = f (bare s) p ∙ ap (λ (x : State). over (bare s) (F (over x p))) (same s)

  -- one change after another
  pub local_then : (F G : State → State) → Local F → Local G → Local (λ s. G (F s))
  local_then F G f g s p =
      let X = F (over (bare s) p) in
      ap G (f s p) ∙ (g s X ∙ ap (λ (x : State). over s (G x)) (sym (alone F f s p)))

-- ---- the front

abbrev pub over_front : State → State → State
over_front s p = with_front s p.next p.prev p.counts.front

abbrev pub bare_front : State → State
bare_front s = front_in [] [] s.counts.nodes 0

abbrev pub FrontLocal : (State → State) → Type 0
FrontLocal F = Local over_front bare_front (λ s. refl) F

remove_local : (u v : ℕ) → FrontLocal (remove_front u v)
unfolding remove_front
remove_local u v s p = by (eqb (link_of s.counts.nodes p.next u) v)
  where
    by : (b : Bool)
        → cond b (with_front (over_front s p) (set p.next u off) (set p.prev v off) (p.counts.front - 1)) (over_front s p)
        ≡ over_front s (cond b (with_front (over_front (bare_front s) p) (set p.next u off) (set p.prev v off) (p.counts.front - 1))
        (over_front (bare_front s) p))
    by true = refl
    by false = refl

add_local : (u v : ℕ) → FrontLocal (add_front u v)
unfolding add_front
add_local u v s p = refl

take_local : (c : Corner) (u v : ℕ) → FrontLocal (take_off c u v)
take_local (Reused id) u v s p = remove_local u v s p
take_local (Fresh x y) u v s p = refl

put_local : (c : Corner) (u v : ℕ) → FrontLocal (put_on c u v)
put_local (Reused id) u v s p = refl
put_local (Fresh x y) u v s p = add_local u v s p

move_local : (c d : Corner) (a b id_d id_c : ℕ) → FrontLocal (move_front c d a b id_d id_c)
unfolding move_front
move_local c d a b id_d id_c =
    let F1 = remove_front a b in
    let F2 : State → State = λ s. take_off c id_c a (F1 s) in
    let F3 : State → State = λ s. take_off d b id_d (F2 s) in
    let F4 : State → State = λ s. put_on c a id_c (F3 s) in
    let F5 : State → State = λ s. add_front id_c id_d (F4 s) in
    let L2 = front_then F1 (take_off c id_c a) (remove_local a b) (take_local c id_c a) in
    let L3 = front_then F2 (take_off d b id_d) L2 (take_local d b id_d) in
    let L4 = front_then F3 (put_on c a id_c) L3 (put_local c a id_c) in
    let L5 = front_then F4 (add_front id_c id_d) L4 (add_local id_c id_d) in
    front_then F5 (put_on d id_d b) L5 (put_local d id_d b)
  where
    front_then : (F G : State → State) → FrontLocal F → FrontLocal G → FrontLocal (λ s. G (F s))
    front_then F G f g = local_then over_front bare_front (λ s. refl) F G f g

-- ---- the mesh edges

abbrev pub over_edges : State → State → State
over_edges s p = with_edges s p.edges p.counts.edges

abbrev pub bare_edges : State → State
bare_edges s = edges_in [] 0

abbrev pub EdgesLocal : (State → State) → Type 0
EdgesLocal F = Local over_edges bare_edges (λ s. refl) F

pub edge_local : (u v : ℕ) → EdgesLocal (add_edge u v)
unfolding add_edge has_edge push_edge
edge_local u v s p = by (edge_in p.edges p.counts.edges u v)
  where
    by : (b : Bool) → cond b (over_edges s p) (push_edge (min u v) (max u v) (over_edges s p))
        ≡ over_edges s (cond b (over_edges (bare_edges s) p) (push_edge (min u v) (max u v) (over_edges (bare_edges s) p)))
    by true = refl
    by false = refl

pub edges_local : (a b d c : ℕ) → EdgesLocal (add_edges a b d c)
unfolding add_edges
edges_local a b d c =
    let F1 = add_edge a b in
    let F2 : State → State = λ s. add_edge b d (F1 s) in
    let F3 : State → State = λ s. add_edge d c (F2 s) in
    let L2 = edges_then F1 (add_edge b d) (edge_local a b) (edge_local b d) in
    let L3 = edges_then F2 (add_edge d c) L2 (edge_local d c) in
    edges_then F3 (add_edge c a) L3 (edge_local c a)
  where
    edges_then : (F G : State → State) → EdgesLocal F → EdgesLocal G → EdgesLocal (λ s. G (F s))
    edges_then F G f g = local_then over_edges bare_edges (λ s. refl) F G f g

-- ---- the new nodes

abbrev pub over_nodes : State → State → State
over_nodes s p =
    state_of p.xs p.ys p.next p.prev s.snapshot s.quads s.edges
    (counted p.counts.nodes s.counts.quads s.counts.edges s.counts.front)

abbrev pub bare_nodes : State → State
bare_nodes s = nodes_alone [] [] [] [] 0

abbrev pub NodesLocal : (State → State) → Type 0
NodesLocal F = Local over_nodes bare_nodes (λ s. refl) F

corner_local : (c : Corner) → NodesLocal (push_corner c)
unfolding push_node
corner_local (Reused id) s p = refl
corner_local (Fresh x y) s p = refl

corners_local : (c d : Corner) → NodesLocal (λ s. push_corner d (push_corner c s))
corners_local c d = local_then over_nodes bare_nodes (λ s. refl) (push_corner c) (push_corner d) (corner_local c) (corner_local d)

-- ---- the whole: each part as the code left it

module _ (a b : ℕ) (c d : Corner) (xs ys : List Float) (next prev snapshot quads edges : List ℕ) (k : Counts) where
  pub parts_placed : {xs' ys' : List Float} {next' prev' next'' prev'' quads' edges' : List ℕ} {n' e' f' C D : ℕ}
      → C ≡ corner_id k.nodes c → D ≡ corner_id (k.nodes + added c) d
      → nodes_alone xs' ys' next' prev' n' ≡ push_corner d (push_corner c (nodes_alone xs ys next prev k.nodes))
      → edges_in edges' e' ≡ add_edges a b D C (edges_in edges k.edges)
      → quads' ≡ store_quad k.quads a b D C quads
      → front_in next'' prev'' n' f' ≡ move_front c d a b D C (front_in next' prev' n' k.front)
      → state_of xs' ys' next'' prev'' snapshot quads' edges' (counted n' (k.quads + 1) e' f')
      ≡ place a b c d (state_of xs ys next prev snapshot quads edges k)
  unfolding place push_quad
  parts_placed {xs'} {ys'} {next'} {prev'} {next''} {prev''} {quads'} {edges'} {n'} {e'} {f'} {C} {D} e_c e_d nodes-are edges_are quads-are front_is =
      let q = k.quads in
      let f = k.front in
      let s0 = state_of xs ys next prev snapshot quads edges k in
      let s1 = state_of xs' ys' next' prev' snapshot quads edges (counted n' q k.edges f) in
      let s2 = state_of xs' ys' next' prev' snapshot quads edges' (counted n' q e' f) in
      let s3 = push_quad a b D C s2 in
      let p1 : s1 ≡ push_corner d (push_corner c s0) = ap (over_nodes s0) nodes-are ∙ sym (corners_local c d s0 s0) in
      let p2 : s2 ≡ add_edges a b D C s1 = ap (over_edges s1) edges_are ∙ sym (edges_local a b D C s1 s1) in
      let p4 : over_front s3 (front_in next'' prev'' n' f') ≡ move_front c d a b D C s3 =
      ap (over_front s3) front_is ∙ sym (move_local c d a b D C s3 s3) in
      let p5 : state_of xs' ys' next'' prev'' snapshot quads' edges' (counted n' (q + 1) e' f') ≡ over_front s3 (front_in next'' prev'' n' f') =
      ap (λ (l : List ℕ). state_of xs' ys' next'' prev'' snapshot l edges' (counted n' (q + 1) e' f')) quads-are in
      let p6 : move_front c d a b D C s3 ≡ move_front c d a b D C (push_quad a b D C (add_edges a b D C (push_corner d (push_corner c s0)))) =
      ap (λ (s : State). move_front c d a b D C (push_quad a b D C s)) (p2 ∙ ap (add_edges a b D C) p1) in
      rw (← e_c, ← e_d) (p5 ∙ (p4 ∙ p6))

-- ---- what is left of the whole, list by list

module _ (a b : ℕ) (c d : Corner) (s : State) where
  abbrev C : ℕ
  C = corner_id s.counts.nodes c

  abbrev D : ℕ
  D = corner_id (s.counts.nodes + added c) d

  -- with the new nodes, and then with edges and quad
  abbrev s1 : State
  s1 = push_corner d (push_corner c s)

  abbrev s3 : State
  s3 = push_quad a b D C (add_edges a b D C s1)

  abbrev moved : State
  moved = move_front c d a b D C s3

  -- the edges and the front leave the rest as it is
  edges_rest : add_edges a b D C s1 ≡ with_edges s1 (add_edges a b D C s1).edges (add_edges a b D C s1).counts.edges
  edges_rest = (quad_edged a b D C s1).rest

  front_rest : moved ≡ over_front s3 (move_front c d a b D C (over_front (bare_front s3) s3))
  front_rest = move_local c d a b D C s3 s3

  pub placed_nodes : (place a b c d s).counts.nodes ≡ s.counts.nodes + (added c + added d)
  unfolding place push_quad push_node
  placed_nodes =
      ap (λ (x : State). x.counts.nodes) front_rest ∙ (ap (λ (x : State). x.counts.nodes) edges_rest ∙ corners c d)
    where
      corners : (c d : Corner) → (push_corner d (push_corner c s)).counts.nodes ≡ s.counts.nodes + (added c + added d)
      corners (Reused u) (Reused v) = omega arith
      corners (Reused u) (Fresh x y) = omega arith
      corners (Fresh x y) (Reused v) = omega arith
      corners (Fresh x y) (Fresh z w) = omega arith

  pub placed_quads : (place a b c d s).quads ≡ store_quad s.counts.quads a b D C s.quads
  unfolding place push_quad push_node
  placed_quads =
      ap (λ (x : State). x.quads) front_rest ∙ (ap (λ (x : State). store_quad x.counts.quads a b D C x.quads) edges_rest ∙ corners c d D C)
    where
      corners : (c d : Corner) (D C : ℕ)
          → store_quad (push_corner d (push_corner c s)).counts.quads a b D C (push_corner d (push_corner c s)).quads
          ≡ store_quad s.counts.quads a b D C s.quads
      corners (Reused u) (Reused v) D C = refl
      corners (Reused u) (Fresh x y) D C = refl
      corners (Fresh x y) (Reused v) D C = refl
      corners (Fresh x y) (Fresh z w) D C = refl

  pub placed_xs : (place a b c d s).xs ≡ store_x d (s.counts.nodes + added c) (store_x c s.counts.nodes s.xs)
  unfolding place push_quad push_node
  placed_xs = ap (λ (x : State). x.xs) front_rest ∙ (ap (λ (x : State). x.xs) edges_rest ∙ corners c d)
    where
      corners : (c d : Corner) → (push_corner d (push_corner c s)).xs ≡ store_x d (s.counts.nodes + added c) (store_x c s.counts.nodes s.xs)
      corners (Reused u) (Reused v) = refl
      corners (Reused u) (Fresh x y) = ap (λ (n : ℕ). set s.xs n x) (omega arith)
      corners (Fresh x y) (Reused v) = refl
      corners (Fresh x y) (Fresh z w) = refl

  pub placed_ys : (place a b c d s).ys ≡ store_y d (s.counts.nodes + added c) (store_y c s.counts.nodes s.ys)
  unfolding place push_quad push_node
  placed_ys = ap (λ (x : State). x.ys) front_rest ∙ (ap (λ (x : State). x.ys) edges_rest ∙ corners c d)
    where
      corners : (c d : Corner) → (push_corner d (push_corner c s)).ys ≡ store_y d (s.counts.nodes + added c) (store_y c s.counts.nodes s.ys)
      corners (Reused u) (Reused v) = refl
      corners (Reused u) (Fresh x y) = ap (λ (n : ℕ). set s.ys n y) (omega arith)
      corners (Fresh x y) (Reused v) = refl
      corners (Fresh x y) (Fresh z w) = refl
