-- The new nodes of a placing: pushed off the front, they leave the front, the quads and the mesh edges as they were.
use Rattle.std.specs.Prelude.{ℕ, ◌+◌, ◌<◌, ◌≤◌, List, ◌≡◌, refl}
use Rattle.std.proofs.Common.{◌∙◌, arith, get_or-set_same}
use Rattle.std.specs.Float.{nan}
use Rattle.outline.specs.Outline.{point}
use Rattle.topology.specs.Links.{link_of, link_more}
use Rattle.topology.specs.Front.{FrontOf}
use Rattle.topology.proofs.Changes.{grown}
use Rattle.front.specs.declared.Corner.{Corner}
use Rattle.front.specs.declared.Corner.TheVariants.{Reused, Fresh}
use Rattle.front.specs.State.{State, node_in, node, has_edge, push_node, node_places}
use Rattle.front.specs.Place.{added, corner_id, corner_point, id_c, id_d, push_corner}
use Rattle.front.specs.Sound.{Frame}
use Rattle.front.proofs.FrameLaws.{frame_same, frame_trans, frame_node_places, frame_node, frame_push}

-- t is s with k nodes more, which are off the front
pub record NodesAdded (ls : List (List ℕ)) (k : ℕ) (s t : State) : Type 0 where
  pub frame : Frame s t
  pub nodes : t.counts.nodes ≡ s.counts.nodes + k
  pub quads : t.counts.quads ≡ s.counts.quads
  pub edges : t.counts.edges ≡ s.counts.edges
  pub fronts : t.counts.front ≡ s.counts.front
  pub has : (u v : ℕ) → has_edge t u v ≡ has_edge s u v
  pub next : link_of t.counts.nodes t.next ≡ link_of s.counts.nodes s.next
  pub prev : link_of t.counts.nodes t.prev ≡ link_of s.counts.nodes s.prev
  pub front : FrontOf t.counts.nodes t.next t.prev ls

-- ---- one corner

pushed : (ls : List (List ℕ)) (c : Corner) (s : State) → FrontOf s.counts.nodes s.next s.prev ls
    → s.counts.nodes + added c ≤ node_places s → NodesAdded ls (added c) s (push_corner c s)
unfolding push_node node_places has_edge
pushed ls (Reused id) s F room =
    record {
      frame = frame_same s;
      nodes = omega arith;
      quads = refl;
      edges = refl;
      fronts = refl;
      has = λ u v. refl;
      next = refl;
      prev = refl;
      front = F;
    }
pushed ls (Fresh x y) s F room =
    let n = s.counts.nodes in
    record {
      frame = frame_push (point x y) s;
      nodes = refl;
      quads = refl;
      edges = refl;
      fronts = refl;
      has = λ u v. refl;
      next = link_more n s.next (omega arith);
      prev = link_more n s.prev (omega arith);
      front = grown n s.next s.prev ls F (omega arith) (omega arith) (omega arith);
    }

pushed_trans : (ls : List (List ℕ)) (j k : ℕ) (s t r : State) → NodesAdded ls j s t → NodesAdded ls k t r → NodesAdded ls (j + k) s r
pushed_trans ls j k s t r P Q =
    record {
      frame = frame_trans s t r P.frame Q.frame;
      nodes = omega (arith, P.nodes, Q.nodes);
      quads = Q.quads ∙ P.quads;
      edges = Q.edges ∙ P.edges;
      fronts = Q.fronts ∙ P.fronts;
      has = λ u v. Q.has u v ∙ P.has u v;
      next = Q.next ∙ P.next;
      prev = Q.prev ∙ P.prev;
      front = Q.front;
    }

-- the corner's node is where the corner is
pushed_point : (c : Corner) (s : State) → s.counts.nodes + added c ≤ node_places s
    → node (push_corner c s) (corner_id s.counts.nodes c) ≡ corner_point s c
unfolding push_node node_places node_in
pushed_point (Reused id) s room = refl
pushed_point (Fresh x y) s room =
    let n = s.counts.nodes in
    rw (get_or-set_same s.xs n x nan (omega arith), get_or-set_same s.ys n y nan (omega arith))

-- ---- both corners

-- a reused corner is a node
abbrev pub IsNode : ℕ → Corner → Type 0
IsNode n (Reused id) = id < n
IsNode n (Fresh x y) = Unit {0}

id_below : (n : ℕ) (c : Corner) → IsNode n c → corner_id n c < n + added c
id_below n (Reused id) h = omega arith
id_below n (Fresh x y) h = omega arith

point_kept : (s t : State) → Frame s t → (c : Corner) → IsNode s.counts.nodes c → corner_point t c ≡ corner_point s c
point_kept s t F (Reused id) h = frame_node s t F id h
point_kept s t F (Fresh x y) h = refl

node_more : (n k : ℕ) (d : Corner) → IsNode n d → IsNode (n + k) d
node_more n k (Reused id) h = omega arith
node_more n k (Fresh x y) h = tt

-- the state with the new nodes, before anything else of the placing
abbrev pub with_corners : Corner → Corner → State → State
with_corners c d s = push_corner d (push_corner c s)

pub record Cornered (ls : List (List ℕ)) (c d : Corner) (s t : State) : Type 0 where
  pub pushed : NodesAdded ls (added c + added d) s t
  pub id_c_lem : id_c s c < t.counts.nodes
  pub id_d_lem : id_d s c d < t.counts.nodes
  pub at_c : node t (id_c s c) ≡ corner_point s c
  pub at_d : node t (id_d s c d) ≡ corner_point s d

pub cornered : (ls : List (List ℕ)) (c d : Corner) (s : State) → FrontOf s.counts.nodes s.next s.prev ls
    → s.counts.nodes + added c + added d ≤ node_places s → IsNode s.counts.nodes c → IsNode s.counts.nodes d
    → Cornered ls c d s (with_corners c d s)
cornered ls c d s F room hc hd =
    let n = s.counts.nodes in
    let s1 = push_corner c s in
    let t = push_corner d s1 in
    let P = pushed ls c s F (omega arith) in
    let room1 : s1.counts.nodes + added d ≤ node_places s1 = rw (P.nodes, frame_node_places s s1 P.frame) room in
    let Q = pushed ls d s1 P.front room1 in
    let id_c_lem : id_c s c < s1.counts.nodes = rw P.nodes (id_below n c hc) in
    let at_d : node t (id_d s c d) ≡ corner_point s1 d = rw (← P.nodes) (pushed_point d s1 room1) in
    record {
      pushed = pushed_trans ls (added c) (added d) s s1 t P Q;
      id_c_lem = omega (arith, Q.nodes);
      id_d_lem = omega (arith, Q.nodes, P.nodes, id_below (n + added c) d (node_more n (added c) d hd));
      at_c = frame_node s1 t Q.frame (id_c s c) id_c_lem ∙ pushed_point c s (omega arith);
      at_d = at_d ∙ point_kept s s1 P.frame d hd;
    }
