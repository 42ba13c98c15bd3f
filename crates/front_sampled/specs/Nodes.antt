-- The nodes of a state as one list of points, and what pushing nodes does to a state.
use Rattle.std.specs.Prelude.{◌≡◌, refl, ℕ, ◌+◌, ◌*◌, ◌<◌, ◌≤◌, length, get_or, take}
use Rattle.std.proofs.Common.{sym, ◌∙◌, add-one, arith, length-append, get_or-set_same, get_or-set_other}
use Rattle.std.proofs.Math.Path.{ap₂}
use mathlib.Core.List.{List, [], ◌∷◌, ◌++◌, append_assoc, append-nil, map}
use Rattle.std.specs.Float.Ieee.{nan}
use Rattle.laws.specs.Tabulate.{tabulate, tabulate_suc, tabulate_length, tabulate_same, tabulate_at, tabulate_take, tabulate_map}
use Rattle.outline.specs.declared.Point.{Point}
use Rattle.outline.specs.Outline.{point}
use Rattle.topology.specs.Links.{off, link_of, link_more}
use Rattle.front.specs.State.{State, node_in, node, node_places, edge_places, push_node}
use Rattle.front.specs.Sound.{Frame}
use Rattle.front.proofs.FrameLaws.{frame_same, frame_trans, frame_push}

-- ---- the nodes

unfoldable pub nodes_of : State → List Point
nodes_of s = tabulate s.counts.nodes (node s)

pub nodes_length : (s : State) → length (nodes_of s) ≡ s.counts.nodes
unfolding nodes_of
nodes_length s = tabulate_length s.counts.nodes (node s)

pub nodes_at : (s : State) (id : ℕ) → id < s.counts.nodes → get_or (nodes_of s) id (point nan nan) ≡ node s id
unfolding nodes_of
nodes_at s id h = tabulate_at s.counts.nodes (node s) id (point nan nan) h

pub nodes_xs : (s : State) → s.counts.nodes ≤ length s.xs → take s.counts.nodes s.xs ≡ map (λ p. p.x) (nodes_of s)
unfolding nodes_of node_in
nodes_xs s h = sym (tabulate_map (λ p. p.x) s.counts.nodes (node s) ∙ tabulate_take s.counts.nodes s.xs nan h)

pub nodes_ys : (s : State) → s.counts.nodes ≤ length s.ys → take s.counts.nodes s.ys ≡ map (λ p. p.y) (nodes_of s)
unfolding nodes_of node_in
nodes_ys s h = sym (tabulate_map (λ p. p.y) s.counts.nodes (node s) ∙ tabulate_take s.counts.nodes s.ys nan h)

-- ---- room

-- n nodes and n edges have places in the lists of s
pub record Room (n : ℕ) (s : State) : Type 0 where
  pub xs : n ≤ length s.xs
  pub ys : n ≤ length s.ys
  pub next : n ≤ length s.next
  pub prev : n ≤ length s.prev
  pub few : n < off
  pub edges : 2 * n ≤ length s.edges

pub room_places : (n : ℕ) (s : State) → n ≤ node_places s → n ≤ edge_places s → Room n s
unfolding node_places edge_places
room_places n s p q = record { xs = omega arith; ys = omega arith; next = omega arith; prev = omega arith; few = omega arith; edges = omega arith }

pub room_kept : (n : ℕ) (s t : State) → Frame s t → Room n s → Room n t
room_kept n s t F R =
    record {
      xs = omega (arith, F.xs.long, R.xs);
      ys = omega (arith, F.ys.long, R.ys);
      next = omega (arith, F.next.long, R.next);
      prev = omega (arith, F.prev.long, R.prev);
      few = R.few;
      edges = omega (arith, F.edge_list.long, R.edges);
    }

-- ---- nodes pushed

-- t is s with the points ps pushed
pub record Pushed (s t : State) (ps : List Point) : Type 0 where
  pub frame : Frame s t
  pub nodes : nodes_of t ≡ nodes_of s ++ ps
  pub count : t.counts.nodes ≡ s.counts.nodes + length ps
  pub next : link_of t.counts.nodes t.next ≡ link_of s.counts.nodes s.next
  pub prev : link_of t.counts.nodes t.prev ≡ link_of s.counts.nodes s.prev
  pub snapshot : t.snapshot ≡ s.snapshot
  pub quads : t.quads ≡ s.quads
  pub edges : t.edges ≡ s.edges
  pub quad_count_of : t.counts.quads ≡ s.counts.quads
  pub edge_count : t.counts.edges ≡ s.counts.edges
  pub front_count : t.counts.front ≡ s.counts.front

pub push_none : (s : State) → Pushed s s []
push_none s =
    record {
      frame = frame_same s;
      nodes = sym (append-nil (nodes_of s));
      count = omega arith;
      next = refl;
      prev = refl;
      snapshot = refl;
      quads = refl;
      edges = refl;
      quad_count_of = refl;
      edge_count = refl;
      front_count = refl;
    }

module _ (p : Point) (s : State) where
  pub push_nodes : s.counts.nodes < length s.xs → s.counts.nodes < length s.ys → nodes_of (push_node p s) ≡ nodes_of s ++ p ∷ []
  unfolding push_node nodes_of node_in
  push_nodes hx hy =
      let n = s.counts.nodes in
      rw (add-one, tabulate_suc n (node (push_node p s)))
      (ap₂ (λ (l : List Point) (q : Point). l ++ q ∷ [])
      (tabulate_same n (node (push_node p s)) (node s)
      (λ i h. ap₂ point (get_or-set_other s.xs n i p.x nan (omega arith)) (get_or-set_other s.ys n i p.y nan (omega arith))))
      (ap₂ point (get_or-set_same s.xs n p.x nan hx) (get_or-set_same s.ys n p.y nan hy)))

  pub push_one : {n : ℕ} → Room n s → s.counts.nodes < n → Pushed s (push_node p s) (p ∷ [])
  unfolding push_node
  push_one R h =
      record {
        frame = frame_push p s;
        nodes = push_nodes (omega arith) (omega arith);
        count = refl;
        next = link_more s.counts.nodes s.next (omega arith);
        prev = link_more s.counts.nodes s.prev (omega arith);
        snapshot = refl;
        quads = refl;
        edges = refl;
        quad_count_of = refl;
        edge_count = refl;
        front_count = refl;
      }

pub push_more : {s t u : State} {ps qs : List Point} → Pushed s t ps → Pushed t u qs → Pushed s u (ps ++ qs)
push_more {s} {t} {u} {ps} {qs} a b =
    record {
      frame = frame_trans s t u a.frame b.frame;
      nodes = b.nodes ∙ rw (a.nodes, append_assoc);
      count = rw length-append (omega arith);
      next = b.next ∙ a.next;
      prev = b.prev ∙ a.prev;
      snapshot = b.snapshot ∙ a.snapshot;
      quads = b.quads ∙ a.quads;
      edges = b.edges ∙ a.edges;
      quad_count_of = b.quad_count_of ∙ a.quad_count_of;
      edge_count = b.edge_count ∙ a.edge_count;
      front_count = b.front_count ∙ a.front_count;
    }
