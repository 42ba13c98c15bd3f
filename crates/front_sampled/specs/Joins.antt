-- Two nodes are joined, and then all of a path: the links are those of the edges added, and each is a new edge of the mesh.
use Rattle.std.specs.Prelude.{◌≡◌, refl, Bool, true, ◌≢◌, List, [], ◌∷◌, ℕ, ◌+◌, ◌<◌, ◌≤◌, min, max, eqb, length, set}
use Rattle.std.proofs.Common.{sym, ◌∙◌, ap, arith}
use Rattle.std.proofs.Math.Path.{subst}
use Rattle.std.proofs.Math.Bool.{false}
use borrow.Author.Tests.{eqb-true, eq-eqb}
use Rattle.topology.specs.Sums.{All}
use Rattle.topology.specs.Links.{off, update, link_set}
use Rattle.topology.proofs.Changes.{Change, add, stored, reversed, Valid, AmongNodes}
use Rattle.topology.proofs.Laying.{joins}
use Rattle.front.specs.State.{State, next_of, has_edge, with_front, add_front, push_edge, add_edge}
use Rattle.front.specs.Sound.{Frame}
use Rattle.front.proofs.FrameLaws.{frame_trans, frame_link, frame_edge}
use Rattle.front.specs.Ready.{Known}
use Rattle.front.proofs.MeshEdges.{edge_pushed, edge_other}
use Rattle.front.proofs.KnownLaws.{known_joined}
use Rattle.front_sampled.specs.Nodes.{Room, room_kept}
use Rattle.front_sampled.specs.OneWay.{OneWay}

-- ---- definitions

-- u is joined to v
abbrev pub join : State → ℕ → ℕ → State
join s u v = add_edge u v (add_front u v s)

-- only linked nodes have an edge
unfoldable pub OnlyLinked : State → Type 0
OnlyLinked s = (a b : ℕ) → a < off → b < off → next_of s a ≢ b → next_of s b ≢ a → has_edge s a b ≡ false

-- t is s after the edges cs were added
pub record EdgesAdded (s t : State) (cs : List Change) : Type 0 where
  pub frame : Frame s t
  pub xs : t.xs ≡ s.xs
  pub ys : t.ys ≡ s.ys
  pub next : t.next ≡ stored set cs s.next
  pub prev : t.prev ≡ stored set (reversed cs) s.prev
  pub snapshot : t.snapshot ≡ s.snapshot
  pub quads : t.quads ≡ s.quads
  pub node_count_of : t.counts.nodes ≡ s.counts.nodes
  pub quad_count_of : t.counts.quads ≡ s.counts.quads
  pub edge_count : t.counts.edges ≡ s.counts.edges + length cs
  pub front_count : t.counts.front ≡ s.counts.front + length cs
  pub linked : OnlyLinked t
  pub known : Known t

-- what joining asks of a state
pub record Joinable (n : ℕ) (s : State) (cs : List Change) : Type 0 where
  pub room : Room n s
  pub few : s.counts.nodes ≤ n
  pub edges : s.counts.edges + length cs ≤ n
  pub within : All (AmongNodes s.counts.nodes) cs
  pub valid : Valid (next_of s) cs
  pub one_way : OneWay (next_of s) cs
  pub linked : OnlyLinked s
  pub known : Known s

-- ---- one edge

-- s with v after u, and the edge of u and v
abbrev pub with_link : ℕ → ℕ → State → State
with_link u v s = push_edge (min u v) (max u v) (with_front s (set s.next u v) (set s.prev v u) (s.counts.front + 1))

edge_front : (s : State) (next prev : List ℕ) (front u v : ℕ) → has_edge (with_front s next prev front) u v ≡ has_edge s u v
unfolding has_edge
edge_front s next prev front u v = refl

module _ {n : ℕ} (s : State) (u v : ℕ) (J : Joinable n s (add u v ∷ [])) where
  pub join_is : join s u v ≡ with_link u v s
  unfolding add_edge add_front OnlyLinked
  join_is =
      let w = J.within.0 in
      let R = J.room in
      let none : has_edge s u v ≡ false = J.linked u v (omega arith) (omega arith) (λ e. omega (arith, J.valid.0, e)) J.one_way.0.0 in
      rw (J.valid.0, edge_front s (set s.next u v) (set s.prev v u) (s.counts.front + 1) u v, none)

  next_is : next_of (with_link u v s) ≡ update (next_of s) u v
  unfolding push_edge
  next_is = link_set s.counts.nodes s.next u v J.within.0.0 (omega (arith, J.room.next, J.few))

  linked_is : OnlyLinked (with_link u v s)
  unfolding OnlyLinked
  linked_is a b ha hb na nb =
      edge_pushed (with_front s (set s.next u v) (set s.prev v u) (s.counts.front + 1)) (min u v) (max u v) a b
      (omega (arith, J.room.edges, J.edges))
      ∙ rw (
        edge_front s (set s.next u v) (set s.prev v u) (s.counts.front + 1) a b,
        J.linked a b ha hb (away a b hb na) (away b a ha nb),
        edge_other a b u v (λ p q. na (here a b p q)) (λ p q. nb (here b a p q)),
      )
    where
      here : (a b : ℕ) → a ≡ u → b ≡ v → next_of (with_link u v s) a ≡ b
      here a b p q = rw (next_is, p, q, eq-eqb u u refl)

      away : (a b : ℕ) → b < off → next_of (with_link u v s) a ≢ b → next_of s a ≢ b
      away a b hb na e = by (eqb u a) refl
        where
          by : (t : Bool) → eqb u a ≡ t → ⊥
          by true q = omega (arith, J.valid.0, e, ap (next_of s) (eqb-true u a q))
          by false q = na (rw (next_is, q) e)

  link_frame : Frame s (with_link u v s)
  link_frame =
      let t = with_front s (set s.next u v) (set s.prev v u) (s.counts.front + 1) in
      frame_trans s t (with_link u v s) (frame_link u v (s.counts.front + 1) s J.within.0.0 J.within.0.1)
      (frame_edge (min u v) (max u v) t)

  known_is : Known (with_link u v s)
  unfolding push_edge
  known_is =
      let w = J.within.0 in
      let R = J.room in
      subst Known join_is
      (known_joined u v s w.0 w.1 (λ e. J.one_way.0.1 (sym e)) (omega (arith, R.next, J.few))
      (rw join_is (omega (arith, R.edges, J.edges))) J.known)

  pub join_one : EdgesAdded s (join s u v) (add u v ∷ [])
  unfolding push_edge
  join_one =
      rw join_is (record {
        frame = link_frame;
        xs = refl;
        ys = refl;
        next = refl;
        prev = refl;
        snapshot = refl;
        quads = refl;
        node_count_of = refl;
        quad_count_of = refl;
        edge_count = refl;
        front_count = refl;
        linked = linked_is;
        known = known_is;
      })

  pub next_joined : next_of (join s u v) ≡ update (next_of s) u v
  next_joined = ap next_of join_is ∙ next_is

-- ---- a path

join_more : {s t r : State} {u v : ℕ} {cs : List Change} → EdgesAdded s t (add u v ∷ []) → EdgesAdded t r cs → EdgesAdded s r (add u v ∷ cs)
join_more {s} {t} {r} {u} {v} {cs} A B =
    record {
      frame = frame_trans s t r A.frame B.frame;
      xs = B.xs ∙ A.xs;
      ys = B.ys ∙ A.ys;
      next = B.next ∙ ap (stored set cs) A.next;
      prev = B.prev ∙ ap (stored set (reversed cs)) A.prev;
      snapshot = B.snapshot ∙ A.snapshot;
      quads = B.quads ∙ A.quads;
      node_count_of = B.node_count_of ∙ A.node_count_of;
      quad_count_of = B.quad_count_of ∙ A.quad_count_of;
      edge_count = omega (arith, A.edge_count, B.edge_count);
      front_count = omega (arith, A.front_count, B.front_count);
      linked = B.linked;
      known = B.known;
    }

-- the edges of a path are added one by one
pub join_path : {n : ℕ} (u : ℕ) (vs : List ℕ) (z : ℕ) (s : State) → Joinable n s (joins u vs z)
    → EdgesAdded s (stored join (joins u vs z) s) (joins u vs z)
join_path u [] z s J = join_one s u z J
join_path {n} u (v ∷ vs) z s J =
    let first : Joinable n s (add u v ∷ []) =
    record {
      room = J.room;
      few = J.few;
      edges = omega (arith, J.edges);
      within = (J.within.0, tt);
      valid = (J.valid.0, tt);
      one_way = (J.one_way.0, tt);
      linked = J.linked;
      known = J.known;
    } in
    let t = join s u v in
    let A = join_one s u v first in
    let rest : Joinable n t (joins v vs z) =
    record {
      room = room_kept n s t A.frame J.room;
      few = omega (arith, A.node_count_of, J.few);
      edges = omega (arith, A.edge_count, J.edges);
      within = rw A.node_count_of J.within.1;
      valid = rw (next_joined s u v first) J.valid.1;
      one_way = rw (next_joined s u v first) J.one_way.1;
      linked = A.linked;
      known = A.known;
    } in
    join_more A (join_path v vs z t rest)
