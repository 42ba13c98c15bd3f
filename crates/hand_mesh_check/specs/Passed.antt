-- What a mesh that 23 lets pass has, clause by clause: `mesh_passes`; and the places of its lists: `room`. Assumes nothing.
use Rattle.std.specs.Prelude.{Bool, true, false, not, ◌&&◌, ◌||◌, cond, List, ◌≡◌, refl, ◌≢◌, ℕ, ◌*◌, ◌<◌, ◌≤◌, leb, eqb, length, Float}
use Rattle.std.proofs.Common.{true≢false, subst, arith}
use Rattle.std.proofs.Math.Dec.{ltb}
use borrow.Author.Tests.{ltb-false, leb-false, eqb-true}
use Rattle.laws.specs.Loop.{any_up, any_none, sum_up, sum_turn, for_up_keeps}
use Rattle.laws.specs.Tests.{neither}
use Rattle.topology.specs.Links.{off, link_of}
use Rattle.front.specs.declared.Counts.{Counts}
use Rattle.front.specs.declared.Mesh.{Mesh}
use Rattle.front.specs.State.{State, node_places, quad_places, edge_places}
use Rattle.hand_mesh_check.specs.Check.{lent_state, beyond_places, counts_beyond, beyond_nodes, ids_beyond, link_unsound, is_linked, link_count, front_unsound}
use Rattle.hand_mesh_check.specs.Check.{node_unsound, mesh_unsound, mesh_refusal}
use Rattle.hand_mesh_check.specs.CheckLaws.{length_off}

-- ---- the places lent

-- n nodes have their places
pub record NodesRoom (xs ys : List Float) (next prev origins : List ℕ) (n : ℕ) : Type 0 where
  pub few : n ≤ 4294967294
  pub xs_fit : n ≤ length xs
  pub ys_fit : n ≤ length ys
  pub next_fit : n ≤ length next
  pub prev_fit : n ≤ length prev
  pub origins_fit : n ≤ length origins

-- and so have q quads and e edges
pub record MeshRoom (xs ys : List Float) (next prev origins quads edges : List ℕ) (n q e : ℕ) : Type 0 where
  pub nodes : NodesRoom xs ys next prev origins n
  pub quads_fit : 4 * q ≤ length quads
  pub edges_fit : 2 * e ≤ length edges

-- a mesh that is read has the places of what it counts
abbrev pub CountsFit : Mesh → List ℕ → Type 0
CountsFit m origins =
    MeshRoom m.xs.now m.ys.now m.next.now m.prev.now origins m.quads.now m.edges.now m.counts.nodes m.counts.quads m.counts.edges

module _ (xs ys : List Float) (next prev origins quads edges : List ℕ) (k : Counts) (n q e : ℕ) where
  pub room : beyond_places (lent_state xs ys next prev origins quads edges k) n q e ≡ false → MeshRoom xs ys next prev origins quads edges n q e
  unfolding beyond_places node_places quad_places edge_places
  room h =
      let s = lent_state xs ys next prev origins quads edges k in
      let outer : (ltb (node_places s) n ≡ false) × ((ltb (quad_places s) q || ltb (edge_places s) e) ≡ false) = neither _ _ h in
      let inner : (ltb (quad_places s) q ≡ false) × (ltb (edge_places s) e ≡ false) = neither _ _ outer.1 in
      let p : n ≤ node_places s = ltb-false _ _ outer.0 in
      let i : q ≤ quad_places s = ltb-false _ _ inner.0 in
      let j : e ≤ edge_places s = ltb-false _ _ inner.1 in
      let z = length_off origins in
      record {
        nodes =
            record {
              few = omega arith;
              xs_fit = omega arith;
              ys_fit = omega arith;
              next_fit = omega arith;
              prev_fit = omega arith;
              origins_fit = omega arith;
            };
        quads_fit = omega arith;
        edges_fit = omega arith;
      }

-- ---- the clauses

-- the ids counted are those of nodes, every link is answered by its link back, as many nodes have links as front edges are counted, and every
-- coordinate is within 1,001
pub record MeshPasses (s : State) : Type 0 where
  pub counts : counts_beyond s ≡ false
  pub quad_ids : (i : ℕ) → i < 4 * s.counts.quads → beyond_nodes s.counts.nodes s.quads i ≡ false
  pub edge_ids : (i : ℕ) → i < 2 * s.counts.edges → beyond_nodes s.counts.nodes s.edges i ≡ false
  pub nexts : (u : ℕ) → u < s.counts.nodes → link_unsound s.counts.nodes s.next s.prev u ≡ false
  pub prevs : (u : ℕ) → u < s.counts.nodes → link_unsound s.counts.nodes s.prev s.next u ≡ false
  pub links : link_count s.counts.nodes s.next ≡ s.counts.front
  pub coordinates : (i : ℕ) → i < s.counts.nodes → node_unsound s.xs s.ys i ≡ false

pub mesh_passes : (s : State) → mesh_refusal s ≡ 0 → MeshPasses s
unfolding mesh_refusal mesh_unsound ids_beyond front_unsound
mesh_passes s e =
    let n = s.counts.nodes in
    let quads : Bool = any_up (4 * s.counts.quads) (beyond_nodes n s.quads) in
    let edges : Bool = any_up (2 * s.counts.edges) (beyond_nodes n s.edges) in
    let far : Bool = any_up n (node_unsound s.xs s.ys) in
    let nexts : Bool = any_up n (link_unsound n s.next s.prev) in
    let prevs : Bool = any_up n (link_unsound n s.prev s.next) in
    let other : Bool = not (eqb (link_count n s.next) s.counts.front) in
    let front : Bool = nexts || (prevs || other) in
    let q1 = neither (counts_beyond s) ((quads || edges) || (front || far)) (sound (counts_beyond s || ((quads || edges) || (front || far))) e) in
    let q2 = neither (quads || edges) (front || far) q1.1 in
    let q3 = neither front far q2.1 in
    let q4 = neither nexts (prevs || other) q3.0 in
    let q5 = neither prevs other q4.1 in
    let q6 = neither quads edges q2.0 in
    record {
      counts = q1.0;
      quad_ids = any_none (beyond_nodes n s.quads) (4 * s.counts.quads) q6.0;
      edge_ids = any_none (beyond_nodes n s.edges) (2 * s.counts.edges) q6.1;
      nexts = any_none (link_unsound n s.next s.prev) n q4.0;
      prevs = any_none (link_unsound n s.prev s.next) n q5.0;
      links = same (link_count n s.next) s.counts.front q5.1;
      coordinates = any_none (node_unsound s.xs s.ys) n q3.1;
    }
  where
    sound : (b : Bool) → cond {A = ℕ} b 23 0 ≡ 0 → b ≡ false
    sound true e = absurd (omega arith)
    sound false e = refl

    same : (m f : ℕ) → not (eqb m f) ≡ false → m ≡ f
    same m f = by (eqb m f) refl
      where
        by : (t : Bool) → eqb m f ≡ t → not t ≡ false → m ≡ f
        by true e z = eqb-true m f e
        by false e z = absurd (true≢false z)

-- a link that is there is a node's
pub link_within : (n : ℕ) (links back : List ℕ) (u : ℕ) → link_unsound n links back u ≡ false → link_of n links u ≢ off → link_of n links u < n
unfolding link_unsound
link_within n links back u e ne = by (eqb (link_of n links u) off) refl e
  where
    by : (t : Bool) → eqb (link_of n links u) off ≡ t
        → not t && (leb n (link_of n links u) || not (eqb (link_of n back (link_of n links u)) u)) ≡ false → link_of n links u < n
    by true f e = absurd (ne (eqb-true _ _ f))
    by false f e = leb-false n (link_of n links u) (neither (leb n (link_of n links u)) _ e).0

-- at most as many nodes have links as there are
pub links_few : (n : ℕ) (links : List ℕ) → link_count n links ≤ n
unfolding link_count sum_up
links_few n links =
    for_up_keeps (λ i sum. sum ≤ i) n (sum_turn (is_linked n links)) 0 (omega arith) (λ i sum h p. omega (arith, p, one (eqb (link_of n links i) off)))
  where
    one : (b : Bool) → cond {A = ℕ} b 0 1 ≤ 1
    one true = omega arith
    one false = omega arith

-- so a mesh that passes has at most as many front edges as nodes
pub front_few : (s : State) → MeshPasses s → s.counts.front ≤ s.counts.nodes
front_few s P = subst (λ (f : ℕ). f ≤ s.counts.nodes) P.links (links_few s.counts.nodes s.next)
