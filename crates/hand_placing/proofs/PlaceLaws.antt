-- What the parts of a placing ask of each other, and when a quad is full. Assumes nothing.
use Rattle.std.specs.Prelude.{Bool, false, List, ◌≡◌, ℕ, ◌+◌, ◌*◌, ◌≤◌, length, Float}
use Rattle.std.proofs.Math.Path.{refl}
use Rattle.std.proofs.Common.{sym, ap, ◌∙◌, add_assoc, arith}
use Rattle.front.specs.declared.Counts.{Counts}
use Rattle.front.specs.declared.Corner.{Corner}
use Rattle.front.specs.State.{State, edge_in, has_edge, add_edge}
use Rattle.front.proofs.MeshEdges.{edged, edges_few, added_count}
use Rattle.front.specs.Place.{added, corner_id, id_c, id_d, add_edges, edges_added, is_full}
use Rattle.front.specs.Stores.{unless, Ids}
use Rattle.hand_mesh_check.specs.Check.{lent_state, beyond_places}
use Rattle.hand_mesh_check.specs.Passed.{room}
use Rattle.hand_mesh_changes.specs.Parts.{edges_in}
use Rattle.hand_placing.specs.Room.{QuadRoom}

-- the node of corner d, which comes after c's
pub second_id_lem : (n : ℕ) (c d : Corner) {x y : ℕ} → x ≡ added c → y ≡ corner_id (n + x) d → y ≡ corner_id (n + added c) d
second_id_lem n c d e f = f ∙ ap (λ (m : ℕ). corner_id (n + m) d) e

-- ---- the edges fit, one after the other

-- an edge fits where it fits after it was added
edge_fits : (edges : List ℕ) (n u v most : ℕ) → 2 * (add_edge u v (edges_in edges n)).counts.edges ≤ most
    → 2 * (n + unless (edge_in edges n u v)) ≤ most
unfolding has_edge
edge_fits edges n u v most h = omega (arith, added_count u v (edges_in edges n))

pub first_edge_fits : (edges : List ℕ) (n u v w : ℕ) → 2 * (add_edge v w (add_edge u v (edges_in edges n))).counts.edges ≤ length edges
    → 2 * (n + unless (edge_in edges n u v)) ≤ length edges
first_edge_fits edges n u v w h =
    edge_fits edges n u v (length edges) (omega (arith, (edged v w (add_edge u v (edges_in edges n))).more))

pub second_edge_fits : (edges after : List ℕ) (n m u v w : ℕ) → edges_in after m ≡ add_edge u v (edges_in edges n) → length edges ≤ length after
    → 2 * (add_edge v w (add_edge u v (edges_in edges n))).counts.edges ≤ length edges
    → 2 * (m + unless (edge_in after m v w)) ≤ length after
second_edge_fits edges after n m u v w e long h =
    edge_fits after m v w (length after) (rw e (omega arith))

pub first_pair : (edges : List ℕ) (n a b d c : ℕ) → 2 * (add_edges a b d c (edges_in edges n)).counts.edges ≤ length edges
    → 2 * (add_edge b d (add_edge a b (edges_in edges n))).counts.edges ≤ length edges
unfolding add_edges
first_pair edges n a b d c h =
    let s2 = add_edge b d (add_edge a b (edges_in edges n)) in
    omega (arith, (edged d c s2).more, (edged c a (add_edge d c s2)).more)

pub second_pair : (edges after : List ℕ) (n m a b d c : ℕ) → edges_in after m ≡ add_edge b d (add_edge a b (edges_in edges n))
    → length edges ≤ length after → 2 * (add_edges a b d c (edges_in edges n)).counts.edges ≤ length edges
    → 2 * (add_edge c a (add_edge d c (edges_in after m))).counts.edges ≤ length after
unfolding add_edges
second_pair edges after n m a b d c e long h = rw e (omega arith)

-- ---- full

-- edges are missing of a state as of its edges alone
added_seen : (s : State) (a b d c : ℕ) → edges_added (edges_in s.edges s.counts.edges) a b d c ≡ edges_added s a b d c
unfolding edges_added has_edge
added_seen s a b d c = refl

pub full_is : (s : State) (a b : ℕ) (c d : Corner) {r : Bool} {C D x y e : ℕ} → C ≡ id_c s c → D ≡ id_d s c d → x ≡ added c → y ≡ added d
    → e ≡ edges_added (edges_in s.edges s.counts.edges) a b D C
    → r ≡ beyond_places s (s.counts.nodes + x + y) (s.counts.quads + 1) (s.counts.edges + e) → r ≡ is_full s a b c d
unfolding is_full beyond_places
full_is s a b c d p q u v w h = h ∙ rw (u, v, w, p, q, added_seen s a b (id_d s c d) (id_c s c))

-- ---- where it isn't full, the quad fits

module _ (xs ys : List Float) (next prev origins quads edges : List ℕ) (k : Counts) (a b : ℕ) (c d : Corner) where
  abbrev s : State
  s = lent_state xs ys next prev origins quads edges k

  beyond_full : is_full s a b c d
      ≡ beyond_places s (k.nodes + added c + added d) (k.quads + 1) (k.edges + edges_added s a b (id_d s c d) (id_c s c))
  unfolding is_full beyond_places
  beyond_full = refl

  pub quad_room : is_full s a b c d ≡ false → Ids (k.nodes + (added c + added d)) a b (id_c s c) (id_d s c d) → k.front ≤ 4294967294
      → QuadRoom xs ys next prev quads edges k a b c d
  quad_room full ids front =
      let R = room xs ys next prev origins quads edges k _ _ _ (sym beyond_full ∙ full) in
      let N = R.nodes in
      let sum = add_assoc k.nodes (added c) (added d) in
      let few = edges_few a b (id_d s c d) (id_c s c) (edges_in edges k.edges) in
      record {
        nodes =
            record {
              few = rw (← sum) N.few;
              xs_fit = rw (← sum) N.xs_fit;
              ys_fit = rw (← sum) N.ys_fit;
              next_fit = rw (← sum) N.next_fit;
              prev_fit = rw (← sum) N.prev_fit;
            };
        quads_fit = R.quads_fit;
        edges_fit = omega (arith, R.edges_fit, few, added_seen s a b (id_d s c d) (id_c s c));
        ids = ids;
        front = front;
      }
