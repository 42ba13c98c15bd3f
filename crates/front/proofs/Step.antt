-- One placing: a sound state stays sound. The statement is `Stepped`; the theorem, `step`, stands at the end.
use Rattle.std.specs.Prelude.{ℕ, ◌+◌, ◌*◌, ◌<◌, ◌≤◌, List, [], ◌∷◌, ◌≡◌, refl, false, ℤ, ◌+ℤ◌}
use Rattle.std.proofs.Common.{sym, ◌∙◌, subst, arith}
use Rattle.std.proofs.Math.Path.{ap}
use Rattle.std.proofs.Math.ListN.{length}
use Rattle.topology.specs.Sums.{All, Even, total, front_sum, one, loop_one}
use Rattle.topology.specs.Links.{at}
use Rattle.topology.proofs.Changes.{removed_sum, added_sum}
use Rattle.topology.proofs.PlacingBase.{Kind, reused, fresh, placing, After, placed_edges}
use Rattle.topology.proofs.Placing.{placed}
use Rattle.topology.specs.Balance.{front_sumℤ, quad_sumℤ, Antisymmetric}
use Rattle.topology.proofs.Balance.{balance}
use Rattle.front.specs.declared.Corner.{Corner}
use Rattle.front.specs.State.{State, Quad, quad_at, node, node_places, quad_places, edge_places, push_quad}
use Rattle.front.specs.Place.{corner_point, id_c, id_d, add_edges, edges_added, is_full, place}
use Rattle.front.specs.Place as front
use Rattle.front.specs.Sound.{Sound, Frame}
use Rattle.front.proofs.FrameLaws.{frame_trans, frame_node_places, frame_quad_places, frame_edge_places}
use Rattle.front.specs.Ready.{Choice, Fits, room_fits}
use Rattle.front.proofs.Pushed.{Cornered, cornered, with_corners}
use Rattle.front.proofs.MeshEdges.{quad_edged, edges_few}
use Rattle.front.proofs.Moved.{kind_of, changes_of, edges_after, edges_after_lem}
use Rattle.front.proofs.StateAfter.{state_after, state_frame, quad_reads, place_is}
use Rattle.front.proofs.Sides.{new_added, Sides, sides, placeable}

-- ---- the statement

-- t is what placing the quad a, b, d, c leaves of s, whose front has the loops ls
pub record Stepped (n : ℕ) (s : State) (ls : List (List ℕ)) (a b : ℕ) (c d : Corner) (t : State) : Type 0 where
  -- the loops after, as many as before
  pub loops : List (List ℕ)
  pub sound : Sound n t loops
  pub number : length loops ≡ length ls
  -- nothing that was there changes
  pub frame : Frame s t
  pub nodes : t.counts.nodes ≡ s.counts.nodes + front.added c + front.added d
  pub quads : t.counts.quads ≡ s.counts.quads + 1
  -- the quad placed, and its nodes
  pub quad : quad_at t s.counts.quads ≡ record { a = a; b = b; d = id_d s c d; c = id_c s c }
  pub node_a : a < s.counts.nodes
  pub node_b : b < s.counts.nodes
  pub node_c : id_c s c < t.counts.nodes
  pub node_d : id_d s c d < t.counts.nodes
  pub at_c : node t (id_c s c) ≡ corner_point s c
  pub at_d : node t (id_d s c d) ≡ corner_point s d
  -- whatever is summed over the edges: the front after and what came off are the front before and what went on
  pub sums : (w : ℕ → ℕ → ℕ)
      → front_sum w loops + removed_sum w (changes_of s a b c d) ≡ front_sum w ls + added_sum w (changes_of s a b c d)
  -- a weight that changes its sign with the direction: the front before is the quad and the front after
  pub balance : (w : ℕ → ℕ → ℤ) → Antisymmetric w
      → front_sumℤ w ls ≡ quad_sumℤ w a b (id_d s c d) (id_c s c) +ℤ front_sumℤ w loops

-- ---- the front's edges

-- loops that are there have two edges
two_edges : (ls : List (List ℕ)) → All Even ls → 0 < length ls → 2 ≤ front_sum one ls
unfolding total
two_edges [] e h = absurd (omega arith)
two_edges (l ∷ ls) e h = omega (arith, loop_one l, e.0.two)

has_loop : (w : ℕ → ℕ → ℕ) (ls : List (List ℕ)) → 0 < front_sum w ls → 0 < length ls
unfolding total
has_loop w [] h = h
has_loop w (l ∷ ls) h = omega arith

-- no more edges come off than there are
few_removed : (kc kd : Kind) (a b c d before after : ℕ) → 2 ≤ before → 2 ≤ after
    → after + removed_sum one (placing kc kd a b c d) ≡ before + added_sum one (placing kc kd a b c d)
    → removed_sum one (placing kc kd a b c d) ≤ before
few_removed reused reused a b c d before after h k e = omega arith
few_removed reused fresh a b c d before after h k e = omega arith
few_removed fresh reused a b c d before after h k e = omega arith
few_removed fresh fresh a b c d before after h k e = omega arith

-- ---- what a placing rests on

-- the quad a, b, d, c of s: its sides, the new nodes, topology's placing in the state with them, the state that `place` leaves, and that neither
-- the front's edges nor the places for mesh edges run out
pub record Grounds (s : State) (ls : List (List ℕ)) (a b : ℕ) (c d : Corner) : Type 0 where
  pub fits : Fits s a b c d
  pub sides : Sides s ls a b c d
  pub cornered : Cornered ls c d s (with_corners c d s)
  pub after : After (with_corners c d s).counts.nodes (with_corners c d s).next (with_corners c d s).prev ls (changes_of s a b c d)
  pub is : place a b c d s
      ≡ state_after (with_corners c d s) (add_edges a b (id_d s c d) (id_c s c) (with_corners c d s))
      (record { a = a; b = b; d = id_d s c d; c = id_c s c }) (changes_of s a b c d)
  pub few_off : removed_sum one (changes_of s a b c d) ≤ s.counts.front
  pub few_edges : (add_edges a b (id_d s c d) (id_c s c) (with_corners c d s)).counts.edges ≤ edge_places s

pub grounds : (n : ℕ) (s : State) (ls : List (List ℕ)) (a b : ℕ) (c d : Corner) → Sound n s ls → Choice s a b c d → is_full s a b c d ≡ false
    → Grounds s ls a b c d
unfolding node_places edges_added
grounds n s ls a b c d S H full =
    let A = room_fits s a b c d full in
    let X = sides n s ls S a b c d H in
    let C = id_c s c in
    let D = id_d s c d in
    let u = with_corners c d s in
    let G = cornered ls c d s S.front A.nodes_fit X.node_c X.node_d in
    let R = G.pushed in
    let long_next : u.counts.nodes ≤ length u.next = omega (arith, A.nodes_fit, R.nodes, R.frame.next.long) in
    let long_prev : u.counts.nodes ≤ length u.prev = omega (arith, A.nodes_fit, R.nodes, R.frame.prev.long) in
    let L = placed (kind_of c) (kind_of d) u.counts.nodes u.next u.prev ls a b C D R.front long_next long_prev
    (placeable ls a b c d s u H G) in
    let loops = has_loop (at a b) ls X.side_ab in
    let before = two_edges ls S.front.loops.evens loops in
    let later = two_edges L.loops L.changes.front.loops.evens (omega (arith, L.count)) in
    let same : edges_added u a b D C ≡ edges_added s a b D C = rw (R.has a b, R.has b D, R.has D C, R.has C a) in
    record {
      fits = A;
      sides = X;
      cornered = G;
      after = L;
      is = place_is s a b c d ls L long_next;
      few_off = rw S.edges
          (few_removed (kind_of c) (kind_of d) a b C D (front_sum one ls) (front_sum one L.loops) before later (L.changes.sums one));
      few_edges = omega (arith, edges_few a b D C u, same, R.edges, A.edges_fit);
    }

-- ---- the theorem

module _ (n : ℕ) (s : State) (ls : List (List ℕ)) (a b : ℕ) (c d : Corner) (S : Sound n s ls) (H : Grounds s ls a b c d) where
  abbrev u : State
  u = with_corners c d s

  abbrev quad : Quad
  quad = record { a = a; b = b; d = id_d s c d; c = id_c s c }

  abbrev left : State
  left = state_after u (add_edges a b (id_d s c d) (id_c s c) u) quad (changes_of s a b c d)

  frame : Frame s left
  frame =
      frame_trans s u left H.cornered.pushed.frame
      (state_frame u _ quad (changes_of s a b c d) (quad_edged a b (id_d s c d) (id_c s c) u) H.after.changes.within)

  sound : Sound n left H.after.loops
  unfolding push_quad
  sound =
      let A = H.fits in
      let L = H.after in
      let P = H.cornered.pushed in
      let cs = changes_of s a b c d in
      let count = edges_after_lem cs s.counts.front H.few_off in
      let edges : edges_after cs u.counts.front ≡ front_sum one L.loops =
      rw P.fronts (omega (arith, count, L.changes.sums one, S.edges)) in
      let two =
      placed_edges (kind_of c) (kind_of d) u.counts.nodes a b (id_c s c) (id_d s c d) u.next u.prev ls L.loops L.changes in
      record {
        front = L.changes.front;
        edges = edges;
        counts = omega (arith, edges, two, S.edges, S.counts, P.nodes, P.quads, new_added c, new_added d);
        nodes_fit = rw (frame_node_places s left frame, P.nodes) (omega (arith, A.nodes_fit));
        quads_fit = rw (frame_quad_places s left frame, P.quads) A.quads_fit;
        edges_fit = rw (frame_edge_places s left frame) H.few_edges;
      }

  stepped : Stepped n s ls a b c d left
  unfolding push_quad quad_places
  stepped =
      let X = H.sides in
      let G = H.cornered in
      let L = H.after in
      let P = G.pushed in
      let room : 4 * (u.counts.quads + 1) ≤ length u.quads = omega (arith, H.fits.quads_fit, P.quads, P.frame.quad_list.long) in
      record {
        loops = L.loops;
        sound = sound;
        number = L.count;
        frame = frame;
        nodes = omega (arith, P.nodes);
        quads = omega (arith, P.quads);
        quad = ap (λ (k : ℕ). quad_at left k) (sym P.quads)
            ∙ quad_reads left u.quads u.counts.quads a b (id_d s c d) (id_c s c) room refl;
        node_a = X.node_a;
        node_b = X.node_b;
        node_c = G.id_c_lem;
        node_d = G.id_d_lem;
        at_c = G.at_c;
        at_d = G.at_d;
        sums = L.changes.sums;
        balance = λ w anti.
            balance w anti (kind_of c) (kind_of d) u.counts.nodes a b (id_c s c) (id_d s c d) u.next u.prev ls L.loops L.changes;
      }

-- the placing of a quad that fits, on a sound state
pub step : (n : ℕ) (s : State) (ls : List (List ℕ)) (a b : ℕ) (c d : Corner) → Sound n s ls
    → Choice s a b c d → is_full s a b c d ≡ false → Stepped n s ls a b c d (place a b c d s)
step n s ls a b c d S H full =
    let K = grounds n s ls a b c d S H full in
    subst (λ (t : State). Stepped n s ls a b c d t) (sym K.is) (stepped n s ls a b c d S K)
