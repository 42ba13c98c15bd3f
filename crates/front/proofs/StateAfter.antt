-- The state that `place` leaves: the new nodes, the mesh edges, the quad in its place, and the front moved by topology's changes.
use Rattle.std.specs.Prelude.{ℕ, ◌+◌, ◌*◌, ◌≤◌, List, ◌≡◌, refl, length, set}
use Rattle.std.proofs.Common.{◌∙◌, ap, arith, length-set, get_or-set_same, get_or-set_other}
use Rattle.topology.specs.Sums.{All}
use Rattle.topology.proofs.Changes.{Change, stored, reversed, AmongNodes, within_reversed, stored_length, stored_past}
use Rattle.topology.proofs.PlacingBase.{After}
use Rattle.front.specs.declared.Corner.{Corner}
use Rattle.front.specs.State.{State, Quad, quad_at, with_front, push_quad}
use Rattle.front.specs.Place.{id_c, id_d, add_edges, move_front, place}
use Rattle.front.specs.Sound.{Extends, Frame}
use Rattle.front.proofs.FrameLaws.{extends_same, extends_set}
use Rattle.front.proofs.Pushed.{with_corners}
use Rattle.front.proofs.MeshEdges.{with_edges, Edged, quad_edged}
use Rattle.front.proofs.Moved.{changes_of, edges_after, changes_stored, move_is}

-- ---- the quad's place

abbrev four_sets : List ℕ → ℕ → ℕ → ℕ → ℕ → ℕ → List ℕ
four_sets l i a b d c = set (set (set (set l i a) (i + 1) b) (i + 2) d) (i + 3) c

quad_list_lem : (l : List ℕ) (k a b d c : ℕ) → Extends (4 * k) (4 * (k + 1)) l (four_sets l (4 * k) a b d c)
quad_list_lem l k a b d c =
    let i = 4 * k in
    let j = 4 * (k + 1) in
    extends_set i j l _ (i + 3) c (omega arith) (omega arith)
    (extends_set i j l _ (i + 2) d (omega arith) (omega arith)
    (extends_set i j l _ (i + 1) b (omega arith) (omega arith)
    (extends_set i j l l i a (omega arith) (omega arith) (extends_same i j l))))

-- what is read where the quad is stored
pub quad_reads : (t : State) (l : List ℕ) (k a b d c : ℕ) → 4 * (k + 1) ≤ length l → t.quads ≡ four_sets l (4 * k) a b d c
    → quad_at t k ≡ record { a = a; b = b; d = d; c = c }
unfolding quad_at
quad_reads t l k a b d c room e =
    let i = 4 * k in
    let l1 = set l i a in
    let l2 = set l1 (i + 1) b in
    let l3 = set l2 (i + 2) d in
    let at_a =
    get_or-set_other l3 (i + 3) i c 0 (omega arith)
    ∙ (get_or-set_other l2 (i + 2) i d 0 (omega arith)
    ∙ (get_or-set_other l1 (i + 1) i b 0 (omega arith) ∙ get_or-set_same l i a 0 (omega arith))) in
    let at_b =
    get_or-set_other l3 (i + 3) (i + 1) c 0 (omega arith)
    ∙ (get_or-set_other l2 (i + 2) (i + 1) d 0 (omega arith) ∙ get_or-set_same l1 (i + 1) b 0 (simp length-set (omega arith))) in
    let at_d = get_or-set_other l3 (i + 3) (i + 2) c 0 (omega arith) ∙ get_or-set_same l2 (i + 2) d 0 (simp length-set (omega arith)) in
    let at_c = get_or-set_same l3 (i + 3) c 0 (simp length-set (omega arith)) in
    rw (e, at_a, at_b, at_d, at_c)

-- ---- the state

-- u has the new nodes: its mesh edges become those of e, the quad is pushed, and the front moves by cs
abbrev pub state_after : State → State → Quad → List Change → State
state_after u e q cs =
    let t = push_quad q.a q.b q.d q.c (with_edges u e.edges e.counts.edges) in
    with_front t (stored set cs t.next) (stored set (reversed cs) t.prev) (edges_after cs t.counts.front)

pub state_frame : (u e : State) (q : Quad) (cs : List Change) → Edged u e → All (AmongNodes u.counts.nodes) cs → Frame u (state_after u e q cs)
unfolding push_quad
state_frame u e q cs E within =
    record {
      nodes = omega arith;
      quads = omega arith;
      edges = E.more;
      xs = extends_same _ _ _;
      ys = extends_same _ _ _;
      next = record { long = stored_length cs u.next; before = refl; past = stored_past _ cs u.next within };
      prev = record {
        long = stored_length (reversed cs) u.prev;
        before = refl;
        past = stored_past _ (reversed cs) u.prev (within_reversed _ cs within);
      };
      snapshot = extends_same _ _ _;
      quad_list = quad_list_lem u.quads u.counts.quads q.a q.b q.d q.c;
      edge_list = E.list;
    }

-- `place` is that state
pub place_is : (s : State) (a b : ℕ) (c d : Corner) (ls : List (List ℕ))
    → (L : After (with_corners c d s).counts.nodes (with_corners c d s).next (with_corners c d s).prev ls (changes_of s a b c d))
    → (with_corners c d s).counts.nodes ≤ length (with_corners c d s).next
    → place a b c d s
    ≡ state_after (with_corners c d s) (add_edges a b (id_d s c d) (id_c s c) (with_corners c d s))
    (record { a = a; b = b; d = id_d s c d; c = id_c s c }) (changes_of s a b c d)
unfolding place push_quad
place_is s a b c d ls L long =
    let C = id_c s c in
    let D = id_d s c d in
    let u = with_corners c d s in
    let e = add_edges a b D C u in
    let q = push_quad a b D C (with_edges u e.edges e.counts.edges) in
    ap (λ (x : State). move_front c d a b D C (push_quad a b D C x)) (quad_edged a b D C u).rest
    ∙ (move_is c d a b D C q ∙ changes_stored (changes_of s a b c d) q L.changes.within L.changes.steps long)
