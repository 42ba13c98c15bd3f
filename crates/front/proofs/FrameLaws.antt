-- Laws of `Extends` and `Frame`: they hold of what is not changed and of each elementary change, follow each other, and keep what was there and how
-- much was lent.
use Rattle.std.specs.Prelude.{ℕ, ◌+◌, ◌-◌, ◌*◌, ◌<◌, ◌≤◌, List, ◌≡◌, refl, get_or, set, take, drop}
use Rattle.std.proofs.Common.{sym, ◌∙◌, ap, arith, length-set, drop-set-lt, take-take, drop-drop, get_or-take}
use Rattle.std.proofs.lemmas.List.{take-set-le}
use Rattle.std.specs.Float.{nan}
use Rattle.outline.specs.declared.Point.{Point}
use Rattle.topology.specs.Links.{off}
use Rattle.front.specs.State.{State, node_in, node, node_places, quad_places, edge_places, push_node, with_front, push_edge}
use Rattle.front.specs.Sound.{Extends, Frame}

-- ---- lists

module _ {A : Type 0} where
  -- lists that agree from n on agree from any later place on
  drop_more : (n k : ℕ) (a b : List A) → n ≤ k → drop n b ≡ drop n a → drop k b ≡ drop k a
  drop_more n k a b h e =
      let split : k ≡ n + (k - n) = omega arith in
      rw split (sym (drop-drop (k - n) n b) ∙ (ap (λ (l : List A). drop (k - n) l) e ∙ drop-drop (k - n) n a))

  pub extends_same : (m n : ℕ) (a : List A) → Extends m n a a
  extends_same m n a = record { long = refl; before = refl; past = refl }

  -- a place from m up to n may be stored to
  pub extends_set : (m n : ℕ) (a b : List A) (i : ℕ) (x : A) → m ≤ i → i < n → Extends m n a b → Extends m n a (set b i x)
  extends_set m n a b i x h g E =
      record {
        long = length-set b i x ∙ E.long;
        before = take-set-le m b i x h ∙ E.before;
        past = drop-set-lt n b i x g ∙ E.past;
      }

  pub extends_trans : (m n m' n' : ℕ) (a b c : List A) → m ≤ m' → n ≤ n' → Extends m n a b → Extends m' n' b c → Extends m n' a c
  extends_trans m n m' n' a b c h g E F =
      record {
        long = F.long ∙ E.long;
        before = sym (take-take m m' c h) ∙ (ap (λ (l : List A). take m l) F.before ∙ (take-take m m' b h ∙ E.before));
        past = F.past ∙ drop_more n n' a b g E.past;
      }

  -- a place before m holds what it held
  pub extends_at : (m n : ℕ) (a b : List A) → Extends m n a b → (i : ℕ) (x : A) → i < m → get_or b i x ≡ get_or a i x
  extends_at m n a b E i x h = sym (get_or-take m b i x h) ∙ (ap (λ (l : List A). get_or l i x) E.before ∙ get_or-take m a i x h)

-- ---- states

pub frame_same : (s : State) → Frame s s
frame_same s =
    record {
      nodes = omega arith;
      quads = omega arith;
      edges = omega arith;
      xs = extends_same _ _ _;
      ys = extends_same _ _ _;
      next = extends_same _ _ _;
      prev = extends_same _ _ _;
      snapshot = extends_same _ _ _;
      quad_list = extends_same _ _ _;
      edge_list = extends_same _ _ _;
    }

pub frame_trans : (s t r : State) → Frame s t → Frame t r → Frame s r
frame_trans s t r F G =
    let n = F.nodes in
    let m = G.nodes in
    let q : 4 * s.counts.quads ≤ 4 * t.counts.quads = omega (arith, F.quads) in
    let p : 4 * t.counts.quads ≤ 4 * r.counts.quads = omega (arith, G.quads) in
    let e : 2 * s.counts.edges ≤ 2 * t.counts.edges = omega (arith, F.edges) in
    let f : 2 * t.counts.edges ≤ 2 * r.counts.edges = omega (arith, G.edges) in
    let z : ◌≤◌ 0 0 = omega arith in
    record {
      nodes = omega (arith, n, m);
      quads = omega (arith, F.quads, G.quads);
      edges = omega (arith, F.edges, G.edges);
      xs = extends_trans _ _ _ _ _ _ _ n m F.xs G.xs;
      ys = extends_trans _ _ _ _ _ _ _ n m F.ys G.ys;
      next = extends_trans 0 _ 0 _ _ _ _ z m F.next G.next;
      prev = extends_trans 0 _ 0 _ _ _ _ z m F.prev G.prev;
      snapshot = extends_trans 0 _ 0 _ _ _ _ z m F.snapshot G.snapshot;
      quad_list = extends_trans _ _ _ _ _ _ _ q p F.quad_list G.quad_list;
      edge_list = extends_trans _ _ _ _ _ _ _ e f F.edge_list G.edge_list;
    }

-- as many places are lent
pub frame_node_places : (s t : State) → Frame s t → node_places t ≡ node_places s
unfolding node_places
frame_node_places s t F = rw (F.xs.long, F.ys.long, F.next.long, F.prev.long, F.snapshot.long)

pub frame_quad_places : (s t : State) → Frame s t → quad_places t ≡ quad_places s
unfolding quad_places
frame_quad_places s t F = rw F.quad_list.long

pub frame_edge_places : (s t : State) → Frame s t → edge_places t ≡ edge_places s
unfolding edge_places
frame_edge_places s t F = rw F.edge_list.long

-- a node that was there keeps its coordinates
pub frame_node : (s t : State) → Frame s t → (id : ℕ) → id < s.counts.nodes → node t id ≡ node s id
unfolding node_in
frame_node s t F id h =
    rw (extends_at _ _ s.xs t.xs F.xs id nan h, extends_at _ _ s.ys t.ys F.ys id nan h)

-- ---- elementary changes

pub frame_push : (p : Point) (s : State) → Frame s (push_node p s)
unfolding push_node
frame_push p s =
    let n = s.counts.nodes in
    let below : n < n + 1 = omega arith in
    record {
      nodes = omega arith;
      quads = omega arith;
      edges = omega arith;
      xs = extends_set n (n + 1) _ _ n p.x (omega arith) below (extends_same _ _ _);
      ys = extends_set n (n + 1) _ _ n p.y (omega arith) below (extends_same _ _ _);
      next = extends_set 0 (n + 1) _ _ n off (omega arith) below (extends_same _ _ _);
      prev = extends_set 0 (n + 1) _ _ n off (omega arith) below (extends_same _ _ _);
      snapshot = extends_same _ _ _;
      quad_list = extends_same _ _ _;
      edge_list = extends_same _ _ _;
    }

-- the links of two nodes, and any count of front edges
pub frame_link : (u v front : ℕ) (s : State) → u < s.counts.nodes → v < s.counts.nodes
    → Frame s (with_front s (set s.next u v) (set s.prev v u) front)
frame_link u v front s hu hv =
    let n = s.counts.nodes in
    record {
      nodes = omega arith;
      quads = omega arith;
      edges = omega arith;
      xs = extends_same _ _ _;
      ys = extends_same _ _ _;
      next = extends_set 0 n _ _ u v (omega arith) hu (extends_same _ _ _);
      prev = extends_set 0 n _ _ v u (omega arith) hv (extends_same _ _ _);
      snapshot = extends_same _ _ _;
      quad_list = extends_same _ _ _;
      edge_list = extends_same _ _ _;
    }

pub frame_edge : (u v : ℕ) (s : State) → Frame s (push_edge u v s)
unfolding push_edge
frame_edge u v s =
    let n = s.counts.edges in
    let m = 2 * n in
    let k = 2 * (n + 1) in
    record {
      nodes = omega arith;
      quads = omega arith;
      edges = omega arith;
      xs = extends_same _ _ _;
      ys = extends_same _ _ _;
      next = extends_same _ _ _;
      prev = extends_same _ _ _;
      snapshot = extends_same _ _ _;
      quad_list = extends_same _ _ _;
      edge_list = extends_set m k _ _ (m + 1) v (omega arith) (omega arith)
          (extends_set m k _ _ m u (omega arith) (omega arith) (extends_same m k s.edges));
    }
