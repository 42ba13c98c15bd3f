-- What the code writes into a paving, step after step.
use Rattle.std.specs.Prelude.{Bool, true, false, cond, List, [], ◌≡◌, refl, ℕ, ◌+◌, ◌≤◌, length}
use Rattle.std.proofs.Common.{sym, ◌∙◌, ap, subst, add-one, length-set, arith}
use Rattle.laws.specs.Loop.{for_up}
use Rattle.outline.specs.declared.Point.{Point}
use Rattle.front.specs.declared.Counts.{Counts}
use Rattle.front.specs.declared.Mesh.{Mesh}
use Rattle.front.specs.declared.Paving.{Paving}
use Rattle.front.specs.declared.Ring.{Ring}
use Rattle.front.specs.Lent.{mesh_state, paving_state, SameLists}
use Rattle.front.proofs.Lent.{lists_same, lists_trans}
use Rattle.front.specs.State.{State, counted, push_node}
use Rattle.front.specs.Sampling.{midpoint, split_longest}
use Rattle.front_boundary.specs.Laying.{with_nodes, with_front_edges, NodeRoomIn, SameRoom, MoreNodes, NodesWritten, EdgesWritten}
use Rattle.front_boundary.proofs.LayingLaws.{room_fewer, plus_none, split_none, split_one}

pub same_room : (p : Paving) → SameRoom p p
same_room p = record { lists = lists_same p; xs = refl; ys = refl; next = refl; prev = refl; edges = refl; quads = refl }

pub room_trans : {p q r : Paving} → SameRoom p q → SameRoom q r → SameRoom p r
room_trans a b =
    record {
      lists = lists_trans a.lists b.lists;
      xs = b.xs ∙ a.xs;
      ys = b.ys ∙ a.ys;
      next = b.next ∙ a.next;
      prev = b.prev ∙ a.prev;
      edges = b.edges ∙ a.edges;
      quads = b.quads ∙ a.quads;
    }

-- fewer nodes have places too
pub room_left : {n : ℕ} {p q : Paving} (m : ℕ) → NodeRoomIn n p → m ≤ n → SameRoom p q → NodeRoomIn m q
room_left m R h S = room_fewer m _ _ _ _ R h S.xs S.ys S.next S.prev

plus_plus : (a m n : ℕ) → a + m + n ≡ a + (m + n)
plus_plus a m n = omega arith

-- ---- nodes

pub node_count : {n : ℕ} {p q : Paving} → MoreNodes n p q → q.counts.nodes ≡ p.counts.nodes + n
node_count M = ap (λ (k : Counts). k.nodes) M.counts

pub no_nodes : (f : State → State) (p : Paving) → ((st : State) → st ≡ f st) → NodesWritten 0 f p p
no_nodes f p same =
    record {
      more = record { places = same_room p; edges = refl; counts = rw plus_none refl };
      state = λ st. rw plus_none (same _);
    }

pub nodes_then : {m n : ℕ} {f g : State → State} {p q r : Paving} → NodesWritten m f p q → NodesWritten n g q r
    → NodesWritten (m + n) (λ (st : State). g (f st)) p r
nodes_then {m} {n} {f} {g} {p} {q} {r} a b =
    record {
      more = record {
        places = room_trans a.more.places b.more.places;
        edges = b.more.edges ∙ a.more.edges;
        counts = b.more.counts ∙ ap (λ (k : Counts). counted (k.nodes + n) k.quads k.edges k.front) a.more.counts
            ∙ ap (λ (k : ℕ). counted k p.counts.quads p.counts.edges p.counts.front) (plus_plus p.counts.nodes m n);
      };
      state = λ st.
          ap (λ (k : ℕ). with_nodes st r.xs.now r.ys.now r.next.now r.prev.now k)
          (sym (ap (λ (k : ℕ). k + n) (node_count a.more) ∙ plus_plus p.counts.nodes m n))
          ∙ b.state st ∙ ap (λ (k : ℕ). g (with_nodes st q.xs.now q.ys.now q.next.now q.prev.now k)) (node_count a.more)
          ∙ ap g (a.state st);
    }

module _ (turn : ℕ → State → State) where
  pub nodes_start : (p : Paving) → NodesWritten 0 (for_up 0 turn) p p
  unfolding for_up
  nodes_start p = no_nodes (for_up 0 turn) p (λ st. refl)

  pub nodes_turn : {i m n : ℕ} {p q r : Paving} → NodesWritten m (for_up i turn) p q → NodesWritten n (turn i) q r
      → NodesWritten (m + n) (for_up (i + 1) turn) p r
  unfolding for_up
  nodes_turn {i} a b = rw (add-one i) (nodes_then a b)

-- ---- a node

pub node_written : {p q : Paving} (point : Point) → SameLists p q → ((snapshot : List ℕ) → paving_state q snapshot ≡ push_node point (paving_state p snapshot))
    → NodesWritten 1 (push_node point) p q
unfolding push_node
node_written {p} {q} point lists changed =
    let e = changed [] in
    record {
      more = record {
        places = record {
          lists = lists;
          xs = ap (λ (s : State). length s.xs) e ∙ length-set _ _ _;
          ys = ap (λ (s : State). length s.ys) e ∙ length-set _ _ _;
          next = ap (λ (s : State). length s.next) e ∙ length-set _ _ _;
          prev = ap (λ (s : State). length s.prev) e ∙ length-set _ _ _;
          edges = ap (λ (s : State). length s.edges) e;
          quads = ap (λ (s : State). s.quads) e;
        };
        edges = ap (λ (s : State). s.edges) e;
        counts = ap (λ (s : State). s.counts) e;
      };
      state = λ st. ap (λ (s : State). with_nodes st s.xs s.ys s.next s.prev (p.counts.nodes + 1)) e;
    }

-- ---- the midpoint

pub not_split : (ring : Ring) (p : Paving) → ring.split ≡ false → NodesWritten (cond ring.split 1 0) (split_longest ring) p p
not_split ring p e =
    subst (λ (b : Bool). NodesWritten (cond b 1 0) (split_longest ring) p p) (sym e) (no_nodes (split_longest ring) p (λ st. split_none ring st e))

pub split_written : (ring : Ring) {p q : Paving} (mesh : Mesh) {mid : Point} → ring.split ≡ true → mesh_state mesh ≡ paving_state p []
    → mid ≡ midpoint mesh.xs.now mesh.ys.now ring → NodesWritten 1 (push_node mid) p q → NodesWritten (cond ring.split 1 0) (split_longest ring) p q
split_written ring {p} {q} mesh e m d W =
    subst (λ (b : Bool). NodesWritten (cond b 1 0) (split_longest ring) p q) (sym e)
    (record {
      more = W.more;
      state = λ st. split_one ring _ e (d ∙ ap (λ (s : State). midpoint s.xs s.ys ring) m) (W.state st);
    })

-- ---- edges

pub edges_then : {m n : ℕ} {f g : State → State} {p q r : Paving} → EdgesWritten m f p q → EdgesWritten n g q r
    → EdgesWritten (m + n) (λ (st : State). g (f st)) p r
edges_then {m} {n} {f} {g} {p} {q} {r} a b =
    record {
      more = record {
        places = room_trans a.more.places b.more.places;
        xs = b.more.xs ∙ a.more.xs;
        ys = b.more.ys ∙ a.more.ys;
        counts = b.more.counts ∙ ap (λ (k : Counts). counted k.nodes k.quads (k.edges + n) (k.front + n)) a.more.counts
            ∙ ap (λ (k : ℕ). counted p.counts.nodes p.counts.quads k (p.counts.front + m + n)) (plus_plus p.counts.edges m n)
            ∙ ap (λ (k : ℕ). counted p.counts.nodes p.counts.quads (p.counts.edges + (m + n)) k) (plus_plus p.counts.front m n);
      };
      state = λ st.
          ap (λ (k : ℕ). with_front_edges st r.next.now r.prev.now r.edges.now k)
          (sym (ap (λ (k : ℕ). k + n) count ∙ plus_plus p.counts.edges m n))
          ∙ b.state st ∙ ap (λ (k : ℕ). g (with_front_edges st q.next.now q.prev.now q.edges.now k)) count
          ∙ ap g (a.state st);
    }
  where
    count : q.counts.edges ≡ p.counts.edges + m
    count = ap (λ (k : Counts). k.edges) a.more.counts

module _ (turn : ℕ → State → State) where
  pub edges_start : (p : Paving) → EdgesWritten 0 (for_up 0 turn) p p
  unfolding for_up
  edges_start p =
      record {
        more = record { places = same_room p; xs = refl; ys = refl; counts = rw (plus_none p.counts.edges, plus_none p.counts.front) refl };
        state = λ st. rw plus_none refl;
      }

  pub edges_turn : {i m n : ℕ} {p q r : Paving} → EdgesWritten m (for_up i turn) p q → EdgesWritten n (turn i) q r
      → EdgesWritten (m + n) (for_up (i + 1) turn) p r
  unfolding for_up
  edges_turn {i} a b = rw (add-one i) (edges_then a b)
