-- What holds of the state between the loops of an outline, and how a loop of new nodes is laid on its front.
use Rattle.std.specs.Prelude.{◌≡◌, refl, ◌&&◌, List, [], ◌∷◌, ◌++◌, eqb, length, get_or}
use Rattle.std.proofs.Common.{◌∙◌, ap, ap₂, arith}
use Prim.Native.Nat.{ℕ, ◌+◌, ◌*◌, ◌<◌, ◌≤◌, ◌%◌, min, max}
use Rattle.laws.specs.Loop.{any_up}
use Rattle.outline.specs.declared.Point.{Point}
use Rattle.topology.specs.Sums.{All, total, loop_sum, front_sum, one, Even, loop_one}
use Rattle.topology.specs.Links.{off, link_out}
use Rattle.topology.specs.Front.{Front, FrontOf, front_same}
use Rattle.topology.proofs.Changes.{OffFront, Changed, stored}
use Rattle.topology.proofs.Laying.{joins, Distinct, joined}
use Rattle.front.specs.State.{State, next_of, prev_of, has_edge}
use Rattle.front.specs.Sound.{Frame}
use Rattle.front.proofs.FrameLaws.{frame_trans}
use Rattle.front.specs.Ready.{Known}
use Rattle.front.proofs.KnownLaws.{known_same}
use Rattle.front_sampled.proofs.Lists.{all_append}
use Rattle.front_sampled.specs.Nodes.{nodes_of, Room, room_kept, Pushed}
use Rattle.front_sampled.specs.OneWay.{one_way}
use Rattle.front_sampled.proofs.RingJoins.{loop_joins, loop_joins_length}
use Rattle.front_sampled.specs.Joins.{join, OnlyLinked, EdgesAdded, join_path}

-- ---- definitions

-- the loops ls have been laid in the lists of `lent`: s has a front edge and a mesh edge for each node, and no quad
pub record Laid (lent s : State) (ls : List (List ℕ)) : Type 0 where
  pub frame : Frame lent s
  pub front : FrontOf s.counts.nodes s.next s.prev ls
  pub edges : s.counts.front ≡ front_sum one ls
  pub front_count : s.counts.front ≡ s.counts.nodes
  pub edge_count : s.counts.edges ≡ s.counts.nodes
  pub quad_count_of : s.counts.quads ≡ 0
  pub snapshot : s.snapshot ≡ lent.snapshot
  pub quads : s.quads ≡ lent.quads
  pub linked : OnlyLinked s
  pub known : Known s

-- t is s with the points ps pushed and joined into the loop l
pub record Added (lent s t : State) (ls : List (List ℕ)) (l : List ℕ) (ps : List Point) : Type 0 where
  pub laid : Laid lent t (ls ++ l ∷ [])
  pub nodes : nodes_of t ≡ nodes_of s ++ ps
  pub count : t.counts.nodes ≡ s.counts.nodes + length ps

-- ---- laws

-- more nodes, with no links
front_more : (n m : ℕ) (f g : ℕ → ℕ) (ls : List (List ℕ)) → n ≤ m → m ≤ off → Front n f g ls → Front m f g ls
front_more n m f g ls h few F =
    let L = F.loops in
    record {
      loops = record { few = few; evens = L.evens; inside = λ u v q. L.inside u v (omega arith); nexts = L.nexts };
      prevs = F.prevs;
    }

-- a loop stands behind the others or before them
total_last : (p : List ℕ → ℕ) (ls : List (List ℕ)) (l : List ℕ) → total p (l ∷ ls) ≡ total p (ls ++ l ∷ [])
unfolding total
total_last p [] l = refl
total_last p (m ∷ ls) l = omega (arith, total_last p ls l)

nodes_same : (s t : State) → t.xs ≡ s.xs → t.ys ≡ s.ys → t.counts.nodes ≡ s.counts.nodes → nodes_of t ≡ nodes_of s
unfolding nodes_of
nodes_same s t p q e = rw (p, q, e)

edges_same : (s t : State) (a b : ℕ) → t.edges ≡ s.edges → t.counts.edges ≡ s.counts.edges → has_edge t a b ≡ has_edge s a b
unfolding has_edge
edges_same s t a b p q =
    ap₂ (λ (l : List ℕ) (c : ℕ). any_up c (λ k. eqb (get_or l (2 * k) 0) (min a b) && eqb (get_or l (2 * k + 1) 0) (max a b))) p q

module _ {n : ℕ} (lent s t : State) (ls : List (List ℕ)) (ps : List Point) (L : Laid lent s ls) (P : Pushed s t ps) (R : Room n s)
    (fit : t.counts.nodes ≤ n) where
  pub linked_pushed : OnlyLinked t
  unfolding OnlyLinked
  linked_pushed a b ha hb na nb =
      edges_same s t a b P.edges P.edge_count
      ∙ L.linked a b ha hb (λ e. na (ap (λ (f : ℕ → ℕ). f a) P.next ∙ e)) (λ e. nb (ap (λ (f : ℕ → ℕ). f b) P.next ∙ e))

  front_pushed : FrontOf t.counts.nodes t.next t.prev ls
  front_pushed =
      rw (P.next, P.prev)
      (front_more s.counts.nodes t.counts.nodes (next_of s) (prev_of s) ls (omega (arith, P.count)) (omega (arith, R.few)) L.front)

  -- the new nodes
  abbrev pub New : ℕ → Type 0
  New u = (s.counts.nodes ≤ u) × (u < t.counts.nodes)

  pub off_pushed : (u : ℕ) → New u → OffFront t.counts.nodes (next_of t) (prev_of t) u
  off_pushed u h =
      record {
        node = h.1;
        next = ap (λ (f : ℕ → ℕ). f u) P.next ∙ link_out s.counts.nodes s.next u h.0;
        prev = ap (λ (f : ℕ → ℕ). f u) P.prev ∙ link_out s.counts.nodes s.prev u h.0;
      }

  each : (Q : ℕ → Type 0) → ((u : ℕ) → New u → Q u) → (l : List ℕ) → All New l → All Q l
  each Q h [] a = tt
  each Q h (u ∷ l) a = (h u a.0, each Q h l a.1)

  module _ (x v w : ℕ) (vs : List ℕ) (even : length (x ∷ v ∷ w ∷ vs) % 2 ≡ 0) (d : Distinct (x ∷ v ∷ w ∷ vs))
      (new : All New (x ∷ v ∷ w ∷ vs)) (long : length (x ∷ v ∷ w ∷ vs) ≡ length ps) where
    changes : Changed t.counts.nodes t.next t.prev ls ((x ∷ v ∷ w ∷ vs) ∷ ls) (joins x (v ∷ w ∷ vs) x)
    changes =
        joined t.counts.nodes t.next t.prev ls x (v ∷ w ∷ vs) front_pushed
        (omega (arith, P.frame.next.long, R.next)) (omega (arith, P.frame.prev.long, R.prev))
        (record { even = even; two = omega arith }) d
        (each (OffFront t.counts.nodes (next_of t) (prev_of t)) off_pushed (x ∷ v ∷ w ∷ vs) new)

    joins_on : EdgesAdded t (stored join (joins x (v ∷ w ∷ vs) x) t) (joins x (v ∷ w ∷ vs) x)
    joins_on =
        join_path x (v ∷ w ∷ vs) x t (record {
          room = room_kept n s t P.frame R;
          few = fit;
          edges = omega (arith, L.edge_count, P.edge_count, P.count, loop_joins_length (x ∷ v ∷ w ∷ vs));
          within = changes.within;
          valid = changes.steps;
          one_way = one_way t.counts.nodes (omega (arith, R.few)) (next_of t) x v w vs
              (each (λ u. u < t.counts.nodes) (λ u h. h.1) (x ∷ v ∷ w ∷ vs) new) d changes.steps;
          linked = linked_pushed;
          known = known_same s t P.edges P.edge_count (omega (arith, P.count)) P.next L.known;
        })

    loop_on : Added lent s (stored join (joins x (v ∷ w ∷ vs) x) t) ls (x ∷ v ∷ w ∷ vs) ps
    unfolding total
    loop_on =
        let l = x ∷ v ∷ w ∷ vs in
        let r = stored join (joins x (v ∷ w ∷ vs) x) t in
        let J = joins_on in
        let k = loop_joins_length l in
        let front : FrontOf r.counts.nodes r.next r.prev (l ∷ ls) = rw (J.next, J.prev, J.node_count_of) changes.front in
        let evens = front.loops.evens in
        record {
          laid = record {
            frame = frame_trans lent s r L.frame (frame_trans s t r P.frame J.frame);
            front = front_same r.counts.nodes (next_of r) (prev_of r) (l ∷ ls) (ls ++ l ∷ []) (λ p. total_last (loop_sum p) ls l)
                (all_append Even ls (l ∷ []) evens.1 (evens.0, tt)) front;
            edges = omega (arith, J.front_count, P.front_count, L.edges, loop_one l, total_last (loop_sum one) ls l, k);
            front_count = omega (arith, J.front_count, P.front_count, L.front_count, J.node_count_of, P.count, k);
            edge_count = omega (arith, J.edge_count, P.edge_count, L.edge_count, J.node_count_of, P.count, k);
            quad_count_of = J.quad_count_of ∙ P.quad_count_of ∙ L.quad_count_of;
            snapshot = J.snapshot ∙ P.snapshot ∙ L.snapshot;
            quads = J.quads ∙ P.quads ∙ L.quads;
            linked = J.linked;
            known = J.known;
          };
          nodes = nodes_same t r J.xs J.ys J.node_count_of ∙ P.nodes;
          count = J.node_count_of ∙ P.count;
        }

  -- the points pushed are joined into a loop of three or more, of an even number
  pub lay : (l : List ℕ) → 3 ≤ length l → length l % 2 ≡ 0 → Distinct l → All New l → length l ≡ length ps
      → Added lent s (stored join (loop_joins l) t) ls l ps
  lay [] three even d new long = absurd (omega arith)
  lay (x ∷ []) three even d new long = absurd (omega arith)
  lay (x ∷ v ∷ []) three even d new long = absurd (omega arith)
  lay (x ∷ v ∷ w ∷ vs) three even d new long = loop_on x v w vs even d new long
