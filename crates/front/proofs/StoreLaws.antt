-- What the code of `place` stores is the state that `place` leaves: `quad_stored`, at the end.
use Rattle.std.specs.Prelude.{ℕ, ◌+◌, ◌-◌, ◌*◌, ◌<◌, ◌≤◌, min, max, ◌≡◌, Bool, true, false, ◌≢◌, ltb, eqb, length, Float, Result, Ok, Err}
use mathlib.Core.List.{List}
use Rattle.std.proofs.Math.Path.{refl, sym, ap}
use Rattle.std.proofs.Common.{◌∙◌, add_assoc, add-zero, length-set}
use native.Mathlib.Omega.{arith}
use Rattle.std.proofs.Math.ListN.{set}
use Rattle.std.proofs.Math.Seq.{set-set, set_comm}
use borrow.Author.Tests.{eqb-true, lt-ltb, le-ltb}
use Rattle.laws.specs.Loop.{any_found}
use Rattle.laws.specs.Tests.{both}
use Rattle.topology.specs.Links.{off}
use Rattle.topology.proofs.Front.{next_of_prev, prev_in}
use Rattle.topology.specs.Sums.{one}
use Rattle.topology.proofs.Changes.{reversed, removed_sum}
use Rattle.topology.proofs.Changes as changes
use Rattle.topology.proofs.PlacingBase.{placing}
use Rattle.front.specs.declared.Counts.{Counts}
use Rattle.front.specs.declared.Corner.{Corner}
use Rattle.front.specs.declared.Corner.TheVariants.{Reused, Fresh}
use Rattle.front.specs.State.{State, state_of, Quad, counted, node_places, quad_places, edge_places, next_of, prev_of, edge_from, edge_to}
use Rattle.front.specs.State.{edge_is, has_edge, push_node, push_edge, push_quad, add_edge}
use Rattle.front.specs.Place.{added, corner_id, id_c, id_d, add_edges, edges_added, is_full, place}
use Rattle.front.specs.Ready.{Chosen, Known, Ready, room_fits}
use Rattle.front.proofs.Pushed.{with_corners}
use Rattle.front.proofs.MeshEdges.{with_edges, edged, has_flip, has_other}
use Rattle.front.proofs.Moved.{kind_of, changes_of, edges_after}
use Rattle.front.proofs.StateAfter.{state_after}
use Rattle.front.proofs.Step.{grounds}
use Rattle.front.specs.Stores.{place_answer, place_if_room, PlacesQuad, counts_with_quad, is_beyond, Ids}
use Rattle.front.specs.Stores.{store_x, store_y, reuses_node, known_across, unless, new_edges, store_edge, store_edges, store_quad, store_next, store_prev}

-- ---- full

module _ (s : State) (m e : ℕ) where
  pub nodes_beyond : node_places s < s.counts.nodes + m → true ≡ is_beyond s m e
  unfolding is_beyond
  nodes_beyond h = rw (lt-ltb _ _ h)

  pub quads_beyond : s.counts.nodes + m ≤ node_places s → quad_places s < s.counts.quads + 1 → true ≡ is_beyond s m e
  unfolding is_beyond
  quads_beyond h k = rw (le-ltb _ _ h, lt-ltb _ _ k)

  pub edges_beyond : s.counts.nodes + m ≤ node_places s → s.counts.quads + 1 ≤ quad_places s
      → ltb (edge_places s) (s.counts.edges + e) ≡ is_beyond s m e
  unfolding is_beyond
  edges_beyond h k = rw (le-ltb _ _ h, le-ltb _ _ k)

pub full_beyond : (s : State) (a b : ℕ) (c d : Corner)
    → is_full s a b c d ≡ is_beyond s (added c + added d) (edges_added s a b (id_d s c d) (id_c s c))
unfolding is_full is_beyond
full_beyond s a b c d = rw (add_assoc s.counts.nodes (added c) (added d))

-- ---- the links

module _ {A : Type 0} where
  set_over : (l : List A) (i j : ℕ) (x y z : A) → i ≢ j → set (set (set l i x) j y) i z ≡ set (set l j y) i z
  set_over l i j x y z h = ap (λ (r : List A). set r i z) (set_comm l i j x y h) ∙ set-set (set l j y) i x z

  set_over2 : (l : List A) (i j k : ℕ) (x y w z : A) → i ≢ j → i ≢ k
      → set (set (set (set l i x) j y) k w) i z ≡ set (set (set l j y) k w) i z
  set_over2 l i j k x y w z h g =
      ap (λ (r : List A). set (set r k w) i z) (set_comm l i j x y h) ∙ set_over (set l j y) i k x w z g

-- the link of a new corner before it is linked
abbrev pub clear : Corner → ℕ → List ℕ → List ℕ
clear (Reused id) n l = l
clear (Fresh x y) n l = set l n off

module _ (a b C D : ℕ) (ab : a ≢ b) (ac : a ≢ C) (bc : b ≢ C) (ad : a ≢ D) (bd : b ≢ D) (cd : C ≢ D) where
  ba : b ≢ a
  ba e = ab (sym e)

  ca : C ≢ a
  ca e = ac (sym e)

  cb : C ≢ b
  cb e = bc (sym e)

  da : D ≢ a
  da e = ad (sym e)

  db : D ≢ b
  db e = bd (sym e)

  dc : D ≢ C
  dc e = cd (sym e)

  pub next_stored : (c d : Corner) (l : List ℕ)
      → changes.stored set (placing (kind_of c) (kind_of d) a b C D) (clear d D (clear c C l)) ≡ store_next c d a b C D l
  unfolding store_next
  next_stored (Reused c) (Reused d) l =
      set_over (set l a off) C b off off D cb ∙ set_comm (set l a off) b C off D bc
  next_stored (Fresh x y) (Reused d) l =
      ap (λ (r : List ℕ). set r C D) (set_over (set l C off) a b off off C ab)
      ∙ (set_over2 l C b a off off C D cb ca
      ∙ (ap (λ (r : List ℕ). set r C D) (set_comm l b a off C ba) ∙ set_comm (set l a C) b C off D bc))
  next_stored (Reused c) (Fresh z w) l =
      ap (λ (r : List ℕ). set r D b) (set-set (set (set l D off) a off) C off D) ∙ set_over2 l D a C off off D b da dc
  next_stored (Fresh x y) (Fresh z w) l =
      ap (λ (r : List ℕ). set (set r C D) D b) (set-set (set (set l C off) D off) a off C)
      ∙ (ap (λ (r : List ℕ). set r D b) (set_over2 l C D a off off C D cd ca) ∙ set_over2 l D a C off C D b da dc)

  pub prev_stored : (c d : Corner) (l : List ℕ)
      → changes.stored set (reversed (placing (kind_of c) (kind_of d) a b C D)) (clear d D (clear c C l)) ≡ store_prev c d a b C D l
  unfolding store_prev
  prev_stored (Reused c) (Reused d) l =
      set-set (set (set l b off) a off) D off C
      ∙ (ap (λ (r : List ℕ). set r D C) (set_comm l b a off off ba) ∙ set_comm (set l a off) b D off C bd)
  prev_stored (Fresh x y) (Reused d) l =
      ap (λ (r : List ℕ). set r D C) (set_over2 l C b D off off off a cb cd)
      ∙ (set_over (set l b off) D C off a C dc
      ∙ (ap (λ (r : List ℕ). set r D C) (set_comm l b C off a bc) ∙ set_comm (set l C a) b D off C bd))
  prev_stored (Reused c) (Fresh z w) l =
      ap (λ (r : List ℕ). set r b D) (set_over2 l D b a off off off C db da) ∙ set_over2 l b a D off off C D ba bd
  prev_stored (Fresh x y) (Fresh z w) l =
      ap (λ (r : List ℕ). set (set r D C) b D) (set_over2 l C D b off off off a cd cb)
      ∙ (ap (λ (r : List ℕ). set r b D) (set_over2 l D b C off off a C db dc) ∙ set_over2 l b C D off a C D bc bd)

-- ---- the new nodes

-- the state with the new nodes, list by list
abbrev corners : Corner → Corner → State → State
corners c d s =
    let n = s.counts.nodes in
    state_of (store_x d (n + added c) (store_x c n s.xs)) (store_y d (n + added c) (store_y c n s.ys))
    (clear d (id_d s c d) (clear c (id_c s c) s.next)) (clear d (id_d s c d) (clear c (id_c s c) s.prev)) s.snapshot s.quads s.edges
    (counted (n + (added c + added d)) s.counts.quads s.counts.edges s.counts.front)

corners_are : (c d : Corner) (s : State) → with_corners c d s ≡ corners c d s
unfolding push_node
corners_are (Reused c) (Reused d) s = rw (add-zero s.counts.nodes)
corners_are (Reused c) (Fresh x y) s = rw (add-zero s.counts.nodes)
corners_are (Fresh x y) (Reused d) s = refl
corners_are (Fresh x y) (Fresh z w) s = rw (add_assoc s.counts.nodes 1 1)

-- ---- the mesh edges

-- an edge is stored unless it is known
add_is : (u v : ℕ) (s : State) (known : Bool) → has_edge s u v ≡ known
    → add_edge u v s ≡ with_edges s (store_edge known s.counts.edges u v s.edges) (s.counts.edges + unless known)
unfolding add_edge push_edge store_edge
add_is u v s true e = rw (e, add-zero)
add_is u v s false e = rw e

-- no edge of the mesh ends at a node that is not there
no_edge : (s : State) → Known s → (u v : ℕ) → s.counts.nodes ≤ v → has_edge s u v ≡ false
unfolding has_edge
no_edge s K u v h = by (has_edge s u v) refl
  where
    by : (t : Bool) → has_edge s u v ≡ t → t ≡ false
    by false e = refl
    by true e =
        let f = any_found (edge_is s.edges (min u v) (max u v)) s.counts.edges e in
        let k = f.0 in
        let q = eqb-true (edge_to s k) (max u v) (both (eqb (edge_from s k) (min u v)) (eqb (edge_to s k) (max u v)) f.2).1 in
        absurd (omega (arith, q, (K.joined k f.1).1))

-- which sides of a quad are known
pub record SidesKnown (s : State) (a b : ℕ) (c d : Corner) : Type 0 where
  pub ab : has_edge s a b ≡ true
  pub bd : has_edge s b (id_d s c d) ≡ reuses_node d
  pub dc : has_edge s (id_d s c d) (id_c s c) ≡ known_across s.edges s.counts.edges c d
  pub ca : has_edge s (id_c s c) a ≡ reuses_node c

module _ (s : State) (a b : ℕ) (c d : Corner) (R : Ready s a b c d) where
  side_bd : (d : Corner) → Chosen d a (next_of s b) → has_edge s b (id_d s c d) ≡ reuses_node d
  side_bd (Reused id) h = R.known.fronts b id h.1 h.0
  side_bd (Fresh x y) h = no_edge s R.known b (s.counts.nodes + added c) (omega arith)

  side_ca : (c : Corner) → Chosen c b (prev_of s a) → has_edge s (id_c s c) a ≡ reuses_node c
  side_ca (Reused id) h =
      let S = R.sound in
      let next = next_of_prev s.counts.nodes (next_of s) (prev_of s) R.loops S.front id a h.1 h.0 in
      let on : prev_of s a ≢ off = λ e. h.1 (sym h.0 ∙ e) in
      let node = (prev_in s.counts.nodes (next_of s) (prev_of s) R.loops S.front a on).1 in
      R.known.fronts id a (omega (arith, S.front.loops.few)) next
  side_ca (Fresh x y) h = has_flip s s.counts.nodes a ∙ no_edge s R.known a s.counts.nodes (omega arith)

  side_dc : (c d : Corner) → has_edge s (id_d s c d) (id_c s c) ≡ known_across s.edges s.counts.edges c d
  unfolding has_edge
  side_dc (Reused c) (Reused d) = refl
  side_dc (Reused c) (Fresh x y) = has_flip s (s.counts.nodes + 0) c ∙ no_edge s R.known c (s.counts.nodes + 0) (omega arith)
  side_dc (Fresh x y) d = no_edge s R.known (id_d s (Fresh x y) d) s.counts.nodes (omega arith)

  pub sides_known : SidesKnown s a b c d
  sides_known =
      let H = R.choice in
      record {
        ab = R.known.fronts a b H.node H.edge;
        bd = side_bd d H.chosen_d;
        dc = side_dc c d;
        ca = side_ca c H.chosen_c;
      }

  -- so many edges are added
  pub edges_added_lem : edges_added s a b (id_d s c d) (id_c s c) ≡ new_edges (known_across s.edges s.counts.edges c d) c d
  unfolding edges_added new_edges
  edges_added_lem = let K = sides_known in rw (K.ab, K.bd, K.dc, K.ca) (omega arith)

-- the edges of a quad in a state u with the new nodes: a to b is there, the others are known or not
module _ (u : State) (a b C D : ℕ) (c d : Corner) (across : Bool) (ab : has_edge u a b ≡ true) (bd : has_edge u b D ≡ reuses_node d)
    (dc : has_edge u D C ≡ across) (ca : has_edge u C a ≡ reuses_node c) (a_b : a ≢ b) (a_c : a ≢ C) (a_d : a ≢ D) (c_b : C ≢ b) (c_d : C ≢ D)
    (room : 2 * (add_edges a b D C u).counts.edges ≤ length u.edges) where
  abbrev s2 : State
  s2 = add_edge b D u

  abbrev s3 : State
  s3 = add_edge D C s2

  whole : add_edges a b D C u ≡ add_edge C a s3
  unfolding add_edges add_edge
  whole = rw ab

  room4 : 2 * (add_edge C a s3).counts.edges ≤ length u.edges
  room4 = rw whole at room

  room3 : 2 * s3.counts.edges ≤ length s2.edges
  room3 = omega (arith, room4, (edged C a s3).more, (edged b D u).list.long)

  room2 : 2 * s2.counts.edges ≤ length u.edges
  room2 = omega (arith, room4, (edged C a s3).more, (edged D C s2).more)

  abbrev n1 : ℕ
  n1 = u.counts.edges + unless (reuses_node d)

  abbrev n2 : ℕ
  n2 = n1 + unless across

  abbrev l1 : List ℕ
  l1 = store_edge (reuses_node d) u.counts.edges b D u.edges

  abbrev l2 : List ℕ
  l2 = store_edge across n1 D C l1

  two_is : s2 ≡ with_edges u l1 n1
  two_is = add_is b D u (reuses_node d) bd

  three_is : s3 ≡ with_edges u l2 n2
  three_is =
      let here = has_other b D D C u room2 c_b c_d ∙ dc in
      ap (λ (x : State). add_edge D C x) two_is
      ∙ add_is D C (with_edges u l1 n1) across (sym (ap (λ (x : State). has_edge x D C) two_is) ∙ here)

  pub edges_are : add_edges a b D C u
      ≡ with_edges u (store_edges across c d a b C D u.counts.edges u.edges) (u.counts.edges + new_edges across c d)
  unfolding store_edges new_edges
  edges_are =
      let here = has_other D C C a s2 room3 a_d a_c ∙ (has_other b D C a u room2 a_b a_d ∙ ca) in
      let last = add_is C a (with_edges u l2 n2) (reuses_node c) (sym (ap (λ (x : State). has_edge x C a) three_is) ∙ here) in
      let count : n2 + unless (reuses_node c) ≡ u.counts.edges + (unless (reuses_node d) + unless across + unless (reuses_node c)) = omega arith in
      whole ∙ (ap (λ (x : State). add_edge C a x) three_is ∙ (last ∙ ap (λ (n : ℕ). with_edges u (store_edge (reuses_node c) n2 C a l2) n) count))

-- ---- the count of front edges

front_count_lem : (c d : Corner) (a b C D f : ℕ) → removed_sum one (placing (kind_of c) (kind_of d) a b C D) ≤ f
    → edges_after (placing (kind_of c) (kind_of d) a b C D) f ≡ f + 2 * (added c + added d) - 2
front_count_lem (Reused c) (Reused d) a b C D f h = omega arith
front_count_lem (Reused c) (Fresh x y) a b C D f h = omega arith
front_count_lem (Fresh x y) (Reused d) a b C D f h = omega arith
front_count_lem (Fresh x y) (Fresh z w) a b C D f h = omega arith

front_enough : (c d : Corner) (a b C D f : ℕ) → removed_sum one (placing (kind_of c) (kind_of d) a b C D) ≤ f → 2 ≤ f + 2 * (added c + added d)
front_enough (Reused c) (Reused d) a b C D f h = omega arith
front_enough (Reused c) (Fresh x y) a b C D f h = omega arith
front_enough (Fresh x y) (Reused d) a b C D f h = omega arith
front_enough (Fresh x y) (Fresh z w) a b C D f h = omega arith

-- ---- the whole

-- the lists and counts that the code leaves
abbrev pub stored_state : State → ℕ → ℕ → Corner → Corner → ℕ → ℕ → Bool → ℕ → State
stored_state s a b c d C D across w =
    let n = s.counts.nodes in
    state_of (store_x d (n + added c) (store_x c n s.xs)) (store_y d (n + added c) (store_y c n s.ys))
    (store_next c d a b C D s.next) (store_prev c d a b C D s.prev) s.snapshot (store_quad s.counts.quads a b D C s.quads)
    (store_edges across c d a b C D s.counts.edges s.edges) (counts_with_quad s.counts c d w)

pub quad_stored : (s : State) (a b : ℕ) (c d : Corner) → Ready s a b c d → is_full s a b c d ≡ false
    → place a b c d s
    ≡ stored_state s a b c d (id_c s c) (id_d s c d) (known_across s.edges s.counts.edges c d)
    (new_edges (known_across s.edges s.counts.edges c d) c d)
unfolding push_quad edge_places
quad_stored s a b c d R full =
    let C = id_c s c in
    let D = id_d s c d in
    let H = grounds R.sampled s R.loops a b c d R.sound R.choice full in
    let X = H.sides in
    let u = with_corners c d s in
    let P = H.cornered.pushed in
    let K = sides_known s a b c d R in
    let across = known_across s.edges s.counts.edges c d in
    let cs = changes_of s a b c d in
    let q : Quad = record { a = a; b = b; d = D; c = C } in
    let room : 2 * (add_edges a b D C u).counts.edges ≤ length u.edges = omega (arith, H.few_edges, P.frame.edge_list.long) in
    let E = edges_are u a b C D c d across (P.has a b ∙ K.ab) (P.has b D ∙ K.bd) (P.has D C ∙ K.dc) (P.has C a ∙ K.ca)
    X.ab X.ac X.ad (λ e. X.bc (sym e)) X.cd room in
    H.is
    ∙ (ap (λ (e : State). state_after u e q cs) E
    ∙ (ap
    (λ (v : State).
    state_after v (with_edges v (store_edges across c d a b C D v.counts.edges v.edges) (v.counts.edges + new_edges across c d)) q cs)
    (corners_are c d s)
    ∙ rw (
      next_stored a b C D X.ab X.ac X.bc X.ad X.bd X.cd c d s.next,
      prev_stored a b C D X.ab X.ac X.bc X.ad X.bd X.cd c d s.prev,
      front_count_lem c d a b C D s.counts.front H.few_off,
    )))

-- ---- the code: what it has found out before it stores anything, and what it stores

-- the storing of the edges
pub length_store : (known : Bool) (n u v : ℕ) (l : List ℕ) → length (store_edge known n u v l) ≡ length l
unfolding store_edge
length_store true n u v l = refl
length_store false n u v l = simp length-set

module _ (across : Bool) (c d : Corner) (a b C D n : ℕ) (l : List ℕ) (kd kc : Bool) (r1 r2 : ℕ) (pd : kd ≡ reuses_node d) (pc : kc ≡ reuses_node c)
    (p1 : r1 ≡ unless kd) (p2 : r2 ≡ unless across) where
  pub first_fits : 2 * (n + new_edges across c d) ≤ length l → 2 * (n + unless kd) ≤ length l
  unfolding new_edges
  first_fits room = rw pd (omega arith)

  module _ (m1 : List ℕ) (e1 : m1 ≡ store_edge kd n b D l) where
    pub second_fits : 2 * (n + new_edges across c d) ≤ length l → 2 * (n + r1 + unless across) ≤ length m1
    unfolding new_edges
    second_fits room = rw (e1, length_store, p1, pd) (omega arith)

    module _ (m2 : List ℕ) (e2 : m2 ≡ store_edge across (n + r1) D C m1) where
      pub third_fits : 2 * (n + new_edges across c d) ≤ length l → 2 * (n + r1 + r2 + unless kc) ≤ length m2
      unfolding new_edges
      third_fits room = rw (e2, length_store, e1, length_store, p2, p1, pd, pc) (omega arith)

      pub edges_stored : (m3 : List ℕ) → m3 ≡ store_edge kc (n + r1 + r2) C a m2 → m3 ≡ store_edges across c d a b C D n l
      unfolding store_edges
      edges_stored m3 e3 = rw (e3, e2, e1, p2, p1, pd, pc)

-- where the quad fits: what the parts of the code require, and that what they store is the state that `place` leaves
pub record Fitting (s : State) (a b : ℕ) (c d : Corner) (C D : ℕ) (across : Bool) (w : ℕ) : Type 0 where
  pub corners : (s.counts.nodes + (added c + added d) ≤ 4294967294)
      × (s.counts.nodes + (added c + added d) ≤ length s.xs) × (s.counts.nodes + (added c + added d) ≤ length s.ys)
  pub edges : 2 * (s.counts.edges + new_edges across c d) ≤ length s.edges
  pub quads : 4 * (s.counts.quads + 1) ≤ length s.quads
  pub ids : Ids (length s.next) a b C D × Ids (length s.prev) a b C D
  pub counts : 2 ≤ s.counts.front + 2 * (added c + added d)
  pub room : is_full s a b c d ≡ false
  pub is : place a b c d s ≡ stored_state s a b c d C D across w

module _ (s : State) (a b : ℕ) (c d : Corner) (R : Ready s a b c d) (mc md C D : ℕ) (across : Bool) (w : ℕ) (pmc : mc ≡ added c)
    (pmd : md ≡ added d) (pc : C ≡ corner_id s.counts.nodes c) (pd : D ≡ corner_id (s.counts.nodes + mc) d)
    (pk : across ≡ known_across s.edges s.counts.edges c d) (pw : w ≡ new_edges across c d) where
  beyond_full : is_beyond s (mc + md) w ≡ is_full s a b c d
  beyond_full = rw (pw, pk, pmc, pmd, ← edges_added_lem s a b c d R) (sym (full_beyond s a b c d))

  -- nothing is written
  pub when_full : is_beyond s (mc + md) w ≡ true → PlacesQuad a b c d s (Err (record {})) s
  unfolding place_answer place_if_room
  when_full h = let e = sym beyond_full ∙ h in record { answer = rw e; state = rw e }

  pub when_fits : is_beyond s (mc + md) w ≡ false → Fitting s a b c d C D across w
  unfolding node_places quad_places edge_places
  when_fits h =
      let full = sym beyond_full ∙ h in
      let A = room_fits s a b c d full in
      let H = grounds R.sampled s R.loops a b c d R.sound R.choice full in
      let X = H.sides in
      let P = H.cornered.pushed in
      let e_c : C ≡ id_c s c = pc in
      let e_d : D ≡ id_d s c d = rw (← pmc) pd in
      let ids : (m : ℕ) → s.counts.nodes + added c + added d ≤ m → Ids m a b C D =
      λ m l.
      record {
        id_a = omega (arith, X.node_a);
        id_b = omega (arith, X.node_b);
        id_c_lem = omega (arith, H.cornered.id_c_lem, P.nodes, e_c);
        id_d_lem = omega (arith, H.cornered.id_d_lem, P.nodes, e_d);
      } in
      record {
        corners = (omega (arith, A.nodes_fit), omega (arith, A.nodes_fit), omega (arith, A.nodes_fit));
        edges = omega (arith, A.edges_fit, edges_added_lem s a b c d R, ap (λ (t : Bool). new_edges t c d) pk);
        quads = omega (arith, A.quads_fit);
        ids = (ids (length s.next) (omega (arith, A.nodes_fit)), ids (length s.prev) (omega (arith, A.nodes_fit)));
        counts = front_enough c d a b (id_c s c) (id_d s c d) s.counts.front H.few_off;
        room = full;
        is = rw (e_c, e_d, pw, pk) (quad_stored s a b c d R full);
      }

-- what was stored is the state that `place` leaves
pub when_stored : (s : State) (a b : ℕ) (c d : Corner) (C D : ℕ) (across : Bool) (w : ℕ) → Fitting s a b c d C D across w
    → {xs ys : List Float} {next prev quads edges : List ℕ} {k : Counts}
    → (xs ≡ store_x d (s.counts.nodes + added c) (store_x c s.counts.nodes s.xs))
    × (ys ≡ store_y d (s.counts.nodes + added c) (store_y c s.counts.nodes s.ys))
    → edges ≡ store_edges across c d a b C D s.counts.edges s.edges
    → quads ≡ store_quad s.counts.quads a b D C s.quads
    → (next ≡ store_next c d a b C D s.next) × (prev ≡ store_prev c d a b C D s.prev)
    → k ≡ counts_with_quad s.counts c d w
    → PlacesQuad a b c d s (Ok tt) (state_of xs ys next prev s.snapshot quads edges k)
unfolding place_answer place_if_room
when_stored s a b c d C D across w F px pe pq pn pk =
    record { answer = rw F.room; state = rw (F.room, F.is, px.0, px.1, pe, pq, pn.0, pn.1, pk) }
