-- What holds of the definitions of specs/Placings.antt.
use Rattle.std.specs.Prelude.{ℕ, ◌+◌, ◌*◌, ◌<◌, ◌≤◌, min, max, List, ◌≡◌, refl, Bool, true, false, cond, ◌⊎◌, eqb, ltb, Float}
use Rattle.std.proofs.Common.{sym, ◌∙◌, subst, inl, inr, ⊎_elim, eq-or-lt_of_le, arith, length-set, eqb-true, ltb-true, ltb-false}
use Rattle.std.proofs.Math.Path.{ap}
use Rattle.std.proofs.Math.ListN.{length}
use Rattle.std.proofs.lemmas.Bool.{eqb-false}
use Rattle.outline.specs.Outline.{Outline}
use Rattle.topology.specs.Sums.{front_sum}
use Rattle.front.specs.declared.Corner.{Corner}
use Rattle.front.specs.declared.Corner.TheVariants.{Reused, Fresh}
use Rattle.front.specs.State.{State, node, next_of, has_edge, edge_places, push_node, push_quad, push_edge, add_edge, add_front, remove_front}
use Rattle.front.specs.Place.{corner_point, corner_id, id_c, id_d, push_corner, take_off, put_on, move_front, add_edges, place}
use Rattle.front.specs.Place as front
use Rattle.front.specs.Sound.{Sound, Frame}
use Rattle.front.proofs.FrameLaws.{frame_node, frame_edge_places}
use Rattle.front.proofs.Pushed.{IsNode, with_corners}
use Rattle.paving.proofs.AttemptLaws.{quad_chosen}
use Rattle.paving.specs.Reach.{Placement}
use Rattle.books.specs.Book.{quad_at}
use Rattle.books.proofs.BookBase.{frame_quad}
use Rattle.books.proofs.Step.{Stepped, answered_step}
use Rattle.run_capacity.proofs.Alike.{EdgesAlike, Alike, add_alike}
use Rattle.run_capacity.proofs.Attempts.{ReadsAlike, reads_alike, in_c, in_d, point_alike, id_c_lem, id_d_lem}

-- ---- the mesh edges of a placing are those of `add_edges`

-- u has the mesh edges and the snapshot of s
pub record SameEdges (s u : State) : Type 0 where
  pub list : u.edges ≡ s.edges
  pub number : u.counts.edges ≡ s.counts.edges
  pub snapshot : u.snapshot ≡ s.snapshot

pub same_trans : {s t u : State} → SameEdges s t → SameEdges t u → SameEdges s u
same_trans P Q = record { list = Q.list ∙ P.list; number = Q.number ∙ P.number; snapshot = Q.snapshot ∙ P.snapshot }

pub either : (b : Bool) (s t u : State) → SameEdges s t → SameEdges s u → SameEdges s (cond b t u)
either true s t u P Q = P
either false s t u P Q = Q

same_corner : (c : Corner) (s : State) → SameEdges s (push_corner c s)
unfolding push_node
same_corner (Reused id) s = record { list = refl; number = refl; snapshot = refl }
same_corner (Fresh x y) s = record { list = refl; number = refl; snapshot = refl }

same_quad : (a b d c : ℕ) (s : State) → SameEdges s (push_quad a b d c s)
unfolding push_quad
same_quad a b d c s = record { list = refl; number = refl; snapshot = refl }

pub same_add : (u v : ℕ) (s : State) → SameEdges s (add_front u v s)
unfolding add_front
same_add u v s = record { list = refl; number = refl; snapshot = refl }

same_remove : (u v : ℕ) (s : State) → SameEdges s (remove_front u v s)
unfolding remove_front
same_remove u v s =
    either (eqb (next_of s u) v) s _ s (record { list = refl; number = refl; snapshot = refl })
    (record { list = refl; number = refl; snapshot = refl })

same_off : (c : Corner) (u v : ℕ) (s : State) → SameEdges s (take_off c u v s)
same_off (Reused id) u v s = same_remove u v s
same_off (Fresh x y) u v s = record { list = refl; number = refl; snapshot = refl }

same_on : (c : Corner) (u v : ℕ) (s : State) → SameEdges s (put_on c u v s)
same_on (Reused id) u v s = record { list = refl; number = refl; snapshot = refl }
same_on (Fresh x y) u v s = same_add u v s

same_move : (c d : Corner) (a b D C : ℕ) (s : State) → SameEdges s (move_front c d a b D C s)
unfolding move_front
same_move c d a b D C s =
    same_trans (same_remove a b s) (same_trans (same_off c C a _) (same_trans (same_off d b D _)
    (same_trans (same_on c a C _) (same_trans (same_add C D _) (same_on d D b _)))))

same_place : (a b : ℕ) (c d : Corner) (s : State) → SameEdges (add_edges a b (id_d s c d) (id_c s c) (with_corners c d s)) (place a b c d s)
unfolding place
same_place a b c d s = same_trans (same_quad a b (id_d s c d) (id_c s c) _) (same_move c d a b (id_d s c d) (id_c s c) _)

-- ---- four edges more

pub alike_same : (n : ℕ) (s t u v : State) → EdgesAlike n s t → SameEdges s u → SameEdges t v → EdgesAlike n u v
alike_same n s t u v E P Q =
    record {
      number = Q.number ∙ (E.number ∙ sym P.number);
      ends = rw (P.list, P.number, Q.list) E.ends;
      below = rw (P.list, P.number) E.below;
    }

pub alike_more : (m n : ℕ) (s t : State) → m ≤ n → EdgesAlike m s t → EdgesAlike n s t
alike_more m n s t h E = record { number = E.number; ends = E.ends; below = λ i l. omega (arith, E.below i l) }

-- an edge more takes no place more in the list
pub record Longer (s t : State) : Type 0 where
  pub more : s.counts.edges ≤ t.counts.edges
  pub long : length t.edges ≡ length s.edges
  pub snapshot : t.snapshot ≡ s.snapshot

pub longer : (u v : ℕ) (s : State) → Longer s (add_edge u v s)
unfolding add_edge push_edge
longer u v s = by (has_edge s u v)
  where
    by : (b : Bool) → Longer s (cond b s (push_edge (min u v) (max u v) s))
    by true = record { more = omega arith; long = refl; snapshot = refl }
    by false = record { more = omega arith; long = simp length-set; snapshot = refl }

four_alike : (n : ℕ) (s t : State) (a b d c : ℕ) → a < n → b < n → d < n → c < n
    → 2 * (add_edges a b d c s).counts.edges ≤ length s.edges → 2 * (add_edges a b d c t).counts.edges ≤ length t.edges
    → EdgesAlike n s t → EdgesAlike n (add_edges a b d c s) (add_edges a b d c t)
unfolding add_edges
four_alike n s t a b d c ha hb hd hc long wide E =
    let s1 = add_edge a b s in
    let s2 = add_edge b d s1 in
    let s3 = add_edge d c s2 in
    let t1 = add_edge a b t in
    let t2 = add_edge b d t1 in
    let t3 = add_edge d c t2 in
    let p1 = longer a b s in
    let p2 = longer b d s1 in
    let p3 = longer d c s2 in
    let p4 = longer c a s3 in
    let q1 = longer a b t in
    let q2 = longer b d t1 in
    let q3 = longer d c t2 in
    let q4 = longer c a t3 in
    let e1 = add_alike n s t a b ha hb (omega (arith, p2.more, p3.more, p4.more)) (omega (arith, q2.more, q3.more, q4.more)) E in
    let e2 = add_alike n s1 t1 b d hb hd (omega (arith, p1.long, p3.more, p4.more)) (omega (arith, q1.long, q3.more, q4.more)) e1 in
    let e3 = add_alike n s2 t2 d c hd hc (omega (arith, p1.long, p2.long, p4.more)) (omega (arith, q1.long, q2.long, q4.more)) e2 in
    add_alike n s3 t3 c a hc ha (omega (arith, p1.long, p2.long, p3.long)) (omega (arith, q1.long, q2.long, q3.long)) e3

-- the snapshot stays through a placing
pub place_snapshot : (a b : ℕ) (c d : Corner) (s : State) → (place a b c d s).snapshot ≡ s.snapshot
unfolding add_edges
place_snapshot a b c d s =
    let D = id_d s c d in
    let C = id_c s c in
    let u = with_corners c d s in
    let u1 = add_edge a b u in
    let u2 = add_edge b D u1 in
    let u3 = add_edge D C u2 in
    (same_place a b c d s).snapshot
    ∙ ((longer C a u3).snapshot ∙ ((longer D C u2).snapshot ∙ ((longer b D u1).snapshot ∙ ((longer a b u).snapshot
    ∙ (same_trans (same_corner c s) (same_corner d (push_corner c s))).snapshot))))

-- ---- a placing

-- a node that a placing adds is one of its corners
new_id : (c d : Corner) (n id : ℕ) → n ≤ id → id < n + front.added c + front.added d
    → (id ≡ corner_id n c) ⊎ (id ≡ corner_id (n + front.added c) d)
new_id (Reused c) (Reused d) n id h g = absurd (omega arith)
new_id (Reused c) (Fresh x y) n id h g = inr (omega arith)
new_id (Fresh x y) (Reused d) n id h g = inl (omega arith)
new_id (Fresh x y) (Fresh z w) n id h g = by (eqb id n) refl
  where
    by : (b : Bool) → eqb id n ≡ b → (id ≡ n) ⊎ (id ≡ n + 1)
    by true e = inl (eqb-true id n e)
    by false e = let other = eqb-false id n e in inr (omega arith)

module _ (n : ℕ) (s t : State) (ls ms : List (List ℕ)) (S : Sound n s ls) (T : Sound n t ms) (A : Alike s t ls ms) (o : Outline) (size : Float)
    (a b : ℕ) (c d : Corner) (P : Placement o size s a b c d) (Q : Placement o size t a b c d) where
  abbrev X : Stepped n s ls a b c d (place a b c d s)
  X = answered_step n s ls o size a b c d S P

  abbrev Z : Stepped n t ms a b c d (place a b c d t)
  Z = answered_step n t ms o size a b c d T Q

  R : ReadsAlike s t
  R = reads_alike n s t ls ms S T A

  corner_c_lem : corner_point t c ≡ corner_point s c
  corner_c_lem =
      point_alike s t R c
      (subst (IsNode s.counts.nodes) (quad_chosen o size s a b P.da P.db c d P.answered).at_c
      (in_c s t R o size a b X.node_a X.node_b P.da))

  corner_d_lem : corner_point t d ≡ corner_point s d
  corner_d_lem =
      point_alike s t R d
      (subst (IsNode s.counts.nodes) (quad_chosen o size s a b P.da P.db c d P.answered).at_d
      (in_d s t R o size a b X.node_a X.node_b P.db))

  count : (place a b c d t).counts.nodes ≡ (place a b c d s).counts.nodes
  count = omega (arith, X.nodes, Z.nodes, A.nodes)

  points : (id : ℕ) → id < (place a b c d s).counts.nodes → node (place a b c d t) id ≡ node (place a b c d s) id
  points id h = by (ltb id s.counts.nodes) refl
    where
      by : (old : Bool) → ltb id s.counts.nodes ≡ old → node (place a b c d t) id ≡ node (place a b c d s) id
      by true e =
          let l = ltb-true id s.counts.nodes e in
          frame_node t (place a b c d t) Z.frame id (omega (arith, A.nodes))
          ∙ (A.points id l ∙ sym (frame_node s (place a b c d s) X.frame id l))
      by false e =
          ⊎_elim
          (λ q. rw q (ap (node (place a b c d t)) (sym (id_c_lem s t R c)) ∙ (Z.at_c ∙ (corner_c_lem ∙ sym X.at_c))))
          (λ q. rw q (ap (node (place a b c d t)) (sym (id_d_lem s t R c d)) ∙ (Z.at_d ∙ (corner_d_lem ∙ sym X.at_d))))
          (new_id c d s.counts.nodes id (ltb-false id s.counts.nodes e) (omega (arith, X.nodes)))

  last : quad_at (place a b c d t) s.counts.quads ≡ quad_at (place a b c d s) s.counts.quads
  last = ap (quad_at (place a b c d t)) (sym A.quads) ∙ (Z.quad ∙ rw (id_c_lem s t R c, id_d_lem s t R c d) (sym X.quad))

  answered : (k : ℕ) → k < (place a b c d s).counts.quads → quad_at (place a b c d t) k ≡ quad_at (place a b c d s) k
  answered k h =
      let below : k ≤ s.counts.quads = omega (arith, X.quads) in
      ⊎_elim (λ e. rw e last)
      (λ l.
      frame_quad t (place a b c d t) Z.frame k (omega (arith, A.quads))
      ∙ (A.answered k l ∙ sym (frame_quad s (place a b c d s) X.frame k l)))
      (eq-or-lt_of_le below)

  sums : (w : ℕ → ℕ → ℕ) → front_sum w Z.loops ≡ front_sum w X.loops
  sums w =
      let later = rw (id_c_lem s t R c, id_d_lem s t R c d) at (Z.sums w) in
      omega (arith, later, X.sums w, A.sums w)

  room : (u : State) (us : List (List ℕ)) → Sound n (place a b c d u) us → Frame u (place a b c d u)
      → 2 * (add_edges a b (id_d u c d) (id_c u c) (with_corners c d u)).counts.edges ≤ length (with_corners c d u).edges
  unfolding edge_places
  room u us W F =
      let list = (same_trans (same_corner c u) (same_corner d (push_corner c u))).list in
      omega (arith, W.edges_fit, frame_edge_places u (place a b c d u) F, (same_place a b c d u).number, ap length list)

  edges : EdgesAlike (place a b c d s).counts.nodes (place a b c d s) (place a b c d t)
  edges =
      let N = (place a b c d s).counts.nodes in
      let C = id_c s c in
      let D = id_d s c d in
      let more = X.frame.nodes in
      let base =
      alike_same N s t (with_corners c d s) (with_corners c d t) (alike_more _ N s t more A.edges)
      (same_trans (same_corner c s) (same_corner d (push_corner c s))) (same_trans (same_corner c t) (same_corner d (push_corner c t))) in
      let four =
      four_alike N (with_corners c d s) (with_corners c d t) a b D C (omega (arith, X.node_a)) (omega (arith, X.node_b)) X.node_d X.node_c
      (room s X.loops X.sound X.frame)
      (rw (id_c_lem s t R c, id_d_lem s t R c d) at (room t Z.loops Z.sound Z.frame)) base in
      alike_same N (add_edges a b D C (with_corners c d s)) (add_edges a b D C (with_corners c d t)) (place a b c d s) (place a b c d t) four
      (same_place a b c d s) (rw (id_c_lem s t R c, id_d_lem s t R c d) at (same_place a b c d t))

  pub place_alike : Alike (place a b c d s) (place a b c d t) X.loops Z.loops
  place_alike =
      record {
        nodes = count;
        quads = omega (arith, X.quads, Z.quads, A.quads);
        points = points;
        answered = answered;
        sums = sums;
        edges = edges;
      }
