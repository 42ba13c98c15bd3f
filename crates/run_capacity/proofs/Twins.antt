-- What holds of the definitions of specs/Twins.antt.
use Rattle.std.specs.Prelude.{ℕ, ◌+◌, ◌<◌, ◌≤◌, List, ◌≡◌, refl, Bool, true, false, not, ◌&&◌, ◌||◌, ltb, eqb, get_or, Float}
use Rattle.std.proofs.Math.Path.{sym}
use Rattle.std.proofs.Common.{◌∙◌, ap, ap₂, ltb-false, le-ltb, eqb-true}
use native.Mathlib.Omega.{arith}
use Rattle.std.proofs.lemmas.Bool.{eqb-false}
use Rattle.outline.specs.Outline.{Outline}
use Rattle.topology.specs.Links.{off, link_in_lem}
use Rattle.topology.proofs.Front.{source, target, next_edge}
use Rattle.field_direction.specs.Record.{FieldRecord}
use Rattle.front.specs.declared.Corner.{Corner}
use Rattle.front.specs.State.{State, next_of, node_places, quad_places, edge_places}
use Rattle.front.specs.Place.{id_c, id_d, added, edges_added, is_full, place}
use Rattle.front.specs.Sound.{Sound, Frame}
use Rattle.front.proofs.FrameLaws.{frame_node_places, frame_quad_places, frame_edge_places}
use Rattle.paving.specs.Attempt.{try_edge}
use Rattle.paving.specs.Advance.{is_there, with_snapshot}
use Rattle.paving.specs.Reach.{Placement}
use Rattle.books.specs.Book.{quad_at}
use Rattle.books.proofs.Step.{answered_step}
use Rattle.books.proofs.Snapshot.{snapshot_frame, snapshot_sound}
use Rattle.books_hold.proofs.EndBase.{copied_at}
use Rattle.run_capacity.proofs.Alike.{Alike, next_alike, edges_has}
use Rattle.run_capacity.proofs.Attempts.{reads_alike, id_c_lem, id_d_lem, try_alike}
use Rattle.run_capacity.proofs.Placings.{place_alike}
use Rattle.run_capacity.specs.Twins.{NoFewer}

-- ---- definitions

-- s and t are sound and alike, of n points sampled, and t has no fewer places
pub record Twins (n : ℕ) (s t : State) : Type 0 where
  pub ls : List (List ℕ)
  pub ms : List (List ℕ)
  pub first : Sound n s ls
  pub second : Sound n t ms
  pub alike : Alike s t ls ms
  pub places : NoFewer s t

-- the snapshots agree on the first m nodes
abbrev pub SnapshotsAgree : ℕ → State → State → Type 0
SnapshotsAgree m s t = (a : ℕ) → a < m → get_or t.snapshot a 0 ≡ get_or s.snapshot a 0

-- ---- laws

no_fewer_later : (s t u v : State) → Frame s u → Frame t v → NoFewer s t → NoFewer u v
no_fewer_later s t u v F G N =
    record {
      nodes = omega (arith, frame_node_places s u F, frame_node_places t v G, N.nodes);
      quads = omega (arith, frame_quad_places s u F, frame_quad_places t v G, N.quads);
      edges = omega (arith, frame_edge_places s u F, frame_edge_places t v G, N.edges);
    }

-- the three tests of `is_full`: where none is met, none is with more places
no_more : (p q r x y z : ℕ) (p' q' r' x' y' z' : ℕ) → p ≤ p' → q ≤ q' → r ≤ r' → x' ≡ x → y' ≡ y → z' ≡ z
    → (ltb p x || (ltb q y || ltb r z)) ≡ false → (ltb p' x' || (ltb q' y' || ltb r' z')) ≡ false
no_more p q r x y z p' q' r' x' y' z' hp hq hr ex ey ez = by (ltb p x) refl (ltb q y) refl (ltb r z) refl
  where
    by : (i : Bool) → ltb p x ≡ i → (j : Bool) → ltb q y ≡ j → (k : Bool) → ltb r z ≡ k → (i || (j || k)) ≡ false
        → (ltb p' x' || (ltb q' y' || ltb r' z')) ≡ false
    by false i false j false k e =
        rw (
          le-ltb p' x' (omega (arith, ltb-false p x i)),
          le-ltb q' y' (omega (arith, ltb-false q y j)),
          le-ltb r' z' (omega (arith, ltb-false r z k)),
        )
    by true i j h k l e = absurd (let z : ◌≡◌ {A = ℕ} 0 1 = cc in omega arith)
    by false i true j k l e = absurd (let z : ◌≡◌ {A = ℕ} 0 1 = cc in omega arith)
    by false i false j true k e = absurd (let z : ◌≡◌ {A = ℕ} 0 1 = cc in omega arith)

module _ (n : ℕ) (s t : State) (W : Twins n s t) where
  next_same : (u : ℕ) → next_of t u ≡ next_of s u
  next_same = next_alike n s t W.ls W.ms W.first W.second W.alike

  pub there_same : (a b : ℕ) → is_there t a b ≡ is_there s a b
  there_same a b = rw (next_same a)

  -- an edge that is there begins and ends at nodes
  there_in : (a b : ℕ) → is_there s a b ≡ true → (a < s.counts.nodes) × (b < s.counts.nodes)
  there_in a b = by (eqb b off) refl (eqb (next_of s a) b) refl
    where
      by : (p : Bool) → eqb b off ≡ p → (q : Bool) → eqb (next_of s a) b ≡ q → not p && q ≡ true
          → (a < s.counts.nodes) × (b < s.counts.nodes)
      by false p true q e =
          let L = W.first.front.loops in
          let edge = next_edge _ _ W.ls L a b (eqb-false b off p) (eqb-true (next_of s a) b q) in
          (source _ _ W.ls L a b (omega (arith, edge)), target _ _ W.ls L a b (omega (arith, edge)))
      by false p false q e = absurd (let z : ◌≡◌ {A = ℕ} 0 1 = cc in omega arith)
      by true p q r e = absurd (let z : ◌≡◌ {A = ℕ} 0 1 = cc in omega arith)

  pub try_same : (o : Outline) (size : Float) (field : FieldRecord) (a b : ℕ) → is_there s a b ≡ true
      → try_edge o size field t a b ≡ try_edge o size field s a b
  try_same o size field a b e =
      let h = there_in a b e in
      try_alike s t (reads_alike n s t W.ls W.ms W.first W.second W.alike) o size a b h.0 h.1 field

  -- the quad adds as many edges
  added_same : (a b : ℕ) (c d : Corner) → edges_added t a b (id_d t c d) (id_c t c) ≡ edges_added s a b (id_d s c d) (id_c s c)
  unfolding edges_added
  added_same a b c d =
      let R = reads_alike n s t W.ls W.ms W.first W.second W.alike in
      let has = edges_has s.counts.nodes s t W.alike.edges in
      let C = id_c s c in
      let D = id_d s c d in
      rw (id_c_lem s t R c, id_d_lem s t R c d, has a b, has b D, has D C, has C a)

  -- what fits s fits t
  pub fits_too : (a b : ℕ) (c d : Corner) → is_full s a b c d ≡ false → is_full t a b c d ≡ false
  unfolding is_full
  fits_too a b c d e =
      let A = W.alike in
      let N = W.places in
      no_more (node_places s) (quad_places s) (edge_places s) _ _ _ (node_places t) (quad_places t) (edge_places t) _ _ _ N.nodes N.quads N.edges
      (ap (λ (k : ℕ). k + added c + added d) A.nodes) (ap (λ (k : ℕ). k + 1) A.quads)
      (ap₂ (λ (j k : ℕ). j + k) A.edges.number (added_same a b c d)) e

  pub place_twins : (o : Outline) (size : Float) (a b : ℕ) (c d : Corner) → Placement o size s a b c d → Placement o size t a b c d
      → Twins n (place a b c d s) (place a b c d t)
  place_twins o size a b c d P Q =
      let X = answered_step n s W.ls o size a b c d W.first P in
      let Z = answered_step n t W.ms o size a b c d W.second Q in
      record {
        ls = X.loops;
        ms = Z.loops;
        first = X.sound;
        second = Z.sound;
        alike = place_alike n s t W.ls W.ms W.first W.second W.alike o size a b c d P Q;
        places = no_fewer_later s t (place a b c d s) (place a b c d t) X.frame Z.frame W.places;
      }

  -- the snapshots that a pass begins with
  pub snapshot_twins : Twins n (with_snapshot s) (with_snapshot t)
  unfolding with_snapshot quad_at
  snapshot_twins =
      let A = W.alike in
      let E = A.edges in
      record {
        ls = W.ls;
        ms = W.ms;
        first = snapshot_sound n s W.ls W.first;
        second = snapshot_sound n t W.ms W.second;
        alike = record {
          nodes = A.nodes;
          quads = A.quads;
          points = A.points;
          answered = A.answered;
          sums = A.sums;
          edges = record { number = E.number; ends = E.ends; below = E.below };
        };
        places = no_fewer_later s t (with_snapshot s) (with_snapshot t) (snapshot_frame s) (snapshot_frame t) W.places;
      }

  pub snapshots_agree : SnapshotsAgree s.counts.nodes (with_snapshot s) (with_snapshot t)
  unfolding with_snapshot node_places
  snapshots_agree a h =
      let m = s.counts.nodes in
      let same = W.alike.nodes in
      let g : a < t.counts.nodes = omega arith in
      copied_at t.counts.nodes t.next t.snapshot (omega (arith, W.second.nodes_fit)) a g
      ∙ (sym (link_in_lem t.counts.nodes t.next a g)
      ∙ (next_same a
      ∙ (link_in_lem m s.next a h ∙ sym (copied_at m s.next s.snapshot (omega (arith, W.first.nodes_fit)) a h))))
