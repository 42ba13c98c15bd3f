-- What a placing may use of a mesh that 23 and 24 let pass: `on_front_lem`. So the quad that an attempt answers fits where it isn't full, and the
-- attempts can be made with no pools and no blocks. Assumes nothing.
use Rattle.std.specs.Prelude.{Bool, List, ◌≡◌, ◌≢◌, ℕ, ◌+◌, ◌<◌, ◌≤◌, eqb, length, get_or, Float, Some, None}
use Rattle.std.proofs.Math.Bool.{true, false, not, cond, true≢false}
use Rattle.std.proofs.Math.Path.{refl, ap, subst}
use Rattle.std.proofs.Common.{sym, ◌∙◌}
use native.Mathlib.Omega.{arith}
use Rattle.std.proofs.Math.Dec.{ltb}
use borrow.Author.Tests.{eqb-true, eqb-false, ltb-true, eq-eqb, lt-leb}
use Rattle.laws.specs.Tests.{both}
use Rattle.outline.specs.declared.Point.{Point}
use Rattle.outline.specs.Outline.{Outline}
use Rattle.outline.specs.Accepted.{first_zero}
use Rattle.outline_blocks.specs.Blocks.{Drawn}
use Rattle.outline_blocks.proofs.BlockLaws.{drawn_none}
use Rattle.index_pools.specs.declared.Rect.{Rect}
use Rattle.index_pools.specs.Pool.{filed, Indexed}
use Rattle.field_direction.specs.declared.Grid.{Grid}
use Rattle.field_direction.specs.Cells.{FieldLent}
use Rattle.field_direction.specs.Record.{FieldRecord}
use Rattle.topology.specs.Links.{off, link_of}
use Rattle.front.specs.declared.Counts.{Counts}
use Rattle.front.specs.declared.Corner.{Corner}
use Rattle.front.specs.declared.Corner.TheVariants.{Reused, Fresh}
use Rattle.front.specs.State.{State, next_of, prev_of}
use Rattle.front.specs.Neighbours.{neighbour_of}
use Rattle.front.specs.Place.{added, corner_id, id_c, id_d, is_full}
use Rattle.front.specs.Stores.{Ids}
use Rattle.paving.specs.Attempt.{is_reused, corner_at, corner_c, corner_d, try_edge, far}
use Rattle.paving.proofs.AttemptLaws.{quad_chosen}
use Rattle.paving.specs.Advance.{is_there}
use Rattle.paving.specs.ReachLaws.{tried}
use Rattle.paving_attempts.specs.Seen.{TryLent}
use Rattle.hand_mesh_check.specs.Check.{lent_state, mesh_refusal, edge_refusal}
use Rattle.hand_mesh_check.specs.Passed.{room, MeshRoom, mesh_passes, link_within, front_few}
use Rattle.hand_placing.specs.Room.{QuadRoom}
use Rattle.hand_placing.proofs.PlaceLaws.{quad_room}
use Rattle.hand_steps.specs.Hand.{hand_refusal}
use Rattle.hand_steps.specs.Lent.{Around, OnFront}

-- only a node that is there has a link
node_there : (n : ℕ) (l : List ℕ) (u : ℕ) → link_of n l u ≢ off → u < n
unfolding link_of
node_there n l u = by (ltb u n) refl
  where
    by : (t : Bool) → ltb u n ≡ t → cond t (get_or l u off) off ≢ off → u < n
    by true e h = ltb-true u n e
    by false e h = absurd (h refl)

module _ (s : State) where
  pub there_of : (a b : ℕ) → edge_refusal s a b ≡ 0 → is_there s a b ≡ true
  unfolding edge_refusal
  there_of a b = by (is_there s a b)
    where
      by : (t : Bool) → cond {A = ℕ} t 0 24 ≡ 0 → t ≡ true
      by true e = refl
      by false e = absurd (omega arith)

  pub on_front_lem : (a b : ℕ) → hand_refusal s a b ≡ 0 → OnFront s a b
  unfolding hand_refusal
  on_front_lem a b e =
      let n = s.counts.nodes in
      let halves = first_zero (mesh_refusal s) (edge_refusal s a b) e in
      let P = mesh_passes s halves.0 in
      let there = both (not (eqb b off)) (eqb (next_of s a) b) (there_of a b halves.1) in
      let is_b : next_of s a ≡ b = eqb-true (next_of s a) b there.1 in
      let on : b ≢ off = λ z. true≢false (sym there.0 ∙ ap not (eq-eqb b off z)) in
      let linked_a : next_of s a ≢ off = λ z. on (sym is_b ∙ z) in
      let A : a < n = node_there n s.next a linked_a in
      let B : b < n = subst (λ (v : ℕ). v < n) is_b (link_within n s.next s.prev a (P.nexts a A) linked_a) in
      record {
        passes = P;
        there = is_b;
        id_a = A;
        id_b = B;
        at_a = link_within n s.prev s.next a (P.prevs a A);
        at_b = link_within n s.next s.prev b (P.nexts b B);
      }

-- ---- the corners

-- a corner that is reused is one of the first n nodes
abbrev pub Below : ℕ → Corner → Type 0
Below n (Reused id) = id < n
Below n (Fresh x y) = Unit {0}

corner_below : (size : Float) (s : State) (other v : ℕ) (p : Point) (c : Corner) (n : ℕ) → corner_at size s other (neighbour_of v) p ≡ c
    → (v ≢ off → v < n) → Below n c
unfolding corner_at neighbour_of
corner_below size s other v p c n e within = by (eqb v off) refl e
  where
    at : v ≢ off → (t : Bool) → cond t (Reused v) (Fresh p.x p.y) ≡ c → Below n c
    at on true e = subst (Below n) e (within on)
    at on false e = subst (Below n) e tt

    by : (t : Bool) → eqb v off ≡ t → corner_at size s other (cond t None (Some v)) p ≡ c → Below n c
    by true r e = subst (Below n) e tt
    by false r e = at (eqb-false v off r) (is_reused size s other v p) e

below_id : (c : Corner) (n m : ℕ) → Below n c → n ≤ m → corner_id m c < m + added c
below_id (Reused id) n m h l = omega arith
below_id (Fresh x y) n m h l = omega arith

module _ (o : Outline) (size : Float) (field : FieldRecord) (s : State) (a b : ℕ) (S : OnFront s a b) (c d : Corner) where
  pub quad_below : try_edge o size field s a b ≡ Some (far c d) → Below s.counts.nodes c × Below s.counts.nodes d
  unfolding corner_c corner_d
  quad_below e =
      let A = tried o size field s a b c d e in
      let Q = quad_chosen o size s a b A.da A.db c d A.answered in
      (corner_below size s b (prev_of s a) _ c _ Q.at_c S.at_a, corner_below size s a (next_of s b) _ d _ Q.at_d S.at_b)

  pub quad_ids : try_edge o size field s a b ≡ Some (far c d) → Ids (s.counts.nodes + (added c + added d)) a b (id_c s c) (id_d s c d)
  quad_ids e =
      let n = s.counts.nodes in
      let B = quad_below e in
      let C = below_id c n n B.0 (omega arith) in
      let D = below_id d n (n + added c) B.1 (omega arith) in
      record {
        id_a = omega (arith, S.id_a);
        id_b = omega (arith, S.id_b);
        id_c_lem = omega (arith, C);
        id_d_lem = omega (arith, D);
      }

-- ---- the lists as they are lent

module _ (xs ys : List Float) (next prev origins quads edges : List ℕ) (k : Counts) (a b : ℕ)
    (S : OnFront (lent_state xs ys next prev origins quads edges k) a b) where
  pub front_room : MeshRoom xs ys next prev origins quads edges k.nodes k.quads k.edges
  front_room = room xs ys next prev origins quads edges k k.nodes k.quads k.edges S.passes.counts

  pub quad_fits_lem : (o : Outline) (size : Float) (field : FieldRecord) (c d : Corner)
      → try_edge o size field (lent_state xs ys next prev origins quads edges k) a b ≡ Some (far c d)
      → is_full (lent_state xs ys next prev origins quads edges k) a b c d ≡ false → QuadRoom xs ys next prev quads edges k a b c d
  quad_fits_lem o size field c d e full =
      let s = lent_state xs ys next prev origins quads edges k in
      quad_room xs ys next prev origins quads edges k a b c d full (quad_ids o size field s a b S c d e)
      (omega (arith, front_few s S.passes, front_room.nodes.few))

  -- a pool with no place has nothing filed
  unfiled : (pool : List ℕ) (rects : ℕ → Rect) (count : ℕ) → length pool ≡ 0 → Indexed pool rects count
  unfolding filed
  unfiled pool rects count e =
      record {
        within = rw (lt-leb 4 (length pool) (omega (arith, e))) (omega arith);
        first = λ l. absurd (omega (arith, e));
        full = λ l m. absurd (omega (arith, e));
      }

  pub lent_to_try : (g : Grid) (values : List Float) (size : Float) (nodes pairs : List ℕ) → FieldLent g values → length nodes ≡ 0 → length pairs ≡ 0
      → TryLent g values size xs ys next prev edges nodes pairs k
  lent_to_try g values size nodes pairs field en ep =
      let R = front_room in
      record {
        attempt =
            record {
              quad =
                  record {
                    nodes = record { filed = unfiled nodes _ k.nodes en };
                    within =
                        record { nodes_few = R.nodes.few; indexed = record { edges_fit = R.edges_fit; filed = unfiled pairs _ k.edges ep } };
                  };
              next_fit = R.nodes.next_fit;
              prev_fit = R.nodes.prev_fit;
            };
        field = field;
      }

  pub try_lent : (o : Outline) (g : Grid) (values : List Float) (size : Float) (blocks nodes pairs : List ℕ) → Around o g values
      → length blocks ≡ 0 → length nodes ≡ 0 → length pairs ≡ 0
      → Drawn o blocks × TryLent g values size xs ys next prev edges nodes pairs k
  try_lent o g values size blocks nodes pairs A eb en ep =
      (drawn_none A.taken A.fits eb, lent_to_try g values size nodes pairs A.field en ep)
