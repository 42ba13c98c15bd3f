-- The quad and its new nodes, as a preview answers them, are those of the mesh after the placing. Assumes nothing.
use Rattle.std.proofs.Math.Bool.{Bool, cond}
use Rattle.std.specs.Prelude.{true, false, ◌≡◌, ℕ, ◌+◌, ◌-◌, ◌*◌, ◌≤◌, leb, length, get_or, set, Float, Option, Some, None}
use mathlib.Core.List.{List}
use Rattle.std.proofs.Math.Path.{refl, ap}
use Rattle.std.proofs.Common.{◌∙◌, arith, length-set, get_or-set_same, get_or-set_other, le-leb}
use Rattle.std.specs.Float.{nan}
use Rattle.std.proofs.lemmas.Bool.{lt-leb}
use Rattle.numbers.specs.Float.{zero_f}
use Rattle.outline.specs.Outline.{Outline}
use Rattle.field_direction.specs.Record.{FieldRecord}
use Rattle.front.specs.declared.Counts.{Counts}
use Rattle.front.specs.declared.Corner.{Corner}
use Rattle.front.specs.declared.Corner.TheVariants.{Reused, Fresh}
use Rattle.front.specs.State.{State, node_in, quad_at}
use Rattle.front.specs.Place.{added, corner_id, id_c, id_d, place, is_full}
use Rattle.front.specs.Stores.{store_x, store_y}
use Rattle.front.proofs.StateAfter.{quad_reads}
use Rattle.front.specs.declared.FarCorners.{FarCorners}
use Rattle.paving.specs.Attempt.{try_edge, far}
use Rattle.paving.specs.Advance.{most_quads}
use Rattle.hand_mesh_check.specs.Check.{lent_state}
use Rattle.hand_placing.proofs.Local.{placed_nodes, placed_quads, placed_xs, placed_ys}
use Rattle.hand_steps.specs.declared.StepOutcome.TheVariants.{Placed, Cap}
use Rattle.hand_steps.specs.Hand.{handled, settled_on, place_on}
use Rattle.hand_steps.specs.Lent.{OnFront}
use Rattle.hand_steps.proofs.UseBase.{Below, quad_below, quad_fits_lem}
use Rattle.hand_previews.specs.Preview.{foresight, foreseen, foreseen_on, view_on}
use Rattle.hand_step_answers.specs.declared.PreviewAnswer.{PreviewAnswer}
use Rattle.hand_step_answers.specs.Answers.{fresh_x, fresh_y, view_numbers}
use Rattle.hand_step_entries.specs.Entries.{new_x, new_y, copy_numbers}

-- ---- a coordinate of the new corners, in a list that stores them

-- the value of a new corner is stored as entry n
abbrev store : Float → Corner → ℕ → List Float → List Float
store v (Reused id) n l = l
store v (Fresh x y) n l = set l n v

-- the value, where the corner is new
abbrev fresh : Float → Corner → Float
fresh v (Reused id) = zero_f
fresh v (Fresh x y) = v

store_length : (v : Float) (c : Corner) (n : ℕ) (l : List Float) → length (store v c n l) ≡ length l
store_length v (Reused id) n l = refl
store_length v (Fresh x y) n l = length-set l n v

-- what is read of entry id, where it is none of the first n
abbrev new_in : ℕ → List Float → ℕ → Float
new_in n l id = cond (leb n id) (get_or l id nan) zero_f

module _ (v w : Float) (l : List Float) (n : ℕ) where
  reads_c : (c d : Corner) → n + (added c + added d) ≤ length l → Below n c
      → new_in n (store w d (n + added c) (store v c n l)) (corner_id n c) ≡ fresh v c
  reads_c (Reused id) d h below = rw (lt-leb n id below)
  reads_c (Fresh x y) (Reused id) h below = rw (le-leb n n (omega arith)) (get_or-set_same l n v nan (omega arith))
  reads_c (Fresh x y) (Fresh z u) h below =
      rw (le-leb n n (omega arith)) (get_or-set_other (set l n v) (n + 1) n w nan (omega arith) ∙ get_or-set_same l n v nan (omega arith))

  reads_d : (c d : Corner) → n + (added c + added d) ≤ length l → Below n d
      → new_in n (store w d (n + added c) (store v c n l)) (corner_id (n + added c) d) ≡ fresh w d
  reads_d c (Reused id) h below = rw (lt-leb n id below)
  reads_d c (Fresh z u) h below =
      rw (le-leb n (n + added c) (omega arith))
      (get_or-set_same (store v c n l) (n + added c) w nan (omega (arith, store_length v c n l)))

store_x_lem : (c : Corner) (n : ℕ) (l : List Float) → store_x c n l ≡ store (fresh_x c) c n l
store_x_lem (Reused id) n l = refl
store_x_lem (Fresh x y) n l = refl

store_y_lem : (c : Corner) (n : ℕ) (l : List Float) → store_y c n l ≡ store (fresh_y c) c n l
store_y_lem (Reused id) n l = refl
store_y_lem (Fresh x y) n l = refl

fresh_x_lem : (c : Corner) → fresh (fresh_x c) c ≡ fresh_x c
fresh_x_lem (Reused id) = refl
fresh_x_lem (Fresh x y) = refl

fresh_y_lem : (c : Corner) → fresh (fresh_y c) c ≡ fresh_y c
fresh_y_lem (Reused id) = refl
fresh_y_lem (Fresh x y) = refl

-- ---- the quad

module _ (s : State) (a b : ℕ) (c d : Corner) (room : 4 * (s.counts.quads + 1) ≤ length s.quads)
    (xs_fit : s.counts.nodes + (added c + added d) ≤ length s.xs) (ys_fit : s.counts.nodes + (added c + added d) ≤ length s.ys)
    (at_c : Below s.counts.nodes c) (at_d : Below s.counts.nodes d) where
  abbrev t : State
  t = place a b c d s

  abbrev n : ℕ
  n = s.counts.nodes

  placed_quad : quad_at t s.counts.quads ≡ record { a = a; b = b; d = id_d s c d; c = id_c s c }
  placed_quad = quad_reads t s.quads s.counts.quads a b (id_d s c d) (id_c s c) room (placed_quads a b c d s)

  stored_xs : t.xs ≡ store (fresh_x d) d (n + added c) (store (fresh_x c) c n s.xs)
  stored_xs = placed_xs a b c d s ∙ (store_x_lem d (n + added c) (store_x c n s.xs) ∙ ap (store (fresh_x d) d (n + added c)) (store_x_lem c n s.xs))

  stored_ys : t.ys ≡ store (fresh_y d) d (n + added c) (store (fresh_y c) c n s.ys)
  stored_ys = placed_ys a b c d s ∙ (store_y_lem d (n + added c) (store_y c n s.ys) ∙ ap (store (fresh_y d) d (n + added c)) (store_y_lem c n s.ys))

  c_x : new_x n t (id_c s c) ≡ fresh_x c
  unfolding node_in
  c_x = ap (λ (l : List Float). new_in n l (id_c s c)) stored_xs ∙ (reads_c (fresh_x c) (fresh_x d) s.xs n c d xs_fit at_c ∙ fresh_x_lem c)

  c_y : new_y n t (id_c s c) ≡ fresh_y c
  unfolding node_in
  c_y = ap (λ (l : List Float). new_in n l (id_c s c)) stored_ys ∙ (reads_c (fresh_y c) (fresh_y d) s.ys n c d ys_fit at_c ∙ fresh_y_lem c)

  d_x : new_x n t (id_d s c d) ≡ fresh_x d
  unfolding node_in
  d_x = ap (λ (l : List Float). new_in n l (id_d s c d)) stored_xs ∙ (reads_d (fresh_x c) (fresh_x d) s.xs n c d xs_fit at_d ∙ fresh_x_lem d)

  d_y : new_y n t (id_d s c d) ≡ fresh_y d
  unfolding node_in
  d_y = ap (λ (l : List Float). new_in n l (id_d s c d)) stored_ys ∙ (reads_d (fresh_y c) (fresh_y d) s.ys n c d ys_fit at_d ∙ fresh_y_lem d)

  more : t.counts.nodes - n ≡ added c + added d
  more = omega (arith, placed_nodes a b c d s)

  quad_view : view_numbers (record { outcome = Placed; quad = Some (far c d); front = t.counts.front }) n a b ≡ copy_numbers s Placed t
  quad_view = rw (placed_quad, more, c_x, c_y, d_x, d_y)

-- ---- the whole

module _ (xs ys : List Float) (next prev origins quads edges : List ℕ) (k : Counts) (a b : ℕ)
    (S : OnFront (lent_state xs ys next prev origins quads edges k) a b) (o : Outline) (size : Float) (field : FieldRecord) where
  abbrev s : State
  s = lent_state xs ys next prev origins quads edges k

  pub view_is : view_numbers (view_on o size field a b s) k.nodes a b ≡ copy_numbers s (place_on o size field a b s).outcome (place_on o size field a b s).state
  unfolding foreseen_on place_on
  view_is = by (leb most_quads k.quads) (try_edge o size field s a b) refl
    where
      view : Bool → Option FarCorners → PreviewAnswer
      view cap t =
          let h = cond cap (handled s Cap) (settled_on a b t s) in
          view_numbers (record { outcome = h.outcome; quad = (cond cap (foresight Cap None) (foreseen a b t s)).quad; front = h.state.counts.front })
          k.nodes a b

      copy : Bool → Option FarCorners → PreviewAnswer
      copy cap t = let h = cond cap (handled s Cap) (settled_on a b t s) in copy_numbers s h.outcome h.state

      quad : (c d : Corner) → try_edge o size field s a b ≡ Some (far c d) → (full : Bool) → is_full s a b c d ≡ full → view false (Some (far c d)) ≡ copy false (Some (far c d))
      quad c d e true f = rw f refl
      quad c d e false f =
          let R = quad_fits_lem xs ys next prev origins quads edges k a b S o size field c d e f in
          let B = quad_below o size field s a b S c d e in
          rw f (quad_view s a b c d R.quads_fit R.nodes.xs_fit R.nodes.ys_fit B.0 B.1)

      by : (cap : Bool) (t : Option FarCorners) → try_edge o size field s a b ≡ t → view cap t ≡ copy cap t
      by true t e = refl
      by false None e = refl
      by false (Some q) e = quad q.c q.d e (is_full s a b q.c q.d) refl
