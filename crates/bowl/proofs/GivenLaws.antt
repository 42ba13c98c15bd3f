-- What a mesh that 23 lets pass gives the code, and what the entry answers, way out by way out. Assumes nothing.
use Rattle.std.specs.Prelude.{Bool, true, false, ◌&&◌, cond, ◌≡◌, ℕ, ◌+◌, ◌*◌, ◌/◌, ◌<◌, ◌≤◌, T, eqb, leb, ℤ, pos, length, drop, Float}
use mathlib.Core.List.{List}
use Rattle.std.proofs.Math.Path.{refl, ap}
use Rattle.std.proofs.Common.{sym, ◌∙◌, arith, leb→le}
use Rattle.std.proofs.Math.Nat.{mul-div-le}
use Rattle.std.proofs.Math.ListN.{get_or}
use Rattle.std.specs.Float.{nan, binary64}
use Rattle.std.specs.Float.Ieee.{fits, le, of_bits}
use borrow.Author.Tests.{eqb-true, eq-eqb, ne_eqb, leb-true, leb-false, le-leb, lt-leb, not-false}
use Rattle.laws.specs.Tests.{both, neither}
use Rattle.numbers.specs.Float.{is_finite, abs_f}
use Rattle.exact.specs.Units.{W, Val, sign_of, size_of, val_of, abs_val, Within, within_of}
use Rattle.exact.proofs.Order.{le_val}
use Rattle.outline.specs.Accepted.{AllFit}
use Rattle.field_direction.specs.Direction as direction
use Rattle.front.specs.declared.Counts.{Counts}
use Rattle.front.specs.State.{State}
use Rattle.hand_mesh_check.specs.Check.{lent_state, farthest_node, coordinate_unsound, mesh_refusal}
use Rattle.hand_mesh_check.specs.Passed.{MeshPasses, mesh_passes, MeshRoom, room}
use Rattle.bowl_nearest_step.specs.Step.{nearest_step}
use Rattle.bowl_nearest_step.proofs.StepBase.{step_near}
use Rattle.bowl.specs.declared.BowlStepsAnswer.{BowlStepsAnswer}
use Rattle.bowl.specs.Steps.{mesh_unstepped, lowest_hidden, steps_answer, stored_steps, steps_left}
use Rattle.bowl.specs.Stepped.{NodesWithin, QuadsWithin, NearStep, MeshStepped}
use Rattle.bowl.proofs.StepsLaws.{stored_x, stored_y, stored_steps_past}

-- ---- coordinates

farthest_val : Val farthest_node false (1001 * W)
unfolding of_bits W
farthest_val = (refl, refl)

-- a coordinate that passes is within 1,001
pub coordinate_within : (x : Float) → T (fits binary64 x) → coordinate_unsound x ≡ false → Within 1001 x
unfolding coordinate_unsound direction.within
coordinate_within x t e =
    let passes = both (is_finite x) (le (abs_f x) farthest_node) (not-false _ e) in
    let finite : T (is_finite x) = rw passes.0 tt in
    let size = abs_val x (sign_of x) (size_of x) (val_of x finite t) in
    let under = (le_val (abs_f x) farthest_node false false (size_of x) (1001 * W) size farthest_val).0 (rw passes.1 tt) in
    within_of 1001 x t finite (leb→le (size_of x) (1001 * W) under.le)

-- ---- a mesh that passes

module _ (xs ys : List Float) (next prev origins quads edges : List ℕ) (k : Counts) (fx : AllFit xs) (fy : AllFit ys)
    (none : mesh_refusal (lent_state xs ys next prev origins quads edges k) ≡ 0) where
  passes : MeshPasses (lent_state xs ys next prev origins quads edges k)
  passes = mesh_passes _ none

  places : MeshRoom xs ys next prev origins quads edges k.nodes k.quads k.edges
  places = room xs ys next prev origins quads edges k k.nodes k.quads k.edges passes.counts

  pub nodes_within : NodesWithin xs ys k.nodes
  nodes_within i h =
      let x_lent : i < length xs = omega (arith, places.nodes.xs_fit) in
      let y_lent : i < length ys = omega (arith, places.nodes.ys_fit) in
      let near = neither (coordinate_unsound (get_or xs i nan)) (coordinate_unsound (get_or ys i nan)) (passes.coordinates i h) in
      record {
        x_lent = x_lent;
        y_lent = y_lent;
        x = coordinate_within _ (fx i x_lent) near.0;
        y = coordinate_within _ (fy i y_lent) near.1;
      }

  pub quads_within : QuadsWithin xs ys quads k.quads
  quads_within =
      record { lent = places.quads_fit; nodes = λ i h. nodes_within (get_or quads i 0) (leb-false k.nodes (get_or quads i 0) (passes.quad_ids i h)) }

-- ---- the answer

module _ (s : State) (places m : ℕ) (asked : m ≡ mesh_refusal s) where
  pub answer_mesh : (m ≡ 0 → ⊥) → mesh_unstepped ≡ steps_answer s places
  unfolding steps_answer
  answer_mesh refused = rw (← asked, ne_eqb m 0 refused) refl

  pub answer_places : m ≡ 0 → places / 2 < s.counts.nodes → mesh_unstepped ≡ steps_answer s places
  unfolding steps_answer
  answer_places none short = rw (← asked, eq-eqb m 0 none, lt-leb (2 * s.counts.nodes) places (omega arith)) refl

  pub answer_quads : m ≡ 0 → s.counts.nodes ≤ places / 2 → lowest_hidden s.xs s.ys s.quads s.counts.quads ≡ steps_answer s places
  unfolding steps_answer
  answer_quads none enough = rw (← asked, eq-eqb m 0 none, le-leb (2 * s.counts.nodes) places (omega (arith, mul-div-le places 2))) refl

-- where nothing is refused, the mesh passes and the buffer has its places
pub given_passes : (s : State) (places : ℕ) → (steps_answer s places).refusal ≡ 0 → (mesh_refusal s ≡ 0) × (2 * s.counts.nodes ≤ places)
unfolding steps_answer
given_passes s places = by (eqb (mesh_refusal s) 0) refl (leb (2 * s.counts.nodes) places) refl
  where
    by : (a : Bool) → eqb (mesh_refusal s) 0 ≡ a → (b : Bool) → leb (2 * s.counts.nodes) places ≡ b
        → (cond (a && b) (lowest_hidden s.xs s.ys s.quads s.counts.quads) mesh_unstepped).refusal ≡ 0
        → (mesh_refusal s ≡ 0) × (2 * s.counts.nodes ≤ places)
    by true p true q e = (eqb-true (mesh_refusal s) 0 p, leb-true (2 * s.counts.nodes) places q)
    by true p false q e = absurd (omega arith)
    by false p b q e = absurd (omega arith)

-- ---- the entry

near_of_lem : (x : Float) (z : ℤ) → z ≡ nearest_step x → NearStep x z
near_of_lem x z e = rw e (step_near x)

module _ (s : State) (lent : List ℤ) (r : BowlStepsAnswer) (answer : r ≡ steps_answer s (length lent)) where
  pub mesh_stored : r.refusal ≡ 0 → (left : List ℤ) → left ≡ stored_steps s.xs s.ys s.counts.nodes lent → MeshStepped s lent r left
  unfolding steps_left
  mesh_stored none left e =
      let n = s.counts.nodes in
      let enough = (given_passes s (length lent) (ap (λ (a : BowlStepsAnswer). a.refusal) (sym answer) ∙ none)).1 in
      record {
        answer = answer;
        steps = e ∙ rw (eq-eqb r.refusal 0 none) refl;
        near =
            λ z i h. (
              near_of_lem _ _ (ap (λ (l : List ℤ). get_or l (2 * i) (pos 0)) e ∙ stored_x s.xs s.ys lent n enough i h),
              near_of_lem _ _ (ap (λ (l : List ℤ). get_or l (2 * i + 1) (pos 0)) e ∙ stored_y s.xs s.ys lent n enough i h),
            );
        past = ap (drop (2 * n)) e ∙ stored_steps_past s.xs s.ys lent n enough;
        unwritten = λ some. absurd (some none);
      }

  pub mesh_refused : (r.refusal ≡ 0 → ⊥) → MeshStepped s lent r lent
  unfolding steps_left
  mesh_refused some =
      record {
        answer = answer;
        steps = rw (ne_eqb r.refusal 0 some) refl;
        near = λ none i h. absurd (some none);
        past = refl;
        unwritten = λ z. refl;
      }
