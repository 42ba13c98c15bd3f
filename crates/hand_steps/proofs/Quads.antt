-- The quad that a placing places: how the code finds it, and what the placing does with it.
use Rattle.std.specs.Prelude.{Bool, List, Result, Ok, Err, [], ◌≡◌, ℕ, ◌<◌, ◌≤◌, leb, Float, Option, Some, None}
use Rattle.std.proofs.Math.Bool.{true, false, cond}
use Rattle.std.proofs.Math.Path.{refl}
use Rattle.std.proofs.Common.{◌∙◌, arith}
use borrow.Author.Tests.{le-leb, lt-leb}
use Rattle.outline.specs.Outline.{Outline}
use Rattle.field_direction.specs.declared.Grid.{Grid}
use Rattle.field_direction.specs.Record.{FieldRecord, field_record}
use Rattle.front.specs.State.{State}
use Rattle.front.specs.Place.{place, is_full}
use Rattle.front.specs.declared.FarCorners.{FarCorners}
use Rattle.paving.specs.Attempt.{try_edge}
use Rattle.paving.specs.Advance.{most_quads}
use Rattle.paving_attempts.specs.Seen.{seen_of}
use Rattle.paving_attempts.proofs.SeenLaws.{try_seen}
use Rattle.hand_steps.specs.declared.StepOutcome.{StepOutcome}
use Rattle.hand_steps.specs.declared.StepOutcome.TheVariants.{Placed, Full, Cap}
use Rattle.hand_steps.specs.Hand.{Handled, handled, settled_on, place_on, fitting, quad_on}

-- ---- how it is found

module _ (a b : ℕ) (q : FarCorners) (s : State) {t : Option FarCorners} (z : t ≡ Some q) {r : Bool} (e : r ≡ is_full s a b q.c q.d) where
  pub fitting_full : r ≡ true → Err Full ≡ fitting a b t s
  fitting_full f = rw (z, ← e, f)

  pub fitting_quad : r ≡ false → Ok q ≡ fitting a b t s
  fitting_quad f = rw (z, ← e, f)

module _ (o : Outline) (size : Float) (g : Grid) (values : List Float) (marks : List ℕ) (a b : ℕ) (s : State) where
  abbrev field : FieldRecord
  field = field_record g values marks

  pub quad_cap : most_quads ≤ s.counts.quads → Err Cap ≡ quad_on o size field a b s
  unfolding quad_on
  quad_cap h = rw (le-leb _ _ h)

  pub quad_tried : s.counts.quads < most_quads → {t : Option FarCorners} → t ≡ try_edge o size (field_record g values []) (seen_of s) a b
      → {r : Result FarCorners StepOutcome} → r ≡ fitting a b t s → r ≡ quad_on o size field a b s
  unfolding quad_on
  quad_tried less e p = rw (lt-leb _ _ less, ← (e ∙ try_seen s field o size a b)) p

-- ---- what the placing does with it

abbrev pub placed_on : ℕ → ℕ → Result FarCorners StepOutcome → State → Handled
placed_on a b (Ok q) s = handled (place a b q.c q.d s) Placed
placed_on a b (Err w) s = handled s w

module _ (o : Outline) (size : Float) (field : FieldRecord) (a b : ℕ) (s : State) where
  pub quad_placed : placed_on a b (quad_on o size field a b s) s ≡ place_on o size field a b s
  unfolding quad_on place_on
  quad_placed = by (leb most_quads s.counts.quads) (try_edge o size field s a b)
    where
      quad : (q : FarCorners) (full : Bool) → placed_on a b (cond full (Err Full) (Ok q)) s ≡ cond full (handled s Full) (handled (place a b q.c q.d s) Placed)
      quad q true = refl
      quad q false = refl

      by : (cap : Bool) (t : Option FarCorners) → placed_on a b (cond cap (Err Cap) (fitting a b t s)) s ≡ cond cap (handled s Cap) (settled_on a b t s)
      by true t = refl
      by false None = refl
      by false (Some q) = quad q (is_full s a b q.c q.d)

  -- it is the attempt's, and it isn't full
  pub quad_tested : (q : FarCorners) → quad_on o size field a b s ≡ Ok q → (try_edge o size field s a b ≡ Some q) × (is_full s a b q.c q.d ≡ false)
  unfolding quad_on
  quad_tested q = by (leb most_quads s.counts.quads) (try_edge o size field s a b) refl
    where
      never : {A : Type 0} (w : StepOutcome) → ◌≡◌ {A = Result FarCorners StepOutcome} (Err w) (Ok q) → A
      never w e = absurd (let z : ◌≡◌ {A = ℕ} 0 1 = cc in omega arith)

      quad : (p : FarCorners) → try_edge o size field s a b ≡ Some p → (full : Bool) → is_full s a b p.c p.d ≡ full
          → cond full (Err Full) (Ok p) ≡ Ok q → (try_edge o size field s a b ≡ Some q) × (is_full s a b q.c q.d ≡ false)
      quad p u true f e = never Full e
      quad p u false f e = let z : p ≡ q = cc in rw (← z) (u, f)

      by : (cap : Bool) (t : Option FarCorners) → try_edge o size field s a b ≡ t → cond cap (Err Cap) (fitting a b t s) ≡ Ok q
          → (try_edge o size field s a b ≡ Some q) × (is_full s a b q.c q.d ≡ false)
      by true t u e = never Cap e
      by false None u e = never _ e
      by false (Some p) u e = quad p u (is_full s a b p.c p.d) refl e
