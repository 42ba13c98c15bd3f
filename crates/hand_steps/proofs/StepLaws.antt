-- What the code of a step answers, case by case. Assumes nothing.
use Rattle.std.specs.Prelude.{Bool, true, false, List, Ok, Err, [], ◌≡◌, ◌≢◌, get_or, set, Float, Option, Some}
use Rattle.std.proofs.Math.Path.{refl, ap}
use Rattle.std.proofs.Common.{sym, ◌∙◌, arith, length-set}
use Prim.Native.Nat.{ℕ, zero, suc, ◌+◌, ◌-◌, ◌<◌, ◌≤◌}
use Rattle.std.proofs.Math.ListN.{length}
use borrow.Author.Tests.{eq-eqb, ne_eqb, le-leb, lt-leb}
use Rattle.laws.specs.Loop.{Loop, loop_start_lem, loop_next, for_up, for_up_keeps}
use Rattle.outline.specs.Outline.{Outline, first_of}
use Rattle.field_direction.specs.declared.Grid.{Grid}
use Rattle.field_direction.specs.Record.{FieldRecord, field_record}
use Rattle.front.specs.declared.Counts.{Counts}
use Rattle.front.specs.declared.Corner.{Corner}
use Rattle.front.specs.State.{State, state_of}
use Rattle.front.specs.Place.{place, is_full}
use Rattle.front.specs.declared.FarCorners.{FarCorners}
use Rattle.paving.specs.Attempt.{try_edge, far}
use Rattle.paving.specs.Advance.{most_quads}
use Rattle.paving_attempts.specs.Seen.{seen_of}
use Rattle.paving_attempts.proofs.SeenLaws.{try_seen}
use Rattle.hand_mesh_check.specs.Check.{all_off, lent_state, mesh_refusal, links_of, edge_refusal}
use Rattle.hand_mesh_check.specs.CheckLaws.{off_same}
use Rattle.hand_mesh_check.specs.Passed.{room, mesh_passes}
use Rattle.hand_steps.specs.declared.StepOutcome.{StepOutcome}
use Rattle.hand_steps.specs.declared.StepOutcome.TheVariants.{Placed, Full, Cap}
use Rattle.hand_steps.specs.Hand.{hand_refusal, Handled, handled, settled_on, place_on, step_on, step_answer, origin_turn, new_origins, StepTaken}
use Rattle.hand_steps.specs.Lent.{OnFront, Settleable}
use Rattle.hand_steps.proofs.UseBase.{front_room, quad_fits_lem}

-- ---- the refusal

module _ (s : State) (a b : ℕ) {r : ℕ} (e : r ≡ mesh_refusal s) where
  pub hand_mesh : r ≢ 0 → r ≡ hand_refusal s a b
  unfolding hand_refusal
  hand_mesh h = rw (← e) (first r (edge_refusal s a b) h)
    where
      first : (r q : ℕ) → r ≢ 0 → r ≡ first_of r q
      first zero q h = absurd (h refl)
      first (suc r) q h = refl

  pub hand_edge : r ≡ 0 → {q : ℕ} → q ≡ edge_refusal (links_of s.next s.counts.nodes) a b → q ≡ hand_refusal s a b
  unfolding hand_refusal edge_refusal
  hand_edge z f = rw (← e, z) f

pub next_long : (xs ys : List Float) (next prev origins quads edges : List ℕ) (k : Counts) {r : ℕ}
    → r ≡ mesh_refusal (lent_state xs ys next prev origins quads edges k) → r ≡ 0 → k.nodes ≤ length next
next_long xs ys next prev origins quads edges k e z =
    let s = lent_state xs ys next prev origins quads edges k in
    (room xs ys next prev origins quads edges k k.nodes k.quads k.edges (mesh_passes s (sym e ∙ z)).counts).nodes.next_fit

-- ---- the placing

module _ (a b : ℕ) (c d : Corner) (s : State) {t : Option FarCorners} (q : t ≡ Some (far c d)) {r : Bool} (e : r ≡ is_full s a b c d) where
  pub handled_full : r ≡ true → handled s Full ≡ settled_on a b t s
  handled_full f = rw (q, ← e, f)

  pub settle_placed : r ≡ false → {left : State} → left ≡ place a b c d s → handled left Placed ≡ settled_on a b t s
  settle_placed f p = rw (q, ← e, f) (ap (λ (x : State). handled x Placed) p)

module _ (o : Outline) (size : Float) (g : Grid) (values : List Float) (marks : List ℕ) (a b : ℕ) (s : State) where
  abbrev field : FieldRecord
  field = field_record g values marks

  pub place_cap : most_quads ≤ s.counts.quads → handled s Cap ≡ place_on o size field a b s
  unfolding place_on
  place_cap h = rw (le-leb _ _ h)

  pub place_tried : s.counts.quads < most_quads → {t : Option FarCorners} → t ≡ try_edge o size (field_record g values []) (seen_of s) a b → {h : Handled}
      → h ≡ settled_on a b t s → h ≡ place_on o size field a b s
  unfolding place_on
  place_tried less e p = rw (lt-leb _ _ less, ← (e ∙ try_seen s field o size a b)) p

pub settleable : (o : Outline) (size : Float) (g : Grid) (values xs ys : List Float) (next prev origins quads edges : List ℕ) (k : Counts) (a b : ℕ)
    → OnFront (lent_state xs ys next prev origins quads edges k) a b → {t : Option FarCorners}
    → t ≡ try_edge o size (field_record g values []) (seen_of (lent_state xs ys next prev origins quads edges k)) a b
    → Settleable xs ys next prev origins quads edges k a b t
settleable o size g values xs ys next prev origins quads edges k a b S {t} e =
    let s = lent_state xs ys next prev origins quads edges k in
    let field = field_record g values [] in
    let is : t ≡ try_edge o size field s a b = e ∙ try_seen s field o size a b in
    record {
      room = front_room xs ys next prev origins quads edges k a b S;
      fits = λ c d q full. quad_fits_lem xs ys next prev origins quads edges k a b S o size field c d (sym is ∙ q) full;
    }

-- ---- the numbers

pub origins_length : (a n m : ℕ) (l : List ℕ) → length (new_origins a n m l) ≡ length l
unfolding new_origins
origins_length a n m l =
    for_up_keeps (λ i x. length x ≡ length l) (m - n) (origin_turn (get_or l a 0) n) l refl (λ i x h e. length-set x (n + i) (get_or l a 0) ∙ e)

-- no new nodes, nothing written
pub origins_same : (a n : ℕ) (l : List ℕ) → l ≡ new_origins a n n l
unfolding new_origins for_up
origins_same a n l = let z : n - n ≡ 0 = omega arith in rw z

-- the invariant of the loop that writes them
abbrev pub NewNumbered : ℕ → ℕ → ℕ → List ℕ → ℕ → List ℕ → Type 0
NewNumbered number n more before i l = Loop (origin_turn number n) before more i l × (length l ≡ length before)

pub new_start : (number n more : ℕ) (l : List ℕ) → NewNumbered number n more l 0 l
new_start number n more l = (loop_start_lem (origin_turn number n) l more, refl)

pub new_next : (number n more : ℕ) (before : List ℕ) {i : ℕ} {l : List ℕ} → NewNumbered number n more before i l → i < more
    → NewNumbered number n more before (i + 1) (set l (n + i) number)
new_next number n more before {i} {l} w h = (loop_next (origin_turn number n) before w.0 h, length-set l (n + i) number ∙ w.1)

-- ---- a step

module _ (o : Outline) (size : Float) (field : FieldRecord) (a b : ℕ) (xs ys : List Float) (next prev origins quads edges : List ℕ) (k : Counts) where
  abbrev s : State
  s = lent_state xs ys next prev origins quads edges k

  module _ {r : ℕ} (e : r ≡ hand_refusal s a b) where
    pub step_refused : r ≢ 0 → StepTaken o size field a b s origins (Err r) s origins
    unfolding step_answer step_on
    step_refused h =
        record {
          answer = rw (← e, ne_eqb r 0 h);
          state = rw (← e, ne_eqb r 0 h);
          origins = rw (← e, ne_eqb r 0 h) (origins_same a k.nodes origins);
        }

    pub step_done : r ≡ 0 → (xs' ys' : List Float) (next' prev' quads' edges' : List ℕ) (m : Counts) (w : StepOutcome)
        → handled (state_of xs' ys' next' prev' (all_off origins) quads' edges' m) w ≡ place_on o size field a b s → (after : List ℕ)
        → after ≡ new_origins a k.nodes m.nodes origins
        → StepTaken o size field a b s origins (Ok w) (lent_state xs' ys' next' prev' after quads' edges' m) after
    unfolding step_answer step_on
    step_done z xs' ys' next' prev' quads' edges' m w p after n =
        let long : length after ≡ length origins = ap length n ∙ origins_length a k.nodes m.nodes origins in
        record {
          answer = rw (← e, eq-eqb r 0 z, ← p);
          state = rw (← e, eq-eqb r 0 z, ← p, off_same after origins long);
          origins = rw (← e, eq-eqb r 0 z, ← p) n;
        }
