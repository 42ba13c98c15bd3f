-- How the answer follows from the code, and what a host gets from the answer. Assumes nothing.
use Rattle.std.specs.Prelude.{Bool, false, ◌||◌, ◌≡◌, T, ltb, Float}
use Rattle.std.proofs.Math.Bool.{cond}
use Rattle.std.proofs.Math.Path.{refl, sym, ap, ap₂, subst}
use Rattle.std.proofs.Common.{◌∙◌, le_trans, le_of_eq, arith, le-ltb}
use Prim.Native.Nat.{ℕ, zero, suc, ◌≤◌, min}
use Rattle.std.specs.Float.{binary64}
use Rattle.std.specs.Float.Ieee.{fits}
use Rattle.outline.specs.declared.Settings.{Settings}
use Rattle.outline.specs.Outline.{Outline, first_of, misshapen, outline_refusal}
use Rattle.outline.specs.Queries.{answer_by}
use Rattle.outline.specs.Accepted.{first_zero, OutlineFits}
use Rattle.outline.proofs.Accepted.{accepted}
use Rattle.outline.proofs.RefusalLaws.{first_stays, answer_refused}
use Rattle.field_direction.specs.declared.Grid.{Grid}
use Rattle.field_direction.specs.Record.{grid_nodes, most_field_nodes, FieldLists}
use Rattle.field_cross.specs.declared.Bounds.{Bounds}
use Rattle.field_cross.specs.Grid.{bounds, grid_of, size_refusal, bounds_refusal, sweeps_refusal}
use Rattle.field_cross.specs.Field.{field_places, places_refusal, drawn_refusal, refusal_for, field_refusal}
use Rattle.field_cross.proofs.FieldLaws.{few, drawn_is}
use Rattle.field_cross.proofs.SpacingLaws.{sized}
use Rattle.front.specs.State.{State, most_nodes, node_places, edge_places}
use Rattle.front.specs.Sampling.{sampled_count, front_refusal}
use Rattle.front_boundary.specs.Counting.{most}
use Rattle.run_whole.specs.Run.{run_refusal}
use Rattle.run_places.specs.declared.PlacesAnswer.{PlacesAnswer}
use Rattle.run_places.specs.Needed.{places_answered, places_answer, PlacesGiven}
use Rattle.run_places.proofs.Few.{sampled_few}

-- 1 to 7, then 8 and 9
later : (a b c d : ℕ) → first_of a (first_of b (first_of c d)) ≡ first_of (first_of a (first_of b c)) d
later (suc a) b c d = refl
later zero (suc b) c d = refl
later zero zero (suc c) d = refl
later zero zero zero d = refl

for_split : (o : Outline) (size : Float) (n places : ℕ)
    → refusal_for o size n places ≡ first_of (drawn_refusal o size) (first_of (sweeps_refusal n) (places_refusal (grid_of (bounds o) size) places))
unfolding drawn_refusal
for_split o size n places = later (outline_refusal o) (size_refusal size) (bounds_refusal (bounds o)) _

-- what 1 to 7 leave
record Drawable (o : Outline) (size : Float) : Type 0 where
  outline : outline_refusal o ≡ 0
  sized : size_refusal size ≡ 0
  box : bounds_refusal (bounds o) ≡ 0

drawable : (o : Outline) (size : Float) → drawn_refusal o size ≡ 0 → Drawable o size
unfolding drawn_refusal
drawable o size e =
    let one = first_zero (outline_refusal o) _ e in
    let five = first_zero (size_refusal size) (bounds_refusal (bounds o)) one.1 in
    record { outline = one.0; sized = five.0; box = five.1 }

pub drawn_size_shape : (o : Outline) (size : Float) → drawn_refusal o size ≡ 0 → misshapen o ≡ false
drawn_size_shape o size none = (accepted o (drawable o size none).outline).shape

module _ (o : Outline) (size : Float) (doubles : OutlineFits o) (held : T (fits binary64 size)) where
  pub field_few : {b : Bounds} → drawn_refusal o size ≡ 0 → b ≡ bounds o → grid_nodes (grid_of b size) ≤ most_field_nodes
  field_few {b} none same = let d = drawable o size none in few o size b doubles held d.outline d.sized same (ap bounds_refusal same ∙ d.box)

  pub made_few : {b : Bounds} {g : Grid} → drawn_refusal o size ≡ 0 → b ≡ bounds o → g ≡ grid_of b size → grid_nodes g ≤ most_field_nodes
  made_few none same made = le_trans (le_of_eq (ap grid_nodes made)) (field_few none same)

  pub drawn_few : drawn_refusal o size ≡ 0 → sampled_count o size ≤ 2400000000
  drawn_few none = let d = drawable o size none in sampled_few o size doubles d.outline (sized size held d.sized)

  -- ---- the code

  pub drawn_unrefused : {n : ℕ} → n ≡ refusal_for o size 0 most_field_nodes → n ≡ 0 → drawn_refusal o size ≡ 0
  drawn_unrefused e passed = sym (drawn_is o size doubles held) ∙ sym e ∙ passed

  pub places_counted : {b : Bounds} {g : Grid} {n : ℕ} → drawn_refusal o size ≡ 0 → b ≡ bounds o → g ≡ grid_of b size → n ≡ min (sampled_count o size) most
      → places_answered 0 (grid_nodes g) n ≡ places_answer o size
  unfolding places_answer
  places_counted {n = n} none box grid count =
      let exact : n ≡ sampled_count o size = omega (arith, drawn_few none) in
      rw none (ap₂ (λ (a b : ℕ). places_answered 0 a b) (ap grid_nodes (grid ∙ ap (λ (b : Bounds). grid_of b size) box)) exact)

  -- ---- what a host gets

  refused_first : (f : FieldLists) (s : State) (set : Settings) → (drawn_refusal o size ≡ 0 → ⊥) → set.size ≡ size
      → run_refusal o set f s ≡ drawn_refusal o size
  unfolding run_refusal field_refusal
  refused_first f s set h e =
      ap (λ (x : Float). run_refusal o (record { size = x; sweeps = set.sweeps; passes = set.passes }) f s) e
      ∙ ap (λ (n : ℕ). first_of n (front_refusal o size s)) (for_split o size set.sweeps (field_places f) ∙ first_stays _ _ h)
      ∙ first_stays _ _ h

  field_refused : (n : ℕ) (f : FieldLists) → drawn_refusal o size ≡ 0 → sweeps_refusal n ≡ 0
      → field_refusal o size n f ≡ cond (ltb (field_places f) (grid_nodes (grid_of (bounds o) size))) 9 0
  unfolding field_refusal places_refusal
  field_refused n f none e = for_split o size n (field_places f) ∙ rw (none, e) refl

  enough_lent : (f : FieldLists) (s : State) (set : Settings) → drawn_refusal o size ≡ 0 → set.size ≡ size → sweeps_refusal set.sweeps ≡ 0
      → grid_nodes (grid_of (bounds o) size) ≤ field_places f → sampled_count o size ≤ node_places s → sampled_count o size ≤ edge_places s
      → run_refusal o set f s ≡ 0
  unfolding run_refusal front_refusal
  enough_lent f s set none e sweeps field nodes edges =
      let n = grid_nodes (grid_of (bounds o) size) in
      let count = sampled_count o size in
      let nine : field_refusal o size set.sweeps f ≡ 0 =
      field_refused set.sweeps f none sweeps ∙ ap (λ (b : Bool). cond b 9 0) (le-ltb (field_places f) n field) in
      let ten : front_refusal o size s ≡ 0 =
      ap₂ (λ (b c : Bool). cond (b || c) 10 0) (le-ltb (node_places s) count nodes) (le-ltb (edge_places s) count edges) in
      ap (λ (x : Float). run_refusal o (record { size = x; sweeps = set.sweeps; passes = set.passes }) f s) e ∙ ap₂ first_of nine ten

  refused_is : (drawn_refusal o size ≡ 0 → ⊥) → places_answered (drawn_refusal o size) 0 0 ≡ places_answer o size
  unfolding places_answer
  refused_is h = sym (answer_refused (λ number. places_answered number 0 0) _ _ h)

  pub places_given_refused : {n : ℕ} → n ≡ refusal_for o size 0 most_field_nodes → (n ≡ 0 → ⊥) → PlacesGiven o size (places_answered n 0 0)
  places_given_refused {n} e h =
      let same : n ≡ drawn_refusal o size = e ∙ drawn_is o size doubles held in
      let some : drawn_refusal o size ≡ 0 → ⊥ = λ z. h (same ∙ z) in
      record {
        equal = ap (λ (n : ℕ). places_answered n 0 0) same ∙ refused_is some;
        refused = λ no set f s size. refused_first f s set some size ∙ sym same;
        field = λ zero. absurd (h zero);
        front = λ zero. absurd (h zero);
        enough = λ zero. absurd (h zero);
        few = (omega arith, omega arith);
      }

  answered_is : drawn_refusal o size ≡ 0 → places_answer o size ≡ places_answered 0 (grid_nodes (grid_of (bounds o) size)) (sampled_count o size)
  unfolding places_answer
  answered_is none = rw none refl

  pub places_given_counted : {n : ℕ} {r : PlacesAnswer} → n ≡ refusal_for o size 0 most_field_nodes → n ≡ 0 → r ≡ places_answer o size → PlacesGiven o size r
  unfolding front_refusal
  places_given_counted asked passed e =
      let none = drawn_unrefused asked passed in
      subst (PlacesGiven o size) (sym (e ∙ answered_is none))
      (record {
        equal = sym (answered_is none);
        refused = λ no. absurd (no refl);
        field = λ zero n f sweeps. field_refused n f none sweeps;
        front = λ zero s. refl;
        enough = λ zero set f s size sweeps. enough_lent f s set none size sweeps;
        few = (field_few none refl, omega (arith, drawn_few none));
      })
