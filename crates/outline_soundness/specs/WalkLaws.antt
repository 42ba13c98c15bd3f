-- For code that judges an outline: one walk over the holes asks all that the definition asks of them; and the word whole. Assumes nothing.
use Rattle.std.specs.Prelude.{◌≡◌, refl, Bool, true, false, not, ◌&&◌, ◌||◌, ◌↔◌, List, eqb, ltb, length, Float}
use Rattle.std.proofs.Common.{sym, ap₂, ◌∙◌, arith, eq-eqb, ne_eqb, ltb-true, ltb-false}
use Rattle.std.proofs.Math.Path.{ap, fun_ext}
use Rattle.std.specs.Bool.{beq}
use Prim.Native.Nat.{ℕ, zero, suc, ◌≤◌, ◌<◌}
use Rattle.std.proofs.lemmas.Bool.{eqb-false}
use Rattle.laws.specs.Tests.{both, neither, and_both}
use Rattle.laws.specs.Loop.{any_up, any_none, none_found}
use Rattle.outline.specs.Outline.{Outline, misshapen, outline_refusal, hole_at, loop_at, points}
use Rattle.outline.specs.Accepted.{OutlineFits, LoopWithin, loop_within}
use Rattle.outline.proofs.Accepted.{accepted}
use Rattle.outline_sound.specs.Sound.{segment_start, crosses_itself, touch, is_inside, strays_out, lies_in, outline_sound}
use Rattle.outline_sound.specs.Whole.{is_whole}
use Rattle.outline_soundness.specs.AcceptedLoops.{AcceptedLoop, accepted_loop}

-- ---- one walk over the holes

-- some point of s is inside t; where `inside` is false, some point of s isn't
unfoldable pub any_point : List Float → List Float → Bool → Bool
any_point s t inside = any_up (points s) (λ i. beq (is_inside (segment_start s i) t) inside)

-- two holes touch, or one has a point inside the other
unfoldable pub holes_clash : List Float → List Float → Bool
holes_clash s t = touch s t || (any_point s t true || any_point t s true)

-- what is asked of hole k, whose points are s
unfoldable pub hole_unsound : Outline → List Float → ℕ → Bool
hole_unsound o s k = crosses_itself s || (touch s o.outer || (any_point s o.outer false || any_up k (λ l. holes_clash s (hole_at o l))))

abbrev pub unsound_at : Outline → ℕ → Bool
unsound_at o k = hole_unsound o (hole_at o k) k

beq_true : (b : Bool) → beq b true ≡ b
beq_true true = refl
beq_true false = refl

beq_false : (b : Bool) → beq b false ≡ not b
beq_false true = refl
beq_false false = refl

strays : (o : Outline) (k : ℕ) → strays_out o k ≡ any_point (hole_at o k) o.outer false
unfolding strays_out any_point
strays o k = ap (any_up (points (hole_at o k))) (fun_ext (λ i. sym (beq_false (is_inside (segment_start (hole_at o k) i) o.outer))))

lies : (o : Outline) (k l : ℕ) → lies_in o k l ≡ (not (eqb k l) && any_point (hole_at o k) (hole_at o l) true)
unfolding lies_in any_point
lies o k l =
    ap (λ (b : Bool). not (eqb k l) && b)
    (ap (any_up (points (hole_at o k))) (fun_ext (λ i. sym (beq_true (is_inside (segment_start (hole_at o k) i) (hole_at o l))))))

or_false : {a b : Bool} → a ≡ false → b ≡ false → (a || b) ≡ false
or_false e f = ap₂ (λ (a b : Bool). a || b) e f

-- the four tests of the definition
abbrev crossing : Outline → ℕ → Bool
crossing o k = crosses_itself (loop_at o k)

abbrev touching : Outline → ℕ → Bool
touching o k = any_up k (λ l. touch (loop_at o k) (loop_at o l))

abbrev lying : Outline → ℕ → Bool
lying o k = any_up (length o.lens) (λ l. lies_in o k l)

record Faultless (o : Outline) : Type 0 where
  crosses : any_up (suc (length o.lens)) (crossing o) ≡ false
  touches : any_up (suc (length o.lens)) (touching o) ≡ false
  stray : any_up (length o.lens) (strays_out o) ≡ false
  lie : any_up (length o.lens) (lying o) ≡ false

-- the four parts of a hole that passes
record Passes (o : Outline) (k : ℕ) : Type 0 where
  crosses : crosses_itself (hole_at o k) ≡ false
  touches : touch (hole_at o k) o.outer ≡ false
  stray : any_point (hole_at o k) o.outer false ≡ false
  clear : any_up k (λ l. holes_clash (hole_at o k) (hole_at o l)) ≡ false

passes : (o : Outline) (k : ℕ) → unsound_at o k ≡ false → Passes o k
unfolding hole_unsound
passes o k e =
    let a = neither _ _ e in
    let b = neither _ _ a.1 in
    let d = neither _ _ b.1 in
    record { crosses = a.0; touches = b.0; stray = d.0; clear = d.1 }

record Clear (s t : List Float) : Type 0 where
  touches : touch s t ≡ false
  there : any_point s t true ≡ false
  back : any_point t s true ≡ false

clears : (s t : List Float) → holes_clash s t ≡ false → Clear s t
unfolding holes_clash
clears s t e =
    let a = neither _ _ e in
    let b = neither _ _ a.1 in
    record { touches = a.0; there = b.0; back = b.1 }

-- of two holes, the later one clashes with no earlier one
clear_of : (o : Outline) (k l : ℕ) → l < k → Passes o k → Clear (hole_at o k) (hole_at o l)
clear_of o k l h p = clears _ _ (any_none (λ l. holes_clash (hole_at o k) (hole_at o l)) k p.clear l h)

-- where the outer loop and every hole pass, the definition finds no fault
module _ (o : Outline) (outer : crosses_itself o.outer ≡ false) (each : (k : ℕ) → k < length o.lens → Passes o k) where
  no_crossing : (k : ℕ) → k < suc (length o.lens) → crossing o k ≡ false
  unfolding loop_at
  no_crossing zero h = outer
  no_crossing (suc k) h = (each k (omega arith)).crosses

  no_touch : (k l : ℕ) → k < suc (length o.lens) → l < k → touch (loop_at o k) (loop_at o l) ≡ false
  unfolding loop_at
  no_touch zero l h g = absurd (omega arith)
  no_touch (suc k) zero h g = (each k (omega arith)).touches
  no_touch (suc k) (suc l) h g = (clear_of o k l (omega arith) (each k (omega arith))).touches

  no_lie : (k l : ℕ) → k < length o.lens → l < length o.lens → lies_in o k l ≡ false
  no_lie k l h g = lies o k l ∙ apart (eqb k l) refl
    where
      point : (b : Bool) → ltb l k ≡ b → (k ≡ l → ⊥) → any_point (hole_at o k) (hole_at o l) true ≡ false
      point true e other = (clear_of o k l (ltb-true l k e) (each k h)).there
      point false e other = let least = ltb-false l k e in (clear_of o l k (omega (arith, other)) (each l g)).back

      apart : (b : Bool) → eqb k l ≡ b → (not b && any_point (hole_at o k) (hole_at o l) true) ≡ false
      apart true e = refl
      apart false e = point (ltb l k) refl (eqb-false k l e)

  faultless : Faultless o
  faultless =
      let n = length o.lens in
      record {
        crosses = none_found (crossing o) (suc n) no_crossing;
        touches = none_found (touching o) (suc n) (λ k h. none_found _ k (λ l g. no_touch k l h g));
        stray = none_found (strays_out o) n (λ k h. strays o k ∙ (each k h).stray);
        lie = none_found (lying o) n (λ k h. none_found _ n (λ l g. no_lie k l h g));
      }

-- and where it finds none, they pass
module _ (o : Outline) (f : Faultless o) where
  outer_passes : crosses_itself o.outer ≡ false
  unfolding loop_at
  outer_passes = any_none (crossing o) (suc (length o.lens)) f.crosses 0 (omega arith)

  apart_from : (k l : ℕ) → k < suc (length o.lens) → l < k → touch (loop_at o k) (loop_at o l) ≡ false
  apart_from k l h g =
      any_none (λ l. touch (loop_at o k) (loop_at o l)) k (any_none (touching o) (suc (length o.lens)) f.touches k h) l g

  not_in : (k l : ℕ) → k < length o.lens → l < length o.lens → (k ≡ l → ⊥) → any_point (hole_at o k) (hole_at o l) true ≡ false
  not_in k l h g other =
      ap (λ (b : Bool). not b && any_point (hole_at o k) (hole_at o l) true) (sym (ne_eqb k l other)) ∙ sym (lies o k l)
      ∙ any_none (λ l. lies_in o k l) (length o.lens) (any_none (lying o) (length o.lens) f.lie k h) l g

  clash_free : (k l : ℕ) → k < length o.lens → l < k → holes_clash (hole_at o k) (hole_at o l) ≡ false
  unfolding holes_clash loop_at
  clash_free k l h g =
      or_false (apart_from (suc k) (suc l) (omega arith) (omega arith))
      (or_false (not_in k l h (omega arith) (λ e. omega arith)) (not_in l k (omega arith) h (λ e. omega arith)))

  hole_passes : (k : ℕ) → k < length o.lens → unsound_at o k ≡ false
  unfolding hole_unsound loop_at
  hole_passes k h =
      or_false (any_none (crossing o) (suc (length o.lens)) f.crosses (suc k) (omega arith))
      (or_false (apart_from (suc k) 0 (omega arith) (omega arith))
      (or_false (sym (strays o k) ∙ any_none (strays_out o) (length o.lens) f.stray k h)
      (none_found (λ l. holes_clash (hole_at o k) (hole_at o l)) k (λ l g. clash_free k l h g))))

same_false : (p q : Bool) → (p ≡ false → q ≡ false) → (q ≡ false → p ≡ false) → p ≡ q
same_false true true f g = refl
same_false true false f g = g refl
same_false false true f g = sym (f refl)
same_false false false f g = refl

-- THE WALK OF THE CODE: the outer loop doesn't cross itself, and no hole is unsound by itself, with the outer loop, or with a hole before it.
pub sound_walk : (o : Outline) → outline_sound o ≡ not (crosses_itself o.outer || any_up (length o.lens) (unsound_at o))
unfolding outline_sound
sound_walk o =
    four (any_up (suc n) (crossing o)) (any_up (suc n) (touching o)) (any_up n (strays_out o)) (any_up n (lying o))
    ∙ ap not (same_false faults (crosses_itself o.outer || any_up n (unsound_at o)) found lost)
  where
    four : (a b c d : Bool) → (not a && (not b && (not c && not d))) ≡ not (a || (b || (c || d)))
    four true b c d = refl
    four false true c d = refl
    four false false true d = refl
    four false false false d = refl

    n : ℕ
    n = length o.lens

    faults : Bool
    faults = any_up (suc n) (crossing o) || (any_up (suc n) (touching o) || (any_up n (strays_out o) || any_up n (lying o)))

    found : faults ≡ false → (crosses_itself o.outer || any_up n (unsound_at o)) ≡ false
    found e =
        let a = neither _ _ e in
        let b = neither _ _ a.1 in
        let d = neither _ _ b.1 in
        let f : Faultless o = record { crosses = a.0; touches = b.0; stray = d.0; lie = d.1 } in
        or_false (outer_passes o f) (none_found (unsound_at o) n (hole_passes o f))

    lost : (crosses_itself o.outer || any_up n (unsound_at o)) ≡ false → faults ≡ false
    lost e =
        let a = neither _ _ e in
        let f = faultless o a.0 (λ k h. passes o k (any_none (unsound_at o) n a.1 k h)) in
        or_false f.crosses (or_false f.touches (or_false f.stray f.lie))

-- ---- what the code asks of an outline

-- its shape isn't refused, and every point of every loop is accepted, and so within 1,000
pub record Judged (o : Outline) : Type 0 where
  pub shape : misshapen o ≡ false
  pub within : (k : ℕ) → k ≤ length o.lens → LoopWithin (loop_at o k)
  pub loops : (k : ℕ) → k ≤ length o.lens → AcceptedLoop (loop_at o k)

pub judged : (o : Outline) → OutlineFits o → outline_refusal o ≡ 0 → Judged o
judged o f e = let a = accepted o e in record { shape = a.shape; within = loop_within o f a; loops = accepted_loop o f a }

pub outer_within : {o : Outline} → Judged o → LoopWithin o.outer
unfolding loop_at
outer_within j = j.within 0 (omega arith)

pub outer_accepted : {o : Outline} → Judged o → AcceptedLoop o.outer
unfolding loop_at
outer_accepted j = j.loops 0 (omega arith)

pub hole_accepted : {o : Outline} → Judged o → (k : ℕ) → k < length o.lens → AcceptedLoop (hole_at o k)
unfolding loop_at
hole_accepted j k h = j.loops (suc k) (omega arith)

-- what the walk answers, where it is left and at its end
module _ (o : Outline) {x : Bool} (e : x ≡ crosses_itself o.outer) where
  pub walk_outer : x ≡ true → false ≡ outline_sound o
  walk_outer h = ap (λ (z : Bool). not (z || any_up (length o.lens) (unsound_at o))) (sym h ∙ e) ∙ sym (sound_walk o)

  module _ (h : x ≡ false) {y : Bool} (f : y ≡ any_up (length o.lens) (unsound_at o)) where
    pub walk_holes : not y ≡ outline_sound o
    walk_holes = ap₂ (λ (z w : Bool). not (z || w)) (sym h ∙ e) f ∙ sym (sound_walk o)

-- ---- the word

-- where so many loops are listed
module _ (o : Outline) (listed : ℕ) where
  pub whole_open : (listed ≡ 0 → ⊥) → false ≡ is_whole o listed
  unfolding is_whole
  whole_open h = ap (λ (b : Bool). b && outline_sound o) (sym (ne_eqb listed 0 h))

  pub whole_judged : listed ≡ 0 → {s : Bool} → s ≡ outline_sound o → s ≡ is_whole o listed
  unfolding is_whole
  whole_judged z e = e ∙ ap (λ (b : Bool). b && outline_sound o) (sym (eq-eqb listed 0 z))

  -- whole exactly if nothing is listed, by whatever name that goes, and the outline is sound
  pub whole_means : {A : Type 0} → (eqb listed 0 ≡ true) ↔ A → (is_whole o listed ≡ true) ↔ (A × (outline_sound o ≡ true))
  unfolding is_whole
  whole_means i =
      (λ e. let h = both (eqb listed 0) (outline_sound o) e in (i.0 h.0, h.1), λ h. and_both (eqb listed 0) (outline_sound o) (i.1 h.0) h.1)
