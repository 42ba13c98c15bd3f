-- What holds of the definitions of specs/Laws.antt.
use Rattle.std.specs.Prelude.{Result, true, false, not, cond, ◌≡◌, ltb, eqb, Float}
use mathlib.Core.List.{List, [], ◌++◌, append_assoc}
use Rattle.std.proofs.Common.{⊎_elim, sym, ◌∙◌, eq-or-lt_of_le, le_of_suc-le-suc, arith, take_at}
use Rattle.std.proofs.Math.Path.{refl, ap}
use Prim.Native.Nat.{ℕ, zero, suc, ◌*◌, ◌/◌, ◌%◌, ◌<◌}
use borrow.Author.Tests.{lt-ltb, ltb-true, ltb-false, eqb-true, eq-eqb, ne_eqb, not-false}
use Rattle.std.proofs.Math.ListN.{length, take, drop, length-append}
use Rattle.std.proofs.Math.Seq.{drop_at}
use Rattle.laws.specs.Loop.{for_up, for_up_same}
use Rattle.laws.specs.Tests.{neither, same_truth}
use Rattle.outline.specs.declared.Point.{Point}
use Rattle.outline.specs.Outline.{points, point_at}
use Rattle.outline.specs.Accepted.{cond_zero, first_zero}
use Rattle.outline.proofs.RefusalLaws.{answer_refused}
use Rattle.field_direction.specs.Record.{FieldRecord}
use Rattle.field_direction.specs.Direction.{record_refusal, nearest_direction, direction_refusal, direction_answer}
use Rattle.field_directions.specs.Directions.{direction_floats, floats_at, strung, lists_unfit, directions_refusal, directions_exit}
use Rattle.field_directions.specs.Directions.{directions_answer, DirectionsGiven}
use Rattle.field_directions.specs.Laws.{point_answer, points_answered, floats_three, Fit}

-- ---- the single query where 11 doesn't refuse the record

answer_same : (r : FieldRecord) (p target : Point) → record_refusal r ≡ 0 → point_answer r.grid r.lists.values p target ≡ direction_answer r p target
unfolding point_answer direction_answer nearest_direction direction_refusal
answer_same r p target e = rw e refl

answered_same : (r : FieldRecord) (ps targets answers : List Float) → record_refusal r ≡ 0
    → points_answered r.grid r.lists.values ps targets answers ≡ strung (floats_at r ps targets) (points ps) ++ drop (3 * points ps) answers
unfolding points_answered strung
answered_same r ps targets answers e =
    ap (λ (l : List Float). l ++ drop (3 * points ps) answers)
    (for_up_same (points ps) _ _ [] (λ i l h. ap (λ (d : Result Point ℕ). l ++ direction_floats d) (answer_same r (point_at ps i) (point_at targets i) e)))

-- ---- three floats a point

module _ (f : ℕ → List Float) (three : (i : ℕ) → length (f i) ≡ 3) where
  strung_next : (n : ℕ) → strung f (suc n) ≡ strung f n ++ f n
  unfolding strung for_up
  strung_next n = refl

  strung_long : (n : ℕ) → length (strung f n) ≡ 3 * n
  unfolding strung for_up
  strung_long zero = refl
  strung_long (suc n) = omega (arith, length-append (strung f n) (f n), strung_long n, three n)

  -- the floats of point i stand from place 3·i on
  strung_at : (n i : ℕ) (rest : List Float) → i < n → take 3 (drop (3 * i) (strung f n ++ rest)) ≡ f i
  strung_at zero i rest h = absurd (omega arith)
  strung_at (suc n) i rest h =
      ap (λ (l : List Float). take 3 (drop (3 * i) l)) (ap (λ (l : List Float). l ++ rest) (strung_next n) ∙ append_assoc (strung f n) (f n) rest)
      ∙ ⊎_elim
      (λ e. ap (λ (k : ℕ). take 3 (drop (3 * k) (strung f n ++ (f n ++ rest)))) e
      ∙ ap (take 3) (drop_at (strung f n) (f n ++ rest) (3 * n) (strung_long n)) ∙ take_at (f n) rest 3 (three n) ∙ ap f (sym e))
      (λ less. strung_at n i (f n ++ rest) less) (eq-or-lt_of_le (le_of_suc-le-suc h))

-- ---- the refusals

pub third_of : (a n : ℕ) → ltb (a / 3) n ≡ ltb a (3 * n)
third_of a n =
    same_truth (ltb (a / 3) n) (ltb a (3 * n)) (λ e. lt-ltb a (3 * n) (omega (arith, ltb-true (a / 3) n e)))
    (λ e. lt-ltb (a / 3) n (omega (arith, ltb-true a (3 * n) e)))

module _ (ps targets answers : List Float) where
  pub unfit_lengths : (length ps ≡ length targets → ⊥) → true ≡ lists_unfit ps targets answers
  unfolding lists_unfit
  unfit_lengths h = rw (ne_eqb (length ps) (length targets) h) refl

  pub unfit_half : length ps ≡ length targets → length ps % 2 ≡ 1 → true ≡ lists_unfit ps targets answers
  unfolding lists_unfit
  unfit_half e h = rw (eq-eqb (length ps) (length targets) e, eq-eqb (length ps % 2) 1 h) refl

  pub unfit_room : length ps ≡ length targets → (length ps % 2 ≡ 1 → ⊥) → ltb (length answers / 3) (length ps / 2) ≡ lists_unfit ps targets answers
  unfolding lists_unfit
  unfit_room e h = rw (eq-eqb (length ps) (length targets) e, ne_eqb (length ps % 2) 1 h) (third_of (length answers) (points ps))

  fit : lists_unfit ps targets answers ≡ false → Fit ps targets answers
  unfolding lists_unfit
  fit e =
      let lengths = neither (not (eqb (length ps) (length targets))) _ e in
      let halves = neither (eqb (length ps % 2) 1) _ lengths.1 in
      record {
        equal = eqb-true (length ps) (length targets) (not-false _ lengths.0);
        room = ltb-false (length answers) (3 * points ps) halves.1;
      }

  module _ (r : FieldRecord) where
    pub lists_refused : lists_unfit ps targets answers ≡ true → 14 ≡ directions_refusal r ps targets answers
    unfolding directions_refusal
    lists_refused e = rw e refl

    pub lists_pass : lists_unfit ps targets answers ≡ false → record_refusal r ≡ directions_refusal r ps targets answers
    unfolding directions_refusal
    lists_pass e = rw e refl

    pub directions_unrefused : directions_refusal r ps targets answers ≡ 0 → Fit ps targets answers × (record_refusal r ≡ 0)
    unfolding directions_refusal
    directions_unrefused e =
        let parts = first_zero (cond (lists_unfit ps targets answers) 14 0) (record_refusal r) e in
        (fit (cond_zero (lists_unfit ps targets answers) 13 0 parts.0).0, parts.1)

    -- ---- what a host gets, of a call that is refused and of one that isn't

    pub given_refused : {n : ℕ} → n ≡ directions_refusal r ps targets answers → (n ≡ 0 → ⊥) → DirectionsGiven r ps targets answers n answers
    unfolding directions_answer
    given_refused {n} e h =
        record {
          equal = rw (← e) (sym (answer_refused (λ number. directions_exit number answers) _ n h));
          refused = λ no. refl;
          each = λ zero. absurd (h zero);
          past = λ zero. absurd (h zero);
        }

    pub given_answered : {after : List Float} → directions_refusal r ps targets answers ≡ 0
        → after ≡ points_answered r.grid r.lists.values ps targets answers → DirectionsGiven r ps targets answers 0 after
    unfolding directions_answer
    given_answered {after} e left =
        let n = points ps in
        let f = floats_at r ps targets in
        let three : (i : ℕ) → length (f i) ≡ 3 = λ i. floats_three (direction_answer r (point_at ps i) (point_at targets i)) in
        let rest = drop (3 * n) answers in
        let same : after ≡ strung f n ++ rest = left ∙ answered_same r ps targets answers (directions_unrefused e).1 in
        record {
          equal = rw e (ap (directions_exit 0) same);
          refused = λ no. absurd (no refl);
          each = λ zero i h. ap (λ (l : List Float). take 3 (drop (3 * i) l)) same ∙ strung_at f three n i rest h;
          past = λ zero. ap (drop (3 * n)) same ∙ drop_at (strung f n) rest (3 * n) (strung_long f three n);
        }
