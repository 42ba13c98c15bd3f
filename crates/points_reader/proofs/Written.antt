-- What is written where nothing is refused: there is room for all of it.
use Rattle.std.specs.Prelude.{◌≡◌, ℕ, zero, suc, ◌/◌, ◌≤◌, Bool, true, false, cond, List, length, ◌==◌, leb, refl}
use Rattle.std.proofs.Common.{arith, ap, sym, ◌∙◌}
use Rattle.std.proofs.lemmas.Bool.{leb-true}
use Rattle.std.proofs.Math.Dec.{eqb-suc-zero}
use Rattle.laws.specs.Tests.{both}
use Rattle.laws.specs.Overlay.{overlay}
use Rattle.points_reader.specs.declared.reading.Reader.{Reader}
use Rattle.points_reader.specs.Counts.{IsNew}
use Rattle.points_reader.proofs.Even.{Even, even_walk}
use Rattle.points_reader.specs.Laid.{laid}
use Rattle.points_reader.proofs.Laying.{laid_whole}
use Rattle.points_reader.specs.Reading.{new_reader}
use Rattle.points_reader.specs.Walking.{Walk, unmarked, separator_of, walked}
use Rattle.points_reader.specs.Answers.{faulty_answer, read_answer, reader_answer, long_answer, has_room, text_walked, points_answer, written, most_bytes}

new_is : (which : ℕ) → IsNew (new_reader which)
unfolding new_reader
new_is which = record { line = refl; points = refl; here = refl; loops = refl; faults = refl }

pub even_text : (text : List ℕ) (which : ℕ) → Even (text_walked text which).reader (text_walked text which).out
even_text text which = even_walk _ _ _ (new_is which)

-- ---- an answer that refuses nothing

read_room : (separator : ℕ) (room : Bool) (r : Reader) → (read_answer separator room r).refusal ≡ 0 → room ≡ true
unfolding read_answer
read_room separator true r e = refl
read_room separator false r e = absurd (omega arith)

not_faulty : (separator : ℕ) (r : Reader) → (faulty_answer separator r).refusal ≡ 0 → ⊥
unfolding faulty_answer
not_faulty separator r e = omega arith

not_long : long_answer.refusal ≡ 0 → ⊥
unfolding long_answer
not_long e = omega arith

reader_room : (z : Bool) (separator : ℕ) (room : Bool) (r : Reader) → (cond z (read_answer separator room r) (faulty_answer separator r)).refusal ≡ 0 → room ≡ true
reader_room true separator room r e = read_room separator room r e
reader_room false separator room r e = absurd (not_faulty separator r e)

-- it was short enough and has room
pub record Roomy (few : Bool) (room : Bool) : Type 0 where
  pub few_is : few ≡ true
  pub room_is : room ≡ true

roomy_by : (few : Bool) (separator : ℕ) (room : Bool) (r : Reader) → (cond few (reader_answer separator room r) long_answer).refusal ≡ 0 → Roomy few room
roomy_by true separator room r e = record { few_is = refl; room_is = reader_room (r.faults == 0) separator room r e }
roomy_by false separator room r e = absurd (not_long e)

pub roomy : (text : List ℕ) (which p l n m : ℕ) → (points_answer text which p l n m).refusal ≡ 0
    → Roomy (leb (length (unmarked text)) most_bytes) (has_room (text_walked text which).reader p l n m)
unfolding points_answer
roomy text which p l n m e = roomy_by _ _ _ _ e

-- ---- so what is read fits

pub record Fits (w : Walk) (p l n m : ℕ) : Type 0 where
  pub points : length w.out.points ≤ p
  pub lines : length w.out.lines ≤ l
  pub lengths : length w.out.lengths ≤ n
  pub marks : length w.out.marks ≤ m

fits_by : (w : Walk) (p l n m : ℕ) → Even w.reader w.out → has_room w.reader p l n m ≡ true → Fits w p l n m
unfolding has_room
fits_by w p l n m e h =
    let halves = both _ _ h in
    let first = both _ _ halves.0 in
    let second = both _ _ halves.1 in
    let a : w.reader.points ≤ p / 2 = leb-true _ _ first.0 in
    let b : w.reader.points ≤ l = leb-true _ _ first.1 in
    let c : w.reader.loops ≤ n = leb-true _ _ second.0 in
    let d : w.reader.loops ≤ m / 3 = leb-true _ _ second.1 in
    record { points = omega (arith, e.points); lines = omega (arith, e.lines); lengths = omega (arith, e.lengths); marks = omega (arith, e.marks) }

module _ (text : List ℕ) (which p l n m : ℕ) (e : (points_answer text which p l n m).refusal ≡ 0) where
  pub few_bytes : length (unmarked text) ≤ 268435456
  few_bytes = leb-true _ _ (roomy text which p l n m e).few_is

  pub fits : Fits (text_walked text which) p l n m
  fits = fits_by (text_walked text which) p l n m (even_text text which) (roomy text which p l n m e).room_is

pub walk_same : (text : List ℕ) (which : ℕ) {separator : ℕ} {u : List ℕ} {r : Reader} → separator ≡ separator_of u → u ≡ unmarked text → r ≡ new_reader which
    → walked separator u r ≡ text_walked text which
walk_same text which {separator} {u} {r} e f g =
    ap (λ (s : ℕ). walked s u r) e ∙ ap (λ (v : List ℕ). walked (separator_of v) v r) f ∙ ap (λ (q : Reader). walked (separator_of (unmarked text)) (unmarked text) q) g

written_by : {A : Type 0} (k : ℕ) (l s : List A) → k ≡ 0 → written k l s ≡ overlay l s
unfolding written
written_by k l s e = ap (λ (j : ℕ). cond (j == 0) (overlay l s) s) e

-- the list as it was left, where nothing is refused
pub written_whole : {A : Type 0} {k : ℕ} (l s : List A) {x : List A} → k ≡ 0 → length l ≤ length s → x ≡ laid l s → x ≡ written k l s
written_whole {A} {k} l s e h f = f ∙ laid_whole l s h ∙ sym (written_by k l s e)

other : (k : ℕ) → (k ≡ 0 → ⊥) → (k == 0) ≡ false
other zero h = absurd (h refl)
other (suc k) h = eqb-suc-zero k

-- and as it was, where something is
pub unwritten : {A : Type 0} (k : ℕ) (l s : List A) → (k ≡ 0 → ⊥) → s ≡ written k l s
unfolding written
unwritten k l s h = sym (ap (λ (b : Bool). cond b (overlay l s) s) (other k h))
