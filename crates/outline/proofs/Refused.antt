-- The laws by which a function takes over the refusal of one that it calls.
use Rattle.std.specs.Prelude.{◌≡◌, ℕ, true, false, refl, Result, Ok, Err, is_ok}
use Rattle.outline.specs.declared.Refusal.{Refusal}
use Rattle.outline.specs.declared.Refusal.TheVariants.{Lists, ShortLoop, NotFinite, TooFar, NoSize, SizeOutOfRange, Flat, TooManySweeps, FieldNeedsSpace, FrontNeedsSpace, NoFieldRecord, WrongCheck, WrongFile, AnswerLists, NoNode, ThresholdTooHigh, NoThreshold, NoQuad, WeightTooHigh, NotAllowed, NotEachOnce, TooEarly, UnsoundMesh, NotOnFront, NotShown, FoursNeedSpace}
use Rattle.outline.specs.Outline.{first_of}
use Rattle.outline.specs.Queries.{answer_by}
use Rattle.outline.proofs.RefusalLaws.{answer_refused}
use Rattle.outline.specs.Refusals.{refusal_number, refused}

-- what is refused first stays refused
pub first_refused : (r : Refusal) (next : ℕ) → first_of (refusal_number r) next ≡ refusal_number r
first_refused Lists next = refl
first_refused ShortLoop next = refl
first_refused NotFinite next = refl
first_refused TooFar next = refl
first_refused NoSize next = refl
first_refused SizeOutOfRange next = refl
first_refused Flat next = refl
first_refused TooManySweeps next = refl
first_refused FieldNeedsSpace next = refl
first_refused FrontNeedsSpace next = refl
first_refused NoFieldRecord next = refl
first_refused WrongCheck next = refl
first_refused WrongFile next = refl
first_refused AnswerLists next = refl
first_refused NoNode next = refl
first_refused ThresholdTooHigh next = refl
first_refused NoThreshold next = refl
first_refused NoQuad next = refl
first_refused WeightTooHigh next = refl
first_refused NotAllowed next = refl
first_refused NotEachOnce next = refl
first_refused TooEarly next = refl
first_refused UnsoundMesh next = refl
first_refused NotOnFront next = refl
first_refused NotShown next = refl
first_refused FoursNeedSpace next = refl

-- no refusal has the number 0
pub refusal_some : (r : Refusal) → refusal_number r ≡ 0 → ⊥
refusal_some Lists e = cc
refusal_some ShortLoop e = cc
refusal_some NotFinite e = cc
refusal_some TooFar e = cc
refusal_some NoSize e = cc
refusal_some SizeOutOfRange e = cc
refusal_some Flat e = cc
refusal_some TooManySweeps e = cc
refusal_some FieldNeedsSpace e = cc
refusal_some FrontNeedsSpace e = cc
refusal_some NoFieldRecord e = cc
refusal_some WrongCheck e = cc
refusal_some WrongFile e = cc
refusal_some AnswerLists e = cc
refusal_some NoNode e = cc
refusal_some ThresholdTooHigh e = cc
refusal_some NoThreshold e = cc
refusal_some NoQuad e = cc
refusal_some WeightTooHigh e = cc
refusal_some NotAllowed e = cc
refusal_some NotEachOnce e = cc
refusal_some TooEarly e = cc
refusal_some UnsoundMesh e = cc
refusal_some NotOnFront e = cc
refusal_some NotShown e = cc
refusal_some FoursNeedSpace e = cc

-- what `is_ok` tells
pub ok_unrefused : {A : Type 0} (r : Result A Refusal) → is_ok r ≡ true → refused r ≡ 0
ok_unrefused (Ok a) e = refl
ok_unrefused (Err f) e = cc

pub err_refused : {A : Type 0} (r : Result A Refusal) → is_ok r ≡ false → refused r ≡ 0 → ⊥
err_refused (Ok a) e z = cc
err_refused (Err f) e z = refusal_some f z

-- an answer that is refused
pub refused_answer : {A : Type 0} (a : A) (r : Refusal) → answer_by Err (Ok a) (refusal_number r) ≡ Err (refusal_number r)
refused_answer a r = answer_refused Err (Ok a) (refusal_number r) (refusal_some r)
