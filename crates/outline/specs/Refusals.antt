-- The refusals by their numbers: those of a run and of a file up to 13, then those of the other entries. Definitions only.
use Rattle.std.specs.Prelude.{ℕ, Result, Ok, Err}
use Rattle.outline.specs.declared.Refusal.{Refusal}
use Rattle.outline.specs.declared.Refusal.TheVariants.{Lists, ShortLoop, NotFinite, TooFar, NoSize, SizeOutOfRange, Flat, TooManySweeps, FieldNeedsSpace, FrontNeedsSpace, NoFieldRecord, WrongCheck, WrongFile, AnswerLists, NoNode, ThresholdTooHigh, NoThreshold, NoQuad, WeightTooHigh, NotAllowed, NotEachOnce, TooEarly, UnsoundMesh, NotOnFront, NotShown, FoursNeedSpace}

-- a refusal's number
abbrev pub refusal_number : Refusal → ℕ
refusal_number Lists = 1
refusal_number ShortLoop = 2
refusal_number NotFinite = 3
refusal_number TooFar = 4
refusal_number NoSize = 5
refusal_number SizeOutOfRange = 6
refusal_number Flat = 7
refusal_number TooManySweeps = 8
refusal_number FieldNeedsSpace = 9
refusal_number FrontNeedsSpace = 10
refusal_number NoFieldRecord = 11
refusal_number WrongCheck = 12
refusal_number WrongFile = 13
refusal_number AnswerLists = 14
refusal_number NoNode = 15
refusal_number ThresholdTooHigh = 16
refusal_number NoThreshold = 17
refusal_number NoQuad = 18
refusal_number WeightTooHigh = 19
refusal_number NotAllowed = 20
refusal_number NotEachOnce = 21
refusal_number TooEarly = 22
refusal_number UnsoundMesh = 23
refusal_number NotOnFront = 24
refusal_number NotShown = 25
refusal_number FoursNeedSpace = 26

-- the number beside an answer's values: 0 where nothing is refused
abbrev pub refused : {A : Type 0} → Result A Refusal → ℕ
refused (Ok a) = 0
refused (Err r) = refusal_number r

-- what is answered, a refusal by its number
abbrev pub numbered : {A : Type 0} → Result A Refusal → Result A ℕ
numbered (Ok a) = Ok a
numbered (Err r) = Err (refusal_number r)
