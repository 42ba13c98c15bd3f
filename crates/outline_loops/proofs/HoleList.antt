-- The list of an outline's holes is as long as that of their lengths, and has hole k at place k.
use Rattle.std.specs.Iterator.{Yields, YieldsFirstBy}
use Rattle.std.specs.Prelude.{Option, Some, None, Bool, false, ◌||◌, List, [], ◌∷◌, ◌≡◌, refl, ℕ, zero, suc, ◌+◌, ◌*◌, ◌≤◌, ◌<◌, ◌^◌, length, get_or, take, drop, sum, Float}
use Rattle.std.proofs.Common.{sym, ap, ap₂, ◌∙◌, arith, add-one, length-take, get_or-take}
use Rattle.std.proofs.lemmas.List.{drop-drop}
use Rattle.std.proofs.lemmas.List.Sums.{sum_by-cons}
use Rattle.std.proofs.lemmas.Iterator.Consumers.{YieldsList-from_first, YieldsList-turn, YieldsList-end}
use Rattle.std.proofs.lemmas.Iterator.{YieldsList}
use Rattle.std.specs.List.{list_any}
use Rattle.laws.specs.Loop.{for_up_same, any_turn, any_up}
use Rattle.laws.proofs.Lists.{any_list}
use Rattle.outline.specs.Outline.{Outline, hole_length, hole_start, hole_at, loop_at, misshapen}
use Rattle.outline.proofs.OutlineBase.{start_first, start_next, shaped, HolesPassed}
use Rattle.outline_loops.specs.declared.Hole.{Hole}
use Rattle.outline_loops.specs.declared.Holes.{Holes}
use Rattle.outline_loops.specs.Holes.{placed, cut, hole_list, Filled, HolePlace}

-- the points before a hole, the first hole's apart
start_front : (n : ℕ) (lens : List ℕ) (k : ℕ) → hole_start (n ∷ lens) (suc k) ≡ n + hole_start lens k
start_front n lens zero = omega (arith, start_next (n ∷ lens) 0, start_first (n ∷ lens), start_first lens)
start_front n lens (suc k) =
    omega (arith, start_next (n ∷ lens) (suc k), start_next lens k, start_front n lens k, ap (hole_start (n ∷ lens)) (one (suc k)), ap (hole_start lens) (one k))
  where
    one : (k : ℕ) → k + 1 ≡ suc k
    one k = omega arith

start_sum : (lens : List ℕ) → hole_start lens (length lens) ≡ sum lens
start_sum [] = start_first []
start_sum (n ∷ lens) =
    start_front n lens (length lens) ∙ ap (λ (m : ℕ). n + m) (start_sum lens) ∙ sym (sum_by-cons (λ (m : ℕ). m) n lens)

pub filled : (o : Outline) → misshapen o ≡ false → length o.lens < 2 ^ 64 → Filled 0 0 o.lens o.holes
filled o e h = let s = shaped o e in record { there = omega (arith, start_sum o.lens); few = omega arith; numbered = omega arith }

cut_length : (k start : ℕ) (lens : List ℕ) (s : List Float) → length (cut k start lens s) ≡ length lens
cut_length k start [] s = refl
cut_length k start (n ∷ lens) s = ap suc (cut_length (k + 1) (start + n) lens (drop (2 * n) s))

abbrev hole_cut : ℕ → ℕ → List ℕ → List Float → ℕ → ℕ × (ℕ × List Float)
hole_cut k start lens s i = (k + i, (start + hole_start lens i, take (2 * hole_length lens i) (drop (2 * hole_start lens i) s)))

cut_at : (k start : ℕ) (lens : List ℕ) (s : List Float) (d : ℕ × (ℕ × List Float)) (i : ℕ) → i < length lens
    → get_or (cut k start lens s) i d ≡ hole_cut k start lens s i
cut_at k start [] s d i h = absurd (omega arith)
cut_at k start (n ∷ lens) s d zero h = rw (start_first (n ∷ lens)) (ap₂ (λ (a b : ℕ). (a, (b, take (2 * n) s))) (omega arith) (omega arith))
cut_at k start (n ∷ lens) s d (suc i) h =
    cut_at (k + 1) (start + n) lens (drop (2 * n) s) d i (omega arith)
    ∙ ap₂ (λ (a b : ℕ). (a, (b, take (2 * hole_length lens i) (drop (2 * hole_start lens i) (drop (2 * n) s))))) (omega arith) (omega (arith, start_front n lens i))
    ∙ ap (λ (t : List Float). (k + suc i, (start + hole_start (n ∷ lens) (suc i), take (2 * hole_length lens i) t)))
    (drop-drop (2 * hole_start lens i) (2 * n) s ∙ ap (λ (m : ℕ). drop m s) (omega (arith, start_front n lens i)))

pub hole_list_length : (o : Outline) → length (hole_list o) ≡ length o.lens
unfolding hole_list
hole_list_length o = cut_length 0 0 o.lens o.holes

pub hole_list_at : (o : Outline) (d : ℕ × (ℕ × List Float)) (k : ℕ) → k < length o.lens → get_or (hole_list o) k d ≡ (k, (hole_start o.lens k, hole_at o k))
unfolding hole_list hole_at
hole_list_at o d k h = cut_at 0 0 o.lens o.holes d k h ∙ ap₂ (λ (a b : ℕ). (a, (b, hole_at o k))) (omega arith) (omega arith)

-- a test of some hole of the list, or of the first n, is one of some place
module _ (o : Outline) (test : ℕ × (ℕ × List Float) → Bool) (other : ℕ → Bool)
    (same : (k : ℕ) → k < length o.lens → test (k, (hole_start o.lens k, hole_at o k)) ≡ other k) where
  any_place : (n : ℕ) (s : List (ℕ × (ℕ × List Float))) → n ≤ length o.lens → length s ≡ n → ((k : ℕ) → k < n → get_or s k (0, (0, [])) ≡ get_or (hole_list o) k (0, (0, [])))
      → list_any test s ≡ any_up n other
  unfolding any_up
  any_place n s few long e =
      any_list test (0, (0, [])) s ∙ ap (λ (m : ℕ). any_up m (λ k. test (get_or s k (0, (0, []))))) long
      ∙ for_up_same n (any_turn (λ k. test (get_or s k (0, (0, []))))) (any_turn other) false
      (λ k b h. ap (λ (x : Bool). b || x) (ap test (e k h ∙ hole_list_at o (0, (0, [])) k (omega arith)) ∙ same k (omega arith)))

  pub any_hole : list_any test (hole_list o) ≡ any_up (length o.lens) other
  any_hole = any_place (length o.lens) (hole_list o) (omega arith) (hole_list_length o) (λ k h. refl)

  pub any_first_hole : (n : ℕ) → n ≤ length o.lens → list_any test (take n (hole_list o)) ≡ any_up n other
  any_first_hole n few =
      any_place n (take n (hole_list o)) few (omega (arith, length-take n (hole_list o), hole_list_length o)) (λ k h. get_or-take n (hole_list o) k (0, (0, [])) h)

-- ---- a loop `for hole in outlines::holes_of(..)`: what its iterator gave so far, and gives next

abbrev left : Holes → List (ℕ × (ℕ × List Float))
left h = cut h.index h.start h.lens.now h.points.now

abbrev pub GivesHoles : Holes → Option Hole → Holes → Type 0
GivesHoles = YieldsFirstBy placed left

pub holes_yield : (o : Outline) (first : Holes) → left first ≡ hole_list o → YieldsList GivesHoles placed first (hole_list o)
holes_yield o first all = YieldsList-from_first placed left (hole_list o) all

pub hole_place : (o : Outline) (k : ℕ) (h : Hole) → k < length o.lens → placed h ≡ get_or (hole_list o) k (placed h) → HolePlace o k h
hole_place o k h within e =
    let same = e ∙ hole_list_at o (placed h) k within in
    record {
      within = within;
      index = ap (λ (p : ℕ × (ℕ × List Float)). p.0) same;
      start = ap (λ (p : ℕ × (ℕ × List Float)). p.1.0) same;
      points = ap (λ (p : ℕ × (ℕ × List Float)). p.1.1) same;
    }

-- so is a hole of the list
pub listed_place : (o : Outline) (k : ℕ) (h : Hole) → k < length (hole_list o) → placed h ≡ get_or (hole_list o) k (placed h) → HolePlace o k h
listed_place o k h within e = hole_place o k h (omega (arith, hole_list_length o)) e

-- and one of the first n
pub first_place : (o : Outline) (n : ℕ) → n ≤ length o.lens → (k : ℕ) (h : Hole) → k < length (take n (hole_list o)) → placed h ≡ get_or (take n (hole_list o)) k (placed h) → HolePlace o k h
first_place o n few k h within e =
    let i : k < n = omega (arith, length-take n (hole_list o)) in
    hole_place o k h (omega arith) (e ∙ get_or-take n (hole_list o) k (placed h) i)

module _ (o : Outline) (first here next : Holes) (given : List Hole) (all : left first ≡ hole_list o) (so_far : Yields GivesHoles first given here) where
  -- it gives the next hole
  pub hole_given : {r : Option Hole} (h : Hole) → r ≡ Some h → GivesHoles here r next → HolePlace o (length given) h
  hole_given h e step =
      let turn = YieldsList-turn (holes_yield o first all) given here so_far _ next h e step in
      hole_place o (length given) h (omega (arith, turn.0, hole_list_length o)) turn.1

  -- or all have been given
  pub holes_given : {r : Option Hole} → r ≡ None → GivesHoles here r next → length given ≡ length o.lens
  holes_given e step = (YieldsList-end (holes_yield o first all) given here so_far _ next e step).1 ∙ hole_list_length o

-- the same of an iterator over the first n holes
module _ {S : Type 0} {steps : S → Option Hole → S → Type 0} (o : Outline) (n : ℕ) (few : n ≤ length o.lens) {first : S} (all : YieldsList steps placed first (take n (hole_list o)))
    (here next : S) (given : List Hole) (so_far : Yields steps first given here) where
  taken : length (take n (hole_list o)) ≡ n
  taken = omega (arith, length-take n (hole_list o), hole_list_length o)

  pub first_given : {r : Option Hole} (h : Hole) → r ≡ Some h → steps here r next → (length given < n) × HolePlace o (length given) h
  first_given h e step =
      let turn = YieldsList-turn all given here so_far _ next h e step in
      let within : length given < n = omega (arith, turn.0, taken) in
      (within, hole_place o (length given) h (omega arith) (turn.1 ∙ get_or-take n (hole_list o) (length given) (placed h) within))

  pub firsts_given : {r : Option Hole} → r ≡ None → steps here r next → length given ≡ n
  firsts_given e step = (YieldsList-end all given here so_far _ next e step).1 ∙ taken

-- where its points begin, and that it is loop k + 1
module _ {o : Outline} {k : ℕ} {h : Hole} (p : HolePlace o k h) where
  pub place_passed : misshapen o ≡ false → HolesPassed o k h.start
  place_passed e = record { shape = e; at = p.start }

  pub place_loop : h.points.now ≡ loop_at o (k + 1)
  unfolding loop_at
  place_loop = p.points ∙ sym (rw add-one refl)
