-- The list of an outline's loops has one more than that of the holes, with loop k at place k; and a fold over the loops is one over the holes that begins with the outer loop.
use Rattle.std.specs.Iterator.{Yields, YieldsFirstBy}
use Rattle.std.specs.Prelude.{Option, Some, None, List, [], ◌∷◌, ◌≡◌, refl, ℕ, zero, suc, ◌+◌, ◌-◌, ◌≤◌, ◌<◌, length, get_or, map, fold, Float}
use Rattle.std.proofs.Common.{sym, ap, ap₂, ◌∙◌, arith, add-one}
use Rattle.std.proofs.lemmas.List.{drop_more, drop_all}
use Rattle.std.proofs.lemmas.Iterator.Consumers.{YieldsList-from_first, YieldsList-turn, YieldsList-end}
use Rattle.std.proofs.lemmas.Iterator.{YieldsList}
use Rattle.laws.specs.Loop.{for_up, for_up_same}
use Rattle.outline.specs.Outline.{Outline, outline_of, hole_length, hole_start, hole_at, loop_at, loop_start, most_points, LoopPlace}
use Rattle.outline.proofs.OutlineBase.{start_first, start_next, start_grows, shaped}
use Rattle.outline_loops.specs.declared.Loop.{Loop}
use Rattle.outline_loops.specs.declared.Loops.{Loops}
use Rattle.outline_loops.specs.Holes.{hole_list}
use Rattle.outline_loops.specs.Loops.{looped, hole_loop, loop_list, loops_from, LoopsAhead, LoopListed}
use Rattle.outline_loops.proofs.HoleList.{hole_list_length, hole_list_at}

map_length : {A B : Type 0} (f : A → B) (xs : List A) → length (map f xs) ≡ length xs
map_length f [] = refl
map_length f (x ∷ xs) = ap suc (map_length f xs)

map_at : {A B : Type 0} (f : A → B) (xs : List A) (k : ℕ) (d : A) (e : B) → k < length xs → get_or (map f xs) k e ≡ f (get_or xs k d)
map_at f [] k d e h = absurd (omega arith)
map_at f (x ∷ xs) zero d e h = refl
map_at f (x ∷ xs) (suc k) d e h = map_at f xs k d e (omega arith)

pub loop_list_length : (o : Outline) → length (loop_list o) ≡ suc (length o.lens)
unfolding loop_list
loop_list_length o = ap suc (map_length hole_loop (hole_list o) ∙ hole_list_length o)

loop_list_at : (o : Outline) (d : ℕ × (ℕ × List Float)) (k : ℕ) → k < suc (length o.lens) → get_or (loop_list o) k d ≡ (k, (loop_start o.lens k, loop_at o k))
unfolding loop_list loop_at
loop_list_at o d zero h = refl
loop_list_at o d (suc k) h =
    map_at hole_loop (hole_list o) k (0, (0, [])) d (omega (arith, hole_list_length o))
    ∙ ap hole_loop (hole_list_at o (0, (0, [])) k (omega arith))
    ∙ ap (λ (i : ℕ). (i, (hole_start o.lens k, hole_at o k))) (add-one k)

-- ---- a loop `for each in outlines::loops_of(..)`: what its iterator gave so far, and gives next

abbrev left : Loops → List (ℕ × (ℕ × List Float))
left s = loops_from (outline_of s.domain) s.index

abbrev pub GivesLoops : Loops → Option Loop → Loops → Type 0
GivesLoops = YieldsFirstBy looped left

pub loops_yield : (o : Outline) (first : Loops) → left first ≡ loop_list o → YieldsList GivesLoops looped first (loop_list o)
loops_yield o first all = YieldsList-from_first looped left (loop_list o) all

pub listed_loop : (o : Outline) (k : ℕ) (l : Loop) → k < length (loop_list o) → looped l ≡ get_or (loop_list o) k (looped l) → LoopListed o k l
listed_loop o k l within e =
    let same = e ∙ loop_list_at o (looped l) k (omega (arith, loop_list_length o)) in
    record {
      within = omega (arith, loop_list_length o);
      index = ap (λ (p : ℕ × (ℕ × List Float)). p.0) same;
      start = ap (λ (p : ℕ × (ℕ × List Float)). p.1.0) same;
      points = ap (λ (p : ℕ × (ℕ × List Float)). p.1.1) same;
    }

module _ (o : Outline) (first here next : Loops) (given : List Loop) (all : left first ≡ loop_list o) (so_far : Yields GivesLoops first given here) where
  -- it gives the next loop
  pub loop_given : {r : Option Loop} (l : Loop) → r ≡ Some l → GivesLoops here r next → LoopListed o (length given) l
  loop_given l e step =
      let turn = YieldsList-turn (loops_yield o first all) given here so_far _ next l e step in
      listed_loop o (length given) l turn.0 turn.1

  -- or all have been given
  pub loops_given : {r : Option Loop} → r ≡ None → GivesLoops here r next → length given ≡ suc (length o.lens)
  loops_given e step = (YieldsList-end (loops_yield o first all) given here so_far _ next e step).1 ∙ loop_list_length o

-- what its next call gives, and what it leaves
module _ {o : Outline} {k start : ℕ} (l : LoopsAhead o k start) where
  pub loop_ahead : k ≤ length o.lens → {s : List Float} → s ≡ loop_at o k → loops_from o k ≡ (k, (start, s)) ∷ loops_from o (k + 1)
  loop_ahead h e =
      let within : k < length (loop_list o) = omega (arith, loop_list_length o) in
      drop_more (loop_list o) k (0, (0, [])) within
      ∙ ap (λ (x : ℕ × (ℕ × List Float)). x ∷ loops_from o (k + 1)) (loop_list_at o (0, (0, [])) k (omega arith) ∙ ap₂ (λ (a : ℕ) (t : List Float). (k, (a, t))) (sym l.at) (sym e))

  pub none_ahead : length o.lens < k → loops_from o k ≡ []
  none_ahead h = drop_all k (loop_list o) (omega (arith, loop_list_length o))

  pub ahead_place : k ≤ length o.lens → LoopPlace o k start
  ahead_place h = record { shape = l.shape; within = h; at = l.at }

  -- the loop passed has n hole points
  pub loop_passed : k ≤ length o.lens → {n : ℕ} → (k ≡ 0 → n ≡ 0) → ((k ≡ 0 → ⊥) → n ≡ hole_length o.lens (k - 1)) → LoopsAhead o (k + 1) (start + n)
  loop_passed h {n} outer hole = record { shape = l.shape; within = omega arith; at = ap (λ (a : ℕ). a + n) l.at ∙ next k outer hole; few = l.few }
    where
      one : (k : ℕ) → suc k - 1 ≡ k
      one k = omega arith

      two : (k : ℕ) → suc k ≡ k + 1
      two k = omega arith

      next : (k : ℕ) → (k ≡ 0 → n ≡ 0) → ((k ≡ 0 → ⊥) → n ≡ hole_length o.lens (k - 1)) → loop_start o.lens k + n ≡ loop_start o.lens (k + 1)
      next zero outer hole = omega (arith, outer refl, start_first o.lens)
      next (suc k) outer hole = rw add-one (omega (arith, hole (λ e. omega arith), start_next o.lens k, ap (hole_length o.lens) (one k), ap (hole_start o.lens) (two k)))

-- no more hole points are passed than an outline has
pub passed_few : {o : Outline} {k start : ℕ} → LoopsAhead o k start → start ≤ most_points
passed_few {o} {k} l = let s = shaped o l.shape in omega (arith, l.at, s.sum, s.few, by k l.within)
  where
    by : (k : ℕ) → k ≤ suc (length o.lens) → loop_start o.lens k ≤ hole_start o.lens (length o.lens)
    by zero h = omega arith
    by (suc k) h = omega (arith, start_grows o.lens k (length o.lens - k), ap (hole_start o.lens) (whole k h))
      where
        whole : (k : ℕ) → suc k ≤ suc (length o.lens) → k + (length o.lens - k) ≡ length o.lens
        whole k h = omega arith

-- ---- loops and folds over all loops

-- the first turn apart
up_first : {A : Type 0} (n : ℕ) (turn : ℕ → A → A) (a : A) → for_up (suc n) turn a ≡ for_up n (λ k. turn (suc k)) (turn 0 a)
unfolding for_up
up_first zero turn a = refl
up_first (suc n) turn a = ap (turn (suc n)) (up_first n turn a)

fold_at : {A B : Type 0} (f : A → B → A) (d : B) (a : A) (xs : List B) → fold f a xs ≡ for_up (length xs) (λ k s. f s (get_or xs k d)) a
unfolding for_up
fold_at f d a [] = refl
fold_at f d a (x ∷ xs) = fold_at f d (f a x) xs ∙ sym (up_first (length xs) (λ k s. f s (get_or (x ∷ xs) k d)) a)

pub fold_loop_list : {A : Type 0} (o : Outline) (f : A → ℕ × (ℕ × List Float) → A) (a : A)
    → fold f a (loop_list o) ≡ for_up (suc (length o.lens)) (λ k s. f s (k, (loop_start o.lens k, loop_at o k))) a
fold_loop_list {A} o f a =
    let turn : ℕ → A → A = λ k s. f s (get_or (loop_list o) k (0, (0, []))) in
    fold_at f (0, (0, [])) a (loop_list o) ∙ ap (λ (n : ℕ). for_up n turn a) (loop_list_length o)
    ∙ for_up_same (suc (length o.lens)) turn (λ k s. f s (k, (loop_start o.lens k, loop_at o k))) a (λ k s h. ap (f s) (loop_list_at o (0, (0, [])) k h))

-- a loop over all loops whose definition is one over the holes that begins with the outer loop
module _ {A : Type 0} (o : Outline) (turn : ℕ → List Float → A → A) where
  -- loop k's turn
  abbrev pub loop_turn : ℕ → A → A
  loop_turn k = turn k (loop_at o k)

  pub over_loops : (a : A) → for_up (suc (length o.lens)) loop_turn a ≡ for_up (length o.lens) (λ k. turn (suc k) (hole_at o k)) (turn 0 o.outer a)
  unfolding loop_at
  over_loops a = up_first (length o.lens) loop_turn a

  -- a fold over the loops
  pub fold_loops : (h : A → ℕ × (ℕ × List Float) → A) (a : A) → ((k start : ℕ) (s : List Float) (b : A) → h b (k, (start, s)) ≡ turn k s b)
      → fold h a (loop_list o) ≡ for_up (length o.lens) (λ k. turn (suc k) (hole_at o k)) (turn 0 o.outer a)
  fold_loops h a same =
      fold_loop_list o h a
      ∙ for_up_same (suc (length o.lens)) (λ k s. h s (k, (loop_start o.lens k, loop_at o k))) loop_turn a (λ k s i. same k (loop_start o.lens k) (loop_at o k) s)
      ∙ over_loops a
