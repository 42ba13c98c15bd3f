-- Laws of a part of a loop (`for_between`), and of a loop that takes its turns block by block: a block is looked through, or passed over where none of
-- its turns changes the state. Assumes nothing.
use Rattle.std.specs.Prelude.{◌≡◌}
use Rattle.std.proofs.Math.Path.{refl, ap}
use Rattle.std.proofs.Common.{sym, ◌∙◌, subst}
use Prim.Native.Nat.{ℕ, zero, suc, ◌+◌, ◌-◌, ◌*◌, ◌≤◌, ◌<◌, min}
use native.Mathlib.Omega.{arith}
use Rattle.laws.specs.Loop.{for_up, for_up_keeps}
use Rattle.outline_blocks.specs.Blocks.{for_between, block_size, block_end}

module _ {A : Type 0} (turn : ℕ → A → A) where
  -- n more turns after the first m
  more_turns : (m n : ℕ) (a : A) → for_up n (λ j. turn (m + j)) (for_up m turn a) ≡ for_up (m + n) turn a
  unfolding for_up
  more_turns m zero a = ap (λ (k : ℕ). for_up k turn a) (none m)
    where
      none : (m : ℕ) → m ≡ m + zero
      none m = omega arith
  more_turns m (suc n) a = ap (turn (m + n)) (more_turns m n a) ∙ ap (λ (k : ℕ). for_up k turn a) (one m n)
    where
      one : (m n : ℕ) → suc (m + n) ≡ m + suc n
      one m n = omega arith

  -- the first turns, and those between
  pub between_up : (from to : ℕ) (a : A) → from ≤ to → for_between from to turn (for_up from turn a) ≡ for_up to turn a
  unfolding for_between
  between_up from to a h = more_turns from (to - from) a ∙ ap (λ (k : ℕ). for_up k turn a) (rest from to h)
    where
      rest : (from to : ℕ) → from ≤ to → from + (to - from) ≡ to
      rest from to h = omega arith

  -- turns that leave the state as it is
  pub between_none : (from to : ℕ) (s : A) → ((i : ℕ) → from ≤ i → i < to → turn i s ≡ s) → for_between from to turn s ≡ s
  unfolding for_between
  between_none from to s h =
      for_up_keeps (λ j t. t ≡ s) (to - from) (λ j. turn (from + j)) s refl (λ j t l e. ap (turn (from + j)) e ∙ h (from + j) (omega arith) (omega arith))

-- ---- a loop from `from` up to `to`

-- the turns from `from` up to i have been taken from a, and left s
pub record LoopBetween {A : Type 0} (turn : ℕ → A → A) (a : A) (from to i : ℕ) (s : A) : Type 0 where
  pub begun : from ≤ i
  pub within : i ≤ to
  pub same : s ≡ for_between from i turn a

module _ {A : Type 0} (turn : ℕ → A → A) (a : A) where
  pub between_start : (from to : ℕ) → from ≤ to → LoopBetween turn a from to from a
  between_start from to h =
      record { begun = omega arith; within = h; same = sym (between_none turn from from a (λ i l m. absurd (omega arith))) }

  pub between_next : {from to i : ℕ} {s : A} → LoopBetween turn a from to i s → i < to → LoopBetween turn a from to (i + 1) (turn i s)
  unfolding for_between for_up
  between_next {from} {to} {i} {s} b h =
      record {
        begun = omega arith;
        within = omega arith;
        same =
            ap (turn i) b.same ∙ ap (λ (k : ℕ). turn k (for_between from i turn a)) (there from i b.begun)
            ∙ ap (λ (n : ℕ). for_up n (λ j. turn (from + j)) a) (one from i b.begun);
      }
    where
      there : (from i : ℕ) → from ≤ i → i ≡ from + (i - from)
      there from i h = omega arith

      one : (from i : ℕ) → from ≤ i → suc (i - from) ≡ i + 1 - from
      one from i h = omega arith

  pub between_end : {from to i : ℕ} {s : A} → LoopBetween turn a from to i s → to ≤ i → s ≡ for_between from to turn a
  between_end {from} {to} {i} b h = b.same ∙ ap (λ (k : ℕ). for_between from k turn a) (reached i to b.within h)
    where
      reached : (i to : ℕ) → i ≤ to → to ≤ i → i ≡ to
      reached i to h g = omega arith

-- ---- a loop by blocks

-- a loop of n turns stands at turn `from`, with which block b begins; the loop's first block is number `first`
pub record BlockPlace (n first from b : ℕ) : Type 0 where
  pub begun : first ≤ b
  pub at : from ≡ block_size * (b - first)
  pub within : from ≤ n + 15

pub place_start : (n first : ℕ) → BlockPlace n first 0 first
place_start n first = record { begun = omega arith; at = omega arith; within = omega arith }

pub place_next : {n first from b : ℕ} → BlockPlace n first from b → from < n → BlockPlace n first (from + block_size) (b + 1)
place_next {n} {first} {from} {b} p h = record { begun = omega arith; at = omega arith; within = omega arith }

-- the turns before `from` have been taken from a, and left s
pub record ByBlocks {A : Type 0} (turn : ℕ → A → A) (a : A) (n first from b : ℕ) (s : A) : Type 0 where
  pub place : BlockPlace n first from b
  pub same : s ≡ for_up (min from n) turn a

module _ {A : Type 0} (turn : ℕ → A → A) (a : A) where
  pub blocks_start : (n first : ℕ) → ByBlocks turn a n first 0 first a
  unfolding for_up
  blocks_start n first = record { place = place_start n first; same = ap (λ (k : ℕ). for_up k turn a) (none n) }
    where
      none : (n : ℕ) → 0 ≡ min 0 n
      none n = omega arith

  -- the block is looked through
  pub blocks_look : {n first from b : ℕ} {s t : A} → ByBlocks turn a n first from b s → from < n → t ≡ for_between from (block_end n from) turn s
      → ByBlocks turn a n first (from + block_size) (b + 1) t
  blocks_look {n} {first} {from} {b} {s} {t} l h e =
      let start = l.same ∙ ap (λ (k : ℕ). for_up k turn a) (before from n h) in
      record {
        place = place_next l.place h;
        same = e ∙ ap (for_between from (block_end n from) turn) start ∙ between_up turn from (block_end n from) a (omega arith);
      }
    where
      before : (from n : ℕ) → from < n → min from n ≡ from
      before from n h = omega arith

  -- the block is passed over
  pub blocks_pass : {n first from b : ℕ} {s : A} → ByBlocks turn a n first from b s → from < n
      → ((i : ℕ) → from ≤ i → i < block_end n from → turn i s ≡ s) → ByBlocks turn a n first (from + block_size) (b + 1) s
  blocks_pass {n} {first} {from} {b} {s} l h none = blocks_look l h (sym (between_none turn from (block_end n from) s none))

  pub blocks_end : {n first from b : ℕ} {s : A} → ByBlocks turn a n first from b s → n ≤ from → s ≡ for_up n turn a
  blocks_end {n} {first} {from} l h = l.same ∙ ap (λ (k : ℕ). for_up k turn a) (all from n h)
    where
      all : (from n : ℕ) → n ≤ from → min from n ≡ n
      all from n h = omega arith

-- block c of the loop is number `first + c`
pub place_of : {n first : ℕ} (c : ℕ) → block_size * c < n + block_size → BlockPlace n first (block_size * c) (first + c)
place_of {n} {first} c h = record { begun = omega arith; at = omega arith; within = omega arith }

module _ {A : Type 0} {turn : ℕ → A → A} {a : A} where
  -- of c blocks passed
  pub passed_start : {n first : ℕ} → ByBlocks turn a n first 0 first a → ByBlocks turn a n first (block_size * 0) (first + 0) a
  passed_start {n} {first} l = subst (λ (k : ℕ). ByBlocks turn a n first 0 k a) (none first) l
    where
      none : (k : ℕ) → k ≡ k + 0
      none k = omega arith

  pub passed_more : {n first : ℕ} (c : ℕ) {s : A} → ByBlocks turn a n first (block_size * c + block_size) (first + c + 1) s
      → ByBlocks turn a n first (block_size * (c + 1)) (first + (c + 1)) s
  passed_more {n} {first} c {s} l =
      subst (λ (k : ℕ). ByBlocks turn a n first k (first + (c + 1)) s) (from c) (subst (λ (k : ℕ). ByBlocks turn a n first (block_size * c + block_size) k s) (number first c) l)
    where
      from : (c : ℕ) → block_size * c + block_size ≡ block_size * (c + 1)
      from c = omega arith

      number : (first c : ℕ) → first + c + 1 ≡ first + (c + 1)
      number first c = omega arith
