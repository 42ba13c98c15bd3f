-- Boxes that are no nearer to a point than the best so far. Definitions only.
use Rattle.std.specs.Prelude.{Bool, not, ◌&&◌, cond, List, ℕ, Float}
use Rattle.std.specs.Float.Ieee.{lt}
use Rattle.numbers.specs.Float.{◌⊕◌, ◌⊖◌, ◌⊗◌, zero_f}
use Rattle.outline.specs.declared.Point.{Point}
use Rattle.outline.specs.Accepted.{PointWithin}
use Rattle.outline_blocks.specs.declared.Extent.{Extent}
use Rattle.outline_blocks.specs.Blocks.{is_listed, block_extent}

-- 2^20, far within what squares can hold
abbrev pub moderate_bound : ℕ
moderate_bound = 1048576

-- p is at most so far out either way
abbrev pub ModeratePoint : Point → Type 0
ModeratePoint p = PointWithin moderate_bound moderate_bound p

-- how far x is outside of least to most, with a sign; 0 within
unfoldable pub span_gap : Float → Float → Float → Float
span_gap x least most = cond (lt x least) (x ⊖ least) (cond (lt most x) (x ⊖ most) zero_f)

-- the squared distance of p from the box
unfoldable pub extent_squared : Point → Extent → Float
extent_squared p e =
    let dx = span_gap p.x e.xmin e.xmax in
    let dy = span_gap p.y e.ymin e.ymax in
    dx ⊗ dx ⊕ dy ⊗ dy

-- no segment in the box is nearer to p than the best so far
unfoldable pub is_far : Point → Extent → Float → Bool
is_far p e squared = not (lt (extent_squared p e) squared)

-- block b is listed and its box is so
unfoldable pub is_passed : Point → List Float → List ℕ → ℕ → Float → Bool
is_passed p s blocks b squared = is_listed blocks b && is_far p (block_extent s blocks b) squared
