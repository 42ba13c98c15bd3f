-- How often steps go round a point, exactly, in units. The rule is half-open: a point level with p counts as below it, so that every point of the plane, also one on
-- an edge or at a node, falls to one side. Definitions only.
use Rattle.std.specs.Prelude.{◌≡◌, Bool, true, false, cond, ◌⊎◌, ℤ, pos, negsuc, ◌<ℤ◌, ◌≤ℤ◌}
use Rattle.std.specs.Int.Signed.{lt_z}
use Rattle.exact.specs.Corner.{Vector}
use Rattle.outline_orientation.specs.Orient.{orient}

-- u is above the level of p
abbrev pub is_high : Vector → Vector → Bool
is_high p u = lt_z p.y u.y

-- A step counts 1 where it goes up past the level of p and p is left of it, and −1 where it goes down past it and p is right of it. Given are whether its ends are high,
-- and the orientation: above 0 where p is left, below 0 where p is right.
abbrev pub crossing : Bool → Bool → ℤ → ℤ
crossing false true z = cond (lt_z (pos 0) z) (pos 1) (pos 0)
crossing true false z = cond (lt_z z (pos 0)) (negsuc 0) (pos 0)
crossing false false z = pos 0
crossing true true z = pos 0

-- what the step from u to v counts of the way round p
unfoldable pub turn : Vector → Vector → Vector → ℤ
turn p u v = crossing (is_high p u) (is_high p v) (orient u v p)

-- p is left of the step from u to v, and not right of it
abbrev pub IsLeft : Vector → Vector → Vector → Type 0
IsLeft p u v = pos 0 <ℤ orient u v p

abbrev pub NotRight : Vector → Vector → Vector → Type 0
NotRight p u v = pos 0 ≤ℤ orient u v p

-- A figure is gone round n times: once or not at all; once where the point is left of all its sides, and where it is once, right of none.
pub record Covers (Left Within : Type 0) (n : ℤ) : Type 0 where
  pub once : (n ≡ pos 0) ⊎ (n ≡ pos 1)
  pub left : Left → n ≡ pos 1
  pub within : n ≡ pos 1 → Within
