-- What an attempt asks has one proof at most, so a ghost field can have it: the head of a cell is a place in use or beyond all places, and never both.
use Rattle.std.specs.Prelude.{ℕ, List, ◌<◌, ◌≤◌}
use Rattle.std.proofs.Common.{arith, ap}
use Rattle.std.proofs.Math.Logic.{◌⊎◌, inl, inr}
use Rattle.std.proofs.Math.Bridge.{le_prop}
use Rattle.std.proofs.Props as below
use Rattle.index_pools.specs.Pool.{used, capacity, head_at}

pub head_prop : (pool : List ℕ) (n c : ℕ) → used pool ≤ capacity n → IsProp ((head_at pool c < used pool) ⊎ (capacity n ≤ head_at pool c))
head_prop pool n c fits (inl x) (inl y) = ap inl (le_prop x y)
head_prop pool n c fits (inl x) (inr y) = absurd (omega (arith, fits, x, y))
head_prop pool n c fits (inr x) (inl y) = absurd (omega (arith, fits, x, y))
head_prop pool n c fits (inr x) (inr y) = ap inr (le_prop x y)

pub ruleset lent_props = (below.props, head_prop)
