-- Room for the four that the code writes next.
use Rattle.std.specs.Prelude.{◌≡◌, true, ℕ, ◌+◌, ◌≤◌, ◌<◌}
use mathlib.Core.List.{List}
use Rattle.std.proofs.Math.ListN.{length}
use Rattle.small_quads_lattice.specs.Fours.{above_third}

-- room for the four k, if it is one of the list
pub record FourFits (s : List ℕ) (n k : ℕ) : Type 0 where
  pub below : k < 65536
  pub room : above_third k ≡ true → n + 4 ≤ length s
  pub fits : n ≤ length s
