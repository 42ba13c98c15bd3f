-- The far corners by what the code has at hand: corners that were chosen on the points alone. Assumes nothing.
use Rattle.std.proofs.Common.{◌≡◌, ℕ, refl}
use Rattle.std.specs.Prelude.{Float}
use Rattle.outline.specs.declared.Point.{Point}
use Rattle.front.specs.State.{State, node}
use Rattle.front.specs.Neighbours.{next_at, prev_at}
use Rattle.paving.specs.Attempt.{corner_at, ideal, corner_c, corner_d, quad_if}
use Rattle.paving_attempts.specs.Seen.{seen_points}
use Rattle.paving_attempts.proofs.SeenLaws.{corner_at_seen}
use Rattle.paving_attempts.specs.FarCorners.{pair_fits, far_corners}

module _ (size : Float) (s : State) (a b : ℕ) (da db : Point) where
  pub far_chosen : far_corners size s a b da db
      ≡ (let c = corner_at size (seen_points s.xs s.ys) b (prev_at s a) (ideal size (node s a) da) in
      let d = corner_at size (seen_points s.xs s.ys) a (next_at s b) (ideal size (node s b) db) in
      quad_if (pair_fits size s c d) c d)
  unfolding far_corners corner_c corner_d
  far_chosen =
      rw (corner_at_seen s size b (prev_at s a) (ideal size (node s a) da), corner_at_seen s size a (next_at s b) (ideal size (node s b) db)) refl
