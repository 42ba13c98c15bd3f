-- What holds of the definitions of proofs/MovesBase.antt.
use Rattle.std.specs.Prelude.{ℕ, ◌≤◌}
use Rattle.std.proofs.Common.{arith}
use Rattle.exam_estimates.specs.Estimate.{estimate}
use Rattle.exam_estimates.proofs.MovesBase.{estimate_moves, estimate_same}

-- no corner below l and none above h, then the estimate isn't either
pub estimate_least : (u v a b d c l : ℕ) → u ≤ 256 → v ≤ 256 → l ≤ a → l ≤ b → l ≤ d → l ≤ c → l ≤ estimate u v a b d c
estimate_least u v a b d c l hu hv ha hb hd hc =
    omega (
      arith,
      estimate_same u v l hu hv,
      estimate_moves u v l l l l a b d c 0 hu hv (omega arith) (omega arith) (omega arith) (omega arith),
    )

pub estimate_greatest : (u v a b d c h : ℕ) → u ≤ 256 → v ≤ 256 → a ≤ h → b ≤ h → d ≤ h → c ≤ h → estimate u v a b d c ≤ h
estimate_greatest u v a b d c h hu hv ha hb hd hc =
    omega (
      arith,
      estimate_same u v h hu hv,
      estimate_moves u v a b d c h h h h 0 hu hv (omega arith) (omega arith) (omega arith) (omega arith),
    )
