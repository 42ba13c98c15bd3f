-- `bowl_nearest_step::nearest_whole` meets its contract: `nearest_shift`.
use mathlib.Core.Path.{◌≡◌, sym, ◌∙◌}
use Prim.Native.Nat.{ℕ, ◌-◌, ◌*◌, ◌%◌, ◌^◌, ◌≤◌, ◌<◌}
use native.Mathlib.Nat.{le_trans, le_of_eq}
use native.Mathlib.Omega.{arith}
use lib.Dec.{lit<}
use lib.Pow.{pow_pos, pow_mono, shl_exact}
use Rattle.bowl_nearest_step.proofs.StepLaws.{nearest_shift}
use Rattle.bowl_nearest_step.proofs.nearest_whole.Goals as goal

-- the half as it is computed
abbrev half : ℕ → ℕ
half k = 1 * 2 ^ (k - 1) % 2 ^ 64

half-fits : (t k : ℕ) → (t < 2 ^ 53) × (0 < k) × (k ≤ 53) → (1 ≤ half k) × (half k ≤ 2 ^ 52)
half-fits t k h =
    let same : half k ≡ 2 ^ (k - 1) = shl_exact 1 (k - 1) 64 (lit< tt) (omega (arith, h.2)) ∙ omega arith in
    (le_trans (pow_pos (k - 1)) (le_of_eq (sym same)), le_trans (le_of_eq same) (pow_mono {j = 52} (omega (arith, h.2))))

pub overflow_sub-result : goal.overflow_sub-result
overflow_sub-result c = (half-fits c.args.t c.args.shift c.requires).0

pub overflow_add-result : goal.overflow_add-result
overflow_add-result c = record { fits = omega (arith, half-fits c.args.t c.args.shift c.requires, c.requires) }

pub overflow_add-result-2 : goal.overflow_add-result-2
overflow_add-result-2 c = record { fits = omega (arith, half-fits c.args.t c.args.shift c.requires, c.requires) }

pub returns : goal.returns
returns c = nearest_shift c.args.t c.args.shift c.requires.1 c.requires.2
