-- `small_quads::Step::squared` meets its contract: the two cases of `step_size`. Assumes nothing.
use Rattle.std.proofs.Common.{◌≡◌, ℕ, ◌+◌, ◌-◌, ◌≤◌, Bool, true, false, cond, ltb, refl, arith, ltb-true, ltb-false, mul-le-mul}
use Rattle.small_quads.specs.Integers.{step_size, step_squared}
use Rattle.small_quads.proofs.Step.squared.Goals as goal

size_is : (x : ℕ) → (x - 3) + (3 - x) ≡ step_size x
unfolding step_size
size_is x = by (ltb x 3) refl
  where
    by : (t : Bool) → ltb x 3 ≡ t → (x - 3) + (3 - x) ≡ cond t (3 - x) (x - 3)
    by true e = omega (arith, ltb-true x 3 e)
    by false e = omega (arith, ltb-false x 3 e)

pub returns : goal.returns
unfolding step_squared
returns c =
    let a : c.abs_diff-a.result ≤ 3 = omega arith in
    let b : c.abs_diff-b.result ≤ 3 = omega arith in
    (rw (c.abs_diff-a.ensures, c.abs_diff-b.ensures, size_is c.args.self.x, size_is c.args.self.y), omega (arith, mul-le-mul a a, mul-le-mul b b))
