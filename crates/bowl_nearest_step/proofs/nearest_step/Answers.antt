-- `bowl_nearest_step::nearest_step` meets its contract: `parts_step`, and what it takes to fit 32 bits.
use mathlib.Core.Path.{◌≡◌, ap, ◌∙◌}
use Prim.Native.Nat.{ℕ, zero, suc, ◌^◌, ◌≤◌, ◌<◌}
use native.Mathlib.Omega.{arith}
use lib.IntN.{ℤ, pos, neg_ℤ, ◌-ℤ◌, +ℤ_idl}
use lib.Signed.{mag}
use mir.Syntax.{w32}
use mir.Val.{to_z, SFits}
use mir.ValLaws.{to_z_pos, to_z-of_z}
use Rattle.exact.specs.Units.{finite_val}
use Rattle.bowl_nearest_step.proofs.StepLaws.{parts_exponent, parts_few, parts_step}
use Rattle.bowl_nearest_step.proofs.nearest_step.Goals as goal
use Rattle.bowl_nearest_step.proofs.nearest_step.Goals.{After-size_in_steps-k}

-- as a signed number, and its negative
positive : (k : ℕ) → k ≤ 64064 → to_z w32 k ≡ pos k
positive k h = to_z_pos w32 k (omega arith)

negative : (k : ℕ) → k ≤ 64064 → pos 0 -ℤ to_z w32 k ≡ neg_ℤ (pos k)
negative k h = ap (λ (z : ℤ). pos 0 -ℤ z) (positive k h) ∙ +ℤ_idl (neg_ℤ (pos k))

small : (k : ℕ) → k ≤ 64064 → mag (neg_ℤ (pos k)) < 2 ^ 31
small zero h = omega arith
small (suc k) h = omega arith

negative_fits : (k : ℕ) → k ≤ 64064 → SFits w32 (pos 0 -ℤ to_z w32 k)
negative_fits k h = rw (negative k h) (record { sfits = small k h })

pub parts_of-p-requires : goal.parts_of-p-requires
parts_of-p-requires c = finite_val _ _ _ c.requires.val

pub size_in_steps-k-requires : goal.size_in_steps-k-requires
size_in_steps-k-requires c = (c.parts_of-p.ensures.short, parts_exponent _ _ c.parts_of-p.ensures c.requires)

few : (c : After-size_in_steps-k) → c.size_in_steps-k.result ≤ 64064
few c = parts_few _ _ c.parts_of-p.ensures c.requires _ c.size_in_steps-k.ensures

pub overflow_cast-k : goal.overflow_cast-k
overflow_cast-k c = record { sfits = omega (arith, few (goal.at.overflow_cast-k c).After-size_in_steps-k) }

pub overflow_sub-result : goal.overflow_sub-result
overflow_sub-result c = negative_fits c.size_in_steps-k.result (few (goal.at.overflow_sub-result c).After-size_in_steps-k)

pub returns-then-p : goal.returns-then-p
returns-then-p c =
    let k = c.size_in_steps-k.result in
    to_z-of_z w32 _ (negative_fits k (few (goal.at.returns-then-p c).After-size_in_steps-k))
    ∙ (negative k (few (goal.at.returns-then-p c).After-size_in_steps-k)
    ∙ rw c.if-p.true at (parts_step _ _ c.parts_of-p.ensures k c.size_in_steps-k.ensures))

pub returns-else-p : goal.returns-else-p
returns-else-p c =
    let k = c.size_in_steps-k.result in
    positive k (few (goal.at.returns-else-p c).After-size_in_steps-k)
    ∙ rw c.if-p.false at (parts_step _ _ c.parts_of-p.ensures k c.size_in_steps-k.ensures)
