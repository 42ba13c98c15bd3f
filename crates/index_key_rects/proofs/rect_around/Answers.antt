-- `index_key_rects::rect_around` meets its contract, by that of `shifted`.
use mathlib.Core.Path.{◌≡◌}
use native.Mathlib.Omega.{arith}
use Rattle.geometry.proofs.KeyLaws.{back_of}
use Rattle.index_key_rects.specs.Rects.{shifted, rect_around}
use Rattle.index_key_rects.proofs.KeyBase.{shifted_range}
use Rattle.index_key_rects.proofs.rect_around.Goals as goal
use Rattle.index_key_rects.proofs.rect_around.Goals.{After-shifted-j}

first : (c : After-shifted-j) → c.shifted-i.result ≡ shifted c.args.k.i
first c =
    rw (back_of c.args.k.i c.struct_told-1.given.0.1) at c.shifted-i.ensures

second : (c : After-shifted-j) → c.shifted-j.result ≡ shifted c.args.k.j
second c = rw (back_of c.args.k.j c.struct_told-2-1.given.1.0.1) at c.shifted-j.ensures

pub overflow_sub-result : goal.overflow_sub-result
overflow_sub-result c = omega (arith, first (goal.at.overflow_sub-result c).After-shifted-j, shifted_range c.args.k.i)

pub overflow_add-result : goal.overflow_add-result
overflow_add-result c = omega (arith, first (goal.at.overflow_add-result c).After-shifted-j, shifted_range c.args.k.i)

pub overflow_sub-result-2 : goal.overflow_sub-result-2
overflow_sub-result-2 c = omega (arith, second (goal.at.overflow_sub-result-2 c).After-shifted-j, shifted_range c.args.k.j)

pub overflow_add-result-2 : goal.overflow_add-result-2
overflow_add-result-2 c = omega (arith, second (goal.at.overflow_add-result-2 c).After-shifted-j, shifted_range c.args.k.j)

pub returns : goal.returns
unfolding rect_around
returns c = rw (first (goal.at.returns c).After-shifted-j, second (goal.at.returns c).After-shifted-j)
