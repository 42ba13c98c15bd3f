-- `index_key_rects::shifted` meets its contract: the key cut to the range, moved up.
use mathlib.Core.Path.{◌≡◌}
use native.Mathlib.Omega.{arith}
use lib.IntN.{pos, ◌+ℤ◌}
use mir.Syntax.{w64}
use mir.ValLaws.{to_z_pos}
use Rattle.geometry.proofs.KeyLaws.{back, back_of}
use Rattle.index_key_rects.specs.Rects.{shifted}
use Rattle.index_key_rects.proofs.KeyBase.{shifted_range}
use Rattle.index_key_rects.proofs.KeyLaws.{shifted_clamped}
use Rattle.index_key_rects.proofs.shifted.Goals as goal
use Rattle.index_key_rects.proofs.shifted.Goals.{After-clamp}

moved : (c : After-clamp) → c.clamp.result +ℤ pos 1048578 ≡ pos (shifted c.args.k)
moved c =
    let cut = rw (back c.ranges.k) at c.clamp.ensures.value in
    rw cut (shifted_clamped c.args.k)

pub overflow_add-result : goal.overflow_add-result
overflow_add-result c =
    let range = shifted_range c.args.k in
    rw (back_of c.clamp.result c.clamp.type_inv, moved (goal.at.overflow_add-result c).After-clamp) (record { sfits = omega arith })

pub overflow_cast-result : goal.overflow_cast-result
overflow_cast-result c =
    let range = shifted_range c.args.k in
    rw (back_of c.clamp.result c.clamp.type_inv, moved (goal.at.overflow_cast-result c).After-clamp, to_z_pos w64 (shifted c.args.k) (omega arith)) (tt, record { fits = omega arith })

pub returns : goal.returns
returns c =
    let range = shifted_range c.args.k in
    rw (back_of c.clamp.result c.clamp.type_inv, moved (goal.at.returns c).After-clamp, to_z_pos w64 (shifted c.args.k) (omega arith))
