-- `front::put_quad` meets its contract.
use Rattle.std.proofs.Common.{◌≡◌, ◌+◌, ◌-◌, ◌*◌, arith}
use Rattle.front.proofs.Parts.{four_stored}
use Rattle.front.proofs.put_quad.Goals as goal

pub returns : goal.returns
returns c =
    let k = 4 * c.args.k in
    let four : k + 4 - k ≡ 4 = omega arith in
    rw (four, c.copy_from_slice.ensures.after) (four_stored k c.args.a c.args.b c.args.d c.args.c c.args.quads.now (omega arith))
