-- `file_outline::number_at` meets its contract: the library reads two bytes.
use Rattle.std.proofs.Common.{arith}
use Rattle.file_outline.specs.ByteLaws.{AreBytes}
use Rattle.file_outline.proofs.Bytes.{pair_read}
use Rattle.file_outline.proofs.number_at.Goals as goal

pub returns : goal.returns
returns c =
    let bytes : AreBytes c.args.b.now = λ k. omega (arith, c.type_inv.b k) in
    pair_read _ _ bytes c.from_le_bytes.ensures
