-- `file_writing::seal` meets its contract: what the calls ensure makes it up.
use Rattle.std.proofs.Common.{◌-◌, arith}
use Rattle.file_writing.proofs.WriteLaws.{block_sealed}
use Rattle.file_writing.proofs.Bytes.{zeros_put}
use Rattle.file_writing.proofs.seal.Goals as goal

pub returns : goal.returns
returns c =
    let b = c.args.b.now in
    let used = c.args.used in
    let zeros = zeros_put b used (510 - used) (omega (arith, c.requires)) (c.fill.ensures.after (λ y h. h)) in
    block_sealed b used c.requires (omega arith) zeros c.check_of-sum.ensures c.put_number.ensures
