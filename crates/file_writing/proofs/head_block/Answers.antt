-- `file_writing::head_block` meets its contract: the head's numbers one after the other, made a block.
use Rattle.std.proofs.Common.{List, ℕ, replicate, ◌∙◌}
use Rattle.std.proofs.lemmas.List.{length-replicate}
use Rattle.file_writing.proofs.Bytes.{whole_block}
use Rattle.file_writing.proofs.RoundTrip.{head_length_lem}
use Rattle.file_outline.specs.File.{head_bytes}
use native.Mathlib.Omega.{arith}
use mathlib.Core.Path.{sym}
use Rattle.file_writing.proofs.WriteLaws.{sealed, head_put}
use Rattle.file_writing.proofs.head_block.Goals as goal

pub returns : goal.returns
returns c =
    let s = c.args.settings in
    let lens = c.args.lens.now in
    let b : List ℕ = replicate 512 0 in
    let put = head_put s lens b c.f64_to_bits_with_nan.ensures c.put_number.ensures
    c.put_number-2.ensures c.put_number-3.ensures
    c.put_number-4.ensures
    c.put_lengths.ensures in
    let used = head_length_lem s lens in
    let long = length-replicate {A = ℕ} 512 0 in
    sealed b (head_bytes s lens) (omega (arith, c.requires)) (omega (arith, long)) (sym used) put c.seal.ensures
    ∙ whole_block b (head_bytes s lens) long (omega (arith, used, c.requires))
