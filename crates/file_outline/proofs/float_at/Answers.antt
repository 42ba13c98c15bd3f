-- `file_outline::float_at` meets its contract: the library reads eight bytes.
use Rattle.std.proofs.Common.{ap, ◌∙◌}
use Rattle.numbers.specs.Float.{bits}
use Rattle.file_outline.proofs.Bytes.{eight_read}
use Rattle.file_outline.proofs.float_at.Goals as goal

pub returns : goal.returns
returns c = c.f64_from_bits_with_nan.ensures ∙ ap bits (eight_read _ _ c.requires c.copy_from_slice.ensures.after c.from_le_bytes.ensures)
