-- `file_writing::put_points` meets its contract: the loop's invariant is `Pieces`.
use Rattle.std.proofs.Common.{get_or, arith, ◌*◌}
use Rattle.std.specs.Float.{nan}
use Rattle.file_writing.proofs.WriteLaws.{pieces_next, pieces_end, float_wide, put_float}
use Rattle.file_outline.specs.File.{float_bytes, point_bytes}
use Rattle.file_writing.proofs.put_points.Goals as goal

pub loop-c-preserved : goal.loop-c-preserved
loop-c-preserved c =
    let put = put_float (get_or c.args.points.now c.loop-c.c nan) c.loop-c.b (8 * c.loop-c.c) c.f64_to_bits_with_nan.ensures c.put_number.ensures in
    pieces_next 8 float_bytes float_wide _ _ _ c.loop-c.invariant nan c.loop-c-test.true (omega arith) put

pub returns : goal.returns
unfolding point_bytes
returns c = pieces_end 8 float_bytes float_wide _ _ _ c.loop-c.invariant c.loop-c-test.false
