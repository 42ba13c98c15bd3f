-- `file_writing::points_block` meets its contract: the points, made a block.
use Rattle.std.proofs.Common.{List, ℕ, replicate, ◌∙◌}
use Rattle.std.proofs.lemmas.List.{length-replicate}
use Rattle.file_writing.proofs.Bytes.{whole_block}
use Rattle.file_outline.specs.File.{point_bytes}
use native.Mathlib.Omega.{arith}
use Rattle.file_writing.proofs.WriteLaws.{sealed, points_used}
use Rattle.file_writing.proofs.points_block.Goals as goal

pub returns : goal.returns
returns c =
    let points = c.args.points.now in
    let b : List ℕ = replicate 512 0 in
    let long = length-replicate {A = ℕ} 512 0 in
    sealed b (point_bytes points) (omega (arith, c.requires)) (omega (arith, long)) (points_used points) c.put_points.ensures c.seal.ensures
    ∙ whole_block b (point_bytes points) long (omega (arith, points_used points, c.requires))
