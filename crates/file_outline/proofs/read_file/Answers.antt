-- `file_outline::read_file` meets its contract: refused, or what the calls ensure makes it up.
use Rattle.std.proofs.Common.{refl, arith}
use Rattle.std.proofs.lemmas.Grind.{common_steps}
use Rattle.outline.proofs.Refused.{refusal_some}
use Rattle.file_outline.specs.ReadLaws.{read_refused, read_headed, read_loops, read_count, read_whole}
use Rattle.file_outline.proofs.read_file.Goals as goal

pub returns-in_err-h : goal.returns-in_err-h
returns-in_err-h c =
    let given = read_refused _ c.args.points.now c.args.lens.now c.in_err-h.ensures.refused (refusal_some _) in
    grind (arith, common_steps)

pub read_head-head-requires : goal.read_head-head-requires
read_head-head-requires c = read_headed _ c.args.points.now c.args.lens.now c.in_ok-h.ensures.refused refl c.in_ok-h.ensures.head

pub read_lengths-requires : goal.read_lengths-requires
read_lengths-requires c =
    let n = read_loops _ c.args.points.now c.args.lens.now c.in_ok-h.ensures.refused refl c.in_ok-h.ensures.head c.read_head-head.ensures in
    (n.0, omega arith)

pub read_points-requires : goal.read_points-requires
read_points-requires c =
    let n = read_count _ c.args.points.now c.args.lens.now c.in_ok-h.ensures.refused refl c.in_ok-h.ensures.head c.read_head-head.ensures in
    (n.0, n.1, omega arith)

pub returns : goal.returns
returns c =
    read_whole _ _ _ c.in_ok-h.ensures.refused refl c.in_ok-h.ensures.head c.read_head-head.ensures c.read_lengths.ensures c.read_points.ensures
