-- `sitjorbe_nearest_segment` meets its contract: the answer is that of `query_nearest`, and each arm is a line of `nearest_numbers`;
-- the segment is named (`nearest_given`).
use Rattle.std.specs.Prelude.{T}
use Rattle.std.proofs.Common.{sym, subst, rules}
use Rattle.outline.specs.Outline.{outline, point}
use Rattle.outline.specs.Accepted.{OutlineFits, PointFits}
use Rattle.outline_queries.specs.Answers.{nearest_numbers}
use Rattle.outline_queries.proofs.Laws.{nearest_given}
use Rattle.outline_queries.proofs.sitjorbe_nearest_segment.Goals as goal

-- refused
pub returns-in-Err : goal.returns-in-Err
unfolding nearest_numbers
returns-in-Err c =
    let fits : OutlineFits (outline c.args.outer.now c.args.holes.now c.args.hole_lengths.now)
    = record { outer = λ i h. c.type_inv.outer i; holes = λ i h. c.type_inv.holes i } in
    let here : PointFits (point c.args.x c.args.y)
    = record { x = subst T (sym c.well_formed.1.1.1.0.1) tt; y = subst T (sym c.well_formed.1.1.1.1.0.1) tt } in
    nearest_given _ _ fits here (search rules)

-- answered
pub returns-in-Ok : goal.returns-in-Ok
unfolding nearest_numbers
returns-in-Ok c =
    let fits : OutlineFits (outline c.args.outer.now c.args.holes.now c.args.hole_lengths.now)
    = record { outer = λ i h. c.type_inv.outer i; holes = λ i h. c.type_inv.holes i } in
    let here : PointFits (point c.args.x c.args.y)
    = record { x = subst T (sym c.well_formed.1.1.1.0.1) tt; y = subst T (sym c.well_formed.1.1.1.1.0.1) tt } in
    nearest_given _ _ fits here (search rules)
