-- `loop_points` meets its contract: a hole's part lies within the holes' list, which has few enough floats that nothing overflows.
use Rattle.std.proofs.Common.{arith, refl}
use Rattle.outline.specs.Outline.{loop_at}
use Rattle.outline.proofs.OutlineLaws.{hole_part}
use Rattle.outline_loops.proofs.loop_points.Goals as goal

pub returns-then-k-eq0 : goal.returns-then-k-eq0
unfolding loop_at
returns-then-k-eq0 c = rw c.if-k-eq0.true refl

pub overflow_mul-from : goal.overflow_mul-from
overflow_mul-from c = let part = hole_part _ c.requires c.if-k-eq0.false in omega arith

pub overflow_mul-to : goal.overflow_mul-to
overflow_mul-to c = let part = hole_part _ c.requires c.if-k-eq0.false in omega arith

pub overflow_add-to : goal.overflow_add-to
overflow_add-to c = let part = hole_part _ c.requires c.if-k-eq0.false in omega arith

pub offset_bounds-domain-from : goal.offset_bounds-domain-from
offset_bounds-domain-from c = let part = hole_part _ c.requires c.if-k-eq0.false in omega arith

pub slice_bounds-result-end : goal.slice_bounds-result-end
slice_bounds-result-end c = let part = hole_part _ c.requires c.if-k-eq0.false in omega arith

pub returns : goal.returns
returns c = (hole_part _ c.requires c.if-k-eq0.false).same
