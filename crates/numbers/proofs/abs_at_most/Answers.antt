-- `numbers::abs_at_most` meets its contract. Assumes nothing.
use Rattle.std.proofs.Common.{Bool, ◌&&◌, sym, ap, ◌∙◌}
use lib.Ieee.{le}
use Rattle.numbers.proofs.AbsAtMost.{by_both}
use Rattle.numbers.proofs.abs_at_most.Goals as goal

pub returns-then-m-x : goal.returns-then-m-x
returns-then-m-x c = ap (λ (b : Bool). b && le c.args.x c.args.m) (sym c.if-m-x.true) ∙ by_both c.args.x c.args.m

pub returns-else-m-x : goal.returns-else-m-x
returns-else-m-x c = c.if-m-x.false ∙ ap (λ (b : Bool). b && le c.args.x c.args.m) (sym c.if-m-x.false) ∙ by_both c.args.x c.args.m
