-- `numbers::parts_of` meets its contract: `TakenApart`. Assumes nothing.
use Rattle.std.proofs.Common.{T, sym, subst}
use Rattle.numbers.proofs.TakenApart.{finite_bits, parts_low, parts_high}
use Rattle.numbers.proofs.parts_of.Goals as goal

pub float_to_bits-b : goal.float_to_bits-b
float_to_bits-b c = finite_bits _ c.requires

pub returns-then-m-lt4503599627370496 : goal.returns-then-m-lt4503599627370496
returns-then-m-lt4503599627370496 c = parts_low c.args.x (subst T (sym c.well_formed.0.1) tt) c.requires c.if-m-lt4503599627370496.true

pub returns : goal.returns
returns c = parts_high c.args.x (subst T (sym c.well_formed.0.1) tt) c.requires c.if-m-lt4503599627370496.false
