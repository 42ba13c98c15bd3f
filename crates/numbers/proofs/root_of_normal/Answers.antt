-- `numbers::root_of_normal` meets its contract: the bits are those of `root_bits`, and a guess with the same bits is the same number. Assumes nothing.
use Rattle.std.proofs.Common.{T, sym, subst, inl, inr}
use Rattle.numbers.proofs.Patterns.{no_nan_bits, above_no_nan}
use Rattle.numbers.proofs.Sqrt.{guessed}
use Rattle.numbers.proofs.root_of_normal.Goals as goal
use Rattle.numbers.proofs.root_of_normal.Goals.{then-w, else-w}

pub float_to_bits-v : goal.float_to_bits-v
float_to_bits-v c = above_no_nan _ _ c.if-w.true

pub returns-then-v-k : goal.returns-then-v-k
returns-then-v-k c =
    guessed _ c.root_bits-k.result c.if-w.v _ (subst T (sym c.guess_root-w.type_inv) tt) c.root_bits-k.ensures
    (elim c.if-w.branch [ then-w w ↦ inl w.v-is | else-w w ↦ inr w.v-is ]) c.if-v-k.true

pub float_from_bits-result : goal.float_from_bits-result
float_from_bits-result c = no_nan_bits _ c.root_bits-k.ensures.finite
