-- A digit decides before what is below it: the library's `then` is the definition's `decided`. Assumes nothing.
use Rattle.std.specs.Prelude.{◌≡◌, ℕ}
use Rattle.std.specs.declared.cmp.Ordering.{Ordering}
use Rattle.std.specs.declared.cmp.Ordering.TheVariants.{Less, Equal, Greater}
use Rattle.std.specs.Ordering.{ordering_then, nat_cmp}
use Rattle.std.proofs.Common.{arith}
use Rattle.std.proofs.lemmas.Bool.Decides.{nat_tests}
use Rattle.outline_orientation.specs.Limbs.{decided, order_number}

pub decided_then : (d e : ℕ) (below : Ordering) → order_number (ordering_then (nat_cmp d e) below) ≡ decided d e (order_number below)
decided_then d e Less = grind (arith, nat_tests)
decided_then d e Equal = grind (arith, nat_tests)
decided_then d e Greater = grind (arith, nat_tests)
