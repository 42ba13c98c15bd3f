-- `order_checks::fill_places` meets its contract: the entries that the iterator has left aren't filled yet, and the others are.
use Rattle.std.specs.Prelude.{◌≡◌, length}
use Rattle.order_checks.proofs.Filling.{Filling}
use Rattle.order_checks.proofs.fill_places.Given as goal

abbrev pub invariant-loop-p : goal.invariant-loop-p
invariant-loop-p l =
    Filling l.places l.order l.p-iterator.iter.iter.rest.now × (l.p-iterator.iter.count ≡ 0) × (length l.places ≡ length l.fn.places)
