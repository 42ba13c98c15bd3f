-- `order_checks::set_place` meets its contract: past the end nothing is set.
use lib.Seq.{set_out}
use mathlib.Core.Path.{sym}
use Rattle.order_checks.proofs.set_place.Goals as goal

pub returns-else-i-places : goal.returns-else-i-places
returns-else-i-places c = sym (set_out _ _ _ c.if-i-places.false)
