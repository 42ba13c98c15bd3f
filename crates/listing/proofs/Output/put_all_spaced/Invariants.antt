-- The numbers from the index on are left.
use Rattle.std.proofs.Common.{drop}
use Rattle.listing.specs.Listing.{spaced}
use Rattle.listing.proofs.Puts.{PutLeft}
use Rattle.listing.proofs.Output.put_all_spaced.Given as goal

abbrev pub invariant-loop-id : goal.invariant-loop-id
invariant-loop-id l = PutLeft (spaced (drop l.id-index l.ids)) (spaced l.ids) l.initial.self l.self
