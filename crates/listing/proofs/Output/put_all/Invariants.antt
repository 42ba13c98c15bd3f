-- The bytes from the index on are left.
use Rattle.std.proofs.Common.{drop}
use Rattle.listing.proofs.Puts.{PutLeft}
use Rattle.listing.proofs.Output.put_all.Given as goal

abbrev pub invariant-loop-byte : goal.invariant-loop-byte
invariant-loop-byte l = PutLeft (drop l.byte-index l.bytes) l.bytes l.initial.self l.self
