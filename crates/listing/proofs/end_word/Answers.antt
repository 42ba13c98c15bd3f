use Rattle.std.proofs.Common.{sym, arith}
use Rattle.listing.specs.Listing.{end_word}
use Rattle.listing.proofs.Cases.{end_full}
use Rattle.listing.proofs.end_word.Goals as goal

pub returns-in-0 : goal.returns-in-0
unfolding end_word
returns-in-0 c = rw c.in-0.is

pub returns-in-1 : goal.returns-in-1
unfolding end_word
returns-in-1 c = rw c.in-1.is

pub returns-in-2 : goal.returns-in-2
unfolding end_word
returns-in-2 c = rw c.in-2.is

pub returns-in_default : goal.returns-in_default
unfolding end_word
returns-in_default c = sym (end_full _ (λ e. omega arith) (λ e. omega arith) (λ e. omega arith))
