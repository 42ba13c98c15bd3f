-- The laws of writing in pieces, by the code's buffer.
use Rattle.std.proofs.Common.{◌≡◌, refl, ap, ap₂, ◌∙◌, List, [], ◌++◌, ℕ}
use Rattle.std.specs.Borrow.{MutBor}
use Rattle.listing.specs.declared.Output.{Output}
use Rattle.listing.specs.Buffer.{buffer, puts, buffer_written}
use Rattle.listing.proofs.BufferLaws.{then, wrote_as, nothing, wrote_written}
use Rattle.listing.proofs.Left.{Left, left_next, left_end}
use Rattle.listing.specs.Output.{held, Started, Put}

pub put_then : {a b : List ℕ} {p q r : Output} → Put a p q → Put b q r → Put (a ++ b) p r
put_then e f = record { same_reference = f.same_reference ∙ e.same_reference; wrote = then e.wrote f.wrote }

pub put_as : {l m : List ℕ} {p q : Output} → l ≡ m → Put m p q → Put l p q
put_as e w = record { same_reference = w.same_reference; wrote = wrote_as e w.wrote }

pub put_nothing : (p : Output) → Put [] p p
put_nothing p = record { same_reference = refl; wrote = nothing (held p) }

-- ---- a loop that writes

pub record PutLeft (rest all : List ℕ) (start p : Output) : Type 0 where
  pub same_reference : p.bytes.ghost_name ≡ start.bytes.ghost_name
  pub left : Left rest all (held start) (held p)

pub put_left_start : {l m : List ℕ} (p : Output) → l ≡ m → PutLeft l m p p
put_left_start {l} p e = record { same_reference = refl; left = record { same = ap (λ (k : List ℕ). puts k (held p)) e } }

module _ {rest all : List ℕ} {start p : Output} (l : PutLeft rest all start p) where
  pub put_left_next : {q : Output} (a more : List ℕ) → rest ≡ a ++ more → Put a p q → PutLeft more all start q
  put_left_next a more e w = record { same_reference = w.same_reference ∙ l.same_reference; left = left_next a more l.left e w.wrote }

  pub put_left_end : rest ≡ [] → Put all start p
  put_left_end e = record { same_reference = l.same_reference; wrote = left_end l.left e }

-- ---- the whole buffer

pub put_written : {lent : MutBor (List ℕ)} {l : List ℕ} {p q : Output} → Started lent p → Put l p q → held q ≡ buffer_written l lent.now
put_written {l = l} b w = wrote_written (record { same = w.wrote.same ∙ ap₂ (λ (s : List ℕ) (n : ℕ). puts l (buffer s n)) b.same b.none })
