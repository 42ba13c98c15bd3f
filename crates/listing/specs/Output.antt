-- The code's buffer: a reference to the lent bytes, and how many are written. Definitions only.
use Rattle.std.specs.Prelude.{List, ℕ, ◌≡◌}
use Rattle.std.specs.Borrow.{MutBor}
use Rattle.listing.specs.declared.Output.{Output}
use Rattle.listing.specs.Buffer.{Buffer, buffer, Wrote}

abbrev pub held : Output → Buffer
held p = buffer p.bytes.now p.used

-- p has nothing of what is lent written
pub record Started (lent : MutBor (List ℕ)) (p : Output) : Type 0 where
  pub same_reference : p.bytes.ghost_name ≡ lent.ghost_name
  pub same : p.bytes.now ≡ lent.now
  pub none : p.used ≡ 0

-- q is p with the bytes l written
pub record Put (l : List ℕ) (p q : Output) : Type 0 where
  pub same_reference : q.bytes.ghost_name ≡ p.bytes.ghost_name
  pub wrote : Wrote l (held p) (held q)
