-- How many bytes were put at the start of a list. Definitions only.
use Rattle.std.specs.Prelude.{◌≡◌, ℕ, ◌≤◌, List, length, take}

-- the first n bytes can be lent. The second part follows from the first, and spares a caller's `&bytes[..n]` a proof.
abbrev pub IsPrefixLen : ℕ → List ℕ → Type 0
IsPrefixLen n bytes = (n ≤ length bytes) × (n ≡ length (take n bytes))
