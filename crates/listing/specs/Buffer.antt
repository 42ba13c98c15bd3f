-- A lent buffer that bytes are written into, one after the other from its first place on. What it has no place for is left out. Definitions only.
use Rattle.std.specs.Prelude.{cond, List, [], ◌∷◌, ◌++◌, ◌≡◌, ℕ, ◌+◌, ltb, length, take, drop, set}

-- its bytes, and how many of them are written
pub record Buffer : Type 0 where
  pub bytes : List ℕ
  pub used : ℕ

abbrev pub buffer : List ℕ → ℕ → Buffer
buffer bytes used = record { bytes = bytes; used = used }

-- one byte
unfoldable pub put : ℕ → Buffer → Buffer
put b p = cond (ltb p.used (length p.bytes)) (buffer (set p.bytes p.used b) (p.used + 1)) p

-- one byte after the other
unfoldable pub puts : List ℕ → Buffer → Buffer
puts [] p = p
puts (b ∷ bs) p = puts bs (put b p)

-- q is p with the bytes l written
pub record Wrote (l : List ℕ) (p q : Buffer) : Type 0 where
  pub same : q ≡ puts l p

-- As much of l as s has places for, on its first places, and how much that is; the other places keep their contents.
unfoldable pub buffer_written : List ℕ → List ℕ → Buffer
buffer_written l s = let cut = take (length s) l in buffer (cut ++ drop (length cut) s) (length cut)
