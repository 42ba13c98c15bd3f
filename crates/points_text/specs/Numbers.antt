-- The number that a word says. Definitions only.
use Rattle.std.specs.Prelude.{ℕ, ◌+◌, ◌-◌, Bool, not, ◌&&◌, cond, List, [], ◌∷◌, ◌++◌, length, ◌==◌, leb, get_or, Option, None, Float}
use Rattle.std.specs.List.{list_any, count_by}
use Rattle.std.specs.Float.{binary64}
use Rattle.std.specs.Float.Parse.{parse_float}
use Rattle.laws.specs.Loop.{for_up}

-- 44 is `,` and 46 `.`. With something else than commas between x and y a word with one comma and no point has a decimal comma.
unfoldable pub has_decimal_comma : ℕ → List ℕ → Bool
has_decimal_comma separator word = not (separator == 44) && (count_by (λ b. b == 44) word == 1 && not (list_any (λ b. b == 46) word))

-- at place i stands U+2212, a minus sign of three bytes
abbrev pub minus_at : List ℕ → ℕ → Bool
minus_at word i = get_or word i 0 == 226 && (get_or word (i + 1) 0 == 136 && get_or word (i + 2) 0 == 146)

-- a word in ASCII so far, and how many bytes are still to be passed over
pub record Plain : Type 0 where
  pub skip : ℕ
  pub out : List ℕ

abbrev pub plain : ℕ → List ℕ → Plain
plain skip out = record { skip = skip; out = out }

-- what the byte at place i is in ASCII: the first of a minus sign is `-`, a decimal comma a point
unfoldable pub plain_byte : Bool → List ℕ → ℕ → ℕ
plain_byte comma word i = cond (minus_at word i) 45 (cond (comma && get_or word i 0 == 44) 46 (get_or word i 0))

-- byte i: the two after the first of a minus sign are passed over
unfoldable pub plain_turn : Bool → List ℕ → ℕ → Plain → Plain
plain_turn comma word i p =
    cond (p.skip == 0) (plain (cond (minus_at word i) 2 0) (p.out ++ plain_byte comma word i ∷ [])) (plain (p.skip - 1) p.out)

-- the word in ASCII
unfoldable pub plain_word : Bool → List ℕ → List ℕ
plain_word comma word = (for_up (length word) (plain_turn comma word) (plain 0 [])).out

-- The double nearest to the decimal that the word says, or none. The longest exact decimal of a double has 1,077 bytes; a word of more than 1,100 is no number.
unfoldable pub number : ℕ → List ℕ → Option Float
number separator word = cond (leb (length word) 1100) (parse_float binary64 (plain_word (has_decimal_comma separator word) word)) None
