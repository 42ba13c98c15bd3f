-- The listing: the bytes that the program prints (docs/FORMATS.md), from what the run answers and the lists as it leaves
-- them. Definitions only.
use Rattle.std.specs.Prelude.{Bool, cond, List, [], ◌∷◌, ◌++◌, ℕ, zero, suc, ◌+◌, ◌-◌, ◌/◌, ◌%◌, min, ltb, length, take, drop, replicate, Float, Result, Ok, Err}
use Prim.Native.Char.{code}
use Rattle.std.specs.Float.{binary64}
use Rattle.std.specs.Float.Ieee.{to_bits}
use Rattle.listing.specs.declared.Heading.{Heading}
use Rattle.listing.specs.Text.{ascii}

-- what the first line says: of the run's answer its counts, its end's number, and whether it is whole; and how many loops are listed
abbrev pub heading : ℕ → ℕ → ℕ → ℕ → Bool → ℕ → Heading
heading nodes quads front end whole loops = record { nodes = nodes; quads = quads; front = front; end = end; whole = whole; loops = loops }

-- ---- numbers

-- the decimal digits of a number below 10 ^ n, with no zero in front
unfoldable pub decimal_of : ℕ → ℕ → List ℕ
decimal_of zero v = []
decimal_of (suc n) v = let longer = decimal_of n (v / 10) ++ (code "0" + v % 10) ∷ [] in cond (ltb v 10) ((code "0" + v) ∷ []) longer

-- of a number that 64 bits hold
unfoldable pub decimal : ℕ → List ℕ
decimal v = decimal_of 20 v

-- a lower-case hexadecimal digit
unfoldable pub hex_digit : ℕ → ℕ
hex_digit v = cond (ltb v 10) (code "0" + v) (code "a" + (v - 10))

-- the last n hexadecimal digits of a number
unfoldable pub hex_of : ℕ → ℕ → List ℕ
hex_of zero v = []
hex_of (suc n) v = hex_of n (v / 16) ++ hex_digit (v % 16) ∷ []

-- the bits of a coordinate, which is never a NaN in a run
unfoldable pub hex_bits : Float → List ℕ
hex_bits x = hex_of 16 (to_bits binary64 x)

-- ---- lines: a space before each word but the first, a line feed at the end

-- numbers, a space before each
unfoldable pub spaced : List ℕ → List ℕ
spaced [] = []
spaced (v ∷ vs) = ascii " " ++ decimal v ++ spaced vs

-- after a letter, numbers
unfoldable pub row : ℕ → List ℕ → List ℕ
row letter ids = letter ∷ spaced ids ++ ascii "\n"

-- a row for each length, with so many of the numbers, one after the other
unfoldable pub row_lines : ℕ → List ℕ → List ℕ → List ℕ
row_lines letter [] ids = []
row_lines letter (n ∷ ns) ids = row letter (take n ids) ++ row_lines letter ns (drop n ids)

-- after "n" a node's x and y
unfoldable pub node_line : Float → Float → List ℕ
node_line x y = ascii "n " ++ hex_bits x ++ ascii " " ++ hex_bits y ++ ascii "\n"

unfoldable pub node_lines : List Float → List Float → List ℕ
node_lines [] ys = []
node_lines (x ∷ xs) [] = []
node_lines (x ∷ xs) (y ∷ ys) = node_line x y ++ node_lines xs ys

-- after "q" each quad a b d c, which is how the quads stand in their list; of n counted, those that the list holds
unfoldable pub quad_lines : ℕ → List ℕ → List ℕ
quad_lines n quads = row_lines (code "q") (replicate (min n (length quads / 4)) 4) quads

-- after "l" each listed loop: the loops' ids stand one after the other, and their lengths in a list of their own
unfoldable pub loop_lines : List ℕ → List ℕ → List ℕ
loop_lines lengths loops = row_lines (code "l") lengths loops

-- ---- the first line

-- by the end's number in the run's answer
unfoldable pub end_word : ℕ → List ℕ
end_word zero = ascii " still"
end_word (suc zero) = ascii " passes"
end_word (suc (suc zero)) = ascii " cap"
end_word (suc (suc (suc n))) = ascii " full"

-- whole or open
unfoldable pub whole_word : Bool → List ℕ
whole_word whole = cond whole (ascii " whole") (ascii " open")

-- the counts of nodes, quads and front edges, the end, whole or open
unfoldable pub head_line : Heading → List ℕ
head_line h = ascii "mesh" ++ spaced (h.nodes ∷ h.quads ∷ h.front ∷ []) ++ end_word h.end ++ whole_word h.whole ++ ascii "\n"

-- ---- the listing

unfoldable pub refused_listing : ℕ → List ℕ
refused_listing number = ascii "refused" ++ spaced (number ∷ []) ++ ascii "\n"

-- of the lists only what the heading counts
unfoldable pub mesh_listing : Heading → List Float → List Float → List ℕ → List ℕ → List ℕ → List ℕ
mesh_listing h xs ys quads loops lengths =
    head_line h ++ node_lines (take h.nodes xs) (take h.nodes ys) ++ quad_lines h.quads quads ++ loop_lines (take h.loops lengths) loops

-- refused, or a mesh
unfoldable pub listing : Result Heading ℕ → List Float → List Float → List ℕ → List ℕ → List ℕ → List ℕ
listing (Ok h) xs ys quads loops lengths = mesh_listing h xs ys quads loops lengths
listing (Err number) xs ys quads loops lengths = refused_listing number
