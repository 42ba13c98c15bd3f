-- Worked listings, byte for byte: the worked square, a mesh with two loops left open, one with no loop that is open all the same, and a refusal.
use Rattle.std.specs.Prelude.{◌≡◌, refl, true, false, [], ◌∷◌, ◌++◌, Float, Ok, Err}
use Rattle.std.specs.Float.{binary64}
use Rattle.std.specs.Float.Ieee.{of_bits, to_bits}
use Rattle.listing.specs.Text.{ascii}
use Rattle.listing.specs.Listing.{decimal_of, decimal, hex_digit, hex_of, hex_bits, spaced, row, row_lines, node_line, node_lines, quad_lines, loop_lines}
use Rattle.listing.specs.Listing.{heading, end_word, whole_word, head_line, refused_listing, mesh_listing, listing}

-- all that computes
unfoldable opened : Unit {0}
unfolding listing mesh_listing refused_listing head_line end_word whole_word loop_lines quad_lines node_lines node_line row_lines row spaced hex_bits hex_of hex_digit
    decimal decimal_of to_bits of_bits
opened = tt

-- 0.0, 1.0, 2.0 and 4.0
abbrev o : Float
o = of_bits binary64 0

abbrev i : Float
i = of_bits binary64 0x3ff0_0000_0000_0000

abbrev t : Float
t = of_bits binary64 0x4000_0000_0000_0000

abbrev f : Float
f = of_bits binary64 0x4010_0000_0000_0000

-- The worked square as the run leaves it, in lists of ten nodes and five quads.
square_listed : listing (Ok (heading 9 4 2 0 true 0))
    (o ∷ i ∷ t ∷ t ∷ t ∷ i ∷ o ∷ o ∷ i ∷ f ∷ []) (o ∷ o ∷ o ∷ i ∷ t ∷ t ∷ t ∷ i ∷ i ∷ f ∷ [])
    (0 ∷ 1 ∷ 8 ∷ 7 ∷ 1 ∷ 2 ∷ 3 ∷ 8 ∷ 3 ∷ 4 ∷ 5 ∷ 8 ∷ 5 ∷ 6 ∷ 7 ∷ 8 ∷ 7 ∷ 7 ∷ 7 ∷ 7 ∷ []) (7 ∷ []) (7 ∷ [])
    ≡ ascii "mesh 9 4 2 still whole\n"
    ++ ascii "n 0000000000000000 0000000000000000\n"
    ++ ascii "n 3ff0000000000000 0000000000000000\n"
    ++ ascii "n 4000000000000000 0000000000000000\n"
    ++ ascii "n 4000000000000000 3ff0000000000000\n"
    ++ ascii "n 4000000000000000 4000000000000000\n"
    ++ ascii "n 3ff0000000000000 4000000000000000\n"
    ++ ascii "n 0000000000000000 4000000000000000\n"
    ++ ascii "n 0000000000000000 3ff0000000000000\n"
    ++ ascii "n 3ff0000000000000 3ff0000000000000\n"
    ++ ascii "q 0 1 8 7\n"
    ++ ascii "q 1 2 3 8\n"
    ++ ascii "q 3 4 5 8\n"
    ++ ascii "q 5 6 7 8\n"
unfolding opened
square_listed = refl

-- One node, no quad, and two loops, of four ids and three.
loops : listing (Ok (heading 1 0 1234567 3 false 2)) (i ∷ o ∷ []) (t ∷ o ∷ []) (1 ∷ 2 ∷ 3 ∷ 4 ∷ [])
    (0 ∷ 10 ∷ 101 ∷ 799 ∷ 2 ∷ 3 ∷ 4 ∷ 5 ∷ []) (4 ∷ 3 ∷ 1 ∷ [])
    ≡ ascii "mesh 1 0 1234567 full open\n"
    ++ ascii "n 3ff0000000000000 4000000000000000\n"
    ++ ascii "l 0 10 101 799\n"
    ++ ascii "l 2 3 4\n"
unfolding opened
loops = refl

-- Nothing is listed, and the outline is unsound: only the first line says so.
unsound : listing (Ok (heading 1 0 2 0 false 0)) (i ∷ []) (t ∷ []) [] [] [] ≡ ascii "mesh 1 0 2 still open\n" ++ ascii "n 3ff0000000000000 4000000000000000\n"
unfolding opened
unsound = refl

refused : listing (Err 13) [] [] [] [] [] ≡ ascii "refused 13\n"
unfolding opened
refused = refl
