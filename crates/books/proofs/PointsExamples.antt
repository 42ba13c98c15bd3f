-- The square of side 2 in four unit quads, worked out: each point of it is in exactly one, also on an inner edge, at the node in the middle and on the outline, where the
-- half-open rule has some points and not others. The check computes these. Assumes nothing.
use Rattle.std.specs.Prelude.{◌≡◌, refl, List, [], ◌∷◌, ◌++◌, ℕ, ◌+◌, ◌*◌, ◌^◌, ℤ, pos, negsuc}
use Rattle.std.specs.Float.Ieee.{of_bits}
use Rattle.laws.specs.Loop.{for_up, sum_up}
use Rattle.numbers.specs.Float.{zero_f, one_f, two_f}
use Rattle.exact.specs.Units.{W, size_of}
use Rattle.exact.specs.Corner.{Vector, cross}
use Rattle.outline_orientation.specs.Orient.{orient}
use Rattle.front.specs.State.{State, state_of, counted}
use Rattle.books.specs.Book.{Edge, edge, Book, book, quad_at, edges_sumℤ, quad_edges}
use Rattle.cover_turns.specs.Turn.{turn}
use Rattle.books.specs.Points.{winding, quads_round}

-- nodes 0 to 8 row by row, from the bottom, and the outline, which is the front before the first quad
abbrev outline : List Edge
outline = edge 0 1 ∷ edge 1 2 ∷ edge 2 5 ∷ edge 5 8 ∷ edge 8 7 ∷ edge 7 6 ∷ edge 6 3 ∷ edge 3 0 ∷ []

abbrev grid : Book
grid =
    book (zero_f ∷ one_f ∷ two_f ∷ zero_f ∷ one_f ∷ two_f ∷ zero_f ∷ one_f ∷ two_f ∷ [])
    (zero_f ∷ zero_f ∷ zero_f ∷ one_f ∷ one_f ∷ one_f ∷ two_f ∷ two_f ∷ two_f ∷ []) outline

-- the quads, four nodes each, run a, b, d, c
abbrev paved : State
paved = state_of [] [] [] [] [] (0 ∷ 1 ∷ 4 ∷ 3 ∷ 1 ∷ 2 ∷ 5 ∷ 4 ∷ 3 ∷ 4 ∷ 7 ∷ 6 ∷ 4 ∷ 5 ∷ 8 ∷ 7 ∷ []) [] (counted 9 4 0 8)

-- a point in quarters
abbrev at : ℕ → ℕ → Vector
at x y = record { x = pos (x * 2 ^ 1072); y = pos (y * 2 ^ 1072) }

-- how often the four quads, one by one, go round p; how many do; and how often the outline does
abbrev seen : Vector → List ℤ
seen p =
    winding 1 p grid (quad_edges (quad_at paved 0)) ∷ winding 1 p grid (quad_edges (quad_at paved 1)) ∷ winding 1 p grid (quad_edges (quad_at paved 2))
    ∷ winding 1 p grid (quad_edges (quad_at paved 3)) ∷ pos (quads_round 1 p grid paved 4) ∷ winding 1 p grid outline ∷ []

abbrev none : List ℤ
none = pos 0 ∷ pos 0 ∷ pos 0 ∷ pos 0 ∷ pos 0 ∷ pos 0 ∷ []

pub record Examples : Type 0 where
  -- within the first quad
  pub inner : seen (at 2 2) ≡ pos 1 ∷ pos 0 ∷ pos 0 ∷ pos 0 ∷ pos 1 ∷ pos 1 ∷ []
  -- on the edge between the first and the second; between the first and the third; and at the node in the middle
  pub upright : seen (at 4 2) ≡ pos 0 ∷ pos 1 ∷ pos 0 ∷ pos 0 ∷ pos 1 ∷ pos 1 ∷ []
  pub level : seen (at 2 4) ≡ pos 0 ∷ pos 0 ∷ pos 1 ∷ pos 0 ∷ pos 1 ∷ pos 1 ∷ []
  pub middle : seen (at 4 4) ≡ pos 0 ∷ pos 0 ∷ pos 0 ∷ pos 1 ∷ pos 1 ∷ pos 1 ∷ []
  -- at the outline's corners, below left and above right, and on its sides, left and right
  pub first_corner : seen (at 0 0) ≡ pos 1 ∷ pos 0 ∷ pos 0 ∷ pos 0 ∷ pos 1 ∷ pos 1 ∷ []
  pub last_corner : seen (at 8 8) ≡ none
  pub left_side : seen (at 0 6) ≡ pos 0 ∷ pos 0 ∷ pos 1 ∷ pos 0 ∷ pos 1 ∷ pos 1 ∷ []
  pub right_side : seen (at 8 6) ≡ none
  -- outside
  pub outer : seen (at 9 6) ≡ none
  -- the outline run the other way
  pub reversed : winding 1 (at 2 2) grid (edge 0 6 ∷ edge 6 8 ∷ edge 8 2 ∷ edge 2 0 ∷ []) ≡ negsuc 0
  -- and run twice
  pub twice : winding 1 (at 2 2) grid (outline ++ outline) ≡ pos 2
  -- half a unit right of the edge between the first quad and the second, and half a unit above the outline: a point that no double is
  pub between : winding 2 (record { x = pos (2 ^ 1075 + 1); y = pos 1 }) grid (quad_edges (quad_at paved 1)) ≡ pos 1

pub examples : Examples
unfolding of_bits W size_of for_up sum_up cross orient quad_at edges_sumℤ quad_edges turn quads_round
examples =
    record {
      inner = refl;
      upright = refl;
      level = refl;
      middle = refl;
      first_corner = refl;
      last_corner = refl;
      left_side = refl;
      right_side = refl;
      outer = refl;
      reversed = refl;
      twice = refl;
      between = refl;
    }
