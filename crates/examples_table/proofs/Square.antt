-- The worked example, the square (0,0) (2,0) (2,2) (0,2) at size 1: the whole state where the run ends, computed from the definitions.
use Rattle.std.specs.Prelude.{◌≡◌, refl, Bool, true, false, List, [], ◌∷◌, length}
use Rattle.numbers.specs.Float.{bits, zero_f, one_f, two_f, four_f, half_f}
use Rattle.outline.specs.Outline.{point}
use Rattle.outline.specs.declared.Settings.{Settings}
use Rattle.outline_sound.specs.Whole.{is_whole}
use Rattle.field_direction.specs.Record.{FieldLists, field_lists}
use Rattle.topology.specs.Links.{off}
use Rattle.front.specs.State.{State, counted, node}
use Rattle.front.specs.Sampling.{from_boundary, boundary_loops, sampled_count}
use Rattle.paving.specs.declared.End.TheVariants.{Still}
use Rattle.paving.specs.Advance.{paved}
use Rattle.paving.specs.Loops.{front_loops}
use Rattle.run_whole.specs.Run.{run_of}
use Rattle.run_whole.proofs.Worked.{worked_square, worked_triangle}
use Rattle.books.specs.Book.{filled, room_for}
use Rattle.examples_table.proofs.Opened.{opened}

abbrev pub square_settings : Settings
square_settings = record { size = one_f; sweeps = 400; passes = 600 }

-- room for 49 field nodes, 10 nodes, 5 quads and 14 edges, with old contents
abbrev pub lent_field : FieldLists
lent_field = field_lists (filled 98 four_f) (filled 49 7)

abbrev pub square_lent : State
square_lent =
    record {
      xs = filled 10 four_f;
      ys = filled 10 four_f;
      next = filled 10 7;
      prev = filled 10 7;
      snapshot = filled 10 7;
      quads = filled 20 7;
      edges = filled 28 7;
      counts = counted 3 1 4 1;
    }

-- places past the counts keep their contents
abbrev end : State
end =
    record {
      xs = zero_f ∷ one_f ∷ two_f ∷ two_f ∷ two_f ∷ one_f ∷ zero_f ∷ zero_f ∷ one_f ∷ four_f ∷ [];
      ys = zero_f ∷ zero_f ∷ zero_f ∷ one_f ∷ two_f ∷ two_f ∷ two_f ∷ one_f ∷ one_f ∷ four_f ∷ [];
      next = off ∷ off ∷ off ∷ off ∷ off ∷ off ∷ off ∷ 8 ∷ 7 ∷ 7 ∷ [];
      prev = off ∷ off ∷ off ∷ off ∷ off ∷ off ∷ off ∷ 8 ∷ 7 ∷ 7 ∷ [];
      snapshot = off ∷ off ∷ off ∷ off ∷ off ∷ off ∷ off ∷ 8 ∷ 7 ∷ 7 ∷ [];
      quads = 0 ∷ 1 ∷ 8 ∷ 7 ∷ 1 ∷ 2 ∷ 3 ∷ 8 ∷ 3 ∷ 4 ∷ 5 ∷ 8 ∷ 5 ∷ 6 ∷ 7 ∷ 8 ∷ 7 ∷ 7 ∷ 7 ∷ 7 ∷ [];
      edges = 0 ∷ 1 ∷ 1 ∷ 2 ∷ 2 ∷ 3 ∷ 3 ∷ 4 ∷ 4 ∷ 5 ∷ 5 ∷ 6 ∷ 6 ∷ 7 ∷ 0 ∷ 7 ∷ 1 ∷ 8 ∷ 7 ∷ 8 ∷ 3 ∷ 8 ∷ 5 ∷ 8 ∷ 7 ∷ 7 ∷ 7 ∷ 7 ∷ [];
      counts = counted 9 4 12 2;
    }

pub square_run : (run_of worked_square square_settings lent_field square_lent).paving ≡ paved end Still
unfolding opened
square_run = refl

pub square_whole : is_whole worked_square (length (front_loops end)) ≡ true
unfolding opened
square_whole = refl

-- ---- the triangle (0,0) (2,0) (1,2) at size 3: three points, and the midpoint of the last of its longest edges

pub triangle_node : node (from_boundary worked_triangle (bits 0x4008_0000_0000_0000) (room_for 4)) 3 ≡ point half_f one_f
unfolding opened
triangle_node = refl

pub triangle_loops : boundary_loops worked_triangle (bits 0x4008_0000_0000_0000) (room_for 4) ≡ (0 ∷ 1 ∷ 2 ∷ 3 ∷ []) ∷ []
unfolding opened
triangle_loops = refl
