-- The square with a shut slit, (-1,-2) (1,-2) (1,0) (0,0) (0,-1) (0,0) (-1,0) at size 1, in the lists of SCOPE's
-- square: the whole state where the run ends, computed from the definitions. No loop is left, and the outline is unsound, so it is open.
use Rattle.std.specs.Prelude.{◌≡◌, refl, false, [], ◌∷◌, length, Float}
use Rattle.numbers.specs.Float.{bits, zero_f, one_f}
use Rattle.outline.specs.Outline.{Outline, outline}
use Rattle.outline_sound.specs.Whole.{is_whole}
use Rattle.topology.specs.Links.{off}
use Rattle.front.specs.State.{State, counted}
use Rattle.paving.specs.declared.End.TheVariants.{Still}
use Rattle.paving.specs.Advance.{paved}
use Rattle.paving.specs.Loops.{front_loops}
use Rattle.run_whole.specs.Run.{run_of}
use Rattle.examples_table.proofs.Opened.{opened}
use Rattle.examples_table.proofs.Square.{square_settings, lent_field, square_lent}

abbrev minus_one : Float
minus_one = bits 0xbff0_0000_0000_0000

abbrev minus_two : Float
minus_two = bits 0xc000_0000_0000_0000

abbrev shut : Outline
shut =
    outline
    (minus_one ∷ minus_two ∷ one_f ∷ minus_two ∷ one_f ∷ zero_f ∷ zero_f ∷ zero_f ∷ zero_f ∷ minus_one ∷ zero_f ∷ zero_f ∷ minus_one ∷ zero_f ∷ []) [] []

-- of the front a loop of two nodes is left, 3 and 6
abbrev end : State
end =
    record {
      xs = minus_one ∷ zero_f ∷ one_f ∷ one_f ∷ one_f ∷ zero_f ∷ zero_f ∷ zero_f ∷ minus_one ∷ minus_one ∷ [];
      ys = minus_two ∷ minus_two ∷ minus_two ∷ minus_one ∷ zero_f ∷ zero_f ∷ minus_one ∷ zero_f ∷ zero_f ∷ minus_one ∷ [];
      next = off ∷ off ∷ off ∷ 6 ∷ off ∷ off ∷ 3 ∷ off ∷ off ∷ off ∷ [];
      prev = off ∷ off ∷ off ∷ 6 ∷ off ∷ off ∷ 3 ∷ off ∷ off ∷ off ∷ [];
      snapshot = off ∷ off ∷ off ∷ 6 ∷ off ∷ off ∷ 3 ∷ off ∷ off ∷ off ∷ [];
      quads = 4 ∷ 5 ∷ 6 ∷ 3 ∷ 7 ∷ 8 ∷ 9 ∷ 6 ∷ 9 ∷ 0 ∷ 1 ∷ 6 ∷ 1 ∷ 2 ∷ 3 ∷ 6 ∷ 7 ∷ 7 ∷ 7 ∷ 7 ∷ [];
      edges =
          0 ∷ 1 ∷ 1 ∷ 2 ∷ 2 ∷ 3 ∷ 3 ∷ 4 ∷ 4 ∷ 5 ∷ 5 ∷ 6 ∷ 6 ∷ 7 ∷ 7 ∷ 8 ∷ 8 ∷ 9 ∷ 0 ∷ 9 ∷ 3 ∷ 6 ∷ 6 ∷ 9 ∷ 1 ∷ 6 ∷ 7 ∷ 7 ∷ [];
      counts = counted 10 4 13 2;
    }

pub shut_run : (run_of shut square_settings lent_field square_lent).paving ≡ paved end Still
unfolding opened
shut_run = refl

pub shut_none : front_loops end ≡ []
unfolding opened
shut_none = refl

pub shut_open : is_whole shut (length (front_loops end)) ≡ false
unfolding opened
shut_open = refl
