-- The worked square (0,0) (2,0) (2,2) (0,2) at size 1, sampled and stepped by hand: what the entries answer and leave, computed from the definitions.
-- And the smallest inputs of the readings in docs/DECISIONS.md.
use Rattle.std.specs.Prelude.{◌≡◌, refl, List, [], ◌∷◌, ℕ, Float}
use Rattle.std.proofs.Math.ListN.{replicate}
use Rattle.numbers.specs.Float.{zero_f, one_f, two_f, four_f}
use Rattle.outline.specs.Outline.{outline}
use Rattle.field_direction.specs.Record.{FieldRecord, field_record}
use Rattle.field_cross.specs.Field.{drawn_refusal}
use Rattle.topology.specs.Links.{off}
use Rattle.front.specs.declared.Counts.{Counts}
use Rattle.front.specs.State.{State, counted}
use Rattle.run_whole.proofs.Worked.{worked_square}
use Rattle.books.specs.Book.{filled}
use Rattle.examples_table.proofs.Opened.{opened}
use Rattle.hand_mesh_check.specs.Check.{all_off, lent_state, beyond_places, ids_beyond, link_unsound, link_count, front_unsound, coordinate_unsound, mesh_unsound}
use Rattle.hand_mesh_check.specs.Check.{mesh_refusal, edge_refusal}
use Rattle.hand_steps.specs.declared.StepOutcome.TheVariants.{Full, Cap}
use Rattle.hand_steps.specs.Hand.{hand_refusal, place_on, new_origins}
use Rattle.hand_previews.specs.Preview.{front_listed, preview_refusal}
use Rattle.hand_step_answers.specs.declared.StepAnswer.{StepAnswer}
use Rattle.hand_step_answers.specs.declared.PreviewAnswer.{PreviewAnswer}
use Rattle.hand_step_answers.specs.Answers.{refused_step, no_quad}
use Rattle.hand_step_entries.specs.Entries.{grid_given, given_refusal, step_refusal, sight_refusal, step_reply, step_left}
use Rattle.hand_step_entries.specs.Entries.{preview_reply, preview_left}

-- names to unfold beside `opened`
unfoldable pub steps_opened : Unit {0}
unfolding replicate all_off beyond_places ids_beyond link_unsound link_count front_unsound coordinate_unsound mesh_unsound mesh_refusal edge_refusal hand_refusal
    place_on new_origins front_listed preview_refusal drawn_refusal given_refusal step_refusal sight_refusal step_reply step_left preview_reply preview_left
steps_opened = tt

-- the square's field is the same everywhere: four nodes are enough
abbrev field : FieldRecord
field = field_record (grid_given zero_f zero_f two_f 2 2) (one_f ∷ zero_f ∷ one_f ∷ zero_f ∷ one_f ∷ zero_f ∷ one_f ∷ zero_f ∷ []) (0 ∷ 0 ∷ 0 ∷ 0 ∷ [])

-- the sampled square, in lists of nine nodes, one quad and so many edges; the counts as they are lent
abbrev mesh : List ℕ → List ℕ → Counts → State
mesh origins edges k =
    lent_state (zero_f ∷ one_f ∷ two_f ∷ two_f ∷ two_f ∷ one_f ∷ zero_f ∷ zero_f ∷ four_f ∷ []) (zero_f ∷ zero_f ∷ zero_f ∷ one_f ∷ two_f ∷ two_f ∷ two_f ∷ one_f ∷ four_f ∷ [])
    (1 ∷ 2 ∷ 3 ∷ 4 ∷ 5 ∷ 6 ∷ 7 ∷ 0 ∷ 9 ∷ []) (7 ∷ 0 ∷ 1 ∷ 2 ∷ 3 ∷ 4 ∷ 5 ∷ 6 ∷ 9 ∷ []) origins (9 ∷ 9 ∷ 9 ∷ 9 ∷ []) edges k

-- seven of its eight edges, those after the first; then the rest of the list
abbrev others : List ℕ → List ℕ
others rest = 1 ∷ 2 ∷ 2 ∷ 3 ∷ 3 ∷ 4 ∷ 4 ∷ 5 ∷ 5 ∷ 6 ∷ 6 ∷ 7 ∷ 0 ∷ 7 ∷ rest

abbrev numbers : List ℕ
numbers = 3 ∷ 1 ∷ 4 ∷ 1 ∷ 5 ∷ 9 ∷ 2 ∷ 6 ∷ 0 ∷ []

-- with room for three edges more, and junk there
abbrev sampled : State
sampled = mesh numbers (0 ∷ 1 ∷ others (9 ∷ 9 ∷ 9 ∷ 9 ∷ 9 ∷ 9 ∷ [])) (counted 8 0 8 8)

abbrev after : StepAnswer
after = record { refusal = 0; outcome = 0; nodes = 9; quads = 1; edges = 10; front = 8 }

-- the quad 3 4 5 8, with one new node (1, 1)
pub record SquareStepped : Type 0 where
  pub step : step_reply worked_square one_f field 3 4 sampled ≡ after
  pub left : step_left worked_square one_f field 3 4 sampled
      ≡ lent_state (zero_f ∷ one_f ∷ two_f ∷ two_f ∷ two_f ∷ one_f ∷ zero_f ∷ zero_f ∷ one_f ∷ []) (zero_f ∷ zero_f ∷ zero_f ∷ one_f ∷ two_f ∷ two_f ∷ two_f ∷ one_f ∷ one_f ∷ [])
      (1 ∷ 2 ∷ 3 ∷ 8 ∷ off ∷ 6 ∷ 7 ∷ 0 ∷ 5 ∷ []) (7 ∷ 0 ∷ 1 ∷ 2 ∷ off ∷ 8 ∷ 5 ∷ 6 ∷ 3 ∷ []) numbers (3 ∷ 4 ∷ 5 ∷ 8 ∷ [])
      (0 ∷ 1 ∷ others (5 ∷ 8 ∷ 3 ∷ 8 ∷ 9 ∷ 9 ∷ [])) (counted 9 1 10 8)
  -- it takes the number of node 3
  pub number : new_origins 3 8 9 numbers ≡ 3 ∷ 1 ∷ 4 ∷ 1 ∷ 5 ∷ 9 ∷ 2 ∷ 6 ∷ 1 ∷ []
  pub preview : preview_reply worked_square one_f field 3 4 sampled (filled 22 7)
      ≡ record {
        refusal = 0;
        outcome = 0;
        a = 3;
        b = 4;
        d = 5;
        c = 8;
        new_nodes = 1;
        cx = one_f;
        cy = one_f;
        dx = zero_f;
        dy = zero_f;
        front = 8;
      }
  pub list : preview_left worked_square one_f field 3 4 sampled (filled 22 7)
      ≡ 0 ∷ 1 ∷ 1 ∷ 2 ∷ 2 ∷ 3 ∷ 3 ∷ 8 ∷ 5 ∷ 6 ∷ 6 ∷ 7 ∷ 7 ∷ 0 ∷ 8 ∷ 5 ∷ 7 ∷ 7 ∷ 7 ∷ 7 ∷ 7 ∷ 7 ∷ []

pub square_stepped : SquareStepped
unfolding opened steps_opened
square_stepped = record { step = refl; left = refl; number = refl; preview = refl; list = refl }

-- nothing placed
pub record Others : Type 0 where
  -- eight places for the numbers of nine nodes
  pub full : step_reply worked_square one_f field 3 4 (mesh (filled 8 0) (0 ∷ 1 ∷ others (9 ∷ 9 ∷ 9 ∷ 9 ∷ [])) (counted 8 0 8 8))
      ≡ record { refusal = 0; outcome = 2; nodes = 8; quads = 0; edges = 8; front = 8 }
  pub full_preview : preview_reply worked_square one_f field 3 4 (mesh (filled 8 0) (0 ∷ 1 ∷ others (9 ∷ 9 ∷ 9 ∷ 9 ∷ [])) (counted 8 0 8 8)) (filled 20 7)
      ≡ no_quad 2 8
  -- 250,000 quads: nothing is attempted; with one fewer it is, and finds no place here
  pub cap : (place_on worked_square one_f field 3 4 (mesh numbers [] (counted 8 250000 0 8))).outcome ≡ Cap
  pub below_cap : (place_on worked_square one_f field 3 4 (mesh numbers [] (counted 8 249999 0 8))).outcome ≡ Full
  -- 24 by the mark of none, and the wrong way round
  pub mark : step_reply worked_square one_f field 8 off sampled ≡ refused_step 24
  pub turned : step_reply worked_square one_f field 4 3 sampled ≡ refused_step 24
  -- a preview's list one edge short: 23 before 24
  pub short : (preview_reply worked_square one_f field 4 3 sampled (filled 19 7)).refusal ≡ 23
  -- 7 of an outline with no height, before 23 of a count
  pub flat : step_reply (outline (zero_f ∷ zero_f ∷ one_f ∷ zero_f ∷ two_f ∷ zero_f ∷ []) [] []) one_f field 3 4 (mesh numbers [] (counted 8 0 0 7)) ≡ refused_step 7

pub others_answered : Others
unfolding opened steps_opened
others_answered =
    record { full = refl; full_preview = refl; cap = refl; below_cap = refl; mark = refl; turned = refl; short = refl; flat = refl }

-- what 23 lets pass, answered by the definitions
pub record Readings : Type 0 where
  -- no edge listed: all four sides are added
  pub unlisted : step_reply worked_square one_f field 3 4 (mesh numbers (filled 8 0) (counted 8 0 0 8))
      ≡ record { refusal = 0; outcome = 0; nodes = 9; quads = 1; edges = 4; front = 8 }
  -- the first pair stored as 1 0 isn't found: the edge is added again
  pub reversed : (step_reply worked_square one_f field 0 1 (mesh numbers (1 ∷ 0 ∷ others (filled 6 0)) (counted 8 0 8 8))).edges ≡ 11
  pub stored : (step_reply worked_square one_f field 0 1 (mesh numbers (0 ∷ 1 ∷ others (filled 6 0)) (counted 8 0 8 8))).edges ≡ 10

pub readings : Readings
unfolding opened steps_opened
readings = record { unlisted = refl; reversed = refl; stored = refl }
