-- Small meshes in steps. The check computes each.
use Rattle.std.specs.Prelude.{◌≡◌, refl, List, [], ◌∷◌, ℕ, ℤ, pos, negsuc, Float}
use Rattle.std.specs.Float.Ieee.{of_bits, lt, le, eq}
use Rattle.laws.specs.Loop.{for_up, run, any_up, sum_up}
use Rattle.numbers.specs.Float.{bits, zero_f, one_f, two_f, is_finite, abs_f}
use Rattle.exact.specs.Units.{W, size_of}
use Rattle.exact.specs.Corner.{cross}
use Rattle.topology.specs.Links.{off, link_of}
use Rattle.field_direction.specs.Direction.{within}
use Rattle.front.specs.State.{State, counted, node_places, quad_places, edge_places}
use Rattle.front_lent_mesh.specs.Mesh.{quad_in}
use Rattle.hand_mesh_check.specs.Check.{all_off, lent_state, beyond_places, ids_beyond, link_unsound, link_count, front_unsound, coordinate_unsound, mesh_unsound, mesh_refusal}
use Rattle.bowl_nearest_step.specs.Step.{nearest_whole, nearest_step}
use Rattle.bowl.specs.Steps.{turns_left, is_shown, steps_given, mesh_unstepped, hidden_at, lowest_hidden, steps_answer, store_turn, stored_steps, steps_left}

-- what computes here
unfoldable stepping : Unit {0}
unfolding of_bits is_finite abs_f le eq lt for_up run any_up sum_up W size_of cross link_of within node_places quad_places edge_places quad_in all_off beyond_places ids_beyond
    link_unsound link_count front_unsound coordinate_unsound mesh_unsound mesh_refusal nearest_whole nearest_step turns_left is_shown lowest_hidden steps_answer store_turn
    stored_steps steps_left
stepping = tt

-- four nodes off the front, and q of the quads 0 1 2 3, 1 2 3 0 and 0 3 2 1
abbrev four_nodes : List Float → List Float → ℕ → State
four_nodes xs ys q =
    let none = off ∷ off ∷ off ∷ off ∷ [] in
    lent_state xs ys none none (0 ∷ 0 ∷ 0 ∷ 0 ∷ []) (0 ∷ 1 ∷ 2 ∷ 3 ∷ 1 ∷ 2 ∷ 3 ∷ 0 ∷ 0 ∷ 3 ∷ 2 ∷ 1 ∷ []) [] (counted 4 q 0 0)

-- the unit square
abbrev square_mesh : ℕ → State
square_mesh q = four_nodes (zero_f ∷ one_f ∷ one_f ∷ zero_f ∷ []) (zero_f ∷ zero_f ∷ one_f ∷ one_f ∷ []) q

-- a billionth wide: both ends of its short sides go to the same step
abbrev sliver : State
sliver = let thin = bits 0x3e11_2e0b_e826_d695 in four_nodes (zero_f ∷ thin ∷ thin ∷ zero_f ∷ []) (zero_f ∷ zero_f ∷ one_f ∷ one_f ∷ []) 1

-- straight at node 1
abbrev straight : State
straight = four_nodes (zero_f ∷ one_f ∷ two_f ∷ zero_f ∷ []) (zero_f ∷ zero_f ∷ zero_f ∷ one_f ∷ []) 1

-- a place more than the nodes need
abbrev step_buffer : List ℤ
step_buffer = pos 7 ∷ pos 7 ∷ pos 7 ∷ pos 7 ∷ pos 7 ∷ pos 7 ∷ pos 7 ∷ pos 7 ∷ negsuc 8 ∷ []

pub record ExampleAnswers : Type 0 where
  pub shown : steps_answer (square_mesh 1) 8 ≡ steps_given
  -- the same nodes from another corner, then the other way round
  pub lowest : steps_answer (square_mesh 3) 8 ≡ hidden_at 2
  pub none : steps_answer (square_mesh 0) 8 ≡ steps_given
  pub short : steps_answer (square_mesh 1) 7 ≡ mesh_unstepped
  pub same_step : steps_answer sliver 8 ≡ hidden_at 0
  pub no_turn : steps_answer straight 8 ≡ hidden_at 0
  -- 23 comes before 25
  pub both : steps_answer straight 7 ≡ mesh_unstepped

pub example_answers : ExampleAnswers
unfolding stepping
example_answers = record { shown = refl; lowest = refl; none = refl; short = refl; same_step = refl; no_turn = refl; both = refl }

-- places past the nodes' keep their contents, and on a refusal all do
pub buffer_left : steps_left (square_mesh 1) steps_given step_buffer
    ≡ pos 0 ∷ pos 0 ∷ pos 64 ∷ pos 0 ∷ pos 64 ∷ pos 64 ∷ pos 0 ∷ pos 64 ∷ negsuc 8 ∷ []
unfolding stepping
buffer_left = refl

pub buffer_kept : steps_left sliver (hidden_at 0) step_buffer ≡ step_buffer
unfolding stepping
buffer_kept = refl
