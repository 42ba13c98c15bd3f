-- Small inputs, by computation.
use Rattle.std.specs.Prelude.{List, [], ◌∷◌, ◌≡◌, refl, ℕ}
use Rattle.laws.specs.Loop.{for_up, run, any_up}
use Rattle.front_lent_mesh.specs.Mesh.{quad_count_of, quad_in}
use Rattle.order.specs.Order.{lays, lays_for, needs, first_place, names_each_once, too_early, order_accepted, not_once, early_at, first_early, order_of, order_answer}

-- the second quad's a to b, 3 to 2, is the first one's d to c
abbrev two : List ℕ
two = 0 ∷ 1 ∷ 2 ∷ 3 ∷ 3 ∷ 2 ∷ 4 ∷ 5 ∷ []

pub two_placed : order_answer 2 two (0 ∷ 1 ∷ []) ≡ order_accepted
unfolding order_answer order_of quad_count_of names_each_once first_early too_early needs lays_for lays quad_in first_place run any_up for_up
two_placed = refl

-- the quad that stands too early is named, not the one that it waits for
pub two_exchanged : order_answer 2 two (1 ∷ 0 ∷ []) ≡ early_at 0
unfolding order_answer order_of quad_count_of names_each_once first_early too_early needs lays_for lays quad_in first_place run any_up for_up
two_exchanged = refl

pub repeated : order_answer 2 two (0 ∷ 0 ∷ []) ≡ not_once
unfolding order_answer order_of quad_count_of names_each_once first_early too_early needs lays_for lays quad_in first_place run any_up for_up
repeated = refl

pub absent : order_answer 2 two (0 ∷ []) ≡ not_once
unfolding order_answer order_of quad_count_of names_each_once first_early too_early needs lays_for lays quad_in first_place run any_up for_up
absent = refl

-- a step is one of the four places of the run: which isn't a to b or d to c is by place and not by value
pub by_place : order_answer 2 (3 ∷ 3 ∷ 3 ∷ 4 ∷ 3 ∷ 3 ∷ 3 ∷ 3 ∷ []) (1 ∷ 0 ∷ []) ≡ early_at 0
unfolding order_answer order_of quad_count_of names_each_once first_early too_early needs lays_for lays quad_in first_place run any_up for_up
by_place = refl

-- no quads
pub empty : order_answer 5 [] [] ≡ order_accepted
unfolding order_answer order_of quad_count_of names_each_once first_early too_early needs lays_for lays quad_in first_place run any_up for_up
empty = refl

-- seven numbers are one whole quad
pub whole_quad : order_answer 2 (0 ∷ 1 ∷ 2 ∷ 3 ∷ 3 ∷ 2 ∷ 4 ∷ []) (0 ∷ []) ≡ order_accepted
unfolding order_answer order_of quad_count_of names_each_once first_early too_early needs lays_for lays quad_in first_place run any_up for_up
whole_quad = refl
