-- Readings of silent points, each on the smallest input that shows it. The check computes them.
use Rattle.std.specs.Prelude.{◌≡◌, refl, [], ◌∷◌, ℕ}
use Rattle.laws.specs.Loop.{for_up, sum_up}
use Rattle.front_lent_mesh.specs.Mesh.{Mesh, mesh, quad_in}
use Rattle.exam_thresholds.specs.Figures.{stands, is_complete, quad_total, count_at, sum_at, count_afresh, sum_afresh, names, share_at, share_of, moved}
use Rattle.exam_thresholds.specs.Figures.{results, outcome, is_missing, refusal_at, with_threshold, begin_answer, enter_answer, withdraw_answer}

-- n nodes and one quad
abbrev one : ℕ → ℕ → ℕ → ℕ → ℕ → Mesh
one n a b d c = mesh n 1 (a ∷ b ∷ d ∷ c ∷ [])

-- a node twice in a quad: once in the sum
twice_count : count_afresh (one 3 0 0 1 2) (10 ∷ 20 ∷ 30 ∷ []) ≡ 1
unfolding count_afresh sum_up for_up count_at quad_in is_complete stands
twice_count = refl

twice_sum : sum_afresh (one 3 0 0 1 2) (10 ∷ 20 ∷ 30 ∷ []) ≡ 60
unfolding sum_afresh sum_up for_up sum_at quad_in is_complete stands quad_total
twice_sum = refl

-- and where b and d are the same node
twice_later : sum_afresh (one 3 0 1 1 2) (10 ∷ 20 ∷ 30 ∷ []) ≡ 60
unfolding sum_afresh sum_up for_up sum_at quad_in is_complete stands quad_total
twice_later = refl

-- 500 stands, 501 doesn't
most : count_afresh (one 1 0 0 0 0) (500 ∷ []) ≡ 1
unfolding count_afresh sum_up for_up count_at quad_in is_complete stands
most = refl

over : count_afresh (one 1 0 0 0 0) (501 ∷ []) ≡ 0
unfolding count_afresh sum_up for_up count_at quad_in is_complete stands
over = refl

-- an id that is in the list but no node
no_node : count_afresh (one 3 0 1 2 3) (1 ∷ 2 ∷ 3 ∷ 4 ∷ []) ≡ 0
unfolding count_afresh sum_up for_up count_at quad_in is_complete stands
no_node = refl

-- 501 is none: its withdrawal is refused and leaves the place as it is
junk : withdraw_answer (one 1 0 0 0 0) (results (501 ∷ []) 0 0) 0 ≡ outcome 17 (results (501 ∷ []) 0 0)
unfolding withdraw_answer refusal_at is_missing
junk = refl

-- 65,541, cut to 16 bits, would be 5
wide : enter_answer (one 1 0 0 0 0) (results (65535 ∷ []) 0 0) 0 65541 ≡ outcome 16 (results (65535 ∷ []) 0 0)
unfolding enter_answer refusal_at is_missing
wide = refl

-- every place is written
begins : begin_answer (results (501 ∷ 7 ∷ []) 3 9) ≡ outcome 0 (results (65535 ∷ 65535 ∷ []) 0 0)
unfolding begin_answer
begins = refl

-- figures that no call left are moved modulo 2^32
wraps : withdraw_answer (one 1 0 0 0 0) (results (5 ∷ []) 0 0) 0 ≡ outcome 0 (results (65535 ∷ []) 4294967295 4294967291)
unfolding withdraw_answer refusal_at is_missing with_threshold share_of share_at names sum_up for_up count_at sum_at quad_in is_complete stands quad_total moved
wraps = refl

-- no node and a threshold above 500: the node first
node_first : enter_answer (mesh 0 0 []) (results [] 0 0) 0 501 ≡ outcome 15 (results [] 0 0)
unfolding enter_answer refusal_at is_missing
node_first = refl

-- the same threshold again is taken, and nothing moves
again : enter_answer (one 1 0 0 0 0) (results (5 ∷ []) 1 5) 0 5 ≡ outcome 0 (results (5 ∷ []) 1 5)
unfolding enter_answer refusal_at is_missing with_threshold share_of share_at names sum_up for_up count_at sum_at quad_in is_complete stands quad_total moved
again = refl
