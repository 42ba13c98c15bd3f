-- Readings of silent points, each on the smallest input that shows it. The check computes them.
use Rattle.std.specs.Prelude.{◌≡◌, refl, [], ◌∷◌}
use Rattle.front_lent_mesh.specs.Mesh.{mesh, quad_in}
use Rattle.exam_thresholds.specs.Figures.{stands, is_complete}
use Rattle.exam_estimates.specs.Estimate.{estimate, estimate_of, estimate_refusal, estimated, estimate_answer}

-- the fourth number of a quad takes (256 - u)·v
fourth : estimate_answer (mesh 4 1 (0 ∷ 1 ∷ 2 ∷ 3 ∷ [])) (0 ∷ 0 ∷ 0 ∷ 65 ∷ []) 0 0 256 ≡ estimated 0 65
unfolding estimate_answer estimate_refusal is_complete stands quad_in estimate_of estimate
fourth = refl

third : estimate_answer (mesh 4 1 (0 ∷ 1 ∷ 2 ∷ 3 ∷ [])) (0 ∷ 0 ∷ 65 ∷ 0 ∷ []) 0 0 256 ≡ estimated 0 0
unfolding estimate_answer estimate_refusal is_complete stands quad_in estimate_of estimate
third = refl

-- one floor, at the end
one_floor : estimate 128 128 1 1 1 1 ≡ 1
unfolding estimate
one_floor = refl

-- rounded down
down : estimate 255 0 0 1 0 0 ≡ 0
unfolding estimate
down = refl

-- no quad and a weight above 256: the quad first
quad_first : estimate_answer (mesh 0 0 []) [] 0 257 0 ≡ estimated 18 0
unfolding estimate_answer estimate_refusal
quad_first = refl

-- 256 is a weight, 257 is none
most : estimate_answer (mesh 1 1 (0 ∷ 0 ∷ 0 ∷ 0 ∷ [])) (7 ∷ []) 0 256 256 ≡ estimated 0 7
unfolding estimate_answer estimate_refusal is_complete stands quad_in estimate_of estimate
most = refl

over : estimate_answer (mesh 1 1 (0 ∷ 0 ∷ 0 ∷ 0 ∷ [])) (7 ∷ []) 0 256 257 ≡ estimated 19 0
unfolding estimate_answer estimate_refusal is_complete stands quad_in
over = refl

-- a first entry turns 18 into an estimate, which no bound speaks of
lacking : estimate_answer (mesh 1 1 (0 ∷ 0 ∷ 0 ∷ 0 ∷ [])) (65535 ∷ []) 0 0 0 ≡ estimated 18 0
unfolding estimate_answer estimate_refusal is_complete stands quad_in
lacking = refl
