-- Counts beyond their lists, each on the smallest input that shows it. The check computes them.
use Rattle.std.specs.Prelude.{◌≡◌, refl, [], ◌∷◌}
use Rattle.std.specs.Float.{nan}
use Rattle.front_lent_mesh.specs.Mesh.{node_count_of, quad_count_of}

-- two nodes, of which the second has no y
no_node : node_count_of 2 (nan ∷ nan ∷ []) (nan ∷ []) ≡ 1
unfolding node_count_of
no_node = refl

-- seven numbers, lent as two quads, are one
whole : quad_count_of 2 (0 ∷ 1 ∷ 2 ∷ 3 ∷ 4 ∷ 5 ∷ 6 ∷ []) ≡ 1
unfolding quad_count_of
whole = refl
