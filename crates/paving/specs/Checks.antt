-- The checks of `attempt_quad`, `node_ok`, `quad_ok` and `edge_crosses` of src/alt_crossfield.rs, in their order. Definitions only.
use Rattle.std.specs.Prelude.{Bool, true, false, not, ◌&&◌, ◌||◌, ℕ, eqb, Float}
use Rattle.std.specs.Float.Ieee.{le}
use Rattle.laws.specs.Loop.{any_up}
use Rattle.numbers.specs.Float.{◌⊗◌, is_finite}
use Rattle.outline.specs.declared.Point.{Point}
use Rattle.outline.specs.Outline.{Outline, point}
use Rattle.outline.specs.Queries.{contains}
use Rattle.geometry.specs.declared.Corners.{Corners}
use Rattle.geometry.specs.Plane.{distance, convex_ccw, point_in_convex, segments_cross, centroid}
use Rattle.geometry.specs.Keys.{is_candidate, clearance, is_too_close, is_in_box}
use Rattle.front.specs.declared.Corner.{Corner}
use Rattle.front.specs.declared.Corner.TheVariants.{Reused, Fresh}
use Rattle.front.specs.State.{State, node, edge_from, edge_to}
use Rattle.front.specs.Neighbours.{next_at, is_at}
use Rattle.front.specs.Place.{corner_point, id_c, id_d}

-- ---- new nodes

-- `too_close`: some node is nearer to p than 0.45 × size
abbrev pub close_node : Float → State → Point → ℕ → Bool
close_node size s p id = is_too_close size p (node s id)

unfoldable pub too_close : Float → State → Point → Bool
too_close size s p = any_up s.counts.nodes (close_node size s p)

-- `node_ok`
unfoldable pub node_ok : Outline → Float → State → Point → Bool
node_ok o size s p = is_finite p.x && (is_finite p.y && (contains o p && not (too_close size s p)))

-- a new corner is inside and not too close
unfoldable pub corner_free : Outline → Float → State → Corner → Bool
corner_free o size s (Reused id) = true
corner_free o size s (Fresh x y) = node_ok o size s (point x y)

-- two new corners are more than 0.45 × size apart
unfoldable pub corners_apart : Float → Corner → Corner → Bool
corners_apart size (Reused c) d = true
corners_apart size (Fresh x y) (Reused d) = true
corners_apart size (Fresh x y) (Fresh z w) = not (le (distance (point x y) (point z w)) (clearance ⊗ size))

-- ---- nodes inside the quad

-- id is one of the corners
abbrev pub is_corner : ℕ → ℕ → ℕ → ℕ → ℕ → Bool
is_corner a b d c id = eqb id a || (eqb id b || (eqb id d || eqb id c))

-- the node q of number id, not a corner, lies in the quad and in its key rectangle
abbrev pub blocks_at : Float → Corners → ℕ → ℕ → ℕ → ℕ → ℕ → Point → Bool
blocks_at size p a b d c id q = is_in_box size p q && (not (is_corner a b d c id) && point_in_convex p q)

-- node id does
abbrev pub blocks : Float → State → Corners → ℕ → ℕ → ℕ → ℕ → ℕ → Bool
blocks size s p a b d c id = blocks_at size p a b d c id (node s id)

unfoldable pub node_inside : Float → State → Corners → ℕ → ℕ → ℕ → ℕ → Bool
node_inside size s p a b d c = any_up s.counts.nodes (blocks size s p a b d c)

-- ---- edges

-- the edges c to d and u to v have an end in common
abbrev pub share_end : ℕ → ℕ → ℕ → ℕ → Bool
share_end c d u v = eqb c u || (eqb c v || (eqb d u || eqb d v))

-- the edge c to d is a candidate for the new edge a to b, whose ends are the nodes u and v, shares no end with it, and crosses it
abbrev pub crosses_at : Float → State → Point → Point → ℕ → ℕ → ℕ → ℕ → Bool
crosses_at size s a b u v c d =
    not (share_end c d u v) && (is_candidate size a b (node s c) (node s d) && segments_cross a b (node s c) (node s d))

-- edge k does
abbrev pub crosses_edge : Float → State → Point → Point → ℕ → ℕ → ℕ → Bool
crosses_edge size s a b u v k = crosses_at size s a b u v (edge_from s k) (edge_to s k)

-- `edge_crosses`
unfoldable pub edge_crosses : Float → State → Point → Point → ℕ → ℕ → Bool
edge_crosses size s a b u v = any_up s.counts.edges (crosses_edge size s a b u v)

-- the edge from a new corner's node to its neighbour crosses; that of a reused one is there already
abbrev pub side_crosses : Float → State → Corner → ℕ → ℕ → Bool
side_crosses size s (Reused v) id to = false
side_crosses size s (Fresh x y) id to = edge_crosses size s (point x y) (node s to) id to

-- none of the new edges crosses: c to a if c is new, c to d, d to b if d is new
unfoldable pub edges_free : Float → State → ℕ → ℕ → Corner → Corner → Bool
edges_free size s a b c d =
    not (side_crosses size s c (id_c s c) a)
    && (not (edge_crosses size s (corner_point s c) (corner_point s d) (id_c s c) (id_d s c d)) && not (side_crosses size s d (id_d s c d) b))

-- ---- the quad

abbrev pub corners_of : State → ℕ → ℕ → Corner → Corner → Corners
corners_of s a b c d = record { a = node s a; b = node s b; d = corner_point s d; c = corner_point s c }

-- `quad_ok`
unfoldable pub quad_ok : Outline → Float → State → ℕ → ℕ → Corner → Corner → Bool
quad_ok o size s a b c d =
    let p = corners_of s a b c d in
    convex_ccw p && (contains o (centroid p) && (not (node_inside size s p a b (id_d s c d) (id_c s c)) && edges_free size s a b c d))

-- every check, in its order: same corner, new nodes, their distance, c to d on the front already, `quad_ok`
unfoldable pub quad_fits : Outline → Float → State → ℕ → ℕ → Corner → Corner → Bool
quad_fits o size s a b c d =
    not (eqb (id_c s c) (id_d s c d)) && (corner_free o size s c && (corner_free o size s d && (corners_apart size c d
    && (not (is_at (next_at s (id_c s c)) (id_d s c d)) && quad_ok o size s a b c d))))
