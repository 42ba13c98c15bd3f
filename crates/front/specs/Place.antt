-- The placing of a quad: `attempt_quad` of src/alt_crossfield.rs from the commit on, and when it is full. Definitions only.
use Rattle.std.specs.Prelude.{Bool, ◌||◌, cond, ℕ, ◌+◌, ltb}
use Rattle.outline.specs.declared.Point.{Point}
use Rattle.outline.specs.Outline.{point}
use Rattle.front.specs.declared.Corner.{Corner}
use Rattle.front.specs.declared.Corner.TheVariants.{Reused, Fresh}
use Rattle.front.specs.declared.NewQuad.{NewQuad}
use Rattle.front.specs.State.{State, node, node_places, quad_places, edge_places, has_edge, push_node, add_front, remove_front, add_edge, push_quad}

-- ---- the far corners

-- how many nodes a corner adds
abbrev pub added : Corner → ℕ
added (Reused id) = 0
added (Fresh x y) = 1

-- a corner's node, where a new one gets the number n
abbrev pub corner_id : ℕ → Corner → ℕ
corner_id n (Reused id) = id
corner_id n (Fresh x y) = n

-- the quad a, b, d, c with the ids of its far corners, where the next new node gets the number n
abbrev pub new_quad : ℕ → ℕ → ℕ → Corner → Corner → NewQuad
new_quad n a b c d = record { a = a; b = b; c = c; d = d; id_c = corner_id n c; id_d = corner_id (n + added c) d }

abbrev pub corner_point : State → Corner → Point
corner_point s (Reused id) = node s id
corner_point s (Fresh x y) = point x y

-- the ids that the corners have or will get: c's first
abbrev pub id_c : State → Corner → ℕ
id_c s c = corner_id s.counts.nodes c

abbrev pub id_d : State → Corner → Corner → ℕ
id_d s c d = corner_id (s.counts.nodes + added c) d

-- ---- the commit

abbrev pub push_corner : Corner → State → State
push_corner (Reused id) s = s
push_corner (Fresh x y) s = push_node (point x y) s

-- the mesh edges of the quad a, b, d, c
unfoldable pub add_edges : ℕ → ℕ → ℕ → ℕ → State → State
add_edges a b d c s = add_edge c a (add_edge d c (add_edge b d (add_edge a b s)))

-- the front edge at a reused corner comes off
abbrev pub take_off : Corner → ℕ → ℕ → State → State
take_off (Reused id) u v s = remove_front u v s
take_off (Fresh x y) u v s = s

-- the front edge at a new corner goes on
abbrev pub put_on : Corner → ℕ → ℕ → State → State
put_on (Reused id) u v s = s
put_on (Fresh x y) u v s = add_front u v s

-- a to b and the reused sides come off; then the new sides and c to d go on
unfoldable pub move_front : Corner → Corner → ℕ → ℕ → ℕ → ℕ → State → State
move_front c d a b id_d id_c s =
    let bare = take_off d b id_d (take_off c id_c a (remove_front a b s)) in
    put_on d id_d b (add_front id_c id_d (put_on c a id_c bare))

-- the quad a, b, d, c is placed
unfoldable pub place : ℕ → ℕ → Corner → Corner → State → State
place a b c d s =
    let C = id_c s c in
    let D = id_d s c d in
    move_front c d a b D C (push_quad a b D C (add_edges a b D C (push_corner d (push_corner c s))))

-- ---- full

-- how many edges u to v adds
abbrev pub missing : State → ℕ → ℕ → ℕ
missing s u v = cond (has_edge s u v) 0 1

-- how many distinct edges the quad a, b, d, c adds
unfoldable pub edges_added : State → ℕ → ℕ → ℕ → ℕ → ℕ
edges_added s a b d c = missing s a b + missing s b d + missing s d c + missing s c a

-- the quad would need a node, quad or distinct edge beyond those lent
unfoldable pub is_full : State → ℕ → ℕ → Corner → Corner → Bool
is_full s a b c d =
    ltb (node_places s) (s.counts.nodes + added c + added d)
    || (ltb (quad_places s) (s.counts.quads + 1) || ltb (edge_places s) (s.counts.edges + edges_added s a b (id_d s c d) (id_c s c)))
