-- What no run reaches (docs/DECISIONS.md, 13), computed from the definitions on states of a few nodes: the same corner twice, c to d on the front
-- already, the filters of the reuse, 4,096 spans, the cap, and walks that don't close. Every function of the code equals its definition on
-- such states too, as far as its `requires` lets them in.
use Rattle.std.specs.Prelude.{◌≡◌, refl, Bool, true, false, List, [], ◌∷◌, ℕ, Float, Some, None}
use Rattle.std.specs.Float.Ieee.{neg}
use Rattle.laws.specs.Loop.{go, out}
use Rattle.numbers.specs.Float.{to_float, zero_f, one_f, half_f}
use Rattle.outline.specs.declared.Point.{Point}
use Rattle.outline.specs.Outline.{Outline, outline, point}
use Rattle.geometry.specs.Plane.{segments_cross}
use Rattle.geometry.specs.Keys.{is_candidate}
use Rattle.topology.specs.Links.{off}
use Rattle.field_direction.specs.Record.{FieldRecord}
use Rattle.front.specs.declared.Corner.TheVariants.{Reused, Fresh}
use Rattle.front.specs.State.{State, state_of, counted}
use Rattle.paving.specs.declared.End.TheVariants.{Passes, Cap}
use Rattle.paving.specs.Checks.{edge_crosses}
use Rattle.paving.specs.Attempt.{corner_c, corner_d, attempt_quad, far}
use Rattle.paving.specs.Advance.{passing, paved, after_quad, advance}
use Rattle.paving.specs.Loops.{front_loops}
use Rattle.examples_table.proofs.Opened.{opened}

-- the point (x, y) of whole numbers
abbrev pub whole_point : ℕ → ℕ → Point
whole_point x y = point (to_float x) (to_float y)

abbrev pub up : Point
up = whole_point 0 1

-- n nodes, each with its links, and no quad or edge
abbrev linked : ℕ → List Float → List Float → List ℕ → List ℕ → State
linked n xs ys next prev = state_of xs ys next prev [] [] [] (counted n 0 0 n)

-- ---- c to d on the front already

abbrev unit : Outline
unit = outline (zero_f ∷ zero_f ∷ one_f ∷ zero_f ∷ one_f ∷ one_f ∷ zero_f ∷ one_f ∷ []) [] []

-- the unit square's corners 0, 1, 2, 3; the front leads from 3 to `last`
abbrev corners : ℕ → State
corners last =
    linked 4 (zero_f ∷ one_f ∷ one_f ∷ zero_f ∷ []) (zero_f ∷ zero_f ∷ one_f ∷ one_f ∷ []) (1 ∷ 2 ∷ 3 ∷ last ∷ []) (3 ∷ 0 ∷ 1 ∷ 2 ∷ [])

pub unit_quad : attempt_quad unit one_f (corners 0) 0 1 up up ≡ Some (far (Reused 3) (Reused 2))
unfolding opened
unit_quad = refl

pub next_of_c_is_d : attempt_quad unit one_f (corners 2) 0 1 up up ≡ None
unfolding opened
next_of_c_is_d = refl

-- ---- the same corner

-- the front 0, 1, 2 round (0,0) (2,0) (1,4); at size 4 node 2 is near enough to both corners wanted
abbrev narrow : State
narrow = linked 3 (to_float 0 ∷ to_float 2 ∷ to_float 1 ∷ []) (to_float 0 ∷ to_float 0 ∷ to_float 4 ∷ []) (1 ∷ 2 ∷ 0 ∷ []) (2 ∷ 0 ∷ 1 ∷ [])

abbrev triangle : Outline
triangle = outline (to_float 0 ∷ to_float 0 ∷ to_float 2 ∷ to_float 0 ∷ to_float 1 ∷ to_float 4 ∷ []) [] []

pub same_node_c : corner_c (to_float 4) narrow 0 1 up ≡ Reused 2
unfolding opened
same_node_c = refl

pub same_node_d : corner_d (to_float 4) narrow 0 1 up ≡ Reused 2
unfolding opened
same_node_d = refl

pub same_corner : attempt_quad triangle (to_float 4) narrow 0 1 up up ≡ None
unfolding opened
same_corner = refl

-- ---- the filters v ≠ b and v ≠ a

-- a front of two: 0 at (0,0) and 1 at (1,0)
abbrev pair : State
pair = linked 2 (zero_f ∷ one_f ∷ []) (zero_f ∷ zero_f ∷ []) (1 ∷ 0 ∷ []) (1 ∷ 0 ∷ [])

-- prev(0) is 1, and stands where c is wanted, but is the edge's other end
pub not_b : corner_c one_f pair 0 1 (whole_point 1 0) ≡ Fresh one_f zero_f
unfolding opened
not_b = refl

-- next(1) is 0, and stands where d is wanted
pub not_a : corner_d one_f pair 0 1 (point (neg one_f) zero_f) ≡ Fresh zero_f zero_f
unfolding opened
not_a = refl

-- where they are not the edge's ends, they are reused
pub else_c : corner_c one_f pair 0 5 (whole_point 1 0) ≡ Reused 1
unfolding opened
else_c = refl

pub else_d : corner_d one_f pair 5 1 (point (neg one_f) zero_f) ≡ Reused 0
unfolding opened
else_d = refl

-- ---- 4,096 spans: at size 1/2 the keys of edges are floors of the coordinates

-- one edge, from (0,0) to (x, y)
abbrev long : ℕ → ℕ → State
long x y = state_of (zero_f ∷ to_float x ∷ []) (zero_f ∷ to_float y ∷ []) [] [] [] [] (0 ∷ 1 ∷ []) (counted 2 0 1 0)

-- the edge a to b of two other nodes crosses it
abbrev crosses : Point → Point → State → Bool
crosses a b s = edge_crosses half_f s a b 2 3

pub kept_across : crosses (point (to_float 2) (neg one_f)) (whole_point 2 1) (long 4096 0) ≡ true
unfolding opened
kept_across = refl

pub skipped_across : crosses (point (to_float 2) (neg one_f)) (whole_point 2 1) (long 4097 0) ≡ false
unfolding opened
skipped_across = refl

-- though they do cross
pub skipped_crosses : segments_cross (point (to_float 2) (neg one_f)) (whole_point 2 1) (whole_point 0 0) (whole_point 4097 0) ≡ true
unfolding opened
skipped_crosses = refl

pub kept_both_ways : is_candidate half_f (whole_point 0 0) (whole_point 1 1) (whole_point 0 0) (whole_point 4000 96) ≡ true
unfolding opened
kept_both_ways = refl

pub skipped_both_ways : is_candidate half_f (whole_point 0 0) (whole_point 1 1) (whole_point 0 0) (whole_point 4000 97) ≡ false
unfolding opened
skipped_both_ways = refl

-- the query's rectangle alike
pub query_kept : is_candidate half_f (whole_point 4000 96) (whole_point 0 0) (whole_point 1 1) (whole_point 0 0) ≡ true
unfolding opened
query_kept = refl

pub query_skipped : is_candidate half_f (whole_point 4000 97) (whole_point 0 0) (whole_point 1 1) (whole_point 0 0) ≡ false
unfolding opened
query_skipped = refl

-- ---- the cap, and the passes: of any state, field, outline and size

abbrev with_quads : ℕ → State
with_quads n = state_of [] [] [] [] [] [] [] (counted 0 n 0 0)

-- after quad 249,999 the pass goes on
pub below_cap : after_quad (with_quads 249999) ≡ go (passing (with_quads 249999) true)
unfolding opened
below_cap = refl

-- quad 250,000 was just placed: the end, in the middle of the pass, and so before the passes are counted
pub at_cap : after_quad (with_quads 250000) ≡ out (out (paved (with_quads 250000) Cap))
unfolding opened
at_cap = refl

pub no_passes : (o : Outline) (size : Float) (field : FieldRecord) (s : State) → advance o size field 0 s ≡ paved s Passes
unfolding opened
no_passes o size field s = refl

pub passes_past_600 : (o : Outline) (size : Float) (field : FieldRecord) (s : State) → advance o size field 65535 s ≡ advance o size field 600 s
unfolding advance
passes_past_600 o size field s = refl

-- ---- walks that don't close

-- n nodes on the front
abbrev front : ℕ → List ℕ → State
front n next = state_of [] [] next [] [] [] [] (counted n 0 0 n)

-- 0, 1, 2 and no further; 3, 4, 5 is a loop
pub walk_stops : front_loops (front 6 (1 ∷ 2 ∷ off ∷ 4 ∷ 5 ∷ 3 ∷ [])) ≡ (3 ∷ 4 ∷ 5 ∷ []) ∷ []
unfolding opened
walk_stops = refl

-- 0, 1, 2, and back to 2
pub walk_turns : front_loops (front 3 (1 ∷ 2 ∷ 2 ∷ [])) ≡ []
unfolding opened
walk_turns = refl

-- 0, and into the loop 1, 2, 3, which is found from 1 (the Rust lists nothing: docs/DIFFERENCES.md)
pub walk_into_a_loop : front_loops (front 4 (1 ∷ 2 ∷ 3 ∷ 1 ∷ [])) ≡ (1 ∷ 2 ∷ 3 ∷ []) ∷ []
unfolding opened
walk_into_a_loop = refl

-- a loop of more nodes than the front has edges
pub walk_too_long : front_loops (state_of [] [] (1 ∷ 2 ∷ 3 ∷ 0 ∷ []) [] [] [] [] (counted 4 0 0 3)) ≡ []
unfolding opened
walk_too_long = refl
