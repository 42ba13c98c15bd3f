-- Under which keys the nodes and edges of a state are filed, and the tests of its scans. Definitions only.
use Rattle.std.specs.Prelude.{Bool, List, [], ℕ, ◌+◌, ◌*◌, ◌≤◌, length, get_or, Float}
use Rattle.outline.specs.declared.Point.{Point}
use Rattle.geometry.specs.declared.Corners.{Corners}
use Rattle.index_pools.specs.declared.Rect.{Rect}
use Rattle.index_pools.specs.Pool.{Indexed}
use Rattle.index_key_rects.specs.Rects.{node_rect, edge_rect}
use Rattle.front.specs.State.{State, state_of, counted, node_in}
use Rattle.paving.specs.Checks.{close_node, blocks, crosses_edge}

-- node id
abbrev pub node_rects : Float → List Float → List Float → ℕ → Rect
node_rects size xs ys id = node_rect size (node_in xs ys id)

-- edge k
abbrev pub edge_rects : Float → List Float → List Float → List ℕ → ℕ → Rect
edge_rects size xs ys edges k = edge_rect size (node_in xs ys (get_or edges (2 * k) 0)) (node_in xs ys (get_or edges (2 * k + 1) 0))

-- the nodes before `from` are filed, and those up to `to` may follow
pub record NodesFiled (pool : List ℕ) (size : Float) (xs ys : List Float) (from to : ℕ) : Type 0 where
  pub more : from ≤ to
  pub filed : Indexed pool (node_rects size xs ys) from

-- the edges before `from` are filed, and those up to `to`, which are lent, may follow
pub record EdgesFiled (pool : List ℕ) (size : Float) (xs ys : List Float) (edges : List ℕ) (from to : ℕ) : Type 0 where
  pub more : from ≤ to
  pub lent : 2 * to ≤ length edges
  pub filed : Indexed pool (edge_rects size xs ys edges) from

-- ---- the tests of the scans are those of crates/paving/specs/Checks.antt, over the lists that they read

-- a state with these lists alone
abbrev pub listed : List Float → List Float → List ℕ → State
listed xs ys edges = state_of xs ys [] [] [] [] edges (counted 0 0 0 0)

-- node id is too close to p
abbrev pub close_at : Float → List Float → List Float → Point → ℕ → Bool
close_at size xs ys p id = close_node size (listed xs ys []) p id

-- node id, not a corner, lies in the quad
abbrev pub inside_at : Float → List Float → List Float → Corners → ℕ → ℕ → ℕ → ℕ → ℕ → Bool
inside_at size xs ys p a b d c id = blocks size (listed xs ys []) p a b d c id

-- edge k crosses the new edge a to b
abbrev pub crossing_at : Float → List Float → List Float → List ℕ → Point → Point → ℕ → ℕ → ℕ → Bool
crossing_at size xs ys edges a b u v k = crosses_edge size (listed xs ys edges) a b u v k
