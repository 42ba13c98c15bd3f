-- Keys as numbers, and their rectangles. Definitions only.
use Rattle.std.specs.Prelude.{cond, ℕ, suc, ◌+◌, ◌-◌, min, max, Float, ℤ, pos, negsuc}
use Rattle.outline.specs.declared.Point.{Point}
use Rattle.geometry.specs.Keys.{key_of, edge_bucket, spans_kept}
use Rattle.geometry.specs.declared.Key.{Key}
use Rattle.index_pools.specs.declared.Rect.{Rect}
use Rattle.index_pools.specs.Pool.{InRect}

-- A key from -2^20 to 2^20, moved up by 2^20 + 2; a key beyond is taken for the nearest of these. So keys stay in order, and no two move apart.
unfoldable pub shifted : ℤ → ℕ
shifted (pos n) = 1048578 + min n 1048576
shifted (negsuc n) = 1048578 - min (suc n) 1048576

-- the rectangle with the opposite corners k and l, either first
unfoldable pub rect_of : Key → Key → Rect
rect_of k l =
    record {
      left = min (shifted k.i) (shifted l.i);
      right = max (shifted k.i) (shifted l.i);
      low = min (shifted k.j) (shifted l.j);
      high = max (shifted k.j) (shifted l.j);
    }

-- the key alone
unfoldable pub rect_at : Key → Rect
rect_at k = record { left = shifted k.i; right = shifted k.i; low = shifted k.j; high = shifted k.j }

-- two keys each way
unfoldable pub rect_around : Key → Rect
rect_around k =
    record { left = shifted k.i - 2; right = shifted k.i + 2; low = shifted k.j - 2; high = shifted k.j + 2 }

-- no key
unfoldable pub rect_empty : Rect
rect_empty = record { left = 1; right = 0; low = 1; high = 0 }

-- under which keys a node is filed: its own
unfoldable pub node_rect : Float → Point → Rect
node_rect size p = rect_at (key_of size p)

-- and the edge c to d: those of its key rectangle, or none where its spans are above 4,096
unfoldable pub edge_rect : Float → Point → Point → Rect
edge_rect size c d =
    let m = key_of (edge_bucket size) c in
    let n = key_of (edge_bucket size) d in
    cond (spans_kept m n) (rect_of m n) rect_empty

-- two rectangles have a key in common
pub record Meets (r s : Rect) : Type 0 where
  pub i : ℕ
  pub j : ℕ
  pub first : InRect r i j
  pub second : InRect s i j
