-- An attempt by the far corners that were chosen: it keeps those that pass the other checks. Assumes nothing.
use Rattle.std.proofs.Common.{◌≡◌, ℕ, Bool, not, ◌&&◌, refl, sym}
use Rattle.std.specs.Prelude.{Float, Option, Some, None}
use Rattle.laws.specs.Loop.{any_up}
use Rattle.outline.specs.declared.Point.{Point}
use Rattle.outline.specs.Outline.{Outline}
use Rattle.outline.specs.Queries.{contains}
use Rattle.geometry.specs.Plane.{convex_ccw, centroid}
use Rattle.front.specs.declared.Corner.{Corner}
use Rattle.front.specs.State.{State}
use Rattle.front.specs.Place.{id_c, id_d}
use Rattle.front.specs.declared.FarCorners.{FarCorners}
use Rattle.paving_indexed.specs.Rects.{inside_at}
use Rattle.paving.specs.Checks.{corner_free, node_inside, edges_free, corners_of}
use Rattle.paving.specs.Attempt.{quad_if, attempt_quad}
use Rattle.paving_attempts.specs.Seen.{seen_nodes, seen_points, seen_edges, seen_links}
use Rattle.paving_attempts.specs.FarCorners.{far_corners}
use Rattle.paving_attempts.proofs.AttemptLaws.{attempt_none, attempt_is}

module _ (o : Outline) (size : Float) (s : State) (a b : ℕ) where
  -- the checks after those of the far corners, each on what it is lent
  abbrev pub passes_rest : Corner → Corner → Bool
  passes_rest c d =
      let p = corners_of (seen_points s.xs s.ys) a b c d in
      let seen = seen_nodes s.xs s.ys s.counts in
      corner_free o size seen c && (corner_free o size seen d && (convex_ccw p && (contains o (centroid p)
      && (not (any_up s.counts.nodes (inside_at size s.xs s.ys p a b (id_d s c d) (id_c s c))) && edges_free size (seen_edges s.xs s.ys s.edges s.counts) a b c d))))

  abbrev pub kept : Option FarCorners → Option FarCorners
  kept None = None
  kept (Some q) = quad_if (passes_rest q.c q.d) q.c q.d

  module _ (da db : Point) where
    kept_of : (t : Option FarCorners) → t ≡ far_corners size (seen_links s.xs s.ys s.next s.prev s.counts.nodes) a b da db
        → kept t ≡ attempt_quad o size s a b da db
    unfolding node_inside
    kept_of None e = attempt_none s o size a b da db e
    kept_of (Some q) e = attempt_is s o size a b da db (passes_rest q.c q.d) e refl refl refl refl

    pub attempt_kept : attempt_quad o size s a b da db
        ≡ kept (far_corners size (seen_links s.xs s.ys s.next s.prev s.counts.nodes) a b da db)
    attempt_kept = sym (kept_of _ refl)
