-- An attempt by its parts in the code's order, and by what the code has at hand: the far corners, and then the other checks. Assumes nothing.
use Rattle.std.proofs.Math.Path.{◌≡◌, refl}
use Rattle.std.proofs.Common.{◌∙◌, arith}
use Rattle.std.specs.Prelude.{Bool, not, ◌&&◌, ℕ, eqb, Float, Option, Some, None}
use Rattle.std.proofs.Math.Bool.{true, false}
use Rattle.laws.proofs.Chain.{exchange}
use Rattle.outline.specs.declared.Point.{Point}
use Rattle.outline.specs.Outline.{Outline}
use Rattle.outline.specs.Queries.{contains}
use Rattle.geometry.specs.declared.Corners.{Corners}
use Rattle.geometry.specs.Plane.{convex_ccw, centroid}
use Rattle.front.specs.declared.Corner.{Corner}
use Rattle.front.specs.State.{State, node}
use Rattle.front.specs.Neighbours.{next_at, prev_at, is_at}
use Rattle.front.specs.Place.{id_c, id_d}
use Rattle.front.specs.declared.FarCorners.{FarCorners}
use Rattle.paving.specs.Checks.{corner_free, corners_apart, node_inside, edges_free, corners_of, quad_ok, quad_fits}
use Rattle.paving.specs.Attempt.{ideal, corner_c, corner_d, quad_if, attempt_quad, far}
use Rattle.paving.proofs.AttemptLaws.{far_same}
use Rattle.paving_attempts.specs.Seen.{seen_nodes, seen_points, seen_edges, seen_links}
use Rattle.paving_attempts.specs.FarCorners.{pair_fits, far_corners}
use Rattle.paving_attempts.proofs.SeenLaws.{corners_seen, corner_free_seen, node_inside_seen, edges_free_seen, corner_same}

-- ---- the far corners

-- they depend on no more of a state than points and links
far_seen : (s : State) (size : Float) (a b : ℕ) (da db : Point)
    → far_corners size (seen_links s.xs s.ys s.next s.prev s.counts.nodes) a b da db ≡ far_corners size s a b da db
unfolding far_corners corner_c corner_d
far_seen s size a b da db =
    let t = seen_links s.xs s.ys s.next s.prev s.counts.nodes in
    rw (
      corner_same t s size b (prev_at s a) (ideal size (node s a) da) refl,
      corner_same t s size a (next_at s b) (ideal size (node s b) db) refl,
    )

-- ---- the attempt

-- every check, those of the far corners first
fits_by_parts : (s : State) (o : Outline) (size : Float) (a b : ℕ) (c d : Corner)
    → quad_fits o size s a b c d ≡ pair_fits size s c d && (corner_free o size s c && (corner_free o size s d && quad_ok o size s a b c d))
unfolding quad_fits
fits_by_parts s o size a b c d =
    by (not (eqb (id_c s c) (id_d s c d))) (corners_apart size c d) (not (is_at (next_at s (id_c s c)) (id_d s c d))) (corner_free o size s c) (corner_free o size s d)
    (quad_ok o size s a b c d)
  where
    by : (other apart new free_c free_d ok : Bool)
        → other && (free_c && (free_d && (apart && (new && ok)))) ≡ (other && (apart && new)) && (free_c && (free_d && ok))
    by false apart new free_c free_d ok = refl
    by true true true free_c free_d ok = refl
    by true true false free_c free_d ok = rw (exchange free_d false ok, exchange free_c false (free_d && ok)) refl
    by true false new free_c free_d ok = rw (exchange free_d false (new && ok), exchange free_c false (free_d && (new && ok))) refl

module _ (s : State) (o : Outline) (size : Float) (a b : ℕ) (da db : Point) where
  abbrev Far : Option FarCorners → Type 0
  Far t = t ≡ far_corners size (seen_links s.xs s.ys s.next s.prev s.counts.nodes) a b da db

  -- what the far corners leave of an attempt
  by_far : attempt_quad o size s a b da db
      ≡ quad_if (pair_fits size s (corner_c size s a b da) (corner_d size s a b db)
      && (corner_free o size s (corner_c size s a b da) && (corner_free o size s (corner_d size s a b db)
      && quad_ok o size s a b (corner_c size s a b da) (corner_d size s a b db)))) (corner_c size s a b da) (corner_d size s a b db)
  unfolding attempt_quad
  by_far = rw (fits_by_parts s o size a b (corner_c size s a b da) (corner_d size s a b db))

  far_whole : {t : Option FarCorners} → Far t
      → t ≡ quad_if (pair_fits size s (corner_c size s a b da) (corner_d size s a b db)) (corner_c size s a b da) (corner_d size s a b db)
  unfolding far_corners
  far_whole e = e ∙ far_seen s size a b da db

  -- no far corners: no quad
  pub attempt_none : Far None → None ≡ attempt_quad o size s a b da db
  attempt_none e =
      rw by_far
      (by (pair_fits size s (corner_c size s a b da) (corner_d size s a b db)) _ (corner_c size s a b da) (corner_d size s a b db) (far_whole e))
    where
      by : (fit rest : Bool) (c d : Corner) → None ≡ quad_if fit c d → None ≡ quad_if (fit && rest) c d
      by true rest c d h = absurd (let z : ◌≡◌ {A = ℕ} 0 1 = cc in omega arith)
      by false rest c d h = refl

  -- the far corners c and d: the quad where the other checks pass
  pub attempt_is : (fits : Bool) {c d : Corner} {p : Corners} {u v : ℕ} → Far (Some (far c d)) → p ≡ corners_of (seen_points s.xs s.ys) a b c d
      → u ≡ id_c s c → v ≡ id_d s c d
      → fits ≡ corner_free o size (seen_nodes s.xs s.ys s.counts) c && (corner_free o size (seen_nodes s.xs s.ys s.counts) d
      && (convex_ccw p && (contains o (centroid p) && (not (node_inside size (seen_nodes s.xs s.ys s.counts) p a b v u)
      && edges_free size (seen_edges s.xs s.ys s.edges s.counts) a b c d))))
      → quad_if fits c d ≡ attempt_quad o size s a b da db
  unfolding quad_ok
  attempt_is fits {c} {d} chosen ep eu ev e =
      rw by_far
      (by (pair_fits size s (corner_c size s a b da) (corner_d size s a b db)) (corner_c size s a b da) (corner_d size s a b db) (far_whole chosen)
      (e ∙ rw (
        ep,
        eu,
        ev,
        corners_seen s a b c d,
        corner_free_seen s o size c,
        corner_free_seen s o size d,
        node_inside_seen s size (corners_of s a b c d) a b (id_d s c d) (id_c s c),
        edges_free_seen s size a b c d,
      ) refl))
    where
      by : (fit : Bool) (x y : Corner) → Some (far c d) ≡ quad_if fit x y
          → fits ≡ corner_free o size s c && (corner_free o size s d && quad_ok o size s a b c d)
          → quad_if fits c d ≡ quad_if (fit && (corner_free o size s x && (corner_free o size s y && quad_ok o size s a b x y))) x y
      by true x y h r =
          let q = far_same h in
          rw (← q.0, ← q.1, r) refl
      by false x y h r = absurd (let z : ◌≡◌ {A = ℕ} 0 1 = cc in omega arith)
