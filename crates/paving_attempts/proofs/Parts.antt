-- An attempt by its parts in the code's order: a new corner, the far corners, and a neighbour taken apart. Assumes nothing.
use Rattle.std.proofs.Math.Path.{◌≡◌, refl}
use Rattle.std.proofs.Common.{ap, ◌∙◌, eq-eqb, ne_eqb}
use Rattle.std.specs.Prelude.{Bool, not, ◌&&◌, ◌≢◌, ℕ, eqb, Float, Option, Some, None}
use Rattle.std.proofs.Math.Bool.{true, false}
use Rattle.laws.proofs.Chain.{passes, second_fails}
use Rattle.numbers.specs.Float.{is_finite}
use Rattle.outline.specs.declared.Point.{Point}
use Rattle.outline.specs.Outline.{Outline, point}
use Rattle.outline.specs.Queries.{contains}
use Rattle.front.specs.declared.Corner.{Corner}
use Rattle.front.specs.State.{State, node}
use Rattle.front.specs.Neighbours.{next_at, prev_at, is_at}
use Rattle.front.specs.Place.{id_c, id_d}
use Rattle.paving.specs.Checks.{too_close, node_ok, corners_apart}
use Rattle.paving.specs.Attempt.{corner_at, ideal, corner_c, corner_d, quad_if}
use Rattle.paving_attempts.specs.Seen.{seen_points}
use Rattle.paving_attempts.specs.FarCorners.{far_corners}
use Rattle.paving_attempts.proofs.SeenLaws.{corner_at_seen}

-- ---- a new corner

-- too close to a node: refused, inside or not
pub close_refused : (o : Outline) (size : Float) (s : State) (x y : Float) → is_finite x ≡ true → is_finite y ≡ true
    → too_close size s (point x y) ≡ true → false ≡ node_ok o size s (point x y)
unfolding node_ok
close_refused o size s x y at_x at_y close = passes at_x (passes at_y (second_fails (contains o (point x y)) (ap not close)))

-- ---- the far corners

module _ (s : State) (size : Float) (a b : ℕ) (da db : Point) where
  -- chosen as c and d, whose numbers are u and v, and tested
  pub far_is : (fit : Bool) {c d : Corner} {u v : ℕ}
      → c ≡ corner_at size (seen_points s.xs s.ys) b (prev_at s a) (ideal size (node s a) da)
      → d ≡ corner_at size (seen_points s.xs s.ys) a (next_at s b) (ideal size (node s b) db)
      → u ≡ id_c s c → v ≡ id_d s c d → fit ≡ not (eqb u v) && (corners_apart size c d && not (is_at (next_at s u) v))
      → quad_if fit c d ≡ far_corners size s a b da db
  unfolding far_corners corner_c corner_d
  far_is fit {c} {d} ec ed eu ev e =
      let at_c = ec ∙ corner_at_seen s size b (prev_at s a) (ideal size (node s a) da) in
      let at_d = ed ∙ corner_at_seen s size a (next_at s b) (ideal size (node s b) db) in
      rw (e, eu, ev, at_c, at_d)

-- ---- a neighbour n that was taken apart, and the node v

pub none_follows : {n : Option ℕ} (v : ℕ) → n ≡ None → true ≡ not (is_at n v)
none_follows v e = rw e refl

pub that_follows : {n : Option ℕ} {w : ℕ} (v : ℕ) → n ≡ Some w → w ≡ v → false ≡ not (is_at n v)
that_follows {w = w} v e q = rw (e, eq-eqb w v q) refl

pub other_follows : {n : Option ℕ} {w : ℕ} (v : ℕ) → n ≡ Some w → w ≢ v → true ≡ not (is_at n v)
other_follows {w = w} v e q = rw (e, ne_eqb w v q) refl
