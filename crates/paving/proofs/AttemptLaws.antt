-- What an attempt that answers a quad has: the corners that the reference chooses, and every check passed. Assumes nothing.
use Rattle.std.specs.Prelude.{◌≡◌, refl, Bool, true, false, ℕ, Float, Some}
use Rattle.std.proofs.Common.{ap, arith}
use Rattle.outline.specs.declared.Point.{Point}
use Rattle.outline.specs.Outline.{Outline}
use Rattle.front.specs.declared.Corner.{Corner}
use Rattle.front.specs.State.{State}
use Rattle.front.specs.declared.FarCorners.{FarCorners}
use Rattle.paving.specs.Checks.{quad_fits}
use Rattle.paving.specs.Attempt.{corner_c, corner_d, quad_if, attempt_quad, far}

-- two quads are the same where their far corners are
pub far_same : {c d x y : Corner} → Some (far c d) ≡ Some (far x y) → (c ≡ x) × (d ≡ y)
far_same {c} {d} {x} {y} e =
    let z : far c d ≡ far x y = cc in
    (ap (λ (q : FarCorners). q.c) z, ap (λ (q : FarCorners). q.d) z)

pub record QuadChosen (o : Outline) (size : Float) (s : State) (a b : ℕ) (da db : Point) (c d : Corner) : Type 0 where
  pub at_c : corner_c size s a b da ≡ c
  pub at_d : corner_d size s a b db ≡ d
  pub checks : quad_fits o size s a b c d ≡ true

pub quad_chosen : (o : Outline) (size : Float) (s : State) (a b : ℕ) (da db : Point) (c d : Corner)
    → attempt_quad o size s a b da db ≡ Some (far c d) → QuadChosen o size s a b da db c d
unfolding attempt_quad
quad_chosen o size s a b da db c d = by (quad_fits o size s a b (corner_c size s a b da) (corner_d size s a b db)) refl
  where
    by : (t : Bool) → quad_fits o size s a b (corner_c size s a b da) (corner_d size s a b db) ≡ t
        → quad_if t (corner_c size s a b da) (corner_d size s a b db) ≡ Some (far c d) → QuadChosen o size s a b da db c d
    by true e h =
        let q = far_same h in
        record { at_c = q.0; at_d = q.1; checks = rw (q.0, q.1) at e }
    by false e h = absurd (let z : ◌≡◌ {A = ℕ} 0 1 = cc in omega arith)
