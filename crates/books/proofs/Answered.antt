-- What a placement says: its front edge is there, its corners are chosen as the reference chooses them, every check was passed, and there is room.
use Rattle.std.specs.Prelude.{ℕ, ◌≡◌, refl, Bool, true, false, not, cond, ◌≢◌, eqb, Float, Some, None}
use Rattle.std.proofs.Common.{◌∙◌, arith, eqb-true}
use Rattle.std.proofs.lemmas.Bool.{eqb-false, not-true}
use Rattle.laws.specs.Tests.{both}
use Rattle.outline.specs.declared.Point.{Point}
use Rattle.outline.specs.Outline.{Outline}
use Rattle.topology.specs.Links.{off}
use Rattle.front.specs.declared.Corner.{Corner}
use Rattle.front.specs.declared.Corner.TheVariants.{Reused, Fresh}
use Rattle.front.specs.State.{State, next_of, prev_of}
use Rattle.front.specs.Neighbours.{neighbour_of}
use Rattle.front.specs.Place.{id_c, id_d}
use Rattle.front.specs.Ready.{Chosen, Choice, Fits, room_fits}
use Rattle.paving.specs.Checks.{quad_fits}
use Rattle.paving.specs.Attempt.{is_reused, corner_at, corner_c, corner_d, attempt_quad, far}
use Rattle.paving.specs.Advance.{is_there}
use Rattle.paving.proofs.AttemptLaws.{quad_chosen}
use Rattle.paving.specs.Reach.{Placement}

-- ---- tests

-- the test that two numbers differ
differ : (x y : ℕ) → not (eqb x y) ≡ true → x ≢ y
differ x y e = eqb-false x y (not-true (eqb x y) e)

-- ---- the statement

-- the quad a, b, d, c was answered for the front edge a to b of s, and fits the places lent
pub record Answered (o : Outline) (size : Float) (s : State) (a b : ℕ) (c d : Corner) : Type 0 where
  pub choice : Choice s a b c d
  pub checks : quad_fits o size s a b c d ≡ true
  pub fits : Fits s a b c d

-- ---- the corners

pub chosen : (size : Float) (s : State) (other v : ℕ) (p : Point) (c : Corner) → corner_at size s other (neighbour_of v) p ≡ c → Chosen c other v
unfolding corner_at is_reused neighbour_of
chosen size s other v p c = by (eqb v off) refl c
  where
    at : v ≢ off → (t : Bool) → is_reused size s other v p ≡ t → (c : Corner) → cond t (Reused v) (Fresh p.x p.y) ≡ c → Chosen c other v
    at on true e (Reused id) h =
        let q : v ≡ id = cc in
        let away = differ v other (both (not (eqb v other)) _ e).0 in
        (q, (λ z. on (q ∙ z)), (λ z. away (q ∙ z)))
    at on true e (Fresh x y) h = tt
    at on false e (Reused id) h = absurd (let z : ◌≡◌ {A = ℕ} 0 1 = cc in omega arith)
    at on false e (Fresh x y) h = tt

    by : (b : Bool) → eqb v off ≡ b → (c : Corner) → corner_at size s other (cond b None (Some v)) p ≡ c → Chosen c other v
    by true e (Reused id) h = absurd (let z : ◌≡◌ {A = ℕ} 0 1 = cc in omega arith)
    by true e (Fresh x y) h = tt
    by false e c h = at (eqb-false v off e) (is_reused size s other v p) refl c h

-- ---- the theorems

-- an attempt on a front edge that is there answered a quad: its corners are chosen
pub choice : (o : Outline) (size : Float) (s : State) (a b : ℕ) (da db : Point) (c d : Corner) → is_there s a b ≡ true
    → attempt_quad o size s a b da db ≡ Some (far c d) → Choice s a b c d
unfolding corner_c corner_d quad_fits
choice o size s a b da db c d there answer =
    let A = quad_chosen o size s a b da db c d answer in
    let test = both (not (eqb b off)) _ there in
    record {
      edge = eqb-true (next_of s a) b test.1;
      node = differ b off test.0;
      chosen_c = chosen size s b (prev_of s a) _ c A.at_c;
      chosen_d = chosen size s a (next_of s b) _ d A.at_d;
      apart = differ (id_c s c) (id_d s c d) (both _ _ A.checks).0;
    }

pub answered : (o : Outline) (size : Float) (s : State) (a b : ℕ) (c d : Corner) → Placement o size s a b c d → Answered o size s a b c d
answered o size s a b c d P =
    record {
      choice = choice o size s a b P.da P.db c d P.there P.answered;
      checks = (quad_chosen o size s a b P.da P.db c d P.answered).checks;
      fits = room_fits s a b c d P.fits;
    }
