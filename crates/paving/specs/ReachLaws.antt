-- The state that `advance` leaves is reached from the one it began with. Assumes nothing.
use Rattle.std.specs.Prelude.{◌≡◌, Bool, cond, ℕ, suc, min, leb, Float, Option, Some, None}
use Rattle.std.proofs.Math.Path.{refl}
use Rattle.std.proofs.Common.{subst}
use Rattle.std.proofs.Math.Bool.{true, false}
use Rattle.std.proofs.Math.ListN.{get_or}
use Rattle.std.specs.Float.Ieee.{le}
use Rattle.laws.specs.Loop.{go, out, Kept, run_keeps}
use Rattle.numbers.specs.Float.{◌⊖◌, tolerance}
use Rattle.outline.specs.declared.Point.{Point}
use Rattle.outline.specs.Outline.{Outline}
use Rattle.exact.specs.Corner.{norm}
use Rattle.field_direction.specs.Record.{FieldRecord}
use Rattle.field_direction.specs.Direction.{nearest_direction}
use Rattle.front.specs.declared.Corner.{Corner}
use Rattle.front.specs.State.{State, node}
use Rattle.front.specs.Place.{place, is_full}
use Rattle.front.specs.declared.FarCorners.{FarCorners}
use Rattle.paving.specs.declared.End.TheVariants.{Still, Cap, Full}
use Rattle.paving.specs.Attempt.{attempt_quad, or_else, normal_of, try_toward, try_edge, far}
use Rattle.paving.specs.Advance.{EndedPaving, paved, Passing, passing, Passed, most_quads, after_quad, settle, is_there, pass_turn, with_snapshot}
use Rattle.paving.specs.Advance.{after_pass, pass, most_passes, passes_turn, all_used, advance}
use Rattle.paving.specs.Reach.{Reaches, begin, snapshot, placed}

-- ---- what a try answers is an attempt's quad

-- the quad of an answer was answered by an attempt with some directions
pub record Attempted (o : Outline) (size : Float) (s : State) (a b : ℕ) (c d : Corner) : Type 0 where
  pub da : Point
  pub db : Point
  pub answered : attempt_quad o size s a b da db ≡ Some (far c d)

abbrev Answers : Outline → Float → State → ℕ → ℕ → Option FarCorners → Type 0
Answers o size s a b None = Unit {0}
Answers o size s a b (Some q) = Attempted o size s a b q.c q.d

attempt_answers : (o : Outline) (size : Float) (s : State) (a b : ℕ) (da db : Point) → Answers o size s a b (attempt_quad o size s a b da db)
attempt_answers o size s a b da db = by (attempt_quad o size s a b da db) refl
  where
    by : (t : Option FarCorners) → attempt_quad o size s a b da db ≡ t → Answers o size s a b t
    by None e = tt
    by (Some q) e = record { da = da; db = db; answered = e }

or_answers : (o : Outline) (size : Float) (s : State) (a b : ℕ) (t u : Option FarCorners) → Answers o size s a b t → Answers o size s a b u
    → Answers o size s a b (or_else t u)
or_answers o size s a b None u p q = q
or_answers o size s a b (Some w) u p q = p

try_answers : (o : Outline) (size : Float) (field : FieldRecord) (s : State) (a b : ℕ) → Answers o size s a b (try_edge o size field s a b)
unfolding try_edge try_toward
try_answers o size field s a b =
    let bx = (node s b).x ⊖ (node s a).x in
    let by' = (node s b).y ⊖ (node s a).y in
    let normal = normal_of bx by' (norm bx by') in
    let da = nearest_direction field (node s a) normal in
    let db = nearest_direction field (node s b) normal in
    choose (le (norm bx by') tolerance) _
    (or_answers o size s a b (attempt_quad o size s a b da db) _ (attempt_answers o size s a b da db) (attempt_answers o size s a b normal normal))
  where
    choose : (short : Bool) (t : Option FarCorners) → Answers o size s a b t → Answers o size s a b (cond short None t)
    choose true t p = tt
    choose false t p = p

-- the quad that an edge answers was answered by an attempt
pub tried : (o : Outline) (size : Float) (field : FieldRecord) (s : State) (a b : ℕ) (c d : Corner) → try_edge o size field s a b ≡ Some (far c d)
    → Attempted o size s a b c d
tried o size field s a b c d e = subst (Answers o size s a b) e (try_answers o size field s a b)

-- ---- the states

-- t is reached from s
pub record Reached (o : Outline) (size : Float) (s t : State) : Type 0 where
  pub quads : ℕ
  pub by : Reaches o size s quads t

module _ (o : Outline) (size : Float) (s : State) where
  abbrev pub AtPassing : Passing → Type 0
  AtPassing p = Reached o size s p.state

  abbrev pub AtEnd : EndedPaving → Type 0
  AtEnd e = Reached o size s e.state

  abbrev pub AtPassed : Passed → Type 0
  AtPassed p = Kept (Reached o size s) AtEnd p

  -- after a quad: at the cap the run is out, else the pass goes on
  quad_kept : (t : State) → Reached o size s t → Kept AtPassing AtPassed (after_quad t)
  unfolding after_quad
  quad_kept t r = choose (leb most_quads t.counts.quads)
    where
      choose : (b : Bool) → Kept AtPassing AtPassed (cond b (out (out (paved t Cap))) (go (passing t true)))
      choose true = r
      choose false = r

  settle_kept : (p : Passing) (a b : ℕ) (t : Option FarCorners) → is_there p.state a b ≡ true → Answers o size p.state a b t → AtPassing p
      → Kept AtPassing AtPassed (settle a b t p)
  settle_kept p a b None there h r = r
  settle_kept p a b (Some q) there h r = choose (is_full p.state a b q.c q.d) refl
    where
      more : is_full p.state a b q.c q.d ≡ false → Reached o size s (place a b q.c q.d p.state)
      more fits = record { quads = suc r.quads; by = placed r.by (record { there = there; da = h.da; db = h.db; answered = h.answered; fits = fits }) }

      choose : (full : Bool) → is_full p.state a b q.c q.d ≡ full
          → Kept AtPassing AtPassed (cond full (out (out (paved p.state Full))) (after_quad (place a b q.c q.d p.state)))
      choose true e = r
      choose false e = quad_kept (place a b q.c q.d p.state) (more e)

  pub turn_kept : (field : FieldRecord) (a : ℕ) (p : Passing) → AtPassing p → Kept AtPassing AtPassed (pass_turn o size field a p)
  unfolding pass_turn
  turn_kept field a p r =
      let b = get_or p.state.snapshot a 0 in
      choose b (is_there p.state a b) refl
    where
      choose : (b : ℕ) (there : Bool) → is_there p.state a b ≡ there
          → Kept AtPassing AtPassed (cond there (settle a b (try_edge o size field p.state a b) p) (go p))
      choose b true e = settle_kept p a b (try_edge o size field p.state a b) e (try_answers o size field p.state a b) r
      choose b false e = r

  after_kept : (p : Passing) → AtPassing p → AtPassed (after_pass p)
  after_kept p r = choose p.placed
    where
      choose : (b : Bool) → AtPassed (cond b (go p.state) (out (paved p.state Still)))
      choose true = r
      choose false = r

  pub pass_kept : (field : FieldRecord) (t : State) → Reached o size s t → AtPassed (pass o size field t)
  unfolding pass
  pass_kept field t r =
      run_keeps AtPassing AtPassed t.counts.nodes (pass_turn o size field) after_pass (passing (with_snapshot t) false)
      (record { quads = r.quads; by = snapshot r.by }) (λ a p h q. turn_kept field a p q) after_kept

  -- the state that `advance` leaves is reached
  pub advance_reaches : (field : FieldRecord) (n : ℕ) → Reached o size s (advance o size field n s).state
  unfolding advance
  advance_reaches field n =
      run_keeps (Reached o size s) AtEnd (min n most_passes) (passes_turn o size field) all_used s
      (record { quads = 0; by = begin }) (λ i t h r. pass_kept field t r) (λ t r. r)
