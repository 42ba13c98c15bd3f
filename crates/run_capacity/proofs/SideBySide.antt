-- Two runs of passes side by side, the second in lists of no fewer places: they go in step, until both end alike or the first is full.
use Rattle.std.specs.Prelude.{ℕ, Float}
use Rattle.std.proofs.Math.Path.{◌≡◌}
use Rattle.laws.specs.Loop.{go, out}
use Rattle.outline.specs.Outline.{Outline}
use Rattle.field_direction.specs.Record.{FieldRecord}
use Rattle.front.specs.State.{State}
use Rattle.paving.specs.declared.End.TheVariants.{Full}
use Rattle.paving.specs.Advance.{EndedPaving, Passed}
use Rattle.paving.specs.ReachLaws.{Reached}
use Rattle.run_capacity.proofs.Twins.{Twins}

-- the state of a pass, and of a run
abbrev pub passed_state : Passed → State
passed_state (go u) = u
passed_state (out r) = r.state

module _ (o : Outline) (size : Float) (field : FieldRecord) (n : ℕ) where
  -- ---- definitions

  -- the first run stopped at u; the second was at a state like u, and has gone on to w
  pub record Behind (u w : State) : Type 0 where
    pub there : State
    pub twins : Twins n u there
    pub onward : Reached o size there w

  -- between passes
  pub data Agree : Passed → Passed → Type 0 where
    both : {u v : State} → Twins n u v → Agree (go u) (go v)
    ended : {r e : EndedPaving} → e.end ≡ r.end → Twins n r.state e.state → Agree (out r) (out e)
    full : {r : EndedPaving} {y : Passed} → r.end ≡ Full → Behind r.state (passed_state y) → Agree (out r) y

  -- ---- a run

  -- two runs of at most k passes
  pub data RunsAgree (r e : EndedPaving) : Type 0 where
    same : e.end ≡ r.end → Twins n r.state e.state → RunsAgree r e
    full : r.end ≡ Full → Behind r.state e.state → RunsAgree r e
