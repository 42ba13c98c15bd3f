-- The four ends of a run of passes, each described exactly by the state that is left. Definitions only.
use Rattle.std.specs.Prelude.{◌≡◌, true, ◌≢◌, ℕ, suc, min, ◌<◌, Float, Some, None}
use Rattle.laws.specs.Loop.{go, out}
use Rattle.outline.specs.Outline.{Outline}
use Rattle.topology.specs.Links.{off}
use Rattle.field_direction.specs.Record.{FieldRecord}
use Rattle.front.specs.declared.Corner.{Corner}
use Rattle.front.specs.State.{State, next_of}
use Rattle.front.specs.Place.{is_full}
use Rattle.paving.specs.declared.End.{End}
use Rattle.paving.specs.declared.End.TheVariants.{Still, Passes, Cap, Full}
use Rattle.paving.specs.Attempt.{try_edge, far}
use Rattle.paving.specs.Advance.{paved, most_quads, most_passes, is_there, pass}

module _ (o : Outline) (size : Float) (field : FieldRecord) where
  -- still: no front edge of t, tried in t, answers a quad
  pub record StillAt (t : State) : Type 0 where
    pub below : t.counts.quads < most_quads
    pub nothing : (a : ℕ) → next_of t a ≢ off → try_edge o size field t a (next_of t a) ≡ None

  -- full: t is the state just before the reference's next quad, which needs a node, quad or distinct edge beyond those lent
  pub record FullAt (t : State) : Type 0 where
    pub below : t.counts.quads < most_quads
    pub a : ℕ
    pub b : ℕ
    pub c : Corner
    pub d : Corner
    pub there : is_there t a b ≡ true
    pub answered : try_edge o size field t a b ≡ Some (far c d)
    pub full : is_full t a b c d ≡ true

  -- n passes lead from s to t, and each placed something
  pub data PassesLead (s : State) : ℕ → State → Type 0 where
    begin : PassesLead s 0 s
    onward : {n : ℕ} {t u : State} → PassesLead s n t → pass o size field t ≡ go u → t.counts.quads < u.counts.quads
        → PassesLead s (suc n) u

  -- the pass that ended the run so; fewer passes than are allowed lead to where it began
  pub record LastPass (n : ℕ) (s t : State) (e : End) : Type 0 where
    pub before : ℕ
    pub allowed : before < min n most_passes
    pub began : State
    pub passes : PassesLead s before began
    pub left : pass o size field began ≡ out (paved t e)

  -- passes: the allowed number is used, and the last placed something, or it is 0
  pub record UsedUp (n : ℕ) (s t : State) : Type 0 where
    pub below : t.counts.quads < most_quads
    pub passes : PassesLead s (min n most_passes) t

  -- a run from s that was allowed n passes left t and ended so
  abbrev pub Ended : ℕ → State → State → End → Type 0
  Ended n s t Still = StillAt t × LastPass n s t Still
  Ended n s t Passes = UsedUp n s t
  Ended n s t Cap = (t.counts.quads ≡ most_quads) × LastPass n s t Cap
  Ended n s t Full = FullAt t × LastPass n s t Full
