-- Every state of a sequence is reached from a sampled outline, by placings of the reference. Assumes nothing.
use Rattle.std.specs.Prelude.{Float}
use mathlib.Core.List.{[]}
use Prim.Native.Nat.{ℕ, suc}
use Rattle.outline.specs.Outline.{Outline}
use Rattle.front.specs.State.{State}
use Rattle.front.specs.Sampling.{from_boundary}
use Rattle.paving.specs.Reach.{Reaches, begin, snapshot, placed}
use Rattle.paving.specs.ReachLaws.{Reached}
use Rattle.books_hold.specs.Runs.{AcceptedRun}

-- ---- passes, after whatever came before

pub reached_then : (o : Outline) (size : Float) (s t : State) → Reached o size s t → {k : ℕ} {u : State} → Reaches o size t k u → Reached o size s u
reached_then o size s t R begin = R
reached_then o size s t R (snapshot r) = let Q = reached_then o size s t R r in record { quads = Q.quads; by = snapshot Q.by }
reached_then o size s t R (placed r P) = let Q = reached_then o size s t R r in record { quads = suc Q.quads; by = placed Q.by P }

-- ---- another list

-- t is reached from the sampled outline, in some lists
pub record FromOutline (o : Outline) (size : Float) (t : State) : Type 0 where
  pub lent : State
  pub accepted : AcceptedRun o size lent
  pub reached : Reached o size (from_boundary o size lent) t

pub from_outline : (o : Outline) (size : Float) (lent : State) → AcceptedRun o size lent → FromOutline o size (from_boundary o size lent)
from_outline o size lent A = record { lent = lent; accepted = A; reached = record { quads = 0; by = begin } }
