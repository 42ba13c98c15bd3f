-- Every node of a run is a double within 1,001 both ways: `run_bounded`. Assumes nothing.
use Rattle.std.specs.Prelude.{◌≡◌, ℕ, Float}
use Rattle.std.proofs.Common.{le_of_suc-le-suc, arith}
use Rattle.outline.specs.Outline.{Outline, outline_refusal}
use Rattle.outline.specs.Accepted.{OutlineFits}
use Rattle.front.specs.State.{State}
use Rattle.front.specs.Sampling.{front_refusal, from_boundary}
use Rattle.paving.specs.Reach.{Reaches}
use Rattle.front_sampled.proofs.Outlines.{outline_three}
use Rattle.front_sampled.proofs.Begun.{begun}
use Rattle.front_sampled.proofs.PointsBase.{OfSamples}
use Rattle.front_sampled.proofs.Points.{sampled_all}
use Rattle.books_bounded.proofs.Point.{Bounded}
use Rattle.books_bounded.proofs.Sampled.{sample_bounded, mean_bounded}
use Rattle.books_bounded.proofs.Nodes.{AllNodes}
use Rattle.books_bounded.proofs.Placed.{reaches_bounded}

module _ (o : Outline) (size : Float) (fits : OutlineFits o) (taken : outline_refusal o ≡ 0) where
  samples : OfSamples Bounded o size
  samples = record { cuts = λ k i j h. sample_bounded o size fits taken k i j (le_of_suc-le-suc h); midpoints = mean_bounded }

  -- every node sampled
  pub start_bounded : (lent : State) → front_refusal o size lent ≡ 0 → AllNodes Bounded (from_boundary o size lent)
  start_bounded lent none id h =
      let three = outline_three o taken in
      sampled_all Bounded o size lent samples three none id (omega (arith, (begun o size lent three none).node_count_of))

  -- every node of every state that a run from there goes through
  pub run_bounded : {k : ℕ} {t : State} (lent : State) → front_refusal o size lent ≡ 0 → Reaches o size (from_boundary o size lent) k t
      → AllNodes Bounded t
  run_bounded lent none r = reaches_bounded o fits taken (start_bounded lent none) r
