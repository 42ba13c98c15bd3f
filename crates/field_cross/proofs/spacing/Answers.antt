-- `field_cross::spacing` meets its contract. Assumes nothing.
use Rattle.std.specs.Prelude.{Float}
use Rattle.std.proofs.Common.{sym, ◌∙◌}
use Rattle.std.proofs.lemmas.Bool.{not-true, not-false}
use Rattle.laws.specs.Loop.{run_start, run_go, run_out, run_end}
use Rattle.field_cross.specs.Grid.{spacing}
use Rattle.field_cross.proofs.spacing.Goals as goal

pub loop-init : goal.loop-init
loop-init c = run_start _ (λ (last : Float). last) _ _

pub returns-then-not-too_many_nodes : goal.returns-then-not-too_many_nodes
unfolding spacing
returns-then-not-too_many_nodes c = run_out _ _ _ _ c.loop.invariant c.loop-test.true
    (rw (sym c.too_many_nodes.ensures ∙ not-true _ c.if-not-too_many_nodes.true-raw))

pub loop-preserved : goal.loop-preserved
loop-preserved c = run_go _ (λ (last : Float). last) _ _ c.loop.invariant c.loop-test.true
    (rw (sym c.too_many_nodes.ensures ∙ not-false _ c.if-not-too_many_nodes.false-raw))

pub returns : goal.returns
unfolding spacing
returns c = run_end _ _ _ c.loop.invariant c.loop-test.false
