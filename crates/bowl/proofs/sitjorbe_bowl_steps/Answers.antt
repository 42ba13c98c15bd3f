-- `bowl::sitjorbe_bowl_steps` meets its contract: `mesh_stored` and `mesh_refused`.
use mathlib.Core.Path.{sym, ◌∙◌, ap}
use borrow.Author.Rules.{rules}
use Rattle.front.specs.declared.Counts.{Counts}
use Rattle.front.specs.State.{State, counted}
use Rattle.hand_mesh_check.specs.Check.{lent_state}
use Rattle.bowl.specs.declared.BowlStepsAnswer.{BowlStepsAnswer}
use Rattle.bowl.proofs.GivenLaws.{nodes_within, given_passes, mesh_stored, mesh_refused}
use Rattle.bowl.proofs.sitjorbe_bowl_steps.Goals as goal
use Rattle.bowl.proofs.sitjorbe_bowl_steps.Goals.{Start}

abbrev counts_of : Start → Counts
counts_of c = counted c.args.node_count c.args.quad_count c.args.edge_count c.args.front_count

-- the mesh as lent
abbrev lent : Start → State
lent c =
    lent_state c.args.xs.now c.args.ys.now c.args.next.now c.args.prev.now c.args.origins.now c.args.quads.now
    c.args.edges.now (counts_of c)

pub store_steps-requires : goal.store_steps-requires
store_steps-requires c =
    let given = given_passes (lent (goal.at.store_steps-requires c).Start) _ (ap (λ (r : BowlStepsAnswer). r.refusal) (sym c.steps_answer-r.ensures) ∙ c.if-given.true) in (
      nodes_within c.args.xs.now c.args.ys.now c.args.next.now c.args.prev.now c.args.origins.now
          c.args.quads.now c.args.edges.now (counts_of (goal.at.store_steps-requires c).Start) (λ i h. search (rules)) (λ i h. search (rules)) given.0,
      given.1,
    )

pub returns-then-given : goal.returns-then-given
returns-then-given c =
    mesh_stored (lent (goal.at.returns-then-given c).Start) _ _ c.steps_answer-r.ensures c.if-given.true _ c.store_steps.ensures

pub returns-else-given : goal.returns-else-given
returns-else-given c =
    mesh_refused (lent (goal.at.returns-else-given c).Start) _ _ c.steps_answer-r.ensures c.if-given.false
