-- `order_walks::Tested::any_back` meets its contract: whoever passes has the key that is walked.
use Rattle.std.proofs.Common.{◌∙◌, rules}
use Rattle.std.proofs.Math.Bool.{Bool-set}
use Rattle.std.proofs.Math.Logic.{∥∥₁_elim}
use Rattle.index.proofs.WalkLaws.{visited_filed}
use Rattle.order_walks.proofs.StepLaws.{back_meets}
use Rattle.order_walks.specs.Steps.{keeps_back}
use Rattle.order_walks.proofs.Tested.any_back.Goals as goal

pub returns : goal.returns
returns c =
    let a = c.args in
    let quads = a.self.now.quads.now in
    let order = a.self.now.presentation.order.now in
    c.any_visited.ensures (keeps_back quads order a.p a.j a.u a.v) (λ k b h p. search rules)
    ∙ ∥∥₁_elim a.self.now.indexed (Bool-set _ _) (λ I. visited_filed I (λ k e. rw c.step_key-r.ensures (back_meets quads order a.p a.j a.u a.v k e)))
