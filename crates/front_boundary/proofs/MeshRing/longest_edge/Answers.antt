-- `front_boundary::MeshRing::longest_edge` meets its contract: the fold is `for_up` of `longest_turn`.
use Rattle.std.specs.Prelude.{◌≡◌, ℕ}
use Rattle.std.proofs.Common.{◌∙◌, arith, rules, tests}
use Rattle.std.proofs.lemmas.Iterator.{YieldsList-from_range}
use Rattle.std.proofs.lemmas.Iterator.Consumers.{fold_from_yields_List}
use Rattle.laws.proofs.Ranges.{fold_ranged}
use Rattle.front.specs.Sampling.{longest_turn, longest_edge}
use Rattle.front_sampled.proofs.Rings.{longest_in}
use Rattle.front_boundary.proofs.MeshRing.longest_edge.Goals as goal

pub returns : goal.returns
unfolding longest_edge
returns c =
    let r = c.args.self.now.ring in
    let m = c.args.self.now.mesh.now in
    let turn : ℕ → ℕ → ℕ = longest_turn m.xs.now m.ys.now r.base r.count r.turned in
    let is : c.fold.result ≡ longest_edge m.xs.now m.ys.now r.base r.count r.turned =
    fold_from_yields_List _ (λ best i. turn i best) _ c.fold.result c.fold.ensures.ran (YieldsList-from_range 0 r.count r.count (cc) (omega arith)) (λ a x b q k. search (rules, tests))
    ∙ fold_ranged turn 0 r.count in
    (is, rw is (longest_in _ _ _ _ _ c.args.self.now.sampled.some))
