-- `front_boundary::MeshRing::signed_area` meets its contract: the fold is `for_up` of `area_turn`.
use Rattle.std.specs.Prelude.{ℕ, Float}
use Rattle.std.proofs.Common.{◌∙◌, ap, arith, rules, tests}
use Rattle.std.proofs.lemmas.Iterator.{YieldsList-from_range}
use Rattle.std.proofs.lemmas.Iterator.Consumers.{fold_from_yields_List}
use Rattle.laws.proofs.Ranges.{fold_ranged}
use Rattle.numbers.specs.Float.{◌⊗◌, half_f, zero_f}
use Rattle.front.specs.Sampling.{area_turn, signed_area}
use Rattle.front_boundary.proofs.MeshRing.signed_area.Goals as goal

pub returns : goal.returns
unfolding signed_area
returns c =
    let r = c.args.self.now.ring in
    let m = c.args.self.now.mesh.now in
    let turn : ℕ → Float → Float = area_turn m.xs.now m.ys.now r.base r.count in
    ap (λ (x : Float). half_f ⊗ x)
    (fold_from_yields_List _ (λ sum i. turn i sum) _ c.fold.result c.fold.ensures.ran (YieldsList-from_range 0 r.count r.count (cc) (omega arith)) (λ a x b q k. search (rules, tests))
    ∙ fold_ranged turn zero_f r.count)
