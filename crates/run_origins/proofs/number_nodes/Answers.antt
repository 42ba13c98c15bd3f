-- `run_origins::number_nodes` meets its contract: the loop's invariant is `Numbering`, and each answer is a law of it.
use mathlib.Core.Path.{◌∙◌, sym}
use native.Mathlib.Omega.{arith}
use Rattle.run_origins.specs.Writing.{numbering_none, numbering_first, numbering_second, numbering_next, numbering_all, numberable_samples}
use Rattle.run_origins.proofs.number_nodes.Goals as goal

pub number_samples-n-requires : goal.number_samples-n-requires
number_samples-n-requires c =
    numberable_samples _ _ _ c.requires

pub loop-k-init : goal.loop-k-init
loop-k-init c =
    numbering_none _ _ _ _ _ _ c.number_samples-n.ensures.0

pub quad_at-q-requires : goal.quad_at-q-requires
quad_at-q-requires c =
    omega (arith, c.requires.small, c.loop-k-test.true)

pub push_origin-n-requires : goal.push_origin-n-requires
push_origin-n-requires c =
    let long = c.number_samples-n.auto.origins in
    numbering_first _ _ _ c.loop-k.invariant c.loop-k-test.true c.requires long c.quad_at-q.ensures

pub push_origin-n-requires-in-loop-k : goal.push_origin-n-requires-in-loop-k
push_origin-n-requires-in-loop-k c =
    let long = c.number_samples-n.auto.origins in
    numbering_second _ _ _ c.loop-k.invariant c.loop-k-test.true c.requires long c.quad_at-q.ensures
    c.push_origin-n.new.origins c.push_origin-n.ensures.0 c.push_origin-n.auto.origins

pub loop-k-preserved : goal.loop-k-preserved
loop-k-preserved c =
    let long = c.number_samples-n.auto.origins in
    let with_c = c.push_origin-n in
    let with-d = c.push_origin-n-in-loop-k in
    numbering_next _ _ _ c.loop-k.invariant c.loop-k-test.true c.requires long c.quad_at-q.ensures
    with_c.ensures.0 with-d.ensures.0 with_c.ensures.1 with-d.ensures.1 with_c.auto.origins with-d.auto.origins

pub shape_of-origins : goal.shape_of-origins
shape_of-origins c =
    c.loop-k.invariant.long ∙ c.number_samples-n.auto.origins

pub returns : goal.returns
returns c =
    let samples = c.number_samples-n in
    numbering_all _ _ _ c.loop-k.invariant c.loop-k-test.false _ (sym samples.auto.origins) samples.ensures.1
