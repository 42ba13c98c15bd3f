-- `hand_placing::is_full` meets its contract.
use Rattle.std.proofs.Common.{ap}
use Rattle.front.specs.declared.NewQuad.{NewQuad}
use Rattle.front.specs.State.{has_edge}
use Rattle.front.specs.Place.{edges_added}
use Rattle.hand_placing.proofs.PlaceLaws.{full_is}
use Rattle.hand_placing.proofs.is_full.Goals as goal

pub returns : goal.returns
unfolding edges_added has_edge
returns c =
    let v = c.args in
    let is = c.new-q.ensures in
    full_is _ _ _ v.far.c v.far.d (ap (λ (q : NewQuad). q.id_c) is) (ap (λ (q : NewQuad). q.id_d) is) c.added.ensures.0 c.added-2.ensures.0 c.edges_added-e.ensures.0
    c.lacks_places.ensures
