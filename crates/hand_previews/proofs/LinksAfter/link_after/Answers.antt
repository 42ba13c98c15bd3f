-- `hand_previews::LinksAfter::link_after` meets its contract.
use Rattle.hand_previews.specs.Preview.{links_before}
use Rattle.hand_previews.proofs.Neighbours.{moved}
use Rattle.hand_previews.proofs.LinksAfter.link_after.Goals as goal

pub returns : goal.returns
returns c =
    let v = c.args.self.now in
    let q = c.args.quad in
    moved q.c q.d v.a v.b v.nodes (links_before v.nodes v.next.now) c.args.u c.id-id_c.ensures c.id_d-id_d.ensures c.link_bare.ensures
    c.link_put-at_c.ensures c.link_added-across.ensures c.link_put.ensures
