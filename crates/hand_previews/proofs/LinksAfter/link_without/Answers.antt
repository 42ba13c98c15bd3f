-- `hand_previews::LinksAfter::link_without` meets its contract.
use Rattle.hand_previews.specs.Preview.{links_before}
use Rattle.hand_previews.proofs.Neighbours.{removed}
use Rattle.hand_previews.proofs.LinksAfter.link_without.Goals as goal

pub returns : goal.returns
returns c =
    let v = c.args.self.now in
    removed (links_before v.nodes v.next.now) v.a v.b c.args.u c.link_removed.ensures c.link_before-was.ensures c.link_before.ensures
