-- `hand_previews::LinksAfter::link_without_c` meets its contract.
use Rattle.hand_previews.specs.Preview.{links_before, remove_link}
use Rattle.hand_previews.proofs.Neighbours.{removed}
use Rattle.hand_previews.proofs.LinksAfter.link_without_c.Goals as goal

pub returns-in-Reused : goal.returns-in-Reused
returns-in-Reused c =
    let v = c.args.self.now in
    rw c.in-Reused.is
    (removed (remove_link v.a v.b (links_before v.nodes v.next.now)) c.in-Reused.id v.a c.args.u c.link_removed.ensures c.link_without.ensures
    c.link_without-link.ensures)
