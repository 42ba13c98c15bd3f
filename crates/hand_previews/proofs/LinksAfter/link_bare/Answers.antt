-- `hand_previews::LinksAfter::link_bare` meets its contract.
use Rattle.front.specs.Place.{corner_id}
use Rattle.hand_previews.specs.Preview.{links_before, remove_link, take_link, bare_links}
use Rattle.hand_previews.proofs.Neighbours.{removed}
use Rattle.hand_previews.proofs.LinksAfter.link_bare.Goals as goal

pub returns-in-Reused : goal.returns-in-Reused
unfolding bare_links
returns-in-Reused c =
    let v = c.args.self.now in
    let q = c.args.quad in
    rw c.in-Reused.is
    (removed (take_link q.c (corner_id v.nodes q.c) v.a (remove_link v.a v.b (links_before v.nodes v.next.now))) v.b c.in-Reused.id c.args.u
    c.link_removed.ensures c.link_without_c-was.ensures c.link_without_c-link.ensures)
