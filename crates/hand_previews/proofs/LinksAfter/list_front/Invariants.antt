-- `hand_previews::LinksAfter::list_front` meets its contract.
use Rattle.hand_previews.proofs.ListLaws.{Written}
use Rattle.hand_previews.specs.Preview.{links_after, shown_nodes}
use Rattle.hand_previews.proofs.LinksAfter.list_front.Given as goal

abbrev pub invariant-loop-u : goal.invariant-loop-u
invariant-loop-u l = Written (links_after l.self.quad l.self.a l.self.b l.self.nodes l.self.next.now) (shown_nodes l.self.quad l.self.nodes) l.initial.list l.u l.list l.j
