-- `hand_previews::LinksAfter::list_front` meets its contract.
use Rattle.std.proofs.Common.{refl, sym, length-set, arith}
use Rattle.hand_previews.proofs.ListLaws.{written_start, written_off, written_on, written_room}
use Rattle.hand_previews.proofs.Neighbours.{no_link, some_link}
use Rattle.hand_previews.proofs.LinksAfter.list_front.Goals as goal
use Rattle.hand_previews.proofs.LinksAfter.list_front.Goals.{in-Some, in_default}

pub loop-u-init : goal.loop-u-init
loop-u-init c = written_start _ _ _

pub bounds-list-j : goal.bounds-list-j
bounds-list-j c =
    let here = some_link _ c.link.ensures c.in-Some.is in
    omega (arith, written_room _ _ _ c.loop-u.invariant (rw c.node_count-u-end.ensures at c.loop-u-test.true) c.requires here.0 here.1)

pub bounds-list-j-in-Some : goal.bounds-list-j-in-Some
bounds-list-j-in-Some c =
    let here = some_link _ c.link.ensures c.in-Some.is in
    simp length-set (omega (arith, written_room _ _ _ c.loop-u.invariant (rw c.node_count-u-end.ensures at c.loop-u-test.true) c.requires here.0 here.1))

pub loop-u-preserved : goal.loop-u-preserved
loop-u-preserved c =
    let within = rw c.node_count-u-end.ensures at c.loop-u-test.true in
    elim c.match-link.branch [
      | in-Some w ↦
          let here = some_link _ c.link.ensures w.in-Some.is in
          rw (w.list-is, w.j-is) (written_on _ _ _ c.loop-u.invariant within here.0 here.1)
      | in_default w ↦
          let none = no_link _ c.link.ensures w.in_default.is in
          rw (w.list-is, w.j-is) (written_off _ _ _ c.loop-u.invariant within (sym none) refl)
    ]
