-- `SoundLinks::loop_length` meets its contract: no loop starts at u, or the walk.
use native.Mathlib.Omega.{arith}
use Rattle.exam_loop_reads.specs.Code.{low_none, length_none}
use Rattle.exam_loop_reads.proofs.SoundLinks.loop_length.Goals as goal

pub returns-then-link_in-u : goal.returns-then-link_in-u
returns-then-link_in-u c =
    let links = c.args.self.now.links in
    length_none _
    (low_none links.nodes links.next.now links.prev.now c.args.self.now.sound c.args.u (omega (arith, c.well_formed)) c.link_in.result
    c.link_in.ensures c.if-link_in-u.true)
