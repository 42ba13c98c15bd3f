-- `LentLinks::walk_length` meets its contract: the loop's invariant is `Stepping`, and each return is a law of it.
use native.Mathlib.Omega.{arith}
use Rattle.exam_loop_reads.specs.Code.{stepping_start, stepping_under, stepping_off, stepping_end, stepping_next, stepping_out, length_none, length_some}
use Rattle.topology.specs.Links.{link_of}
use Rattle.exam_loop_reads.proofs.LentLinks.walk_length.Goals as goal

pub loop-count-init : goal.loop-count-init
loop-count-init c = let s = c.args.self.now in
    stepping_start (link_of s.nodes s.next.now) s.nodes c.args.start

pub returns-then-u-start : goal.returns-then-u-start
returns-then-u-start c =
    let s = c.args.self.now in
    length_none _ (stepping_under (link_of s.nodes s.next.now) s.nodes c.args.start c.loop-count.invariant c.loop-count-test.true c.if-u-start.true)

pub returns-then-v : goal.returns-then-v
returns-then-v c =
    let s = c.args.self.now in
    length_none _
    (stepping_off (link_of s.nodes s.next.now) s.nodes c.args.start c.loop-count.invariant c.loop-count-test.true c.link_in-v.result c.link_in-v.ensures
    c.if-v.true)

pub returns-then-v-start : goal.returns-then-v-start
returns-then-v-start c =
    let s = c.args.self.now in
    length_some _ _
    (stepping_end (link_of s.nodes s.next.now) s.nodes c.args.start c.loop-count.invariant c.loop-count-test.true c.link_in-v.result c.link_in-v.ensures
    (omega arith) c.if-v.false c.if-v-start.true)
    (omega arith)

pub loop-count-preserved : goal.loop-count-preserved
loop-count-preserved c =
    let s = c.args.self.now in
    stepping_next (link_of s.nodes s.next.now) s.nodes c.args.start c.loop-count.invariant c.loop-count-test.true c.link_in-v.result c.link_in-v.ensures
    (omega arith) c.if-v.false c.if-v-start.false

pub returns : goal.returns
returns c =
    let s = c.args.self.now in
    length_none _ (stepping_out (link_of s.nodes s.next.now) s.nodes c.args.start c.loop-count.invariant c.loop-count-test.false)
