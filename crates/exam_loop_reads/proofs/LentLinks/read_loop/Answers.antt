-- `LentLinks::read_loop` meets its contract: links that aren't sound, no such loop, too few places, or the loop written.
use Rattle.std.specs.Prelude.{ℕ, List}
use Rattle.std.proofs.Common.{ap, ◌∙◌}
use Rattle.exam_loops.specs.Loops.{LoopReading, read_loop}
use Rattle.exam_loop_reads.specs.declared.LentLinks.{LentLinks}
use Rattle.exam_loop_reads.specs.Code.{read_unsound, read_none, read_short, can_write, read_written}
use Rattle.exam_loop_reads.proofs.LentLinks.read_loop.Goals as goal

-- what is read of the links given
reading_of : ℕ → List ℕ → LentLinks → LoopReading
reading_of k reply l = read_loop l.nodes l.next.now l.prev.now k reply

pub returns-in_default : goal.returns-in_default
returns-in_default c = read_unsound _ _ _ _ _ c.in_default.ensures

pub returns-in_default-find_loop : goal.returns-in_default-find_loop
unfolding reading_of
returns-in_default-find_loop c =
    let s = c.in-Some.sound in
    read_none _ _ _ _ _ s.sound c.in_default-find_loop.ensures ∙ ap (reading_of c.args.k c.args.reply.now) c.in-Some.ensures

pub returns-then-reply-length : goal.returns-then-reply-length
unfolding reading_of
returns-then-reply-length c =
    let s = c.in-Some.sound in
    read_short _ _ _ _ _ s.sound _ c.in-Some-find_loop.ensures c.if-reply-length.true ∙ ap (reading_of c.args.k c.args.reply.now) c.in-Some.ensures

pub write_ids-requires : goal.write_ids-requires
write_ids-requires c =
    let s = c.in-Some.sound in
    can_write s.links.nodes s.links.next.now s.links.prev.now c.args.k c.args.reply.now s.sound _ c.in-Some-find_loop.ensures c.if-reply-length.false

pub returns : goal.returns
unfolding reading_of
returns c =
    let s = c.in-Some.sound in
    read_written _ _ _ _ _ s.sound _ c.in-Some-find_loop.ensures c.if-reply-length.false _ c.write_ids.ensures
    ∙ ap (reading_of c.args.k c.args.reply.now) c.in-Some.ensures
