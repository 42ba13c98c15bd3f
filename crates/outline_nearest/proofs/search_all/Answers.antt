-- `search_all` meets its contract: the loop's invariant is `Loop` of the definition's turn over the loops.
use Rattle.std.proofs.Common.{sym, ◌∙◌, arith}
use Rattle.std.proofs.lemmas.List.{length_push}
use Rattle.laws.specs.Loop.{loop_start_lem, loop_next, loop_end}
use Rattle.outline.specs.Outline.{outline_of}
use Rattle.outline.specs.Search.{search_loop, search_from}
use Rattle.outline_loops.proofs.LoopList.{loop_given, loops_given, over_loops}
use Rattle.outline_blocks.proofs.BlockLaws.{drawn_shape}
use Rattle.outline_blocks.proofs.Loops.{loop_asks, loop_most, loop_drawn}
use Rattle.outline_nearest.proofs.search_all.Goals as goal

pub loops_of-each-items-requires : goal.loops_of-each-items-requires
loops_of-each-items-requires c = drawn_shape c.args.outline.drawn

pub loop-each-init : goal.loop-each-init
loop-each-init c = loop_start_lem _ _ _

pub first_block-first-requires : goal.first_block-first-requires
first_block-first-requires c =
    let each = loop_given (outline_of c.args.outline.domain) _ _ c.next.new.self _ (cc) c.loop-each.yielded_by c.in-Some.each c.in-Some.is c.next.ensures.steps in
    rw each.index (loop_asks _ each c.args.outline.drawn.taken)

pub search_loop-found-requires : goal.search_loop-found-requires
search_loop-found-requires c =
    let each = loop_given (outline_of c.args.outline.domain) _ _ c.next.new.self _ (cc) c.loop-each.yielded_by c.in-Some.each c.in-Some.is c.next.ensures.steps in
    let first = rw each.index at c.first_block-first.ensures in
    let drawn = c.args.outline.drawn in
    (loop_drawn each first drawn.taken drawn, loop_most each first drawn.taken, c.requires)

pub loop-each-preserved : goal.loop-each-preserved
loop-each-preserved c =
    let each = loop_given (outline_of c.args.outline.domain) _ _ c.next.new.self _ (cc) c.loop-each.yielded_by c.in-Some.each c.in-Some.is c.next.ensures.steps in
    rw (length_push c.loop-each.yielded c.in-Some.each, c.search_loop-found.ensures, each.index, each.points)
    (loop_next _ _ c.loop-each.invariant (omega (arith, each.within)))

pub returns : goal.returns
unfolding search_from
returns c =
    let o = outline_of c.args.outline.domain in
    let all = loops_given o _ _ c.next.new.self _ (cc) c.loop-each.yielded_by c.in-None.is c.next.ensures.steps in
    loop_end _ _ c.loop-each.invariant (omega (arith, all)) ∙ over_loops o (λ k s found. search_loop c.args.p s k found) c.args.best
