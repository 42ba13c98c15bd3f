-- `search_loop` meets its contract: the loop's invariant is `ByBlocks` of the search's turn, and a block that is passed over changes nothing.
use Rattle.std.specs.Prelude.{◌<◌, ◌*◌}
use Rattle.std.proofs.Common.{sym, ◌∙◌, arith}
use Rattle.std.proofs.lemmas.Bool.{not-false}
use Rattle.outline.specs.Outline.{points}
use Rattle.outline.specs.Search.{search_loop}
use Rattle.outline_blocks.proofs.BetweenLaws.{blocks_start, blocks_look, blocks_pass, blocks_end, passed_start, passed_more}
use Rattle.outline_nearest.proofs.PassLaws.{place_there, passed_same}
use Rattle.outline_nearest.proofs.search_loop.Goals as goal
use Rattle.outline_nearest.proofs.search_loop.Goals.{then-not-is_passed, else-not-is_passed}

pub loop-c-init : goal.loop-c-init
loop-c-init c = passed_start (blocks_start _ _ _ _)

pub is_passed-requires : goal.is_passed-requires
is_passed-requires c =
    let pre = c.requires in
    let taken : 16 * c.loop-c.c < points c.args.s.now = omega arith in
    (omega (arith, taken, pre.0.few, pre.1), place_there pre.0 c.loop-c.invariant.place taken)

pub loop-c-preserved : goal.loop-c-preserved
loop-c-preserved c =
    let pre = c.requires in
    let inv = c.loop-c.invariant in
    let taken : 16 * c.loop-c.c < points c.args.s.now = omega arith in
    passed_more _
    (elim c.if-not-is_passed.branch [
      | then-not-is_passed w ↦ rw w.found-is (blocks_look _ _ inv taken (rw (← w.block_end.ensures) w.search_part-found.ensures))
      | else-not-is_passed w ↦ rw w.found-is
          (blocks_pass _ _ inv taken
          (passed_same pre.0 inv.place taken _ _ _ pre.2
          (sym c.is_passed.ensures ∙ not-false _ w.if-not-is_passed.false-raw)))
    ])

pub returns : goal.returns
unfolding search_loop
returns c = blocks_end _ _ c.loop-c.invariant (omega arith)
