-- `file_listing::list_outline` meets its contract: the run in the program's lists, then its listing. Assumes nothing.
use Rattle.std.proofs.Common.{◌≡◌, arith}
use Rattle.outline.specs.Outline.{outline_of}
use Rattle.outline.specs.Refusals.{numbered}
use Rattle.listing.specs.Buffer.{buffer, buffer_written}
use Rattle.listing.specs.Listing.{listing}
use Rattle.run.specs.Lent.{lent_in}
use Rattle.file_listing.specs.Program.{program_lent, headed}
use Rattle.file_listing.proofs.Laws.{ProgramLengths, run_listed}
use Rattle.file_listing.proofs.list_outline.Goals as goal

pub returns : goal.returns
unfolding program_lent
returns c =
    let left = lent_in c.pave-answer.new.lists in
    let names = c.pave-answer.ensures.same_lists in
    let xs = names.xs in
    let ys = names.ys in
    let quads = names.quads in
    let loops = names.loops in
    let lengths = names.lengths in
    let written = c.list_answer.ensures in
    let listed : buffer c.list_answer.new.out c.list_answer.result
    ≡ buffer_written (listing (headed (numbered c.pave-answer.result)) left.xs left.ys left.quads left.loops left.lengths) c.args.out.now = grind arith in
    let long : ProgramLengths left = record { xs = grind arith; quads = grind arith; loops = grind arith; lengths = grind arith } in
    run_listed (outline_of c.args.domain) c.args.settings c.pave-answer.ensures.paves long listed
