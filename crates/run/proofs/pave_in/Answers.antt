-- `run::pave_in` meets its contract: each stage gives what the next one asks, and together they are the run. Assumes nothing.
use Rattle.std.specs.Prelude.{refl, take}
use Rattle.std.proofs.Common.{arith}
use Rattle.outline.specs.Outline.{outline_of}
use Rattle.run_sampled_advance.proofs.Laws.{can_number, can_list}
use Rattle.run.specs.Run.{Lent, other_snapshot}
use Rattle.run.specs.Lent.{lent_in}
use Rattle.run.proofs.Asked.{CanRun}
use Rattle.run.proofs.Laws.{can_run, paving_made, run_whole, run_broadened}
use Rattle.run.proofs.pave_in.Goals as goal
use Rattle.run.proofs.pave_in.Goals.{After-snapshot_places-m}

-- the lists of which the run is made
abbrev given : After-snapshot_places-m → Lent
given s = other_snapshot (lent_in s.args.lists.now) (take s.snapshot_places-m.result s.args.lists.now.snapshot.now)

can : (s : After-snapshot_places-m) → CanRun (outline_of s.args.domain) s.args.settings (given s)
can s = can_run (outline_of s.args.domain) s.args.settings (lent_in s.args.lists.now) _ s.snapshot_places-m.ensures s.requires

pub draw_and_pave-end-requires : goal.draw_and_pave-end-requires
draw_and_pave-end-requires c = (can (goal.at.draw_and_pave-end-requires c).After-snapshot_places-m).none

-- what the paving left, as the numbers and the loops ask for it
pub number_nodes-requires : goal.number_nodes-requires
number_nodes-requires c =
    let s = (goal.at.number_nodes-requires c).After-snapshot_places-m in
    let paving = c.draw_and_pave-end.ensures in
    rw c.quads.ensures
    (can_number _ _ _ _ _ _ paving.can _ c.args.settings.passes _
    (paving_made (outline_of c.args.domain) c.args.settings _ _ _ _ paving.runs) _ (can s).origins)

pub front_loops-listed-requires : goal.front_loops-listed-requires
front_loops-listed-requires c =
    let s = (goal.at.front_loops-listed-requires c).After-snapshot_places-m in
    let paving = c.draw_and_pave-end.ensures in
    rw c.next.ensures
    (can_list _ _ _ _ _ _ paving.can _ c.args.settings.passes _
    (paving_made (outline_of c.args.domain) c.args.settings _ _ _ _ paving.runs) _ _ (can s).loops (can s).lengths)

pub is_whole-whole-requires : goal.is_whole-whole-requires
is_whole-whole-requires c = c.draw_and_pave-end.ensures.can.drawn.taken

pub returns-clause-runs : goal.returns-clause-runs
returns-clause-runs c =
    let s = (goal.at.returns-clause-runs c).After-snapshot_places-m in
    let made = run_whole (outline_of c.args.domain) c.args.settings (given s) _ _ _ _ c.draw_and_pave-end.ensures.runs _
    (rw c.quads.ensures at c.number_nodes.ensures) _ (rw c.next.ensures at c.front_loops-listed.ensures) _ c.is_whole-whole.ensures _ refl in
    let places = c.snapshot_places-m.ensures in
    let run = run_broadened _ _ (lent_in c.args.lists.now) _ _ (rw places at made) in
    let lists = c.draw_and_pave-end.ensures.same_lists in
    let xs = lists.xs in
    let ys = lists.ys in
    let next = lists.next in
    let prev = lists.prev in
    let quads = lists.quads in
    let edges = lists.edges in
    grind arith
