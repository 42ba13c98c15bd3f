-- `paving_retries::try_untried` meets its contract: the list has the edge, or it is tried, and noted where that is in vain. Assumes nothing.
use Rattle.std.specs.Prelude.{not}
use Rattle.std.proofs.Common.{◌∙◌, ap}
use Rattle.paving_retries.proofs.Untried.{none_is, untried_vain, untried_kept, untried_noted}
use Rattle.front.specs.State.{State}
use Rattle.front.specs.Lent.{mesh_state}
use Rattle.outline.specs.Outline.{Outline}
use Rattle.paving.specs.Lent.{outline_in}
use Rattle.paving_attempts.specs.Seen.{seen_of}
use Rattle.paving_retries.proofs.try_untried.Goals as goal
use Rattle.paving_retries.proofs.try_untried.Goals.{Start}

-- the outline and what an attempt reads, as they are lent
abbrev around : Start → Outline
around s = outline_in s.args.around.now

abbrev lent : Start → State
lent s = seen_of (mesh_state s.args.mesh.now)

pub returns-then-is_vain-clause-answer : goal.returns-then-is_vain-clause-answer
returns-then-is_vain-clause-answer c =
    let s = (goal.at.returns-then-is_vain-clause-answer c).Start in
    untried_vain (around s) c.args.around.now.size c.args.around.now.field.grid c.args.around.now.field.values.now (lent s) _ _ _ c.requires.untried c.link_of-p.ensures
    c.link_of-q.ensures c.is_vain.ensures c.if-is_vain.true

pub returns-then-is_vain-clause-tried : goal.returns-then-is_vain-clause-tried
returns-then-is_vain-clause-tried c =
    let s = (goal.at.returns-then-is_vain-clause-tried c).Start in
    untried_kept (around s) c.args.around.now.size c.args.around.now.field.grid c.args.around.now.field.values.now (lent s) _ _ _ c.requires.untried c.link_of-p.ensures
    c.link_of-q.ensures c.is_vain.ensures c.if-is_vain.true

pub returns-then-is_none-clause-remembers : goal.returns-then-is_none-clause-remembers
returns-then-is_none-clause-remembers c =
    let s = (goal.at.returns-then-is_none-clause-remembers c).Start in
    untried_noted (around s) c.args.around.now.size c.args.around.now.field.grid c.args.around.now.field.values.now (lent s) _ _ _ c.requires.untried c.link_of-p.ensures
    c.link_of-q.ensures c.try_edge-attempt.ensures (none_is _ (c.is_none.ensures ∙ ap not c.if-is_none.true)) c.note.ensures
