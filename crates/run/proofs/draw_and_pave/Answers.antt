-- `run::draw_and_pave` meets its contract: the field gives what the paving asks. Assumes nothing.
use mathlib.Core.Path.{sym, subst}
use lib.Dec.{T}
use Rattle.outline.specs.Outline.{outline_of}
use Rattle.run_sampled_advance.specs.Asked.{unsampled, CanPave}
use Rattle.run.proofs.Laws.{none_field, can_pave, run_made}
use Rattle.run.proofs.draw_and_pave.Goals as goal
use Rattle.run.proofs.draw_and_pave.Goals.{After-make_field-grid}

pub make_field-grid-requires : goal.make_field-grid-requires
make_field-grid-requires c = rw c.run_size-size.ensures (none_field _ _ _ _ c.requires)

-- what is lent can be paved in the field made
can : (s : After-make_field-grid)
    → CanPave (outline_of s.args.domain) s.make_field-grid.new.blocks s.args.settings.size s.make_field-grid.result s.make_field-grid.new.values
    (unsampled s.args.paving.now s.args.snapshot.now)
can s =
    can_pave (outline_of s.args.domain) s.args.settings _ _ s.requires (rw s.run_size-size.ensures at (subst T (sym s.run_size-size.type_inv) tt)) _ _ _
    (rw s.run_size-size.ensures at s.make_field-grid.ensures.0) s.make_field-grid.auto.values _ s.make_field-grid.ensures.1

pub sample_and_advance-end-requires : goal.sample_and_advance-end-requires
sample_and_advance-end-requires c = rw c.run_size-size.ensures (can (goal.at.sample_and_advance-end-requires c).After-make_field-grid)

pub returns-clause-can : goal.returns-clause-can
returns-clause-can c = can (goal.at.returns-clause-can c).After-make_field-grid

pub returns-clause-runs : goal.returns-clause-runs
returns-clause-runs c =
    run_made (outline_of c.args.domain) c.args.settings _ _ _ _ _ (rw c.run_size-size.ensures at c.make_field-grid.ensures.0) _
    (rw c.run_size-size.ensures at c.sample_and_advance-end.ensures.advances)
