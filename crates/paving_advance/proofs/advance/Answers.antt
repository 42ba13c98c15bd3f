-- `paving_advance::advance` meets its contract: the loop is the run over the passes. Assumes nothing.
use Rattle.std.specs.Prelude.{◌≡◌, ℕ, ◌*◌, ◌≤◌, length}
use Rattle.std.proofs.Common.{◌∙◌, sym, subst, refl}
use Rattle.laws.specs.Loop.{Run, run_start, run_go, run_out, run_end}
use Rattle.outline.specs.Outline.{Outline}
use Rattle.field_direction.specs.Record.{FieldRecord}
use Rattle.front.specs.State.{State}
use Rattle.front.specs.Lent.{paving_state}
use Rattle.front.proofs.Lent.{lists_same, lists_trans}
use Rattle.paving_retries.specs.Vain.{forgotten}
use Rattle.paving.specs.Advance.{passes_turn, all_used}
use Rattle.paving.specs.Lent.{outline_in, field_in}
use Rattle.paving.proofs.Lent.{scratch_trans}
use Rattle.paving_settling.specs.Paveable.{Later, held}
use Rattle.paving_settling.specs.Searchable.{SearchableIn, all_forgotten}
use Rattle.paving_advance.proofs.Laws.{pass_on, pass_over, advance_whole, in_advance}
use Rattle.paving_advance.proofs.advance.Goals as goal
use Rattle.paving_advance.proofs.advance.Goals.{Start}

-- the outline, the field and the state as they are lent
abbrev around : Start → Outline
around s = outline_in s.args.around.now

abbrev field : Start → FieldRecord
field s = field_in s.args.around.now

abbrev lent : Start → State
lent s = paving_state s.args.paving.now s.args.snapshot.now

-- the state in the loop comes after the one that is lent
later : (s : Start) {t : State} {n i : ℕ} → Run (passes_turn (around s) s.args.around.now.size (field s)) all_used (lent s) n i t
    → Later s.args.around.now.field.grid s.args.around.now.field.values.now (lent s) t
later s L = in_advance (around s) s.args.around.now.size _ _ (field s) (lent s) s.requires L

pub file_all-requires : goal.file_all-requires
file_all-requires c =
    subst (λ (m : State). 2 * m.counts.edges ≤ length m.edges) (sym c.mesh.ensures) (held _ _ _ c.requires).edges

pub loop-init : goal.loop-init
loop-init c =
    let s = (goal.at.loop-init c).Start in
    let a = c.args.around.now in (
      lists_same _,
      record { node_pool = refl; edge_pool = refl; tried = refl },
      run_start _ all_used _ _,
      all_forgotten (around s) a.size (field s) _ _ _ _ _ _
          (subst (λ (m : State). SearchableIn a.size m c.file_all.new.scratch.node_pool.now c.file_all.new.scratch.edge_pool.now) c.mesh.ensures
          c.file_all.ensures.filed) _
          (subst (λ (m : State). c.file_all.new.scratch.tried.now ≡ forgotten 0 m.counts.nodes c.args.scratch.now.tried.now) c.mesh.ensures
          c.file_all.ensures.tried),
    )

pub pass-requires-clause-paveable : goal.pass-requires-clause-paveable
pass-requires-clause-paveable c = (later (goal.at.pass-requires-clause-paveable c).Start c.loop.invariant.2).paveable

pub pass-requires-clause-helped : goal.pass-requires-clause-helped
pass-requires-clause-helped c = c.loop.invariant.3

pub returns-in-Break : goal.returns-in-Break
returns-in-Break c =
    let s = (goal.at.returns-in-Break c).Start in
    record {
      same_lists = lists_trans c.loop.invariant.0 c.pass.ensures.same_lists;
      same_scratch = scratch_trans c.file_all.ensures.same (scratch_trans c.loop.invariant.1 c.pass.ensures.same_scratch);
      advances = advance_whole (around s) c.args.around.now.size (field s) c.args.passes (lent s) c.min-most.ensures
          (run_out _ all_used _ _ c.loop.invariant.2 c.loop-test.true (pass_over c.pass.result c.pass.ensures.passes c.in-Break.is));
    }

pub loop-preserved : goal.loop-preserved
loop-preserved c = (
  lists_trans c.loop.invariant.0 c.pass.ensures.same_lists,
  scratch_trans c.loop.invariant.1 c.pass.ensures.same_scratch,
  run_go _ all_used _ _ c.loop.invariant.2 c.loop-test.true (pass_on c.pass.result c.pass.ensures.passes c.in_default.is),
  c.pass.ensures.helped,
)

pub returns : goal.returns
returns c =
    let s = (goal.at.returns c).Start in
    record {
      same_lists = c.loop.invariant.0;
      same_scratch = scratch_trans c.file_all.ensures.same c.loop.invariant.1;
      advances = advance_whole (around s) c.args.around.now.size (field s) c.args.passes (lent s) c.min-most.ensures
          (run_end _ all_used _ c.loop.invariant.2 c.loop-test.false);
    }
