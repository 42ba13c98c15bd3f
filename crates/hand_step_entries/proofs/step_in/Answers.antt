-- `hand_step_entries::step_in` meets its contract.
use mathlib.Core.Path.{sym, ap, ◌∙◌}
use Rattle.outline.specs.Refusals.{refused, numbered}
use Rattle.outline.specs.Outline.{outline_of}
use Rattle.outline.proofs.Refused.{refusal_some}
use Rattle.field_direction.specs.Record.{field_lent}
use Rattle.front.proofs.Lent.{lists_same}
use Rattle.hand_step_entries.proofs.EntryLaws.{given_around, step_lists_refused, lists_stepped}
use Rattle.hand_step_entries.proofs.step_in.Goals as goal

pub returns-in-Err : goal.returns-in-Err
returns-in-Err c =
    record {
      same = lists_same _;
      steps =
          step_lists_refused _ _ _ c.args.a c.args.b _ _ _ _ _ _ _ _ (sym (ap refused c.in-Err.is) ∙ c.check_given.ensures) _ (refusal_some _)
          c.from.ensures;
    }

pub step-step-requires : goal.step-step-requires
step-step-requires c =
    given_around (outline_of c.args.domain) c.args.size (field_lent c.args.field c.args.marks.now)
    (record { outer = λ i h. c.args.domain.doubles.outer i; holes = λ i h. c.args.domain.doubles.holes i })
    (sym c.check_given.ensures ∙ ap refused c.in_default.is)

pub returns : goal.returns
returns c =
    record {
      same = c.step-step.ensures.same;
      steps =
          lists_stepped (outline_of c.args.domain) c.args.size (field_lent c.args.field c.args.marks.now) c.args.a c.args.b _ _ _ _ _ _ _ _
          c.check_given.ensures _ (ap refused c.in_default.is) (numbered c.step-step.result) _ _ _ _ _ _ _ _
          (c.step-step.ensures.taken c.args.marks.now) c.new.ensures;
    }
