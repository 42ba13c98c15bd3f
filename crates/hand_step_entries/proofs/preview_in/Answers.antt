-- `hand_step_entries::preview_in` meets its contract.
use mathlib.Core.Path.{sym, ap, ◌∙◌}
use Rattle.outline.specs.Refusals.{refused, numbered}
use Rattle.outline.specs.Outline.{outline_of}
use Rattle.outline.proofs.Refused.{refusal_some}
use Rattle.field_direction.specs.Record.{field_lent}
use Rattle.hand_step_entries.proofs.EntryLaws.{given_around, sight_refused, shown_few, sight_answered}
use Rattle.hand_step_entries.proofs.preview_in.Goals as goal

pub returns-in-Err : goal.returns-in-Err
returns-in-Err c =
    rw c.from.ensures
    (sight_refused (outline_of c.args.domain) c.args.size (field_lent c.args.field c.args.marks.now) c.args.a c.args.b _ _
    (sym (ap refused c.in-Err.is) ∙ c.check_given.ensures)
    (refusal_some _))

pub preview-preview-requires : goal.preview-preview-requires
preview-preview-requires c =
    given_around (outline_of c.args.domain) c.args.size (field_lent c.args.field c.args.marks.now)
    (record { outer = λ i h. c.args.domain.doubles.outer i; holes = λ i h. c.args.domain.doubles.holes i })
    (sym c.check_given.ensures ∙ ap refused c.in_default.is)

pub new-requires : goal.new-requires
new-requires c =
    λ v q.
    shown_few (outline_of c.args.domain) c.args.size (field_lent c.args.field c.args.marks.now) c.args.a c.args.b _ _ _ _ c.args.lent.origins.now _ _ _ _
    c.check_given.ensures
    (ap refused c.in_default.is) (numbered c.preview-preview.result) _ (c.preview-preview.ensures c.args.marks.now) (ap numbered q)

pub returns : goal.returns
returns c =
    sight_answered (outline_of c.args.domain) c.args.size (field_lent c.args.field c.args.marks.now) c.args.a c.args.b _ _ _ _ c.args.lent.origins.now _ _ _ _
    c.check_given.ensures
    (ap refused c.in_default.is) (numbered c.preview-preview.result) _ (c.preview-preview.ensures c.args.marks.now) _
    c.new.ensures
