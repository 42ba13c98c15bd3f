-- `hand_previews::foresee_on` meets its contract.
use mathlib.Core.Path.{sym, ap, ◌∙◌}
use Rattle.std.specs.Prelude.{List, ℕ}
use Rattle.outline.specs.Outline.{Outline, outline_of}
use Rattle.field_direction.specs.Record.{FieldRecord, field_lent}
use Rattle.front.specs.State.{State}
use Rattle.hand_mesh_check.specs.Check.{lent_in}
use Rattle.hand_previews.proofs.Quads.{foreseen_as, quad_foreseen}
use Rattle.hand_previews.proofs.foresee_on.Goals as goal
use Rattle.hand_previews.proofs.foresee_on.Goals.{Start}

-- the outline, the field and the state as they are lent
abbrev around : Start → Outline
around s = outline_of s.args.around.now.domain

abbrev field : Start → List ℕ → FieldRecord
field s marks = field_lent s.args.around.now.field marks

abbrev lent : Start → State
lent s = lent_in s.args.lent.mesh s.args.lent.origins.now

pub returns-in-Ok : goal.returns-in-Ok
returns-in-Ok c =
    let s = (goal.at.returns-in-Ok c).Start in
    λ marks.
    ap foreseen_as (sym c.in-Ok.is ∙ c.quad_on.ensures marks)
    ∙ quad_foreseen (around s) c.args.around.now.size (field s marks) c.args.a c.args.b (lent s)

pub returns-in-Err : goal.returns-in-Err
returns-in-Err c =
    let s = (goal.at.returns-in-Err c).Start in
    λ marks.
    ap foreseen_as (sym c.in-Err.is ∙ c.quad_on.ensures marks)
    ∙ quad_foreseen (around s) c.args.around.now.size (field s marks) c.args.a c.args.b (lent s)
