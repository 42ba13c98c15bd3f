-- `hand_stepping::place_on` meets its contract.
use mathlib.Core.List.{List, []}
use mathlib.Core.Path.{◌≡◌, sym, ap, ◌∙◌, subst}
use Prim.Native.Nat.{ℕ}
use Rattle.std.specs.Prelude.{Result}
use Rattle.outline.specs.Outline.{Outline, outline_of}
use Rattle.field_direction.specs.Record.{FieldRecord, field_lent}
use Rattle.front.specs.State.{State}
use Rattle.front.specs.declared.FarCorners.{FarCorners}
use Rattle.hand_mesh_check.specs.Check.{lent_paving}
use Rattle.hand_steps.specs.declared.StepOutcome.{StepOutcome}
use Rattle.hand_steps.specs.declared.StepOutcome.TheVariants.{Placed}
use Rattle.hand_steps.specs.Hand.{handled, quad_on}
use Rattle.hand_steps.specs.Lent.{OnFront}
use Rattle.hand_steps.proofs.UseBase.{quad_fits_lem}
use Rattle.hand_steps.proofs.Quads.{placed_on, quad_placed, quad_tested}
use Rattle.hand_stepping.proofs.Lent.{lent_same}
use Rattle.hand_stepping.proofs.place_on.Goals as goal
use Rattle.hand_stepping.proofs.place_on.Goals.{Start, After-quad_on-answer}

-- the outline, the field and the state as they are lent
abbrev around : Start → Outline
around s = outline_of s.args.around.now.domain

abbrev field : Start → List ℕ → FieldRecord
field s marks = field_lent s.args.around.now.field marks

abbrev lent : Start → State
lent s = lent_paving s.args.paving.now s.args.origins.now

-- what is answered of the mesh is answered of the state
answer_is : (c : After-quad_on-answer) → (marks : List ℕ) → c.quad_on-answer.result
    ≡ quad_on (outline_of c.args.around.now.domain) c.args.around.now.size (field_lent c.args.around.now.field marks) c.args.a c.args.b (lent_paving c.args.paving.now c.args.origins.now)
answer_is c marks =
    c.quad_on-answer.ensures marks
    ∙ ap (λ (s : State). quad_on (outline_of c.args.around.now.domain) c.args.around.now.size (field_lent c.args.around.now.field marks) c.args.a c.args.b s)
    (lent_same c.mesh-mesh.result c.args.paving.now c.mesh-mesh.ensures c.args.origins.now)

pub quad_on-answer-requires : goal.quad_on-answer-requires
quad_on-answer-requires c = (
  c.requires.0,
  subst (λ (s : State). OnFront s c.args.a c.args.b) (sym (lent_same c.mesh-mesh.result c.args.paving.now c.mesh-mesh.ensures c.args.origins.now)) c.requires.1,
)

pub place_quad-requires : goal.place_quad-requires
place_quad-requires c =
    let s = (goal.at.place_quad-requires c).Start in
    let T = quad_tested (around s) c.args.around.now.size (field s []) c.args.a c.args.b (lent s) _
    (sym (answer_is (goal.at.place_quad-requires c).After-quad_on-answer []) ∙ c.in-Ok.is) in
    quad_fits_lem _ _ _ _ _ _ _ c.args.paving.now.counts c.args.a c.args.b c.requires.1 (around s) c.args.around.now.size (field s []) _ _ T.0 T.1

pub returns-in-Ok-clause-placed : goal.returns-in-Ok-clause-placed
returns-in-Ok-clause-placed c =
    let s = (goal.at.returns-in-Ok-clause-placed c).Start in
    λ marks.
    ap (λ (t : State). handled t Placed) (c.place_quad.ensures.placed _)
    ∙ (ap (λ (r : Result FarCorners StepOutcome). placed_on c.args.a c.args.b r (lent s))
    (sym c.in-Ok.is ∙ answer_is (goal.at.returns-in-Ok-clause-placed c).After-quad_on-answer marks)
    ∙ quad_placed (around s) c.args.around.now.size (field s marks) c.args.a c.args.b (lent s))

pub returns-in-Err-clause-placed : goal.returns-in-Err-clause-placed
returns-in-Err-clause-placed c =
    let s = (goal.at.returns-in-Err-clause-placed c).Start in
    λ marks.
    ap (λ (r : Result FarCorners StepOutcome). placed_on c.args.a c.args.b r (lent s))
    (sym c.in-Err.is ∙ answer_is (goal.at.returns-in-Err-clause-placed c).After-quad_on-answer marks)
    ∙ quad_placed (around s) c.args.around.now.size (field s marks) c.args.a c.args.b (lent s)
