-- `hand_stepping::quad_on` meets its contract.
use mathlib.Core.List.{[]}
use mathlib.Core.Path.{refl, sym, ◌∙◌}
use Rattle.std.proofs.lemmas.Bool.{leb-true, leb-false}
use Rattle.outline.specs.Outline.{Outline, outline_of}
use Rattle.front.specs.State.{State}
use Rattle.hand_mesh_check.specs.Check.{lent_in}
use Rattle.hand_steps.proofs.UseBase.{front_room, lent_to_try}
use Rattle.hand_steps.proofs.Quads.{fitting_full, fitting_quad, quad_cap, quad_tried}
use Rattle.hand_stepping.proofs.quad_on.Goals as goal
use Rattle.hand_stepping.proofs.quad_on.Goals.{Start}

-- the outline and the state as they are lent
abbrev around : Start → Outline
around s = outline_of s.args.around.now.domain

abbrev lent : Start → State
lent s = lent_in s.args.lent.mesh s.args.lent.origins.now

pub returns-then-is_capped : goal.returns-then-is_capped
returns-then-is_capped c =
    let s = (goal.at.returns-then-is_capped c).Start in
    let a = c.args.around.now in
    λ marks. quad_cap (around s) a.size a.field.grid a.field.values.now marks c.args.a c.args.b (lent s) (leb-true _ _ (sym c.is_capped.ensures ∙ c.if-is_capped.true))

pub attempt_on-requires : goal.attempt_on-requires
attempt_on-requires c =
    let m = c.args.lent.mesh in
    record {
      taken = c.requires.0.taken;
      lent = lent_to_try _ _ _ _ _ m.quads.now _ m.counts c.args.a c.args.b c.requires.1 _ _ _ [] [] c.requires.0.field refl refl;
    }

pub returns-in_default : goal.returns-in_default
returns-in_default c =
    let s = (goal.at.returns-in_default c).Start in
    let a = c.args.around.now in
    λ marks.
    quad_tried (around s) a.size a.field.grid a.field.values.now marks c.args.a c.args.b (lent s) (leb-false _ _ (sym c.is_capped.ensures ∙ c.if-is_capped.false))
    c.attempt_on.ensures (rw c.in_default.is refl)

pub is_full-requires : goal.is_full-requires
is_full-requires c = front_room _ _ _ _ _ _ _ c.args.lent.mesh.counts c.args.a c.args.b c.requires.1

pub returns-then-is_full : goal.returns-then-is_full
returns-then-is_full c =
    let s = (goal.at.returns-then-is_full c).Start in
    let a = c.args.around.now in
    λ marks.
    quad_tried (around s) a.size a.field.grid a.field.values.now marks c.args.a c.args.b (lent s) (leb-false _ _ (sym c.is_capped.ensures ∙ c.if-is_capped.false))
    c.attempt_on.ensures (fitting_full c.args.a c.args.b c.in-Some.far (lent s) c.in-Some.is c.is_full.ensures c.if-is_full.true)

pub returns : goal.returns
returns c =
    let s = (goal.at.returns c).Start in
    let a = c.args.around.now in
    λ marks.
    quad_tried (around s) a.size a.field.grid a.field.values.now marks c.args.a c.args.b (lent s) (leb-false _ _ (sym c.is_capped.ensures ∙ c.if-is_capped.false))
    c.attempt_on.ensures (fitting_quad c.args.a c.args.b c.in-Some.far (lent s) c.in-Some.is c.is_full.ensures c.if-is_full.false)
