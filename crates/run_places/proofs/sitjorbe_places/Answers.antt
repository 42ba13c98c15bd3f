-- `run_places::sitjorbe_places` meets its contract: `places_given_refused` and `places_given_counted`. Assumes nothing.
use Rattle.outline.proofs.Refused.{refusal_some}
use Rattle.std.specs.Float.{binary64}
use Rattle.std.specs.Float.Ieee.{fits}
use Rattle.outline.specs.Outline.{outline}
use Rattle.outline.specs.Accepted.{OutlineFits}
use Rattle.field_cross.proofs.FieldLaws.{drawn_is}
use Rattle.std.specs.Prelude.{ℕ}
use Rattle.std.proofs.Math.Path.{ap₂}
use Rattle.run_places.specs.Needed.{places_answered, PlacesGiven}
use Rattle.run_places.proofs.Laws.{places_given_refused, places_given_counted}
use lib.Dec.{T}
use mathlib.Core.Path.{sym, refl, subst, ◌∙◌}
use Rattle.run_places.proofs.sitjorbe_places.Goals as goal

pub returns-in-Err : goal.returns-in-Err
returns-in-Err c =
    let doubles : OutlineFits (outline c.args.outer.now c.args.holes.now c.args.hole_lengths.now) = record { outer = λ i h. c.type_inv.outer i; holes = λ i h. c.type_inv.holes i } in
    let held : T (fits binary64 c.args.size) = subst T (sym c.well_formed.1.1.1.0.1) tt in
    subst (PlacesGiven (outline c.args.outer.now c.args.holes.now c.args.hole_lengths.now) c.args.size)
    (ap₂ (λ (m n : ℕ). places_answered c.from.result m n) (sym c.default.ensures.1.0) (sym c.default.ensures.1.1))
    (places_given_refused _ _ doubles held (c.from.ensures ∙ c.in-Err.ensures ∙ sym (drawn_is _ _ doubles held))
    (λ e. refusal_some c.in-Err.refusal (sym c.from.ensures ∙ e)))

pub count_places-requires : goal.count_places-requires
count_places-requires c = sym c.in-Ok.ensures

pub returns-in-Ok : goal.returns-in-Ok
returns-in-Ok c =
    let doubles : OutlineFits (outline c.args.outer.now c.args.holes.now c.args.hole_lengths.now) = record { outer = λ i h. c.type_inv.outer i; holes = λ i h. c.type_inv.holes i } in
    let held : T (fits binary64 c.args.size) = subst T (sym c.well_formed.1.1.1.0.1) tt in
    places_given_counted _ _ doubles held (c.in-Ok.ensures ∙ sym (drawn_is _ _ doubles held)) refl c.count_places.ensures
