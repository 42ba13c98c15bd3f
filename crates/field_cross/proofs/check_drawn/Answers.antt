-- `field_cross::check_drawn` meets its contract: 8 and 9 never refuse there.
use mathlib.Core.Path.{sym, ◌∙◌, subst}
use lib.Dec.{T}
use Rattle.field_cross.proofs.FieldLaws.{drawn_is}
use Rattle.field_cross.proofs.check_drawn.Goals as goal

pub returns : goal.returns
returns c =
    c.check_field.ensures
    ∙ drawn_is _ _ (record { outer = λ i h. c.args.domain.doubles.outer i; holes = λ i h. c.args.domain.doubles.holes i })
    (subst T (sym c.well_formed.1.0.1) tt)
