-- `outline_nearest::is_moderate` meets its contract: what is at most 2^20 in size is finite.
use mathlib.Core.Path.{refl, sym, subst, ◌∙◌}
use lib.Dec.{T}
use Rattle.outline_nearest.proofs.PassLaws.{coordinate_moderate}
use Rattle.outline_nearest.proofs.is_moderate.Goals as goal

pub returns : goal.returns
returns c = λ e. coordinate_moderate _ (subst T (sym c.well_formed.0.1) tt) refl (sym c.abs_at_most.ensures ∙ e)
