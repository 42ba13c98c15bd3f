-- `cover_check::check_fit` meets its contract: `fits`.
use Rattle.std.proofs.Common.{sym, ◌∙◌, arith}
use Rattle.cover_check.proofs.Fits.{fits}
use Rattle.cover_check.proofs.check_fit.Goals as goal

pub overflow_mul-k : goal.overflow_mul-k
overflow_mul-k c = let l = fits _ _ (sym c.misfits.ensures ∙ c.if-misfits.false) in omega (arith, l.few)

pub any_beyond-requires : goal.any_beyond-requires
any_beyond-requires c = (fits _ _ (sym c.misfits.ensures ∙ c.if-misfits.false)).in_quads

pub any_node_unsound-requires : goal.any_node_unsound-requires
any_node_unsound-requires c = let l = fits _ _ (sym c.misfits.ensures ∙ c.if-misfits.false) in (l.in_xs, l.in_ys)
