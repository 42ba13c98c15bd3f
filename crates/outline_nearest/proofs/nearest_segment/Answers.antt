-- `outline_nearest::nearest_segment` meets its contract: the search from the guess is taken where it ends below the guess (`guess_taken`), and else the whole one.
use mathlib.Core.Path.{sym, subst}
use native.Mathlib.Omega.{arith}
use borrow.Author.Tests.{not-false}
use lib.Dec.{T}
use Rattle.outline_nearest.proofs.GuessLaws.{guess_taken}
use Rattle.outline_nearest.proofs.nearest_segment.Goals as goal

-- no blocks
pub search_outline-requires : goal.search_outline-requires
search_outline-requires c =
    λ some. absurd (omega arith)

pub search_all-requires : goal.search_all-requires
search_all-requires c =
    λ some. c.is_near.ensures (not-false _ c.if-not-is_near.false-raw)

pub returns-then-near-sqrt_f64 : goal.returns-then-near-sqrt_f64
returns-then-near-sqrt_f64 c =
    guess_taken _ _ c.search_start-start.ensures _ (subst T (sym c.limit-squared.type_inv) tt)
    c.search_all.ensures c.sqrt_f64.ensures c.if-near-sqrt_f64.true

pub search_outline-requires-2 : goal.search_outline-requires-2
search_outline-requires-2 c =
    λ some. c.is_near.ensures (not-false _ c.if-not-is_near.false-raw)
