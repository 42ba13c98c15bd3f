-- `field_cross::bounds_of` meets its contract: the fold over the loops is one over the holes that begins with the outer loop. Assumes nothing.
use Rattle.std.specs.Prelude.{List, ℕ, refl, Float}
use Rattle.std.proofs.Common.{◌∙◌, rules, tests}
use Rattle.std.proofs.lemmas.Iterator.Consumers.{fold_from_yields_List}
use Rattle.outline.specs.Outline.{outline_of}
use Rattle.outline_loops.proofs.LoopList.{loops_yield, fold_loops}
use Rattle.field_cross.specs.declared.Bounds.{Bounds}
use Rattle.field_cross.specs.Grid.{no_bounds, loop_bounds, bounds}
use Rattle.field_cross.proofs.bounds_of.Goals as goal

pub returns : goal.returns
unfolding bounds
returns c =
    let o = outline_of c.args.domain in
    let turn : Bounds → ℕ × (ℕ × List Float) → Bounds = λ wide l. loop_bounds l.1.1 wide in
    rw (← c.none.ensures)
    (fold_from_yields_List _ turn _ c.fold.result c.fold.ensures.ran (loops_yield o c.loops_of.result (cc)) (λ a x b q k. search (rules, tests))
    ∙ fold_loops o (λ k s b. loop_bounds s b) turn _ (λ k start s b. refl))
