-- `order_checks::fill_places` meets its contract: the entries that the iterator has left aren't filled yet, and the others are.
use Rattle.std.specs.Prelude.{ℕ, List, [], length, get_or}
use Rattle.std.proofs.Common.{sym, ap, ◌∙◌, arith, length-set, append-nil}
use Rattle.std.proofs.lemmas.List.{get_or-replicate}
use Rattle.order_checks.proofs.Places.{Emptied, filled_none}
use Rattle.order_checks.proofs.Filling.{filling_next, filling_end}
use Rattle.order_checks.proofs.fill_places.Goals as goal

pub loop-p-init : goal.loop-p-init
loop-p-init c =
    let l = c.args.order.now in
    let e = c.fill.ensures.after (λ y h. h) in
    let E : Emptied c.fill.new.self (length l) (length c.fill.new.self) =
    record { within = omega arith; at = λ i h. ap (λ (l : List ℕ). get_or l i 0) e ∙ get_or-replicate _ i _ 0 (omega (arith, c.fill.ensures.len)) } in
    rw (c.into_iter-p-iterator.ensures.into_iter_gives, c.rev-p-items.ensures.source, c.enumerate.ensures.source, c.iter.ensures.rest)
    (record { after = []; whole = sym (append-nil l); filled = filled_none _ _ E }, c.enumerate.ensures.count, c.fill.ensures.len)

pub loop-p-preserved : goal.loop-p-preserved
loop-p-preserved c =
    let step = c.in-Some.ensures.steps in
    let kept = c.loop-p.invariant in (
      rw c.set_place.ensures (filling_next _ _ _ _ _ _ kept.0 step.1.0 (omega (arith, step.1.1, kept.1))),
      step.0 ∙ kept.1,
      ap length c.set_place.ensures ∙ simp length-set kept.2,
    )

pub returns : goal.returns
returns c = filling_end c.loop-p.invariant.0 c.in-None.ensures.steps.1.0
