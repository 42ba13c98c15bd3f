-- `index_pools::takes` meets its contract, test by test.
use Rattle.std.proofs.Common.{sym, ◌∙◌, arith}
use borrow.Author.Tests.{eqb-true, eqb-false, leb-true}
use Rattle.index_pools.specs.FileLaws.{takes_short, takes_other, takes_next}
use Rattle.index_pools.proofs.takes.Goals as goal
use Rattle.index_pools.proofs.takes.Goals.{then-pool-ge4, else-pool-ge4}

pub returns-then-filed-own : goal.returns-then-filed-own
returns-then-filed-own c =
    elim c.if-pool-ge4.branch [
      | then-pool-ge4 w ↦ c.has_room.ensures
          ∙ sym (takes_next _ _ _ w.if-pool-ge4.true (sym w.filed.ensures ∙ eqb-true _ _ (sym w.value-is ∙ c.if-filed-own.true)))
      | else-pool-ge4 w ↦ absurd (omega (arith, leb-true 4 _ (sym w.value-is ∙ c.if-filed-own.true)))
    ]

pub returns-else-filed-own : goal.returns-else-filed-own
returns-else-filed-own c =
    c.if-filed-own.false ∙ elim c.if-pool-ge4.branch [
      | then-pool-ge4 w ↦ sym (takes_other _ _ _ w.if-pool-ge4.true
          (λ e. eqb-false _ _ (sym w.value-is ∙ c.if-filed-own.false) (w.filed.ensures ∙ e)))
      | else-pool-ge4 w ↦ sym (takes_short _ _ _ w.if-pool-ge4.false)
    ]
