-- `index::later_rows` meets its contract: the rows passed have no place under them.
use mathlib.Core.List.{List, ◌++◌}
use mathlib.Core.Path.{◌≡◌, sym, ap, ◌∙◌}
use Prim.Native.Nat.{ℕ, ◌+◌, ◌-◌}
use native.Mathlib.Omega.{arith}
use Rattle.index_pools.specs.Pool.{span}
use Rattle.index.specs.Walk.{columns, rows}
use Rattle.index.proofs.AcrossLaws.{across_more, across_end}
use Rattle.index.proofs.CursorLaws.{row_stands, row_walked, stands_none, stands_same, none_over}
use Rattle.index.proofs.cursors.later_rows.Goals as goal
use Rattle.index.proofs.cursors.later_rows.Goals.{In-loop-k}

-- the next row, and then the later ones
more : (c : In-loop-k)
    → let pool = c.args.pool.now in let r = c.args.r in let j = c.loop-k.k in
    rows pool r (r.high - c.args.j) (c.args.j + 1)
    ≡ columns pool (j + 1) (span r.left r.right) r.left ++ rows pool r (r.high - (j + 1)) (j + 1 + 1)
more c =
    let args = c.args in
    c.loop-k.invariant
    ∙ across_more (λ j. columns args.pool.now j (span args.r.left args.r.right) args.r.left) c.loop-k.k args.r.high
    c.loop-k-test.true

pub in_row-requires : goal.in_row-requires
in_row-requires c = (c.requires, omega arith)

pub returns-in-Some : goal.returns-in-Some
returns-in-Some c =
    let found = c.in-Some.ensures in
    record {
      rest = stands_same (sym (more (goal.at.returns-in-Some c).In-loop-k)) (row_stands c.args.r found.rest found.place);
      place = found.place;
    }

pub loop-k-preserved : goal.loop-k-preserved
loop-k-preserved c =
    let args = c.args in
    let j = c.loop-k.k in
    more (goal.at.loop-k-preserved c).In-loop-k
    ∙ ap (λ (l : List ℕ). l ++ rows args.pool.now args.r (args.r.high - (j + 1)) (j + 1 + 1))
    (row_walked c.in_default.ensures.rest none_over)

pub returns-clause-rest : goal.returns-clause-rest
returns-clause-rest c = stands_none none_over (c.loop-k.invariant ∙ across_end _ _ _ (omega (arith, c.loop-k-test.false)))
