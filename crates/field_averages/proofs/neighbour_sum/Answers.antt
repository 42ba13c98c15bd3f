-- `field_averages::neighbour_sum` meets its contract. Assumes nothing.
use Rattle.std.proofs.Common.{◌≡◌, refl, ◌∙◌, true, false, Bool, ltb, ◌+◌, ◌-◌, arith, lt-ltb, le-ltb}
use Rattle.outline.specs.declared.Point.{Point}
use Rattle.outline.specs.Outline.{point, point_at}
use Rattle.numbers.specs.Float.{zero_f}
use Rattle.field_direction.specs.Cells.{row_over}
use Rattle.field_averages.specs.Average.{plus_if, neighbour_sum}
use Rattle.field_averages.proofs.neighbour_sum.Goals as goal
use Rattle.field_averages.proofs.neighbour_sum.Goals.{Joined-j-gt0, then-i-gt0, else-i-gt0, then-i-nx, else-i-nx, then-j-gt0, else-j-gt0}

-- a neighbour that is there, and one that isn't
added : {t : Bool} {r : Point} (v sum : Point) → t ≡ true → r ≡ plus_if true v sum → r ≡ plus_if t v sum
added v sum e f = rw e f

absent : {t : Bool} {r : Point} (v : Point) {sum : Point} → t ≡ false → r ≡ sum → r ≡ plus_if t v sum
unfolding plus_if
absent v e f = rw e f

-- the sum of the first three
three : (c : Joined-j-gt0) → c.if-j-gt0.sum ≡ plus_if (ltb 0 c.args.node.j) (point_at c.args.field.values.now (c.args.node.id - c.args.field.grid.nx))
    (plus_if (ltb (c.args.node.i + 1) c.args.field.grid.nx) (point_at c.args.field.values.now (c.args.node.id + 1))
    (plus_if (ltb 0 c.args.node.i) (point_at c.args.field.values.now (c.args.node.id - 1)) (point zero_f zero_f)))
three c =
    let g = c.args.field.grid in
    let values = c.args.field.values.now in
    let node = c.args.node in
    let left : c.if-i-gt0.sum ≡ plus_if (ltb 0 node.i) (point_at values (node.id - 1)) (point zero_f zero_f)
    = elim c.if-i-gt0.branch [
      | then-i-gt0 w ↦ w.sum-is ∙ added _ _ (lt-ltb _ _ w.if-i-gt0.true) w.plus_node-sum.ensures
      | else-i-gt0 w ↦ w.sum-is ∙ absent _ (le-ltb _ _ w.if-i-gt0.false) refl
    ] in
    let right : c.if-i-nx.sum ≡ plus_if (ltb (node.i + 1) g.nx) (point_at values (node.id + 1)) c.if-i-gt0.sum
    = elim c.if-i-nx.branch [
      | then-i-nx w ↦ w.sum-is ∙ added _ _ (lt-ltb _ _ w.if-i-nx.true) w.plus_node-sum-then-i-nx.ensures
      | else-i-nx w ↦ w.sum-is ∙ absent _ (le-ltb _ _ w.if-i-nx.false) refl
    ] in
    rw (← left, ← right)
    (elim c.if-j-gt0.branch [
      | then-j-gt0 w ↦ w.sum-is ∙ added _ _ (lt-ltb _ _ w.if-j-gt0.true) w.plus_node-sum-then-j-gt0.ensures
      | else-j-gt0 w ↦ w.sum-is ∙ absent _ (le-ltb _ _ w.if-j-gt0.false) refl
    ])

pub plus_node-sum-requires-then-j-field : goal.plus_node-sum-requires-then-j-field
plus_node-sum-requires-then-j-field c =
    omega (arith, c.requires.at, c.requires.column, c.requires.room, row_over c.args.node.j c.args.field.grid.ny c.args.field.grid.nx c.if-j-field.true)

pub returns-then-j-field : goal.returns-then-j-field
unfolding neighbour_sum
returns-then-j-field c =
    rw (← c.requires.at, ← three (goal.at.returns-then-j-field c).Joined-j-gt0)
    (added _ _ (lt-ltb _ _ c.if-j-field.true) c.plus_node-sum-then-j-field.ensures)

pub returns-else-j-field : goal.returns-else-j-field
unfolding neighbour_sum
returns-else-j-field c =
    rw (← c.requires.at, ← three (goal.at.returns-else-j-field c).Joined-j-gt0) (absent _ (le-ltb _ _ c.if-j-field.false) refl)
