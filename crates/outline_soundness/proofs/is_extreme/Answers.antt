-- `is_extreme` meets its contract: Rust's `<` is that of the units.
use Rattle.std.proofs.Common.{arith}
use Rattle.std.proofs.lemmas.Grind.{common_steps}
use Rattle.outline_sound.specs.FoldsLaws.{is_extreme}
use Rattle.outline_soundness.proofs.SegmentLaws.{lt_lt_z}
use Rattle.outline_soundness.proofs.is_extreme.Goals as goal
use Rattle.outline_soundness.proofs.is_extreme.Goals.{then-u-v, else-u-v}

pub returns-then-w-v : goal.returns-then-w-v
unfolding is_extreme
returns-then-w-v c =
    let p = c.requires in
    let up = lt_lt_z p.0 p.1 in
    let down = lt_lt_z p.2 p.1 in
    elim c.if-u-v.branch [
      | then-u-v w ↦ grind (arith, common_steps)
      | else-u-v w ↦ grind (arith, common_steps)
    ]

pub returns-then-v-u : goal.returns-then-v-u
unfolding is_extreme
returns-then-v-u c =
    let p = c.requires in
    let up = lt_lt_z p.0 p.1 in
    let down = lt_lt_z p.2 p.1 in
    let back = lt_lt_z p.1 p.0 in
    let on = lt_lt_z p.1 p.2 in
    elim c.if-u-v.branch [
      | then-u-v w ↦ grind (arith, common_steps)
      | else-u-v w ↦ grind (arith, common_steps)
    ]

pub returns-else-v-u : goal.returns-else-v-u
unfolding is_extreme
returns-else-v-u c =
    let p = c.requires in
    let up = lt_lt_z p.0 p.1 in
    let down = lt_lt_z p.2 p.1 in
    let back = lt_lt_z p.1 p.0 in
    elim c.if-u-v.branch [
      | then-u-v w ↦ grind (arith, common_steps)
      | else-u-v w ↦ grind (arith, common_steps)
    ]
