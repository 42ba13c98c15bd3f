-- `numbers::root_by_digits` meets its contract: each turn is one of `Digits`, and after 53 turns the remainder says whether the
-- root is nearer to `root` or to the next number. Assumes nothing.
use Rattle.std.proofs.Common.{◌≡◌, ◌*◌, ◌^◌, ◌<◌, arith}
use Rattle.numbers.proofs.Digits.{Turn, turn_zero, turn_one, short_lt, all, near_this, near_next}
use Rattle.numbers.proofs.root_by_digits.Goals as goal
use Rattle.numbers.proofs.root_by_digits.Goals.{After-loop-turn, In-loop-turn, then-t-rem, else-t-rem}

-- within the loop's body the root is below 2 ^ 53
room : (c : In-loop-turn) → c.loop-turn.root < 2 ^ 53
room c = short_lt c.loop-turn.turn c.loop-turn.root (omega arith) c.loop-turn.invariant.short

-- after it all of s has come down
done : (c : After-loop-turn) → Turn c.args.s 53 c.loop-turn.root c.loop-turn.rem c.loop-turn.rest
done c = let e : c.loop-turn.turn ≡ 53 = omega arith in rw e at c.loop-turn.invariant

pub loop-turn-init : goal.loop-turn-init
loop-turn-init c = record { whole = omega arith; small = omega arith; short = omega arith; left = omega arith }

pub overflow_mul-rem : goal.overflow_mul-rem
overflow_mul-rem c = omega (arith, room (goal.at.overflow_mul-rem c).In-loop-turn)

pub overflow_add-rem : goal.overflow_add-rem
overflow_add-rem c = omega (arith, room (goal.at.overflow_add-rem c).In-loop-turn)

pub overflow_mul-t : goal.overflow_mul-t
overflow_mul-t c = omega (arith, room (goal.at.overflow_mul-t c).In-loop-turn)

pub overflow_add-t : goal.overflow_add-t
overflow_add-t c = omega (arith, room (goal.at.overflow_add-t c).In-loop-turn)

pub overflow_mul-root : goal.overflow_mul-root
overflow_mul-root c = omega (arith, room (goal.at.overflow_mul-root c).In-loop-turn)

pub overflow_add-root : goal.overflow_add-root
overflow_add-root c = omega (arith, room (goal.at.overflow_add-root c).In-loop-turn)

pub overflow_mul-root-else-t-rem : goal.overflow_mul-root-else-t-rem
overflow_mul-root-else-t-rem c = omega (arith, room (goal.at.overflow_mul-root-else-t-rem c).In-loop-turn)

pub loop-turn-preserved : goal.loop-turn-preserved
loop-turn-preserved c =
    let s = c.args.s in
    elim c.if-t-rem.branch [
      | then-t-rem w ↦ rw (w.root-is, w.rem-is) (turn_one s c.loop-turn.turn c.loop-turn.root c.loop-turn.rem c.loop-turn.rest c.loop-turn.invariant w.if-t-rem.true)
      | else-t-rem w ↦ rw (w.root-is, w.rem-is) (turn_zero s c.loop-turn.turn c.loop-turn.root c.loop-turn.rem c.loop-turn.rest c.loop-turn.invariant w.if-t-rem.false)
    ]

pub overflow_add-result : goal.overflow_add-result
overflow_add-result c = omega (arith, (done (goal.at.overflow_add-result c).After-loop-turn).short)

pub returns-then-root-rem : goal.returns-then-root-rem
returns-then-root-rem c =
    near_next (c.args.s * 2 ^ 52) c.loop-turn.root c.loop-turn.rem
    (all c.args.s c.loop-turn.root c.loop-turn.rem c.loop-turn.rest (done (goal.at.returns-then-root-rem c).After-loop-turn))
    c.loop-turn.invariant.small c.if-root-rem.true

pub returns-else-root-rem : goal.returns-else-root-rem
returns-else-root-rem c =
    near_this (c.args.s * 2 ^ 52) c.loop-turn.root c.loop-turn.rem
    (all c.args.s c.loop-turn.root c.loop-turn.rem c.loop-turn.rest (done (goal.at.returns-else-root-rem c).After-loop-turn))
    (omega arith) c.loop-turn.invariant.small c.if-root-rem.false
