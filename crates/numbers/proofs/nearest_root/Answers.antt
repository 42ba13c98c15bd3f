-- `numbers::nearest_root` meets its contract: where q's square is near enough it shows which of q - 1, q and q + 1 is nearest
-- (`Square`), and otherwise `root_by_digits` answers. Assumes nothing.
use Rattle.std.proofs.Common.{◌*◌, ◌^◌, inl, inr, arith}
use Rattle.numbers.proofs.Square.{high_square, cross_product, low_square, lo_lt, moved, moved_is, Chosen, choose}
use Rattle.numbers.proofs.nearest_root.Goals as goal
use Rattle.numbers.proofs.nearest_root.Goals.{Joined-e-q-le216172782113783808, then-q-e, else-q-e, then-e-q-le216172782113783808, else-e-q-le216172782113783808}

chosen : (c : Joined-e-q-le216172782113783808)
    → Chosen (c.args.s * 2 ^ 52) c.args.q
    c.if-q-e.up c.if-e-q-le216172782113783808.down
chosen c =
    let s = c.args.s in
    let q = c.args.q in
    choose (s * 2 ^ 52) q (moved s q) (moved_is s q c.if-h-s.true) c.if-e-q.true c.if-e-q-gt216172782113783810.true
    c.if-q-e.up c.if-e-q-le216172782113783808.down
    (elim c.if-q-e.branch [ then-q-e w ↦ inl (w.if-q-e.true, w.up-is) | else-q-e w ↦ inr (w.if-q-e.false, w.up-is) ])
    (elim c.if-e-q-le216172782113783808.branch [
      | then-e-q-le216172782113783808 w ↦ inl (w.if-e-q-le216172782113783808.true, w.down-is)
      | else-e-q-le216172782113783808 w ↦ inr (w.if-e-q-le216172782113783808.false, w.down-is)
    ])

pub overflow_mul-m : goal.overflow_mul-m
overflow_mul-m c = omega (arith, cross_product c.args.q c.requires.2)

pub overflow_mul-h : goal.overflow_mul-h
overflow_mul-h c = omega (arith, high_square c.args.q c.requires.2)

pub overflow_mul-h-2 : goal.overflow_mul-h-2
overflow_mul-h-2 c = omega (arith, high_square c.args.q c.requires.2)

pub overflow_add-h : goal.overflow_add-h
overflow_add-h c = omega (arith, high_square c.args.q c.requires.2, cross_product c.args.q c.requires.2)

pub overflow_mul-l-2 : goal.overflow_mul-l-2
overflow_mul-l-2 c = omega (arith, low_square c.args.q)

pub overflow_add-l : goal.overflow_add-l
overflow_add-l c = omega (arith, lo_lt c.args.q)

pub overflow_sub-e : goal.overflow_sub-e
overflow_sub-e c = omega (arith, lo_lt c.args.q)

pub overflow_add-result : goal.overflow_add-result
overflow_add-result c = omega (arith, (chosen (goal.at.overflow_add-result c).Joined-e-q-le216172782113783808).few)

pub overflow_sub-result : goal.overflow_sub-result
overflow_sub-result c = (chosen (goal.at.overflow_sub-result c).Joined-e-q-le216172782113783808).less

pub returns-then-e-q-gt216172782113783810 : goal.returns-then-e-q-gt216172782113783810
returns-then-e-q-gt216172782113783810 c = (chosen (goal.at.returns-then-e-q-gt216172782113783810 c).Joined-e-q-le216172782113783808).near
