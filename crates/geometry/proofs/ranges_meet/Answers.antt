-- `geometry::ranges_meet` meets its contract: the library's order of whole numbers is the keys' (`KeyLaws`).
use Rattle.std.proofs.Common.{sym, ◌∙◌}
use Rattle.geometry.proofs.KeyLaws.{back, back_of, ends_meet}
use Rattle.geometry.specs.Keys.{ranges_meet}
use Rattle.geometry.proofs.ranges_meet.Goals as goal

pub returns-then-min-max : goal.returns-then-min-max
unfolding ranges_meet
returns-then-min-max c =
    let s = c.args in
    let r = c.ranges in
    let low = rw (back r.k, back r.l) at c.min.ensures.value in
    let high = rw (back r.m, back r.n) at c.max.ensures.value in
    let low_2 = rw (back r.m, back r.n) at c.min-then-min-max.ensures.value in
    let high_2 = rw (back r.k, back r.l) at c.max-then-min-max.ensures.value in
    let t = rw (back_of c.min.result c.min.type_inv, back_of c.max.result c.max.type_inv) at c.if-min-max.true in
    rw (sym (ends_meet s.k s.l s.m s.n low high) ∙ t, back_of c.min-then-min-max.result c.min-then-min-max.type_inv, back_of c.max-then-min-max.result c.max-then-min-max.type_inv)
    (ends_meet s.m s.n s.k s.l low_2 high_2)

pub returns-else-min-max : goal.returns-else-min-max
unfolding ranges_meet
returns-else-min-max c =
    let s = c.args in
    let r = c.ranges in
    let low = rw (back r.k, back r.l) at c.min.ensures.value in
    let high = rw (back r.m, back r.n) at c.max.ensures.value in
    let t = rw (back_of c.min.result c.min.type_inv, back_of c.max.result c.max.type_inv) at c.if-min-max.false in
    rw (sym (ends_meet s.k s.l s.m s.n low high) ∙ t, back_of c.min.result c.min.type_inv, back_of c.max.result c.max.type_inv) t
