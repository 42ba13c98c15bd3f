-- `index_key_rects::rect_of` meets its contract, by that of `shifted`.
use native.Mathlib.Omega.{arith}
use Rattle.geometry.proofs.KeyLaws.{back_of}
use Rattle.index_key_rects.specs.Rects.{rect_of}
use Rattle.index_key_rects.proofs.rect_of.Goals as goal

pub returns : goal.returns
unfolding rect_of
returns c =
    let r = c.args.r in
    let first = rw (back_of r.k.i (omega arith)) at c.shifted-ki.ensures in
    let second = rw (back_of r.l.i (omega arith)) at c.shifted-li.ensures in
    let third = rw (back_of r.k.j (omega arith)) at c.shifted-kj.ensures in
    let fourth = rw (back_of r.l.j (omega arith)) at c.shifted-lj.ensures in
    rw (
      c.min.ensures,
      c.max.ensures,
      c.min-2.ensures,
      c.max-2.ensures,
      first,
      second,
      third,
      fourth,
    )
