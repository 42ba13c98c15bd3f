-- `index_key_rects::rect_at` meets its contract, by that of `shifted`.
use Rattle.geometry.proofs.KeyLaws.{back_of}
use Rattle.index_key_rects.specs.Rects.{rect_at}
use Rattle.index_key_rects.proofs.rect_at.Goals as goal

pub returns : goal.returns
unfolding rect_at
returns c =
    let k = c.args.k in
    let first = rw (back_of k.i c.struct_told-1.given.0.1) at c.shifted-i.ensures in
    let second = rw (back_of k.j c.struct_told-2-1.given.1.0.1) at c.shifted-j.ensures in
    rw (first, second)
