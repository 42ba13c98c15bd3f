-- `outline_orientation::side` meets its contract: `side_is`. No limb grows by more than 18 squares of 2 ^ 28 at a call. Assumes nothing.
use mathlib.Core.Path.{◌∙◌}
use Prim.Native.Nat.{◌*◌}
use native.Mathlib.Omega.{arith}
use Rattle.outline_orientation.specs.Limbs.{B}
use Rattle.outline_orientation.specs.Orient.{small_zeros, side_is}
use Rattle.outline_orientation.proofs.side.Goals as goal

pub add_cross-requires : goal.add_cross-requires
add_cross-requires c = let p = c.coordinates_of-p.ensures in
    let q = c.coordinates_of-q.ensures in
    (p.at_x.digital, p.at_y.digital, q.at_x.digital, q.at_y.digital, small_zeros 77 _, small_zeros 77 _)

pub add_cross-requires-2 : goal.add_cross-requires-2
add_cross-requires-2 c = let q = c.coordinates_of-q.ensures in
    let r = c.coordinates_of-r.ensures in
    let s = c.add_cross.ensures.small 0 (small_zeros 77 0) (small_zeros 77 0) in
    (q.at_x.digital, q.at_y.digital, r.at_x.digital, r.at_y.digital, λ i. omega (arith, s.0 i), λ i. omega (arith, s.1 i))

pub add_cross-requires-3 : goal.add_cross-requires-3
add_cross-requires-3 c = let p = c.coordinates_of-p.ensures in
    let r = c.coordinates_of-r.ensures in
    let s = c.add_cross.ensures.small 0 (small_zeros 77 0) (small_zeros 77 0) in
    let t = c.add_cross-2.ensures.small (18 * (B * B)) s.0 s.1 in
    (r.at_x.digital, r.at_y.digital, p.at_x.digital, p.at_y.digital, t.0, t.1)

pub sign-requires : goal.sign-requires
sign-requires c =
    let s = c.add_cross.ensures.small 0 (small_zeros 77 0) (small_zeros 77 0) in
    let t = c.add_cross-2.ensures.small (18 * (B * B)) s.0 s.1 in
    let u = c.add_cross-3.ensures.small (36 * (B * B)) t.0 t.1 in
    (λ i. omega (arith, u.0 i), λ i. omega (arith, u.1 i))

pub returns : goal.returns
returns c =
    let p = c.coordinates_of-p in
    let q = c.coordinates_of-q in
    let r = c.coordinates_of-r in
    c.sign.ensures
    ∙ side_is c.args.a c.args.b c.args.c p.result q.result r.result p.ensures q.ensures r.ensures
    c.add_cross.ensures c.add_cross-2.ensures c.add_cross-3.ensures
