-- `numbers::floor_quotient` meets its contract. Assumes nothing.
use Rattle.std.proofs.Common.{◌≡◌, true, T, sym, subst, ap, ◌∙◌, w64}
use mir.ValLaws.{to_z-of_z}
use lib.Ieee.{Float, binary64, of_bits, neg, lt}
use lib.Ieee.Fits.{div-fits}
use Rattle.std.specs.Float.{float_to_signed, two_to, minus_two_to, ◌<ᶠ◌}
use Rattle.numbers.specs.Whole.{floor_quotient}
use Rattle.numbers.proofs.LibraryWhole.{floor_library, floor_above_zero, floor_far_below}
use Rattle.numbers.proofs.floor_quotient.Goals as goal
use Rattle.numbers.proofs.floor_quotient.Goals.{then-q-3-via-then-q-3, then-q-3-via-else-q-3+then-q-4}

-- the code's literals for 2^50
above : (q : Float) → lt (neg (of_bits binary64 0x4310_0000_0000_0000)) q ≡ true → minus_two_to 50 <ᶠ q
unfolding neg of_bits
above q e = subst T (sym e) tt

below : (q : Float) → lt q (of_bits binary64 0x4310_0000_0000_0000) ≡ true → q <ᶠ two_to 50
unfolding of_bits
below q e = subst T (sym e) tt

pub floor_of_small-requires : goal.floor_of_small-requires
floor_of_small-requires c = (above _ c.if-q.true, below _ c.if-q-2.true)

pub returns-then-q-2 : goal.returns-then-q-2
unfolding floor_quotient
returns-then-q-2 c = to_z-of_z w64 c.floor_of_small.result (record { sfits = c.floor_of_small.type_inv }) ∙ c.floor_of_small.ensures

-- a quotient above zero, and one below -2^52, whose cast alone is its floor
pub returns-then-q-3 : goal.returns-then-q-3
unfolding floor_quotient
returns-then-q-3 c =
    to_z-of_z w64 c.saturating_f64_to_i64.result (record { sfits = c.saturating_f64_to_i64.type_inv })
    ∙ c.saturating_f64_to_i64.ensures
    ∙ elim c.then-q-3.branch [
      | then-q-3-via-then-q-3 w ↦ floor_above_zero _ w.if-q-3.true
      | then-q-3-via-else-q-3+then-q-4 w ↦ floor_far_below _ (div-fits binary64 c.args.x c.args.b) w.if-q-4.true
    ]

pub returns : goal.returns
unfolding floor_quotient
returns c =
    to_z-of_z w64 c.saturating_f64_to_i64-2.result (record { sfits = c.saturating_f64_to_i64-2.type_inv })
    ∙ c.saturating_f64_to_i64-2.ensures
    ∙ ap (float_to_signed w64) c.floor.ensures
    ∙ floor_library _ (div-fits binary64 c.args.x c.args.b)
