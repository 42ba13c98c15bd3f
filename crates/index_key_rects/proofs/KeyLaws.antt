-- What holds of the definitions of proofs/KeyBase.antt.
use Rattle.std.specs.Prelude.{true, ◌≡◌, ℤ, pos, negsuc, ◌+ℤ◌, Float}
use Rattle.std.specs.Int.{int_min, int_max}
use Rattle.std.proofs.Common.{arith}
use Rattle.std.proofs.lemmas.Int.{ints}
use Rattle.std.proofs.lemmas.Bool.Decides.{nat_tests}
use Rattle.laws.specs.Tests.{both}
use Rattle.outline.specs.declared.Point.{Point}
use Rattle.geometry.specs.Keys.{near_keys}
use Rattle.geometry.specs.Keys.{key_of, is_too_close, too_close_at}
use Rattle.index_key_rects.specs.Rects.{shifted, rect_around, node_rect, Meets}
use Rattle.index_key_rects.proofs.KeyBase.{near_meets}

-- ---- what the code computes

pub shifted_clamped : (k : ℤ) → int_max (negsuc 1048575) (int_min k (pos 1048576)) +ℤ pos 1048578 ≡ pos (shifted k)
unfolding shifted
shifted_clamped (pos n) = grind (arith, ints, nat_tests)
shifted_clamped (negsuc n) = grind (arith, ints, nat_tests)

-- ---- what the paving's queries look for

-- a node too close to p is under the keys round p's
pub close_meets : (size : Float) (p q : Point) → is_too_close size p q ≡ true → Meets (node_rect size q) (rect_around (key_of size p))
unfolding is_too_close too_close_at node_rect
close_meets size p q e = near_meets (key_of size p) (key_of size q) (both (near_keys (key_of size p) (key_of size q)) _ e).0
