-- `Segment::is_parted` meets its contract: `parted_line` and `parted_rest`.
use Rattle.std.specs.Prelude.{◌≡◌, true, false, refl}
use Rattle.std.proofs.Common.{◌∙◌}
use Rattle.std.specs.declared.cmp.Ordering.{Ordering}
use Rattle.std.specs.declared.cmp.Ordering.TheVariants.{Less, Equal, Greater}
use Rattle.std.specs.Ordering.{is_ne}
use Rattle.outline_orientation.specs.Limbs.{order_number}
use Rattle.outline_orientation.specs.Orient.{is_same}
use Rattle.outline_soundness.specs.AcceptedLoops.{accepted_within}
use Rattle.outline_soundness.proofs.SegmentLaws.{parted_line, parted_rest}
use Rattle.outline_soundness.proofs.Segment.is_parted.Goals as goal

sloped : (o : Ordering) → is_ne o ≡ true → order_number o ≡ 0 → ⊥
sloped Less e z = cc
sloped Equal e z = cc
sloped Greater e z = cc

level : (o : Ordering) → is_ne o ≡ false → order_number o ≡ 0
level Less e = cc
level Equal e = refl
level Greater e = cc

pub side-first-requires : goal.side-first-requires
side-first-requires c = let s = c.args.self in (accepted_within s.start, accepted_within s.end, accepted_within c.args.other.start)

pub side-requires : goal.side-requires
side-requires c = let s = c.args.self in (accepted_within s.start, accepted_within s.end, accepted_within c.args.other.end)

pub returns-then-is_ne : goal.returns-then-is_ne
returns-then-is_ne c =
    c.eq.ensures ∙ is_same _ _ ∙ parted_rest _ _ _ _ c.side-first.ensures c.side.ensures (sloped _ (rw c.is_ne.ensures at c.if-is_ne.true))

pub returns-else-is_ne : goal.returns-else-is_ne
returns-else-is_ne c =
    c.if-is_ne.false ∙ parted_line _ _ _ _ c.side-first.ensures (level _ (rw c.is_ne.ensures at c.if-is_ne.false))
