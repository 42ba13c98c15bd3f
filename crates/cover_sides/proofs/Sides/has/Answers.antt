-- `Sides::has` meets its contract: `has_is`.
use Rattle.std.proofs.Common.{◌∙◌}
use Rattle.std.proofs.lemmas.List.Sorted.{searched}
use Rattle.cover_sides.proofs.Searching.{has_is}
use Rattle.cover_sides.proofs.Sides.has.Goals as goal

pub returns : goal.returns
returns c =
    c.is_ok.ensures.value
    ∙ has_is _ _ c.args.self.now.listed _ _ c.ranges.v.fits _ c.key.ensures _
    (searched _ _ _ c.binary_search.ensures.position c.args.self.now.listed.up)
