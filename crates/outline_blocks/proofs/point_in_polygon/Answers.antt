-- `point_in_polygon` meets its contract: the loop's invariant is `ByBlocks` of the definition's turn.
use Rattle.std.specs.Prelude.{T}
use Rattle.std.proofs.Common.{true≢false, sym, ◌∙◌, subst, arith, ltb-true}
use Rattle.std.proofs.lemmas.Bool.{not-false}
use Rattle.outline.specs.Queries.{point_in_polygon}
use Rattle.outline_blocks.proofs.BetweenLaws.{blocks_start, blocks_look, blocks_pass, blocks_end, passed_start, passed_more}
use Rattle.outline_blocks.proofs.BlockLaws.{block_there, block_filed}
use Rattle.outline_blocks.proofs.RayLaws.{block_none}
use Rattle.outline_blocks.proofs.point_in_polygon.Goals as goal
use Rattle.outline_blocks.proofs.point_in_polygon.Goals.{then-is_listed, else-is_listed, then-not-ray_misses, else-not-ray_misses}

pub loop-c-init : goal.loop-c-init
loop-c-init c = passed_start (blocks_start _ _ _ _)

pub ray_misses-requires : goal.ray_misses-requires
ray_misses-requires c =
    let listed = ltb-true _ _ (sym c.is_listed.ensures ∙ c.if-is_listed.true) in
    block_there (block_filed c.requires.0.filed c.loop-c.invariant.place (omega arith) listed) listed

pub crossings-inside-requires : goal.crossings-inside-requires
crossings-inside-requires c = rw c.block_end.ensures (omega arith, omega arith)

pub loop-c-preserved : goal.loop-c-preserved
loop-c-preserved c =
    let inv = c.loop-c.invariant in
    passed_more _
    (elim c.if-not-ray_misses.branch [
      | then-not-ray_misses w ↦ blocks_look _ _ inv (omega arith) (w.inside-is ∙ rw w.block_end.ensures at w.crossings-inside.ensures)
      | else-not-ray_misses w ↦ rw w.inside-is (elim c.if-is_listed.branch [
        | then-is_listed v ↦ blocks_pass _ _ inv (omega arith)
            (block_none (record { x = subst T (sym c.well_formed.0.1.1.0.1) tt; y = subst T (sym c.well_formed.0.1.1.1.0.1) tt })
            c.requires.0 inv.place (omega arith) (ltb-true _ _ (sym c.is_listed.ensures ∙ v.if-is_listed.true))
            (sym v.ray_misses.ensures ∙ sym v.value-is ∙ not-false _ w.if-not-ray_misses.false-raw) _)
        | else-is_listed v ↦ absurd (true≢false (sym (not-false _ w.if-not-ray_misses.false-raw) ∙ v.value-is ∙ v.if-is_listed.false))
      ])
    ])

pub returns : goal.returns
unfolding point_in_polygon
returns c = blocks_end _ _ c.loop-c.invariant (omega arith)
