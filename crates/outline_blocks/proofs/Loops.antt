-- What a loop that an iterator over an outline's loops gives has of the blocks: the number of its first one, and that it is drawn. Assumes nothing.
use Rattle.std.specs.Prelude.{List, ◌≡◌, refl, ℕ, zero, suc, ◌+◌, ◌*◌, ◌≤◌, length, Float}
use Rattle.std.proofs.Common.{◌∙◌, sym, subst, arith}
use Rattle.outline.specs.Outline.{Outline, LoopPlace, loop_at, points, most_points, outline_refusal}
use Rattle.outline.proofs.OutlineBase.{shaped}
use Rattle.outline.proofs.Accepted.{accepted}
use Rattle.outline_loops.specs.declared.Loop.{Loop}
use Rattle.outline_loops.specs.Loops.{LoopListed}
use Rattle.outline_blocks.specs.Blocks.{first_block, first_block_at, Drawn, LoopDrawn, LoopFiles}
use Rattle.outline_blocks.proofs.BlockLaws.{first_few, first_at, hole_asks, drawn_loop, loop_few}
use Rattle.outline_blocks.proofs.FilingLaws.{LoopsFiled, loops_next}

-- what `first_block` asks
pub loop_asks : {o : Outline} (k : ℕ) {l : Loop} → LoopListed o k l → outline_refusal o ≡ 0 → (points o.outer ≤ most_points) × (l.start ≤ most_points) × (k ≤ most_points)
loop_asks {o} zero {l} each e = let few = (shaped o (accepted o e).shape).few in (omega arith, omega (arith, each.start), omega arith)
loop_asks {o} (suc k) {l} each e =
    let asked = hole_asks {o = o} {k = k} {start = l.start} (record { shape = (accepted o e).shape; at = each.start }) (omega (arith, each.within)) e in
    (asked.0, asked.1, omega (arith, asked.2))

module _ {o : Outline} {k : ℕ} {l : Loop} (each : LoopListed o k l) {first : ℕ} (f : first ≡ first_block_at o.outer k l.start) (e : outline_refusal o ≡ 0) where
  loop_first : first ≡ first_block o k
  loop_first = f ∙ first_at k (record { shape = (accepted o e).shape; within = each.within; at = each.start })

  -- what a function over the loop's blocks asks of the first one's number
  pub loop_most : first ≤ 2 * most_points
  loop_most = let few = (first_few o e k each.within).1 in omega (arith, loop_first)

  pub loop_asked : points l.points.now ≤ most_points
  loop_asked = rw each.points (loop_few o e k each.within)

  pub loop_filed : {before after : List ℕ} → LoopsFiled o before k → LoopFiles l.points.now before after first → LoopsFiled o after (k + 1)
  loop_filed {before} {after} filed n =
      loops_next (accepted o e).shape each.within filed
      (subst (LoopFiles (loop_at o k) before after) loop_first (subst (λ (s : List Float). LoopFiles s before after first) each.points n))

  pub loop_drawn : {blocks : List ℕ} → Drawn o blocks → LoopDrawn l.points.now blocks first
  loop_drawn {blocks} d = rw each.points (subst (LoopDrawn (loop_at o k) blocks) (sym loop_first) (drawn_loop d k each.within))
