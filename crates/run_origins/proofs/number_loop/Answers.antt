-- `run_origins::number_loop` meets its contract: the count isn't stopped, and so many places are written.
use Rattle.std.specs.Prelude.{◌≡◌, ℕ, ◌+◌, ◌-◌, min, replicate}
use Rattle.std.proofs.Common.{ap, ap₂, ◌∙◌, arith}
use Rattle.std.proofs.lemmas.List.Edits.{sets}
use borrow.Rule.Slice.PartMut.{mid_len, put_mid}
use Rattle.front.specs.Sampling.{loop_parts}
use Rattle.front_boundary.specs.Counting.{most, even_up}
use Rattle.run_origins.proofs.Filled.{fill_sets}
use Rattle.run_origins.proofs.number_loop.Goals as goal

pub returns : goal.returns
returns c =
    let n = c.args.n in
    let count = c.loop_nodes-count.result in
    let parts : min (loop_parts c.args.size c.args.s.now) most ≡ loop_parts c.args.size c.args.s.now = omega arith in
    let is : count ≡ even_up (loop_parts c.args.size c.args.s.now) = c.loop_nodes-count.ensures ∙ ap even_up parts in
    let long : n + count - n ≡ count = omega arith in
    let filled = c.fill.ensures.after (λ y h. h) in
    rw long (
      ap (λ (k : ℕ). n + k) is,
      fill_sets c.args.origins.now _ n count c.args.number (filled ∙ ap (λ (k : ℕ). replicate k c.args.number) (mid_len n (n + count) c.args.origins.now (omega (arith, is)) ∙ long)) (omega (arith, is))
          ∙ ap (λ (k : ℕ). sets c.args.origins.now n (replicate k c.args.number)) is,
    )
