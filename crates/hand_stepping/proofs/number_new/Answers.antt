-- `hand_stepping::number_new` meets its contract.
use Rattle.std.proofs.Common.{◌≡◌, ◌-◌, length, take, drop, arith, rules}
use Rattle.std.proofs.lemmas.Grind.{common_steps}
use Rattle.hand_steps.specs.Hand.{new_origins}
use Rattle.hand_stepping.proofs.Filled.{filled}
use Rattle.hand_stepping.proofs.number_new.Goals as goal

pub returns : goal.returns
unfolding new_origins
returns c =
    let o = c.args.origins.now in
    let j = c.args.m - c.args.n in
    let long : length (take j (drop c.args.n o)) ≡ j = grind (arith, common_steps) in
    rw (c.fill.ensures.after (λ y h. search rules), long) (filled _ c.args.n j o (omega arith))
