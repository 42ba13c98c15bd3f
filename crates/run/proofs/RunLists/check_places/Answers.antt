-- `RunLists::check_places` meets its contract: of the lists of nodes the shortest counts, up to the most. Assumes nothing.
use Rattle.std.specs.Prelude.{◌≡◌, ℕ, min, length, refl}
use Rattle.std.proofs.Common.{arith}
use Rattle.outline.specs.Outline.{outline_of}
use Rattle.front.specs.State.{fewest, most_nodes}
use Rattle.run.specs.Lent.{lent_in}
use Rattle.run.proofs.Laws.{run_number_is}
use Rattle.run.proofs.RunLists.check_places.Goals as goal

-- places past the most count once
capped : (n f most : ℕ) → n ≡ min f most → min n most ≡ min f most
capped n f most e = omega (arith, e)

pub returns : goal.returns
returns c =
    let l = c.args.self.now in
    let few = fewest (length l.xs.now) (length l.ys.now) (length l.next.now) (length l.prev.now) c.snapshot_places.result in
    run_number_is (outline_of c.args.domain) c.args.settings (lent_in l) _ c.snapshot_places.ensures _ few _ refl refl
    (rw (c.min-field.ensures, capped _ few most_nodes c.node_places-nodes.ensures) at c.check_run.ensures)
