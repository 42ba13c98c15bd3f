-- `hand_mesh_check::any_node_unsound` meets its contract.
use Rattle.std.specs.Prelude.{Bool, ◌||◌, ◌≡◌, ℕ, get_or}
use Rattle.std.specs.Float.{nan}
use Rattle.laws.specs.Loop.{any_up}
use Rattle.front.specs.declared.Mesh.{Mesh}
use Rattle.hand_mesh_check.specs.Check.{coordinate_unsound, node_unsound}
use Rattle.hand_mesh_check.proofs.Listed.{any_either, first_found, second_asked}
use Rattle.hand_mesh_check.proofs.any_node_unsound.Goals as goal

either_coordinate : (m : Mesh)
    → (any_up m.counts.nodes (λ i. coordinate_unsound (get_or m.xs.now i nan)) || any_up m.counts.nodes (λ i. coordinate_unsound (get_or m.ys.now i nan)))
    ≡ any_up m.counts.nodes (node_unsound m.xs.now m.ys.now)
either_coordinate m = any_either (λ i. coordinate_unsound (get_or m.xs.now i nan)) (λ i. coordinate_unsound (get_or m.ys.now i nan)) m.counts.nodes

pub returns-then-any_unsound : goal.returns-then-any_unsound
returns-then-any_unsound c = first_found _ (either_coordinate c.args.mesh.now) c.any_unsound.ensures c.if-any_unsound.true

pub returns-else-any_unsound : goal.returns-else-any_unsound
returns-else-any_unsound c =
    second_asked _ (either_coordinate c.args.mesh.now) c.any_unsound.ensures c.if-any_unsound.false c.any_unsound-else-any_unsound.ensures
