-- What the answers of the code say, in the words of the definitions of a pass. Definitions only.
use Rattle.std.specs.Prelude.{◌≡◌, Bool, true, not, cond, ◌&&◌, ◌||◌, ℕ, eqb, leb, Float, Option, Some, None}
use Rattle.std.specs.declared.ops.ControlFlow.{ControlFlow}
use Rattle.std.specs.declared.ops.ControlFlow.TheVariants.{Continue, Break}
use Rattle.laws.specs.Loop.{Turn, go, out}
use Rattle.topology.specs.Links.{off}
use Rattle.outline.specs.Outline.{Outline}
use Rattle.field_direction.specs.Record.{FieldRecord}
use Rattle.front.specs.State.{State}
use Rattle.paving.specs.declared.End.{End}
use Rattle.paving.specs.declared.End.TheVariants.{Still, Cap}
use Rattle.paving.specs.Advance.{Passing, passing, Passed, paved, pass_turn, most_quads}

-- ---- one edge of a pass

-- where the snapshot's edge to b leads, from a node whose link is `next`: nowhere if it is on the front no more
unfoldable pub snapshot_edge : ℕ → ℕ → Option ℕ
snapshot_edge next b = cond (not (eqb b off) && eqb next b) (Some b) None

-- what became of the edge, where the state is s then, and `some` says whether the pass had placed something before
abbrev pub settled : ControlFlow End Bool → Bool → State → Turn Passing Passed
settled (Continue placed) some s = go (passing s (placed || some))
settled (Break e) some s = out (out (paved s e))

-- a turn of the pass on the snapshot's edge from node a, where the code answers r and leaves t of s
abbrev pub Settles : Outline → Float → FieldRecord → State → ℕ → ControlFlow End Bool → State → Type 0
Settles o size field s a r t = (some : Bool) → settled r some t ≡ pass_turn o size field a (passing s some)

-- the answer after a quad that makes so many
unfoldable pub quad_settled : ℕ → ControlFlow End Bool
quad_settled quads = cond (leb most_quads quads) (Break Cap) (Continue true)

-- ---- a pass

-- what a pass answers, where the state is s then
abbrev pub passed : ControlFlow End (Unit {0}) → State → Passed
passed (Continue _) s = go s
passed (Break e) s = out (paved s e)

-- the answer of a pass that tried its last edge
abbrev pub pass_answer : Bool → ControlFlow End (Unit {0})
pass_answer placed = cond placed (Continue tt) (Break Still)
