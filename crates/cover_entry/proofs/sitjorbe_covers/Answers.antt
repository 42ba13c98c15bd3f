-- `cover_entry::sitjorbe_covers` meets its contract: `answer_refused` and `answer_taken`, and `covers_given`.
use Rattle.std.proofs.Common.{◌≡◌, [], sym, ap, ◌∙◌, ℕ, ◌≤◌, ◌/◌, length, min, arith}
use Rattle.std.proofs.Math.Path.{ap₂}
use Rattle.outline.specs.Outline.{Outline, outline}
use Rattle.outline.specs.Accepted.{OutlineFits}
use Rattle.outline.proofs.Refused.{refusal_some}
use Rattle.topology.specs.Links.{off}
use Rattle.front.specs.State.{State, state_of, counted}
use Rattle.cover_check.specs.declared.Room.{Room}
use Rattle.cover_check.specs.Check.{lent_refusal}
use Rattle.cover_check.proofs.Fits.{Named, named, quads_named}
use Rattle.cover_check.proofs.Given.{covers_given}
use Rattle.cover_entry.proofs.Steps.{answer_refused, answer_taken, taken, fitting}
use Rattle.cover_entry.proofs.sitjorbe_covers.Goals as goal
use Rattle.cover_entry.proofs.sitjorbe_covers.Goals.{In-Ok}

abbrev drawn : In-Ok → Outline
drawn c = outline c.args.outer.now c.args.holes.now c.args.hole_lengths.now

-- the mesh as lent
abbrev lent : In-Ok → State
lent c = state_of c.args.xs.now c.args.ys.now [] [] [] c.args.quads.now [] (counted c.args.node_count c.args.quad_count 0 0)

-- with room for so many nodes
abbrev room_of : In-Ok → ℕ → Room
room_of c n = record { nodes = n; edges = length c.args.sampled_edges.now / 2; keys = length c.args.keys.now }

abbrev places : In-Ok → ℕ
places c = min (min (length c.args.sampled_xs.now) (length c.args.sampled_ys.now)) (min (length c.args.sampled_next.now) (length c.args.sampled_prev.now))

few : (c : In-Ok) → c.args.node_count ≤ off
few c = omega (arith, c.ranges.node_count.fits)

-- nothing is refused of what is lent
none : (c : In-Ok) → 0 ≡ lent_refusal (drawn c) c.args.size (lent c) (room_of c (places c))
none c =
    c.in-Ok.ensures
    ∙ ap (λ (n : ℕ). lent_refusal (drawn c) c.args.size (lent c) (room_of c n)) (c.min-3.ensures ∙ ap₂ (λ (m n : ℕ). min m n) c.min.ensures c.min-2.ensures)

mesh_named : (c : In-Ok) → Named (lent c) (length c.args.keys.now)
mesh_named c = named (lent c) (length c.args.keys.now) (fitting (drawn c) c.args.size (lent c) (room_of c (places c)) (none c))

pub answer_mesh-requires-clause-taken : goal.answer_mesh-requires-clause-taken
answer_mesh-requires-clause-taken c =
    let i = (goal.at.answer_mesh-requires-clause-taken c).In-Ok in taken (drawn i) c.args.size (lent i) (room_of i (places i)) (none i)

pub answer_mesh-requires-clause-named : goal.answer_mesh-requires-clause-named
answer_mesh-requires-clause-named c =
    let i = (goal.at.answer_mesh-requires-clause-named c).In-Ok in
    let Q = quads_named (lent i) (length c.args.keys.now) (mesh_named i) (few i) in
    record { few = Q.few; ids = Q.ids }

pub answer_mesh-requires-clause-keyed : goal.answer_mesh-requires-clause-keyed
answer_mesh-requires-clause-keyed c = (mesh_named (goal.at.answer_mesh-requires-clause-keyed c).In-Ok).fits.in_keys

pub returns-in-Err : goal.returns-in-Err
returns-in-Err c =
    let o = outline c.args.outer.now c.args.holes.now c.args.hole_lengths.now in
    let mesh = state_of c.args.xs.now c.args.ys.now [] [] [] c.args.quads.now [] (counted c.args.node_count c.args.quad_count 0 0) in
    let room : ℕ → Room = λ n. record { nodes = n; edges = length c.args.sampled_edges.now / 2; keys = length c.args.keys.now } in
    let doubles : OutlineFits o = record { outer = λ i h. c.type_inv.outer i; holes = λ i h. c.type_inv.holes i } in
    covers_given o c.args.size mesh (room _) doubles (λ i h. c.type_inv.xs i) (λ i h. c.type_inv.ys i) (omega (arith, c.ranges.node_count.fits)) _
    (c.refused_at.ensures
    ∙ answer_refused o c.args.size mesh (room _)
    (c.from.ensures ∙ c.in-Err.ensures
    ∙ ap (λ (n : ℕ). lent_refusal o c.args.size mesh (room n)) (c.min-3.ensures ∙ ap₂ (λ (m n : ℕ). min m n) c.min.ensures c.min-2.ensures))
    (λ z. refusal_some c.in-Err.refusal (sym c.from.ensures ∙ z)))

pub returns-in-Ok : goal.returns-in-Ok
returns-in-Ok c =
    let i = (goal.at.returns-in-Ok c).In-Ok in
    let doubles : OutlineFits (drawn i) = record { outer = λ j h. c.type_inv.outer j; holes = λ j h. c.type_inv.holes j } in
    covers_given (drawn i) c.args.size (lent i) (room_of i (places i)) doubles (λ j h. c.type_inv.xs j) (λ j h. c.type_inv.ys j) (few i) _
    (answer_taken (drawn i) c.args.size (lent i) (room_of i (places i)) (none i) c.answer_mesh.ensures)
