-- What holds of the definitions of proofs/UseBase.antt.
use Rattle.std.specs.Prelude.{Bool, ◌||◌, ◌≡◌, ℕ, ◌+◌, ◌≤◌, leb, Float, Option, Some, None}
use Rattle.std.proofs.Math.Bool.{true, false, cond}
use Rattle.std.proofs.Math.Path.{refl}
use native.Mathlib.Omega.{arith}
use Rattle.std.proofs.Math.Dec.{ltb}
use borrow.Author.Tests.{ltb-false}
use Rattle.laws.specs.Tests.{neither}
use Rattle.outline.specs.Outline.{Outline}
use Rattle.field_direction.specs.Record.{FieldRecord}
use Rattle.front.specs.declared.Corner.{Corner}
use Rattle.front.specs.State.{State, node_places, quad_places, edge_places}
use Rattle.front.specs.Place.{added, id_c, id_d, edges_added, place, is_full}
use Rattle.front.specs.declared.FarCorners.{FarCorners}
use Rattle.paving.specs.Attempt.{try_edge}
use Rattle.paving.specs.Advance.{most_quads}
use Rattle.hand_mesh_check.specs.Check.{beyond_places}
use Rattle.hand_placing.proofs.Local.{placed_nodes}
use Rattle.hand_steps.specs.declared.StepOutcome.TheVariants.{Placed, Full, Cap}
use Rattle.hand_steps.specs.Hand.{handled, settled_on, place_on}
use Rattle.hand_steps.specs.Lent.{OnFront}

-- ---- how many nodes a placing leaves: no fewer, and no more than there are places

module _ (o : Outline) (size : Float) (field : FieldRecord) (s : State) (a b : ℕ) (S : OnFront s a b) where
  abbrev NodesGrown : ℕ → Type 0
  NodesGrown m = (s.counts.nodes ≤ m) × (m ≤ node_places s)

  same_grown : NodesGrown s.counts.nodes
  unfolding beyond_places
  same_grown = (omega arith, ltb-false _ _ (neither (ltb (node_places s) s.counts.nodes) _ S.passes.counts).0)

  -- quads or edges are beyond those lent
  abbrev quads_or_edges : Corner → Corner → Bool
  quads_or_edges c d = ltb (quad_places s) (s.counts.quads + 1) || ltb (edge_places s) (s.counts.edges + edges_added s a b (id_d s c d) (id_c s c))

  settled_grown : (t : Option FarCorners) → NodesGrown (settled_on a b t s).state.counts.nodes
  unfolding is_full
  settled_grown None = same_grown
  settled_grown (Some q) = by (is_full s a b q.c q.d) refl
    where
      by : (full : Bool) → is_full s a b q.c q.d ≡ full → NodesGrown (cond full (handled s Full) (handled (place a b q.c q.d s) Placed)).state.counts.nodes
      by true f = same_grown
      by false f =
          let N = placed_nodes a b q.c q.d s in
          let m = s.counts.nodes + added q.c + added q.d in
          let first : ltb (node_places s) m ≡ false = (neither (ltb (node_places s) m) (quads_or_edges q.c q.d) f).0 in
          (omega (arith, N), omega (arith, N, ltb-false (node_places s) m first))

  pub place_grown : NodesGrown (place_on o size field a b s).state.counts.nodes
  unfolding place_on
  place_grown = by (leb most_quads s.counts.quads)
    where
      by : (cap : Bool) → NodesGrown (cond cap (handled s Cap) (settled_on a b (try_edge o size field s a b) s)).state.counts.nodes
      by true = same_grown
      by false = settled_grown (try_edge o size field s a b)
