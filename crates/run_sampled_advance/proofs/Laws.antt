-- Laws of sampling and paving: what the passes, the numbers of nodes and the loops ask follows from what isn't refused.
use Rattle.std.specs.Prelude.{List, ◌≡◌, ℕ, ◌≤◌, Float}
use Rattle.std.proofs.Common.{sym, ◌∙◌, subst, arith}
use Rattle.std.proofs.Math.Path.{ap}
use Rattle.std.proofs.Math.ListN.{length}
use Rattle.outline.specs.Outline.{Outline}
use Rattle.field_direction.specs.declared.Grid.{Grid}
use Rattle.field_direction.specs.Record.{FieldRecord}
use Rattle.front.specs.State.{State, node_places}
use Rattle.front.specs.Sampling.{loop_count, sampled_count, from_boundary, boundary_loops}
use Rattle.paving.specs.Advance.{advance}
use Rattle.paving.specs.Advance as paving
use Rattle.paving.specs.ReachLaws.{advance_reaches}
use Rattle.front_loop_list.specs.Listed.{Listable}
use Rattle.front_loop_list.specs.ListedLaws.{sound_listable}
use Rattle.paving_settling.specs.Paveable.{Paveable}
use Rattle.front_sampled.proofs.Outlines.{outline_three}
use Rattle.front_sampled.proofs.BegunBase.{Begun}
use Rattle.front_sampled.proofs.Begun.{begun}
use Rattle.books_hold.proofs.StagesBase.{Standing, standing}
use Rattle.run_origins.specs.Writing.{Numberable}
use Rattle.run_origins.proofs.Writing.{advance_numberable}
use Rattle.run_sampled_advance.specs.Asked.{CanPave}

module _ (o : Outline) (blocks : List ℕ) (size : Float) (g : Grid) (values : List Float) (s : State) (C : CanPave o blocks size g values s) where
  begins : Begun o (sampled_count o size) s (from_boundary o size s) (boundary_loops o size s)
  begins = begun o size s (outline_three o C.drawn.taken) C.front

  pub paveable : Paveable g values (from_boundary o size s)
  paveable =
      record {
        field = C.field;
        sampled = sampled_count o size;
        loops = boundary_loops o size s;
        sound = begins.sound;
        known = begins.known;
      }

  pub paveable_at : (t : State) → t ≡ from_boundary o size s → Paveable g values t
  paveable_at t e = subst (Paveable g values) (sym e) paveable

  -- ---- what the numbers and the loops ask

  -- every node has a place in a list as long as the snapshot
  stands : (field : FieldRecord) (passes : ℕ)
      → Standing (sampled_count o size) (from_boundary o size s) (boundary_loops o size s) (advance o size field passes (from_boundary o size s)).state
  stands field passes = standing begins.sound (advance_reaches o size (from_boundary o size s) field passes).by

  nodes_few : (field : FieldRecord) (passes : ℕ) → (advance o size field passes (from_boundary o size s)).state.counts.nodes ≤ length s.snapshot
  unfolding node_places
  nodes_few field passes =
      let Y = stands field passes in
      omega (arith, Y.sound.nodes_fit, Y.frame.snapshot.long ∙ ap length begins.snapshot)

  pub can_number : (field : FieldRecord) (passes : ℕ) (end : paving.EndedPaving) → end ≡ advance o size field passes (from_boundary o size s)
      → (places : ℕ) → length s.snapshot ≤ places → Numberable o size end.state.quads end.state.counts.quads places
  can_number field passes end e places a =
      advance_numberable o size s (record { doubles = C.drawn.fits; outline = C.drawn.taken; front = C.front }) field passes end e places
      (rw e (omega (arith, nodes_few field passes)))

  pub can_list : (field : FieldRecord) (passes : ℕ) (end : paving.EndedPaving) → end ≡ advance o size field passes (from_boundary o size s)
      → (loops lengths : List ℕ) → length s.snapshot ≤ length loops → loop_count o ≤ length lengths
      → Listable end.state.counts end.state.next end.state.snapshot loops lengths
  can_list field passes end e loops lengths a b = rw e (
      sound_listable (sampled_count o size) _ Y.loops Y.sound loops lengths (omega (arith, nodes_few field passes, a))
      (omega (arith, Y.number, begins.loops, b)))
    where
      Y : Standing (sampled_count o size) (from_boundary o size s) (boundary_loops o size s) (advance o size field passes (from_boundary o size s)).state
      Y = stands field passes
