-- What holds of the definitions of specs/Writing.antt.
use Rattle.std.specs.Prelude.{ℕ, ◌≤◌, ◌≡◌, Float}
use mathlib.Core.List.{List}
use Rattle.std.proofs.Math.Path.{sym, ap, subst⁻¹}
use Rattle.std.proofs.Common.{◌∙◌}
use native.Mathlib.Omega.{arith}
use Rattle.std.proofs.Math.ListN.{length, drop}
use Rattle.std.proofs.Math.Seq.{take_at, drop_at}
use Rattle.laws.specs.Overlay.{overlay}
use Rattle.outline.specs.Outline.{Outline, outline_refusal}
use Rattle.field_direction.specs.Record.{FieldRecord}
use Rattle.front.specs.State.{State, node_places}
use Rattle.front.specs.Sampling.{front_refusal, from_boundary}
use Rattle.paving.specs.Advance.{EndedPaving, advance}
use Rattle.books.specs.Holds.{BooksHold}
use Rattle.front_sampled.proofs.BegunBase.{refusal_places}
use Rattle.books_hold.specs.Runs.{AcceptedRun}
use Rattle.books_hold.proofs.Runs.{advance_holds, advance_facts}
use Rattle.run_origins.specs.Origins.{origins_after, OriginsAnswered}
use Rattle.run_origins.proofs.Theorem.{booked_after, origins_booked}
use Rattle.run_origins.specs.Writing.{Numberable}

-- ---- every run meets what is asked

few_places : (s : State) → node_places s ≤ 4294967294
unfolding node_places
few_places s = omega arith

-- a state whose books hold, as a caller gets it
module _ (o : Outline) (size : Float) (lent s : State) (fine : outline_refusal o ≡ 0) (none : front_refusal o size lent ≡ 0) (B : BooksHold o size s) where
  -- as many numbers as nodes
  booked_length : length (origins_after o size s.quads s.counts.quads) ≡ s.counts.nodes
  booked_length =
      let O = origins_booked o size lent s fine none B s.counts.quads (omega arith) in
      O.holds.long ∙ sym (B.closes O.book O.steps).nodes

  -- It has what `number_nodes` asks, wherever as many places are lent as it has nodes.
  pub booked_numberable : (places : ℕ) → s.counts.quads ≤ 4294967296 → s.counts.nodes ≤ places
      → Numberable o size s.quads s.counts.quads places
  booked_numberable places small room =
      let H = B.each s.counts.quads (omega arith) in
      record {
        outline = fine;
        few = omega (arith, (refusal_places o size lent none).nodes, few_places lent);
        small = small;
        room = omega (arith, booked_length);
        old = (booked_after o size lent s fine none B s.counts.quads H.book H.steps).old;
      }

  -- And what `number_nodes` leaves in a list is as it is to be answered.
  pub booked_answered : (before : List ℕ)
      → OriginsAnswered o size s before (overlay (origins_after o size s.quads s.counts.quads) before)
  unfolding overlay
  booked_answered before =
      let l = origins_after o size s.quads s.counts.quads in
      record {
        written = take_at l (drop (length l) before) s.counts.nodes booked_length;
        kept = drop_at l (drop (length l) before) s.counts.nodes booked_length ∙ ap (λ (n : ℕ). drop n before) booked_length;
        each = origins_booked o size lent s fine none B;
      }

-- of a paving, from a sampled outline that isn't refused
pub advance_numberable : (o : Outline) (size : Float) (lent : State) → AcceptedRun o size lent → (field : FieldRecord) (passes : ℕ) (end : EndedPaving)
    → end ≡ advance o size field passes (from_boundary o size lent) → (places : ℕ) → end.state.counts.nodes ≤ places
    → Numberable o size end.state.quads end.state.counts.quads places
advance_numberable o size lent A field passes end e places room =
    subst⁻¹ (λ (p : EndedPaving). p.state.counts.nodes ≤ places → Numberable o size p.state.quads p.state.counts.quads places) e
    (booked_numberable o size lent _ A.outline A.front (advance_holds o size lent A field passes) places
    (omega (arith, (advance_facts o size lent A field passes).few))) room
