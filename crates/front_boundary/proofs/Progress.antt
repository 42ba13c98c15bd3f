-- The loop of `from_boundary` over the loops of an outline: how far it is, what has places, and that it is the definition's.
use Rattle.std.specs.Prelude.{Bool, true, false, cond, ◌≡◌, refl, ℕ, ◌+◌, ◌≤◌, Float, length}
use mathlib.Core.List.{List}
use Rattle.std.proofs.Common.{sym, ◌∙◌, add-one, arith}
use Rattle.std.proofs.Math.Path.{ap}
use Rattle.laws.specs.Loop.{Loop, sum_up}
use Rattle.laws.proofs.Sums.{sum_zero, sum_suc, sum_le, sum_term}
use Rattle.outline.specs.Outline.{Outline, loop_at, loop_start, first_of, misshapen, loops_refusal, far_refusal, outline_refusal}
use Rattle.front.specs.State.{State, cleared}
use Rattle.front.specs.Sampling.{loop_count, loop_parts, loop_nodes, sampled_count, front_refusal, boundary_turn}
use Rattle.front_sampled.specs.Nodes.{room_places}
use Rattle.front_sampled.proofs.BegunBase.{refusal_places}
use Rattle.front_sampled.proofs.Outlines.{outline_three}
use Rattle.front_boundary.specs.Counting.{even_up}
use Rattle.front_boundary.specs.Laying.{LoopRoom, CanSample, lay_loop}
use Rattle.front_boundary.proofs.LayingLaws.{loop_as, room_fewer}
use Rattle.front_boundary.proofs.Unsearched.{unsearched}

-- an outline that is not refused has the shape asked for
pub outline_shaped : (o : Outline) → outline_refusal o ≡ 0 → misshapen o ≡ false
unfolding outline_refusal
outline_shaped o = by (misshapen o) refl
  where
    by : (b : Bool) → misshapen o ≡ b → cond b 1 (first_of (loops_refusal o) (far_refusal o)) ≡ 0 → b ≡ false
    by true m e = absurd (omega arith)
    by false m e = refl

-- k loops are laid, with `nodes` nodes, and `start` hole points stand before loop k
pub record Progress (o : Outline) (size : Float) (k start nodes : ℕ) : Type 0 where
  pub within : k ≤ loop_count o
  pub at : start ≡ loop_start o.lens k
  pub count : nodes ≡ sum_up k (loop_nodes o size)

module _ (o : Outline) (size : Float) where
  pub progress_none : Progress o size 0 0 0
  progress_none = record { within = omega arith; at = refl; count = sym (sum_zero (loop_nodes o size)) }

  pub progress_few : {k start nodes : ℕ} → Progress o size k start nodes → nodes ≤ sampled_count o size
  unfolding sampled_count
  progress_few {k} P = omega (arith, P.count, sum_le (loop_nodes o size) k (loop_count o) P.within)

  -- loop k is s
  module _ {k start nodes : ℕ} {s : List Float} (P : Progress o size k start nodes) (h : k ≤ length o.lens) (e : s ≡ loop_at o k) where
    pub nodes_of_lem : even_up (loop_parts size s) ≡ loop_nodes o size k
    unfolding loop_nodes
    nodes_of_lem = ap (λ (l : List Float). even_up (loop_parts size l)) e

    pub progress_fits : nodes + even_up (loop_parts size s) ≤ sampled_count o size
    unfolding sampled_count
    progress_fits = omega (arith, P.count, nodes_of_lem, sum_term (loop_nodes o size) k (loop_count o) (omega arith))

    pub progress_next : {start' nodes' : ℕ} → start' ≡ loop_start o.lens (k + 1) → nodes' ≡ nodes + even_up (loop_parts size s)
        → Progress o size (k + 1) start' nodes'
    progress_next a b =
        record { within = omega arith; at = a; count = rw add-one (omega (arith, b, P.count, nodes_of_lem, sum_suc (loop_nodes o size) k)) }

    pub progress_room : {xs ys : List Float} {next prev edges : List ℕ} (xs' ys' : List Float) (next' prev' edges' : List ℕ)
        → CanSample o size xs ys next prev edges → length xs' ≡ length xs → length ys' ≡ length ys → length next' ≡ length next
        → length prev' ≡ length prev → length edges' ≡ length edges → LoopRoom s size nodes xs' ys' next' prev' edges'
    progress_room xs' ys' next' prev' edges' C a b c d f =
        record {
          some = rw e (omega (arith, outline_three o C.unrefused k (omega arith)));
          nodes = room_fewer (nodes + even_up (loop_parts size s)) xs' ys' next' prev' C.nodes progress_fits a b c d;
          in_edges = omega (arith, progress_fits, C.in_edges, f);
        }

-- one loop laid is one turn of the definition's loop
pub turn_laid : (o : Outline) (size : Float) (lent : State) {k : ℕ} {s : List Float} {st t : State} → outline_refusal o ≡ 0 → front_refusal o size lent ≡ 0
    → Loop (boundary_turn o size) (cleared lent) (loop_count o) k st → k ≤ length o.lens → s ≡ loop_at o k → t ≡ lay_loop k s size st
    → Loop (boundary_turn o size) (cleared lent) (loop_count o) (k + 1) t
turn_laid o size lent {k} {s} {st} {t} fine none l h e w =
    loop_as (boundary_turn o size) (cleared lent) t l (omega arith)
    (w ∙ ap (λ (q : List Float). lay_loop k q size st) e
    ∙ rw l.same (sym (unsearched o size lent (outline_three o fine) (refusal_places o size lent none) k (omega arith))))

-- what `from_boundary` asks, where refusals 1 to 4 and 10 do not apply
pub can_sample : (o : Outline) (size : Float) (lent : State) → outline_refusal o ≡ 0 → front_refusal o size lent ≡ 0
    → CanSample o size lent.xs lent.ys lent.next lent.prev lent.edges
can_sample o size lent fine none =
    let P = refusal_places o size lent none in
    let R = room_places (sampled_count o size) lent P.nodes P.edges in
    record {
      unrefused = fine;
      nodes = record { in_xs = R.xs; in_ys = R.ys; in_next = R.next; in_prev = R.prev; few = R.few };
      in_edges = R.edges;
    }
