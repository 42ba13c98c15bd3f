-- What holds of the definitions of proofs/StartsBase.antt.
use Rattle.std.specs.Prelude.{◌≡◌, ℕ, ◌≤◌, length, take, Float}
use Rattle.std.proofs.Math.Path.{ap}
use Rattle.std.proofs.Common.{sym, ◌∙◌, take_all}
use mathlib.Core.List.{[], map}
use native.Mathlib.Omega.{arith}
use Rattle.numbers.specs.Float.{zero_f}
use Rattle.outline.specs.declared.Point.{Point}
use Rattle.outline.specs.Outline.{Outline}
use Rattle.topology.specs.Sums.{front_sum}
use Rattle.front.specs.State.{State, cleared}
use Rattle.front.specs.Sampling.{sampled_count, front_refusal, from_boundary, boundary_loops}
use Rattle.books.specs.Book.{room_for, start_book}
use Rattle.books.proofs.Matches.{Matches}
use Rattle.front_sampled.specs.Nodes.{nodes_of, nodes_xs, nodes_ys, Room, room_places}
use Rattle.front_sampled.proofs.Outlines.{Threes}
use Rattle.front_sampled.proofs.BegunBase.{refusal_places}
use Rattle.front_sampled.proofs.Begun.{begun_in}
use Rattle.front_sampled.proofs.Same.{same_start}
use Rattle.front_sampled.proofs.StartsBase.{sum_loops, filled_length, room_for_lem}

-- ---- the book's lists, which are just large enough

room_lists : (n : ℕ) → (length (cleared (room_for n)).xs ≡ n) × (length (cleared (room_for n)).ys ≡ n)
unfolding room_for cleared
room_lists n = (filled_length n zero_f, filled_length n zero_f)

-- states with the same nodes, the second in lists of no more places
module _ (s t : State) (same : nodes_of s ≡ nodes_of t) where
  same_xs : s.counts.nodes ≤ length s.xs → t.counts.nodes ≡ length t.xs → take s.counts.nodes s.xs ≡ t.xs
  same_xs h e =
      nodes_xs s h ∙ ap (map (λ (p : Point). p.x)) same ∙ sym (nodes_xs t (omega arith)) ∙ take_all t.counts.nodes t.xs (omega arith)

  same_ys : s.counts.nodes ≤ length s.ys → t.counts.nodes ≡ length t.ys → take s.counts.nodes s.ys ≡ t.ys
  same_ys h e =
      nodes_ys s h ∙ ap (map (λ (p : Point). p.y)) same ∙ sym (nodes_ys t (omega arith)) ∙ take_all t.counts.nodes t.ys (omega arith)

-- ---- the theorem

pub starts : (o : Outline) (size : Float) (lent : State) → Threes o → front_refusal o size lent ≡ 0
    → Matches (from_boundary o size lent) (boundary_loops o size lent) (start_book o size)
unfolding start_book
starts o size lent three none =
    let n = sampled_count o size in
    let s = from_boundary o size lent in
    let t = from_boundary o size (room_for n) in
    let A = refusal_places o size lent none in
    let B = room_for_lem n lent A in
    let S = begun_in o size lent three A in
    let T = begun_in o size (room_for n) three B in
    let R : Room n s = room_places n s (omega (arith, S.sound.nodes_fit, S.node_count_of)) (omega (arith, S.sound.edges_fit, S.edge_count)) in
    let same = same_start o size lent (room_for n) three A B in
    let long = room_lists n in
    record {
      xs = same_xs s t same.0 (omega (arith, S.node_count_of, R.xs)) (omega (arith, T.node_count_of, T.frame.xs.long, long.0));
      ys = same_ys s t same.0 (omega (arith, S.node_count_of, R.ys)) (omega (arith, T.node_count_of, T.frame.ys.long, long.1));
      sums = λ w. sum_loops w (boundary_loops o size (room_for n)) ∙ ap (front_sum w) (sym same.1);
    }
