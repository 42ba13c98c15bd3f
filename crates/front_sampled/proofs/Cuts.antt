-- The points sampled on the segments of a loop, and the states that sampling goes through.
use Rattle.std.specs.Prelude.{◌≡◌, List, [], ◌++◌, length, Float}
use Rattle.std.proofs.Math.Path.{sym}
use Prim.Native.Nat.{ℕ, zero, suc, ◌+◌, ◌<◌, ◌≤◌}
use native.Mathlib.Omega.{arith}
use Rattle.std.proofs.Common.{length-append}
use Rattle.laws.specs.Loop.{for_up_keeps, sum_up}
use Rattle.laws.proofs.Sums.{sum_zero, sum_suc, sum_term, sum_least}
use Rattle.laws.specs.Tabulate.{tabulate, tabulate_length}
use Rattle.outline.specs.declared.Point.{Point}
use Rattle.outline.specs.Outline.{points, point_at, point_after}
use Rattle.topology.specs.Sums.{All}
use Rattle.front.specs.State.{State}
use Rattle.front.specs.Sampling.{parts_of, parts, loop_parts, cut, cut_turn, sample_segment, sample_turn, sample_loop}
use Rattle.front_sampled.proofs.Lists.{all_append, all_tabulate}
use Rattle.front_sampled.specs.Nodes.{Room, room_kept, Pushed, push_none, push_one, push_more}

-- ---- the points

-- point j of segment i of a loop
abbrev pub cut_at : Float → List Float → ℕ → ℕ → Point
cut_at size l i j = cut (point_at l i) (point_after l i) (parts size l i) j

-- the points of the first i segments
unfoldable pub cuts_before : Float → List Float → ℕ → List Point
cuts_before size l zero = []
cuts_before size l (suc i) = cuts_before size l i ++ tabulate (parts size l i) (cut_at size l i)

-- the points of a loop
abbrev pub loop_cuts : Float → List Float → List Point
loop_cuts size l = cuts_before size l (points l)

module _ (size : Float) (l : List Float) where
  cuts_before_lem : (i : ℕ) → length (cuts_before size l i) ≡ sum_up i (parts size l)
  unfolding cuts_before
  cuts_before_lem zero = sym (sum_zero (parts size l))
  cuts_before_lem (suc i) =
      rw (length-append, cuts_before_lem i, tabulate_length (parts size l i) (cut_at size l i)) (sym (sum_suc (parts size l) i))

  pub cuts_length : length (loop_cuts size l) ≡ loop_parts size l
  unfolding loop_parts
  cuts_length = cuts_before_lem (points l)

  -- each segment has a point
  parts_least : (i : ℕ) → 1 ≤ parts size l i
  unfolding parts parts_of
  parts_least i = omega arith

  pub cuts_least : points l ≤ loop_parts size l
  unfolding loop_parts
  cuts_least = sum_least (parts size l) parts_least (points l)

  module _ (P : Point → Type 0) where
    before_all : (n : ℕ) → ((i j : ℕ) → i < n → j < parts size l i → P (cut_at size l i j)) → All P (cuts_before size l n)
    unfolding cuts_before
    before_all zero h = tt
    before_all (suc n) h =
        all_append P (cuts_before size l n) (tabulate (parts size l n) (cut_at size l n)) (before_all n (λ i j p q. h i j (omega arith) q))
        (all_tabulate P (parts size l n) (cut_at size l n) (λ j q. h n j (omega arith) q))

    -- what holds of every cut of every segment holds of the points of the loop
    pub cuts_all : ((i j : ℕ) → i < points l → j < parts size l i → P (cut_at size l i j)) → All P (loop_cuts size l)
    cuts_all = before_all (points l)

-- ---- the states

module _ {n : ℕ} (s : State) (R : Room n s) where
  segment_pushed : (a b : Point) (m : ℕ) → s.counts.nodes + m ≤ n → Pushed s (sample_segment a b m s) (tabulate m (cut a b m))
  unfolding sample_segment tabulate
  segment_pushed a b m h =
      for_up_keeps (λ i t. Pushed s t (tabulate i (cut a b m))) m (cut_turn a b m) s (push_none s)
      (λ i t q P. push_more P (push_one (cut a b m i) t (room_kept n s t P.frame R) (omega (arith, P.count, tabulate_length i (cut a b m)))))

module _ {n : ℕ} (size : Float) (l : List Float) (s : State) (R : Room n s) where
  -- `from_boundary`'s loop over the segments of a loop pushes its points
  pub loop_pushed : s.counts.nodes + loop_parts size l ≤ n → Pushed s (sample_loop size l s) (loop_cuts size l)
  unfolding sample_loop loop_parts cuts_before
  loop_pushed h =
      for_up_keeps (λ i t. Pushed s t (cuts_before size l i)) (points l) (sample_turn size l) s (push_none s)
      (λ i t q P. push_more P (segment_pushed t (room_kept n s t P.frame R) (point_at l i) (point_after l i) (parts size l i)
      (omega (arith, P.count, cuts_before_lem size l i, sum_term (parts size l) i (points l) q))))
