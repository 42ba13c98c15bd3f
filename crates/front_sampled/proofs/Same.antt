-- The nodes and the loops that `from_boundary` leaves do not depend on what was lent.
use Rattle.std.specs.Prelude.{◌≡◌, refl, Bool, true, false, eqb, length, get_or, Float}
use Rattle.std.proofs.Math.Path.{sym, ap, ap₂}
use Rattle.std.proofs.Common.{◌∙◌, arith}
use Rattle.std.proofs.Math.Bool.{cond}
use mathlib.Core.List.{List, [], ◌∷◌, ◌++◌}
use Prim.Native.Nat.{ℕ, zero, suc, ◌+◌, ◌-◌, ◌<◌, ◌≤◌}
use Rattle.std.specs.Float.{nan}
use Rattle.std.specs.Float.Ieee.{lt, unlike}
use Rattle.laws.specs.Loop.{for_up, for_up_same, for_up_keeps}
use Rattle.laws.specs.Tabulate.{tabulate}
use Rattle.numbers.specs.Float.{◌⊕◌, ◌⊗◌, zero_f, half_f}
use Rattle.outline.specs.declared.Point.{Point}
use Rattle.outline.specs.Outline.{Outline, point, loop_at, after}
use Rattle.geometry.specs.Plane.{area_term}
use Rattle.front.specs.declared.Ring.{Ring}
use Rattle.front.specs.State.{State, node_in, node, cleared}
use Rattle.front.specs.Sampling.{loop_count, sampled_count, sample_loop, from_boundary, boundary_loops, area_turn, signed_area, edge_length, longest_turn, longest_edge}
use Rattle.front.specs.Sampling.{ring_of, ordered_at, sampled_at, midpoint, ring_ids, ring_in, loop_ids}
use Rattle.front_sampled.specs.Nodes.{nodes_of, nodes_length, nodes_at, Pushed}
use Rattle.front_sampled.proofs.Cuts.{loop_cuts, cuts_length, cuts_least}
use Rattle.front_sampled.proofs.Rings.{ring_longest, ordered_in, after_in}
use Rattle.front_sampled.proofs.TurnBase.{split_points, added_points, turn_points}
use Rattle.front_sampled.proofs.Turn.{turn_sampled}
use Rattle.front_sampled.proofs.Outlines.{Threes}
use Rattle.front_sampled.proofs.BegunBase.{Places, no_nodes, state_at, loops_at}
use Rattle.front_sampled.proofs.Begun.{turn_ready, turn_fits, turn_at}

-- ---- a ring is read off the nodes from its base on

module _ (xs ys xs' ys' : List Float) (base n : ℕ) (some : 0 < n)
    (same : (id : ℕ) → id < base + n → node_in xs ys id ≡ node_in xs' ys' id) where
  area_same : signed_area xs ys base n ≡ signed_area xs' ys' base n
  unfolding signed_area
  area_same =
      ap (λ (sum : Float). half_f ⊗ sum)
      (for_up_same n (area_turn xs ys base n) (area_turn xs' ys' base n) zero_f
      (λ i sum h. ap₂ (λ (p q : Point). sum ⊕ area_term p q) (same (base + i) (omega arith)) (same (base + after n i) (omega (arith, after_in n i some)))))

  module _ (turned : Bool) where
    length_same : (k : ℕ) → k < n → edge_length xs ys base n turned k ≡ edge_length xs' ys' base n turned k
    unfolding edge_length
    length_same k h =
        rw (
          same (ordered_at base n turned k) (ordered_in base n turned k h).1,
          same (ordered_at base n turned (after n k)) (ordered_in base n turned (after n k) (after_in n k some)).1,
        )

    longest_same : longest_edge xs ys base n turned ≡ longest_edge xs' ys' base n turned
    unfolding longest_edge for_up
    longest_same =
        (for_up_keeps (λ i best. (best ≡ for_up i other 0) × (best < n)) n turn 0 (refl, some)
        (λ i best h R. (
          ap₂ (λ (p q : Float). cond (lt p q) best i) (length_same i h) (length_same best R.1) ∙ ap (other i) R.0,
          less (lt (edge_length xs ys base n turned i) (edge_length xs ys base n turned best)) best i R.1 h,
        ))).0
      where
        turn : ℕ → ℕ → ℕ
        turn = longest_turn xs ys base n turned

        other : ℕ → ℕ → ℕ
        other = longest_turn xs' ys' base n turned

        less : (b : Bool) (i j : ℕ) → i < n → j < n → cond b i j < n
        less true i j p q = p
        less false i j p q = q

  ring_same : (k : ℕ) → ring_of k xs ys base n ≡ ring_of k xs' ys' base n
  unfolding ring_of
  ring_same k = rw (area_same, longest_same (unlike (lt zero_f (signed_area xs' ys' base n)) (eqb k 0)))

midpoint_same : (xs ys xs' ys' : List Float) (r : Ring) → r.longest < r.count
    → ((id : ℕ) → id < r.base + r.count → node_in xs ys id ≡ node_in xs' ys' id) → midpoint xs ys r ≡ midpoint xs' ys' r
unfolding midpoint
midpoint_same xs ys xs' ys' r h same =
    let i = ordered_in r.base r.count r.turned r.longest h in
    let j = ordered_in r.base r.count r.turned (after r.count r.longest) (after_in r.count r.longest (omega arith)) in
    rw (same (sampled_at r r.longest) i.1, same (sampled_at r (after r.count r.longest)) j.1)

-- ---- states with the same nodes

count_same : (s t : State) → nodes_of s ≡ nodes_of t → s.counts.nodes ≡ t.counts.nodes
count_same s t e = sym (nodes_length s) ∙ ap length e ∙ nodes_length t

node_same : (s t : State) → nodes_of s ≡ nodes_of t → (id : ℕ) → id < s.counts.nodes → node s id ≡ node t id
node_same s t e id h =
    sym (nodes_at s id h) ∙ ap (λ (l : List Point). get_or l id (point nan nan)) e ∙ nodes_at t id (omega (arith, count_same s t e))

module _ (k base : ℕ) (s t : State) (e : nodes_of s ≡ nodes_of t) (more : base < s.counts.nodes) where
  in_same : ring_in k base s ≡ ring_in k base t
  in_same =
      ring_same s.xs s.ys t.xs t.ys base (s.counts.nodes - base) (omega arith) (λ id h. node_same s t e id (omega arith)) k
      ∙ ap (λ (n : ℕ). ring_of k t.xs t.ys base (n - base)) (count_same s t e)

  added_same : added_points k base s ≡ added_points k base t
  unfolding split_points ring_of
  added_same =
      let r = ring_in k base s in
      ap (λ (p : Point). cond r.split (p ∷ []) [])
      (midpoint_same s.xs s.ys t.xs t.ys r (ring_longest k s.xs s.ys base (s.counts.nodes - base) (omega arith))
      (λ id h. node_same s t e id (omega arith)))
      ∙ ap (λ (q : Ring). split_points q t) in_same

-- ---- the turns

sampled_same : {s t s' t' : State} {ps : List Point} → Pushed s s' ps → Pushed t t' ps → nodes_of s ≡ nodes_of t → nodes_of s' ≡ nodes_of t'
sampled_same {ps = ps} P Q e = P.nodes ∙ ap (λ (l : List Point). l ++ ps) e ∙ sym Q.nodes

module _ (o : Outline) (size : Float) (a b : State) (three : Threes o) (A : Places (sampled_count o size) a) (B : Places (sampled_count o size) b) where
  -- turn k pushes the same points and lays the same loop
  pub turn_same : (k : ℕ) → k < loop_count o → nodes_of (state_at o size a k) ≡ nodes_of (state_at o size b k)
      → (loop_ids o size k (state_at o size a k) ≡ loop_ids o size k (state_at o size b k))
      × (turn_points o size k (state_at o size a k) ≡ turn_points o size k (state_at o size b k))
  unfolding turn_points
  turn_same k h e =
      let l = loop_at o k in
      let s = state_at o size a k in
      let t = state_at o size b k in
      let S = turn_ready o size a three A k (omega arith) in
      let T = turn_ready o size b three B k (omega arith) in
      let P = turn_sampled (cleared a) o size k s S.room (turn_fits o size a three A k h S) in
      let Q = turn_sampled (cleared b) o size k t T.room (turn_fits o size b three B k h T) in
      let s' = sample_loop size l s in
      let t' = sample_loop size l t in
      let u = sampled_same P Q e in
      let c = count_same s t e in
      let more : s.counts.nodes < s'.counts.nodes = omega (arith, P.count, cuts_length size l, cuts_least size l, three k h) in (
        ap ring_ids (in_same k s.counts.nodes s' t' u more ∙ ap (λ (base : ℕ). ring_in k base t') c),
        ap (λ (ps : List Point). loop_cuts size l ++ ps)
            (added_same k s.counts.nodes s' t' u more ∙ ap (λ (base : ℕ). added_points k base t') c),
      )

  pub same_at : (k : ℕ) → k ≤ loop_count o
      → (nodes_of (state_at o size a k) ≡ nodes_of (state_at o size b k)) × (loops_at o size a k ≡ loops_at o size b k)
  unfolding for_up tabulate
  same_at zero h = (no_nodes a ∙ sym (no_nodes b), refl)
  same_at (suc k) h =
      let E = same_at k (omega arith) in
      let T = turn_same k h E.0 in
      let P = turn_at o size a three A k h (turn_ready o size a three A k (omega arith)) in
      let Q = turn_at o size b three B k h (turn_ready o size b three B k (omega arith)) in (
        P.nodes ∙ ap₂ (λ (l ps : List Point). l ++ ps) E.0 T.1 ∙ sym Q.nodes,
        ap₂ (λ (ls : List (List ℕ)) (l : List ℕ). ls ++ l ∷ []) E.1 T.0,
      )

-- ---- the theorem

-- in any lists with places enough `from_boundary` leaves the same nodes and the same loops
pub same_start : (o : Outline) (size : Float) (a b : State) → Threes o → Places (sampled_count o size) a → Places (sampled_count o size) b
    → (nodes_of (from_boundary o size a) ≡ nodes_of (from_boundary o size b)) × (boundary_loops o size a ≡ boundary_loops o size b)
unfolding from_boundary boundary_loops
same_start o size a b three A B = same_at o size a b three A B (loop_count o) (omega arith)
