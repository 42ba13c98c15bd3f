-- What holds of the definitions of specs/Start.antt.
use Prim.Native.Nat.{ℕ, zero, suc, ◌+◌, ◌-◌, ◌%◌, ◌<◌, ◌≤◌}
use mathlib.Core.List.{List, [], ◌∷◌}
use Rattle.std.specs.Prelude.{◌≡◌, Bool, replicate, Float}
use Rattle.std.proofs.Math.Path.{refl, sym, ap, subst}
use Rattle.std.proofs.Common.{◌∙◌}
use Rattle.std.proofs.Math.Bool.{true, false}
use native.Mathlib.Omega.{arith}
use Rattle.std.proofs.Math.Dec.{leb}
use Rattle.std.proofs.Math.ListN.{length, length-append, get_or-append}
use Rattle.std.proofs.lemmas.List.{get_or-replicate}
use Rattle.std.proofs.Math.Seq.{get_or-append-add}
use borrow.Author.Tests.{leb-true, leb-false}
use Rattle.laws.specs.Loop.{for_up, sum_up}
use Rattle.laws.proofs.Sums.{sum_suc}
use Rattle.outline.specs.Outline.{Outline, loop_at}
use Rattle.topology.specs.Sums.{All}
use Rattle.topology.specs.Front.{head_or}
use Rattle.front.specs.State.{State}
use Rattle.front.specs.Sampling.{loop_count, loop_nodes, sampled_count, front_refusal, from_boundary, boundary_loops, loop_ids}
use Rattle.front.specs.Sampling.{ring_in, ring_at, ring_of, sample_loop}
use Rattle.books.specs.Book.{room_for, edges_to, loop_edges, start_book}
use Rattle.books.proofs.BookBase.{matches_nodes}
use Rattle.front_sampled.proofs.Lists.{all_append, all_tabulate}
use Rattle.front_sampled.proofs.Rings.{ring_longest, ring_in_lem, ids_all}
use Rattle.front_sampled.proofs.Cuts.{loop_cuts, cuts_length}
use Rattle.front_sampled.proofs.TurnBase.{split_count}
use Rattle.front_sampled.proofs.Turn.{sampled_count_lem, cuts_three}
use Rattle.front_sampled.proofs.Outlines.{Threes}
use Rattle.front_sampled.proofs.BegunBase.{Places, state_at, refusal_places}
use Rattle.front_sampled.proofs.Begun.{turn_fits, turn_ready, begun}
use Rattle.front_sampled.proofs.StartsBase.{room_for_lem}
use Rattle.front_sampled.proofs.Starts.{starts}
use Rattle.run_origins.specs.Origins.{origin_of, loop_origins, sampled_origins, SameAlong}
use Rattle.run_origins.proofs.Steps.{Numbered}
use Rattle.run_origins.specs.Start as S
use Rattle.run_origins.specs.Start.{first_length, sampled_length, HaveNumber, OneNumber}

-- ---- the numbers of the samples

module _ (o : Outline) (size : Float) where
  abbrev first_origins : ℕ → List ℕ
  first_origins = S.first_origins o size

  -- what loop k adds
  first_next : (k j : ℕ) → j < loop_nodes o size k → origin_of (first_origins (suc k)) (sum_up k (loop_nodes o size) + j) ≡ k
  unfolding for_up
  first_next k j h =
      rw (← first_length o size k, get_or-append-add (first_origins k) (loop_origins o size k) j 0) (get_or-replicate (loop_nodes o size k) j k 0 h)

  -- and later loops leave
  first_kept : (k m u : ℕ) → k ≤ m → u < length (first_origins k)
      → (u < length (first_origins m)) × (origin_of (first_origins m) u ≡ origin_of (first_origins k) u)
  unfolding for_up
  first_kept k zero u h q =
      let none : k ≡ 0 = omega arith in
      subst (λ (i : ℕ). (u < length (first_origins i)) × (origin_of (first_origins i) u ≡ origin_of (first_origins k) u)) none (q, refl)
  first_kept k (suc m) u h q = by (λ p. first_kept k m u p q) (leb k m) refl
    where
      by : (k ≤ m → (u < length (first_origins m)) × (origin_of (first_origins m) u ≡ origin_of (first_origins k) u)) → (t : Bool) → leb k m ≡ t
          → (u < length (first_origins (suc m))) × (origin_of (first_origins (suc m)) u ≡ origin_of (first_origins k) u)
      by earlier true e =
          let E = earlier (leb-true k m e) in (
            omega (arith, E.0, length-append (first_origins m) (loop_origins o size m)),
            get_or-append (first_origins m) (loop_origins o size m) 0 u E.0 ∙ E.1,
          )
      by earlier false e =
          let last : k ≡ suc m = omega (arith, leb-false k m e) in
          subst (λ (i : ℕ). (u < length (first_origins i)) × (origin_of (first_origins i) u ≡ origin_of (first_origins k) u)) last (q, refl)

  all_replicate : (n k : ℕ) → k < loop_count o → All (λ number. number < loop_count o) (replicate n k)
  all_replicate zero k h = tt
  all_replicate (suc n) k h = (h, all_replicate n k h)

  first_known : (k : ℕ) → k ≤ loop_count o → All (λ number. number < loop_count o) (first_origins k)
  unfolding for_up
  first_known zero h = tt
  first_known (suc k) h =
      all_append _ (first_origins k) (loop_origins o size k) (first_known k (omega arith)) (all_replicate (loop_nodes o size k) k (omega arith))

  -- node u of loop k
  sampled_number : (k u : ℕ) → k < loop_count o → sum_up k (loop_nodes o size) ≤ u → u < sum_up k (loop_nodes o size) + loop_nodes o size k
      → (u < length (sampled_origins o size)) × (origin_of (sampled_origins o size) u ≡ k)
  unfolding sampled_origins
  sampled_number k u h from to =
      let base = sum_up k (loop_nodes o size) in
      let same : base + (u - base) ≡ u = omega arith in
      let N = subst (λ (i : ℕ). origin_of (first_origins (suc k)) i ≡ k) same (first_next k (u - base) (omega arith)) in
      let K = first_kept (suc k) (loop_count o) u h (omega (arith, first_length o size (suc k), sum_suc (loop_nodes o size) k)) in
      (K.0, K.1 ∙ N)

-- ---- from loops to edges

module _ (l : List ℕ) where
  path_along : (k u : ℕ) (ids : List ℕ) (z : ℕ) → HaveNumber l k (u ∷ ids) → (z < length l) × (origin_of l z ≡ k) → SameAlong l (edges_to (u ∷ ids) z)
  unfolding edges_to
  path_along k u [] z A Z = (record { left = A.0.0; right = Z.0; equal = A.0.1 ∙ sym Z.1 }, tt)
  path_along k u (v ∷ ids) z A Z = (
    record { left = A.0.0; right = A.1.0.0; equal = A.0.1 ∙ sym A.1.0.1 },
    path_along k v ids z A.1 Z,
  )

  loop_along : (ids : List ℕ) → OneNumber l ids → SameAlong l (edges_to ids (head_or 0 ids))
  unfolding edges_to
  loop_along [] N = tt
  loop_along (u ∷ ids) N = path_along N.number u ids u N.have N.have.0

  loops_along : (ls : List (List ℕ)) → All (OneNumber l) ls → SameAlong l (loop_edges ls)
  unfolding loop_edges
  loops_along [] A = tt
  loops_along (ids ∷ ls) A =
      all_append _ (edges_to ids (head_or 0 ids)) (loop_edges ls) (loop_along ids A.0) (loops_along ls A.1)

-- ---- the loops sampled

module _ (o : Outline) (size : Float) (lent : State) (three : Threes o) (P : Places (sampled_count o size) lent) where
  -- EVERY NODE HAS THE NUMBER OF THE LOOP IT WAS SAMPLED FROM: the ids of loop k, its midpoint among them, have number k.
  pub loop_has : (k : ℕ) → k < loop_count o → HaveNumber (sampled_origins o size) k (loop_ids o size k (state_at o size lent k))
  unfolding ring_of loop_nodes
  loop_has k h =
      let s = state_at o size lent k in
      let A = turn_ready o size lent three P k (omega arith) in
      let f = turn_fits o size lent three P k h A in
      let l = loop_at o k in
      let t = sample_loop size l s in
      let r = ring_in k s.counts.nodes t in
      let count = sampled_count_lem s o size k s A.room f in
      let least = cuts_three s o size k s A.room f (three k h) in
      let longest : r.longest < r.count
      = ring_longest k t.xs t.ys s.counts.nodes (t.counts.nodes - s.counts.nodes) (omega (arith, count, least)) in
      let ids = (split_count r t (loop_cuts size l) count refl).1 ∙ ap (λ (n : ℕ). n + n % 2) (cuts_length size l) in
      ids_all r (λ u. (u < length (sampled_origins o size)) × (origin_of (sampled_origins o size) u ≡ k)) (λ i q.
      let I = ring_in_lem r longest i q in
      sampled_number o size k (ring_at r i) h (omega (arith, I.0, A.count)) (omega (arith, I.1, A.count, ids)))

  loop_numbers : All (OneNumber (sampled_origins o size)) (boundary_loops o size lent)
  unfolding boundary_loops
  loop_numbers =
      all_tabulate (OneNumber (sampled_origins o size)) (loop_count o) (λ k. loop_ids o size k (state_at o size lent k))
      (λ k h. record { number = k; have = loop_has k h })

-- ---- the start

pub start_numbered : (o : Outline) (size : Float) (lent : State) → Threes o → front_refusal o size lent ≡ 0
    → Numbered (loop_count o) (sampled_origins o size) (start_book o size)
unfolding start_book sampled_origins
start_numbered o size lent three none =
    let B = begun o size lent three none in
    let n = sampled_count o size in
    record {
      long =
          sampled_length o size ∙ sym B.node_count_of
          ∙ sym (matches_nodes n (from_boundary o size lent) (boundary_loops o size lent) (start_book o size) B.sound (starts o size lent three none));
      known = first_known o size (loop_count o) (omega arith);
      fronts = loops_along (sampled_origins o size) (boundary_loops o size (room_for n))
          (loop_numbers o size (room_for n) three (room_for_lem n lent (refusal_places o size lent none)));
    }
