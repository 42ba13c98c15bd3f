-- What holds of the definitions of specs/LongLoops.antt.
use Prim.Native.Nat.{ℕ, zero, suc, ◌+◌, ◌<◌, ◌≤◌}
use mathlib.Core.List.{List, [], ◌∷◌, ◌++◌}
use Rattle.std.specs.Prelude.{◌≡◌, Bool, ◌≢◌}
use Rattle.std.proofs.Math.Path.{refl, ap}
use Rattle.std.proofs.Common.{sym, ◌∙◌, subst, arith}
use Rattle.std.proofs.Math.Bool.{true, false, cond}
use Rattle.std.proofs.Math.Logic.{inl, inr}
use Rattle.std.proofs.Math.ListN.{length}
use Rattle.std.proofs.Math.Dec.{eqb, leb}
use borrow.Author.Tests.{eqb-true, eqb-false, eq-eqb, ne_eqb, leb-true, leb-false}
use Rattle.laws.specs.Loop.{for_up}
use Rattle.topology.specs.Sums.{All, Some, total}
use Rattle.topology.specs.Front.{Loops, head_or}
use Rattle.topology.specs.Walk.{count, least, turn_to, loop_from, Cycle}
use Rattle.topology.specs.Walk.{FromSmallest, least_counts, turn_smallest, turn_head, turn_to_length}
use Rattle.topology.proofs.Walk.{cycles, once, nodes}
use Rattle.topology.specs.Listing.{add_loop, long_loops, walks, all_snoc}
use Rattle.topology.proofs.Listing.{walks_list}
use Rattle.topology.proofs.Pigeonhole.{ids_most}
use Rattle.topology.specs.LongLoops.{Rising, LongLoops}

-- ---- laws of lists

all_both : {P Q R : List ℕ → Type 0} → ((l : List ℕ) → P l → Q l → R l) → (ls : List (List ℕ)) → All P ls → All Q ls → All R ls
all_both f [] p q = tt
all_both f (l ∷ ls) p q = (f l p.0 q.0, all_both f ls p.1 q.1)

some_first : (P : List ℕ → Type 0) (ms : List (List ℕ)) (l : List ℕ) → Some P ms → Some P (ms ++ l ∷ [])
some_first P [] l s = absurd s
some_first P (m ∷ ms) l (inl s) = inl s
some_first P (m ∷ ms) l (inr s) = inr (some_first P ms l s)

some_last : (P : List ℕ → Type 0) (ms : List (List ℕ)) (l : List ℕ) → P l → Some P (ms ++ l ∷ [])
some_last P [] l p = inl p
some_last P (m ∷ ms) l p = inr (some_last P ms l p)

rising_append : (ms : List (List ℕ)) (l : List ℕ) → Rising ms → All (λ m. head_or 0 m < head_or 0 l) ms → Rising (ms ++ l ∷ [])
rising_append [] l r h = (tt, tt)
rising_append (m ∷ ms) l r h = (all_snoc _ ms l r.0 h.0, rising_append ms l r.1 h.1)

-- ---- of the loops L 0, .., L (n - 1) those of three nodes or more

module _ (L : ℕ → List ℕ) where
  -- what holds of each of them holds of what is listed
  listing_each : (P : List ℕ → Type 0) → ((u : ℕ) → 3 ≤ length (L u) → P (L u)) → (n : ℕ) → All P (long_loops 3 n L)
  unfolding long_loops for_up add_loop
  listing_each P h zero = tt
  listing_each P h (suc n) = by (leb 3 (length (L n))) refl (listing_each P h n)
    where
      by : (b : Bool) → leb 3 (length (L n)) ≡ b → All P (long_loops 3 n L) → All P (cond b (long_loops 3 n L ++ L n ∷ []) (long_loops 3 n L))
      by true e a = all_snoc P (long_loops 3 n L) (L n) a (h n (leb-true 3 (length (L n)) e))
      by false e a = a

  -- and each is listed
  listing_some : (P : List ℕ → Type 0) (u n : ℕ) → u < n → 3 ≤ length (L u) → P (L u) → Some P (long_loops 3 n L)
  unfolding long_loops for_up add_loop
  listing_some P u zero h long p = absurd (omega arith)
  listing_some P u (suc n) h long p = by (eqb u n) refl (leb 3 (length (L n))) refl (listing_some P u n)
    where
      by : (s : Bool) → eqb u n ≡ s → (b : Bool) → leb 3 (length (L n)) ≡ b
          → (u < n → 3 ≤ length (L u) → P (L u) → Some P (long_loops 3 n L))
          → Some P (cond b (long_loops 3 n L ++ L n ∷ []) (long_loops 3 n L))
      by true q true e later = some_last P (long_loops 3 n L) (L n) (subst (λ (v : ℕ). P (L v)) (eqb-true u n q) p)
      by true q false e later =
          absurd (omega (arith, leb-false 3 (length (L n)) e, ap (λ (v : ℕ). length (L v)) (eqb-true u n q)))
      by false q true e later =
          let other = eqb-false u n q in
          some_first P (long_loops 3 n L) (L n) (later (omega arith) long p)
      by false q false e later = let other = eqb-false u n q in later (omega arith) long p

  -- in rising order, where L u begins with u
  module _ (begins : (u : ℕ) → 3 ≤ length (L u) → head_or 0 (L u) ≡ u) where
    listing_below : (n : ℕ) → All (λ m. head_or 0 m < n) (long_loops 3 n L)
    unfolding long_loops for_up add_loop
    listing_below zero = tt
    listing_below (suc n) = by (leb 3 (length (L n))) refl (all_both (λ l p q. omega arith) (long_loops 3 n L) (listing_below n) (listing_below n))
      where
        by : (b : Bool) → leb 3 (length (L n)) ≡ b → All (λ m. head_or 0 m < suc n) (long_loops 3 n L)
            → All (λ m. head_or 0 m < suc n) (cond b (long_loops 3 n L ++ L n ∷ []) (long_loops 3 n L))
        by true e a = all_snoc _ (long_loops 3 n L) (L n) a (omega (arith, begins n (leb-true 3 (length (L n)) e)))
        by false e a = a

    listing_rising : (n : ℕ) → Rising (long_loops 3 n L)
    unfolding long_loops for_up add_loop
    listing_rising zero = tt
    listing_rising (suc n) = by (leb 3 (length (L n))) refl (listing_rising n)
      where
        by : (b : Bool) → leb 3 (length (L n)) ≡ b → Rising (long_loops 3 n L) → Rising (cond b (long_loops 3 n L ++ L n ∷ []) (long_loops 3 n L))
        by true e a =
            rising_append (long_loops 3 n L) (L n) a
            (subst (λ (k : ℕ). All (λ m. head_or 0 m < k) (long_loops 3 n L)) (sym (begins n (leb-true 3 (length (L n)) e))) (listing_below n))
        by false e a = a

-- ---- the loop whose smallest id is u

module _ (f : ℕ → ℕ) where
  -- it begins with u
  from_head : (u : ℕ) (ls : List (List ℕ)) → All (Cycle f) ls → 0 < length (loop_from u ls) → head_or 0 (loop_from u ls) ≡ u
  unfolding loop_from
  from_head u [] R h = absurd (omega arith)
  from_head u (l ∷ ls) R h = by (eqb (least l) u) refl (from_head u ls R.1) h
    where
      by : (b : Bool) → eqb (least l) u ≡ b → (0 < length (loop_from u ls) → head_or 0 (loop_from u ls) ≡ u)
          → 0 < length (cond b (turn_to u l) (loop_from u ls)) → head_or 0 (cond b (turn_to u l) (loop_from u ls)) ≡ u
      by true e later h = turn_head u l (least_counts f u l R.0 (eqb-true (least l) u e))
      by false e later h = later h

  -- and is one of the loops
  from_some : (u : ℕ) (ls : List (List ℕ)) → All (Cycle f) ls → 3 ≤ length (loop_from u ls)
      → Some (λ l. (3 ≤ length l) × FromSmallest l (loop_from u ls)) ls
  unfolding loop_from
  from_some u [] R h = absurd (omega arith)
  from_some u (l ∷ ls) R h = by (eqb (least l) u) refl (from_some u ls R.1) h
    where
      by : (b : Bool) → eqb (least l) u ≡ b
          → (3 ≤ length (loop_from u ls) → Some (λ l. (3 ≤ length l) × FromSmallest l (loop_from u ls)) ls)
          → 3 ≤ length (cond b (turn_to u l) (loop_from u ls))
          → Some (λ k. (3 ≤ length k) × FromSmallest k (cond b (turn_to u l) (loop_from u ls))) (l ∷ ls)
      by true e later h =
          inl ((omega (arith, turn_to_length u l)), turn_smallest f u l R.0 (eqb-true (least l) u e))
      by false e later h = inr (later h)

  -- loops that share no node have different smallest ids
  apart : (l : List ℕ) (ls : List (List ℕ)) → Cycle f l → All (Cycle f) ls → ((u : ℕ) → count u l + total (count u) ls ≤ 1)
      → All (λ m. least l ≢ least m) ls
  unfolding total
  apart l [] r R c = tt
  apart l (m ∷ ls) r R c = (
    λ e. omega (arith, c (least m), least_counts f (least m) l r e, least_counts f (least m) m R.0 refl),
    apart l ls r R.1 (λ u. omega (arith, c u)),
  )

  -- so each loop is found from its smallest id
  from_least : (ls : List (List ℕ)) → All (Cycle f) ls → ((u : ℕ) → total (count u) ls ≤ 1)
      → All (λ l. loop_from (least l) ls ≡ turn_to (least l) l) ls
  unfolding loop_from total
  from_least [] R c = tt
  from_least (l ∷ ls) R c = (
    rw (eq-eqb (least l) (least l) refl),
    all_both {R = λ m. cond (eqb (least l) (least m)) (turn_to (least m) l) (loop_from (least m) ls) ≡ turn_to (least m) m}
        (λ m p q. rw (ne_eqb (least l) (least m) p) q) ls (apart l ls R.0 R.1 c)
        (from_least ls R.1 (λ u. omega (arith, c u))),
  )

  -- the smallest ids are nodes
  least_nodes : (n : ℕ) (ls : List (List ℕ)) → All (Cycle f) ls → ((u : ℕ) → 0 < total (count u) ls → u < n) → All (λ l. least l < n) ls
  unfolding total
  least_nodes n [] R h = tt
  least_nodes n (l ∷ ls) R h = (
    h (least l) (omega (arith, least_counts f (least l) l R.0 refl)),
    least_nodes n ls R.1 (λ u p. h u (omega (arith, p))),
  )

  -- each with what is known of it
  each_smallest : (ls : List (List ℕ)) → All (Cycle f) ls → All (λ l. FromSmallest l (turn_to (least l) l)) ls
  each_smallest [] R = tt
  each_smallest (l ∷ ls) R = (turn_smallest f (least l) l R.0 refl, each_smallest ls R.1)

-- ---- the theorem

loops_listed : (n : ℕ) (f : ℕ → ℕ) (ls : List (List ℕ)) → Loops n f ls → LongLoops ls (long_loops 3 n (λ u. loop_from u ls))
loops_listed n f ls L =
    let C = cycles n f ls L in
    let F : ℕ → List ℕ = λ u. loop_from u ls in
    let found =
    all_both {R = λ l. (least l < n) × (loop_from (least l) ls ≡ turn_to (least l) l)} (λ l p q. (p, q)) ls
    (least_nodes f n ls C (nodes n f ls L)) (from_least f ls C (once n f ls L)) in
    record {
      all = all_both (λ l p s long.
          listing_some F (FromSmallest l) (least l) n p.0 (omega (arith, ap length p.1, turn_to_length (least l) l))
          (subst (FromSmallest l) (sym p.1) s)) ls found (each_smallest f ls C);
      only = listing_each F (λ m. Some (λ l. (3 ≤ length l) × FromSmallest l m) ls) (λ u h. from_some f u ls C h) n;
      rising = listing_rising F (λ u h. from_head f u ls C (omega arith)) n;
    }

-- The walks along f from n nodes, each of m nodes at most, list the loops of f that have three nodes or more. Here ls and ms are loops of these same
-- links, and ls have m edges at most.
pub walks_long : (n : ℕ) (f : ℕ → ℕ) (ls : List (List ℕ)) → Loops n f ls → (m : ℕ) → total length ls ≤ m
    → (ms : List (List ℕ)) → Loops n f ms → LongLoops ms (walks 3 n m f)
walks_long n f ls L m few ms M =
    let same : walks 3 n m f ≡ long_loops 3 n (λ u. loop_from u ms) =
    walks_list n f ls L m few 3
    ∙ (sym (walks_list n f ls L n (ids_most n f ls L) 3) ∙ walks_list n f ms M n (ids_most n f ms M) 3) in
    subst (LongLoops ms) (sym same) (loops_listed n f ms M)
