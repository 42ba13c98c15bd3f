-- The ids of a ring: each of the nodes sampled and the midpoint, where there is one, stands in it once.
use Rattle.std.specs.Prelude.{◌≡◌, Bool, ◌≢◌, List, ℕ, ◌+◌, ◌-◌, ◌<◌, ◌≤◌, Float, length}
use Rattle.std.proofs.Math.Path.{refl}
use Rattle.std.proofs.Common.{sym, ◌∙◌, true≢false, arith}
use Rattle.std.proofs.Math.Bool.{true, false, cond}
use Rattle.std.proofs.Math.Dec.{ltb, eqb}
use Rattle.std.specs.Float.Ieee.{lt}
use borrow.Author.Tests.{eqb-true, eqb-false, ltb-true, ltb-false}
use Rattle.laws.specs.Loop.{for_up_keeps}
use Rattle.laws.specs.Tabulate.{tabulate_length}
use Rattle.outline.specs.Outline.{after}
use Rattle.topology.specs.Sums.{All}
use Rattle.topology.proofs.Laying.{Distinct}
use Rattle.front.specs.declared.Ring.{Ring}
use Rattle.front.specs.Sampling.{edge_length, longest_turn, longest_edge, ring_of, ring_count, ordered_at, sampled_at, ring_at, ring_ids}
use Rattle.front_sampled.proofs.Lists.{all_tabulate, distinct_tabulate}

-- the longest edge is one of the ring's
pub longest_in : (xs ys : List Float) (base n : ℕ) (turned : Bool) → 0 < n → longest_edge xs ys base n turned < n
unfolding longest_edge
longest_in xs ys base n turned h =
    for_up_keeps (λ i best. best < n) n (longest_turn xs ys base n turned) 0 h
    (λ i best q p. by i best q p (lt (edge_length xs ys base n turned i) (edge_length xs ys base n turned best)))
  where
    by : (i best : ℕ) → i < n → best < n → (b : Bool) → cond b best i < n
    by i best q p true = p
    by i best q p false = q

pub ring_longest : (k : ℕ) (xs ys : List Float) (base n : ℕ) → 0 < n → (ring_of k xs ys base n).longest < n
unfolding ring_of
ring_longest k xs ys base n h = longest_in xs ys base n _ h

-- ---- the nodes sampled

pub after_in : (n i : ℕ) → 0 < n → after n i < n
after_in n i h = by (ltb (i + 1) n) refl
  where
    by : (b : Bool) → ltb (i + 1) n ≡ b → cond b (i + 1) 0 < n
    by true e = ltb-true (i + 1) n e
    by false e = h

module _ (base n : ℕ) (turned : Bool) where
  pub ordered_in : (k : ℕ) → k < n → (base ≤ ordered_at base n turned k) × (ordered_at base n turned k < base + n)
  ordered_in k h = by turned
    where
      by : (b : Bool) → (base ≤ ordered_at base n b k) × (ordered_at base n b k < base + n)
      by true = (omega arith, omega arith)
      by false = (omega arith, omega arith)

  ordered_differ : (j k : ℕ) → j < k → k < n → ordered_at base n turned j ≢ ordered_at base n turned k
  ordered_differ j k h q = by turned
    where
      by : (b : Bool) → ordered_at base n b j ≢ ordered_at base n b k
      by true e = omega arith
      by false e = omega arith

-- ---- the ring

-- where id k of a ring comes from
data Origin (r : Ring) (k : ℕ) : Type 0 where
  -- it is the node sampled as number k, and no midpoint stands before it
  before : k < r.count → (r.split ≡ true → k ≤ r.longest) → ring_at r k ≡ sampled_at r k → Origin r k
  midpoint : r.split ≡ true → k ≡ r.longest + 1 → ring_at r k ≡ r.base + r.count → Origin r k
  -- it is node number j, and the midpoint stands before it
  behind : (j : ℕ) → k ≡ j + 1 → j < r.count → r.longest < j → r.split ≡ true → ring_at r k ≡ sampled_at r j → Origin r k

module _ (r : Ring) where
  sampled_in : (k : ℕ) → k < r.count → (r.base ≤ sampled_at r k) × (sampled_at r k < r.base + r.count)
  sampled_in = ordered_in r.base r.count r.turned

  sampled_differ : (j k : ℕ) → j < k → k < r.count → sampled_at r j ≢ sampled_at r k
  sampled_differ = ordered_differ r.base r.count r.turned

  module _ (long : r.longest < r.count) where
    origin : (k : ℕ) → k < ring_count r → Origin r k
    unfolding ring_at
    origin k = by r.split refl (ltb r.longest k) refl (eqb k (r.longest + 1)) refl
      where
        by : (s : Bool) → r.split ≡ s → (l : Bool) → ltb r.longest k ≡ l → (m : Bool) → eqb k (r.longest + 1) ≡ m
            → k < r.count + cond s 1 0 → Origin r k
        by false e l p m q h = before (omega arith) (λ t. absurd (true≢false (sym t ∙ e))) (rw e)
        by true e false p m q h = before (omega (arith, ltb-false r.longest k p)) (λ t. ltb-false r.longest k p) (rw (e, p))
        by true e true p true q h = midpoint e (eqb-true k (r.longest + 1) q) (rw (e, p, q))
        by true e true p false q h =
            let less = ltb-true r.longest k p in
            let other = eqb-false k (r.longest + 1) q in
            behind (k - 1) (omega arith) (omega arith) (omega arith) e (rw (e, p, q))

    -- the ids are those from the base on
    pub ring_in_lem : (k : ℕ) → k < ring_count r → (r.base ≤ ring_at r k) × (ring_at r k < r.base + ring_count r)
    ring_in_lem k h = by (origin k h)
      where
        by : Origin r k → (r.base ≤ ring_at r k) × (ring_at r k < r.base + ring_count r)
        by (before p q e) = let i = sampled_in k p in (omega arith, omega arith)
        by (midpoint s p e) = (omega arith, rw (e, s) (omega arith))
        by (behind j p q l s e) = let i = sampled_in j q in (omega arith, omega arith)

    pub ring_differ : (j k : ℕ) → j < k → k < ring_count r → ring_at r j ≢ ring_at r k
    ring_differ j k h q = by (origin j (omega arith)) (origin k q)
      where
        by : Origin r j → Origin r k → ring_at r j ≢ ring_at r k
        by (before a b e) (before c d f) g = sampled_differ j k h c (cc)
        by (before a b e) (midpoint s p f) g = omega (arith, sampled_in j a)
        by (before a b e) (behind i p c l s f) g = sampled_differ j i (omega (arith, b s)) c (cc)
        by (midpoint s p e) (before c d f) g = omega (arith, d s)
        by (midpoint s p e) (midpoint t o f) g = omega arith
        by (midpoint s p e) (behind i o c l t f) g = omega (arith, sampled_in i c)
        by (behind i p a l s e) (before c d f) g = omega (arith, d s)
        by (behind i p a l s e) (midpoint t o f) g = omega arith
        by (behind i p a l s e) (behind m o c n t f) g = sampled_differ i m (omega arith) c (cc)

    pub ids_distinct : Distinct (ring_ids r)
    unfolding ring_ids
    ids_distinct = distinct_tabulate (ring_count r) (ring_at r) ring_differ

  pub ids_length : length (ring_ids r) ≡ ring_count r
  unfolding ring_ids
  ids_length = tabulate_length (ring_count r) (ring_at r)

  pub ids_all : (P : ℕ → Type 0) → ((k : ℕ) → k < ring_count r → P (ring_at r k)) → All P (ring_ids r)
  unfolding ring_ids
  ids_all P h = all_tabulate P (ring_count r) (ring_at r) h
