-- Counts that stop at a number far above the places that can be lent, and the refusal that they give.
use Rattle.std.specs.Prelude.{false, List, ◌≡◌, refl, ℕ, zero, suc, ◌+◌, ◌-◌, ◌%◌, ◌≤◌, ◌<◌, min, ltb, Float, length}
use Rattle.std.proofs.Common.{sym, ap, ◌∙◌, add-one, arith, lt-ltb, le-ltb}
use Rattle.laws.specs.Loop.{sum_up}
use Rattle.laws.proofs.Sums.{sum_zero, sum_suc}
use Rattle.outline.specs.Outline.{Outline, loop_at, loop_start, hole_start, hole_length, misshapen}
use Rattle.outline.proofs.OutlineBase.{start_first, start_next, start_grows, shaped}
use Rattle.front.specs.State.{most_nodes}
use Rattle.front.specs.Sampling.{loop_parts, loop_nodes, sampled_count, sampled_refusal}

-- 2^40
abbrev pub most : ℕ
most = 1099511627776

-- one more where n is odd
abbrev pub even_up : ℕ → ℕ
even_up n = n + n % 2

-- ---- sums that stop

-- i of n terms of f have been added
pub record PartSum (f : ℕ → ℕ) (n i sum : ℕ) : Type 0 where
  pub within : i ≤ n
  pub same : sum ≡ min (sum_up i f) most

module _ (f : ℕ → ℕ) where
  pub added_none : (n : ℕ) → PartSum f n 0 0
  added_none n = record { within = omega arith; same = omega (arith, sum_zero f) }

  pub added_few : {n i sum : ℕ} → PartSum f n i sum → sum ≤ most
  added_few A = omega (arith, A.same)

  -- one more, which may have been stopped too
  pub added_next : {n i sum : ℕ} (x : ℕ) → PartSum f n i sum → i < n → min x most ≡ min (f i) most → PartSum f n (i + 1) (min (sum + x) most)
  added_next {n} {i} {sum} x A h e = record { within = omega arith; same = rw add-one (omega (arith, A.same, sum_suc f i, e)) }

  pub added_all : {n i sum : ℕ} → PartSum f n i sum → n ≤ i → sum ≡ min (sum_up n f) most
  added_all {n} {i} A h = let e : i ≡ n = omega (arith, A.within) in A.same ∙ ap (λ (k : ℕ). min (sum_up k f) most) e

-- ---- the loops

-- one loop more: s is loop k
pub loop_added : (o : Outline) (size : Float) {n k sum : ℕ} (s : List Float) (parts : ℕ) → PartSum (loop_nodes o size) (suc n) k sum → k ≤ n
    → s ≡ loop_at o k → parts ≡ min (loop_parts size s) most → PartSum (loop_nodes o size) (suc n) (k + 1) (min (sum + even_up parts) most)
unfolding loop_nodes
loop_added o size {n} {k} s parts A h p e =
    added_next (loop_nodes o size) (even_up parts) A (omega arith) (omega (arith, e ∙ ap (λ (l : List Float). min (loop_parts size l) most) p))

-- ---- the refusal

module _ (o : Outline) (size : Float) (nodes edges : ℕ) (count : ℕ) (e : count ≡ min (sampled_count o size) most) where
  pub refused_nodes : min nodes most_nodes < count → 10 ≡ sampled_refusal o size (min nodes most_nodes) edges
  refused_nodes h = rw (lt-ltb (min nodes most_nodes) (sampled_count o size) (omega arith))

  module _ (h : count ≤ min nodes most_nodes) where
    exact : count ≡ sampled_count o size
    exact = omega arith

    enough : ltb (min nodes most_nodes) (sampled_count o size) ≡ false
    enough = le-ltb (min nodes most_nodes) (sampled_count o size) (omega (arith, exact))

    pub refused_edges : edges < count → 10 ≡ sampled_refusal o size (min nodes most_nodes) edges
    refused_edges g = rw (enough, lt-ltb edges (sampled_count o size) (omega (arith, exact)))

    pub not_refused : count ≤ edges → 0 ≡ sampled_refusal o size (min nodes most_nodes) edges
    not_refused g = rw (enough, le-ltb edges (sampled_count o size) (omega (arith, exact)))

-- ---- the points before a loop

module _ (lens : List ℕ) where
  pub second_start : {k : ℕ} → k ≡ 0 → 0 ≡ loop_start lens (k + 1)
  second_start {k} e = rw e (sym (start_first lens))

  pub later_start : (k start : ℕ) → (k ≡ 0 → ⊥) → start ≡ loop_start lens k → start + hole_length lens (k - 1) ≡ loop_start lens (k + 1)
  later_start zero start h e = absurd (h refl)
  later_start (suc k) start h e =
      let last : suc k - 1 ≡ k = omega arith in
      rw (last, e, add-one (suc k)) (sym (rw add-one at (start_next lens k)))

-- no sum of lengths is large
pub start_few : (o : Outline) → misshapen o ≡ false → (k : ℕ) → k ≤ length o.lens → loop_start o.lens (k + 1) < 4294967296
start_few o e k h =
    let s = shaped o e in
    let rest : k + (length o.lens - k) ≡ length o.lens = omega arith in
    rw add-one (omega (arith, s.sum, s.few, start_grows o.lens k (length o.lens - k), ap (hole_start o.lens) rest))
