-- The front of a sound state has as many links as its loops have edges.
use Rattle.std.specs.Prelude.{Bool, true, false, cond, List, [], ◌∷◌, ◌≡◌, refl, ℕ, zero, suc, ◌+◌, ◌<◌, ◌≤◌, eqb, length}
use Rattle.std.proofs.Common.{sym, ◌∙◌, arith, eqb-true, eq-eqb, ne_eqb}
use Rattle.std.proofs.lemmas.Bool.{eqb-false}
use Rattle.laws.specs.Loop.{sum_up}
use Rattle.laws.proofs.Sums.{sum_zero, sum_suc}
use Rattle.topology.specs.Sums.{total, front_sum, one, front_one}
use Rattle.hand_previews.proofs.FrontAfter.{sum_same}
use Rattle.topology.specs.Links.{off, delta, at, delta_same, delta_other}
use Rattle.topology.specs.Front.{Loops}
use Rattle.topology.proofs.Front.{target}
use Rattle.topology.specs.Walk.{count, link_count_lem}
use Rattle.topology.proofs.Walk.{once, nodes, outside, cycles}

sum_add : (f g : ℕ → ℕ) (n : ℕ) → sum_up n (λ i. f i + g i) ≡ sum_up n f + sum_up n g
sum_add f g zero = omega (arith, sum_zero (λ i. f i + g i), sum_zero f, sum_zero g)
sum_add f g (suc n) = omega (arith, sum_suc (λ i. f i + g i) n, sum_suc f n, sum_suc g n, sum_add f g n)

sum_none : (n : ℕ) → sum_up n (λ i. 0) ≡ 0
sum_none zero = sum_zero (λ i. 0)
sum_none (suc n) = omega (arith, sum_suc (λ i. 0) n, sum_none n)

sum_past : (x n : ℕ) → n ≤ x → sum_up n (delta x) ≡ 0
sum_past x zero h = sum_zero (delta x)
sum_past x (suc n) h = omega (arith, sum_suc (delta x) n, sum_past x n (omega arith), delta_other x n (omega arith))

sum_delta : (x n : ℕ) → x < n → sum_up n (delta x) ≡ 1
sum_delta x zero h = absurd (omega arith)
sum_delta x (suc n) h = by (eqb x n) refl (sum_delta x n)
  where
    by : (b : Bool) → eqb x n ≡ b → (x < n → sum_up n (delta x) ≡ 1) → sum_up (suc n) (delta x) ≡ 1
    by true e below =
        let q = eqb-true x n e in omega (arith, sum_suc (delta x) n, delta_same x n q, sum_past x n (omega (arith, q)))
    by false e below = let other = eqb-false x n e in omega (arith, sum_suc (delta x) n, below (omega arith), delta_other x n other)

length_sum : (n : ℕ) (l : List ℕ) → ((v : ℕ) → 0 < count v l → v < n) → sum_up n (λ u. count u l) ≡ length l
unfolding count
length_sum n [] h = sum_none n
length_sum n (x ∷ l) h =
    omega (
      arith,
      sum_add (delta x) (λ u. count u l) n,
      sum_delta x n (h x (omega (arith, delta_same x x refl))),
      length_sum n l (λ v p. h v (omega (arith, p))),
    )

total_length : (n : ℕ) (ls : List (List ℕ)) → ((v : ℕ) → 0 < total (count v) ls → v < n)
    → sum_up n (λ u. total (count u) ls) ≡ total length ls
unfolding total
total_length n [] h = sum_none n
total_length n (l ∷ ls) h =
    omega (
      arith,
      sum_add (λ u. count u l) (λ u. total (count u) ls) n,
      length_sum n l (λ v p. h v (omega (arith, p))),
      total_length n ls (λ v p. h v (omega (arith, p))),
    )

module _ (n : ℕ) (f : ℕ → ℕ) (ls : List (List ℕ)) (L : Loops n f ls) where
  -- a node has a link exactly if it stands in a loop
  linked_once : (u : ℕ) → cond {A = ℕ} (eqb (f u) off) 0 1 ≡ total (count u) ls
  linked_once u = by (total (count u) ls) refl
    where
      by : (k : ℕ) → total (count u) ls ≡ k → cond {A = ℕ} (eqb (f u) off) 0 1 ≡ k
      by zero e = rw (eq-eqb (f u) off (outside n f ls L u e)) refl
      by (suc k) e =
          let v = target n f ls L u (f u) (omega (arith, e, link_count_lem f u ls (cycles n f ls L))) in
          rw (ne_eqb (f u) off (omega (arith, v, L.few))) (omega (arith, e, once n f ls L u))

  pub links_counted : sum_up n (λ u. cond (eqb (f u) off) 0 1) ≡ front_sum one ls
  links_counted = sum_same _ _ n (λ u h. linked_once u) ∙ (total_length n ls (nodes n f ls L) ∙ sym (front_one ls))
