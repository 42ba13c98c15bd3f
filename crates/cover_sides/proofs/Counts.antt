-- How often a side stands among a mesh's, read off the sorted numbers of its sides.
use Rattle.std.specs.Prelude.{◌≡◌, ◌≢◌, refl, Bool, true, false, ◌&&◌, cond, ◌⊎◌, List, [], ◌∷◌, ◌++◌, ℕ, zero, suc, ◌+◌, ◌*◌, ◌<◌, ◌≤◌, eqb, ltb, map, length, get_or}
use Rattle.std.proofs.Common.{sym, ap, ap₂, ◌∙◌, subst, arith, eqb-true, eq-eqb, ne_eqb, ltb-true, ltb-false}
use Rattle.std.proofs.lemmas.Bool.{eqb-false}
use Rattle.std.specs.List.{sum_by}
use Rattle.std.specs.List.Sorted.{IsPermutation}
use Rattle.std.proofs.lemmas.List.Sums.{sum_by-cons}
use Rattle.std.proofs.lemmas.List.Sorted.{sum_by-IsPermutation}
use Rattle.laws.specs.Tests.{same_truth, both, and_both}
use Rattle.topology.specs.Sums.{All}
use Rattle.books.specs.Book.{Edge, edge, is_edge}
use Rattle.books.specs.Net.{count_edge}
use Rattle.cover_sides.specs.Sides.{side_key, count_key}

-- ---- numbers for sides

same_key : (e f : Edge) → e.to < 4294967296 → f.to < 4294967296 → side_key e ≡ side_key f → (f.from ≡ e.from) × (f.to ≡ e.to)
same_key e f h g same = (omega arith, omega arith)

key_test : (e f : Edge) → e.to < 4294967296 → f.to < 4294967296 → is_edge e f ≡ eqb (side_key f) (side_key e)
key_test e f h g =
    same_truth (is_edge e f) (eqb (side_key f) (side_key e))
    (λ q. let t = both (eqb e.from f.from) (eqb e.to f.to) q in
    eq-eqb (side_key f) (side_key e) (ap₂ (λ (u v : ℕ). u * 4294967296 + v) (sym (eqb-true e.from f.from t.0)) (sym (eqb-true e.to f.to t.1))))
    (λ q. let t = same_key f e g h (eqb-true (side_key f) (side_key e) q) in
    and_both (eqb e.from f.from) (eqb e.to f.to) (eq-eqb e.from f.from t.0) (eq-eqb e.to f.to t.1))

pub count_keys : (e : Edge) (es : List Edge) → e.to < 4294967296 → All (λ (f : Edge). f.to < 4294967296) es
    → count_edge e.from e.to es ≡ count_key (side_key e) (map side_key es)
unfolding count_edge count_key
count_keys e [] h a = refl
count_keys e (f ∷ es) h a = ap₂ (λ (b : Bool) (n : ℕ). cond b 1 0 + n) (key_test e f h a.0) (count_keys e es h a.1)

-- ---- in another order

count_sum_by : (x : ℕ) (ks : List ℕ) → count_key x ks ≡ sum_by (λ y. cond (eqb y x) 1 0) ks
unfolding count_key
count_sum_by x [] = refl
count_sum_by x (y ∷ ks) =
    ap (λ (n : ℕ). cond (eqb y x) 1 0 + n) (count_sum_by x ks) ∙ sym (sum_by-cons (λ y. cond (eqb y x) 1 0) y ks)

pub count_permuted : (x : ℕ) (ks ms : List ℕ) → IsPermutation ks ms → count_key x ms ≡ count_key x ks
count_permuted x ks ms p =
    count_sum_by x ms ∙ (sum_by-IsPermutation (λ y. cond (eqb y x) 1 0) ks ms p ∙ sym (count_sum_by x ks))

-- ---- by places

module _ (x : ℕ) where
  head_counts : (y : ℕ) (ks : List ℕ) → y ≡ x → count_key x (y ∷ ks) ≡ 1 + count_key x ks
  unfolding count_key
  head_counts y ks e = rw (eq-eqb y x e) refl

  head_passes : (y : ℕ) (ks : List ℕ) → (y ≡ x → ⊥) → count_key x (y ∷ ks) ≡ count_key x ks
  unfolding count_key
  head_passes y ks n = rw (ne_eqb y x n) (omega arith)

  head_more : (y : ℕ) (ks : List ℕ) → count_key x ks ≤ count_key x (y ∷ ks)
  unfolding count_key
  head_more y ks = omega arith

  pub count_none : (ks : List ℕ) → ((i : ℕ) → i < length ks → get_or ks i 0 ≡ x → ⊥) → count_key x ks ≡ 0
  unfolding count_key
  count_none [] never = refl
  count_none (y ∷ ks) never = head_passes y ks (never 0 (omega arith)) ∙ count_none ks (λ i h. never (suc i) (omega arith))

  pub count_some : (ks : List ℕ) (i : ℕ) → i < length ks → get_or ks i 0 ≡ x → 0 < count_key x ks
  count_some [] i h e = absurd (omega arith)
  count_some (y ∷ ks) zero h e = omega (arith, head_counts y ks e)
  count_some (y ∷ ks) (suc i) h e = omega (arith, count_some ks i (omega arith) e, head_more y ks)

  pub count_two : (ks : List ℕ) (i j : ℕ) → i < j → j < length ks → get_or ks i 0 ≡ x → get_or ks j 0 ≡ x → 1 < count_key x ks
  count_two [] i j l h e f = absurd (omega arith)
  count_two (y ∷ ks) i zero l h e f = absurd (omega arith)
  count_two (y ∷ ks) zero (suc j) l h e f = omega (arith, head_counts y ks e, count_some ks j (omega arith) f)
  count_two (y ∷ ks) (suc i) (suc j) l h e f = omega (arith, count_two ks i j (omega arith) (omega arith) e f, head_more y ks)

  pub count_one : (ks : List ℕ) (i : ℕ) → i < length ks → get_or ks i 0 ≡ x → ((j : ℕ) → j < length ks → j ≢ i → get_or ks j 0 ≡ x → ⊥) → count_key x ks ≡ 1
  count_one [] i h e never = absurd (omega arith)
  count_one (y ∷ ks) zero h e never =
      omega (arith, head_counts y ks e, count_none ks (λ j l. never (suc j) (omega arith) (λ q. omega arith)))
  count_one (y ∷ ks) (suc i) h e never =
      head_passes y ks (never 0 (omega arith) (λ q. omega arith))
      ∙ count_one ks i (omega arith) e (λ j l n. never (suc j) (omega arith) (λ q. n (omega arith)))

-- ---- in a rising list, equal numbers are neighbours

module _ (ks : List ℕ) (up : (i j : ℕ) → i ≤ j → j < length ks → get_or ks i 0 ≤ get_or ks j 0) (x i : ℕ) (h : i < length ks) (e : get_or ks i 0 ≡ x) where
  -- the number at i, where it isn't that at i + 1 nor that at i - 1
  pub alone : (i + 1 < length ks → get_or ks (i + 1) 0 ≡ x → ⊥) → ((j : ℕ) → j + 1 ≡ i → get_or ks j 0 ≡ x → ⊥) → count_key x ks ≡ 1
  alone after before = count_one x ks i h e never
    where
      -- what stands between two equal numbers is equal
      later : (j : ℕ) → i < j → j < length ks → get_or ks j 0 ≡ x → ⊥
      later j l m f = after (omega arith) (omega (arith, up i (i + 1) (omega arith) (omega arith), up (i + 1) j (omega arith) m, e, f))

      earlier : (i' j : ℕ) → i ≡ suc i' → j ≤ i' → get_or ks j 0 ≡ x → ⊥
      earlier i' j q l f =
          before i' (omega arith) (omega (arith, up j i' l (omega arith), up i' i (omega arith) h, e, f))

      never : (j : ℕ) → j < length ks → j ≢ i → get_or ks j 0 ≡ x → ⊥
      never j l n f = by i refl (ltb i j) refl
        where
          by : (k : ℕ) → i ≡ k → (b : Bool) → ltb i j ≡ b → ⊥
          by k p true q = later j (ltb-true i j q) l f
          by zero p false q = n (omega (arith, ltb-false i j q))
          by (suc k) p false q = earlier k j p (omega (arith, ltb-false i j q, n)) f
