-- What holds of every entry of a list that is put together or tabulated; lists of distinct ids.
use Rattle.std.proofs.Common.{sym, arith}
use Rattle.std.specs.Prelude.{◌≢◌, List, [], ◌∷◌, ◌++◌, length, get_or}
use Prim.Native.Nat.{ℕ, zero, suc, ◌<◌}
use Rattle.laws.specs.Tabulate.{tabulate}
use Rattle.topology.specs.Sums.{All}
use Rattle.topology.proofs.Laying.{Distinct}

module _ {A : Type 0} (P : A → Type 0) where
  pub all_append : (l m : List A) → All P l → All P m → All P (l ++ m)
  all_append [] m a b = b
  all_append (x ∷ l) m a b = (a.0, all_append l m a.1 b)

  pub all_tabulate : (n : ℕ) (f : ℕ → A) → ((i : ℕ) → i < n → P (f i)) → All P (tabulate n f)
  unfolding tabulate
  all_tabulate zero f h = tt
  all_tabulate (suc n) f h = all_append (tabulate n f) (f n ∷ []) (all_tabulate n f (λ i q. h i (omega arith))) (h n (omega arith), tt)

  pub all_at : (l : List A) → All P l → (i : ℕ) (d : A) → i < length l → P (get_or l i d)
  all_at [] a i d h = absurd (omega arith)
  all_at (x ∷ l) a zero d h = a.0
  all_at (x ∷ l) a (suc i) d h = all_at l a.1 i d (omega arith)

-- one id more
distinct_snoc : (l : List ℕ) (w : ℕ) → Distinct l → All (λ v. w ≢ v) l → Distinct (l ++ w ∷ [])
distinct_snoc [] w d n = (tt, tt)
distinct_snoc (v ∷ l) w d n = (all_append (λ u. u ≢ v) l (w ∷ []) d.0 (n.0, tt), distinct_snoc l w d.1 n.1)

pub distinct_tabulate : (n : ℕ) (f : ℕ → ℕ) → ((j k : ℕ) → j < k → k < n → f j ≢ f k) → Distinct (tabulate n f)
unfolding tabulate
distinct_tabulate zero f h = tt
distinct_tabulate (suc n) f h =
    distinct_snoc (tabulate n f) (f n) (distinct_tabulate n f (λ j k p q. h j k p (omega arith)))
    (all_tabulate (λ v. f n ≢ v) n f (λ i q e. h i n q (omega arith) (sym e)))
