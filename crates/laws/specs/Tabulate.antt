-- The list f 0, f 1, .., f (n - 1), and its laws.
use Rattle.std.specs.Prelude.{◌≡◌, length, take}
use Rattle.std.proofs.Math.Path.{refl, sym, ap, ap₂}
use Rattle.std.proofs.Common.{◌∙◌, eq-or-lt_of_le, le_of_suc-le-suc, arith, take-suc}
use mathlib.Core.List.{List, [], ◌∷◌, ◌++◌, map}
use Rattle.std.proofs.Math.Logic.{⊎_elim}
use Prim.Native.Nat.{ℕ, zero, suc, ◌<◌, ◌≤◌}
use Rattle.std.proofs.Math.ListN.{get_or, length-append, get_or-append}
use Rattle.std.proofs.lemmas.List.{get_or_at}

unfoldable pub tabulate : {A : Type 0} → ℕ → (ℕ → A) → List A
tabulate zero f = []
tabulate (suc n) f = tabulate n f ++ f n ∷ []

module _ {A : Type 0} where
  pub tabulate_suc : (n : ℕ) (f : ℕ → A) → tabulate (suc n) f ≡ tabulate n f ++ f n ∷ []
  unfolding tabulate
  tabulate_suc n f = refl

  pub tabulate_length : (n : ℕ) (f : ℕ → A) → length (tabulate n f) ≡ n
  unfolding tabulate
  tabulate_length zero f = refl
  tabulate_length (suc n) f = omega (arith, length-append (tabulate n f) (f n ∷ []), tabulate_length n f)

  -- lists of the same entries
  pub tabulate_same : (n : ℕ) (f g : ℕ → A) → ((i : ℕ) → i < n → f i ≡ g i) → tabulate n f ≡ tabulate n g
  unfolding tabulate
  tabulate_same zero f g same = refl
  tabulate_same (suc n) f g same =
      ap₂ (λ (l : List A) (x : A). l ++ x ∷ []) (tabulate_same n f g (λ i h. same i (omega arith))) (same n (omega arith))

  pub tabulate_at : (n : ℕ) (f : ℕ → A) (i : ℕ) (d : A) → i < n → get_or (tabulate n f) i d ≡ f i
  unfolding tabulate
  tabulate_at zero f i d h = absurd (omega arith)
  tabulate_at (suc n) f i d h =
      ⊎_elim (λ e. rw e (get_or_at (tabulate n f) (f n) [] d n (tabulate_length n f)))
      (λ less. get_or-append (tabulate n f) (f n ∷ []) d i (omega (arith, tabulate_length n f)) ∙ tabulate_at n f i d less)
      (eq-or-lt_of_le (le_of_suc-le-suc h))

  -- the first n entries of a list
  pub tabulate_take : (n : ℕ) (l : List A) (d : A) → n ≤ length l → tabulate n (λ i. get_or l i d) ≡ take n l
  unfolding tabulate
  tabulate_take zero l d h = refl
  tabulate_take (suc n) l d h =
      ap (λ (m : List A). m ++ get_or l n d ∷ []) (tabulate_take n l d (omega arith)) ∙ sym (take-suc l n d h)

module _ {A B : Type 0} (f : A → B) where
  map_append : (l m : List A) → map f (l ++ m) ≡ map f l ++ map f m
  map_append [] m = refl
  map_append (x ∷ l) m = ap (λ (t : List B). f x ∷ t) (map_append l m)

  pub tabulate_map : (n : ℕ) (g : ℕ → A) → map f (tabulate n g) ≡ tabulate n (λ i. f (g i))
  unfolding tabulate
  tabulate_map zero g = refl
  tabulate_map (suc n) g =
      map_append (tabulate n g) (g n ∷ []) ∙ ap (λ (l : List B). l ++ f (g n) ∷ []) (tabulate_map n g)
