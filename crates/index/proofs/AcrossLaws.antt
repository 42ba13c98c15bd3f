-- Laws of joined lists.
use Rattle.std.specs.Prelude.{Bool, true, false, ◌≡◌}
use mathlib.Core.List.{List, [], ◌++◌}
use Rattle.std.proofs.Math.Logic.{⊎_elim}
use Rattle.std.proofs.Math.Path.{refl, ap, ap₂}
use Rattle.std.proofs.Common.{◌∙◌, eq-or-lt_of_le}
use Prim.Native.Nat.{ℕ, zero, suc, ◌+◌, ◌-◌, ◌<◌, ◌≤◌}
use native.Mathlib.Omega.{arith}
use Rattle.index_pools.specs.Pool.{any_of}
use Rattle.index_pools.specs.ChainLaws.{any_left, any_right, any_neither}
use Rattle.index.specs.Walk.{across}

module _ (test : ℕ → Bool) (f : ℕ → List ℕ) where
  pub across_none : ((i : ℕ) → any_of test (f i) ≡ false) → (w a : ℕ) → any_of test (across f w a) ≡ false
  unfolding across any_of
  across_none fails zero a = refl
  across_none fails (suc w) a = any_neither test (f a) (across f w (a + 1)) (fails a) (across_none fails w (a + 1))

  pub across_some : (w a i : ℕ) → a ≤ i → i < a + w → any_of test (f i) ≡ true → any_of test (across f w a) ≡ true
  unfolding across
  across_some zero a i low high e = absurd (omega arith)
  across_some (suc w) a i low high e =
      ⊎_elim (λ same. any_left test (f a) (across f w (a + 1)) (ap (λ (k : ℕ). any_of test (f k)) same ∙ e))
      (λ more. any_right test (f a) (across f w (a + 1)) (across_some w (a + 1) i (omega arith) (omega arith) e)) (eq-or-lt_of_le low)

module _ (f : ℕ → List ℕ) where
  -- from a to b: a, and then the rest
  pub across_from : (a b : ℕ) → a ≤ b → across f (suc b - a) a ≡ f a ++ across f (b - a) (a + 1)
  unfolding across
  across_from a b h = let e : suc b - a ≡ suc (b - a) = omega arith in ap (λ (w : ℕ). across f w a) e

  -- from i + 1 to b
  pub across_more : (i b : ℕ) → i < b → across f (b - i) (i + 1) ≡ f (i + 1) ++ across f (b - (i + 1)) (i + 1 + 1)
  unfolding across
  across_more i b h = let e : b - i ≡ suc (b - (i + 1)) = omega arith in ap (λ (w : ℕ). across f w (i + 1)) e

  -- none
  pub across_end : (w a : ℕ) → w ≡ 0 → across f w a ≡ []
  unfolding across
  across_end w a e = ap (λ (v : ℕ). across f v a) e

  -- of empty lists
  pub across_empty : ((i : ℕ) → f i ≡ []) → (w a : ℕ) → across f w a ≡ []
  unfolding across
  across_empty empty zero a = refl
  across_empty empty (suc w) a = ap₂ (λ (l m : List ℕ). l ++ m) (empty a) (across_empty empty w (a + 1))
