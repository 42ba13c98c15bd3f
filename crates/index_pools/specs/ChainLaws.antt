-- Laws of chains.
use Rattle.std.specs.Prelude.{Bool, cond, ◌||◌, ◌⊎◌, ◌≡◌, ltb}
use Rattle.std.proofs.Math.Bool.{true, false}
use Rattle.std.proofs.Common.{true≢false, inl, inr, sym, ap₂, ◌∙◌, eq-or-lt_of_le, le_of_suc-le-suc, arith}
use mathlib.Core.List.{List, [], ◌∷◌, ◌++◌}
use Rattle.std.proofs.Math.Logic.{⊎_elim}
use Rattle.std.proofs.Math.Path.{refl, ap}
use Prim.Native.Nat.{ℕ, zero, suc, ◌<◌, ◌≤◌}
use borrow.Author.Tests.{eq-eqb, ne_eqb, eqb-true, eqb-false, ltb-true, ltb-false}
use Rattle.std.proofs.Math.Dec.{eqb}
use Rattle.laws.specs.Tests.{or_right}
use Rattle.index_pools.specs.Pool.{falling, any_of}

-- ---- two ways

pub below_or_not : (a b : ℕ) → (a < b) ⊎ (b ≤ a)
below_or_not a b = by (ltb a b) refl
  where
    by : (t : Bool) → ltb a b ≡ t → (a < b) ⊎ (b ≤ a)
    by true e = inl (ltb-true a b e)
    by false e = inr (ltb-false a b e)

pub same_or_not : (a b : ℕ) → (a ≡ b) ⊎ (a ≡ b → ⊥)
same_or_not a b = by (eqb a b) refl
  where
    by : (t : Bool) → eqb a b ≡ t → (a ≡ b) ⊎ (a ≡ b → ⊥)
    by true e = inl (eqb-true a b e)
    by false e = inr (eqb-false a b e)

-- below suc k, and not k
pub less_other : {i k : ℕ} → i < suc k → (i ≡ k → ⊥) → i < k
less_other {i} {k} h other = ⊎_elim (λ less. less) (λ past. absurd (other (omega arith))) (below_or_not i k)

-- ---- a test over a list

module _ (test : ℕ → Bool) where
  pub any_append : (l m : List ℕ) → any_of test (l ++ m) ≡ any_of test l || any_of test m
  unfolding any_of
  any_append [] m = refl
  any_append (x ∷ l) m = ap (λ (b : Bool). test x || b) (any_append l m) ∙ assoc (test x)
    where
      assoc : (b : Bool) → b || (any_of test l || any_of test m) ≡ (b || any_of test l) || any_of test m
      assoc true = refl
      assoc false = refl

  pub any_left : (l m : List ℕ) → any_of test l ≡ true → any_of test (l ++ m) ≡ true
  any_left l m e = any_append l m ∙ ap (λ (b : Bool). b || any_of test m) e

  pub any_right : (l m : List ℕ) → any_of test m ≡ true → any_of test (l ++ m) ≡ true
  any_right l m e = any_append l m ∙ or_right (any_of test l) e

  pub any_neither : (l m : List ℕ) → any_of test l ≡ false → any_of test m ≡ false → any_of test (l ++ m) ≡ false
  any_neither l m e f = any_append l m ∙ ap₂ (λ (b c : Bool). b || c) e f

  -- the list has x, and the test holds for x
  pub any_has : (x : ℕ) (l : List ℕ) → any_of (eqb x) l ≡ true → test x ≡ true → any_of test l ≡ true
  unfolding any_of
  any_has x [] h e = absurd (true≢false (sym h))
  any_has x (y ∷ l) h e = by (eqb x y) refl h (λ g. any_has x l g e)
    where
      by : (b : Bool) → eqb x y ≡ b → b || any_of (eqb x) l ≡ true → (any_of (eqb x) l ≡ true → any_of test l ≡ true)
          → test y || any_of test l ≡ true
      by true f g rest = ap (λ (b : Bool). b || any_of test l) (ap test (sym (eqb-true x y f)) ∙ e)
      by false f g rest = or_right (test y) (rest g)

-- ---- falling links

module _ (own link : ℕ → ℕ) where
  pub falling_high : (k t : ℕ) → k ≤ t → falling own link k t ≡ []
  unfolding falling
  falling_high zero t h = refl
  falling_high (suc k) t h = rw (ne_eqb t k (λ e. omega arith)) (falling_high k t (omega arith))

  pub falling_step : (k t : ℕ) → t < k → falling own link k t ≡ own t ∷ falling own link t (link t)
  unfolding falling
  falling_step zero t h = absurd (omega arith)
  falling_step (suc k) t h =
      ⊎_elim (λ e. rw (eq-eqb t k e) (ap (λ (s : ℕ). own s ∷ falling own link s (link s)) (sym e)))
      (λ less. rw (ne_eqb t k (λ e. omega arith)) (falling_step k t less)) (eq-or-lt_of_le (le_of_suc-le-suc h))

  -- the rest of the chain, where the link falls
  pub falling_on : (k t : ℕ) → t < k → link t < t → falling own link k t ≡ own t ∷ falling own link k (link t)
  falling_on k t h less =
      falling_step k t h
      ∙ ap (λ (l : List ℕ). own t ∷ l) (falling_step t (link t) less ∙ sym (falling_step k (link t) (omega arith)))

  -- and its end, where it doesn't
  pub falling_last : (k t : ℕ) → t < k → t ≤ link t → falling own link k t ≡ own t ∷ []
  falling_last k t h stop = falling_step k t h ∙ ap (λ (l : List ℕ). own t ∷ l) (falling_high t (link t) stop)

  -- what a chain below u has, by induction along it: P of the empty list, and of one owner more
  pub falling_keeps : (P : List ℕ → Type 0) (u : ℕ) → P [] → ((t : ℕ) (l : List ℕ) → t < u → P l → P (own t ∷ l))
      → (k t : ℕ) → t < u → P (falling own link k t)
  unfolding falling
  falling_keeps P u start more zero t h = start
  falling_keeps P u start more (suc k) t h = by (eqb t k) refl (λ s small. falling_keeps P u start more k s small)
    where
      by : (b : Bool) → eqb t k ≡ b → ((s : ℕ) → s < u → P (falling own link k s))
          → P (cond b (own k ∷ falling own link k (link k)) (falling own link k t))
      by true e below =
          let same = eqb-true t k e in
          more k (falling own link k (link k)) (omega arith)
          (⊎_elim (λ less. below (link k) (omega arith)) (λ stop. rw (falling_high k (link k) stop) start) (below_or_not (link k) k))
      by false e below = below t h

-- two pools that agree below u have the same chains there
pub falling_same : (own link own' link' : ℕ → ℕ) (u : ℕ)
    → ((t : ℕ) → t < u → own' t ≡ own t) → ((t : ℕ) → t < u → link' t ≡ link t)
    → (k t : ℕ) → t < u → falling own' link' k t ≡ falling own link k t
unfolding falling
falling_same own link own' link' u owns links zero t h = refl
falling_same own link own' link' u owns links (suc k) t h =
    by (eqb t k) refl (λ s small. falling_same own link own' link' u owns links k s small)
  where
    by : (b : Bool) → eqb t k ≡ b → ((s : ℕ) → s < u → falling own' link' k s ≡ falling own link k s)
        → cond b (own' k ∷ falling own' link' k (link' k)) (falling own' link' k t)
        ≡ cond b (own k ∷ falling own link k (link k)) (falling own link k t)
    by true e below =
        let same = eqb-true t k e in
        let small : k < u = omega arith in
        ap₂ (λ (x : ℕ) (l : List ℕ). x ∷ l) (owns k small)
        (ap (falling own' link' k) (links k small)
        ∙ ⊎_elim (λ less. below (link k) (omega arith))
        (λ stop. falling_high own' link' k (link k) stop ∙ sym (falling_high own link k (link k) stop)) (below_or_not (link k) k))
    by false e below = below t h
