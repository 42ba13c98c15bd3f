-- Laws of Compare: `same_equal` and `equal_same` (two lists compare the same exactly if they are equal), and what the loops cite. Assumes nothing.
use Rattle.std.specs.Prelude.{◌≡◌, refl, Bool, true, false, ℕ, zero, suc, ◌+◌, ◌≤◌, ◌<◌, eqb, T, length, get_or, drop, Option, Some, None}
use Rattle.std.proofs.Math.Path.{sym, ap}
use Rattle.std.proofs.Common.{ap₂, ◌∙◌, subst, add-one, arith, eq-eqb, ne_eqb, eqb→eq, drop_of_length-le, drop-cons}
use Rattle.std.proofs.Math.Bool.{cond}
use mathlib.Core.List.{List, [], ◌∷◌}
use Rattle.replay.specs.Compare.{compared_from, compared, line_length, EndsAt}

-- ---- what a comparison says

abbrev Equal : List ℕ → List ℕ → Option ℕ → Type 0
Equal l m None = l ≡ m
Equal l m (Some i) = Unit {0}

told : (i : ℕ) (l m : List ℕ) → Equal l m (compared_from i l m)
unfolding compared_from
told i [] [] = refl
told i [] (y ∷ m) = tt
told i (x ∷ l) [] = tt
told i (x ∷ l) (y ∷ m) = head (eqb x y) refl (told (suc i) l m)
  where
    longer : (c : Option ℕ) → x ≡ y → Equal l m c → Equal (x ∷ l) (y ∷ m) c
    longer None e f = ap₂ ◌∷◌ e f
    longer (Some j) e f = tt

    head : (b : Bool) → eqb x y ≡ b → Equal l m (compared_from (suc i) l m) → Equal (x ∷ l) (y ∷ m) (cond b (compared_from (suc i) l m) (Some i))
    head true e f = longer (compared_from (suc i) l m) (eqb→eq x y (subst T (sym e) tt)) f
    head false e f = tt

pub same_equal : (l m : List ℕ) → compared l m ≡ None → l ≡ m
same_equal l m e = subst (Equal l m) e (told 0 l m)

same_from : (i : ℕ) (l : List ℕ) → compared_from i l l ≡ None
unfolding compared_from
same_from i [] = refl
same_from i (x ∷ l) = ap (λ (b : Bool). cond b (compared_from (suc i) l l) (Some i)) (eq-eqb x x refl) ∙ same_from (suc i) l

pub equal_same : (l m : List ℕ) → l ≡ m → compared l m ≡ None
equal_same l m e = subst (λ (k : List ℕ). compared l k ≡ None) e (same_from 0 l)

pub compared_as : {l m : List ℕ} (k : List ℕ) {r : Option ℕ} → l ≡ m → r ≡ compared l k → r ≡ compared m k
compared_as {l} {m} k {r} e = subst (λ (n : List ℕ). r ≡ compared n k) e

-- ---- the loop that compares

-- the invariant: the first i places are alike
pub record AlikeBelow (l m : List ℕ) (i : ℕ) : Type 0 where
  pub same : compared l m ≡ compared_from i (drop i l) (drop i m)

module _ (l m : List ℕ) where
  pub alike_start : AlikeBelow l m 0
  alike_start = record { same = refl }

  module _ {i : ℕ} (a : AlikeBelow l m i) where
    -- what is left, byte and rest or nothing, on both sides
    left : {k n : List ℕ} → drop i l ≡ k → drop i m ≡ n → compared l m ≡ compared_from i k n
    left e f = a.same ∙ ap₂ (compared_from i) e f

    heads : i < length l → i < length m
        → compared l m ≡ cond (eqb (get_or l i 0) (get_or m i 0)) (compared_from (suc i) (drop (suc i) l) (drop (suc i) m)) (Some i)
    unfolding compared_from
    heads h k = left (drop-cons l i 0 h) (drop-cons m i 0 k)

    headed : {b : Bool} → i < length l → i < length m → eqb (get_or l i 0) (get_or m i 0) ≡ b
        → compared l m ≡ cond b (compared_from (suc i) (drop (suc i) l) (drop (suc i) m)) (Some i)
    headed h k e = heads h k ∙ ap (λ (b : Bool). cond b (compared_from (suc i) (drop (suc i) l) (drop (suc i) m)) (Some i)) e

    pub alike_next : i < length l → i < length m → get_or l i 0 ≡ get_or m i 0 → AlikeBelow l m (i + 1)
    alike_next h k e = record { same = rw add-one (headed h k (eq-eqb _ _ e)) }

    pub alike_out : i < length l → i < length m → (get_or l i 0 ≡ get_or m i 0 → ⊥) → Some i ≡ compared l m
    alike_out h k e = sym (headed h k (ne_eqb _ _ e))

    pub alike_short : i < length l → length m ≤ i → Some i ≡ compared l m
    unfolding compared_from
    alike_short h k = sym (left (drop-cons l i 0 h) (drop_of_length-le m k))

    pub alike_long : length l ≤ i → i < length m → Some i ≡ compared l m
    unfolding compared_from
    alike_long h k = sym (left (drop_of_length-le l h) (drop-cons m i 0 k))

    pub alike_end : length l ≤ i → length m ≤ i → None ≡ compared l m
    unfolding compared_from
    alike_end h k = sym (left (drop_of_length-le l h) (drop_of_length-le m k))

-- ---- lines

-- the invariant: no line feed from place k up to place i
pub record Lined (l : List ℕ) (k i : ℕ) : Type 0 where
  pub start : k ≤ i
  pub within : i ≤ length l
  pub same : k + line_length (drop k l) ≡ i + line_length (drop i l)

module _ (l : List ℕ) {k : ℕ} where
  pub lined_start : k ≤ length l → Lined l k k
  lined_start h = record { start = omega arith; within = h; same = refl }

  module _ {i : ℕ} (a : Lined l k i) where
    headed_line : {b : Bool} → i < length l → eqb (get_or l i 0) 10 ≡ b
        → k + line_length (drop k l) ≡ i + cond b 0 (suc (line_length (drop (suc i) l)))
    unfolding line_length
    headed_line h e =
        a.same
        ∙ ap (λ (m : List ℕ). i + line_length m) (drop-cons l i 0 h)
        ∙ ap (λ (b : Bool). i + cond b 0 (suc (line_length (drop (suc i) l)))) e

    pub lined_next : i < length l → (get_or l i 0 ≡ 10 → ⊥) → Lined l k (i + 1)
    lined_next h e =
        record { start = omega (arith, a.start); within = omega arith; same = rw add-one (omega (arith, headed_line h (ne_eqb _ _ e))) }

    ends : i ≡ k + line_length (drop k l) → EndsAt l k i
    ends e = record { same = e; within = (a.start, a.within) }

    pub lined_out : i < length l → get_or l i 0 ≡ 10 → EndsAt l k i
    lined_out h e = ends (omega (arith, headed_line h (eq-eqb _ _ e)))

    pub lined_end : length l ≤ i → EndsAt l k i
    unfolding line_length
    lined_end h = ends (omega (arith, a.same ∙ ap (λ (m : List ℕ). i + line_length m) (drop_of_length-le l h)))
