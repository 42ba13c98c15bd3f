-- What the code's comparison and its lines rest on.
use Rattle.std.proofs.Common.{◌≡◌, refl, sym, ap, ◌∙◌, Bool, true, false, not, cond, eqb, ℕ, zero, suc, ◌+◌, ◌≤◌, min, List, [], ◌∷◌, length, Some, None, true≢false, ltb, lt-ltb, le-ltb, ◌<◌, ◌⊎◌, arith, add-one}
use Rattle.std.specs.Prelude.{Option, is_some}
use Rattle.std.specs.List.{position, position_from, position_or_len, zip}
use Rattle.std.specs.Option.{unwrap_or}
use Rattle.std.proofs.Math.Logic.{⊎_elim}
use Rattle.std.proofs.lemmas.Bool.{cases_lt}
use Rattle.std.proofs.lemmas.Iterator.Adapters.{position_from-zero}
use Rattle.std.proofs.lemmas.List.Recursion.{is_position_or_len}
use Rattle.replay.specs.Compare.{compared_from, compared, line_length}

none_some : {k : ℕ} → ◌≡◌ {A = Option ℕ} None (Some k) → ⊥
none_some e = true≢false (sym (ap is_some e))

abbrev pub unlike : ℕ × ℕ → Bool
unlike p = not (eqb p.0 p.1)

-- where the common part of two lists differs, and where it doesn't
compared_found : (i : ℕ) (l m : List ℕ) {k : ℕ} → position_from unlike i (zip l m) ≡ Some k → Some k ≡ compared_from i l m
unfolding compared_from
compared_found i [] m e = let f : None ≡ Some _ = e in absurd (none_some f)
compared_found i (x ∷ l) [] e = absurd (none_some e)
compared_found i (x ∷ l) (y ∷ m) {k} e = go (compared_found (suc i) l m {k = k}) (eqb x y) refl
  where
    go : (position_from unlike (suc i) (zip l m) ≡ Some k → Some k ≡ compared_from (suc i) l m) → (b : Bool) → eqb x y ≡ b
        → Some k ≡ cond (eqb x y) (compared_from (suc i) l m) (Some i)
    go more true f = rw f (more (rw (f, add-one) at e))
    go more false f = rw f (sym (rw f at e))

compared_none : (i : ℕ) (l m : List ℕ) → position_from unlike i (zip l m) ≡ None → length l ≡ length m → None ≡ compared_from i l m
unfolding compared_from
compared_none i [] [] e h = refl
compared_none i [] (y ∷ m) e h = absurd (omega arith)
compared_none i (x ∷ l) [] e h = absurd (omega arith)
compared_none i (x ∷ l) (y ∷ m) e h = go (λ g. compared_none (suc i) l m g (omega arith)) (eqb x y) refl
  where
    go : (position_from unlike (suc i) (zip l m) ≡ None → None ≡ compared_from (suc i) l m) → (b : Bool) → eqb x y ≡ b
        → None ≡ cond (eqb x y) (compared_from (suc i) l m) (Some i)
    go more true f = rw f (more (rw (f, add-one) at e))
    go more false f = absurd (none_some (sym (rw f at e)))

compared_cut : (i : ℕ) (l m : List ℕ) → position_from unlike i (zip l m) ≡ None → (length l ≡ length m → ⊥)
    → Some (i + min (length l) (length m)) ≡ compared_from i l m
unfolding compared_from
compared_cut i [] [] e h = absurd (h refl)
compared_cut i [] (y ∷ m) e h = ap Some (omega arith)
compared_cut i (x ∷ l) [] e h = ap Some (omega arith)
compared_cut i (x ∷ l) (y ∷ m) e h = go (λ g. compared_cut (suc i) l m g (λ k. h (omega arith))) (eqb x y) refl
  where
    go : (position_from unlike (suc i) (zip l m) ≡ None → Some (suc i + min (length l) (length m)) ≡ compared_from (suc i) l m) → (b : Bool) → eqb x y ≡ b
        → Some (i + min (suc (length l)) (suc (length m))) ≡ cond (eqb x y) (compared_from (suc i) l m) (Some i)
    go more true f = rw f (ap Some {y = suc i + min (length l) (length m)} (omega arith) ∙ more (rw (f, add-one) at e))
    go more false f = absurd (none_some (sym (rw f at e)))

module _ (l m : List ℕ) {place : Option ℕ} (e : place ≡ position unlike (zip l m)) where
  from_zero : place ≡ position_from unlike 0 (zip l m)
  from_zero = e ∙ position_from-zero unlike (zip l m)

  pub place_found : (is_some place ≡ false → length l ≡ length m) → place ≡ compared l m
  place_found h = go place refl
    where
      go : (p : Option ℕ) → place ≡ p → place ≡ compared l m
      go None f = f ∙ compared_none 0 l m (sym from_zero ∙ f) (h (ap is_some f))
      go (Some k) f = f ∙ compared_found 0 l m (sym from_zero ∙ f)

  pub place_cut : is_some place ≡ false → (length l ≡ length m → ⊥) → {r : ℕ} → r ≡ min (length l) (length m) → Some r ≡ compared l m
  place_cut n h f = ap Some {y = 0 + min (length l) (length m)} (omega arith) ∙ compared_cut 0 l m (sym from_zero ∙ none place n) h
    where
      none : (p : Option ℕ) → is_some p ≡ false → p ≡ None
      none None g = refl
      none (Some k) g = absurd (true≢false g)

pub line_at : (l : List ℕ) → line_length l ≡ position_or_len (λ b. eqb b 10) l
unfolding line_length
line_at l = is_position_or_len line_length (λ b. eqb b 10) refl (λ x xs. ap (cond (eqb x 10) 0) (omega arith)) l

pub line_within : (l : List ℕ) → line_length l ≤ length l
unfolding line_length
line_within [] = omega arith
line_within (b ∷ l) = go (line_within l) (eqb b 10)
  where
    go : line_length l ≤ length l → (t : Bool) → cond t 0 (suc (line_length l)) ≤ suc (length l)
    go h true = omega arith
    go h false = omega arith

pub line_place : (l : List ℕ) {p : Option ℕ} {r : ℕ} → p ≡ position (λ b. eqb b 10) l → r ≡ unwrap_or p (length l) → r ≡ line_length l
line_place l {p} {r} e f =
    f
    ∙ ap (λ (q : Option ℕ). unwrap_or q (length l)) (e ∙ ap (λ (n : ℕ). cond (ltb n (length l)) (Some n) None) (sym (line_at l)))
    ∙ ⊎_elim inside past (cases_lt (line_length l) (length l))
  where
    n : ℕ
    n = line_length l

    inside : n < length l → unwrap_or (cond (ltb n (length l)) (Some n) None) (length l) ≡ n
    inside h = rw (lt-ltb n (length l) h) refl

    past : length l ≤ n → unwrap_or (cond (ltb n (length l)) (Some n) None) (length l) ≡ n
    past h = rw (le-ltb n (length l) h) (omega (arith, line_within l))
