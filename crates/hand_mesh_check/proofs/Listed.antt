-- Searches and counts over a list's first places by the library's. Assumes nothing.
use Rattle.std.specs.Prelude.{Bool, true, false, not, ◌||◌, cond, List, ◌≡◌, ℕ, suc, zero, ◌+◌, ◌<◌, ◌≤◌, eqb, length, get_or, refl, Float}
use Rattle.std.proofs.Common.{sym, ap, ◌∙◌, take, add-one, arith}
use Rattle.std.specs.List.{filter, list_any}
use Rattle.std.proofs.lemmas.List.Filters.{length-filter_more}
use Rattle.std.proofs.lemmas.List.Folds.{list_any_more}
use Rattle.laws.specs.Loop.{for_up, any_up, sum_up, sum_turn}
use Rattle.topology.specs.Links.{off, link_of, link_read}
use Rattle.hand_mesh_check.specs.Check.{is_linked, link_count}

abbrev pub is_link : ℕ → Bool
is_link v = not (eqb v off)

pub links_counted : (n : ℕ) (links : List ℕ) → n ≤ length links → length (filter is_link (take n links)) ≡ link_count n links
unfolding link_count sum_up for_up
links_counted n links long = below n (omega arith)
  where
    one : (u : ℕ) → u < n → cond {A = ℕ} (is_link (get_or links u 0)) 1 0 ≡ is_linked n links u
    one u h = rw (link_read n links u h long) (flipped (eqb (link_of n links u) off))
      where
        flipped : (b : Bool) → cond {A = ℕ} (not b) 1 0 ≡ cond b 0 1
        flipped true = refl
        flipped false = refl

    below : (m : ℕ) → m ≤ n → length (filter is_link (take m links)) ≡ for_up m (sum_turn (is_linked n links)) 0
    below zero h = refl
    below (suc m) h =
        let here = one m (omega arith) in
        let rest = below m (omega arith) in
        let more = length-filter_more is_link links m 0 (omega arith) in
        rw (← add-one m, more, rest, here)

-- whether one of the first m floats passes
pub any_float : (p : Float → Bool) (l : List Float) (d : Float) (m : ℕ) → m ≤ length l → list_any p (take m l) ≡ any_up m (λ i. p (get_or l i d))
unfolding any_up for_up
any_float p l d zero h = refl
any_float p l d (suc m) h =
    ap (λ (k : ℕ). list_any p (take k l)) (sym (add-one m)) ∙ list_any_more p l m d (omega arith)
    ∙ ap (λ (b : Bool). b || p (get_or l m d)) (any_float p l d m (omega arith))

-- two searches in one
pub any_either : (f g : ℕ → Bool) (n : ℕ) → (any_up n f || any_up n g) ≡ any_up n (λ i. f i || g i)
unfolding any_up for_up
any_either f g zero = refl
any_either f g (suc n) = swap (any_up n f) (f n) (any_up n g) (g n) ∙ ap (λ (b : Bool). b || (f n || g n)) (any_either f g n)
  where
    swap : (a b c d : Bool) → ((a || b) || (c || d)) ≡ ((a || c) || (b || d))
    swap true b c d = refl
    swap false true true d = refl
    swap false true false d = refl
    swap false false c d = refl

-- found by the first, or by the second alone
pub first_found : {a c r : Bool} (b : Bool) → (a || b) ≡ c → r ≡ a → r ≡ true → r ≡ c
first_found b e q t = t ∙ (ap (λ (x : Bool). x || b) (sym (sym q ∙ t)) ∙ e)

pub second_asked : {a c r s : Bool} (b : Bool) → (a || b) ≡ c → r ≡ a → r ≡ false → s ≡ b → s ≡ c
second_asked b e q f p = p ∙ (ap (λ (x : Bool). x || b) (sym (sym q ∙ f)) ∙ e)
