-- The searches of specs/ by the library's: over a list's first m elements, and over the numbers below n. Assumes nothing.
use Rattle.std.specs.Prelude.{Bool, ◌||◌, List, ◌≡◌, ℕ, suc, zero, ◌+◌, ◌<◌, ◌≤◌, length, get_or, refl}
use Rattle.std.proofs.Common.{sym, ap, ◌∙◌, take, add-one, zero-add, arith}
use Rattle.std.specs.List.{list_any, range_with_len}
use Rattle.std.proofs.lemmas.List.Folds.{list_any_more}
use Rattle.std.proofs.lemmas.List.FromFn.{length-range_with_len, get_or-range_with_len}
use Rattle.std.proofs.lemmas.List.Recursion.{or_is}
use Rattle.laws.specs.Loop.{for_up, any_up, any_found, any_none}

pub any_listed : (p : ℕ → Bool) (l : List ℕ) (d m : ℕ) → m ≤ length l → list_any p (take m l) ≡ any_up m (λ i. p (get_or l i d))
unfolding any_up for_up
any_listed p l d zero h = refl
any_listed p l d (suc m) h =
    ap (λ (k : ℕ). list_any p (take k l)) (sym (add-one m)) ∙ list_any_more p l m d (omega arith)
    ∙ ap (λ (b : Bool). b || p (get_or l m d)) (any_listed p l d m (omega arith))

pub any_ranged : (test : ℕ → Bool) (n : ℕ) → list_any test (range_with_len 0 n) ≡ any_up n test
any_ranged test n =
    let long = length-range_with_len 0 n in
    let at : (i : ℕ) → i < n → get_or (range_with_len 0 n) i 0 ≡ i = λ i h. get_or-range_with_len 0 n i 0 h ∙ zero-add i in
    sym (or_is (list_any test) test refl (λ _ _. refl) (range_with_len 0 n) 0 (any_up n test)
    (λ e. let f = any_found test n e in (f.0, omega arith, rw (at f.0 f.1) f.2))
    (λ e i h. rw (at i (omega arith)) (any_none test n e i (omega arith))))
