-- What holds of the definitions of specs/Order.antt.
use Rattle.std.specs.Prelude.{◌≡◌, refl, List, [], ◌∷◌, ◌++◌, ◌⊎◌, Bool, true, false, ◌&&◌, cond, ℕ, suc, ◌+◌, ◌*◌, ◌/◌, ◌%◌, ◌≤◌, ◌<◌, length, get_or}
use Rattle.std.proofs.Common.{sym, ap, ◌∙◌, append_assoc, inl, inr, ⊎_elim, true≢false, eq-or-lt_of_le, arith, length-append}
use Rattle.std.proofs.Math.ListN.{get_or-append}
use Rattle.std.proofs.lemmas.List.{get_or_at}
use Rattle.laws.specs.Loop.{for_up_keeps, for_up_related}
use Rattle.small_quads_lattice.specs.Fours.{first_point, second_point, third_point, fourth_point, accepted_four, corner_turns, above_third, points_of, four_turn, fours}
use Rattle.small_quads_lattice.proofs.Same.{test_same}
use Rattle.small_quads_lattice.specs.Order.{number_turn, numbers_below, written_out, NumbersBelow, Before}

-- ---- the numbers of the fours

written_out_more : (ks : List ℕ) (k : ℕ) → written_out (ks ++ k ∷ []) ≡ written_out ks ++ points_of k
unfolding written_out
written_out_more [] k = refl
written_out_more (x ∷ ks) k = ap (λ (l : List ℕ). points_of x ++ l) (written_out_more ks k) ∙ sym (append_assoc (points_of x) (written_out ks) (points_of k))

-- the list is the points of these numbers
pub fours_written : (test : ℕ → Bool) → fours test ≡ written_out (numbers_below test 65536)
unfolding fours numbers_below written_out
fours_written test =
    for_up_related (λ (l m : List ℕ). l ≡ written_out m) 65536 (four_turn test) (number_turn test) [] [] refl (λ k l m e. go k l m e (test k))
  where
    go : (k : ℕ) (l m : List ℕ) → l ≡ written_out m → (b : Bool) → cond b (l ++ points_of k) l ≡ written_out (cond b (m ++ k ∷ []) m)
    go k l m e true = ap (λ (x : List ℕ). x ++ points_of k) e ∙ sym (written_out_more m k)
    go k l m e false = e

module _ (test : ℕ → Bool) (n : ℕ) (l : List ℕ) (p : NumbersBelow test n l) where
  abbrev more : List ℕ
  more = l ++ n ∷ []

  -- an entry of the longer list is one of l, or n at its end
  either : (i : ℕ) → i < length more → ((i < length l) × (get_or more i 0 ≡ get_or l i 0)) ⊎ ((i ≡ length l) × (get_or more i 0 ≡ n))
  either i h =
      ⊎_elim (λ e. inr (e, get_or_at l n [] 0 i (sym e))) (λ less. inl (less, get_or-append l (n ∷ []) 0 i less))
      (eq-or-lt_of_le (last (length l) (length more) (length-append l (n ∷ [])) h))
    where
      last : (a b : ℕ) → b ≡ a + 1 → i < b → i ≤ a
      last a b e h = omega arith

  longer : length more ≡ length l + 1
  longer = length-append l (n ∷ [])

  one_more : test n ≡ true → NumbersBelow test (suc n) more
  one_more e = record {
    below = λ i h. ⊎_elim (λ w. low w.1 (p.below i w.0)) (λ w. top w.1) (either i h);
    passes = λ i h. ⊎_elim (λ w. ap test w.1 ∙ p.passes i w.0) (λ w. ap test w.1 ∙ e) (either i h);
    rising = rises;
    all = holds;
  }
    where
      low : {x y : ℕ} → x ≡ y → y < n → x < suc n
      low e h = omega arith

      top : {x : ℕ} → x ≡ n → x < suc n
      top e = omega arith

      rises : (i j : ℕ) → i < j → j < length more → get_or more i 0 < get_or more j 0
      rises i j h k =
          ⊎_elim
          (λ w.
          let f = get_or-append l (n ∷ []) 0 i (omega (arith, w.0)) in
          let r = p.rising i j h w.0 in
          omega (arith, f, r, w.1))
          (λ w.
          let f = get_or-append l (n ∷ []) 0 i (omega (arith, w.0)) in
          let r = p.below i (omega (arith, w.0)) in
          omega (arith, f, r, w.1)) (either j k)

      holds : (k : ℕ) → k < suc n → test k ≡ true → (i : ℕ) × (i < length more) × (get_or more i 0 ≡ k)
      holds k h t =
          ⊎_elim (λ f. (length l, omega (arith, longer), get_or_at l n [] 0 (length l) refl ∙ sym f))
          (λ less.
          let r = p.all k less t in
          (r.0, omega (arith, longer, r.1), get_or-append l (n ∷ []) 0 r.0 r.1 ∙ r.2))
          (eq-or-lt_of_le (within h))
        where
          within : k < suc n → k ≤ n
          within h = omega arith

  no_more : test n ≡ false → NumbersBelow test (suc n) l
  no_more e = record {
    below = λ i h. wider (p.below i h);
    passes = p.passes;
    rising = p.rising;
    all = λ k h t. ⊎_elim (λ f. absurd (true≢false (sym t ∙ ap test f ∙ e))) (λ less. p.all k less t) (eq-or-lt_of_le (within k h));
  }
    where
      wider : {x : ℕ} → x < n → x < suc n
      wider h = omega arith

      within : (k : ℕ) → k < suc n → k ≤ n
      within k h = omega arith

pub numbers_below_are : (test : ℕ → Bool) (n : ℕ) → NumbersBelow test n (numbers_below test n)
unfolding numbers_below
numbers_below_are test n =
    for_up_keeps (NumbersBelow test) n (number_turn test) [] start (λ i l h p. go i l p (test i) refl)
  where
    start : NumbersBelow test 0 []
    start = record { below = λ i h. absurd (omega arith); passes = λ i h. absurd (omega arith); rising = λ i j h k. absurd (omega arith); all = λ k h t. absurd (omega arith) }

    go : (i : ℕ) (l : List ℕ) → NumbersBelow test i l → (b : Bool) → test i ≡ b → NumbersBelow test (suc i) (cond b (l ++ i ∷ []) l)
    go i l p true e = one_more test i l p e
    go i l p false e = no_more test i l p e

-- ---- dictionary order

mod_le : (x y : ℕ) → x ≤ y → x / 16 ≡ y / 16 → x % 16 ≤ y % 16
mod_le x y h e = omega arith

mod-lt : (x y : ℕ) → x < y → x / 16 ≡ y / 16 → x % 16 < y % 16
mod-lt x y h e = omega arith

joined : (x y : ℕ) → x / 16 ≡ y / 16 → x % 16 ≡ y % 16 → x ≡ y
joined x y e f = omega arith

down_two : (k : ℕ) → k / 16 / 16 ≡ k / 256
down_two k = omega arith

down_three : (k : ℕ) → k / 256 / 16 ≡ k / 4096
down_three k = omega arith

div_le : (k l : ℕ) → k < l → (k / 16 ≤ l / 16) × (k / 256 ≤ l / 256) × (k / 4096 ≤ l / 4096)
div_le k l h = (omega arith, omega arith, omega arith)

pub dictionary : (k l : ℕ) → k < l → Before k l
dictionary k l h = ⊎_elim (λ e. inr (e, after e)) (λ less. inl less) (eq-or-lt_of_le (div_le k l h).2)
  where
    high : first_point k ≡ first_point l → k / 256 / 16 ≡ l / 256 / 16
    high e = down_three k ∙ e ∙ sym (down_three l)

    middle : first_point k ≡ first_point l → second_point k ≡ second_point l → k / 16 / 16 ≡ l / 16 / 16
    middle e f = down_two k ∙ joined (k / 256) (l / 256) (high e) f ∙ sym (down_two l)

    last : first_point k ≡ first_point l → second_point k ≡ second_point l → (third_point k < third_point l) ⊎ ((third_point k ≡ third_point l) × (fourth_point k < fourth_point l))
    last e f =
        ⊎_elim (λ g. inr (g, mod-lt k l h (joined (k / 16) (l / 16) (middle e f) g))) (λ less. inl less)
        (eq-or-lt_of_le (mod_le (k / 16) (l / 16) (div_le k l h).0 (middle e f)))

    after : first_point k ≡ first_point l → (second_point k < second_point l) ⊎ ((second_point k ≡ second_point l) × ((third_point k < third_point l) ⊎ ((third_point k ≡ third_point l) × (fourth_point k < fourth_point l))))
    after e =
        ⊎_elim (λ f. inr (f, last e f)) (λ less. inl less) (eq-or-lt_of_le (mod_le (k / 256) (l / 256) (div_le k l h).1 (high e)))

-- every four of points has its number below 65,536
pub every_four : (a b d c : ℕ) → a < 16 → b < 16 → d < 16 → c < 16
    → let k = a * 4096 + b * 256 + d * 16 + c in (k < 65536) × (first_point k ≡ a) × (second_point k ≡ b) × (third_point k ≡ d) × (fourth_point k ≡ c)
every_four a b d c A B D C = (omega arith, omega arith, omega arith, omega arith, omega arith)

-- ---- all four starts

pub any_start : (a b d c : ℕ) → a < 16 → b < 16 → d < 16 → c < 16
    → above_third (b * 4096 + d * 256 + c * 16 + a) ≡ above_third (a * 4096 + b * 256 + d * 16 + c)
unfolding above_third
any_start a b d c A B D C =
    let k = every_four a b d c A B D C in
    let l = every_four b d c a B D C A in
    rw (k.1, k.2, k.3, k.4, l.1, l.2, l.3, l.4) (round_about (corner_turns c a b) (corner_turns a b d) (corner_turns b d c) (corner_turns d c a))
  where
    round_about : (x y z w : Bool) → y && (z && (w && x)) ≡ x && (y && (z && w))
    round_about true true true true = refl
    round_about true true true false = refl
    round_about true true false w = refl
    round_about true false z w = refl
    round_about false true true true = refl
    round_about false true true false = refl
    round_about false true false w = refl
    round_about false false z w = refl

-- so `convex_ccw` accepts a four from each of its starts or from none
pub accepted_any_start : (a b d c : ℕ) → a < 16 → b < 16 → d < 16 → c < 16
    → accepted_four (b * 4096 + d * 256 + c * 16 + a) ≡ accepted_four (a * 4096 + b * 256 + d * 16 + c)
accepted_any_start a b d c A B D C =
    test_same _ (every_four b d c a B D C A).0 ∙ any_start a b d c A B D C ∙ sym (test_same _ (every_four a b d c A B D C).0)
