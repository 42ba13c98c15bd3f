-- What holds of the definitions of specs/ListLaws.antt.
use Rattle.std.specs.Prelude.{◌≡◌, Bool, true, false, cond, ℕ, zero, suc, ◌+◌, ◌-◌, ◌*◌, ◌/◌, ◌≤◌, ◌<◌, set}
use Rattle.std.proofs.Math.Path.{refl, sym, ap}
use Rattle.std.proofs.Common.{ap₂, ◌∙◌, subst, add-one, arith, length-append, lt-ltb, le-ltb}
use mathlib.Core.List.{List, [], ◌++◌}
use Rattle.std.proofs.Math.ListN.{length}
use Rattle.std.proofs.lemmas.List.Edits.{sets}
use Rattle.laws.specs.Loop.{for_up}
use Rattle.laws.specs.Overlay.{overlay, overlay_length, overlay_more}
use Rattle.small_quads_lattice.specs.Fours.{first_point, second_point, third_point, fourth_point, accepted_four, above_third, points_of, four_turn, fours, fours_answer, small_quads}
use Rattle.small_quads_lattice.proofs.Same.{fours_same}
use Rattle.small_quads.specs.ListLaws.{FourFits}

-- the fours of the list below k
unfoldable pub fours_below : ℕ → List ℕ
fours_below k = for_up k (four_turn above_third) []

pub below_all : fours_below 65536 ≡ fours above_third
unfolding fours_below fours
below_all = refl

pub below_zero : fours_below 0 ≡ []
unfolding fours_below for_up
below_zero = refl

pub below_next : (k : ℕ) → fours_below (k + 1) ≡ cond (above_third k) (fours_below k ++ points_of k) (fours_below k)
unfolding fours_below for_up
below_next k = rw add-one refl

-- one more four, or none
pub length_next : (k : ℕ) → length (fours_below (k + 1)) ≡ cond (above_third k) (length (fours_below k) + 4) (length (fours_below k))
length_next k = ap length (below_next k) ∙ go (above_third k)
  where
    go : (b : Bool) → length (cond b (fours_below k ++ points_of k) (fours_below k)) ≡ cond b (length (fours_below k) + 4) (length (fours_below k))
    go true = length-append (fours_below k) (points_of k)
    go false = refl

grows : (k : ℕ) → length (fours_below k) ≤ length (fours_below (k + 1))
grows k = go (above_third k) (length_next k)
  where
    go : (b : Bool) → length (fours_below (k + 1)) ≡ cond b (length (fours_below k) + 4) (length (fours_below k)) → length (fours_below k) ≤ length (fours_below (k + 1))
    go true e = omega arith
    go false e = omega arith

pub below_le : (k n : ℕ) → length (fours_below k) ≤ length (fours_below (k + n))
below_le k zero = subst (λ (m : ℕ). length (fours_below k) ≤ length (fours_below m)) e (omega arith)
  where
    e : k ≡ k + 0
    e = omega arith
below_le k (suc n) =
    let h = below_le k n in
    let g = grows (k + n) in
    let e : k + n + 1 ≡ k + suc n = omega arith in
    subst (λ (m : ℕ). length (fours_below k) ≤ length (fours_below m)) e (omega arith)

-- the invariant of the loop that writes: the fours below k are written on the first n places of s₀
pub record FoursWritten (s₀ : List ℕ) (k n : ℕ) (s : List ℕ) : Type 0 where
  pub within : k ≤ 65536
  pub written : n ≡ length (fours_below k)
  pub same : s ≡ overlay (fours_below k) s₀

-- ---- counting

-- the invariant of the loop that counts
pub record FoursCounted (k n : ℕ) : Type 0 where
  pub within : k ≤ 65536
  pub most : n ≤ k
  pub same : length (fours_below k) ≡ 4 * n

pub counted_start : FoursCounted 0 0
counted_start = record { within = omega arith; most = omega arith; same = ap length below_zero }

pub counted_yes : {k n : ℕ} → FoursCounted k n → k < 65536 → above_third k ≡ true → FoursCounted (k + 1) (n + 1)
counted_yes {k} {n} c h e =
    let next : length (fours_below (k + 1)) ≡ length (fours_below k) + 4 = length_next k ∙ ap (λ (b : Bool). cond b (length (fours_below k) + 4) (length (fours_below k))) e in
    record { within = omega arith; most = omega (arith, c.most); same = omega (arith, c.same) }

pub counted_no : {k n : ℕ} → FoursCounted k n → k < 65536 → above_third k ≡ false → FoursCounted (k + 1) n
counted_no {k} {n} c h e =
    let next : length (fours_below (k + 1)) ≡ length (fours_below k) = length_next k ∙ ap (λ (b : Bool). cond b (length (fours_below k) + 4) (length (fours_below k))) e in
    record { within = omega arith; most = omega (arith, c.most); same = omega (arith, c.same) }

all_of : (k : ℕ) → k ≤ 65536 → 65536 ≤ k → fours_below k ≡ fours above_third
all_of k h g = ap fours_below (last k h g) ∙ below_all
  where
    last : (k : ℕ) → k ≤ 65536 → 65536 ≤ k → k ≡ 65536
    last k h g = omega arith

pub counted_end : {k n : ℕ} → FoursCounted k n → 65536 ≤ k → (length (fours above_third) ≡ 4 * n) × (n ≤ 65536)
counted_end {k} {n} c h = (sym (ap length (all_of k c.within h)) ∙ c.same, omega (arith, c.most, c.within))

-- ---- writing

pub writes : (s : List ℕ) (n k : ℕ)
    → set (set (set (set s n (first_point k)) (n + 1) (second_point k)) (n + 2) (third_point k)) (n + 3) (fourth_point k) ≡ sets s n (points_of k)
writes s n k =
    let e : n + 1 ≡ suc n = omega arith in
    let f : n + 2 ≡ suc (suc n) = omega arith in
    let g : n + 3 ≡ suc (suc (suc n)) = omega arith in
    ap (λ (i : ℕ). set (set (set (set s n (first_point k)) (n + 1) (second_point k)) (n + 2) (third_point k)) i (fourth_point k)) g
    ∙ ap (λ (i : ℕ). set (set (set (set s n (first_point k)) (n + 1) (second_point k)) i (third_point k)) (suc (suc (suc n))) (fourth_point k)) f
    ∙ ap (λ (i : ℕ). set (set (set (set s n (first_point k)) i (second_point k)) (suc (suc n)) (third_point k)) (suc (suc (suc n))) (fourth_point k)) e

module _ (s₀ : List ℕ) (fits : length (fours above_third) ≤ length s₀) where
  below_fits : (k : ℕ) → k ≤ 65536 → length (fours_below k) ≤ length s₀
  below_fits k h =
      let e : k + (65536 - k) ≡ 65536 = omega arith in
      let l : length (fours_below k) ≤ length (fours_below (k + (65536 - k))) = below_le k (65536 - k) in
      let f : length (fours_below (k + (65536 - k))) ≡ length (fours above_third) = ap (λ (n : ℕ). length (fours_below n)) e ∙ ap length below_all in
      omega arith

  pub fours_start : FoursWritten s₀ 0 0 s₀
  unfolding overlay
  fours_start = record { within = omega arith; written = sym (ap length below_zero); same = sym (ap (λ (l : List ℕ). overlay l s₀) below_zero) }

  pub fours_length : {k n : ℕ} {s : List ℕ} → FoursWritten s₀ k n s → length s ≡ length s₀
  fours_length {k} f = ap length f.same ∙ overlay_length (fours_below k) s₀ (below_fits k f.within)

  four_fits : (k : ℕ) → k < 65536 → above_third k ≡ true → length (fours_below k) + 4 ≤ length s₀
  four_fits k h e =
      let next : length (fours_below (k + 1)) ≡ length (fours_below k) + 4 = length_next k ∙ ap (λ (b : Bool). cond b (length (fours_below k) + 4) (length (fours_below k))) e in
      let l = below_fits (k + 1) (omega arith) in
      omega arith

  pub fours_room : {k n : ℕ} {s : List ℕ} → FoursWritten s₀ k n s → k < 65536 → FourFits s n k
  fours_room {k} {n} f h = record {
    below = h;
    room = λ e. omega (arith, four_fits k h e, fours_length f, f.written);
    fits = omega (arith, below_fits k f.within, fours_length f, f.written);
  }

  pub fours_next : {k n m : ℕ} {s t : List ℕ} → FoursWritten s₀ k n s → k < 65536 → t ≡ cond (above_third k) (sets s n (points_of k)) s
      → m ≡ cond (above_third k) (n + 4) n → FoursWritten s₀ (k + 1) m t
  fours_next {k} {n} {m} {s} {t} f h e g = go (above_third k) refl e g
    where
      go : (b : Bool) → above_third k ≡ b → t ≡ cond b (sets s n (points_of k)) s → m ≡ cond b (n + 4) n → FoursWritten s₀ (k + 1) m t
      go true b e g = record {
        within = omega arith;
        written = g ∙ ap (λ (x : ℕ). x + 4) f.written ∙ sym (length_next k ∙ ap (λ (b : Bool). cond b (length (fours_below k) + 4) (length (fours_below k))) b);
        same =
            e ∙ ap (λ (x : List ℕ). sets x n (points_of k)) f.same
            ∙ overlay_more (fours_below k) (points_of k) s₀ n (sym f.written) (omega (arith, four_fits k h b, f.written))
            ∙ ap (λ (l : List ℕ). overlay l s₀) (sym (below_next k ∙ ap (λ (b : Bool). cond b (fours_below k ++ points_of k) (fours_below k)) b));
      }
      go false b e g = record {
        within = omega arith;
        written = g ∙ f.written ∙ sym (length_next k ∙ ap (λ (b : Bool). cond b (length (fours_below k) + 4) (length (fours_below k))) b);
        same = e ∙ f.same ∙ ap (λ (l : List ℕ). overlay l s₀) (sym (below_next k ∙ ap (λ (b : Bool). cond b (fours_below k ++ points_of k) (fours_below k)) b));
      }

  pub fours_end : {k n : ℕ} {s : List ℕ} → FoursWritten s₀ k n s → 65536 ≤ k → s ≡ sets s₀ 0 (fours above_third)
  unfolding overlay
  fours_end {k} f h =
      f.same ∙ ap (λ (l : List ℕ). overlay l s₀) (all_of k f.within h) ∙ sym (overlay_more [] (fours above_third) s₀ 0 refl (omega (arith, fits)))

-- ---- the answer

pub refused_is : (s : List ℕ) (n : ℕ) → length (fours above_third) ≡ 4 * n → length s < 4 * n → fours_answer 26 0 s ≡ small_quads s
unfolding small_quads
refused_is s n e h =
    sym (ap (λ (b : Bool). cond b (fours_answer 26 0 s) (fours_answer 0 (length (fours accepted_four) / 4) (sets s 0 (fours accepted_four))))
    (lt-ltb (length s) (length (fours accepted_four)) (omega (arith, ap length fours_same))))

pub listed_is : (s t : List ℕ) (n : ℕ) → length (fours above_third) ≡ 4 * n → 4 * n ≤ length s → t ≡ sets s 0 (fours above_third)
    → fours_answer 0 n t ≡ small_quads s
unfolding small_quads
listed_is s t n e h f =
    let l : length (fours accepted_four) ≡ 4 * n = ap length fours_same ∙ e in
    let c : n ≡ length (fours accepted_four) / 4 = omega arith in
    let o : t ≡ sets s 0 (fours accepted_four) = f ∙ ap (λ (l : List ℕ). sets s 0 l) (sym fours_same) in
    ap₂ (λ (m : ℕ) (r : List ℕ). fours_answer 0 m r) c o
    ∙ sym (ap (λ (b : Bool). cond b (fours_answer 26 0 s) (fours_answer 0 (length (fours accepted_four) / 4) (sets s 0 (fours accepted_four))))
    (le-ltb (length s) (length (fours accepted_four)) (omega arith)))
