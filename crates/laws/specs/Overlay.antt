-- A list on the first places of another, which keeps its other places, and loops that fill a list so.
use Rattle.std.specs.Prelude.{◌≡◌, ℕ, suc, ◌+◌, ◌-◌, ◌<◌, ◌≤◌}
use Rattle.std.proofs.Math.Path.{refl, sym, ap}
use Rattle.std.proofs.Common.{◌∙◌, ap₂, add-one, arith, drop-drop, drop-cons}
use mathlib.Core.List.{List, ◌∷◌, ◌++◌}
use Rattle.std.proofs.Math.ListN.{length, get_or, set, drop, length-append, length-drop, get_or-append}
use Rattle.std.proofs.lemmas.List.Edits.{sets}
use Rattle.std.proofs.Math.Seq.{sets-eq, take-append_seam, drop-append-add, set_at, append_snoc, get_or-append-add}
use Rattle.laws.specs.Tabulate.{tabulate, tabulate_suc, tabulate_length, tabulate_at}

-- l on the first places of s; the others keep their contents
unfoldable pub overlay : {A : Type 0} → List A → List A → List A
overlay l s = l ++ drop (length l) s

module _ {A : Type 0} where
  pub overlay_length : (l s : List A) → length l ≤ length s → length (overlay l s) ≡ length s
  unfolding overlay
  overlay_length l s h = omega (arith, length-append l (drop (length l) s), length-drop (length l) s)

  -- l written after a
  pub overlay_more : (a l s : List A) (i : ℕ) → length a ≡ i → i + length l ≤ length s → sets (overlay a s) i l ≡ overlay (a ++ l) s
  unfolding overlay
  overlay_more a l s i e h =
      let t = a ++ drop (length a) s in
      let fits : i + length l ≤ length t = omega (arith, e, length-append a (drop (length a) s), length-drop (length a) s) in
      let rest : drop (length a + length l) t ≡ drop (length (a ++ l)) s =
      drop-append-add a (drop (length a) s) (length l)
      ∙ (drop-drop (length l) (length a) s ∙ ap (λ (k : ℕ). drop k s) (sym (length-append a l))) in
      sets-eq l t i fits ∙ rw (← e) (ap₂ (λ (p q : List A). (p ++ l) ++ q) (take-append_seam a (drop (length a) s)) rest)

-- ---- f 0, .., f (n - 1) on the first places

-- the invariant of a loop that fills a list
pub record Filling {A : Type 0} (f : ℕ → A) (l : List A) (n i : ℕ) (s : List A) : Type 0 where
  pub within : i ≤ n
  pub same : s ≡ overlay (tabulate i f) l

module _ {A : Type 0} (f : ℕ → A) (l : List A) where
  pub filled_length : (n : ℕ) → n ≤ length l → length (overlay (tabulate n f) l) ≡ length l
  filled_length n h = overlay_length (tabulate n f) l (omega (arith, tabulate_length n f))

  pub filled_at : (n : ℕ) (d : A) (i : ℕ) → i < n → get_or (overlay (tabulate n f) l) i d ≡ f i
  unfolding overlay
  filled_at n d i h =
      get_or-append (tabulate n f) (drop (length (tabulate n f)) l) d i (omega (arith, tabulate_length n f)) ∙ tabulate_at n f i d h

  pub filled_past : (n : ℕ) (d : A) (i : ℕ) → n ≤ i → get_or (overlay (tabulate n f) l) i d ≡ get_or (drop n l) (i - n) d
  unfolding overlay
  filled_past n d i h =
      let t = tabulate n f in
      let e : i ≡ length t + (i - length t) = omega (arith, tabulate_length n f) in
      ap (λ (k : ℕ). get_or (t ++ drop (length t) l) k d) e
      ∙ get_or-append-add t (drop (length t) l) (i - length t) d
      ∙ ap (λ (k : ℕ). get_or (drop k l) (i - k) d) (tabulate_length n f)

  filled_next : (i : ℕ) → i < length l → set (overlay (tabulate i f) l) i (f i) ≡ overlay (tabulate (suc i) f) l
  unfolding overlay
  filled_next i h =
      let t = tabulate i f in
      ap (λ (n : ℕ). set (t ++ drop n l) i (f i)) (tabulate_length i f)
      ∙ ap (λ (r : List A). set (t ++ r) i (f i)) (drop-cons l i (f i) h)
      ∙ set_at t (get_or l i (f i)) (drop (suc i) l) (f i) i (tabulate_length i f)
      ∙ sym (append_snoc t (f i) (drop (suc i) l))
      ∙ ap (λ (u : List A). u ++ drop (suc i) l) (sym (tabulate_suc i f))
      ∙ ap (λ (n : ℕ). tabulate (suc i) f ++ drop n l) (sym (tabulate_length (suc i) f))

  pub fill_start : (n : ℕ) → Filling f l n 0 l
  unfolding overlay tabulate
  fill_start n = record { within = omega arith; same = refl }

  module _ {n i : ℕ} {s : List A} (h : Filling f l n i s) (fits : n ≤ length l) where
    pub fill_length : length s ≡ length l
    fill_length = ap length h.same ∙ filled_length i (omega (arith, h.within))

    pub fill_next : {v : A} → i < n → v ≡ f i → Filling f l n (i + 1) (set s i v)
    fill_next {v} lt e = record {
      within = omega arith;
      same = ap₂ (λ (t : List A) (w : A). set t i w) h.same e ∙ rw add-one (filled_next i (omega arith));
    }

    pub fill_end : n ≤ i → s ≡ overlay (tabulate n f) l
    fill_end le = let all : i ≡ n = omega (arith, h.within) in h.same ∙ ap (λ (k : ℕ). overlay (tabulate k f) l) all
