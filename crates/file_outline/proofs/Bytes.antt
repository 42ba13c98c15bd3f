-- What the code's ways of reading bytes rest on.
use Rattle.std.proofs.Common.{◌≡◌, refl, sym, ap, ap₂, ◌∙◌, Bool, true, false, not, ◌&&◌, ◌||◌, eqb, ℕ, zero, suc, ◌+◌, ◌-◌, ◌*◌, ◌≤◌, ◌<◌, min, List, [], ◌∷◌, ◌++◌, length, get_or, set, take, drop, add-one, arith, mul-le-mul, append-nil, length-take, length-drop, drop_of_length-le, get_or-take, get_or-drop}
use Rattle.std.specs.Int.{from_le_bytes}
use Rattle.std.specs.List.{list_all}
use mir.Syntax.{w16, w64}
use Rattle.std.proofs.lemmas.List.Folds.{list_all_more}
use Rattle.std.proofs.lemmas.List.{take_min, drop_min}
use Rattle.laws.specs.Loop.{for_up, any_up}
use Rattle.laws.specs.Overlay.{overlay, Filling, fill_end, fill_next}
use Rattle.laws.specs.Tabulate.{tabulate, tabulate_length}
use Rattle.file_outline.specs.File.{number_at, block_at, nonzero_byte}
use Rattle.file_outline.specs.ByteLaws.{AreBytes, NumberOf}

-- ---- a block

pub block_cut : (file : List ℕ) (k : ℕ) {from to : ℕ} → from ≡ min (512 * k) (length file) → to ≡ min (length file) (from + 512)
    → take (to - from) (drop from file) ≡ block_at file k
unfolding block_at
block_cut file k {from} {to} e f =
    let rest = drop (512 * k) file in
    let count : to - from ≡ min 512 (length rest) = rw length-drop (omega arith) in
    ap₂ (λ (n : ℕ) (l : List ℕ). take n l) count (ap (λ (n : ℕ). drop n file) e ∙ drop_min (512 * k) file)
    ∙ take_min 512 rest

pub block_small : (file : List ℕ) (k : ℕ) {b : List ℕ} → b ≡ block_at file k → length b ≤ 512
unfolding block_at
block_small file k e = rw (e, length-take) (omega arith)

-- ---- bytes

-- two bytes
pub pair_read : (i : ℕ) (b : List ℕ) {x : ℕ} → AreBytes b → x ≡ from_le_bytes w16 (get_or b i 0 ∷ get_or b (i + 1) 0 ∷ []) → NumberOf 2 b i x
unfolding number_at
pair_read i b {x} bytes e =
    let next : i + 1 ≡ suc i = omega arith in
    let is : x ≡ number_at 2 b i = omega (arith, e, ap (λ (k : ℕ). get_or b k 0) next) in
    record { same = is; small = omega (arith, is, bytes i, bytes (suc i)) }

-- eight bytes
le_number : (bytes : List ℕ) → from_le_bytes w64 bytes ≡ number_at 8 bytes 0
unfolding number_at
le_number bytes = omega arith

same_number : (n : ℕ) (l b : List ℕ) (i j : ℕ) → ((k : ℕ) → k < n → get_or l (j + k) 0 ≡ get_or b (i + k) 0) → number_at n l j ≡ number_at n b i
unfolding number_at
same_number zero l b i j same = refl
same_number (suc n) l b i j same =
    let here : get_or l j 0 ≡ get_or b i 0 =
    ap (λ (p : ℕ). get_or l p 0) (omega arith) ∙ same 0 (omega arith) ∙ ap (λ (p : ℕ). get_or b p 0) (omega arith) in
    let rest : number_at n l (suc j) ≡ number_at n b (suc i) = same_number n l b (suc i) (suc j)
    (λ k lt. ap (λ (p : ℕ). get_or l p 0) (omega arith) ∙ same (suc k) (omega arith) ∙ ap (λ (p : ℕ). get_or b p 0) (omega arith)) in
    ap₂ (λ (x y : ℕ). x + 256 * y) here rest

zero_more : (k : ℕ) → 0 + k ≡ k
zero_more k = omega arith

pub eight_read : (i : ℕ) (b : List ℕ) {s : List ℕ} {x : ℕ} → i + 8 ≤ length b → s ≡ take (i + 8 - i) (drop i b) → x ≡ from_le_bytes w64 s
    → x ≡ number_at 8 b i
eight_read i b {s} fits e f =
    f ∙ le_number s
    ∙ same_number 8 s b i 0 (λ k lt.
    ap₂ (λ (l : List ℕ) (j : ℕ). get_or l j 0) e (zero_more k)
    ∙ get_or-take (i + 8 - i) (drop i b) k 0 (omega arith)
    ∙ get_or-drop i b k 0)

pub weight_of : (i x : ℕ) → i < 510 → x < 256 → (i + 1) * x ≤ 130050
weight_of i x h k = mul-le-mul {n₁ = i + 1} {m₁ = x} {n₂ = 510} {m₂ = 255} (omega arith) (omega arith)

-- ---- zeros

not_either : (a b : Bool) → (not a && b) ≡ not (a || not b)
not_either true b = refl
not_either false true = refl
not_either false false = refl

pub all_zero : (n at : ℕ) (b : List ℕ) → at + n ≤ length b → list_all (λ x. eqb x 0) (take n (drop at b)) ≡ not (any_up n (nonzero_byte b at))
unfolding any_up for_up
all_zero zero at b h = refl
all_zero (suc n) at b h =
    ap (λ (k : ℕ). list_all (λ x. eqb x 0) (take k (drop at b))) (sym (add-one n))
    ∙ list_all_more (λ x. eqb x 0) (drop at b) n 0 (rw length-drop (omega arith))
    ∙ ap₂ (λ (p q : Bool). p && q) (all_zero n at b (omega arith)) (ap (λ (x : ℕ). eqb x 0) (get_or-drop at b n 0))
    ∙ not_either (any_up n (nonzero_byte b at)) (eqb (get_or b (at + n) 0) 0)

-- ---- a list that is filled in part

-- what fills the first n places of a list fills the list
module _ {A : Type 0} (f : ℕ → A) (l : List A) {n : ℕ} (fits : n ≤ length l) where
  places : n ≤ length (take n l)
  places = rw length-take (omega arith)

  pub part_next : {i : ℕ} {s : List A} {v : A} → Filling f (take n l) n i s → i < length (take n l) → v ≡ f i → Filling f (take n l) n (i + 1) (set s i v)
  part_next h lt e = fill_next f (take n l) h places (omega (arith, simp length-take at lt)) e

  pub part_end : {i : ℕ} {s : List A} → Filling f (take n l) n i s → length (take n l) ≤ i → s ++ drop n l ≡ overlay (tabulate n f) l
  unfolding overlay
  part_end h le =
      let count : length (tabulate n f) ≡ n = tabulate_length n f in
      let past : drop n (take n l) ≡ [] = drop_of_length-le (take n l) (rw length-take (omega arith)) in
      ap (λ (t : List A). t ++ drop n l) (fill_end f (take n l) h places (omega (arith, places)))
      ∙ rw (count, past, append-nil) refl
