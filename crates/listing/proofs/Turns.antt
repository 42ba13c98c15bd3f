-- What the loops over nodes, quads and loops have left to write: from the lists that their iterators have left.
use Rattle.std.proofs.Common.{◌≡◌, refl, ◌∙◌, ℕ, zero, suc, ◌+◌, ◌/◌, ◌<◌, min, ◌⊎◌, List, [], ◌∷◌, ◌++◌, length, take, drop, replicate, add-one, arith, length-append, take_at, drop_at}
use Rattle.std.proofs.Math.Logic.{⊎_elim}
use Rattle.std.proofs.lemmas.List.{take_min, drop_min}
use Rattle.std.specs.Prelude.{Float}
use Prim.Native.Char.{code}
use Rattle.listing.specs.Listing.{row, row_lines, node_line, node_lines}
use Rattle.listing.proofs.Left.{rows_first, rows_end}

no_items : {A : Type 0} (l : List A) → length l ≡ 0 → l ≡ []
no_items [] h = refl
no_items (x ∷ l) h = absurd (omega arith)

-- ---- nodes

pub nodes_turn : {n : ℕ} (m : ℕ) {xs ys xs' ys' : List Float} (x y : Float) → xs ≡ x ∷ xs' → ys ≡ y ∷ ys' → m + 1 ≡ n
    → node_lines (take n xs) (take n ys) ≡ node_line x y ++ node_lines (take m xs') (take m ys')
unfolding node_lines
nodes_turn m x y e f g = rw (e, f, ← g, add-one) refl

no_xs : (n : ℕ) (xs ys : List Float) → length xs ≡ 0 → node_lines (take n xs) (take n ys) ≡ []
unfolding node_lines
no_xs zero xs ys h = refl
no_xs (suc n) [] ys h = refl
no_xs (suc n) (x ∷ xs) ys h = absurd (omega arith)

no_ys : (n : ℕ) (xs ys : List Float) → length ys ≡ 0 → node_lines (take n xs) (take n ys) ≡ []
unfolding node_lines
no_ys zero xs ys h = refl
no_ys (suc n) [] ys h = refl
no_ys (suc n) (x ∷ xs) [] h = refl
no_ys (suc n) (x ∷ xs) (y ∷ ys) h = absurd (omega arith)

pub nodes_over : (n : ℕ) (xs ys : List Float) → (0 < n → (length xs ≡ 0) ⊎ (length ys ≡ 0)) → node_lines (take n xs) (take n ys) ≡ []
unfolding node_lines
nodes_over zero xs ys h = refl
nodes_over (suc n) xs ys h = ⊎_elim (no_xs (suc n) xs ys) (no_ys (suc n) xs ys) (h (omega arith))

-- ---- quads

-- the lines of the first n quads
abbrev pub quads_left : ℕ → List ℕ → List ℕ
quads_left n quads = row_lines (code "q") (replicate (min n (length quads / 4)) 4) quads

pub quads_turn : {n : ℕ} (m : ℕ) {quads : List ℕ} (quad rest : List ℕ) → quads ≡ quad ++ rest → length quad ≡ 4 → m + 1 ≡ n
    → quads_left n quads ≡ row (code "q") quad ++ quads_left m rest
quads_turn {n} m {quads} quad rest e f g =
    let one : min n (length (quad ++ rest) / 4) ≡ suc (min m (length rest / 4)) = rw length-append (omega arith) in
    rw (e, one)
    (rows_first (code "q") 4 _ _
    ∙ rw (take_at quad rest 4 f, drop_at quad rest 4 f) refl)

pub quads_over : (n : ℕ) (quads : List ℕ) → (0 < n → length quads < 4) → quads_left n quads ≡ []
quads_over zero quads h = let none : min 0 (length quads / 4) ≡ 0 = omega arith in rw none (rows_end (code "q") [] _ refl)
quads_over (suc n) quads h =
    let few = h (omega arith) in
    let none : min (suc n) (length quads / 4) ≡ 0 = omega arith in rw none (rows_end (code "q") [] _ refl)

-- ---- loops

pub loops_turn : {n : ℕ} (m : ℕ) {lengths others : List ℕ} (k : ℕ) (ids : List ℕ) → lengths ≡ k ∷ others → m + 1 ≡ n
    → row_lines (code "l") (take n lengths) ids
    ≡ row (code "l") (take (min k (length ids)) ids) ++ row_lines (code "l") (take m others) (drop (min k (length ids)) ids)
loops_turn m {others = others} k ids e g = rw (e, ← g, add-one, take_min, drop_min) (rows_first (code "l") k _ _)

pub loops_over : {A : Type 0} (n : ℕ) (lengths ids : List ℕ) → (0 < n → (length lengths ≡ 0) × A) → row_lines (code "l") (take n lengths) ids ≡ []
loops_over zero lengths ids h = rows_end (code "l") [] _ refl
loops_over (suc n) lengths ids h = rw (no_items lengths (h (omega arith)).0) (rows_end (code "l") [] _ refl)
