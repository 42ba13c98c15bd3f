-- The laws of the code, and what a host gets. Assumes nothing.
use Rattle.std.specs.Prelude.{◌≡◌, Result, Ok, Err, set, Float}
use mathlib.Core.List.{List, [], ◌∷◌, ◌++◌}
use Rattle.std.proofs.Common.{sym, ap₂, ◌∙◌, le_antisymm, add-one, arith, length-drop, take_at, drop-drop}
use Rattle.std.proofs.Math.Path.{refl, ap}
use Prim.Native.Nat.{ℕ, zero, suc, ◌+◌, ◌*◌, ◌≤◌, ◌<◌}
use Rattle.std.proofs.Math.ListN.{length, take, drop, length-append}
use Rattle.std.proofs.lemmas.List.Edits.{sets, sets-eq}
use Rattle.std.proofs.Math.Seq.{drop_at}
use Rattle.laws.specs.Loop.{for_up}
use Rattle.outline.specs.declared.Point.{Point}
use Rattle.outline.specs.Outline.{points, point_at, point_refusal}
use Rattle.outline.specs.Queries.{answer_by}
use Rattle.field_direction.specs.declared.Grid.{Grid}
use Rattle.field_direction.specs.Direction.{direction_at}
use Rattle.field_directions.specs.Directions.{direction_floats, strung}

-- ---- the single query where 11 doesn't refuse the record

unfoldable pub point_answer : Grid → List Float → Point → Point → Result Point ℕ
point_answer g values p target = answer_by Err (Ok (direction_at g values p target)) (point_refusal p)

-- the floats of point i, and the answer list with those of all points
abbrev pub code_at : Grid → List Float → List Float → List Float → ℕ → List Float
code_at g values ps targets i = direction_floats (point_answer g values (point_at ps i) (point_at targets i))

unfoldable pub points_answered : Grid → List Float → List Float → List Float → List Float → List Float
points_answered g values ps targets answers = strung (code_at g values ps targets) (points ps) ++ drop (3 * points ps) answers

-- ---- three floats a point

pub three_stores : (s : List Float) (k : ℕ) (a b c : Float) → set (set (set s k a) (k + 1) b) (k + 2) c ≡ sets s k (a ∷ b ∷ c ∷ [])
three_stores s k a b c =
    let first : k + 1 ≡ suc k = omega arith in
    let second : k + 2 ≡ suc (suc k) = omega arith in
    ap₂ (λ (i j : ℕ). set (set (set s k a) i b) j c) first second

pub floats_three : (d : Result Point ℕ) → length (direction_floats d) ≡ 3
unfolding direction_floats
floats_three (Err n) = refl
floats_three (Ok p) = refl

-- the first i of n points are written in s, which was s₀
pub record FillingPoints (f : ℕ → List Float) (n : ℕ) (s₀ : List Float) (i : ℕ) (s : List Float) : Type 0 where
  pub within : i ≤ n
  pub same : s ≡ strung f i ++ drop (3 * i) s₀

module _ (f : ℕ → List Float) (three : (i : ℕ) → length (f i) ≡ 3) where
  strung_next : (n : ℕ) → strung f (suc n) ≡ strung f n ++ f n
  unfolding strung for_up
  strung_next n = refl

  strung_long : (n : ℕ) → length (strung f n) ≡ 3 * n
  unfolding strung for_up
  strung_long zero = refl
  strung_long (suc n) = omega (arith, length-append (strung f n) (f n), strung_long n, three n)

  filling_start : (n : ℕ) (s₀ : List Float) → FillingPoints f n s₀ 0 s₀
  unfolding strung for_up
  filling_start n s₀ = record { within = omega arith; same = refl }

  module _ {n i : ℕ} {s₀ s : List Float} (w : FillingPoints f n s₀ i s) where
    filling_long : 3 * n ≤ length s₀ → length s ≡ length s₀
    filling_long room =
        ap length w.same ∙ length-append (strung f i) (drop (3 * i) s₀)
        ∙ omega (arith, strung_long i, length-drop (3 * i) s₀, w.within)

    filling_next : {t : List Float} → 3 * n ≤ length s₀ → i < n → t ≡ sets s (3 * i) (f i) → FillingPoints f n s₀ (i + 1) t
    filling_next {t} room h e =
        let long = filling_long room in
        let start = strung f i in
        let next : 3 * i + length (f i) ≡ 3 * suc i = omega (arith, three i) in
        let before : take (3 * i) s ≡ start = ap (take (3 * i)) w.same ∙ take_at start (drop (3 * i) s₀) (3 * i) (strung_long i) in
        let past : drop (3 * i + length (f i)) s ≡ drop (3 * suc i) s₀ =
        sym (drop-drop (length (f i)) (3 * i) s)
        ∙ ap (λ (l : List Float). drop (length (f i)) (drop (3 * i) l)) w.same
        ∙ ap (drop (length (f i))) (drop_at start (drop (3 * i) s₀) (3 * i) (strung_long i))
        ∙ drop-drop (length (f i)) (3 * i) s₀ ∙ ap (λ (k : ℕ). drop k s₀) next in
        record {
          within = omega arith;
          same =
              rw add-one
              (e ∙ sets-eq (f i) s (3 * i) (omega (arith, three i, long))
              ∙ ap₂ (λ (l r : List Float). l ++ f i ++ r) before past
              ∙ ap (λ (l : List Float). l ++ drop (3 * suc i) s₀) (sym (strung_next i)));
        }

    filling_end : n ≤ i → s ≡ strung f n ++ drop (3 * n) s₀
    filling_end h = w.same ∙ ap (λ (k : ℕ). strung f k ++ drop (3 * k) s₀) (le_antisymm w.within h)

-- ---- the code's loop

-- what 14 leaves
pub record Fit (ps targets answers : List Float) : Type 0 where
  pub equal : length ps ≡ length targets
  pub room : 3 * points ps ≤ length answers

-- its invariant: i points are answered
abbrev pub PointsAnswered : Grid → List Float → List Float → List Float → List Float → ℕ → List Float → Type 0
PointsAnswered g values ps targets s₀ i s = FillingPoints (code_at g values ps targets) (points ps) s₀ i s

module _ (g : Grid) (values ps targets s₀ : List Float) where
  abbrev f : ℕ → List Float
  f = code_at g values ps targets

  three : (i : ℕ) → length (code_at g values ps targets i) ≡ 3
  three i = floats_three (point_answer g values (point_at ps i) (point_at targets i))

  pub points_answered_start : PointsAnswered g values ps targets s₀ 0 s₀
  points_answered_start = filling_start f three (points ps) s₀

  module _ {i : ℕ} {s : List Float} (w : PointsAnswered g values ps targets s₀ i s) (fit : Fit ps targets s₀) where
    pub points_answered_long : length s ≡ length s₀
    points_answered_long = filling_long f three w fit.room

    -- room for one point more
    pub points_answered_room : i < points ps → 3 * i + 3 ≤ length s
    points_answered_room h = omega (arith, fit.room, points_answered_long)

    pub points_answered_next : {p target : Point} {d : Result Point ℕ} {t : List Float} → i < points ps → p ≡ point_at ps i → target ≡ point_at targets i
        → d ≡ point_answer g values p target → t ≡ sets s (3 * i) (direction_floats d) → PointsAnswered g values ps targets s₀ (i + 1) t
    points_answered_next h e u a b =
        filling_next f three w fit.room h
        (b ∙ ap (λ (d : Result Point ℕ). sets s (3 * i) (direction_floats d)) (a ∙ ap₂ (point_answer g values) e u))

    pub points_answered_end : points ps ≤ i → s ≡ points_answered g values ps targets s₀
    unfolding points_answered
    points_answered_end h = filling_end f three w h
