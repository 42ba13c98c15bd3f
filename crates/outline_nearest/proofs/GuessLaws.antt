-- The search from a guessed square finds the segment that the plain one finds, where it ends with a distance below the square's root: `guess_same`. As long as
-- neither has found anything below that root, neither has what the other would pass over; the first segment below it is taken by both. Assumes nothing.
use Rattle.std.specs.Prelude.{Bool, true, false, ◌&&◌, cond, List, ◌⊎◌, ◌≡◌, refl, ℕ, suc, T, length, Float}
use Rattle.std.proofs.Common.{inl, inr, ap, ◌∙◌, subst}
use Rattle.std.specs.Float.{nan, inf, fin, binary64}
use Rattle.std.specs.Float.Ieee.{fits, is_nan, lt}
use Rattle.std.specs.Float.Ieee.Bits.{is_true}
use Rattle.std.specs.Float.Ieee.Fits.{add-fits}
use Rattle.laws.specs.Loop.{for_up_related}
use Rattle.laws.specs.Tests.{both}
use Rattle.numbers.specs.Float.{sqrt, infinity_f}
use Rattle.exact.proofs.Root.{root_lt}
use Rattle.outline.specs.declared.Point.{Point}
use Rattle.outline.specs.declared.Near.{Near}
use Rattle.outline.specs.declared.Search.{Search}
use Rattle.outline.specs.Outline.{Outline, hole_at, points, point_at, point_after}
use Rattle.outline.specs.Queries.{squared_distance, foot_of, point_segment_distance, near, nowhere, nearer, segment_turn, nearest_in_loop, hole_turn, nearest_segment}
use Rattle.outline.specs.Search.{search, search_start, searched, search_turn, search_loop, search_hole, search_from}
use Rattle.outline.proofs.SearchBase.{Finds, finds_segment}
use Rattle.outline.proofs.SearchLaws.{search_same}
use Rattle.outline_blocks.proofs.OrderLaws.{lt_self, lt_cut}
use Rattle.outline_nearest.proofs.FarLaws.{either_way}

-- ---- floats that are not below r

-- what is below r is below z, so z is no NaN unless nothing is below r
abbrev Above : Float → Float → Type 0
Above r z = (x : Float) → T (lt x r) → T (lt x z)

not_above_lem : (r : Float) → lt infinity_f r ≡ false
unfolding lt
not_above_lem nan = refl
not_above_lem (inf t) = refl
not_above_lem (fin t n d) = refl

number : (z y : Float) → T (lt z y) → is_nan z ≡ false
unfolding lt is_nan
number nan y h = absurd h
number (inf s) y h = refl
number (fin s m e) y h = refl

above_infinity : (r : Float) → Above r infinity_f
unfolding is_nan
above_infinity r x h = lt_cut x r infinity_f refl h (not_above_lem r)

-- z is below something, and not below r
above : (r z y : Float) → lt z y ≡ true → lt z r ≡ false → Above r z
above r z y k l x h = lt_cut x r z (number z y (rw k tt)) h l

-- ---- while nothing below r is found

-- the search has no distance below r, and would take one
record Misses (r : Float) (s : Search) : Type 0 where
  held : T (fits binary64 s.squared)
  squared : Above r (sqrt s.squared)
  distance : Above r s.near.distance

-- both have found the same, or neither has found anything below r
abbrev Guess : Float → Search → Near → Type 0
Guess r s n = Finds s n ⊎ (Misses r s × Above r n.distance)

guess_segment : (r : Float) (p a b : Point) (k i : ℕ) (s : Search) (n : Near) → Guess r s n → Guess r (searched p a b k i s) (nearer p a b k i n)
unfolding searched nearer point_segment_distance squared_distance
guess_segment r p a b k i s n (inl f) = inl (finds_segment p a b k i s n f)
guess_segment r p a b k i s n (inr (m, up)) = decide (lt d r) refl
  where
    y : Float
    y = squared_distance p (foot_of p a b)

    d : Float
    d = sqrt y

    fy : T (fits binary64 y)
    fy = add-fits binary64 _ _

    Next : Bool → Bool → Bool → Type 0
    Next u v w = Guess r (cond (u && v) (search (near a b d k i) y) s) (cond w (near a b d k i) n)

    decide : (t : Bool) → lt d r ≡ t → Next (lt y s.squared) (lt d s.near.distance) (lt d n.distance)
    decide true e =
        let h : T (lt d r) = rw e tt in
        let u = is_true (lt y s.squared) (root_lt s.squared y m.held fy (m.squared d h)) in
        let v = is_true (lt d s.near.distance) (m.distance d h) in
        let w = is_true (lt d n.distance) (up d h) in
        rw (u, v, w) (inl (record { same = refl; held = fy; root = refl }))
    decide false e =
        inr (
          either_way (Misses r) (lt y s.squared && lt d s.near.distance)
              (λ t. let over = above r d s.near.distance (both (lt y s.squared) _ t).1 e in record { held = fy; squared = over; distance = over })
              (λ t. m),
          either_way (λ (z : Near). Above r z.distance) (lt d n.distance) (λ t. above r d n.distance t e) (λ t. up),
        )

-- ---- the search

guess_loop : (r : Float) (p : Point) (l : List Float) (k : ℕ) (s : Search) (n : Near) → Guess r s n → Guess r (search_loop p l k s) (nearest_in_loop p l k n)
unfolding search_loop nearest_in_loop
guess_loop r p l k s n g =
    for_up_related (Guess r) (points l) (search_turn p l k) (segment_turn p l k) s n g
    (λ i t m. guess_segment r p (point_at l i) (point_after l i) k i t m)

guess_all : (r : Float) (o : Outline) (p : Point) (s : Search) → Guess r s nowhere → Guess r (search_from o p s) (nearest_segment o p)
unfolding search_from nearest_segment
guess_all r o p s g =
    for_up_related (Guess r) (length o.lens) (search_hole o p) (hole_turn o p) (search_loop p o.outer 0 s) (nearest_in_loop p o.outer 0 nowhere)
    (guess_loop r p o.outer 0 s nowhere g)
    (λ k t n. guess_loop r p (hole_at o k) (suc k) t n)

-- the search from any square finds what the plain one finds, where it ends below the square's root
pub guess_same : (o : Outline) (p : Point) (limit : Float) → T (fits binary64 limit)
    → lt (search_from o p (search nowhere limit)).near.distance (sqrt limit) ≡ true → (search_from o p (search nowhere limit)).near ≡ nearest_segment o p
guess_same o p limit f e = end (guess_all r o p start (inr (misses, above_infinity r)))
  where
    r : Float
    r = sqrt limit

    start : Search
    start = search nowhere limit

    misses : Misses r start
    misses = record { held = f; squared = λ x h. h; distance = above_infinity r }

    end : Guess r (search_from o p start) (nearest_segment o p) → (search_from o p start).near ≡ nearest_segment o p
    end (inl g) = g.same
    end (inr (m, k)) = absurd (subst T (lt_self _) (m.distance _ (rw e tt)))

-- ---- as the code has them

module _ (o : Outline) (p : Point) {start : Search} (e : start ≡ search_start) where
  pub guess_taken : (limit : Float) {found : Search} {r : Float} → T (fits binary64 limit) → found ≡ search_from o p (search start.near limit)
      → r ≡ sqrt limit → lt found.near.distance r ≡ true → found.near ≡ nearest_segment o p
  guess_taken limit f g i h =
      let same = g ∙ ap (λ (s : Search). search_from o p (search s.near limit)) e in
      ap (λ (s : Search). s.near) same ∙ guess_same o p limit f (rw (← same, ← i) h)

  pub whole_taken : {found : Search} → found ≡ search_from o p start → found.near ≡ nearest_segment o p
  whole_taken g = ap (λ (s : Search). s.near) (g ∙ ap (search_from o p) e) ∙ search_same o p
