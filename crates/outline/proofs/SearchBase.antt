-- The search that spares roots finds the segment that the plain one finds: `search_same`, at the end. A square that is not below the best one's
-- has a root that is not below the best distance, since the rounded root keeps the order (crate exact).
use Rattle.std.specs.Prelude.{Bool, true, false, not, ◌&&◌, cond, ◌≡◌, refl, ℕ, T, Float}
use Rattle.std.proofs.Common.{true≢false, sym, ap, ◌∙◌, subst}
use Rattle.std.specs.Float.{binary64}
use Rattle.std.specs.Float.Ieee.{fits, lt}
use Rattle.std.specs.Float.Ieee.Fits.{add-fits}
use Rattle.numbers.specs.Root.{root}
use Rattle.numbers.specs.Float.{sqrt}
use Rattle.exact.proofs.Root.{root_mono}
use Rattle.outline.specs.declared.Point.{Point}
use Rattle.outline.specs.declared.Near.{Near}
use Rattle.outline.specs.declared.Search.{Search}
use Rattle.outline.specs.Queries.{squared_distance, foot_of, point_segment_distance, near, nearer}
use Rattle.outline.specs.Search.{search, searched}

-- the search has found n, whose distance is the root of the square kept
pub record Finds (s : Search) (n : Near) : Type 0 where
  pub same : s.near ≡ n
  pub held : T (fits binary64 s.squared)
  pub root : s.near.distance ≡ sqrt s.squared

-- a square that is not below another, by the test of its root
not_nearer : (x y : Float) → T (fits binary64 x) → T (fits binary64 y) → lt y x ≡ false → lt (sqrt y) (sqrt x) ≡ false
not_nearer x y fx fy e = decide (lt (sqrt y) (sqrt x)) (root_mono x y fx fy (subst (λ (t : Bool). T (not t)) (sym e) tt))
  where
    decide : (b : Bool) → T (not b) → b ≡ false
    decide true h = absurd h
    decide false h = refl

squared_fits : (p q : Point) → T (fits binary64 (squared_distance p q))
unfolding squared_distance
squared_fits p q = add-fits binary64 _ _

pub finds_segment : (p a b : Point) (k i : ℕ) (s : Search) (n : Near) → Finds s n → Finds (searched p a b k i s) (nearer p a b k i n)
unfolding searched nearer point_segment_distance
finds_segment p a b k i s n f = rw (← f.same) (decide (lt y s.squared) refl (lt (sqrt y) s.near.distance) refl)
  where
    y : Float
    y = squared_distance p (foot_of p a b)

    decide : (u : Bool) → lt y s.squared ≡ u → (v : Bool) → lt (sqrt y) s.near.distance ≡ v
        → Finds (cond (u && v) (search (near a b (sqrt y) k i) y) s) (cond v (near a b (sqrt y) k i) s.near)
    decide true e true g = record { same = refl; held = squared_fits p (foot_of p a b); root = refl }
    decide true e false g = record { same = refl; held = f.held; root = f.root }
    decide false e true g = absurd (true≢false (sym g ∙ ap (lt (sqrt y)) f.root ∙ not_nearer s.squared y f.held (squared_fits p (foot_of p a b)) e))
    decide false e false g = record { same = refl; held = f.held; root = f.root }
