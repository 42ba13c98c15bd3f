-- A quad that `convex_ccw` accepts, whose corners are bounded: the book's claim of its corners and sides, `quad_holds`. Assumes nothing.
use Rattle.std.specs.Prelude.{◌≡◌, true, not, ◌&&◌, ℕ, T}
use Rattle.std.proofs.Common.{sym, subst}
use Rattle.std.specs.Float.Ieee.{le}
use Rattle.std.specs.Float.Ieee.Fits.{and_l, and_r}
use Rattle.numbers.specs.Float.{tolerance}
use Rattle.exact.proofs.SineBase.{corner_tests}
use Rattle.exact.proofs.Sine.{side_long, sine_theorem}
use Rattle.outline.specs.declared.Point.{Point}
use Rattle.geometry.specs.declared.Corners.{Corners}
use Rattle.geometry.specs.Plane.{doubled_area, convex_at, convex_ccw}
use Rattle.front.specs.State.{node_in}
use Rattle.books.specs.Book.{Book, Quad}
use Rattle.books.specs.Holds.{CornerHolds, QuadHolds}
use Rattle.books_bounded.proofs.Point.{Bounded}

pub record CornersBounded (p : Corners) : Type 0 where
  pub a : Bounded p.a
  pub b : Bounded p.b
  pub d : Bounded p.d
  pub c : Bounded p.c

-- the four tests of `convex_ccw`
record FourOk (p : Corners) : Type 0 where
  at_a : T (convex_at p.c p.a p.b)
  at_b : T (convex_at p.a p.b p.d)
  at_d : T (convex_at p.b p.d p.c)
  at_c : T (convex_at p.d p.c p.a)

four_ok : (p : Corners) → T (convex_ccw p) → FourOk p
unfolding convex_ccw
four_ok p t =
    let at_a = convex_at p.c p.a p.b in
    let at_b = convex_at p.a p.b p.d in
    let at_d = convex_at p.b p.d p.c in
    let t₁ = and_r (not (le (doubled_area p) tolerance)) _ t in
    let t₂ = and_r at_a _ t₁ in
    let t₃ = and_r at_b _ t₂ in
    record { at_a = and_l at_a _ t₁; at_b = and_l at_b _ t₂; at_d = and_l at_d _ t₃; at_c = and_r at_d _ t₃ }

-- ---- in the book

abbrev pub node_of : Book → ℕ → Point
node_of book id = node_in book.xs book.ys id

-- where the book has a quad's corners
abbrev pub corners_in : Book → Quad → Corners
corners_in book q = record { a = node_of book q.a; b = node_of book q.b; d = node_of book q.d; c = node_of book q.c }

corner_holds : (book : Book) (u v w : ℕ) → Bounded (node_of book u) → Bounded (node_of book v) → Bounded (node_of book w)
    → T (convex_at (node_of book u) (node_of book v) (node_of book w)) → CornerHolds book u v w
unfolding node_in
corner_holds book u v w at-u at-v at-w t =
    let a = at-u.within in
    let b = at-v.within in
    let c = at-w.within in
    record {
      sine = sine_theorem _ _ _ _ _ _ a.x a.y b.x b.y c.x c.y t;
      side = side_long _ _ _ _ a.x a.y b.x b.y (corner_tests _ _ _ _ _ _ t).into;
    }

pub quad_holds : (book : Book) (q : Quad) → CornersBounded (corners_in book q) → convex_ccw (corners_in book q) ≡ true → QuadHolds book q
quad_holds book q h e =
    let t = four_ok (corners_in book q) (subst T (sym e) tt) in
    record {
      at_a = corner_holds book q.c q.a q.b h.c h.a h.b t.at_a;
      at_b = corner_holds book q.a q.b q.d h.a h.b h.d t.at_b;
      at_d = corner_holds book q.b q.d q.c h.b h.d h.c t.at_d;
      at_c = corner_holds book q.d q.c q.a h.d h.c h.a t.at_c;
    }
