-- Laws of the tests as the code has them at hand.
use Rattle.std.specs.Prelude.{Bool, true, not, List, [], ◌≡◌, ℕ, ◌+◌, ◌*◌, eqb, get_or, Float}
use Rattle.std.proofs.Common.{sym, eqb-true}
use Rattle.laws.specs.Tests.{both}
use Rattle.numbers.specs.Float.{◌⊗◌}
use Rattle.outline.specs.declared.Point.{Point}
use Rattle.geometry.specs.declared.Key.{Key}
use Rattle.geometry.specs.declared.Corners.{Corners}
use Rattle.geometry.specs.Keys.{key_of, edge_bucket, spans_kept, clearance, is_too_close, too_close_at, lowest, highest, is_in_box, is_candidate}
use Rattle.index_key_rects.specs.Rects.{rect_of, rect_at, edge_rect, Meets}
use Rattle.index_key_rects.proofs.KeyBase.{box_meets, candidate_meets, end_meets}
use Rattle.front.specs.State.{node_in, edge_is}
use Rattle.paving.specs.Checks.{share_end, blocks_at, crosses_at}
use Rattle.paving_indexed.specs.Rects.{node_rects, edge_rects, listed, close_at, inside_at, crossing_at}

-- ---- the tests, by what the code has at hand: r is the test's answer

pub close_is : (size : Float) (xs ys : List Float) (p : Point) {id own : ℕ} {key : Key} {q : Point} {r : Bool}
    → key ≡ key_of size p → own ≡ id → q ≡ node_in xs ys own → r ≡ too_close_at key p (clearance ⊗ size ⊗ (clearance ⊗ size)) size q
    → close_at size xs ys p id ≡ r
unfolding is_too_close
close_is size xs ys p k o e t = rw (← o, ← k, ← e) (sym t)

pub inside_is : (size : Float) (xs ys : List Float) (p : Corners) (a b d c : ℕ) {id own : ℕ} {q : Point} {r : Bool}
    → own ≡ id → q ≡ node_in xs ys own → r ≡ blocks_at size p a b d c own q → inside_at size xs ys p a b d c id ≡ r
inside_is size xs ys p a b d c o e t = rw (← o, ← e) (sym t)

pub crossing_is : (size : Float) (xs ys : List Float) (edges : List ℕ) (p q : Point) (u v : ℕ) {k own c d : ℕ} {r : Bool}
    → own ≡ k → c ≡ get_or edges (2 * own) 0 → d ≡ get_or edges (2 * own + 1) 0 → r ≡ crosses_at size (listed xs ys []) p q u v c d
    → crossing_at size xs ys edges p q u v k ≡ r
crossing_is size xs ys edges p q u v o ec ed t = rw (← o, ← ec, ← ed) (sym t)

-- ---- what passes a test is under the keys walked

pub inside_meets : (size : Float) (xs ys : List Float) (p : Corners) (a b d c id : ℕ) → inside_at size xs ys p a b d c id ≡ true
    → Meets (node_rects size xs ys id) (rect_of (key_of size (lowest p)) (key_of size (highest p)))
inside_meets size xs ys p a b d c id e = box_meets size p (node_in xs ys id) (both (is_in_box size p (node_in xs ys id)) _ e).0

pub crossing_meets : (size : Float) (xs ys : List Float) (edges : List ℕ) (p q : Point) (u v k : ℕ)
    → crossing_at size xs ys edges p q u v k ≡ true → Meets (edge_rects size xs ys edges k) (edge_rect size p q)
crossing_meets size xs ys edges p q u v k e =
    let c = get_or edges (2 * k) 0 in
    let d = get_or edges (2 * k + 1) 0 in
    candidate_meets size p q (node_in xs ys c) (node_in xs ys d)
    (both (is_candidate size p q (node_in xs ys c) (node_in xs ys d)) _ (both (not (share_end c d u v)) _ e).1).0

-- an edge with the ends u and v is under the key of u, where it is filed at all
pub known_meets : (size : Float) (xs ys : List Float) (edges : List ℕ) (u v k : ℕ)
    → spans_kept (key_of (edge_bucket size) (node_in xs ys u)) (key_of (edge_bucket size) (node_in xs ys v)) ≡ true
    → edge_is edges u v k ≡ true → Meets (edge_rects size xs ys edges k) (rect_at (key_of (edge_bucket size) (node_in xs ys u)))
known_meets size xs ys edges u v k kept e =
    let ends = both (eqb (get_or edges (2 * k) 0) u) (eqb (get_or edges (2 * k + 1) 0) v) e in
    rw (eqb-true (get_or edges (2 * k) 0) u ends.0, eqb-true (get_or edges (2 * k + 1) 0) v ends.1)
    (end_meets size (node_in xs ys u) (node_in xs ys v) kept)
