-- ONE THRESHOLD OFF BY A LITTLE: what one answer can do to the estimates of a mesh.
use Rattle.std.specs.Prelude.{◌≡◌, false, List, Result, Ok, Err}
use Prim.Native.Nat.{ℕ, ◌+◌, ◌-◌, ◌≤◌}
use Rattle.std.proofs.Math.ListN.{set}
use Rattle.front_lent_mesh.specs.Mesh.{Mesh, quad_of}
use Rattle.exam_thresholds.specs.Figures.{names}
use Rattle.exam_thresholds.proofs.Laws.{complete_same, four_same}
use Rattle.exam_estimates.specs.Estimate.{estimate_of, estimate_refusal, estimate_answer}

-- how far two thresholds are apart
abbrev pub tenths_apart : ℕ → ℕ → ℕ
tenths_apart a b = (a - b) + (b - a)

-- two answers with the same refusal, or two estimates that are at most `most` apart
abbrev pub EqualWithin : ℕ → Result ℕ ℕ → Result ℕ ℕ → Type 0
EqualWithin most (Ok x) (Ok y) = (x ≤ y + most) × (y ≤ x + most)
EqualWithin most (Err p) (Err q) = p ≡ q
EqualWithin most (Ok x) (Err q) = ⊥
EqualWithin most (Err p) (Ok y) = ⊥

-- ---- the answers

-- ELSEWHERE: a quad that doesn't name the node answers the same, whatever is written there
pub elsewhere : (m : Mesh) (t : List ℕ) (id x k u v : ℕ) → names (quad_of m k) id ≡ false
    → estimate_answer m (set t id x) k u v ≡ estimate_answer m t k u v
unfolding estimate_answer estimate_refusal estimate_of
elsewhere m t id x k u v e =
    let p = four_same t id x (quad_of m k) e in
    rw (complete_same t id x m.nodes (quad_of m k) e, p.0, p.1, p.2, p.3)
