-- The estimate between the nodes of a quad, from the thresholds at its corners. Definitions only.
use Rattle.std.specs.Prelude.{not, ◌||◌, cond, List, ℕ, ◌+◌, ◌-◌, ◌*◌, ◌/◌, min, max, ltb, leb, Result, Ok, Err}
use Rattle.outline.specs.Queries.{answer_by}
use Rattle.front_lent_mesh.specs.declared.QuadIds.{QuadIds}
use Rattle.front_lent_mesh.specs.Mesh.{Mesh, quad_of}
use Rattle.exam_thresholds.specs.Figures.{threshold_at, is_complete}

-- the thresholds at a, b, d and c by the weights u and v, from 0 to 256, rounded down once
unfoldable pub estimate : (u v a b d c : ℕ) → ℕ
estimate u v a b d c = ((256 - u) * (256 - v) * a + u * (256 - v) * b + u * v * d + (256 - u) * v * c) / 65536

-- of the thresholds that a list has at a quad's corners
unfoldable pub estimate_of : ℕ → ℕ → List ℕ → QuadIds → ℕ
estimate_of u v t q = estimate u v (threshold_at t q.a) (threshold_at t q.b) (threshold_at t q.d) (threshold_at t q.c)

-- the least and the greatest of its corners
unfoldable pub least_threshold : List ℕ → QuadIds → ℕ
least_threshold t q = min (min (threshold_at t q.a) (threshold_at t q.b)) (min (threshold_at t q.d) (threshold_at t q.c))

unfoldable pub greatest_threshold : List ℕ → QuadIds → ℕ
greatest_threshold t q = max (max (threshold_at t q.a) (threshold_at t q.b)) (max (threshold_at t q.d) (threshold_at t q.c))

-- ---- the answer

-- 18 for a quad that isn't in the mesh or lacks a threshold, then 19 for a weight above 256
unfoldable pub estimate_refusal : Mesh → List ℕ → ℕ → ℕ → ℕ → ℕ
estimate_refusal m t k u v =
    cond (leb m.quads k || not (is_complete m.nodes t (quad_of m k))) 18 (cond (ltb 256 u || ltb 256 v) 19 0)

-- an estimate, unless it is refused with a number other than 0
abbrev pub estimated : ℕ → ℕ → Result ℕ ℕ
estimated refusal value = answer_by Err (Ok value) refusal

-- the estimate in quad k
unfoldable pub estimate_answer : Mesh → List ℕ → ℕ → ℕ → ℕ → Result ℕ ℕ
estimate_answer m t k u v = estimated (estimate_refusal m t k u v) (estimate_of u v t (quad_of m k))
