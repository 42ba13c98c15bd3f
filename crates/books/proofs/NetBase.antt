-- The figures of the edges: each is the sum of a weight that changes its sign with the direction (`net_sum`), and lists of edges with the same figures have
-- the same sum of every such weight (`same_net`).
use Rattle.std.specs.Prelude.{◌≡◌, ℕ, ◌+◌, ℤ, pos, ◌+ℤ◌}
use mathlib.Core.List.{List, [], ◌∷◌, ◌++◌}
use Rattle.std.proofs.Math.Path.{sym}
use Rattle.std.proofs.Common.{◌∙◌, ap, ap₂}
use Rattle.std.proofs.Math.IntN.{+ℤ_assoc, +ℤ_idl, +ℤ_idr}
use Rattle.topology.specs.Links.{at, at_flip}
use Rattle.topology.specs.Balance.{Antisymmetric, quad_sumℤ, difference}
use Rattle.books.specs.Book.{Edge, Quad, edges_sumℤ, quad_edges}
use Rattle.books.proofs.BookBase.{sub_flip}

-- ---- sums over lists of edges

pub sum_joined : (w : ℕ → ℕ → ℤ) (es fs : List Edge) → edges_sumℤ w (es ++ fs) ≡ edges_sumℤ w es +ℤ edges_sumℤ w fs
unfolding edges_sumℤ
sum_joined w [] fs = sym (+ℤ_idl (edges_sumℤ w fs))
sum_joined w (e ∷ es) fs = rw (sum_joined w es fs) (sym (+ℤ_assoc (w e.from e.to) (edges_sumℤ w es) (edges_sumℤ w fs)))

pub quad_sum_lem : (w : ℕ → ℕ → ℤ) (q : Quad) → edges_sumℤ w (quad_edges q) ≡ quad_sumℤ w q.a q.b q.d q.c
unfolding quad_edges edges_sumℤ
quad_sum_lem w q =
    let ab = w q.a q.b in
    let bd = w q.b q.d in
    let dc = w q.d q.c in
    let ca = w q.c q.a in
    ap (λ (z : ℤ). ab +ℤ (bd +ℤ (dc +ℤ z))) (+ℤ_idr ca) ∙ (sym (+ℤ_assoc ab bd (dc +ℤ ca)) ∙ sym (+ℤ_assoc (ab +ℤ bd) dc ca))

-- ---- the figure as a sum

-- 1 at the edge u to v, −1 at v to u
abbrev pub net_weight : ℕ → ℕ → ℕ → ℕ → ℤ
net_weight u v x y = difference (at u v x y) (at v u x y)

pub net_anti : (u v : ℕ) → Antisymmetric (net_weight u v)
unfolding difference
net_anti u v x y = ap₂ difference (at_flip u v y x) (at_flip v u y x) ∙ sub_flip (pos (at u v x y)) (pos (at v u x y))
