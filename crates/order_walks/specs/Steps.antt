-- The steps that quads lay, as items of a pool of `index`: item 3 i + s is step s of quad i. Definitions only.
use Rattle.std.specs.Prelude.{ℕ, ◌/◌, ◌%◌, Bool, ◌&&◌, cond, List, eqb, ltb, Option, Some, None}
use Rattle.index_pools.specs.declared.Rect.{Rect}
use Rattle.front_lent_mesh.specs.declared.QuadIds.{QuadIds}
use Rattle.front_lent_mesh.specs.Mesh.{quad_in}
use Rattle.order.specs.declared.OrderAnswer.{OrderAnswer}
use Rattle.order.specs.Order.{is_step, first_place, order_accepted, early_at}

-- step s of those that a quad lays, v to u: b to d, d to c, c to a
unfoldable pub laid_from : QuadIds → ℕ → ℕ
laid_from q s = cond (eqb s 0) q.b (cond (eqb s 1) q.d q.c)

unfoldable pub laid_to : QuadIds → ℕ → ℕ
laid_to q s = cond (eqb s 0) q.d (cond (eqb s 1) q.c q.a)

-- the one key (u, v)
abbrev pub step_key : ℕ → ℕ → Rect
step_key u v = record { left = u; right = u; low = v; high = v }

-- under which key item k is filed
unfoldable pub step_rect : List ℕ → ℕ → Rect
step_rect quads k = step_key (laid_to (quad_in quads (k / 3)) (k % 3)) (laid_from (quad_in quads (k / 3)) (k % 3))

-- item k is a step v to u, of a quad that keeps quad j from place p
abbrev pub keeps_back : List ℕ → List ℕ → ℕ → ℕ → ℕ → ℕ → ℕ → Bool
keeps_back quads order p j u v k =
    is_step v u (laid_from (quad_in quads (k / 3)) (k % 3)) (laid_to (quad_in quads (k / 3)) (k % 3))
    && (ltb (k / 3) j && ltb p (first_place order (k / 3)))

-- the answer by the first place where a quad stands too early
abbrev pub early_answer : Option ℕ → OrderAnswer
early_answer (Some p) = early_at p
early_answer None = order_accepted
