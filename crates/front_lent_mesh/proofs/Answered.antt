-- A mesh that a run answered is read as it was answered: its count of quads doesn't stop earlier, and quad k is front's `quad_at`.
use Rattle.std.specs.Prelude.{◌≡◌, refl, ℕ, ◌≤◌}
use Rattle.std.proofs.Common.{arith}
use Rattle.front.specs.State.{Quad, State, quad_at, quad_places}
use Rattle.front_lent_mesh.specs.declared.QuadIds.{QuadIds}
use Rattle.front_lent_mesh.specs.Mesh.{quad_count_of, quad_in}

-- the four ids
abbrev pub ids_of : Quad → QuadIds
ids_of q = record { a = q.a; b = q.b; d = q.d; c = q.c }

pub quad_same : (s : State) (k : ℕ) → quad_in s.quads k ≡ ids_of (quad_at s k)
unfolding quad_at quad_in
quad_same s k = refl

pub count_same : (s : State) (n : ℕ) → n ≤ quad_places s → n ≤ 250000 → quad_count_of n s.quads ≡ n
unfolding quad_count_of quad_places
count_same s n places few = omega (arith, places, few)
