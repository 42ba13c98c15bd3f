-- Bowl steps: a lent mesh in whole steps of 1/64 degree, the quads that the bowl can't show, and the answer. Definitions only.
use Rattle.std.specs.Prelude.{Bool, ◌&&◌, cond, List, ℕ, ◌+◌, ◌*◌, eqb, leb, ℤ, pos, get_or, set, Float, Option, Some, None}
use Rattle.std.specs.Int.Signed.{lt_z}
use Rattle.std.specs.Float.{nan}
use Rattle.laws.specs.Loop.{for_up, Turn, go, out, run}
use Rattle.exact.specs.Corner.{Vector, cross}
use Rattle.outline_orientation.specs.Orient.{way}
use Rattle.front.specs.State.{State}
use Rattle.front_lent_mesh.specs.declared.QuadIds.{QuadIds}
use Rattle.front_lent_mesh.specs.Mesh.{quad_in}
use Rattle.hand_mesh_check.specs.Check.{mesh_refusal}
use Rattle.bowl_nearest_step.specs.Step.{nearest_step}
use Rattle.bowl.specs.declared.BowlStepsAnswer.{BowlStepsAnswer}

-- ---- which quads can be shown

-- where a node is, in steps
abbrev pub steps_at : List Float → List Float → ℕ → Vector
steps_at xs ys id = record { x = nearest_step (get_or xs id nan); y = nearest_step (get_or ys id nan) }

-- the way p and then the way q turn left: their cross product is above 0
unfoldable pub turns_left : Vector → Vector → Bool
turns_left p q = lt_z (pos 0) (cross p q)

-- a quad, run a, b, d, c, turns left at all four corners
unfoldable pub is_shown : List Float → List Float → QuadIds → Bool
is_shown xs ys q =
    let a = steps_at xs ys q.a in
    let b = steps_at xs ys q.b in
    let d = steps_at xs ys q.d in
    let c = steps_at xs ys q.c in
    turns_left (way c a) (way a b) && (turns_left (way a b) (way b d) && (turns_left (way b d) (way d c) && turns_left (way d c) (way c a)))

-- ---- the answer

abbrev pub steps_given : BowlStepsAnswer
steps_given = record { refusal = 0; quad = 0 }

abbrev pub mesh_unstepped : BowlStepsAnswer
mesh_unstepped = record { refusal = 23; quad = 0 }

abbrev pub hidden_at : ℕ → BowlStepsAnswer
hidden_at k = record { refusal = 25; quad = k }

-- the search is out at a quad that can't be shown
abbrev pub hidden_turn : List Float → List Float → List ℕ → ℕ → Unit {0} → Turn (Unit {0}) BowlStepsAnswer
hidden_turn xs ys quads k s = cond (is_shown xs ys (quad_in quads k)) (go s) (out (hidden_at k))

-- 25 with the lowest of n quads that can't be shown
unfoldable pub lowest_hidden : List Float → List Float → List ℕ → ℕ → BowlStepsAnswer
lowest_hidden xs ys quads n = run n (hidden_turn xs ys quads) (λ s. steps_given) tt

-- of the lowest quad, if there is one, as the code finds it
abbrev pub hidden_answer : Option ℕ → BowlStepsAnswer
hidden_answer None = steps_given
hidden_answer (Some k) = hidden_at k

-- THE ANSWER, of a mesh as lent and of the places of the step buffer: 23 of the mesh, 23 where a node hasn't two places, then 25
unfoldable pub steps_answer : State → ℕ → BowlStepsAnswer
steps_answer s places =
    cond (eqb (mesh_refusal s) 0 && leb (2 * s.counts.nodes) places) (lowest_hidden s.xs s.ys s.quads s.counts.quads) mesh_unstepped

-- ---- the step buffer

-- node i's steps are stored
unfoldable pub store_turn : List Float → List Float → ℕ → List ℤ → List ℤ
store_turn xs ys i steps = set (set steps (2 * i) (nearest_step (get_or xs i nan))) (2 * i + 1) (nearest_step (get_or ys i nan))

-- those of n nodes
unfoldable pub stored_steps : List Float → List Float → ℕ → List ℤ → List ℤ
stored_steps xs ys n steps = for_up n (store_turn xs ys) steps

-- as the answer leaves it: unwritten on a refusal
unfoldable pub steps_left : State → BowlStepsAnswer → List ℤ → List ℤ
steps_left s r steps = cond (eqb r.refusal 0) (stored_steps s.xs s.ys s.counts.nodes steps) steps
