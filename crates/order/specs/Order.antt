-- Presentation order: the order in which the quads of a lent mesh are tested. Definitions only.
use Rattle.std.specs.Prelude.{ℕ, suc, Bool, not, ◌&&◌, ◌||◌, cond, List, [], ◌∷◌, length, get_or, eqb, ltb, leb}
use Rattle.laws.specs.Loop.{Turn, go, out, run, any_up}
use Rattle.laws.specs.Tabulate.{tabulate}
use Rattle.front_lent_mesh.specs.declared.QuadIds.{QuadIds}
use Rattle.front_lent_mesh.specs.Mesh.{quad_count_of, quad_in}
use Rattle.order.specs.declared.OrderAnswer.{OrderAnswer}

-- ---- who comes after whom

-- the step u to v is the step x to y
abbrev pub is_step : ℕ → ℕ → ℕ → ℕ → Bool
is_step u v x y = eqb u x && eqb v y

-- p, run a, b, d, c, has a step v to u that isn't its a to b
unfoldable pub lays : QuadIds → ℕ → ℕ → Bool
lays p u v = is_step v u p.b p.d || (is_step v u p.d p.c || is_step v u p.c p.a)

-- and q has itself the step u to v, and that isn't its d to c
unfoldable pub lays_for : QuadIds → QuadIds → Bool
lays_for p q = lays p q.a q.b || (lays p q.b q.d || lays p q.c q.a)

-- quad j may come only after quad i, which was placed before it
unfoldable pub needs : List ℕ → ℕ → ℕ → Bool
needs quads j i = ltb i j && lays_for (quad_in quads i) (quad_in quads j)

-- ---- the list

-- the first place where i stands; the list's length where it doesn't
unfoldable pub first_place : List ℕ → ℕ → ℕ
first_place [] i = 0
first_place (x ∷ xs) i = cond (eqb x i) 0 (suc (first_place xs i))

-- the entry at p is unknown, or stands at an earlier place too
abbrev pub is_wrong : ℕ → List ℕ → ℕ → Bool
is_wrong n order p = leb n (get_or order p 0) || not (eqb (first_place order (get_or order p 0)) p)

-- quad i stands nowhere
abbrev pub is_absent : List ℕ → ℕ → Bool
is_absent order i = eqb (first_place order i) (length order)

-- none of n quads is absent, repeated or unknown
unfoldable pub names_each_once : ℕ → List ℕ → Bool
names_each_once n order = not (any_up (length order) (is_wrong n order)) && not (any_up n (is_absent order))

-- quad i keeps quad j from place p
abbrev pub waits_for : List ℕ → List ℕ → ℕ → ℕ → ℕ → Bool
waits_for quads order p j i = needs quads j i && ltb p (first_place order i)

-- the quad at place p stands before one that it may come only after
unfoldable pub too_early : List ℕ → ℕ → List ℕ → ℕ → Bool
too_early quads n order p = any_up n (waits_for quads order p (get_or order p 0))

-- ---- the answer

-- nothing is refused
abbrev pub order_accepted : OrderAnswer
order_accepted = record { refusal = 0; place = 0 }

-- some quad is absent, repeated or unknown
abbrev pub not_once : OrderAnswer
not_once = record { refusal = 21; place = 0 }

-- the quad at p stands too early
abbrev pub early_at : ℕ → OrderAnswer
early_at p = record { refusal = 22; place = p }

-- the search is out at a place where a quad stands too early
abbrev pub early_turn : List ℕ → ℕ → List ℕ → ℕ → Unit {0} → Turn (Unit {0}) OrderAnswer
early_turn quads n order p s = cond (too_early quads n order p) (out (early_at p)) (go s)

-- the first place where a quad stands too early
unfoldable pub first_early : List ℕ → ℕ → List ℕ → OrderAnswer
first_early quads n order = run (length order) (early_turn quads n order) (λ s. order_accepted) tt

-- of n quads
unfoldable pub order_of : List ℕ → ℕ → List ℕ → OrderAnswer
order_of quads n order = cond (names_each_once n order) (first_early quads n order) not_once

-- THE ANSWER, of a count and lists as lent
unfoldable pub order_answer : ℕ → List ℕ → List ℕ → OrderAnswer
order_answer count quads order = order_of quads (quad_count_of count quads) order

-- the order of placing: 0, 1, .., n - 1
abbrev pub placing_order : ℕ → List ℕ
placing_order n = tabulate n (λ i. i)
