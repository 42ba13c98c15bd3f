-- What is accepted, in SCOPE's words (`Respects`), and what each refusal means (`Means`). The theorems are in proofs/Accepted.antt: `order_means`,
-- `accepted_iff`, and that the order of placing is accepted, `placing_answer`.
use Rattle.std.specs.Prelude.{ℕ, ◌<◌, ◌≡◌, true, false, List, length, get_or}
use Rattle.front_lent_mesh.specs.declared.QuadIds.{QuadIds}
use Rattle.front_lent_mesh.specs.Mesh.{quad_in}
use Rattle.order.specs.declared.OrderAnswer.{OrderAnswer}
use Rattle.order.specs.Order.{too_early}
use Rattle.order.specs.Order.{order_accepted, not_once, early_at}

-- ---- SCOPE's words

-- the step u to v is the step x to y
pub record SameStep (u v x y : ℕ) : Type 0 where
  pub from : u ≡ x
  pub to : v ≡ y

-- p, run a, b, d, c, has a step v to u that isn't its a to b
pub data Lays (p : QuadIds) (u v : ℕ) : Type 0 where
  laid_bd : SameStep v u p.b p.d → Lays p u v
  laid_dc : SameStep v u p.d p.c → Lays p u v
  laid_ca : SameStep v u p.c p.a → Lays p u v

-- q, run a, b, d, c, has the step u to v, and that isn't its d to c
pub data Uses (q : QuadIds) (u v : ℕ) : Type 0 where
  used_ab : SameStep u v q.a q.b → Uses q u v
  used_bd : SameStep u v q.b q.d → Uses q u v
  used_ca : SameStep u v q.c q.a → Uses q u v

-- quad i was placed before quad j, and laid a front edge which that used up
pub record LaidFor (quads : List ℕ) (j i : ℕ) : Type 0 where
  pub u : ℕ
  pub v : ℕ
  pub before : i < j
  pub laid : Lays (quad_in quads i) u v
  pub used : Uses (quad_in quads j) u v

-- every one of n quads stands in the list once, nothing else does
pub record EachOnce (n : ℕ) (order : List ℕ) : Type 0 where
  pub known : (p : ℕ) → p < length order → get_or order p 0 < n
  pub once : (p q : ℕ) → p < length order → q < length order → get_or order p 0 ≡ get_or order q 0 → p ≡ q
  pub present : (i : ℕ) → i < n → (p : ℕ) × (p < length order) × (get_or order p 0 ≡ i)

-- and each stands after those that laid an edge which it used up
pub record Respects (quads : List ℕ) (n : ℕ) (order : List ℕ) : Type 0 where
  pub each : EachOnce n order
  pub after : (p q : ℕ) → p < length order → q < length order → LaidFor quads (get_or order p 0) (get_or order q 0) → q < p

-- ---- THE STATEMENTS

-- what each answer means
pub data Means (quads : List ℕ) (n : ℕ) (order : List ℕ) (r : OrderAnswer) : Type 0 where
  is_accepted : r ≡ order_accepted → Respects quads n order → Means quads n order r
  is_not_once : r ≡ not_once → (EachOnce n order → ⊥) → Means quads n order r
  is_early_lem : (p : ℕ) → r ≡ early_at p → EachOnce n order → p < length order → too_early quads n order p ≡ true
      → ((q : ℕ) → q < p → too_early quads n order q ≡ false) → Means quads n order r
