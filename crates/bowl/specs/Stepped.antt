-- What the code of the bowl asks and gives, place by place; and what a host gets of `sitjorbe_bowl_steps` (`MeshStepped`). Statements only.
use Rattle.std.specs.Prelude.{List, ◌≡◌, ℕ, ◌+◌, ◌*◌, ◌<◌, ◌≤◌, ℤ, pos, nat_abs, ◌-ℤ◌, ◌*ℤ◌, length, get_or, drop, Float}
use Rattle.std.specs.Float.{nan}
use Rattle.exact.specs.Units.{W, units, Within}
use Rattle.exact.specs.Corner.{Vector}
use Rattle.front.specs.State.{State}
use Rattle.front_lent_mesh.specs.declared.QuadIds.{QuadIds}
use Rattle.bowl.specs.declared.BowlStepsAnswer.{BowlStepsAnswer}
use Rattle.bowl.specs.declared.Steps.{Steps}
use Rattle.bowl.specs.Steps.{steps_answer, steps_left}

-- ---- nodes and ways

abbrev pub vector : Steps → Vector
vector p = record { x = p.x; y = p.y }

-- the node is lent, within 1,001 either way
pub record NodeWithin (xs ys : List Float) (id : ℕ) : Type 0 where
  pub x_lent : id < length xs
  pub y_lent : id < length ys
  pub x : Within 1001 (get_or xs id nan)
  pub y : Within 1001 (get_or ys id nan)

-- at most m steps either way
pub record FewSteps (m : ℕ) (p : Steps) : Type 0 where
  pub x : nat_abs p.x ≤ m
  pub y : nat_abs p.y ≤ m

pub record IsVector (m : ℕ) (p : Steps) (v : Vector) : Type 0 where
  pub same : vector p ≡ v
  pub few : FewSteps m p

-- ---- the mesh

abbrev pub NodesWithin : List Float → List Float → ℕ → Type 0
NodesWithin xs ys n = (i : ℕ) → i < n → NodeWithin xs ys i

abbrev pub ids : ℕ → ℕ → ℕ → ℕ → QuadIds
ids a b d c = record { a = a; b = b; d = d; c = c }

-- the nodes of a quad are
pub record QuadWithin (xs ys : List Float) (q : QuadIds) : Type 0 where
  pub a : NodeWithin xs ys q.a
  pub b : NodeWithin xs ys q.b
  pub d : NodeWithin xs ys q.d
  pub c : NodeWithin xs ys q.c

-- n quads are lent, and their nodes
pub record QuadsWithin (xs ys : List Float) (quads : List ℕ) (n : ℕ) : Type 0 where
  pub lent : 4 * n ≤ length quads
  pub nodes : (i : ℕ) → i < 4 * n → NodeWithin xs ys (get_or quads i 0)

-- ---- the entry

-- 128 times the way from a coordinate to its step is at most 1: W units make 1
abbrev pub NearStep : Float → ℤ → Type 0
NearStep x step = (nat_abs (pos 128 *ℤ units x -ℤ pos (2 * W) *ℤ step) ≤ W)

-- the mesh s and a step buffer were lent, r is answered and the buffer left
pub record MeshStepped (s : State) (lent : List ℤ) (r : BowlStepsAnswer) (left : List ℤ) : Type 0 where
  pub answer : r ≡ steps_answer s (length lent)
  pub steps : left ≡ steps_left s r lent
  -- no node moves by more than 1/128 in either coordinate
  pub near : r.refusal ≡ 0 → (i : ℕ) → i < s.counts.nodes
      → NearStep (get_or s.xs i nan) (get_or left (2 * i) (pos 0)) × NearStep (get_or s.ys i nan) (get_or left (2 * i + 1) (pos 0))
  -- places past the nodes' keep their contents, and on a refusal all do
  pub past : drop (2 * s.counts.nodes) left ≡ drop (2 * s.counts.nodes) lent
  pub unwritten : (r.refusal ≡ 0 → ⊥) → left ≡ lent
