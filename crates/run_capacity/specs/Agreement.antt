-- Two runs of one outline with the same settings and field, the second in lists of no fewer places: they answer the same, or the first is full
-- and what it answers is where the second begins. THE THEOREM is `runs_agree` in proofs/Agreement.antt.
use Rattle.std.specs.Prelude.{ℕ, ◌<◌, ◌≤◌, ◌≡◌}
use Rattle.front.specs.State.{State, node, next_of}
use Rattle.paving.specs.declared.End.TheVariants.{Full}
use Rattle.paving.specs.Advance.{EndedPaving}
use Rattle.books.specs.Book.{quad_at}

-- ---- definitions

-- the nodes and quads of s are the first of those of t, in the same order
pub record BeginsWith (s t : State) : Type 0 where
  pub nodes : s.counts.nodes ≤ t.counts.nodes
  pub quads : s.counts.quads ≤ t.counts.quads
  pub points : (id : ℕ) → id < s.counts.nodes → node t id ≡ node s id
  pub answered : (k : ℕ) → k < s.counts.quads → quad_at t k ≡ quad_at s k

-- s and t have the same nodes, quads and front
pub record SameAnswer (s t : State) : Type 0 where
  pub begins : BeginsWith s t
  pub nodes : t.counts.nodes ≡ s.counts.nodes
  pub quads : t.counts.quads ≡ s.counts.quads
  pub edges : t.counts.edges ≡ s.counts.edges
  pub front : t.counts.front ≡ s.counts.front
  pub next : (u : ℕ) → next_of t u ≡ next_of s u

-- two runs end the same way with the same answer, or the first is full and stopped on the way of the second
pub data Agreement (r e : EndedPaving) : Type 0 where
  same : e.end ≡ r.end → SameAnswer r.state e.state → Agreement r e
  full : r.end ≡ Full → BeginsWith r.state e.state → Agreement r e
