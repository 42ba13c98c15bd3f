-- What `from_boundary` leaves: the front is the loops sampled, one for each loop of the outline.
use Rattle.std.specs.Prelude.{◌≡◌, refl, Bool, true, false, ◌||◌, cond, List, [], ltb, Float, length}
use Rattle.std.proofs.Common.{arith, ltb-false}
use Prim.Native.Nat.{ℕ, ◌≤◌}
use Rattle.laws.specs.Loop.{for_up, sum_up}
use Rattle.laws.specs.Tabulate.{tabulate}
use Rattle.outline.specs.Outline.{Outline}
use Rattle.front.specs.State.{State, node_places, edge_places, cleared}
use Rattle.front.specs.Sampling.{loop_count, loop_nodes, sampled_count, front_refusal, boundary_turn, loop_ids}
use Rattle.front.specs.Sound.{Sound, Frame}
use Rattle.front.specs.Ready.{Known}
use Rattle.front_sampled.specs.Nodes.{nodes_of, Room}
use Rattle.front_sampled.proofs.Laid.{Laid}

-- ---- definitions

-- n points were sampled on o into the lists of `lent`: s is the state, and ls are the loops of its front
pub record Begun (o : Outline) (n : ℕ) (lent s : State) (ls : List (List ℕ)) : Type 0 where
  pub sound : Sound n s ls
  pub known : Known s
  -- one loop for each loop of the outline
  pub loops : length ls ≡ loop_count o
  pub node_count_of : s.counts.nodes ≡ n
  pub quad_count_of : s.counts.quads ≡ 0
  pub edge_count : s.counts.edges ≡ n
  pub front_count : s.counts.front ≡ n
  -- places past the counts keep their contents
  pub frame : Frame (cleared lent) s
  pub snapshot : s.snapshot ≡ lent.snapshot
  pub quads : s.quads ≡ lent.quads

-- n nodes and n edges have places in the lists lent
pub record Places (n : ℕ) (lent : State) : Type 0 where
  pub nodes : n ≤ node_places lent
  pub edges : n ≤ edge_places lent

-- the state before turn k
abbrev pub state_at : Outline → Float → State → ℕ → State
state_at o size lent k = for_up k (boundary_turn o size) (cleared lent)

-- the loops of its front
abbrev pub loops_at : Outline → Float → State → ℕ → List (List ℕ)
loops_at o size lent k = tabulate k (λ i. loop_ids o size i (state_at o size lent i))

-- what turn k finds: the loops before it, laid, and room for its own
pub record TurnReady (o : Outline) (size : Float) (lent : State) (k : ℕ) : Type 0 where
  pub laid : Laid (cleared lent) (state_at o size lent k) (loops_at o size lent k)
  pub room : Room (sampled_count o size) (state_at o size lent k)
  pub count : (state_at o size lent k).counts.nodes ≡ sum_up k (loop_nodes o size)

-- ---- laws

pub refusal_places : (o : Outline) (size : Float) (lent : State) → front_refusal o size lent ≡ 0 → Places (sampled_count o size) lent
unfolding front_refusal
refusal_places o size lent = by (ltb (node_places lent) n) refl (ltb (edge_places lent) n) refl
  where
    n : ℕ
    n = sampled_count o size

    by : (a : Bool) → ltb (node_places lent) n ≡ a → (b : Bool) → ltb (edge_places lent) n ≡ b → ◌≡◌ {A = ℕ} (cond (a || b) 10 0) 0
        → Places n lent
    by true p b q e = absurd (omega arith)
    by false p true q e = absurd (omega arith)
    by false p false q e = record { nodes = ltb-false (node_places lent) n p; edges = ltb-false (edge_places lent) n q }

pub no_nodes : (lent : State) → nodes_of (cleared lent) ≡ []
unfolding nodes_of cleared tabulate
no_nodes lent = refl
