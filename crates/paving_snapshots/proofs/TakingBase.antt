-- The loop that takes the snapshot: node by node, but for those in a stretch, whose links are copied already. Assumes nothing.
use Rattle.std.specs.Prelude.{List, ◌≡◌, ℕ, zero, suc, ◌+◌, ◌-◌, ◌≤◌, ◌<◌, length}
use Rattle.std.proofs.Common.{subst, arith}
use Rattle.laws.specs.Loop.{Loop, loop_next, for_up}
use Rattle.paving.specs.Advance.{copy_turn}
use Rattle.paving_snapshots.specs.Stretches.{joining, joining_turn, OffBoth, Stretches, FewerTries}

-- turns that change nothing are taken without doing them
pub loop_over : {A : Type 0} (turn : ℕ → A → A) (a : A) {n i : ℕ} {s : A} (m : ℕ) → Loop turn a n i s → i ≤ m → m ≤ n
    → ((j : ℕ) → i ≤ j → j < m → turn j s ≡ s) → Loop turn a n m s
loop_over {A} turn a {n} {i} {s} m L low high same =
    subst (λ (k : ℕ). Loop turn a n k s) (omega arith) (by (m - i) (omega arith))
  where
    by : (k : ℕ) → i + k ≤ m → Loop turn a n (i + k) s
    by zero h = subst (λ (j : ℕ). Loop turn a n j s) (omega arith) L
    by (suc k) h =
        subst (λ (t : A). Loop turn a n (i + suc k) t) (same (i + k) (omega arith) (omega arith))
        (subst (λ (j : ℕ). Loop turn a n j (turn (i + k) s)) (omega arith) (loop_next turn a (by k (omega arith)) (omega arith)))

-- the links of the nodes before i are copied; those from `from` on are off the front
pub record Taking (next snapshot₀ tried₀ : List ℕ) (n from i : ℕ) (snapshot tried : List ℕ) : Type 0 where
  pub loop : Loop (copy_turn next) snapshot₀ n i snapshot
  pub long : length snapshot ≡ length snapshot₀
  pub gone : (j : ℕ) → from ≤ j → j < i → OffBoth n next snapshot j
  pub stretches : Stretches tried n next snapshot
  pub fewer : FewerTries tried₀ tried
  -- how many turns that took, no more than nodes
  pub turns : ℕ
  pub few : turns ≤ i
  pub joined : joining from i tried ≡ for_up turns (joining_turn next n) (joining 0 0 tried₀)
