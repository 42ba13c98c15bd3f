-- A loop that empties the heads fills their part of the list.
use Rattle.std.specs.Prelude.{◌≡◌, List, length, set}
use Rattle.std.proofs.Common.{ap, ◌∙◌, add-one, replicate, arith}
use Rattle.std.proofs.lemmas.List.Edits.{paste_none, fill_from_more}
use Prim.Native.Nat.{ℕ, zero, suc, ◌+◌, ◌≤◌}
use lib.Seq.{paste}
use Rattle.laws.specs.Loop.{for_up}
use Rattle.index_pools.specs.Pool.{none, clear_cell}

pub heads_filled : (m : ℕ) (pool : List ℕ) → 2 + m ≤ length pool → for_up m clear_cell pool ≡ paste pool 2 (replicate m none) m
unfolding for_up
heads_filled zero pool fits = paste_none pool 2 (replicate 0 none)
heads_filled (suc m) pool fits =
    ap (λ (p : List ℕ). set p (2 + m) none) (heads_filled m pool (omega arith))
    ∙ fill_from_more pool 2 m none (omega arith) ∙ ap (λ (k : ℕ). paste pool 2 (replicate k none) k) (add-one m)
