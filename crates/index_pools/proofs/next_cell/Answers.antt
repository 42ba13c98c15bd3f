-- `index_pools::next_cell` meets its contract: the last cell is followed by the first.
use mathlib.Core.Path.{sym, ap, ◌∙◌}
use Prim.Native.Nat.{ℕ, ◌%◌}
use native.Mathlib.Nat.{mod_self, mod-eq_of_lt}
use native.Mathlib.Omega.{arith}
use Rattle.index_pools.specs.ChainLaws.{less_other}
use Rattle.index_pools.proofs.next_cell.Goals as goal

pub returns-then-next-m : goal.returns-then-next-m
returns-then-next-m c = sym (ap (λ (x : ℕ). x % c.args.m) c.if-next-m.true ∙ mod_self c.args.m)

pub returns-else-next-m : goal.returns-else-next-m
returns-else-next-m c = sym (mod-eq_of_lt (less_other (omega arith) c.if-next-m.false))
