-- `index_pools::clear` meets its contract: the heads are filled at once.
use Rattle.std.proofs.Common.{sym, ap, ◌∙◌, length, length-set, replicate, arith}
use Rattle.std.proofs.lemmas.List.{length-replicate}
use Rattle.std.proofs.lemmas.Slice.{put_mid-paste}
use Rattle.std.proofs.Math.ListN.{set}
use borrow.Rule.Slice.PartMut.{mid_len}
use borrow.Author.Tests.{le-leb, lt-leb}
use Prim.Native.Nat.{ℕ, ◌+◌, ◌/◌, ◌≤◌}
use Rattle.index_pools.specs.Pool.{none, cells, cleared_pool}
use Rattle.index_pools.proofs.Clearing.{heads_filled}
use Rattle.index_pools.proofs.clear.Goals as goal

pub returns-then-n-lt4 : goal.returns-then-n-lt4
unfolding cleared_pool cells
returns-then-n-lt4 c = rw (lt-leb 4 _ c.if-n-lt4.true)

pub returns : goal.returns
unfolding cleared_pool cells
returns c =
    let m = length c.args.pool.now / 4 in
    let start = set (set c.args.pool.now 0 0) 1 0 in
    let fits : 2 + m ≤ length start = simp length-set (omega arith) in
    let filled = c.fill.ensures.after (λ y h. h) in
    rw (le-leb 4 _ c.if-n-lt4.false)
    (put_mid-paste 2 _ start _ (replicate m none) m
    (filled ∙ ap (λ (k : ℕ). replicate k none) (mid_len 2 (2 + m) start fits ∙ omega arith)) (omega arith) (sym (length-replicate m none))
    ∙ sym (heads_filled m start fits))
