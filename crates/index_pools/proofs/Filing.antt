-- What holds of the definitions of specs/Filing.antt.
use Rattle.std.specs.Prelude.{List, ◌≡◌, ℕ, ◌+◌, ◌<◌, ◌≤◌, min, length}
use Rattle.std.proofs.Common.{sym, ap, ◌∙◌, subst, arith}
use Rattle.index_pools.specs.declared.Rect.{Rect}
use Rattle.index_pools.specs.Pool.{filed, file, Indexed}
use Rattle.index_pools.specs.FileLaws.{indexed_past}
use Rattle.index_pools.proofs.FileLaws.{filed_length, indexed_file}
use Rattle.index_pools.specs.Filing.{Filing}

module _ {rects : ℕ → Rect} {to : ℕ} {pool₀ pool : List ℕ} {id : ℕ} (f : Filing rects to pool₀ pool id) where
  pub filing_next : {r : Rect} {next : List ℕ} → id < min to 4294967295 → r ≡ rects id → next ≡ file r id pool
      → Filing rects to pool₀ next (id + 1)
  filing_next {r} less e n =
      record {
        size = ap length n ∙ filed_length r id pool ∙ f.size;
        within = omega arith;
        filed = subst (λ (p : List ℕ). Indexed p rects (id + 1)) (sym n) (indexed_file pool rects id r (sym e) (omega arith) f.filed);
      }

  pub filing_end : min to 4294967295 ≤ id → Indexed pool rects to
  filing_end past = indexed_past past f.within f.filed
