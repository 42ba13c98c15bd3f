-- `small_quads::count_quads` meets its contract: the library counts what it filters. Assumes nothing.
use Rattle.std.specs.Prelude.{◌≡◌, ◌≤◌, refl, ℕ, zero, suc, ◌+◌, ◌*◌, Bool, true, false, not, cond, List, ◌∷◌, length, filter}
use Rattle.std.specs.List.{range_with_len}
use Rattle.std.proofs.Common.{sym, ap, ◌∙◌, rules, tests, arith}
use Rattle.std.proofs.lemmas.List.FromFn.{length-range_with_len}
use Rattle.std.proofs.lemmas.List.Filters.{length-filter_both}
use Rattle.std.proofs.lemmas.Iterator.{YieldsList-from_range}
use Rattle.std.proofs.lemmas.Iterator.Consumers.{count_from_yields_List, YieldsList-from_filter}
use Rattle.small_quads_lattice.specs.Fours.{above_third}
use Rattle.small_quads.proofs.ListLaws.{fours_below, below_all, below_zero, length_next}
use Rattle.small_quads.proofs.count_quads.Goals as goal

-- of the m numbers from a on as many pass as there are fours
counted : (m a : ℕ) → length (fours_below (a + m)) ≡ length (fours_below a) + 4 * length (filter above_third (range_with_len a m))
counted zero a = let e : a + 0 ≡ a = omega arith in rw e (omega arith)
counted (suc m) a =
    let e : a + suc m ≡ a + 1 + m = omega arith in
    rw e (by (above_third a) (length_next a) (counted m (a + 1)))
  where
    rest : List ℕ
    rest = filter above_third (range_with_len (a + 1) m)

    by : (b : Bool) → length (fours_below (a + 1)) ≡ cond b (length (fours_below a) + 4) (length (fours_below a))
        → length (fours_below (a + 1 + m)) ≡ length (fours_below (a + 1)) + 4 * length (filter above_third (range_with_len (a + 1) m))
        → length (fours_below (a + 1 + m)) ≡ length (fours_below a) + 4 * length (cond b (a ∷ filter above_third (range_with_len (a + 1) m)) (filter above_third (range_with_len (a + 1) m)))
    by true here later = omega (arith, here, later)
    by false here later = omega (arith, here, later)

all_counted : (n r : ℕ) → r ≡ length (filter above_third (range_with_len 0 n)) → (length (fours_below n) ≡ 4 * r) × (r ≤ n)
all_counted n r e =
    let z : 0 + n ≡ n = omega arith in
    let c : length (fours_below n) ≡ length (fours_below 0) + 4 * length (filter above_third (range_with_len 0 n)) = rw z at (counted n 0) in
    (omega (arith, c, e, ap length below_zero), omega (arith, e, length-filter_both above_third (λ x. not (above_third x)) (λ x. refl) (range_with_len 0 n), length-range_with_len 0 n))

pub returns : goal.returns
returns c =
    let n = all_counted 65536 c.count.result
    (count_from_yields_List {all = filter above_third (range_with_len 0 65536)} c.filter.result c.count.result c.count.ensures.ran
    (YieldsList-from_filter _ above_third (YieldsList-from_range 0 65536 65536 c.filter.ensures.source refl) c.filter.ensures.closure (λ x b q k. search (rules, tests)))) in
    (sym (ap length below_all) ∙ n.0, n.1)
