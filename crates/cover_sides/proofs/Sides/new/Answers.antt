-- `Sides::new` meets its contract.
use Rattle.std.proofs.Common.{◌≡◌, sym, ap, ◌∙◌, ℕ}
use Rattle.std.proofs.lemmas.List.Sorted.{IsNonDecreasingBy-from_sort}
use Rattle.cover_sides.specs.Sides.{count_key}
use Rattle.cover_sides.proofs.Counts.{count_permuted}
use Rattle.cover_sides.proofs.Sides.new.Goals as goal

pub invariant_of-result : goal.invariant_of-result
invariant_of-result c =
    let up = IsNonDecreasingBy-from_sort (λ (x : ℕ). x) c.sort_unstable.new.self c.sort_unstable.ensures.sorted in
    record {
      listed =
          record {
            fit = c.requires.few;
            counts = λ x. count_permuted x _ _ c.sort_unstable.ensures.permutation ∙ ap (count_key x) c.write_keys.ensures;
            up = λ i j l h. up i j 0 l h;
          };
    }
