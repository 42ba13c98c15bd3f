-- What a read gives stands behind what was read before.
use Rattle.std.proofs.Common.{◌≡◌, ℕ, ◌+◌, ◌-◌, ◌≤◌, List, ◌++◌, rules, arith, length, take, slice_range, sym, ap, ◌∙◌, subst, le_refl, drop_at, length-take-le}
use Rattle.std.proofs.lemmas.Slice.{take-put_mid_below}
use Rattle.std.specs.Io.KnownBytes.{Consumes}
use Rattle.std.proofs.KnownBytes.{Consumes-trans}
use borrow.Rule.Slice.PartMut.{put_mid, post_of}
use lib.Seq.{take-add, take-append-le}
use Rattle.file_reading.proofs.read_full.Goals as goal

-- the places read before, and those of one read
read_behind : (a n : ℕ) (xs ys : List ℕ) → a ≤ length xs → n ≤ length ys
    → let new = put_mid a (length xs - a) xs ys in
    take a xs ++ take n ys ≡ take (a + n) new
read_behind a n xs ys within fits =
    let k = length xs - a in
    let new = put_mid a k xs ys in
    let after = post_of a k xs in
    let front : take a new ≡ take a xs = take-put_mid_below _ _ _ _ _ (le_refl _) within in
    let part : slice_range new a (a + n) ≡ take n ys =
    ap (take ((a + n) - a)) (drop_at (take a xs) (ys ++ after) a (length-take-le a xs within))
    ∙ ap (λ (m : ℕ). take m (ys ++ after)) (omega arith)
    ∙ take-append-le n ys after fits in
    let count : a + ((a + n) - a) ≡ a + n = omega arith in
    ap (λ (l : List ℕ). take a xs ++ l) (sym part)
    ∙ ap (λ (l : List ℕ). l ++ slice_range new a (a + n)) (sym front)
    ∙ sym (take-add a ((a + n) - a) new)
    ∙ ap (λ (m : ℕ). take m new) count

pub loop-done-preserved : goal.loop-done-preserved
loop-done-preserved g c =
    let fits : c.in_ok-n.n ≤ length c.read.new.buf = c.in_ok-n.ensures.bound.0 in
    let joined = read_behind c.loop-done.done c.in_ok-n.n c.loop-done.bytes c.read.new.buf c.loop-done.invariant.within fits in
    record {
      long = search rules;
      within = search rules;
      taken = subst (Consumes _ _) joined (Consumes-trans _ _ _ _ _ c.loop-done.invariant.taken c.in_ok-n.ensures.bytes.0);
    }
