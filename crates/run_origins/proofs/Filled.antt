-- A part of a list filled with one number.
use Rattle.std.specs.Prelude.{◌≡◌, List, ℕ, ◌+◌, ◌≤◌, length, replicate, drop, take}
use Rattle.std.proofs.Common.{refl, sym, ap, ◌∙◌, ◌++◌, arith}
use Rattle.std.proofs.lemmas.List.{length-replicate, take-replicate}
use Rattle.std.proofs.lemmas.List.Edits.{sets, sets-eq}
use Rattle.std.proofs.lemmas.Slice.{put_mid-paste}
use borrow.Rule.Slice.PartMut.{put_mid}

pub fill_sets : (xs ys : List ℕ) (a k number : ℕ) → ys ≡ replicate k number → a + k ≤ length xs → put_mid a k xs ys ≡ sets xs a (replicate k number)
fill_sets xs ys a k number e h =
    let long = length-replicate k number in
    put_mid-paste a k xs ys (replicate k number) k e refl (sym long)
    ∙ ap (λ (l : List ℕ). take a xs ++ l ++ drop (a + k) xs) (take-replicate k k number (omega arith))
    ∙ ap (λ (n : ℕ). take a xs ++ replicate k number ++ drop (a + n) xs) (sym long)
    ∙ sym (sets-eq (replicate k number) xs a (omega (arith, long)))
