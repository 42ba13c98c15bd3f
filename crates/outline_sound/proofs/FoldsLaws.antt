-- What holds of the definitions of specs/FoldsLaws.antt.
use Rattle.std.specs.Prelude.{◌↔◌, T}
use Rattle.exact.specs.Corner.{Vector}
use Rattle.outline_sound.specs.Sound.{folds_back}
use Rattle.outline_sound.specs.FoldsLaws.{SharesMore, folds_parts, folds_more, more_folds}

-- ---- from the point to folding back

-- NEIGHBOURS FOLD BACK EXACTLY IF THEY HAVE MORE IN COMMON THAN THEIR COMMON END.
pub folds_shares : (a b c : Vector) → T (folds_back a b c) ↔ SharesMore a b c
folds_shares a b c =
    let f = folds_parts a b c in
    (λ t. folds_more a b c (f.0 t), λ h. f.1 (more_folds a b c h))
