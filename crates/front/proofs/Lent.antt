-- The lists of a paving stay the same ones, step after step.
use Rattle.std.proofs.Common.{◌∙◌, refl}
use Rattle.front.specs.declared.Paving.{Paving}
use Rattle.front.specs.Lent.{SameLists}

pub lists_same : (p : Paving) → SameLists p p
lists_same p = record { xs = refl; ys = refl; next = refl; prev = refl; quads = refl; edges = refl }

pub lists_trans : {p q r : Paving} → SameLists p q → SameLists q r → SameLists p r
lists_trans s t =
    record {
      xs = t.xs ∙ s.xs;
      ys = t.ys ∙ s.ys;
      next = t.next ∙ s.next;
      prev = t.prev ∙ s.prev;
      quads = t.quads ∙ s.quads;
      edges = t.edges ∙ s.edges;
    }
