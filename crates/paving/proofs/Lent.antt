-- The lists lent for scratch stay the same ones, step after step.
use Rattle.std.proofs.Common.{◌∙◌, refl}
use Rattle.paving.specs.declared.Scratch.{Scratch}
use Rattle.paving.specs.Lent.{SameScratch}

pub scratch_trans : {s t u : Scratch} → SameScratch s t → SameScratch t u → SameScratch s u
scratch_trans a b = record { node_pool = b.node_pool ∙ a.node_pool; edge_pool = b.edge_pool ∙ a.edge_pool; tried = b.tried ∙ a.tried }
