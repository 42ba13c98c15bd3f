-- The ends of a paving by their numbers. Definitions only.
use Rattle.std.specs.Prelude.{ℕ}
use Rattle.paving.specs.declared.End.{End}
use Rattle.paving.specs.declared.End.TheVariants.{Still, Passes, Cap, Full}

abbrev pub end_number : End → ℕ
end_number Still = 0
end_number Passes = 1
end_number Cap = 2
end_number Full = 3
