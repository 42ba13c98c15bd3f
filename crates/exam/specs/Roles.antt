-- Which number a role has.
use Rattle.std.specs.Prelude.{false, ◌≡◌, ℕ, Result, MatchResult}
use Rattle.outline.specs.declared.Refusal.{Refusal}
use Rattle.outline.specs.declared.Refusal.TheVariants.{NotAllowed}
use Rattle.exam.specs.declared.Role.{Role}
use Rattle.exam.specs.Exam.{role_number, may_read_mesh}

-- the role with this number, or 20 where none has it
abbrev pub NumbersRole : ℕ → Result Role Refusal → Type 0
NumbersRole number r = MatchResult r (λ role. role_number role ≡ number) (λ refusal. (refusal ≡ NotAllowed) × (may_read_mesh number ≡ false))
