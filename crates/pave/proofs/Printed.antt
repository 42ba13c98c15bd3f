-- The listing of what was read is that of the whole input: there was no more, or its first 4,609 bytes decide.
use Rattle.std.proofs.Common.{◌≡◌, ℕ, ◌<◌, ◌≤◌, List, [], ◌++◌, None, Some, IfSome, OnOk, Result, Ok, Err, sym, ap, ◌∙◌, subst, arith, length, take, append-nil}
use Rattle.std.proofs.Math.Logic.{⊎_elim}
use Rattle.std.proofs.Math.Seq.{take-append_seam}
use Rattle.std.proofs.lemmas.Bool.{cases_lt}
use Rattle.std.specs.declared.option.Option.{Option}
use Rattle.std.specs.Io.KnownBytes.{Consumes, IsAtEnd, Appends}
use Rattle.file_listing.specs.Program.{program_listing}
use Rattle.file_listing.proofs.Laws.{start_decides}

-- the bytes that were read are the first that decide, or all
decided : (read rest : List ℕ) → length read ≤ 4609 → (length read < 4609 → rest ≡ []) → program_listing read ≡ program_listing (read ++ rest)
decided read rest few ends = ⊎_elim all first (cases_lt (length read) 4609)
  where
    all : length read < 4609 → program_listing read ≡ program_listing (read ++ rest)
    all h = ap program_listing (sym (append-nil read) ∙ ap (λ (l : List ℕ). read ++ l) (sym (ends h)))

    first : 4609 ≤ length read → program_listing read ≡ program_listing (read ++ rest)
    first h =
        let long : 4609 ≡ length read = omega arith in
        ap program_listing (sym (ap (λ (n : ℕ). take n (read ++ rest)) long ∙ take-append_seam read rest)) ∙ start_decides (read ++ rest)

-- a reader's known bytes a, of which b are left, and a writer's, x and then y
printed_of : (a b x y : Option (List ℕ)) (read : List ℕ) → length read ≤ 4609 → Consumes a b read → (length read < 4609 → IsAtEnd b)
    → Appends x y (program_listing read) → IfSome a (λ file. Appends x y (program_listing file))
printed_of None b x y read few taken ends h = tt
printed_of (Some file) None x y read few taken ends h = absurd taken
printed_of (Some file) (Some rest) x y read few taken ends h =
    subst (λ (l : List ℕ). Appends x y l) (decided read rest few ends ∙ ap program_listing (sym taken)) h

-- where the listing l was written
pub printed : {T E : Type 0} (r : Result T E) (a b x y : Option (List ℕ)) (read l : List ℕ) → length read ≤ 4609 → Consumes a b read
    → (length read < 4609 → IsAtEnd b) → l ≡ program_listing read → OnOk r (Appends x y l)
    → OnOk r (IfSome a (λ file. Appends x y (program_listing file)))
printed (Ok v) a b x y read l few taken ends e h = printed_of a b x y read few taken ends (subst (λ (k : List ℕ). Appends x y k) e h)
printed (Err v) a b x y read l few taken ends e h = tt
