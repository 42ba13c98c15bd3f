-- The list of first places as `fill_places` fills it, by the entries that it hasn't gone over.
use Rattle.std.specs.Prelude.{◌≡◌, ℕ, ◌+◌, List, [], ◌∷◌, ◌++◌, length, get_or, set}
use Rattle.std.proofs.Common.{sym, ◌∙◌, ap, arith}
use Rattle.std.proofs.lemmas.List.{length_push}
use lib.Seq.{append_snoc, get_or-append-add}
use Rattle.order_checks.specs.Places.{FirstPlaces}
use Rattle.order_checks.proofs.Places.{Filled, filled_next, filled_end}

-- the entries in `after` are filled, and those in `rest` are not
pub record Filling (places order rest : List ℕ) : Type 0 where
  pub after : List ℕ
  pub whole : order ≡ rest ++ after
  pub filled : Filled places order (length rest)

-- the last of the rest is filled, at place p
pub filling_next : (places order rest rest' : List ℕ) (x p : ℕ) → Filling places order rest → rest ≡ rest' ++ x ∷ [] → p ≡ length rest'
    → Filling (set places x p) order rest'
filling_next places order rest rest' x p F e f =
    let whole : order ≡ rest' ++ x ∷ F.after = F.whole ∙ ap (λ (l : List ℕ). l ++ F.after) e ∙ append_snoc rest' x F.after in
    let one : length rest ≡ p + 1 = ap length e ∙ length_push rest' x ∙ ap (λ (n : ℕ). n + 1) (sym f) in
    let zero' : p ≡ length rest' + 0 = omega (arith, f) in
    let at : get_or order p 0 ≡ x =
    ap (λ (l : List ℕ). get_or l p 0) whole ∙ ap (λ (n : ℕ). get_or (rest' ++ x ∷ F.after) n 0) zero' ∙ get_or-append-add rest' (x ∷ F.after) 0 0 in
    record {
      after = x ∷ F.after;
      whole = whole;
      filled = rw (← f, ← at) (filled_next places order (length rest) p F.filled one);
    }

pub filling_end : {places order rest : List ℕ} → Filling places order rest → length rest ≡ 0 → FirstPlaces places order
filling_end F none = filled_end F.filled (omega (arith, none))
