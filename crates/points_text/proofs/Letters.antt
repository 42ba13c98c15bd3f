-- A word in ASCII, byte by byte.
use Rattle.std.specs.Prelude.{◌≡◌, ℕ, zero, suc, ◌+◌, ◌-◌, ◌≤◌, ◌<◌, Bool, cond, List, [], ◌∷◌, ◌++◌, length, take, ◌==◌}
use Rattle.std.proofs.Common.{arith, ap, ap₂, sym, ◌∙◌, subst, set, add-one}
use Rattle.std.proofs.Math.Dec.{eqb-suc-zero}
use Rattle.std.proofs.Math.Seq.{take-suc-set}
use Rattle.laws.specs.Loop.{Loop, loop_start_lem, loop_next, loop_end}
use Rattle.points_text.specs.Numbers.{Plain, plain, plain_byte, plain_turn, plain_word, minus_at}

skipped : (k : ℕ) (p q : Plain) → 0 < k → cond (k == 0) p q ≡ q
skipped zero p q h = absurd (omega arith)
skipped (suc k) p q h = rw eqb-suc-zero

module _ (comma : Bool) (word : List ℕ) where
  -- the invariant: what has been written is the word so far
  abbrev pub Written : ℕ → ℕ → ℕ → List ℕ → Type 0
  Written i skip n out = Loop (plain_turn comma word) (plain 0 []) (length word) i (plain skip (take n out))

  pub written_none : (out : List ℕ) → Written 0 0 0 out
  written_none out = loop_start_lem (plain_turn comma word) (plain 0 []) (length word)

  pub written_skipped : {i skip : ℕ} (n : ℕ) (out : List ℕ) → Written i skip n out → i < length word → 0 < skip → Written (i + 1) (skip - 1) n out
  unfolding plain_turn
  written_skipped {i} {skip} n out w h k =
      subst (Loop (plain_turn comma word) (plain 0 []) (length word) (i + 1)) (skipped skip _ _ k) (loop_next (plain_turn comma word) (plain 0 []) w h)

  more : (n : ℕ) (out : List ℕ) (b s c t : ℕ) → n < length out → b ≡ c → s ≡ t → plain t (take n out ++ c ∷ []) ≡ plain s (take (n + 1) (set out n b))
  more n out b s c t h e f = rw add-one (ap₂ plain (sym f) (sym (take-suc-set out n b h ∙ ap (λ (x : ℕ). take n out ++ x ∷ []) e)))

  pub written_more : {i skip n : ℕ} (out : List ℕ) {b s : ℕ} → Written i skip n out → i < length word → skip ≤ 0 → n < length out
      → b ≡ plain_byte comma word i → s ≡ cond (minus_at word i) 2 0 → Written (i + 1) s (n + 1) (set out n b)
  unfolding plain_turn
  written_more {i} {skip} {n} out {b} {s} w h z k e f =
      let none : skip ≡ 0 = omega arith in
      let w0 = subst (λ (x : ℕ). Written i x n out) none w in
      subst (Loop (plain_turn comma word) (plain 0 []) (length word) (i + 1)) (more n out b s _ _ k e f) (loop_next (plain_turn comma word) (plain 0 []) w0 h)

  pub written_end : {i skip : ℕ} (n : ℕ) (out : List ℕ) → Written i skip n out → length word ≤ i → take n out ≡ plain_word comma word
  unfolding plain_word
  written_end n out w h = ap (λ (p : Plain). p.out) (loop_end (plain_turn comma word) (plain 0 []) w h)
