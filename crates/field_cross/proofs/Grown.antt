-- A spacing that is grown in each of 64 turns, where it still has too many nodes, is the one at which the definition leaves its loop. Assumes nothing.
use Rattle.std.specs.Prelude.{Bool, true, false, cond, ◌≡◌, refl, ℕ, Float}
use Rattle.std.proofs.Math.Logic.{◌⊎◌, inl, inr}
use Rattle.numbers.specs.Float.{◌⊗◌}
use Rattle.laws.specs.Loop.{for_up, for_up_related, Turn, go, out, onwards, answer, run}
use Rattle.field_cross.specs.Grid.{growth, growths, grow_turn, too_many_nodes, spacing}

module _ (width height : Float) where
  abbrev pub grown : Float → Float
  grown h = cond (too_many_nodes width height h) (h ⊗ growth) h

  -- the loop goes on with h, or has left with an h of few nodes
  abbrev Same : Turn Float Float → Float → Type 0
  Same t h = (t ≡ go h) ⊎ ((t ≡ out h) × (too_many_nodes width height h ≡ false))

  kept : (i : ℕ) (t : Turn Float Float) (h : Float) → Same t h → Same (onwards (grow_turn width height) i t) (grown h)
  kept i t h (inl e) = rw e (by (too_many_nodes width height h) refl)
    where
      by : (b : Bool) → too_many_nodes width height h ≡ b
          → (cond b (go (h ⊗ growth)) (out h) ≡ go (cond b (h ⊗ growth) h))
          ⊎ ((cond b (go (h ⊗ growth)) (out h) ≡ out (cond b (h ⊗ growth) h)) × (too_many_nodes width height (cond b (h ⊗ growth) h) ≡ false))
      by true many = inl refl
      by false few = inr (refl, few)
  kept i t h (inr (e, few)) = rw (e, few) (inr (refl, few))

  pub spaced : (h : Float) → for_up growths (λ i s. grown s) h ≡ spacing width height h
  unfolding run spacing
  spaced h = last (for_up_related Same growths (onwards (grow_turn width height)) (λ i s. grown s) (go h) h (inl refl) kept)
    where
      last : {t : Turn Float Float} {s : Float} → Same t s → s ≡ answer (λ x. x) t
      last (inl e) = rw e refl
      last (inr (e, few)) = rw e refl
