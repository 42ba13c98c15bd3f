-- What holds of the definitions of specs/Balance.antt.
use Rattle.std.specs.Prelude.{ℕ, zero, suc, ◌+◌, ◌≡◌, refl, ℤ, pos, negsuc, neg_ℤ, ◌+ℤ◌}
use mathlib.Core.List.{List, [], ◌∷◌}
use Rattle.std.proofs.Math.Path.{sym}
use Rattle.std.proofs.Common.{◌∙◌, ap, arith}
use Rattle.std.proofs.Math.IntN.{+ℤ_idl, +ℤ_idr, +ℤ_invr}
use Rattle.topology.specs.Sums.{total, path_sum, loop_sum, front_sum}
use Rattle.topology.proofs.Changes.{removed_sum, added_sum, Changed}
use Rattle.topology.proofs.PlacingBase.{Kind, reused, fresh, placing}
use Rattle.topology.specs.Balance.{path_sumℤ, loop_sumℤ, front_sumℤ, quad_sumℤ, Antisymmetric, difference, difference_add, difference_zero, above, gain, flip}

-- ---- differences of natural numbers

cancel : (a b c : ℕ) → difference (a + c) (b + c) ≡ difference a b
unfolding difference
cancel a b c = sym (difference_add a b c c) ∙ (ap (λ (z : ℤ). difference a b +ℤ z) (+ℤ_invr (pos c)) ∙ +ℤ_idr (difference a b))

difference_same : (a b c d : ℕ) → a + d ≡ c + b → difference a b ≡ difference c d
difference_same a b c d e =
    sym (cancel a b d)
    ∙ (ap (λ (n : ℕ). difference n (b + d)) e ∙ (ap (λ (n : ℕ). difference (c + b) n) (omega arith) ∙ cancel c d b))

parts : (z y : ℤ) → y ≡ neg_ℤ z → z ≡ difference (above z) (above y)
unfolding difference above
parts (pos zero) y e = rw e
parts (pos (suc n)) y e = rw e (sym (+ℤ_idr (pos (suc n))))
parts (negsuc n) y e = rw e (sym (+ℤ_idl (negsuc n)))

-- ---- an antisymmetric weight is a difference of two weights

abbrev quad_sum : (ℕ → ℕ → ℕ) → ℕ → ℕ → ℕ → ℕ → ℕ
quad_sum p a b d c = p a b + p b d + p d c + p c a

-- each side of the quad comes off, or goes on reversed
sides : (kc kd : Kind) (p : ℕ → ℕ → ℕ) (a b c d : ℕ)
    → removed_sum p (placing kc kd a b c d) + added_sum (flip p) (placing kc kd a b c d) ≡ quad_sum p a b d c
sides reused reused p a b c d = omega arith
sides reused fresh p a b c d = omega arith
sides fresh reused p a b c d = omega arith
sides fresh fresh p a b c d = omega arith

module _ (w : ℕ → ℕ → ℤ) (anti : Antisymmetric w) where
  pub weight_is : (u v : ℕ) → w u v ≡ difference (gain w u v) (flip (gain w) u v)
  unfolding gain
  weight_is u v = parts (w u v) (w v u) (anti u v)

  path_is : (u : ℕ) (vs : List ℕ) (z : ℕ) → path_sumℤ w u vs z ≡ difference (path_sum (gain w) u vs z) (path_sum (flip (gain w)) u vs z)
  unfolding path_sumℤ path_sum
  path_is u [] z = weight_is u z
  path_is u (v ∷ vs) z = rw (weight_is u v, path_is v vs z) (difference_add _ _ _ _)

  loop_is : (l : List ℕ) → loop_sumℤ w l ≡ difference (loop_sum (gain w) l) (loop_sum (flip (gain w)) l)
  unfolding loop_sumℤ loop_sum
  loop_is [] = sym difference_zero
  loop_is (x ∷ xs) = path_is x xs x

  pub front_is : (ls : List (List ℕ)) → front_sumℤ w ls ≡ difference (front_sum (gain w) ls) (front_sum (flip (gain w)) ls)
  unfolding front_sumℤ total
  front_is [] = sym difference_zero
  front_is (l ∷ ls) = rw (loop_is l, front_is ls) (difference_add _ _ _ _)

  quad_is : (a b d c : ℕ) → quad_sumℤ w a b d c ≡ difference (quad_sum (gain w) a b d c) (quad_sum (flip (gain w)) a b d c)
  quad_is a b d c = rw (weight_is a b, weight_is b d, weight_is d c, weight_is c a, difference_add, difference_add, difference_add) refl

  -- ---- the theorem

  -- the front before is the quad and the front after
  pub balance : (kc kd : Kind) (n a b c d : ℕ) (next prev : List ℕ) (ls ms : List (List ℕ))
      → Changed n next prev ls ms (placing kc kd a b c d) → front_sumℤ w ls ≡ quad_sumℤ w a b d c +ℤ front_sumℤ w ms
  balance kc kd n a b c d next prev ls ms H =
      rw (front_is ls, quad_is a b d c, front_is ms, difference_add)
      (difference_same _ _ _ _
      (omega (
        arith,
        H.sums (gain w),
        H.sums (flip (gain w)),
        sides kc kd (gain w) a b c d,
        sides kc kd (flip (gain w)) a b c d,
      )))
