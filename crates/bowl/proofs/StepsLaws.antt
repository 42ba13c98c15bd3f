-- Laws of steps as the code works with them: sizes of differences and products, the turn by a comparison, the buffer place by place. Assumes nothing.
use Rattle.std.specs.Prelude.{◌&&◌, ◌⊎◌, List, [], ◌∷◌, ◌≡◌, T, pos, negsuc, neg_ℤ, nat_abs, ◌+ℤ◌, ◌-ℤ◌, ◌*ℤ◌, length, get_or, set, drop, Float}
use Rattle.std.proofs.Common.{⊎_elim, ◌∙◌, ap, ap₂, le_trans, mul-le-mul, le_of_suc-le-suc, eq-or-lt_of_le, arith, length-set, get_or-set_same, get_or-set_other, drop-set-lt, to_z, of_z, SFits}
use Rattle.std.proofs.Math.Path.{refl}
use Prim.Native.Nat.{ℕ, zero, suc, ◌+◌, ◌*◌, ◌^◌, ◌<◌, ◌≤◌}
use Rattle.std.proofs.Math.IntN.{ℤ, +ℤ_comm, pos-*ℤ-pos, pos-*ℤ-negsuc, negsuc-*ℤ-pos, negsuc-*ℤ-negsuc}
use Rattle.std.specs.Int.Signed.{mag, lt_z, lt_z_yes}
use Rattle.std.specs.Float.{nan}
use Rattle.std.specs.Int.{w32, w64}
use Rattle.std.proofs.lemmas.Int.{to_z-of_z}
use Rattle.laws.specs.Loop.{for_up, for_up_keeps, Loop, loop_next}
use Rattle.laws.specs.Tests.{T-ext}
use Rattle.laws.proofs.RingBase.{var, num, ◌-ᵉ◌}
use Rattle.laws.proofs.CertificateBase.{hyp}
use Rattle.laws.proofs.Certificate.{prove, of-<ℤ, to-<ℤ}
use Rattle.exact.specs.Corner.{Vector, cross}
use Rattle.outline_orientation.specs.Orient.{way}
use Rattle.bowl_nearest_step.specs.Step.{nearest_step}
use Rattle.bowl_nearest_step.proofs.StepBase.{nat_abs_neg, apart}
use Rattle.bowl_nearest_step.proofs.StepLaws.{step_few}
use Rattle.bowl.specs.declared.Steps.{Steps}
use Rattle.bowl.specs.Steps.{steps_at, turns_left, is_shown, store_turn, stored_steps}
use Rattle.bowl.specs.Stepped.{vector, NodeWithin, FewSteps, IsVector, ids}

-- ---- sizes

nat_abs_plus : (a b : ℤ) → nat_abs (a +ℤ b) ≤ nat_abs a + nat_abs b
nat_abs_plus (pos m) (pos n) = omega arith
nat_abs_plus (pos m) (negsuc n) = apart m (suc n) (m + suc n) (omega arith) (omega arith)
nat_abs_plus (negsuc m) (pos n) = rw (+ℤ_comm (negsuc m) (pos n)) (apart n (suc m) (suc m + n) (omega arith) (omega arith))
nat_abs_plus (negsuc m) (negsuc n) = omega arith

pub nat_abs_minus : (a b : ℤ) → nat_abs (a -ℤ b) ≤ nat_abs a + nat_abs b
nat_abs_minus a b = le_trans (nat_abs_plus a (neg_ℤ b)) (rw (nat_abs_neg b) (omega arith))

nat_abs_times : (a b : ℤ) → nat_abs (a *ℤ b) ≡ nat_abs a * nat_abs b
nat_abs_times (pos m) (pos n) = ap nat_abs (pos-*ℤ-pos m n)
nat_abs_times (pos m) (negsuc n) = ap nat_abs (pos-*ℤ-negsuc m n) ∙ nat_abs_neg (pos (m * suc n))
nat_abs_times (negsuc m) (pos n) = ap nat_abs (negsuc-*ℤ-pos m n) ∙ nat_abs_neg (pos (suc m * n))
nat_abs_times (negsuc m) (negsuc n) = ap nat_abs (negsuc-*ℤ-negsuc m n)

-- ---- what fits 64 bits

mag_small : (z : ℤ) → mag z ≤ nat_abs z
mag_small (pos n) = omega arith
mag_small (negsuc n) = omega arith

pub fits_64 : (z : ℤ) → nat_abs z ≤ 2 ^ 62 → SFits w64 z
fits_64 z h = record { sfits = omega (arith, mag_small z) }

pub held_64 : (z : ℤ) → nat_abs z ≤ 2 ^ 62 → to_z w64 (of_z w64 z) ≡ z
held_64 z h = to_z-of_z w64 z (fits_64 z h)

-- ---- a turn by a comparison

module _ (a b : ℤ) where
  one_way : T (lt_z a b) → T (lt_z (pos 0) (b -ℤ a))
  one_way h =
      (to-<ℤ {a = pos 0} {b = b -ℤ a}
      (prove (a ∷ b ∷ []) ((var 1 -ᵉ var 0 -ᵉ num 1) ∷ []) (of-<ℤ {a = a} {b = b} (lt_z_yes h), tt) [] tt 0 (var 1 -ᵉ var 0 -ᵉ num 0 -ᵉ num 1) (hyp 0) tt)).lt

  other_way : T (lt_z (pos 0) (b -ℤ a)) → T (lt_z a b)
  other_way h =
      (to-<ℤ {a = a} {b = b}
      (prove (a ∷ b ∷ []) ((var 1 -ᵉ var 0 -ᵉ num 0 -ᵉ num 1) ∷ []) (of-<ℤ {a = pos 0} {b = b -ℤ a} (lt_z_yes h), tt) [] tt 0 (var 1 -ᵉ var 0 -ᵉ num 1) (hyp 0)
      tt)).lt

  less_apart : lt_z a b ≡ lt_z (pos 0) (b -ℤ a)
  less_apart = T-ext (lt_z a b) (lt_z (pos 0) (b -ℤ a)) one_way other_way

pub left_compared : (p q : Vector) → lt_z (p.y *ℤ q.x) (p.x *ℤ q.y) ≡ turns_left p q
unfolding turns_left cross
left_compared p q = less_apart (p.y *ℤ q.x) (p.x *ℤ q.y)

-- ---- with numbers as they are held

module _ (m : ℕ) (few : m ≤ 2 ^ 30) (a b : ℤ) (ha : nat_abs a ≤ m) (hb : nat_abs b ≤ m) where
  held_a : to_z w64 (of_z w64 a) ≡ a
  held_a = held_64 a (omega arith)

  held_b : to_z w64 (of_z w64 b) ≡ b
  held_b = held_64 b (omega arith)

  small_minus : nat_abs (a -ℤ b) ≤ 2 * m
  small_minus = omega (arith, nat_abs_minus a b)

  small_times : nat_abs (a *ℤ b) ≤ 2 ^ 60
  small_times = rw (nat_abs_times a b) (le_trans (mul-le-mul (le_trans ha few) (le_trans hb few)) (omega arith))

  pub minus_fits : SFits w64 (to_z w64 (of_z w64 a) -ℤ to_z w64 (of_z w64 b))
  minus_fits = rw (held_a, held_b) (fits_64 (a -ℤ b) (omega (arith, small_minus)))

  pub minus_held : to_z w64 (of_z w64 (to_z w64 (of_z w64 a) -ℤ to_z w64 (of_z w64 b))) ≡ a -ℤ b
  minus_held = to_z-of_z w64 _ minus_fits ∙ ap₂ (λ (x y : ℤ). x -ℤ y) held_a held_b

  pub times_fits : SFits w64 (to_z w64 (of_z w64 a) *ℤ to_z w64 (of_z w64 b))
  times_fits = rw (held_a, held_b) (fits_64 (a *ℤ b) (omega (arith, small_times)))

  pub times_held : to_z w64 (of_z w64 (to_z w64 (of_z w64 a) *ℤ to_z w64 (of_z w64 b))) ≡ a *ℤ b
  times_held = to_z-of_z w64 _ times_fits ∙ ap₂ (λ (x y : ℤ). x *ℤ y) held_a held_b

-- ---- what the functions answer

abbrev vec : ℤ → ℤ → Vector
vec x y = record { x = x; y = y }

-- a node's steps, as they are held in 32 and in 64 bits
module _ (z : ℤ) (h : nat_abs z ≤ 64064) where
  held_32 : to_z w32 (of_z w32 z) ≡ z
  held_32 = to_z-of_z w32 z (record { sfits = omega (arith, mag_small z) })

  pub cast_fits : SFits w64 (to_z w32 (of_z w32 z))
  cast_fits = rw held_32 (fits_64 z (omega arith))

  pub cast_held : to_z w64 (of_z w64 (to_z w32 (of_z w32 z))) ≡ z
  cast_held = to_z-of_z w64 _ cast_fits ∙ held_32

module _ (xs ys : List Float) (id : ℕ) (N : NodeWithin xs ys id) (x y : ℤ) (ex : x ≡ nearest_step (get_or xs id nan)) (ey : y ≡ nearest_step (get_or ys id nan)) where
  pub few_x : nat_abs x ≤ 64064
  few_x = rw ex (step_few N.x)

  pub few_y : nat_abs y ≤ 64064
  few_y = rw ey (step_few N.y)

  pub steps_are : IsVector 64064 (record { x = to_z w64 (of_z w64 (to_z w32 (of_z w32 x))); y = to_z w64 (of_z w64 (to_z w32 (of_z w32 y))) }) (steps_at xs ys id)
  steps_are =
      rw (cast_held x few_x, cast_held y few_y) (record { same = ap₂ vec ex ey; few = record { x = few_x; y = few_y } })

-- a way and a turn
module _ (a b : Steps) where
  pub way_is : FewSteps 64064 a → FewSteps 64064 b
      → IsVector 128128
      (record {
        x = to_z w64 (of_z w64 (to_z w64 (of_z w64 b.x) -ℤ to_z w64 (of_z w64 a.x)));
        y = to_z w64 (of_z w64 (to_z w64 (of_z w64 b.y) -ℤ to_z w64 (of_z w64 a.y)));
      })
      (way (vector a) (vector b))
  way_is A B =
      let small : 64064 ≤ 2 ^ 30 = omega arith in
      rw (minus_held 64064 small b.x a.x B.x A.x, minus_held 64064 small b.y a.y B.y A.y)
      (record {
        same = refl;
        few =
            record {
              x = omega (arith, nat_abs_minus b.x a.x, A.x, B.x);
              y = omega (arith, nat_abs_minus b.y a.y, A.y, B.y);
            };
      })

  pub left_is : FewSteps 128128 a → FewSteps 128128 b
      → lt_z (to_z w64 (of_z w64 (to_z w64 (of_z w64 a.y) *ℤ to_z w64 (of_z w64 b.x))))
      (to_z w64 (of_z w64 (to_z w64 (of_z w64 a.x) *ℤ to_z w64 (of_z w64 b.y)))) ≡ turns_left (vector a) (vector b)
  left_is A B =
      let small : 128128 ≤ 2 ^ 30 = omega arith in
      ap₂ lt_z (times_held 128128 small a.y b.x A.y B.x) (times_held 128128 small a.x b.y A.x B.y)
      ∙ left_compared (vector a) (vector b)

-- the four corners, from the ways as they are answered
module _ (xs ys : List Float) (a b d c : ℕ) (pa pb pd pc ab bd dc ca : Steps)
    (A : IsVector 64064 pa (steps_at xs ys a)) (B : IsVector 64064 pb (steps_at xs ys b)) (D : IsVector 64064 pd (steps_at xs ys d))
    (C : IsVector 64064 pc (steps_at xs ys c)) (AB : IsVector 128128 ab (way (vector pa) (vector pb))) (BD : IsVector 128128 bd (way (vector pb) (vector pd)))
    (DC : IsVector 128128 dc (way (vector pd) (vector pc))) (CA : IsVector 128128 ca (way (vector pc) (vector pa))) where
  pub shown_is : turns_left (vector ca) (vector ab) && (turns_left (vector ab) (vector bd) && (turns_left (vector bd) (vector dc) && turns_left (vector dc) (vector ca)))
      ≡ is_shown xs ys (ids a b d c)
  unfolding is_shown
  shown_is =
      let from-a : vector ab ≡ way (steps_at xs ys a) (steps_at xs ys b) = AB.same ∙ ap₂ way A.same B.same in
      let from-b : vector bd ≡ way (steps_at xs ys b) (steps_at xs ys d) = BD.same ∙ ap₂ way B.same D.same in
      let from-d : vector dc ≡ way (steps_at xs ys d) (steps_at xs ys c) = DC.same ∙ ap₂ way D.same C.same in
      let from-c : vector ca ≡ way (steps_at xs ys c) (steps_at xs ys a) = CA.same ∙ ap₂ way C.same A.same in
      rw (from-a, from-b, from-d, from-c) refl

-- ---- the buffer

stored_length : (xs ys : List Float) (n : ℕ) (steps : List ℤ) → length (for_up n (store_turn xs ys) steps) ≡ length steps
unfolding store_turn
stored_length xs ys n steps =
    for_up_keeps (λ i l. length l ≡ length steps) n (store_turn xs ys) steps refl
    (λ i l h e. length-set (set l (2 * i) (nearest_step (get_or xs i nan))) (2 * i + 1) (nearest_step (get_or ys i nan))
    ∙ (length-set l (2 * i) (nearest_step (get_or xs i nan)) ∙ e))

module _ (xs ys : List Float) (lent : List ℤ) (n i : ℕ) (steps : List ℤ) (l : Loop (store_turn xs ys) lent n i steps) where
  pub store_length : length steps ≡ length lent
  store_length = ap length l.same ∙ stored_length xs ys i lent

  -- a turn stores what was answered of node i
  pub store_next_lem : i < n → NodeWithin xs ys i → (x y : ℤ) → x ≡ nearest_step (get_or xs i nan) → y ≡ nearest_step (get_or ys i nan)
      → Loop (store_turn xs ys) lent n (i + 1) (set (set steps (2 * i) (to_z w32 (of_z w32 x))) (2 * i + 1) (to_z w32 (of_z w32 y)))
  unfolding store_turn
  store_next_lem h N x y ex ey =
      rw (held_32 x (few_x xs ys i N x y ex ey), held_32 y (few_y xs ys i N x y ex ey), ex, ey) (loop_next (store_turn xs ys) lent l h)

-- what n turns leave: the nodes' steps on their places, and the other places as they were
record StoredUpTo (xs ys : List Float) (lent : List ℤ) (n i : ℕ) (left : List ℤ) : Type 0 where
  long : length left ≡ length lent
  x_at : (j : ℕ) → j < i → get_or left (2 * j) (pos 0) ≡ nearest_step (get_or xs j nan)
  y_at : (j : ℕ) → j < i → get_or left (2 * j + 1) (pos 0) ≡ nearest_step (get_or ys j nan)
  past : drop (2 * n) left ≡ drop (2 * n) lent

module _ (xs ys : List Float) (lent : List ℤ) (n : ℕ) (room : 2 * n ≤ length lent) where
  up_to : (i : ℕ) → i ≤ n → StoredUpTo xs ys lent n i (for_up i (store_turn xs ys) lent)
  unfolding store_turn for_up
  up_to zero h = record { long = refl; x_at = λ j l. absurd (omega arith); y_at = λ j l. absurd (omega arith); past = refl }
  up_to (suc i) h = next (for_up i (store_turn xs ys) lent) (up_to i (omega arith))
    where
      x : ℤ
      x = nearest_step (get_or xs i nan)

      y : ℤ
      y = nearest_step (get_or ys i nan)

      next : (l : List ℤ) → StoredUpTo xs ys lent n i l → StoredUpTo xs ys lent n (suc i) (set (set l (2 * i) x) (2 * i + 1) y)
      next l S =
          let m = set l (2 * i) x in
          let long : length m ≡ length lent = length-set l (2 * i) x ∙ S.long in
          record {
            long = length-set m (2 * i + 1) y ∙ long;
            x_at =
                λ j less. get_or-set_other m (2 * i + 1) (2 * j) y (pos 0) (omega arith) ∙ ⊎_elim
                (λ same. rw same (get_or-set_same l (2 * i) x (pos 0) (omega (arith, S.long))))
                (λ below. get_or-set_other l (2 * i) (2 * j) x (pos 0) (omega arith) ∙ S.x_at j below) (last_or_less j less);
            y_at =
                λ j less. ⊎_elim (λ same. rw same (get_or-set_same m (2 * i + 1) y (pos 0) (omega (arith, long))))
                (λ below.
                get_or-set_other m (2 * i + 1) (2 * j + 1) y (pos 0) (omega arith)
                ∙ (get_or-set_other l (2 * i) (2 * j + 1) x (pos 0) (omega arith) ∙ S.y_at j below)) (last_or_less j less);
            past =
                drop-set-lt (2 * n) m (2 * i + 1) y (omega arith) ∙ (drop-set-lt (2 * n) l (2 * i) x (omega arith) ∙ S.past);
          }
        where
          last_or_less : (j : ℕ) → j < suc i → (j ≡ i) ⊎ (j < i)
          last_or_less j less = eq-or-lt_of_le (le_of_suc-le-suc less)

  pub stored_x : (i : ℕ) → i < n → get_or (stored_steps xs ys n lent) (2 * i) (pos 0) ≡ nearest_step (get_or xs i nan)
  unfolding stored_steps
  stored_x i h = (up_to n (omega arith)).x_at i h

  pub stored_y : (i : ℕ) → i < n → get_or (stored_steps xs ys n lent) (2 * i + 1) (pos 0) ≡ nearest_step (get_or ys i nan)
  unfolding stored_steps
  stored_y i h = (up_to n (omega arith)).y_at i h

  pub stored_steps_past : drop (2 * n) (stored_steps xs ys n lent) ≡ drop (2 * n) lent
  unfolding stored_steps
  stored_steps_past = (up_to n (omega arith)).past
