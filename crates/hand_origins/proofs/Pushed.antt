-- What a step writes for its new nodes is what the pushes of origins write for the quad's corners. Assumes nothing.
use Rattle.std.specs.Prelude.{List, ◌≡◌, ℕ, ◌+◌, ◌-◌, ◌<◌, ◌≤◌}
use Rattle.std.proofs.Math.Path.{refl}
use Rattle.std.proofs.Common.{ap, eq-eqb, ne_eqb}
use native.Mathlib.Omega.{arith}
use Rattle.std.proofs.Math.ListN.{get_or, set}
use Rattle.std.proofs.Math.Seq.{get_or-set_other}
use Rattle.laws.specs.Loop.{for_up}
use Rattle.front.specs.declared.Corner.{Corner}
use Rattle.front.specs.declared.Corner.TheVariants.{Reused, Fresh}
use Rattle.front.specs.Place.{added, corner_id}
use Rattle.hand_steps.specs.Hand.{new_origins}
use Rattle.hand_steps.proofs.UseBase.{Below}
use Rattle.run_origins.specs.Writing.{push_count, push_at}

-- a corner's push, where n nodes are numbered: nothing for one that is reused
push_reused : (a id n : ℕ) (l : List ℕ) → id < n → push_at a id n l ≡ l
push_reused a id n l h = rw (ne_eqb id n (omega arith))

push_fresh : (a n : ℕ) (l : List ℕ) → push_at a n n l ≡ set l n (get_or l a 0)
push_fresh a n l = rw (eq-eqb n n refl)

-- so many numbers there are after it
pub push_counts : (c : Corner) (n m : ℕ) → Below n c → n ≤ m → push_count (corner_id m c) m ≡ m + added c
push_counts (Reused id) n m h l = rw (ne_eqb id m (omega arith)) (omega arith)
push_counts (Fresh x y) n m h l = rw (eq-eqb m m refl)

module _ (a n : ℕ) (l : List ℕ) (old : a < n) where
  pub new_pushed : (c d : Corner) → Below n c → Below n d
      → new_origins a n (n + (added c + added d)) l ≡ push_at a (corner_id (n + added c) d) (n + added c) (push_at a (corner_id n c) n l)
  unfolding new_origins for_up
  new_pushed (Reused u) (Reused v) below low =
      let none : n + (0 + 0) - n ≡ 0 = omega arith in
      rw (none, push_reused a u n l below, push_reused a v (n + 0) l (omega (arith, low))) refl
  new_pushed (Reused u) (Fresh z w) below low =
      let one : n + (0 + 1) - n ≡ 1 = omega arith in
      rw (one, push_reused a u n l below, push_fresh a (n + 0) l) refl
  new_pushed (Fresh x y) (Reused v) below low =
      let one : n + (1 + 0) - n ≡ 1 = omega arith in
      rw (one, push_fresh a n l, push_reused a v (n + 1) (set l n (get_or l a 0)) (omega (arith, low)))
      (ap (λ (i : ℕ). set l i (get_or l a 0)) (plain n))
    where
      plain : (n : ℕ) → n + 0 ≡ n
      plain n = omega arith
  new_pushed (Fresh x y) (Fresh z w) below low =
      let two : n + (1 + 1) - n ≡ 2 = omega arith in
      let v = get_or l a 0 in
      rw (two, push_fresh a n l, push_fresh a (n + 1) (set l n v), get_or-set_other l n a v 0 (omega arith))
      (ap (λ (i : ℕ). set (set l i v) (n + 1) v) (plain n))
    where
      plain : (n : ℕ) → n + 0 ≡ n
      plain n = omega arith
