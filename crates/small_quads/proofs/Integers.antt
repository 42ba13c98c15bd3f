-- What holds of the definitions of specs/Integers.antt.
use Rattle.std.specs.Prelude.{◌≡◌, refl, false, not, ℕ, ◌+◌, ◌-◌, ◌*◌, ◌/◌, ◌%◌, ◌<◌, ◌≤◌}
use Rattle.std.proofs.Common.{sym, ◌∙◌, arith, lt-ltb, le-ltb}
use Rattle.std.proofs.Math.Path.{ap, ap₂}
use Rattle.std.specs.Bool.{beq}
use Rattle.std.proofs.Math.Dec.{ltb}
use Rattle.laws.proofs.Chain.{passes, fails}
use Rattle.laws.specs.Loop.{for_up, any_up, any_none}
use Rattle.exact.specs.Corner.{cross, squared_length, sine_above_third}
use Rattle.small_quads_lattice.specs.Fours.{lattice_step, corner_turns}
use Rattle.small_quads_lattice.proofs.Tables.{grid_step, same_bool}
use Rattle.small_quads_lattice.proofs.Same.{shifted_difference, vector_of}
use Rattle.small_quads.specs.Integers.{step_size, step_squared, cross_plus, cross_minus, left_turn}

-- ---- the law

turns_table : any_up 7 (λ i. any_up 7 (λ j. any_up 7 (λ k. any_up 7 (λ l. not (beq (left_turn i j k l) (sine_above_third (grid_step i j) (grid_step k l))))))) ≡ false
unfolding any_up for_up left_turn step_squared step_size cross squared_length sine_above_third
turns_table = refl

pub corner_law : (p q r : ℕ) → p < 16 → q < 16 → r < 16
    → left_turn (q % 4 + 3 - p % 4) (q / 4 + 3 - p / 4) (r % 4 + 3 - q % 4) (r / 4 + 3 - q / 4) ≡ corner_turns p q r
unfolding corner_turns vector_of
corner_law p q r P Q R =
    let i = q % 4 + 3 - p % 4 in
    let j = q / 4 + 3 - p / 4 in
    let k = r % 4 + 3 - q % 4 in
    let l = r / 4 + 3 - q / 4 in
    let u : lattice_step p q ≡ grid_step i j = ap₂ vector_of (shifted_difference 3 (p % 4) (q % 4) (omega arith)) (shifted_difference 3 (p / 4) (q / 4) (omega arith)) in
    let v : lattice_step q r ≡ grid_step k l = ap₂ vector_of (shifted_difference 3 (q % 4) (r % 4) (omega arith)) (shifted_difference 3 (q / 4) (r / 4) (omega arith)) in
    same_bool _ _
    (any_none _ 7 (any_none _ 7 (any_none _ 7 (any_none _ 7 turns_table i (omega arith)) j (omega arith)) k (omega arith)) l (omega arith))
    ∙ ap₂ sine_above_third (sym u) (sym v)

-- ---- the code's steps

module _ (ux uy vx vy t f : ℕ) (e : t ≡ ux * vy) (g : f ≡ uy * vx) where
  pub turn_false : t + 3 * uy + 3 * vx ≤ f + 3 * ux + 3 * vy → false ≡ left_turn ux uy vx vy
  unfolding left_turn
  turn_false h = fails _ (le-ltb (cross_minus ux uy vx vy) (cross_plus ux uy vx vy) (omega arith))

  pub turn_true : (u v a b : ℕ) → f + 3 * ux + 3 * vy < t + 3 * uy + 3 * vx → u ≡ step_squared ux uy → v ≡ step_squared vx vy → a ≡ u * v
      → b ≡ (t + 3 * uy + 3 * vx - (f + 3 * ux + 3 * vy)) * (t + 3 * uy + 3 * vx - (f + 3 * ux + 3 * vy)) → ltb a (9 * b) ≡ left_turn ux uy vx vy
  unfolding left_turn
  turn_true u v a b h p q r s =
      let T : t + 3 * uy + 3 * vx ≡ cross_plus ux uy vx vy = ap (λ (x : ℕ). x + 3 * uy + 3 * vx) e in
      let F : f + 3 * ux + 3 * vy ≡ cross_minus ux uy vx vy = ap (λ (x : ℕ). x + 3 * ux + 3 * vy) g in
      let D : t + 3 * uy + 3 * vx - (f + 3 * ux + 3 * vy) ≡ cross_plus ux uy vx vy - cross_minus ux uy vx vy = ap₂ (λ (x y : ℕ). x - y) T F in
      passes (lt-ltb (cross_minus ux uy vx vy) (cross_plus ux uy vx vy) (omega arith))
      (ap₂ ltb (r ∙ ap₂ (λ (x y : ℕ). x * y) p q) (ap (λ (x : ℕ). 9 * x) (s ∙ ap₂ (λ (x y : ℕ). x * y) D D)))
