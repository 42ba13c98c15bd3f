-- Every value of a field is finite and at most 4 either way: seeds are of a unit pair, and so is what a sweep writes. Assumes nothing.
use Rattle.std.specs.Prelude.{◌≡◌, refl, Bool, true, false, cond, List, T, ltb, eqb, leb, length, get_or, set, Float}
use Rattle.std.proofs.Common.{sym, ◌∙◌, add-zero, zero-mul, one-mul, suc-mul, mul-le-mul_left, le_trans, le_of_eq, mul_assoc, mul_comm, mul-le-mul_right, le_of_mul-le-mul_right, mul-pos, le-mul_of_pos_right, ltb-false, eqb-true, lt-ltb, leb→le, le→leb, lit≤, get_or-set_same, get_or-set_other}
use Rattle.std.proofs.Math.Path.{subst}
use Prim.Native.Nat.{ℕ, zero, suc, ◌+◌, ◌-◌, ◌*◌, ◌^◌, ◌≤◌, ◌<◌}
use native.Mathlib.Omega.{arith}
use Rattle.std.proofs.lemmas.Bool.{eqb-false}
use Rattle.std.proofs.Math.ListN.{length-set}
use Rattle.std.specs.Float.{nan}
use Rattle.std.specs.Float.Ieee.{lt, le, of_bits, of_int}
use Rattle.laws.specs.Loop.{for_up, for_up_keeps}
use Rattle.numbers.specs.Float.{◌⊕◌, ◌⊖◌, ◌⊘◌, zero_f, one_f, tolerance, to_float}
use Rattle.exact.specs.Units.{W, W-pos, Val, Within}
use Rattle.exact.proofs.Operations.{div_law}
use Rattle.exact.proofs.SineBounds.{rel_and}
use Rattle.outline.specs.declared.Point.{Point}
use Rattle.outline.specs.declared.Near.{Near}
use Rattle.outline.specs.Outline.{Outline, hole_at, points, point, point_at, point_after}
use Rattle.outline.specs.Queries.{point_segment_distance, near, nowhere, nearer, segment_turn, nearest_in_loop, hole_turn, nearest_segment}
use Rattle.outline.specs.Accepted.{OutlineFits, PointWithin, Accepted, LoopWithin, after_within}
use Rattle.exact.specs.Corner.{norm}
use Rattle.geometry.specs.Plane.{tangent}
use Rattle.field_direction.specs.declared.Grid.{Grid}
use Rattle.field_direction.specs.Record.{FieldLists, node_at}
use Rattle.field_averages.specs.Average.{plus_if, one_if, neighbour_sum, neighbour_count, normalised, average}
use Rattle.field_sweeps.specs.Sweeps.{SweptField, set_value, relaxed}
use Rattle.field_sweeps.specs.Sweeps.{sweep_node, sweeps}
use Rattle.field_averages.specs.Places.{Node, here_in, right_in, over_in}
use Rattle.field_cross.specs.Seeds.{grid_point, seed, seed_node, seed_row, seeded}
use Rattle.field_cross.proofs.Box.{box_side, outer_near, hole_near}
use Rattle.field_cross.proofs.Past.{sweeps_keep}
use Rattle.field_cross.proofs.Unit.{Most, most_more, most_add, UnitPair, unit_lt, unit_not_le, unit_one, unit_first, unit_second}
use Rattle.field_cross.proofs.Unit.{seed_most}

-- ---- the nearest segment's ends are points of the outline, or the origin

record Ends (n : Near) : Type 0 where
  a : PointWithin 1000 1000 n.a
  b : PointWithin 1000 1000 n.b

nearer_ends : (p a b : Point) (k i : ℕ) (best : Near) → PointWithin 1000 1000 a → PointWithin 1000 1000 b → Ends best → Ends (nearer p a b k i best)
unfolding nearer
nearer_ends p a b k i best within_a within_b e = pick (lt (point_segment_distance p a b) best.distance)
  where
    pick : (t : Bool) → Ends (cond t (near a b (point_segment_distance p a b) k i) best)
    pick true = record { a = within_a; b = within_b }
    pick false = e

loop_ends : (p : Point) (s : List Float) (k : ℕ) (best : Near) → LoopWithin s → Ends best → Ends (nearest_in_loop p s k best)
unfolding nearest_in_loop
loop_ends p s k best h e =
    for_up_keeps (λ (i : ℕ) (n : Near). Ends n) (points s) (segment_turn p s k) best e
    (λ i n l e. nearer_ends p (point_at s i) (point_after s i) k i n (h i l) (after_within s h i l) e)

origin_within : Within 1000 zero_f
unfolding of_bits W
origin_within = record { sign = false; size = 0; val = (refl, refl); small = lit≤ tt }

nearest_ends : (o : Outline) → OutlineFits o → Accepted o → (p : Point) → Ends (nearest_segment o p)
unfolding nearest_segment
nearest_ends o held a p =
    for_up_keeps (λ (k : ℕ) (n : Near). Ends n) (length o.lens) (hole_turn o p) (nearest_in_loop p o.outer 0 nowhere)
    (loop_ends p o.outer 0 nowhere (outer_near o held a) (record { a = origin; b = origin }))
    (λ k n h e. loop_ends p (hole_at o k) (suc k) n (hole_near o held a k h) e)
  where
    origin : PointWithin 1000 1000 (point zero_f zero_f)
    origin = record { x = origin_within; y = origin_within }

-- ---- seeds

tangent_unit : (a b : Point) → PointWithin 1000 1000 a → PointWithin 1000 1000 b → UnitPair (tangent a b).x (tangent a b).y
unfolding tangent
tangent_unit a b p q = pick (le (norm (b.x ⊖ a.x) (b.y ⊖ a.y)) tolerance) refl
  where
    dx : Float
    dx = b.x ⊖ a.x

    dy : Float
    dy = b.y ⊖ a.y

    pick : (t : Bool) → le (norm dx dy) tolerance ≡ t
        → UnitPair (cond t (point one_f zero_f) (point (dx ⊘ norm dx dy) (dy ⊘ norm dx dy))).x
        (cond t (point one_f zero_f) (point (dx ⊘ norm dx dy) (dy ⊘ norm dx dy))).y
    pick true e = unit_one
    pick false e = unit_not_le (box_side a.x b.x p.x q.x) (box_side a.y b.y p.y q.y) e

-- both coordinates within c thousandths
record PointMost (c : ℕ) (p : Point) : Type 0 where
  x : Most c p.x
  y : Most c p.y

seed_sound : (n : Near) → Ends n → PointMost 4000 (seed (tangent n.a n.b))
seed_sound n e = let m = seed_most (tangent n.a n.b) (tangent_unit n.a n.b e.a e.b) in record { x = m.0; y = m.1 }

-- ---- a list's values

-- the first n floats are at most 4
abbrev SoundTo : ℕ → List Float → Type 0
SoundTo n values = (k : ℕ) → k < n → Most 4000 (get_or values k nan)

put : (l : List Float) (i k : ℕ) (v : Float) → i < length l → Most 4000 v → ((k ≡ i → ⊥) → Most 4000 (get_or l k nan))
    → Most 4000 (get_or (set l i v) k nan)
put l i k v h m other = pick (eqb k i) refl
  where
    pick : (t : Bool) → eqb k i ≡ t → Most 4000 (get_or (set l i v) k nan)
    pick true e = subst (λ (z : ℕ). Most 4000 (get_or (set l i v) z nan)) (sym (eqb-true k i e))
        (subst (Most 4000) (sym (get_or-set_same l i v nan h)) m)
    pick false e = subst (Most 4000) (sym (get_or-set_other l i k v nan (eqb-false k i e))) (other (eqb-false k i e))

value_put : (values : List Float) (id k : ℕ) (v : Point) → 2 * id + 1 < length values → PointMost 4000 v
    → ((k ≡ 2 * id → ⊥) → (k ≡ 2 * id + 1 → ⊥) → Most 4000 (get_or values k nan)) → Most 4000 (get_or (set_value values id v) k nan)
unfolding set_value
value_put values id k v h m other =
    put (set values (2 * id) v.x) (2 * id + 1) k v.y (subst (λ (z : ℕ). 2 * id + 1 < z) (sym (length-set values (2 * id) v.x)) h)
    m.y
    (λ n. put values (2 * id) k v.x (omega arith) m.x (λ n'. other n' n))

value_length : (values : List Float) (id : ℕ) (v : Point) → length (set_value values id v) ≡ length values
unfolding set_value
value_length values id v = length-set (set values (2 * id) v.x) (2 * id + 1) v.y ∙ length-set values (2 * id) v.x

-- ---- the seeds of the first n nodes, in lists of so many floats and marks

pub record Seeded (n floats bytes : ℕ) (f : FieldLists) : Type 0 where
  pub values_length : length f.values ≡ floats
  pub marks_length : length f.marks ≡ bytes
  pub sound : (k : ℕ) → k < 2 * n → Most 4000 (get_or f.values k nan)

module _ (o : Outline) (held : OutlineFits o) (accepted : Accepted o) (g : Grid) (floats bytes : ℕ) (room : 2 * (g.ny * g.nx) ≤ floats)
  where
    node_seeded : (j i : ℕ) (f : FieldLists) → i < g.nx → j < g.ny → Seeded (j * g.nx + i) floats bytes f
        → Seeded (j * g.nx + suc i) floats bytes (seed_node o g j i f)
    unfolding seed_node
    node_seeded j i f h l s =
        let id = node_at g i j in
        let p = grid_point g i j in
        let v = seed (tangent (nearest_segment o p).a (nearest_segment o p).b) in
        let m = seed_sound (nearest_segment o p) (nearest_ends o held accepted p) in
        let node : Node g.nx g.ny j i id floats = record { at = refl; column = h; row = l; room = room } in
        record {
          values_length = value_length f.values id v ∙ s.values_length;
          marks_length = length-set f.marks id _ ∙ s.marks_length;
          sound = λ k t. value_put f.values id k v (subst (λ (z : ℕ). 2 * id + 1 < z) (sym s.values_length) (here_in node)) m
              (λ n n'. s.sound k (below k (j * g.nx) i t n n'));
        }
      where
        below : (k b i : ℕ) → k < 2 * (b + suc i) → (k ≡ 2 * (b + i) → ⊥) → (k ≡ 2 * (b + i) + 1 → ⊥) → k < 2 * (b + i)
        below k b i h n n' = omega arith

    row_seeded : (j : ℕ) (f : FieldLists) → j < g.ny → Seeded (j * g.nx) floats bytes f
        → Seeded (suc j * g.nx) floats bytes (seed_row o g j f)
    unfolding seed_row
    row_seeded j f l s =
        subst (λ (n : ℕ). Seeded n floats bytes (for_up g.nx (seed_node o g j) f)) (sym (suc-mul j g.nx))
        (for_up_keeps (λ (i : ℕ) (f : FieldLists). Seeded (j * g.nx + i) floats bytes f) g.nx (seed_node o g j) f
        (subst (λ (n : ℕ). Seeded n floats bytes f) (sym (add-zero (j * g.nx))) s) (λ i f h s. node_seeded j i f h l s))

    pub seeds_sound : (f : FieldLists) → length f.values ≡ floats → length f.marks ≡ bytes
        → Seeded (g.ny * g.nx) floats bytes (seeded o g f)
    unfolding seeded
    seeds_sound f v m =
        for_up_keeps (λ (j : ℕ) (f : FieldLists). Seeded (j * g.nx) floats bytes f) g.ny (seed_row o g) f
        (subst (λ (n : ℕ). Seeded n floats bytes f) (sym (zero-mul g.nx))
        (record { values_length = v; marks_length = m; sound = λ k h. absurd (none k h) }))
        (λ j f l s. row_seeded j f l s)
      where
        none : (k : ℕ) → k < 2 * 0 → ⊥
        none k h = omega arith

-- ---- sweeps

plus_most : {c : ℕ} (there : Bool) (v sum : Point) → T (leb c 20000) → (there ≡ true → PointMost 4000 v) → PointMost c sum
    → PointMost (c + 4010) (plus_if there v sum)
unfolding plus_if
plus_most {c} true v sum t m s = record { x = add s.x (m refl).x; y = add s.y (m refl).y }
  where
    enough : (c : ℕ) → c ≤ 20000 → 10001 * (c + 4000) ≤ 10000 * (c + 4010)
    enough c h = omega arith

    add : {a b : Float} → Most c a → Most 4000 b → Most (c + 4010) (a ⊕ b)
    add p q = most_add (c + 4010) (le→leb c (2 ^ 200) (le_trans (leb→le c 20000 t) (lit≤ tt))) tt (enough c (leb→le c 20000 t)) p q
plus_most {c} false v sum t m s = record { x = most_more (c + 4010) (more c) s.x; y = most_more (c + 4010) (more c) s.y }
  where
    more : (c : ℕ) → c ≤ c + 4010
    more c = omega arith

point_most : (n : ℕ) (values : List Float) (k : ℕ) → SoundTo n values → 2 * k + 1 < n → PointMost 4000 (point_at values k)
unfolding point_at
point_most n values k s h = record { x = s (2 * k) (omega arith); y = s (2 * k + 1) h }

zero_most : Most 0 zero_f
unfolding of_bits W
zero_most = record { sign = false; size = 0; val = (refl, refl); most = lit≤ tt }

sum_most : (g : Grid) (values : List Float) (j i floats : ℕ) → Node g.nx g.ny j i (node_at g i j) floats → SoundTo floats values
    → PointMost 16040 (neighbour_sum g values j i)
unfolding neighbour_sum
sum_most g values j i floats node s =
    let id = node_at g i j in
    let left = plus_most (ltb 0 i) (point_at values (id - 1)) (point zero_f zero_f) tt
    (λ t. point_most floats values (id - 1) s (before id 1 floats (here_in node))) (record { x = zero_most; y = zero_most }) in
    let right = plus_most (ltb (i + 1) g.nx) (point_at values (id + 1)) _ tt (λ t. point_most floats values (id + 1) s (right_in node t))
    left in
    let under = plus_most (ltb 0 j) (point_at values (id - g.nx)) _ tt
    (λ t. point_most floats values (id - g.nx) s (before id g.nx floats (here_in node))) right in
    plus_most (ltb (j + 1) g.ny) (point_at values (id + g.nx)) _ tt (λ t. point_most floats values (id + g.nx) s (over_in node t)) under
  where
    before : (id d n : ℕ) → 2 * id + 1 < n → 2 * (id - d) + 1 < n
    before id d n h = omega arith

-- a node of a grid two nodes wide has a neighbour beside it, and at most four
one_if_le : (b : Bool) → one_if b ≤ 1
one_if_le true = lit≤ tt
one_if_le false = lit≤ tt

count_le : (g : Grid) (j i : ℕ) → neighbour_count g j i ≤ 4
unfolding neighbour_count
count_le g j i =
    let a = one_if_le (ltb 0 i) in
    let b = one_if_le (ltb (i + 1) g.nx) in
    let c = one_if_le (ltb 0 j) in
    let d = one_if_le (ltb (j + 1) g.ny) in omega arith

count_ge : (g : Grid) (j i : ℕ) → 2 ≤ g.nx → 1 ≤ neighbour_count g j i
unfolding neighbour_count
count_ge g j i h = pick (ltb 0 i) refl
  where
    first : (n : ℕ) → i ≤ 0 → 2 ≤ n → i + 1 < n
    first n z h = omega arith

    pick : (t : Bool) → ltb 0 i ≡ t → 1 ≤ one_if t + one_if (ltb (i + 1) g.nx) + one_if (ltb 0 j) + one_if (ltb (j + 1) g.ny)
    pick true e = omega arith
    pick false e = subst (λ (b : Bool). 1 ≤ 0 + one_if b + one_if (ltb 0 j) + one_if (ltb (j + 1) g.ny))
        (sym (lt-ltb (i + 1) g.nx (first g.nx (ltb-false 0 i e) h))) (omega arith)

-- a count from 1 to 4 as a float
count_val : (n : ℕ) → 1 ≤ n → n ≤ 4 → Val (to_float n) false (n * W)
unfolding W of_int
count_val zero h l = absurd (omega arith)
count_val (suc zero) h l = (refl, refl)
count_val (suc (suc zero)) h l = (refl, refl)
count_val (suc (suc (suc zero))) h l = (refl, refl)
count_val (suc (suc (suc (suc zero)))) h l = (refl, refl)
count_val (suc (suc (suc (suc (suc n))))) h l = absurd (omega arith)

share_within : {x : Float} (n : ℕ) → 1 ≤ n → n ≤ 4 → Most 16040 x → Within 4000 (x ⊘ to_float n)
share_within {x} n h l p =
    let b = n * W in
    let above = mul-pos h W-pos in
    let one = le_trans (le_of_eq (sym (one-mul W))) (mul-le-mul_right W h) in
    let q = div_law x (to_float n) p.sign false p.size b p.val (count_val n h l) above (moderate p.size b W p.most one) in
    record {
      sign = _;
      size = q.size;
      val = q.val;
      small =
          le_of_mul-le-mul_right
          (le_trans (share (q.size * b) (p.size * W) b (W * b) (rel_and (q.size * b) (p.size * W) b q.near).0
          (le_trans (mul-le-mul_right W (seventeen p.size W p.most))
          (le_trans (le_of_eq (mul_assoc 17 W W)) (mul-le-mul_left 17 (mul-le-mul_left W one))))
          (subst (λ (z : ℕ). b ≤ z) (mul_comm b W) (le-mul_of_pos_right b W-pos)))
          (le_of_eq (sym (mul_assoc 4000 W b))))
          above;
    }
  where
    seventeen : (a w : ℕ) → 1000 * a ≤ 16040 * w → a ≤ 17 * w
    seventeen a w h = omega arith

    moderate : (a b w : ℕ) → 1000 * a ≤ 16040 * w → w ≤ b → a ≤ 2 ^ 400 * b
    moderate a b w h l = le_trans (le_trans (seventeen a w h) (mul-le-mul_left 17 l)) (mul-le-mul_right b (lit≤ {m = 17} {n = 2 ^ 400} tt))

    share : (n m b z : ℕ) → 10000 * n ≤ 10001 * m + 10000 * b → m ≤ 17 * z → b ≤ z → n ≤ 4000 * z
    share n m b z h l k = omega arith

normalised_sound : (v : Point) → Within 4000 v.x → Within 4000 v.y → PointMost 4000 (normalised v)
unfolding normalised
normalised_sound v p q = pick (lt tolerance (norm v.x v.y)) refl
  where
    most : {x y : Float} → UnitPair x y → PointMost 4000 (point x y)
    most u = record { x = most_more 4000 (lit≤ tt) (unit_first u); y = most_more 4000 (lit≤ tt) (unit_second u) }

    pick : (t : Bool) → lt tolerance (norm v.x v.y) ≡ t
        → PointMost 4000 (cond t (point (v.x ⊘ norm v.x v.y) (v.y ⊘ norm v.x v.y)) (point one_f zero_f))
    pick true e = most (unit_lt p q e)
    pick false e = most unit_one

average_sound : (g : Grid) (values : List Float) (j i floats : ℕ) → 2 ≤ g.nx → Node g.nx g.ny j i (node_at g i j) floats
    → SoundTo floats values → PointMost 4000 (average g values j i)
unfolding average
average_sound g values j i floats wide node s =
    let m = sum_most g values j i floats node s in
    let n = neighbour_count g j i in
    normalised_sound _ (share_within n (count_ge g j i wide) (count_le g j i) m.x)
    (share_within n (count_ge g j i wide) (count_le g j i) m.y)

-- a list of so many floats, all at most 4
pub record SoundList (floats : ℕ) (values : List Float) : Type 0 where
  pub size : length values ≡ floats
  pub sound : (k : ℕ) → k < floats → Most 4000 (get_or values k nan)

module _ (g : Grid) (marks : List ℕ) (floats : ℕ) (wide : 2 ≤ g.nx) (room : 2 * (g.ny * g.nx) ≤ floats) where
  visit_sound : (j i : ℕ) (s : SweptField) → i < g.nx → j < g.ny → SoundList floats s.values
      → SoundList floats (sweep_node g marks j i s).values
  unfolding sweep_node relaxed
  visit_sound j i s h l p = pick (eqb (get_or marks (node_at g i j) 0) 0)
    where
      node : Node g.nx g.ny j i (node_at g i j) floats
      node = record { at = refl; column = h; row = l; room = room }

      v : Point
      v = average g s.values j i

      pick : (t : Bool) → SoundList floats (cond t (relaxed g j i s) s).values
      pick true = record {
        size = value_length s.values (node_at g i j) v ∙ p.size;
        sound = λ k t. value_put s.values (node_at g i j) k v (subst (λ (z : ℕ). 2 * node_at g i j + 1 < z) (sym p.size) (here_in node))
            (average_sound g s.values j i floats wide node p.sound) (λ n n'. p.sound k t);
      }
      pick false = p

  pub sweeps_sound : (n : ℕ) (values : List Float) → SoundList floats values → SoundList floats (sweeps n g marks values)
  sweeps_sound n values p = sweeps_keep (SoundList floats) g marks visit_sound n values p
