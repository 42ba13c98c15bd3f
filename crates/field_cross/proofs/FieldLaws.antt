-- What refusals 1 to 9 leave of an outline, a size and the places lent: a grid of at most 250,000 nodes, with room for each. Assumes
-- nothing.
use Rattle.std.specs.Prelude.{List, ◌≡◌, refl, ℕ, zero, suc, ◌*◌, ◌/◌, ◌≤◌, ◌<◌, min, T, ltb, length, Float}
use Rattle.std.proofs.Common.{sym, ap, ◌∙◌, subst, zero-le, le_trans, le_of_eq, mul_comm, mul-le-mul_left, mul-le-mul_right, arith, le-ltb, ltb-false}
use Rattle.std.specs.Float.{binary64}
use Rattle.std.specs.Float.Ieee.{fits}
use Rattle.numbers.specs.Float.{◌⊖◌, ◌⊗◌, half_f}
use Rattle.outline.specs.Outline.{Outline, first_of, loop_at, outline_refusal}
use Rattle.outline.specs.Accepted.{cond_zero, first_zero, OutlineFits}
use Rattle.outline.proofs.Accepted.{accepted}
use Rattle.outline_blocks.specs.Blocks.{Drawn}
use Rattle.field_direction.specs.declared.Grid.{Grid}
use Rattle.field_direction.specs.Record.{grid_nodes, most_field_nodes}
use Rattle.field_averages.specs.Places.{FieldRoom}
use Rattle.field_cross.specs.declared.Bounds.{Bounds}
use Rattle.field_cross.specs.Grid.{bounds, spacing, grid_of, size_refusal, bounds_refusal, sweeps_refusal}
use Rattle.field_cross.specs.Field.{places_refusal, drawn_refusal, refusal_for}
use Rattle.field_cross.proofs.Counts.{count_pos}
use Rattle.field_cross.proofs.Box.{Box, box}
use Rattle.field_cross.proofs.SpacingLaws.{few_enough}

pub record FieldUnrefused (o : Outline) (s : Float) (n places : ℕ) : Type 0 where
  pub outline : outline_refusal o ≡ 0
  pub size : size_refusal s ≡ 0
  pub box : bounds_refusal (bounds o) ≡ 0
  pub sweeps : sweeps_refusal n ≡ 0
  pub room : grid_nodes (grid_of (bounds o) s) ≤ places

pub field_unrefused : (o : Outline) (size : Float) (n places : ℕ) → refusal_for o size n places ≡ 0 → FieldUnrefused o size n places
unfolding places_refusal
field_unrefused o size n places e =
    let places_none = places_refusal (grid_of (bounds o) size) places in
    let one = first_zero (outline_refusal o)
    (first_of (size_refusal size) (first_of (bounds_refusal (bounds o)) (first_of (sweeps_refusal n) places_none))) e in
    let five = first_zero (size_refusal size) (first_of (bounds_refusal (bounds o)) (first_of (sweeps_refusal n) places_none)) one.1 in
    let seven = first_zero (bounds_refusal (bounds o)) (first_of (sweeps_refusal n) places_none) five.1 in
    let eight = first_zero (sweeps_refusal n) places_none seven.1 in
    record {
      outline = one.0;
      size = five.0;
      box = seven.0;
      sweeps = eight.0;
      room = ltb-false _ _ (cond_zero (ltb places (grid_nodes (grid_of (bounds o) size))) 8 0 eight.1).0;
    }

-- the growths are enough
pub few : (o : Outline) (size : Float) (b : Bounds) → OutlineFits o → T (fits binary64 size)
    → outline_refusal o ≡ 0 → size_refusal size ≡ 0 → b ≡ bounds o → bounds_refusal b ≡ 0 → grid_nodes (grid_of b size) ≤ most_field_nodes
few o size b doubles held outline e same none =
    few_enough b size (subst Box (sym same) (box o doubles (accepted o outline) (ap bounds_refusal (sym same) ∙ none))) held e

-- with no sweeps and room for every field, 8 and 9 never refuse
pub drawn_is : (o : Outline) (size : Float) → OutlineFits o → T (fits binary64 size) → refusal_for o size 0 most_field_nodes ≡ drawn_refusal o size
unfolding drawn_refusal sweeps_refusal places_refusal
drawn_is o size doubles held = by (outline_refusal o) refl (size_refusal size) refl (bounds_refusal (bounds o)) refl
  where
    last : ℕ
    last = first_of (sweeps_refusal 0) (places_refusal (grid_of (bounds o) size) most_field_nodes)

    by : (p : ℕ) → outline_refusal o ≡ p → (q : ℕ) → size_refusal size ≡ q → (r : ℕ) → bounds_refusal (bounds o) ≡ r
        → first_of p (first_of q (first_of r last)) ≡ first_of p (first_of q r)
    by (suc p) e q f r g = refl
    by zero e (suc q) f r g = refl
    by zero e zero f (suc r) g = refl
    by zero e zero f zero g =
        rw (le-ltb most_field_nodes (grid_nodes (grid_of (bounds o) size)) (few o size (bounds o) doubles held e f refl g)) refl

-- room for each node in both lists
pub field_room_for : (g : Grid) (floats bytes : ℕ) → grid_nodes g ≤ min (floats / 2) bytes → FieldRoom g.nx g.ny floats bytes
field_room_for g floats bytes h = record {
  values = let e = mul_comm g.nx g.ny in omega arith;
  marks =
      let e = mul_comm g.nx g.ny in omega arith;
}

-- and each side is short
pub grid_sides : (b : Bounds) (size : Float) → (2 ≤ (grid_of b size).nx) × (2 ≤ (grid_of b size).ny)
unfolding grid_of
grid_sides b size = (count_pos (b.xmax ⊖ b.xmin) h, count_pos (b.ymax ⊖ b.ymin) h)
  where
    h : Float
    h = spacing (b.xmax ⊖ b.xmin) (b.ymax ⊖ b.ymin) (half_f ⊗ size)

pub short_sides : (b : Bounds) (size : Float) (g : Grid) → g ≡ grid_of b size → grid_nodes (grid_of b size) ≤ most_field_nodes
    → (g.nx ≤ most_field_nodes) × (g.ny ≤ most_field_nodes)
short_sides b size g e h =
    subst (λ (g : Grid). (g.nx ≤ most_field_nodes) × (g.ny ≤ most_field_nodes)) (sym e)
    (let two = grid_sides b size in
    let w = (grid_of b size).nx in
    let n = (grid_of b size).ny in
    (wide w n two.1 h, high w n two.0 h))
  where
    wide : (w n : ℕ) → 2 ≤ n → w * n ≤ most_field_nodes → w ≤ most_field_nodes
    wide w n h l = let m = mul-le-mul_left w h in omega arith

    high : (w n : ℕ) → 2 ≤ w → w * n ≤ most_field_nodes → n ≤ most_field_nodes
    high w n h l = let m = mul-le-mul_right n h in omega arith

-- the same, where no refusal holds
pub few_made : (o : Outline) (size : Float) (n places : ℕ) {b : Bounds} → OutlineFits o → T (fits binary64 size)
    → refusal_for o size n places ≡ 0 → b ≡ bounds o → grid_nodes (grid_of b size) ≤ most_field_nodes
few_made o size n places {b} doubles held none same =
    let u = field_unrefused o size n places none in
    few o size b doubles held u.outline u.size same (ap bounds_refusal same ∙ u.box)

pub room_made : (o : Outline) (size : Float) (n floats bytes : ℕ) {b : Bounds} {g : Grid} → refusal_for o size n (min (floats / 2) bytes) ≡ 0
    → b ≡ bounds o → g ≡ grid_of b size → FieldRoom g.nx g.ny floats bytes
room_made o size n floats bytes {b} {g} none same made =
    field_room_for g floats bytes
    (le_trans (le_of_eq (ap grid_nodes (made ∙ ap (λ (b : Bounds). grid_of b size) same)))
    (field_unrefused o size n (min (floats / 2) bytes) none).room)

-- what the seeds ask besides
pub seeds_ask : (o : Outline) (size : Float) (n floats bytes : ℕ) {b : Bounds} {g : Grid} → OutlineFits o → T (fits binary64 size)
    → refusal_for o size n (min (floats / 2) bytes) ≡ 0 → b ≡ bounds o → g ≡ grid_of b size
    → FieldRoom g.nx g.ny floats bytes × ((g.nx ≤ most_field_nodes) × (g.ny ≤ most_field_nodes))
seeds_ask o size n floats bytes {b} {g} doubles held none same made = (
  room_made o size n floats bytes none same made,
  short_sides b size g made (few_made o size n (min (floats / 2) bytes) doubles held none same),
)

-- the outer loop has a first segment
pub two_points : {o : Outline} {blocks : List ℕ} → Drawn o blocks → 3 < length o.outer
unfolding loop_at
two_points {o} d = let h = (accepted o d.taken).three 0 zero-le in omega arith
