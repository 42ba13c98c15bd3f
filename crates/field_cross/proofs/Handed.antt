-- What `field` answers is never refused by 11, when exactly its nodes are lent: a host can hand a field straight to the direction query.
-- Assumes nothing.
use Rattle.std.specs.Prelude.{◌≡◌, refl, Bool, true, false, not, List, ℕ, ◌+◌, ◌*◌, ◌^◌, ◌≤◌, ◌<◌, T, length, get_or, Float}
use Rattle.std.proofs.Common.{sym, ap, subst, le_of_eq, mul_comm, arith, le-leb, eq-eqb, le→leb, lit≤}
use Rattle.std.specs.Float.{nan, binary64}
use Rattle.std.specs.Float.Ieee.{fits, le, of_bits}
use Rattle.laws.specs.Loop.{any_up, any_turn, for_up_keeps}
use Rattle.numbers.specs.Float.{◌⊖◌, ◌⊗◌, four_f, half_f, is_finite, abs_f}
use Rattle.exact.specs.Units.{W, Val, finite_val, abs_val, Within}
use Rattle.exact.proofs.Order.{le_val}
use Rattle.exact.proofs.Operations.{sub_law}
use Rattle.exact.proofs.SineBounds.{rel}
use Rattle.outline.specs.Outline.{Outline, any_float}
use Rattle.outline.specs.Accepted.{OutlineFits}
use Rattle.outline.proofs.Accepted.{accepted}
use Rattle.field_direction.specs.Record.{grid_nodes, most_field_nodes, FieldLists, FieldRecord}
use Rattle.field_direction.specs.Direction.{least_spacing, most_spacing, most_origin, within, counts_sound, grid_sound, value_unsound}
use Rattle.field_direction.specs.Direction.{record_refusal}
use Rattle.field_direction.proofs.RecordLaws.{true_of}
use Rattle.field_sweeps.specs.Sweeps.{sweeps}
use Rattle.field_cross.specs.declared.Bounds.{Bounds}
use Rattle.field_cross.specs.Grid.{bounds, grid_of, size_refusal}
use Rattle.field_cross.specs.Seeds.{seeded}
use Rattle.field_cross.specs.Field.{field_places, field_refusal, field_of}
use Rattle.field_cross.proofs.Box.{Box, box}
use Rattle.field_cross.proofs.SpacingLaws.{GrownSpacing, spacing_held, start_size}
use Rattle.field_cross.proofs.FieldLaws.{field_unrefused, few_made, grid_sides}
use Rattle.field_cross.proofs.Unit.{Most}
use Rattle.field_cross.proofs.Sound.{seeds_sound, SoundList, sweeps_sound}

-- ---- tests that hold

within_true : (m x : Float) (K : ℕ) (s : Bool) (a : ℕ) → Val m false (K * W) → Val x s a → a ≤ K * W → within m x ≡ true
unfolding within
within_true m x K s a v w h =
    rw (true_of (is_finite x) (finite_val x s a w))
    (true_of (le (abs_f x) m) ((le_val (abs_f x) m false false a (K * W) (abs_val x s a w) v).1 (record { le = le→leb a (K * W) h })))

four_val : Val four_f false (4 * W)
unfolding W of_bits
four_val = (refl, refl)

sound_within : {x : Float} → Most 4000 x → value_unsound x ≡ false
sound_within {x} p = ap not (within_true four_f x 4 p.sign p.size four_val p.val (four p.size W p.most))
  where
    four : (a w : ℕ) → 1000 * a ≤ 4000 * w → a ≤ 4 * w
    four a w h = omega arith

none_unsound : (values : List Float) → SoundList (length values) values → any_float value_unsound values ≡ false
unfolding any_float any_up
none_unsound values s =
    for_up_keeps (λ (i : ℕ) (b : Bool). b ≡ false) (length values) (any_turn (λ (i : ℕ). value_unsound (get_or values i nan))) false refl
    (λ i b h e. rw (e, sound_within (s.sound i h)))

-- ---- the grid's floats

-- 0.001 is the float 1152921504606847 / 2 ^ 60
least_spacing_units : ℕ
least_spacing_units = 1152921504606847 * 2 ^ 1014

least_spacing_val : Val least_spacing false least_spacing_units
unfolding W of_bits least_spacing_units
least_spacing_val = (refl, refl)

least_spacing_small : 1000 * least_spacing_units ≤ 2 * W
unfolding W least_spacing_units
least_spacing_small = lit≤ tt

most_spacing_val : Val most_spacing false (1000 * W)
unfolding W of_bits
most_spacing_val = (refl, refl)

most_origin_val : Val most_origin false (2000 * W)
unfolding W of_bits
most_origin_val = (refl, refl)

-- moved by a spacing of at most 200
origin_within : (x h : Float) → Within 1000 x → GrownSpacing 0 h → within most_origin (x ⊖ h) ≡ true
origin_within x h p g =
    let r = sub_law {K = 1000} {L = 200} p (record { sign = false; size = g.size; val = g.val; small = g.high }) tt tt in
    within_true most_origin (x ⊖ h) 2000 r.sign r.size most_origin_val r.val
    (bound r.size r.exact p.size g.size W (rel r.size r.exact r.near).0 r.small p.small g.high)
  where
    bound : (n m a b w : ℕ) → 10000 * n ≤ 10001 * m → m ≤ a + b → a ≤ 1000 * w → b ≤ 200 * w → n ≤ 2000 * w
    bound n m a b w h l p q = omega arith

least_true : (h : Float) → GrownSpacing 0 h → le least_spacing h ≡ true
least_true h g = true_of (le least_spacing h)
    ((le_val least_spacing h false false least_spacing_units g.size least_spacing_val g.val).1
    (record { le = le→leb least_spacing_units g.size (bound least_spacing_units g.size W least_spacing_small g.floor) }))
  where
    bound : (u b w : ℕ) → 1000 * u ≤ 2 * w → 4000 * w ≤ b * 1000000 → u ≤ b
    bound u b w h l = omega arith

most_true : (h : Float) → GrownSpacing 0 h → le h most_spacing ≡ true
most_true h g = true_of (le h most_spacing)
    ((le_val h most_spacing false false g.size (1000 * W) g.val most_spacing_val).1
    (record { le = le→leb g.size (1000 * W) (bound g.size W g.high) }))
  where
    bound : (b w : ℕ) → b ≤ 200 * w → b ≤ 1000 * w
    bound b w h = omega arith

grid_sound_lem : (b : Bounds) (size : Float) → Box b → T (fits binary64 size) → size_refusal size ≡ 0 → grid_sound (grid_of b size) ≡ true
unfolding grid_sound grid_of
grid_sound_lem b size x held e =
    let g = (spacing_held (b.xmax ⊖ b.xmin) (b.ymax ⊖ b.ymin) x.width x.height (half_f ⊗ size) (start_size size held e)).0 in
    rw (true_of (is_finite _) (finite_val _ false g.size g.val), least_true _ g, most_true _ g, origin_within b.xmin _ x.xmin g)
    (origin_within b.ymin _ x.ymin g)

-- ---- the record

counts_true : (r : FieldRecord) → 2 ≤ r.grid.nx → 2 ≤ r.grid.ny → grid_nodes r.grid ≤ most_field_nodes
    → grid_nodes r.grid ≡ length r.lists.marks
    → 2 * grid_nodes r.grid ≡ length r.lists.values → counts_sound r ≡ true
unfolding counts_sound
counts_true r columns rows few marks values = rw (le-leb _ _ columns, le-leb _ _ rows, le-leb _ _ few, eq-eqb _ _ marks) (eq-eqb _ _ values)

record_true : (r : FieldRecord) → counts_sound r ≡ true → grid_sound r.grid ≡ true → any_float value_unsound r.lists.values ≡ false
    → record_refusal r ≡ 0
unfolding record_refusal
record_true r counts grid values = rw (counts, grid, values)

pub field_handed : (o : Outline) (size : Float) (n : ℕ) (f : FieldLists) → OutlineFits o → T (fits binary64 size)
    → field_refusal o size n f ≡ 0
    → length f.values ≡ 2 * grid_nodes (grid_of (bounds o) size) → length f.marks ≡ grid_nodes (grid_of (bounds o) size)
    → record_refusal (field_of o size n f) ≡ 0
unfolding field_refusal field_of
field_handed o size n f held double none values marks =
    let b = bounds o in
    let g = grid_of b size in
    let u = field_unrefused o size n (field_places f) none in
    let a = accepted o u.outline in
    let two = grid_sides b size in
    let turned = mul_comm g.nx g.ny in
    let room : 2 * (g.ny * g.nx) ≤ 2 * grid_nodes g = le_of_eq (ap (λ (z : ℕ). 2 * z) (sym turned)) in
    let s = seeds_sound o held a g (2 * grid_nodes g) (grid_nodes g) room f values marks in
    let start : SoundList (2 * grid_nodes g) (seeded o g f).values =
    record { size = s.values_length; sound = λ k h. s.sound k (subst (λ (z : ℕ). k < 2 * z) turned h) } in
    let end = sweeps_sound g (seeded o g f).marks (2 * grid_nodes g) two.0 room n (seeded o g f).values start in
    record_true (field_of o size n f)
    (counts_true (field_of o size n f) two.0 two.1 (few_made o size n (field_places f) held double none refl) (sym s.marks_length)
    (sym end.size))
    (grid_sound_lem b size (box o held a u.box) double u.size)
    (none_unsound (sweeps n g (seeded o g f).marks (seeded o g f).values)
    (subst (λ (z : ℕ). SoundList z (sweeps n g (seeded o g f).marks (seeded o g f).values)) (sym end.size) end))
