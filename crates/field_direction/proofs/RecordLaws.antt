-- What refusal 11 leaves: counts and lengths that the functions over a record's values ask. Assumes nothing.
use Rattle.std.specs.Prelude.{◌≡◌, refl, Bool, true, false, not, ◌&&◌, cond, ℕ, T, leb, eqb, length}
use Rattle.std.proofs.Common.{le_of_eq, arith, leb-true, eqb-true}
use Rattle.laws.specs.Tests.{both}
use Rattle.outline.specs.declared.Point.{Point}
use Rattle.outline.specs.Accepted.{first_zero}
use Rattle.outline.specs.Outline.{any_float, point_refusal}
use Rattle.field_direction.specs.Record.{most_field_nodes, grid_nodes, FieldRecord}
use Rattle.field_direction.specs.Direction.{counts_sound, grid_sound, value_unsound, record_refusal, direction_refusal}
use Rattle.field_direction.specs.Cells.{FieldLent}

pub true_of : (b : Bool) → T b → b ≡ true
true_of true t = refl
true_of false t = absurd t

sound_of : (a b : Bool) → ◌≡◌ {A = ℕ} (cond (a && b) 0 11) 0 → a ≡ true
sound_of true b e = refl
sound_of false b e = absurd (let z : ◌≡◌ {A = ℕ} 11 0 = e in omega arith)

pub counts_lent : (r : FieldRecord) → counts_sound r ≡ true → FieldLent r.grid r.lists.values
unfolding counts_sound
counts_lent r e =
    let columns = both (leb 2 r.grid.nx) _ e in
    let rows = both (leb 2 r.grid.ny) _ columns.1 in
    let few = both (leb (grid_nodes r.grid) most_field_nodes) _ rows.1 in
    let room = both (eqb (grid_nodes r.grid) (length r.lists.marks)) _ few.1 in
    record {
      columns = leb-true _ _ columns.0;
      rows = leb-true _ _ rows.0;
      few = leb-true _ _ few.0;
      room = le_of_eq (eqb-true _ _ room.1);
    }

pub record_lent_lem : (r : FieldRecord) → record_refusal r ≡ 0 → FieldLent r.grid r.lists.values
unfolding record_refusal
record_lent_lem r e =
    counts_lent r (sound_of (counts_sound r) (grid_sound r.grid && not (any_float value_unsound r.lists.values)) e)

pub direction_lent : (r : FieldRecord) (p : Point) → direction_refusal r p ≡ 0 → FieldLent r.grid r.lists.values
unfolding direction_refusal
direction_lent r p e = record_lent_lem r (first_zero (record_refusal r) (point_refusal p) e).0
