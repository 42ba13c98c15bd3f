-- The words of a row lie within what has been read of it.
use Rattle.std.specs.Prelude.{ℕ, ◌+◌, ◌≤◌, Bool, true, false, cond, ◌==◌}
use Rattle.std.proofs.Common.{arith}
use Rattle.points_text.specs.declared.Span.{Span}
use Rattle.points_text.specs.declared.Cells.{Cells}
use Rattle.points_text.specs.Words.{is_empty, is_blank, no_cells, cell_ended, letter_read, cell_turn}
use Rattle.points_text.specs.Bounds.{SpanFits, CellsFit}

wider : {n m : ℕ} {w : Span} → n ≤ m → SpanFits n w → SpanFits m w
wider h f = record { order = f.order; within = omega (arith, f.within) }

either : (n : ℕ) (b : Bool) (v w : Span) → SpanFits n v → SpanFits n w → SpanFits n (cond b v w)
either n true v w f g = f
either n false v w f g = g

pub fits_none : CellsFit 0 no_cells
unfolding no_cells
fits_none = record { word = record { order = omega arith; within = omega arith }; x = record { order = omega arith; within = omega arith }; y = record { order = omega arith; within = omega arith } }

pub fits_ended : {n : ℕ} {c : Cells} → CellsFit n c → CellsFit n (cell_ended c)
unfolding cell_ended
fits_ended {n} {c} f = record { word = f.word; x = either n (c.count == 0) c.word c.x f.word f.x; y = either n (c.count == 1) c.word c.y f.word f.y }

begin_fits : (b : Bool) (i begin end : ℕ) → begin ≤ end → end ≤ i → cond b i begin ≤ i + 1
begin_fits true i begin end h k = omega arith
begin_fits false i begin end h k = omega arith

choose : (n : ℕ) (b : Bool) (c d : Cells) → CellsFit n c → CellsFit n d → CellsFit n (cond b c d)
choose n true c d f g = f
choose n false c d f g = g

pub fits_next : (separator b i : ℕ) (c : Cells) → CellsFit i c → CellsFit (i + 1) (cell_turn separator b i c)
unfolding cell_turn letter_read
fits_next separator b i c f =
    let step : i ≤ i + 1 = omega arith in
    let ended : CellsFit i (cell_ended c) = fits_ended f in
    choose (i + 1) (b == separator) _ _
    (record { word = record { order = omega arith; within = omega arith }; x = wider step ended.x; y = wider step ended.y })
    (choose (i + 1) (is_blank b) _ _
    (record { word = wider step f.word; x = wider step f.x; y = wider step f.y })
    (record {
      word = record { order = begin_fits (is_empty c.word) i c.word.begin c.word.end f.word.order f.word.within; within = omega arith };
      x = wider step f.x;
      y = wider step f.y;
    }))

-- a cell more at most
count_either : (b : Bool) (c d : Cells) (n : ℕ) → c.count ≤ n → d.count ≤ n → (cond b c d).count ≤ n
count_either true c d n h k = h
count_either false c d n h k = k

pub count_next : (separator b i : ℕ) (c : Cells) → c.count ≤ i → (cell_turn separator b i c).count ≤ i + 1
unfolding cell_turn cell_ended letter_read
count_next separator b i c h =
    count_either (b == separator) _ _ (i + 1) (omega arith) (count_either (is_blank b) _ _ (i + 1) (omega arith) (omega arith))
