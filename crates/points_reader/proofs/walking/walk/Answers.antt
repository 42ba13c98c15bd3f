-- `points_reader::walk` meets its contract.
use Rattle.std.specs.Prelude.{slice_range, length}
use Rattle.std.proofs.Common.{arith, ap, sym, ◌∙◌, subst}
use Rattle.points_reader.specs.declared.reading.Reader.{Reader}
use Rattle.points_reader.specs.Counts.{Counted}
use Rattle.points_reader.proofs.Even.{line_more}
use Rattle.points_reader.proofs.Steps.{walked_none, walked_plain, walked_second, walked_line, last_held, whole}
use Rattle.points_reader.proofs.walking.walk.Goals as goal

pub loop-i-init : goal.loop-i-init
loop-i-init c = walked_none _ _ _ _ _ _ _ c.requires.new

pub loop-i-preserved-then-not-is_end : goal.loop-i-preserved-then-not-is_end
loop-i-preserved-then-not-is_end c = walked_plain _ _ _ c.loop-i.invariant c.loop-i-test.true (sym c.is_end.ensures ∙ c.if-not-is_end.true)

pub loop-i-preserved-then-is_second : goal.loop-i-preserved-then-is_second
loop-i-preserved-then-is_second c =
    walked_second _ _ _ c.loop-i.invariant c.loop-i-test.true (sym c.is_end.ensures ∙ c.if-not-is_end.false) (sym c.is_second.ensures ∙ c.if-is_second.true)

pub loop-i-preserved : goal.loop-i-preserved
loop-i-preserved c =
    let r = c.read_line.ensures in
    walked_line _ _ _ c.loop-i.invariant c.loop-i-test.true (sym c.is_end.ensures ∙ c.if-not-is_end.false) (sym c.is_second.ensures ∙ c.if-is_second.false)
    r.reader r.points r.lines r.lengths r.marks

pub end_loop-requires : goal.end_loop-requires
end_loop-requires c =
    let r = c.read_line-2.ensures in
    let x = last_held _ _ _ _ _ _ _ c.loop-i.invariant c.loop-i-test.false r.reader r.points r.lines r.lengths r.marks in (
      subst Counted (sym x.reader) x.counted,
      omega (arith, c.loop-i.invariant.line, c.loop-i.invariant.within, c.requires.fits, ap (λ (u : Reader). u.line) r.reader, line_more c.args.separator (slice_range c.args.text.now c.loop-i.from (length c.args.text.now)) c.loop-i.from c.loop-i.reader),
    )

pub returns : goal.returns
returns c =
    let r = c.read_line-2.ensures in
    let e = c.end_loop.ensures in
    let x = last_held _ _ _ _ _ _ _ c.loop-i.invariant c.loop-i-test.false r.reader r.points r.lines r.lengths r.marks in
    let y = whole _ _ _ _ _ _ _ x e.reader e.points e.lines e.lengths e.marks in
    record { reader = y.reader; points = y.points_are; lines = y.lines_are; lengths = y.lengths_are; marks = y.marks_are }
