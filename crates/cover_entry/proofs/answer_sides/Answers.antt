-- `cover_entry::answer_sides` meets its contract: `found` and `not_found`.
use Rattle.std.proofs.Common.{◌≡◌, refl, sym, ap, ◌∙◌, ℕ, length}
use Rattle.outline.specs.Outline.{outline_of}
use Rattle.books.specs.Book.{start_book}
use Rattle.cover_check.specs.declared.Start.{Start}
use Rattle.cover_check.specs.Check.{covers_answered}
use Rattle.cover_entry.proofs.Steps.{found, not_found}
use Rattle.cover_entry.proofs.answer_sides.Goals as goal

-- as many nodes as the sampled outline has
many : (s : Start) → length s.next.now ≡ length (start_book (outline_of s.domain) s.size).xs
many s = s.sampled.each.0 ∙ ap length s.sampled.first

pub returns-then-wrong-cover : goal.returns-then-wrong-cover
returns-then-wrong-cover c = found 28 _ _ _ c.lowest_wrong-wrong.ensures refl c.if-wrong-cover.true c.refused_at.ensures

pub returns-then-unlaid-nodes : goal.returns-then-unlaid-nodes
returns-then-unlaid-nodes c =
    not_found 28 _ _ _ c.lowest_wrong-wrong.ensures refl c.if-wrong-cover.false
    (found 29 _ _ _ c.lowest_unlaid-unlaid.ensures (many c.args.cover.now.start) c.if-unlaid-nodes.true c.refused_at-then-unlaid-nodes.ensures)

pub returns-then-moved-nodes : goal.returns-then-moved-nodes
returns-then-moved-nodes c =
    not_found 28 _ _ _ c.lowest_wrong-wrong.ensures refl c.if-wrong-cover.false
    (not_found 29 _ _ _ c.lowest_unlaid-unlaid.ensures (many c.args.cover.now.start) c.if-unlaid-nodes.false
    (found 30 _ _ _ c.lowest_moved-moved.ensures (many c.args.cover.now.start) c.if-moved-nodes.true c.refused_at-then-moved-nodes.ensures))

pub returns : goal.returns
returns c =
    not_found 28 _ _ _ c.lowest_wrong-wrong.ensures refl c.if-wrong-cover.false
    (not_found 29 _ _ _ c.lowest_unlaid-unlaid.ensures (many c.args.cover.now.start) c.if-unlaid-nodes.false
    (not_found 30 _ _ _ c.lowest_moved-moved.ensures (many c.args.cover.now.start) c.if-moved-nodes.false (ap (covers_answered 0 0) c.is_sound.ensures)))
