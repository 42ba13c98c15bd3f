-- `replay::compare` meets its contract: where the common part doesn't differ, the lengths decide.
use Rattle.std.proofs.Common.{◌≡◌, sym, ap, ◌∙◌, not, true, false, true≢false, length}
use Rattle.std.specs.Prelude.{is_some}
use Rattle.replay.proofs.Places.{place_found, place_cut}
use Rattle.replay.proofs.compare.Goals as goal
use Rattle.replay.proofs.compare.Goals.{else-is_none-via-then-is_none+else-a-b, else-is_none-via-else-is_none}

pub returns-then-a-b : goal.returns-then-a-b
returns-then-a-b c = place_cut _ _ c.first_unlike-place.ensures (c.is_none.ensures ∙ ap not c.if-is_none.true) c.if-a-b.true c.min.ensures

pub returns : goal.returns
returns c =
    let even : is_some c.first_unlike-place.result ≡ false → length c.args.a.now ≡ length c.args.b.now = elim c.else-is_none.branch [
      | else-is_none-via-then-is_none+else-a-b w ↦ λ none. w.if-a-b.false
      | else-is_none-via-else-is_none w ↦ λ none. absurd (true≢false (ap not (sym w.if-is_none.false) ∙ sym c.is_none.ensures ∙ none))
    ] in
    place_found _ _ c.first_unlike-place.ensures even
