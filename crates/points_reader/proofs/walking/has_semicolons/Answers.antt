-- `points_reader::has_semicolons` meets its contract.
use Rattle.std.specs.Prelude.{◌≡◌, ◌+◌, Bool, true, false, not, ◌&&◌, ◌==◌, get_or, ℕ, List}
use Rattle.std.proofs.Common.{refl, ap, sym, ◌∙◌, add-one}
use Rattle.laws.specs.Loop.{for_up, scan_start, scan_next, scan_hit, scan_none}
use Rattle.points_reader.specs.Walking.{separates, has_semicolons, commented, in_comment}
use Rattle.points_reader.proofs.walking.has_semicolons.Goals as goal

commented_next : (text : List ℕ) (i : ℕ) {c d : Bool} → d ≡ in_comment (get_or text i 0) c → c ≡ commented text i → d ≡ commented text (i + 1)
unfolding commented for_up
commented_next text i e f = rw add-one (e ∙ ap (in_comment (get_or text i 0)) f)

test : (text : List ℕ) (i : ℕ) {c s : Bool} (v : Bool) → s ≡ (get_or text i 0 == 59 && not c) → c ≡ commented text i → s ≡ v → separates text i ≡ v
test text i v e f g = sym (ap (λ (b : Bool). get_or text i 0 == 59 && not b) f) ∙ sym e ∙ g

pub loop-i-init : goal.loop-i-init
unfolding commented for_up
loop-i-init c = (scan_start _ _, refl)

pub loop-i-preserved : goal.loop-i-preserved
loop-i-preserved c =
    let i = c.loop-i.invariant in
    (scan_next _ i.0 c.loop-i-test.true (test _ _ false c.separates.ensures i.1 c.if-separates.false), commented_next _ _ c.in_comment-comment.ensures i.1)

pub returns-then-separates : goal.returns-then-separates
unfolding has_semicolons
returns-then-separates c =
    let i = c.loop-i.invariant in
    scan_hit _ i.0 c.loop-i-test.true (test _ _ true c.separates.ensures i.1 c.if-separates.true)

pub returns : goal.returns
unfolding has_semicolons
returns c = scan_none _ c.loop-i.invariant.0 c.loop-i-test.false
