-- `points_reader::has_tabs` meets its contract.
use Rattle.std.specs.Prelude.{◌≡◌, ℕ, ◌+◌, ◌≤◌, ◌<◌, Bool, true, false, ◌||◌, List, length, get_or, slice_range}
use Rattle.std.proofs.Common.{ap, sym, ◌∙◌, subst, arith}
use Rattle.laws.specs.Loop.{Loop, loop_start_lem, loop_next, loop_end}
use Rattle.points_text.specs.Words.{is_tabbed}
use Rattle.points_text.specs.Lines.{row_of}
use Rattle.points_reader.specs.Walking.{Tabs, tabs, tabs_turn, tabs_found, has_tabs, is_end}
use Rattle.points_reader.proofs.walking.has_tabs.Goals as goal

module _ (text : List ℕ) where
  abbrev Scanned : ℕ → ℕ → Bool → Type 0
  Scanned i from found = Loop (tabs_turn text) (tabs 0 false) (length text) i (tabs from found)

  plain : (i : ℕ) (t : Tabs) → is_end (get_or text i 0) ≡ false → tabs_turn text i t ≡ t
  unfolding tabs_turn
  plain i t e = rw e

  ended : (i : ℕ) (t : Tabs) → is_end (get_or text i 0) ≡ true → tabs_turn text i t ≡ tabs (i + 1) (tabs_found text i t)
  unfolding tabs_turn
  ended i t e = rw e

  module _ {i from : ℕ} {found : Bool} (l : Scanned i from found) (h : i < length text) where
    next_plain : is_end (get_or text i 0) ≡ false → Scanned (i + 1) from found
    next_plain e = subst (Loop (tabs_turn text) (tabs 0 false) (length text) (i + 1)) (plain i _ e) (loop_next _ _ l h)

    next_ended : {b : Bool} → is_end (get_or text i 0) ≡ true → b ≡ (found || is_tabbed (row_of (slice_range text from i))) → Scanned (i + 1) (i + 1) b
    next_ended {b} e f =
        subst (Loop (tabs_turn text) (tabs 0 false) (length text) (i + 1)) (ended i _ e ∙ ap (tabs (i + 1)) (sym f)) (loop_next _ _ l h)

  all_tabs : {i from : ℕ} {found b : Bool} → Scanned i from found → length text ≤ i → b ≡ (found || is_tabbed (row_of (slice_range text from (length text))))
      → b ≡ has_tabs text
  unfolding has_tabs
  all_tabs l h e = e ∙ ap (tabs_found text (length text)) (loop_end _ _ l h)

pub loop-i-init : goal.loop-i-init
loop-i-init c = (loop_start_lem _ _ _, omega arith)

pub loop-i-preserved-then-not-is_end : goal.loop-i-preserved-then-not-is_end
loop-i-preserved-then-not-is_end c =
    (next_plain _ c.loop-i.invariant.0 c.loop-i-test.true (sym c.is_end.ensures ∙ c.if-not-is_end.true), omega (arith, c.loop-i.invariant.1))

pub loop-i-preserved : goal.loop-i-preserved
loop-i-preserved c =
    (next_ended _ c.loop-i.invariant.0 c.loop-i-test.true (sym c.is_end.ensures ∙ c.if-not-is_end.false) c.is_tabbed-found.ensures, omega arith)

pub returns : goal.returns
returns c = all_tabs _ c.loop-i.invariant.0 c.loop-i-test.false c.is_tabbed.ensures
