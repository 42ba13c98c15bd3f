-- One placing of a run: a sound state stays sound.
use Rattle.std.specs.Prelude.{ℕ, List, Float}
use Rattle.outline.specs.Outline.{Outline}
use Rattle.front.specs.declared.Corner.{Corner}
use Rattle.front.specs.State.{State}
use Rattle.front.specs.Place.{place}
use Rattle.front.specs.Sound.{Sound}
use Rattle.front.proofs.Step as front
pub use Rattle.front.proofs.Step.{Stepped}
use Rattle.paving.specs.Reach.{Placement}
use Rattle.books.proofs.Answered.{answered}

-- the placing of an answered quad on a sound state
pub answered_step : (n : ℕ) (s : State) (ls : List (List ℕ)) (o : Outline) (size : Float) (a b : ℕ) (c d : Corner) → Sound n s ls
    → Placement o size s a b c d → Stepped n s ls a b c d (place a b c d s)
answered_step n s ls o size a b c d S P = front.step n s ls a b c d S (answered o size s a b c d P).choice P.fits
