-- THE THEOREM of hand stepping: the exact books hold of every hand-stepped sequence that begins with a sampled outline, and 23 refuses none of its meshes.
use Rattle.std.specs.Prelude.{List, ◌≡◌, Float}
use Rattle.outline.specs.Outline.{Outline}
use Rattle.field_direction.specs.Record.{FieldRecord}
use Rattle.front.specs.State.{State}
use Rattle.front.specs.Sampling.{from_boundary}
use Rattle.books.specs.Holds.{BooksHold}
use Rattle.books_hold.specs.Demanded.{Demanded, as_demanded}
use Rattle.books_hold.specs.Runs.{AcceptedRun}
use Rattle.books_hold.proofs.Runs.{reached_holds}
use Rattle.hand_mesh_check.specs.Check.{mesh_refusal}
use Rattle.books_hand.specs.Moves.{Move, moves_on}
use Rattle.books_hand.proofs.Unrefused.{reached_unrefused}
use Rattle.books_hand.specs.MoveLaws.{FromOutline, from_outline}
use Rattle.books_hand.proofs.MoveLaws.{moves_kept}

-- Take any outline, any size and any lists of which nothing is refused, any field, and any list of moves: steps on named edges, be they on the front or
-- not, and automatic passes between them. A sequence of hand steps is one whose moves are all `named`. Since it holds for every list, it holds after every
-- move; and `BooksHold` itself speaks of the moment before the first quad, of that after each, and of where the sequence stops.
module _ (o : Outline) (size : Float) (lent : State) (A : AcceptedRun o size lent) (field : FieldRecord) (ms : List Move) where
  abbrev left : State
  left = moves_on o size field ms (from_boundary o size lent)

  kept : FromOutline o size left
  kept = moves_kept o size field ms (from_boundary o size lent) (from_outline o size lent A)

  -- the exact books hold, the reference making its attempts on the edges named
  pub sequence_holds : BooksHold o size left
  sequence_holds = reached_holds o size kept.lent kept.accepted kept.reached.by

  -- in the words in which the books were asked for
  pub sequence_demanded : Demanded o size left
  sequence_demanded = as_demanded o size left sequence_holds

  -- and 23 doesn't refuse the mesh left, so no step of such a sequence is refused with it
  pub sequence_sound : mesh_refusal left ≡ 0
  sequence_sound = reached_unrefused o size kept.lent kept.accepted kept.reached.by
