-- Bowl steps: the areas in whole steps balance against the stepped starting front, just as the floats' do, whether or not 25 refuses the mesh. It follows from the edges'
-- figures by the law that gives the floats' areas too; the definitions are the same with the nearest step in place of the units.
use Rattle.std.specs.Prelude.{◌≡◌, ℕ, ◌+ℤ◌, Float}
use Rattle.std.proofs.Math.Option.{some}
use Rattle.outline.specs.Outline.{Outline}
use Rattle.front.specs.State.{State}
use Rattle.books.specs.Book.{Book, start_book, book_after, front_area, quads_area}
use Rattle.bowl_nearest_step.specs.Step.{nearest_step}

-- after k quads that s answers
pub record StepsBalance (o : Outline) (size : Float) (s : State) (k : ℕ) : Type 0 where
  pub book : Book
  pub steps : book_after o size s k ≡ some book
  -- in steps, the start's area is the sum of the quads' and of the front left
  pub areas : front_area nearest_step (start_book o size) ≡ quads_area nearest_step book s k +ℤ front_area nearest_step book
