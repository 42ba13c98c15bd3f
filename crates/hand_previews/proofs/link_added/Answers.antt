-- `hand_previews::link_added` meets its contract.
use borrow.Author.Tests.{ne_eqb}
use Rattle.hand_previews.proofs.Neighbours.{put_here}
use Rattle.hand_previews.proofs.link_added.Goals as goal

pub returns-then-x-u : goal.returns-then-x-u
returns-then-x-u c = λ g e. put_here g c.args.x c.args.y c.args.u c.if-x-u.true c.requires

pub returns-else-x-u : goal.returns-else-x-u
returns-else-x-u c = λ g e. rw (ne_eqb c.args.x c.args.u c.if-x-u.false) e
