-- `file_outline::read_head` meets its contract: what the calls ensure makes it up.
use Rattle.file_outline.specs.ReadLaws.{head_made}
use Rattle.file_outline.proofs.read_head.Goals as goal

pub returns : goal.returns
returns c =
    head_made _ c.float_at.ensures (rw c.from.ensures c.number_at-2.ensures) (rw c.from-2.ensures c.number_at-3.ensures)
    (rw c.from-loops.ensures c.number_at.ensures) (rw c.from-3.ensures c.number_at-4.ensures)
    c.head_points.ensures
