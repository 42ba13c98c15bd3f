-- `cover_entry::sample` meets its contract: `sampled_in`.
use Rattle.std.specs.Prelude.{[]}
use Rattle.outline.specs.Outline.{outline_of}
use Rattle.outline.specs.Accepted.{OutlineFits}
use Rattle.front.specs.State.{counted}
use Rattle.cover_entry.proofs.Steps.{front_room, sampled_in}
use Rattle.cover_entry.proofs.sample.Goals as goal

pub returns : goal.returns
returns c =
    let doubles : OutlineFits (outline_of c.args.domain) = record { outer = λ i h. c.args.domain.doubles.outer i; holes = λ i h. c.args.domain.doubles.holes i } in
    sampled_in (outline_of c.args.domain) c.args.size doubles c.requires.taken c.args.paving.now c.from_boundary.new.paving c.requires.room
    (c.from_boundary.ensures.sampled c.args.paving.now.next.now [] (counted 0 0 0 0)
    (front_room (outline_of c.args.domain) c.args.size doubles c.requires.taken c.args.paving.now c.from_boundary.new.paving c.requires.room))
