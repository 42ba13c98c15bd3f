-- `run_sampled_advance::sample_and_advance` meets its contract: the refusals give what the two calls ask. Assumes nothing.
use Rattle.std.specs.Prelude.{List, ◌≡◌, ℕ}
use Rattle.std.proofs.Common.{◌∙◌, ap}
use Rattle.front.specs.declared.Paving.{Paving}
use Rattle.front.specs.Lent.{paving_state}
use Rattle.front.specs.Sampling.{from_boundary}
use Rattle.front.proofs.Lent.{lists_trans}
use Rattle.front_boundary.specs.Laying.{SameRoom, lent_with}
use Rattle.front_boundary.proofs.Progress.{can_sample}
use Rattle.paving.specs.Advance.{advance}
use Rattle.paving.specs.Lent.{outline_in, field_in}
use Rattle.run_sampled_advance.specs.Asked.{unused, unsampled}
use Rattle.run_sampled_advance.proofs.Laws.{paveable_at}
use Rattle.run_sampled_advance.proofs.sample_and_advance.Goals as goal
use Rattle.run_sampled_advance.proofs.sample_and_advance.Goals.{Start}

-- the state that is sampled, whose quads are those lent
sampled : (s : Start) {q : Paving} → SameRoom s.args.paving.now q
    → lent_with q s.args.snapshot.now s.args.paving.now.quads.now q.counts
    ≡ from_boundary (outline_in s.args.around.now) s.args.around.now.size (unsampled s.args.paving.now s.args.snapshot.now)
    → paving_state q s.args.snapshot.now
    ≡ from_boundary (outline_in s.args.around.now) s.args.around.now.size (unsampled s.args.paving.now s.args.snapshot.now)
sampled s {q} R e = ap (λ (quads : List ℕ). lent_with q s.args.snapshot.now quads q.counts) R.quads ∙ e

pub from_boundary-requires : goal.from_boundary-requires
from_boundary-requires c =
    can_sample (outline_in c.args.around.now) c.args.around.now.size (unsampled c.args.paving.now c.args.snapshot.now) c.requires.drawn.taken c.requires.front

pub advance-requires : goal.advance-requires
advance-requires c =
    let s = (goal.at.advance-requires c).Start in
    paveable_at _ _ _ _ _ _ c.requires _
    (sampled s c.from_boundary.ensures.room (c.from_boundary.ensures.sampled c.args.snapshot.now c.args.paving.now.quads.now unused c.requires.front))

pub returns : goal.returns
returns c =
    let s = (goal.at.returns c).Start in
    let t = c.advance.ensures in
    record {
      same_lists = lists_trans c.from_boundary.ensures.room.lists t.same_lists;
      same_scratch = t.same_scratch;
      advances = t.advances
          ∙ ap (advance (outline_in c.args.around.now) c.args.around.now.size (field_in c.args.around.now) c.args.passes)
          (sampled s c.from_boundary.ensures.room (c.from_boundary.ensures.sampled c.args.snapshot.now c.args.paving.now.quads.now unused c.requires.front));
    }
