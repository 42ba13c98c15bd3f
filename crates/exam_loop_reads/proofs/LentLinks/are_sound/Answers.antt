-- `LentLinks::are_sound` meets its contract: the library's `all` of the nodes.
use Rattle.std.proofs.Common.{◌∙◌, rules, tests, arith}
use Rattle.std.proofs.lemmas.Iterator.{YieldsList-from_range}
use Rattle.std.proofs.lemmas.Iterator.Search.{all_from_yields_List}
use Rattle.laws.proofs.Ranges.{all_ranged}
use Rattle.exam_loops.specs.Loops.{are_paired, links_sound}
use Rattle.exam_loop_reads.proofs.LentLinks.are_sound.Goals as goal

pub returns : goal.returns
unfolding links_sound
returns c =
    let s = c.args.self.now in
    let test = are_paired s.nodes s.next.now s.prev.now in
    all_from_yields_List test _ _ _ c.all.ensures.ran (YieldsList-from_range 0 s.nodes s.nodes (cc) (omega arith)) (λ x b q k. search (rules, tests))
    ∙ all_ranged test s.nodes
