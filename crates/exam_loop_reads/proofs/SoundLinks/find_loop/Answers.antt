-- `SoundLinks::find_loop` meets its contract: entry k of the loops found from each node in turn.
use Rattle.std.proofs.Common.{rules, tests, arith}
use Rattle.std.proofs.lemmas.Iterator.{YieldsList-from_range}
use Rattle.std.proofs.lemmas.Iterator.Consumers.{YieldsList-from_filter_map, nth_from_yields_List}
use Rattle.topology.specs.Links.{link_of}
use Rattle.exam_loop_reads.specs.Code.{long_from}
use Rattle.exam_loop_reads.proofs.Numbered.{nth_found}
use Rattle.exam_loop_reads.proofs.SoundLinks.find_loop.Goals as goal

pub returns : goal.returns
returns c =
    let links = c.args.self.now.links in
    let f = link_of links.nodes links.next.now in
    nth_found f links.nodes c.args.k c.nth.result
    (nth_from_yields_List c.nth.result c.nth.new.self c.args.k c.nth.ensures.ran
    (YieldsList-from_filter_map _ (long_from f links.nodes) (YieldsList-from_range 0 links.nodes links.nodes (cc) (omega arith)) c.filter_map.ensures.closure
    (λ x r q k. search (rules, tests))))
