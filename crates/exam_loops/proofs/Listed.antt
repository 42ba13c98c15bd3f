-- What holds of the definitions of proofs/ListedBase.antt.
use Rattle.std.specs.Prelude.{List, ◌≡◌, ℕ}
use Rattle.std.proofs.Common.{sym, ◌∙◌, arith}
use Rattle.topology.specs.Sums.{front_one}
use Rattle.topology.specs.Links.{link_of}
use Rattle.topology.proofs.Listing.{walks_list}
use Rattle.topology.proofs.Pigeonhole.{ids_most}
use Rattle.front.specs.State.{State}
use Rattle.front.specs.Sound.{Sound}
use Rattle.paving.specs.Loops.{front_loops}
use Rattle.exam_loops.specs.Loops.{linked_loops}
use Rattle.exam_loops.proofs.ListedBase.{front_sound}

-- of a sound state the loops are those that `front_loops` lists
pub sound_listed : (sampled : ℕ) (s : State) (ls : List (List ℕ)) → Sound sampled s ls
    → linked_loops s.counts.nodes s.next s.prev ≡ front_loops s
unfolding linked_loops front_loops
sound_listed sampled s ls S =
    let n = s.counts.nodes in
    let f = link_of n s.next in
    let L = S.front.loops in
    rw (front_sound n s.next s.prev ls S.front)
    (walks_list n f ls L n (ids_most n f ls L) 3
    ∙ sym (walks_list n f ls L s.counts.front (omega (arith, S.edges, front_one ls)) 3))
