-- `LentLinks::write_ids` meets its contract: the loop's invariant is `Writing`, on the places that are to be written.
use Rattle.std.specs.Prelude.{ℕ, ◌≡◌, ◌≤◌, List, [], ◌++◌, take, drop, length, refl}
use Rattle.std.proofs.Common.{ap, ◌∙◌, arith, length-take-le, append-nil, drop_of_length-le}
use Rattle.exam_loop_reads.specs.Code.{Writable, writing_start, writing_next, writing_end}
use Rattle.topology.specs.Links.{link_of}
use Rattle.topology.specs.Walk.{walk_by}
use Rattle.exam_loop_reads.proofs.LentLinks.write_ids.Goals as goal

-- the places that are to be written
part_long : (count : ℕ) (reply : List ℕ) → count ≤ length reply → length (take count reply) ≡ count
part_long count reply h = length-take-le count reply h

part_writable : (w : List ℕ) (count : ℕ) (reply : List ℕ) → Writable w count reply → Writable w count (take count reply)
part_writable w count reply can =
    record { ids = can.ids; places = omega (arith, part_long count reply can.places) }

pub loop-place-init : goal.loop-place-init
loop-place-init c =
    let s = c.args.self.now in
    writing_start (link_of s.nodes s.next.now) s.nodes c.args.start c.args.count (take c.args.count c.args.reply.now)

pub loop-place-preserved : goal.loop-place-preserved
loop-place-preserved c =
    let s = c.args.self.now in
    let f = link_of s.nodes s.next.now in
    let count = c.args.count in
    let reply = c.args.reply.now in
    writing_next f s.nodes c.args.start count (take count reply) (part_writable _ count reply c.requires) c.loop-place.invariant
    (omega (arith, c.loop-place-test.true, part_long count reply c.requires.places)) c.link_in-u.result c.link_in-u.ensures

pub returns : goal.returns
returns c =
    let s = c.args.self.now in
    let f = link_of s.nodes s.next.now in
    let count = c.args.count in
    let reply = c.args.reply.now in
    let long = part_long count reply c.requires.places in
    let past : drop count (take count reply) ≡ [] = drop_of_length-le (take count reply) (omega (arith, long)) in
    let w = walk_by f s.nodes c.args.start c.args.start in
    let all = writing_end f s.nodes c.args.start count (take count reply) (part_writable w count reply c.requires) c.loop-place.invariant (omega (arith, c.loop-place-test.false, long)) in
    ap (λ (l : List ℕ). l ++ drop count reply) (all ∙ rw (past, append-nil) refl)
