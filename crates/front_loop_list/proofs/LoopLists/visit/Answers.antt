-- `visit` meets its contract: each way out is a law of `loop_visited`.
use Rattle.std.proofs.Common.{arith, length-set}
use Rattle.front_loop_list.specs.Visits.{visit_off, visit_marked, visit_in, visit_two, visit_walk, visit_room, visit_small, visit_listed}
use Rattle.front_loop_list.proofs.LoopLists.visit.Goals as goal

pub returns-then-v-clause-visited : goal.returns-then-v-clause-visited
returns-then-v-clause-visited c = visit_off c.requires c.if-v.true

pub returns-then-self-node-eq1-clause-visited : goal.returns-then-self-node-eq1-clause-visited
returns-then-self-node-eq1-clause-visited c = visit_marked c.requires c.if-self-node-eq1.true

pub bounds-next-second : goal.bounds-next-second
bounds-next-second c = visit_in c.requires c.if-v.false c.if-self-node-eq1.false

pub bounds-self-second : goal.bounds-self-second
bounds-self-second c =
    let inside = visit_in c.requires c.if-v.false c.if-self-node-eq1.false in
    let fits = c.requires.marks_fit in
    simp length-set (omega arith)

pub returns-then-next-second-clause-visited : goal.returns-then-next-second-clause-visited
returns-then-next-second-clause-visited c =
    visit_two c.requires c.if-v.false c.if-self-node-eq1.false c.if-next-second.true

pub write_loop-end-requires : goal.write_loop-end-requires
write_loop-end-requires c =
    visit_walk c.requires c.if-v.false c.if-self-node-eq1.false c.if-next-second.false

pub overflow_cast-self : goal.overflow_cast-self
overflow_cast-self c =
    let small = visit_small c.requires c.write_loop-end.ensures.walked in
    omega arith

pub offset_bounds-self-count : goal.offset_bounds-self-count
offset_bounds-self-count c =
    let fits = visit_room c.requires c.if-v.false c.if-self-node-eq1.false c.if-next-second.false in
    omega (arith, fits)

pub bounds-self-count : goal.bounds-self-count
bounds-self-count c =
    rw c.write_loop-end.ensures.rest.0 (visit_room c.requires c.if-v.false c.if-self-node-eq1.false c.if-next-second.false)

pub overflow_add-self : goal.overflow_add-self
overflow_add-self c =
    let fits = visit_room c.requires c.if-v.false c.if-self-node-eq1.false c.if-next-second.false in
    omega (arith, fits)

pub returns-clause-visited : goal.returns-clause-visited
returns-clause-visited c =
    rw c.write_loop-end.ensures.rest.0
    (visit_listed c.requires c.if-v.false c.if-self-node-eq1.false _ _ _ c.if-next-second.false c.write_loop-end.ensures.walked)
