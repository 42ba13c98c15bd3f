-- `paving_settling::settle_edge` meets its contract: the edge is gone, the attempt answers nothing, a quad that is full, or a quad that is placed.
use Rattle.std.specs.Prelude.{◌≡◌, List, ℕ, ◌*◌, ◌≤◌, length, get_or, Option}
use Rattle.std.proofs.Common.{◌∙◌, ap, sym, subst, arith, rules}
use Rattle.outline.specs.Outline.{Outline}
use Rattle.field_direction.specs.Record.{FieldRecord}
use Rattle.front.specs.State.{State}
use Rattle.front.specs.Lent.{paving_state}
use Rattle.paving.specs.Lent.{outline_in, field_in}
use Rattle.paving.specs.Attempt.{try_edge}
use Rattle.paving_attempts.specs.Seen.{TryLent, seen_of, seen_edges}
use Rattle.front.specs.Stores.{known_across}
use Rattle.paving_retries.specs.Vain.{Remembers, forgotten}
use Rattle.paving_indexed.specs.Rects.{NodesFiled, EdgesFiled}
use Rattle.paving_retries.specs.Untried.{Untried}
use Rattle.paving_retries.proofs.VainBase.{stretches_tried}
use Rattle.paving_ends.specs.Answers.{snapshot_edge}
use Rattle.paving_settling.specs.Searchable.{SearchableIn, placed_adds, full_helped, done_helped}
use Rattle.paving_settling.specs.Paveable.{held, state_try_lent}
use Rattle.paving_settling.proofs.Laws.{settle_gone, settle_untried, settle_same, settle_node, settle_ready, settle_full, settle_done}
use Rattle.paving_settling.proofs.settle_edge.Goals as goal
use Rattle.paving_settling.proofs.settle_edge.Goals.{Start}

-- the outline, the field and the state as they are lent
abbrev around : Start → Outline
around s = outline_in s.args.around.now

abbrev field : Start → FieldRecord
field s = field_in s.args.around.now

abbrev lent : Start → State
lent s = paving_state s.args.paving.now s.args.snapshot.now

-- the snapshot's edge by the links of the state
edge_of : {e : Option ℕ} {l m : List ℕ} (snapshot : List ℕ) (a : ℕ) → e ≡ snapshot_edge (get_or l a 0) (get_or snapshot a 0) → l ≡ m
    → e ≡ snapshot_edge (get_or m a 0) (get_or snapshot a 0)
edge_of snapshot a h e = rw (← e) h

pub snapshot_edge-requires : goal.snapshot_edge-requires
snapshot_edge-requires c =
    let L = held _ _ _ c.requires.paveable in
    rw c.next.ensures (omega (arith, L.next, c.requires.node), omega (arith, L.snapshot, c.requires.node))

pub returns-in_default-clause-settles : goal.returns-in_default-clause-settles
returns-in_default-clause-settles c =
    let s = (goal.at.returns-in_default-clause-settles c).Start in
    let a = c.args.around.now in
    settle_gone (around s) a.size a.field.grid a.field.values.now (lent s) c.args.a c.requires.node (held _ _ _ c.requires.paveable)
    (edge_of _ _ c.snapshot_edge.ensures c.next.ensures) c.in_default.is

pub try_in_scratch-attempt-requires-clause-lent : goal.try_in_scratch-attempt-requires-clause-lent
try_in_scratch-attempt-requires-clause-lent c =
    let a = c.args.around.now in
    let t = c.args.scratch.now in
    subst
    (λ (m : State).
    TryLent a.field.grid a.field.values.now a.size m.xs m.ys m.next m.prev m.edges t.node_pool.now t.edge_pool.now m.counts)
    (sym c.mesh.ensures)
    (state_try_lent _ _ _ c.requires.paveable _ c.requires.helped.search.nodes_filed c.requires.helped.search.edges_filed)

pub try_in_scratch-attempt-requires-clause-untried : goal.try_in_scratch-attempt-requires-clause-untried
try_in_scratch-attempt-requires-clause-untried c =
    let s = (goal.at.try_in_scratch-attempt-requires-clause-untried c).Start in
    let a = c.args.around.now in
    subst (λ (m : State). Untried (outline_in a) a.size (field_in a) (seen_of m) c.args.scratch.now.tried.now c.args.a c.in-Some.b) (sym c.mesh.ensures)
    (settle_untried (around s) a.size a.field.grid a.field.values.now (lent s) c.args.a c.requires.node (held _ _ _ c.requires.paveable)
    (edge_of _ _ c.snapshot_edge.ensures c.next.ensures) c.in-Some.is c.requires.paveable c.requires.helped.remembers)

pub returns-in_default-attempt-clause-settles : goal.returns-in_default-attempt-clause-settles
returns-in_default-attempt-clause-settles c =
    let s = (goal.at.returns-in_default-attempt-clause-settles c).Start in
    let a = c.args.around.now in
    settle_same (around s) a.size a.field.grid a.field.values.now (lent s) c.args.a c.requires.node (held _ _ _ c.requires.paveable)
    (edge_of _ _ c.snapshot_edge.ensures c.next.ensures) c.in-Some.is _
    (c.try_in_scratch-attempt.ensures.answer ∙ ap (λ (m : State). try_edge (outline_in a) a.size (field_in a) (seen_of m) c.args.a c.in-Some.b) c.mesh.ensures)
    c.in_default-attempt.is

pub returns-in_default-attempt-clause-helped : goal.returns-in_default-attempt-clause-helped
returns-in_default-attempt-clause-helped c =
    let s = (goal.at.returns-in_default-attempt-clause-helped c).Start in
    let a = c.args.around.now in
    let r = c.try_in_scratch-attempt in
    record {
      search = rw (r.ensures.pools.0, r.ensures.pools.1) c.requires.helped.search;
      remembers = subst
          (λ (m : State). Remembers (outline_in a) a.size (field_in a) r.new.tried (seen_edges m.xs m.ys m.edges m.counts)) c.mesh.ensures
          r.ensures.remembers;
      stretches = stretches_tried r.result c.args.scratch.now.tried.now c.args.a _ _ _ c.args.paving.now.counts.nodes c.args.paving.now.next.now
          c.args.snapshot.now
          (settle_node (around s) a.size a.field.grid a.field.values.now (lent s) c.args.a c.requires.node (held _ _ _ c.requires.paveable)
          (edge_of _ _ c.snapshot_edge.ensures c.next.ensures) c.in-Some.is) r.ensures.tried c.requires.helped.stretches;
    }

pub is_known_across-across-requires : goal.is_known_across-across-requires
is_known_across-across-requires c = (
  subst (λ (m : State). 2 * m.counts.edges ≤ length m.edges) (sym c.mesh-2.ensures) (held _ _ _ c.requires.paveable).edges,
  search rules,
)

pub place-requires : goal.place-requires
place-requires c =
    let s = (goal.at.place-requires c).Start in
    let a = c.args.around.now in (
      settle_ready (around s) a.size a.field.grid a.field.values.now (lent s) c.args.a c.requires.node (held _ _ _ c.requires.paveable)
          (edge_of _ _ c.snapshot_edge.ensures c.next.ensures) c.in-Some.is _
          (c.try_in_scratch-attempt.ensures.answer
          ∙ ap (λ (m : State). try_edge (outline_in a) a.size (field_in a) (seen_of m) c.args.a c.in-Some.b) c.mesh.ensures) _ _ c.in-Some-attempt.is
          c.requires.paveable,
      c.is_known_across-across.ensures ∙ ap (λ (m : State). known_across m.edges m.counts.edges c.in-Some-attempt.far.c c.in-Some-attempt.far.d) c.mesh-2.ensures,
    )

pub returns-in-Err-clause-settles : goal.returns-in-Err-clause-settles
returns-in-Err-clause-settles c =
    let s = (goal.at.returns-in-Err-clause-settles c).Start in
    let a = c.args.around.now in
    settle_full (around s) a.size a.field.grid a.field.values.now (lent s) c.args.a c.requires.node (held _ _ _ c.requires.paveable)
    (edge_of _ _ c.snapshot_edge.ensures c.next.ensures) c.in-Some.is _
    (c.try_in_scratch-attempt.ensures.answer ∙ ap (λ (m : State). try_edge (outline_in a) a.size (field_in a) (seen_of m) c.args.a c.in-Some.b) c.mesh.ensures)
    _ _ c.in-Some-attempt.is _ _ (rw (← c.in-Err.is) c.place.ensures.placed)

pub returns-in-Err-clause-helped : goal.returns-in-Err-clause-helped
returns-in-Err-clause-helped c =
    let s = (goal.at.returns-in-Err-clause-helped c).Start in
    let a = c.args.around.now in
    let r = c.try_in_scratch-attempt in
    let ready = settle_ready (around s) a.size a.field.grid a.field.values.now (lent s) c.args.a c.requires.node (held _ _ _ c.requires.paveable)
    (edge_of _ _ c.snapshot_edge.ensures c.next.ensures) c.in-Some.is _
    (c.try_in_scratch-attempt.ensures.answer
    ∙ ap (λ (m : State). try_edge (outline_in a) a.size (field_in a) (seen_of m) c.args.a c.in-Some.b) c.mesh.ensures) _ _ c.in-Some-attempt.is c.requires.paveable in
    let M = subst (λ (m : State). Remembers (outline_in a) a.size (field_in a) r.new.tried (seen_edges m.xs m.ys m.edges m.counts)) c.mesh.ensures
    r.ensures.remembers in
    let T = stretches_tried r.result c.args.scratch.now.tried.now c.args.a _ _ _ c.args.paving.now.counts.nodes c.args.paving.now.next.now c.args.snapshot.now
    (settle_node (around s) a.size a.field.grid a.field.values.now (lent s) c.args.a c.requires.node (held _ _ _ c.requires.paveable)
    (edge_of _ _ c.snapshot_edge.ensures c.next.ensures) c.in-Some.is) r.ensures.tried c.requires.helped.stretches in
    rw (r.ensures.pools.0, r.ensures.pools.1)
    (full_helped (around s) _ _ a.size (lent s) c.requires.paveable c.args.a _ _ _ ready c.requires.helped.search (field s) _ M T _
    (paving_state c.place.new.self c.args.snapshot.now)
    (rw (← c.in-Err.is) c.place.ensures.placed))

pub file_added-requires-clause-nodes : goal.file_added-requires-clause-nodes
file_added-requires-clause-nodes c =
    let s = (goal.at.file_added-requires-clause-nodes c).Start in
    let a = c.args.around.now in
    let ready = settle_ready (around s) a.size a.field.grid a.field.values.now (lent s) c.args.a c.requires.node (held _ _ _ c.requires.paveable)
    (edge_of _ _ c.snapshot_edge.ensures c.next.ensures) c.in-Some.is _
    (c.try_in_scratch-attempt.ensures.answer
    ∙ ap (λ (m : State). try_edge (outline_in a) a.size (field_in a) (seen_of m) c.args.a c.in-Some.b) c.mesh.ensures) _ _ c.in-Some-attempt.is c.requires.paveable in
    let adds = placed_adds (around s) _ _ a.size (lent s) c.requires.paveable c.args.a _ _ _ ready c.requires.helped.search
    (paving_state c.place.new.self c.args.snapshot.now) (rw (← c.in_default-place.is) c.place.ensures.placed) in
    rw c.try_in_scratch-attempt.ensures.pools.0
    (subst (λ (m : State). NodesFiled c.args.scratch.now.node_pool.now a.size m.xs m.ys c.args.paving.now.counts.nodes m.counts.nodes) (sym c.mesh-3.ensures)
    adds.nodes)

pub file_added-requires-clause-edges : goal.file_added-requires-clause-edges
file_added-requires-clause-edges c =
    let s = (goal.at.file_added-requires-clause-edges c).Start in
    let a = c.args.around.now in
    let ready = settle_ready (around s) a.size a.field.grid a.field.values.now (lent s) c.args.a c.requires.node (held _ _ _ c.requires.paveable)
    (edge_of _ _ c.snapshot_edge.ensures c.next.ensures) c.in-Some.is _
    (c.try_in_scratch-attempt.ensures.answer
    ∙ ap (λ (m : State). try_edge (outline_in a) a.size (field_in a) (seen_of m) c.args.a c.in-Some.b) c.mesh.ensures) _ _ c.in-Some-attempt.is c.requires.paveable in
    let adds = placed_adds (around s) _ _ a.size (lent s) c.requires.paveable c.args.a _ _ _ ready c.requires.helped.search
    (paving_state c.place.new.self c.args.snapshot.now) (rw (← c.in_default-place.is) c.place.ensures.placed) in
    rw c.try_in_scratch-attempt.ensures.pools.1
    (subst
    (λ (m : State). EdgesFiled c.args.scratch.now.edge_pool.now a.size m.xs m.ys m.edges c.args.paving.now.counts.edges m.counts.edges)
    (sym c.mesh-3.ensures) adds.edges)

pub returns-clause-settles : goal.returns-clause-settles
returns-clause-settles c =
    let s = (goal.at.returns-clause-settles c).Start in
    let a = c.args.around.now in
    settle_done (around s) a.size a.field.grid a.field.values.now (lent s) c.args.a c.requires.node (held _ _ _ c.requires.paveable)
    (edge_of _ _ c.snapshot_edge.ensures c.next.ensures) c.in-Some.is _
    (c.try_in_scratch-attempt.ensures.answer
    ∙ ap (λ (m : State). try_edge (outline_in a) a.size (field_in a) (seen_of m) c.args.a c.in-Some.b) c.mesh.ensures) _ _ c.in-Some-attempt.is _ (paving_state c.place.new.self c.args.snapshot.now) (rw (← c.in_default-place.is) c.place.ensures.placed) c.quad_settled.ensures

pub returns-clause-helped : goal.returns-clause-helped
returns-clause-helped c =
    let s = (goal.at.returns-clause-helped c).Start in
    let a = c.args.around.now in
    let r = c.try_in_scratch-attempt in
    let ready = settle_ready (around s) a.size a.field.grid a.field.values.now (lent s) c.args.a c.requires.node (held _ _ _ c.requires.paveable)
    (edge_of _ _ c.snapshot_edge.ensures c.next.ensures) c.in-Some.is _
    (c.try_in_scratch-attempt.ensures.answer
    ∙ ap (λ (m : State). try_edge (outline_in a) a.size (field_in a) (seen_of m) c.args.a c.in-Some.b) c.mesh.ensures) _ _ c.in-Some-attempt.is c.requires.paveable in
    let M = subst (λ (m : State). Remembers (outline_in a) a.size (field_in a) r.new.tried (seen_edges m.xs m.ys m.edges m.counts)) c.mesh.ensures
    r.ensures.remembers in
    let T = stretches_tried r.result c.args.scratch.now.tried.now c.args.a _ _ _ c.args.paving.now.counts.nodes c.args.paving.now.next.now c.args.snapshot.now
    (settle_node (around s) a.size a.field.grid a.field.values.now (lent s) c.args.a c.requires.node (held _ _ _ c.requires.paveable)
    (edge_of _ _ c.snapshot_edge.ensures c.next.ensures) c.in-Some.is) r.ensures.tried c.requires.helped.stretches in
    let t = paving_state c.place.new.self c.args.snapshot.now in
    done_helped (around s) _ _ a.size (lent s) c.requires.paveable c.args.a _ _ _ ready c.requires.helped.search (field s) _ M T _ t
    (rw (← c.in_default-place.is) c.place.ensures.placed)
    (subst (λ (m : State). SearchableIn a.size m c.file_added.new.scratch.node_pool.now c.file_added.new.scratch.edge_pool.now) c.mesh-3.ensures
    c.file_added.ensures.filed)
    (c.file_added.ensures.tried
    ∙ ap (λ (m : State). forgotten c.args.paving.now.counts.nodes m.counts.nodes r.new.tried) c.mesh-3.ensures)
