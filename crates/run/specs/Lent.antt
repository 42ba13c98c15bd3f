-- What is lent to a run, in the words of the definitions. Definitions only.
use Rattle.std.specs.Prelude.{◌≡◌, List, ℕ}
use Rattle.paving.specs.declared.Scratch as paving
use Rattle.run.specs.declared.RunLists.{RunLists}
use Rattle.run.specs.Run.{Lent, lent, Scratch, scratch}

abbrev pub lent_in : RunLists → Lent
lent_in l =
    lent l.values.now l.marks.now l.xs.now l.ys.now l.next.now l.prev.now l.snapshot.now l.origins.now l.quads.now l.edges.now
    l.loops.now l.lengths.now

-- the outline's blocks are lent beside a paving's scratch
abbrev pub scratch_in : paving.Scratch → List ℕ → Scratch
scratch_in s blocks = scratch s.node_pool.now s.edge_pool.now blocks s.tried.now

-- m has the lists that l has
pub record SameRunLists (l m : RunLists) : Type 0 where
  pub values : m.values.ghost_name ≡ l.values.ghost_name
  pub marks : m.marks.ghost_name ≡ l.marks.ghost_name
  pub xs : m.xs.ghost_name ≡ l.xs.ghost_name
  pub ys : m.ys.ghost_name ≡ l.ys.ghost_name
  pub next : m.next.ghost_name ≡ l.next.ghost_name
  pub prev : m.prev.ghost_name ≡ l.prev.ghost_name
  pub snapshot : m.snapshot.ghost_name ≡ l.snapshot.ghost_name
  pub origins : m.origins.ghost_name ≡ l.origins.ghost_name
  pub quads : m.quads.ghost_name ≡ l.quads.ghost_name
  pub edges : m.edges.ghost_name ≡ l.edges.ghost_name
  pub loops : m.loops.ghost_name ≡ l.loops.ghost_name
  pub lengths : m.lengths.ghost_name ≡ l.lengths.ghost_name
