-- What `front_loops` leaves in the lists lent to it, and what it answers. Definitions only.
use Rattle.std.specs.Prelude.{cond, ◌≡◌, ℕ, ◌≤◌, eqb, length}
use mathlib.Core.List.{List, map, flatten}
use Rattle.laws.specs.Overlay.{overlay}
use Rattle.laws.specs.Tabulate.{tabulate}
use Rattle.topology.specs.Sums.{front_sum, one}
use Rattle.topology.specs.Links.{off, link_of}
use Rattle.topology.specs.Front.{Loops}
use Rattle.topology.specs.Listing.{walks}
use Rattle.front.specs.declared.Counts.{Counts}
use Rattle.front_loop_list.specs.declared.Listed.{Listed}
use Rattle.front_loop_list.specs.declared.LoopLists.{LoopLists}

-- The lists that `front_loops` changes, and its answer. `marks` is the list of a pass's snapshot, which is scratch by then.
pub record Lists : Type 0 where
  pub marks : List ℕ
  pub loops : List ℕ
  pub lengths : List ℕ
  pub listed : Listed

abbrev pub lists : List ℕ → List ℕ → List ℕ → Listed → Lists
lists marks loops lengths listed = record { marks = marks; loops = loops; lengths = lengths; listed = listed }

-- the lists that are lent, and what is listed so far
abbrev pub listed_so_far : LoopLists → Lists
listed_so_far p = lists p.marks.now p.loops.now p.lengths.now p.listed

-- q has the lists that p has
pub record SameLoopLists (p q : LoopLists) : Type 0 where
  pub marks : q.marks.ghost_name ≡ p.marks.ghost_name
  pub loops : q.loops.ghost_name ≡ p.loops.ghost_name
  pub lengths : q.lengths.ghost_name ≡ p.lengths.ghost_name

-- so many loops, with so many ids in all of them
abbrev pub listed_of : ℕ → ℕ → Listed
listed_of count ids = record { count = count; ids = ids }

-- `front_loops`, from the counts and the links alone
unfoldable pub loops_in : Counts → List ℕ → List (List ℕ)
loops_in k next = walks 3 k.nodes k.front (link_of k.nodes next)

-- 1 for a node on the front, 0 for one off it
unfoldable pub front_mark : (ℕ → ℕ) → ℕ → ℕ
front_mark f u = cond (eqb (f u) off) 0 1

-- The ids of the loops ms one after the other, each loop's length, and their numbers.
unfoldable pub written : List ℕ → List ℕ → List ℕ → List (List ℕ) → Lists
written marks loops lengths ms =
    lists marks (overlay (flatten ms) loops) (overlay (map length ms) lengths) (listed_of (length ms) (length (flatten ms)))

-- `front_loops` on lent lists
unfoldable pub listed_in : Counts → List ℕ → List ℕ → List ℕ → List ℕ → Lists
listed_in k next marks loops lengths =
    let n = k.nodes in
    written (overlay (tabulate n (front_mark (link_of n next))) marks) loops lengths (loops_in k next)

-- What `front_loops` asks: the links are those of loops, the count of front edges is theirs, `lengths` has a place for each loop and each other list one
-- for each node.
pub record Listable (k : Counts) (next marks loops lengths : List ℕ) : Type 0 where
  pub front : List (List ℕ)
  pub links : Loops k.nodes (link_of k.nodes next) front
  pub edges : k.front ≡ front_sum one front
  pub next_fits : k.nodes ≤ length next
  pub marks_fit : k.nodes ≤ length marks
  pub loops_fit : k.nodes ≤ length loops
  pub lengths_fit : length front ≤ length lengths
