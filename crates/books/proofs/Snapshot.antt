-- The snapshot that a pass begins with leaves the state sound, and the book's.
use Rattle.std.specs.Prelude.{ℕ, List, get_or}
use Rattle.std.proofs.Common.{arith}
use Rattle.laws.specs.Loop.{for_up_keeps}
use Rattle.topology.specs.Links.{off}
use Rattle.front.specs.State.{State, quad_places, edge_places}
use Rattle.front.specs.Sound.{Sound, Extends, Frame}
use Rattle.front.proofs.FrameLaws.{extends_same, extends_set, frame_node_places}
use Rattle.paving.specs.Advance.{copy_turn, copied, with_snapshot}
use Rattle.books.specs.Book.{Book}
use Rattle.books.proofs.Matches.{Matches}

copied_extends : (n : ℕ) (links l : List ℕ) → Extends 0 n l (copied n links l)
unfolding copied
copied_extends n links l =
    for_up_keeps (λ i m. Extends 0 n l m) n (copy_turn links) l (extends_same 0 n l)
    (λ i m h E. extends_set 0 n l m i (get_or links i off) (omega arith) h E)

pub snapshot_frame : (s : State) → Frame s (with_snapshot s)
unfolding with_snapshot
snapshot_frame s =
    record {
      nodes = omega arith;
      quads = omega arith;
      edges = omega arith;
      xs = extends_same _ _ _;
      ys = extends_same _ _ _;
      next = extends_same _ _ _;
      prev = extends_same _ _ _;
      snapshot = copied_extends s.counts.nodes s.next s.snapshot;
      quad_list = extends_same _ _ _;
      edge_list = extends_same _ _ _;
    }

pub snapshot_sound : (n : ℕ) (s : State) (ls : List (List ℕ)) → Sound n s ls → Sound n (with_snapshot s) ls
unfolding with_snapshot quad_places edge_places
snapshot_sound n s ls S =
    record {
      front = S.front;
      edges = S.edges;
      counts = S.counts;
      nodes_fit = rw (frame_node_places s (with_snapshot s) (snapshot_frame s)) S.nodes_fit;
      quads_fit = S.quads_fit;
      edges_fit = S.edges_fit;
    }

pub snapshot_matches : (s : State) (ls : List (List ℕ)) (b : Book) → Matches s ls b → Matches (with_snapshot s) ls b
unfolding with_snapshot
snapshot_matches s ls b M = record { xs = M.xs; ys = M.ys; sums = M.sums }
