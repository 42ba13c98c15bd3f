-- What holds of a paving all the way through a run, and what it gives the code of an attempt and of a placing.
use Rattle.std.specs.Prelude.{◌≡◌, false, List, ℕ, ◌*◌, ◌≤◌, length, Float}
use Rattle.std.proofs.Common.{arith}
use Rattle.outline.specs.Outline.{Outline}
use Rattle.field_direction.specs.declared.Grid.{Grid}
use Rattle.field_direction.specs.Cells.{FieldLent}
use Rattle.front.specs.declared.Corner.{Corner}
use Rattle.front.specs.State.{State, node_places, edge_places, has_edge}
use Rattle.front.specs.Place.{place, is_full}
use Rattle.front.specs.Sound.{Sound, Frame}
use Rattle.front.proofs.FrameLaws.{frame_same, frame_trans}
use Rattle.front.specs.Ready.{Known, Choice, Ready}
use Rattle.front.proofs.Step.{step}
use Rattle.front.proofs.KnownLaws.{known_placed}
use Rattle.paving.specs.declared.Surroundings.{Surroundings}
use Rattle.paving.specs.Advance.{with_snapshot}
use Rattle.paving.specs.Reach.{Reaches, begin, snapshot, placed}
use Rattle.books.proofs.Answered.{answered}
use Rattle.books.proofs.Snapshot.{snapshot_frame, snapshot_sound}
use Rattle.index_pools.specs.Pool.{Indexed}
use Rattle.paving_indexed.specs.Rects.{node_rects, edge_rects}
use Rattle.paving_attempts.specs.Seen.{TryLent}

-- ---- definitions

-- the field is lent, and the state is one that a run can be in
pub record Paveable (g : Grid) (values : List Float) (s : State) : Type 0 where
  pub field : FieldLent g values
  pub sampled : ℕ
  pub loops : List (List ℕ)
  pub sound : Sound sampled s loops
  pub known : Known s

abbrev pub PaveableIn : Surroundings → State → Type 0
PaveableIn a s = Paveable a.field.grid a.field.values.now s

-- t comes after s in one run
pub record Later (g : Grid) (values : List Float) (s t : State) : Type 0 where
  pub paveable : Paveable g values t
  pub frame : Frame s t

-- ---- what a placing and a snapshot keep

module _ (g : Grid) (values : List Float) where
  known_snapshot : (s : State) → Known s → Known (with_snapshot s)
  unfolding with_snapshot has_edge
  known_snapshot s K = record { fronts = K.fronts; joined = K.joined }

  pub snapshot_paveable : (s : State) → Paveable g values s → Paveable g values (with_snapshot s)
  snapshot_paveable s P =
      record {
        field = P.field;
        sampled = P.sampled;
        loops = P.loops;
        sound = snapshot_sound P.sampled s P.loops P.sound;
        known = known_snapshot s P.known;
      }

  place_later : (s t : State) (a b : ℕ) (c d : Corner) → Later g values s t → Choice t a b c d → is_full t a b c d ≡ false
      → Later g values s (place a b c d t)
  place_later s t a b c d L H full =
      let P = L.paveable in
      let S = step P.sampled t P.loops a b c d P.sound H full in
      record {
        paveable = record {
          field = P.field;
          sampled = P.sampled;
          loops = S.loops;
          sound = S.sound;
          known = known_placed P.sampled t P.loops a b c d P.sound P.known H full;
        };
        frame = frame_trans s t (place a b c d t) L.frame S.frame;
      }

  -- the state after a quad
  pub later_placed : (s : State) → Paveable g values s → (a b : ℕ) (c d : Corner) → Choice s a b c d → is_full s a b c d ≡ false
      → Later g values s (place a b c d s)
  later_placed s P a b c d H full = place_later s s a b c d (record { paveable = P; frame = frame_same s }) H full

  -- a state that is reached
  pub reached_later : (o : Outline) (size : Float) (s t : State) (k : ℕ) → Paveable g values s → Reaches o size s k t → Later g values s t
  reached_later o size s t k P begin = record { paveable = P; frame = frame_same s }
  reached_later o size s t k P (snapshot {k = j} {t = u} r) =
      let L = reached_later o size s u j P r in
      record { paveable = snapshot_paveable u L.paveable; frame = frame_trans s u (with_snapshot u) L.frame (snapshot_frame u) }
  reached_later o size s t k P (placed {k = j} {t = u} {a = a} {b = b} {c = c} {d = d} r p) =
      place_later s u a b c d (reached_later o size s u j P r) (answered o size u a b c d p).choice p.fits

-- ---- what the code of an attempt and of a placing asks

-- the nodes and edges counted are in the lists lent
pub record Held (s : State) : Type 0 where
  pub few : s.counts.nodes ≤ 4294967294
  pub next : s.counts.nodes ≤ length s.next
  pub prev : s.counts.nodes ≤ length s.prev
  pub snapshot : s.counts.nodes ≤ length s.snapshot
  pub edges : 2 * s.counts.edges ≤ length s.edges

module _ (g : Grid) (values : List Float) (s : State) (P : Paveable g values s) where
  pub held : Held s
  unfolding node_places edge_places
  held =
      let S = P.sound in
      record {
        few = omega (arith, S.nodes_fit);
        next = omega (arith, S.nodes_fit);
        prev = omega (arith, S.nodes_fit);
        snapshot = omega (arith, S.nodes_fit);
        edges = omega (arith, S.edges_fit);
      }

  pub state_try_lent : (size : Float) {node_pool edge_pool : List ℕ} → Indexed node_pool (node_rects size s.xs s.ys) s.counts.nodes
      → Indexed edge_pool (edge_rects size s.xs s.ys s.edges) s.counts.edges
      → TryLent g values size s.xs s.ys s.next s.prev s.edges node_pool edge_pool s.counts
  state_try_lent size nodes edges =
      let L = held in
      record {
        attempt = record {
          quad = record {
            nodes = record { filed = nodes };
            within = record { nodes_few = L.few; indexed = record { edges_fit = L.edges; filed = edges } };
          };
          next_fit = L.next;
          prev_fit = L.prev;
        };
        field = P.field;
      }

  pub ready : (a b : ℕ) (c d : Corner) → Choice s a b c d → Ready s a b c d
  ready a b c d H = record { sampled = P.sampled; loops = P.loops; sound = P.sound; known = P.known; choice = H }
