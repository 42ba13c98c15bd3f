-- THE LAW: an edge that was tried in vain is tried in vain in every later state of the run in which its neighbours on the front are the same
-- (`failing_lasts`, at the end). Before it: what holds of a state that is reached.
use Rattle.std.specs.Prelude.{ℕ, suc, ◌+◌, ◌*◌, ◌<◌, ◌≤◌, List, ◌≡◌, ◌≢◌, Float, None}
use Rattle.std.proofs.Common.{◌∙◌, arith}
use Rattle.outline.specs.Outline.{Outline}
use Rattle.field_direction.specs.Record.{FieldRecord}
use Rattle.topology.specs.Links.{off}
use Rattle.front.specs.State.{State, next_of, prev_of, node_places, has_edge}
use Rattle.front.specs.Place.{place}
use Rattle.front.specs.Sound.{Sound, Frame}
use Rattle.front.proofs.FrameLaws.{extends_at, frame_same, frame_trans, frame_node}
use Rattle.front.specs.Ready.{Known}
use Rattle.front.proofs.KnownLaws.{known_placed}
use Rattle.front.proofs.Step.{step}
use Rattle.paving.specs.Attempt.{try_edge}
use Rattle.paving.specs.Advance.{with_snapshot}
use Rattle.paving.specs.Reach.{Reaches, begin, snapshot, placed}
use Rattle.paving.specs.ReachLaws.{Reached}
use Rattle.books.proofs.Answered.{answered}
use Rattle.books.proofs.Snapshot.{snapshot_frame, snapshot_sound}
use Rattle.paving_retries.specs.Grows.{Grows}
use Rattle.paving_retries.proofs.Attempts.{try_fails}

-- ---- the states that are reached

-- t is a state that a run of n sampled points can be in, and comes after s
pub record StandsAfter (n : ℕ) (s t : State) : Type 0 where
  pub loops : List (List ℕ)
  pub sound : Sound n t loops
  pub known : Known t
  pub frame : Frame s t

known_snapshot : (s : State) → Known s → Known (with_snapshot s)
unfolding with_snapshot has_edge
known_snapshot s K = record { fronts = K.fronts; joined = K.joined }

pub stands_after : {n : ℕ} {o : Outline} {size : Float} {s : State} {ls : List (List ℕ)} {k : ℕ} {t : State} → Sound n s ls → Known s
    → Reaches o size s k t → StandsAfter n s t
stands_after {s = s} {ls = ls} S K begin = record { loops = ls; sound = S; known = K; frame = frame_same s }
stands_after {n = n} {s = s} S K (snapshot {t = t} r) =
    let Y = stands_after S K r in
    record {
      loops = Y.loops;
      sound = snapshot_sound n t Y.loops Y.sound;
      known = known_snapshot t Y.known;
      frame = frame_trans s t (with_snapshot t) Y.frame (snapshot_frame t);
    }
stands_after {n = n} {o = o} {size = size} {s = s} S K (placed {t = t} {a = a} {b = b} {c = c} {d = d} r P) =
    let Y = stands_after S K r in
    let H = (answered o size t a b c d P).choice in
    let X = step n t Y.loops a b c d Y.sound H P.fits in
    record {
      loops = X.loops;
      sound = X.sound;
      known = known_placed n t Y.loops a b c d Y.sound Y.known H P.fits;
      frame = frame_trans s t (place a b c d t) Y.frame X.frame;
    }

-- what is reached from a state that is reached is reached
pub reached_trans : {o : Outline} {size : Float} {s t u : State} {k : ℕ} → Reached o size s t → Reaches o size t k u → Reached o size s u
reached_trans r begin = r
reached_trans r (snapshot q) = let z = reached_trans r q in record { quads = z.quads; by = snapshot z.by }
reached_trans r (placed q P) = let z = reached_trans r q in record { quads = suc z.quads; by = placed z.by P }

-- what an attempt reads only grows
pub grows : (s t : State) → Known s → Frame s t → t.counts.nodes ≤ 4294967294 → Grows s t
grows s t K F few =
    record {
      nodes = F.nodes;
      few = few;
      points = frame_node s t F;
      edges = F.edges;
      ends = λ k h. (
        extends_at _ _ s.edges t.edges F.edge_list (2 * k) 0 (omega arith),
        extends_at _ _ s.edges t.edges F.edge_list (2 * k + 1) 0 (omega arith),
      );
      joined = K.joined;
    }

-- and goes on growing
pub grows_on : (s t u : State) → Grows s t → Frame t u → u.counts.nodes ≤ 4294967294 → Grows s u
grows_on s t u G F few =
    record {
      nodes = omega (arith, G.nodes, F.nodes);
      few = few;
      points = λ id h. frame_node t u F id (omega (arith, G.nodes)) ∙ G.points id h;
      edges = omega (arith, G.edges, F.edges);
      ends = λ k h.
          let e = G.ends k h in
          let l : k < t.counts.edges = omega (arith, G.edges) in (
            extends_at _ _ t.edges u.edges F.edge_list (2 * k) 0 (omega arith) ∙ e.0,
            extends_at _ _ t.edges u.edges F.edge_list (2 * k + 1) 0 (omega arith) ∙ e.1,
          );
      joined = G.joined;
    }

-- ids are below `off`
pub sound_few : (n : ℕ) (s : State) (ls : List (List ℕ)) → Sound n s ls → s.counts.nodes ≤ 4294967294
unfolding node_places
sound_few n s ls S = omega (arith, S.nodes_fit)

-- ---- the law

-- s is a state of a run, whose mesh edges are known, and t is reached from it. The front edge a to b of s, whose neighbours in t are those in s, was tried
-- in s in vain: it is in t.
pub failing_lasts : (n : ℕ) (o : Outline) (size : Float) (field : FieldRecord) (s t : State) (ls : List (List ℕ)) → Sound n s ls → Known s
    → Reached o size s t → (a b : ℕ) → b ≢ off → next_of s a ≡ b → prev_of t a ≡ prev_of s a → next_of t b ≡ next_of s b
    → try_edge o size field s a b ≡ None → try_edge o size field t a b ≡ None
failing_lasts n o size field s t ls S K r a b on edge prev next e =
    let Y = stands_after S K r.by in
    try_fails n s t ls S (grows s t K Y.frame (sound_few n t Y.loops Y.sound)) o size a b on edge prev next field e
