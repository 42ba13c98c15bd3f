-- What holds of the definitions of specs/MoveLaws.antt.
use Rattle.std.specs.Prelude.{Bool, ◌||◌, cond, ◌≡◌, ltb, length, Float, Option, Some, None}
use Rattle.std.proofs.Math.Bool.{true, false}
use mathlib.Core.List.{List, [], ◌∷◌}
use Rattle.std.proofs.Math.Path.{refl}
use Rattle.std.proofs.Common.{arith, eqb-true, leb-true, ltb-false, le-ltb}
use Prim.Native.Nat.{ℕ, suc, ◌≤◌}
use Rattle.std.proofs.Math.Dec.{eqb, leb}
use Rattle.outline.specs.Outline.{Outline}
use Rattle.outline.specs.Accepted.{first_zero}
use Rattle.field_direction.specs.Record.{FieldRecord}
use Rattle.front.specs.State.{State, node_places, edge_places}
use Rattle.front.specs.Place.{place, is_full}
use Rattle.front.specs.Sampling.{sampled_count, front_refusal, from_boundary}
use Rattle.front.specs.declared.FarCorners.{FarCorners}
use Rattle.paving.specs.Attempt.{try_edge}
use Rattle.paving.specs.Advance.{most_quads, is_there, with_snapshot}
use Rattle.paving.specs.Reach.{Reaches, begin, snapshot, placed}
use Rattle.paving.specs.ReachLaws.{Reached, tried, advance_reaches}
use Rattle.books_hold.specs.Runs.{AcceptedRun}
use Rattle.books_hold.proofs.Runs.{begins}
use Rattle.hand_mesh_check.specs.Check.{mesh_refusal, edge_refusal}
use Rattle.hand_placing.proofs.Local.{placed_nodes}
use Rattle.hand_steps.specs.declared.StepOutcome.TheVariants.{Placed, Full, Cap}
use Rattle.hand_steps.specs.Hand.{hand_refusal, handled, settled_on, place_on, step_on}
use Rattle.hand_steps.proofs.UseBase.{there_of}
use Rattle.books_hand.specs.Moves.{with_scratch, Move, named, passes, lends, move_on, moves_on}
use Rattle.books_hand.proofs.Lending.{sampled_blind, places_in, reached_in}
use Rattle.books_hand.specs.MoveLaws.{reached_then, FromOutline}

-- ---- a step

module _ (o : Outline) (size : Float) (field : FieldRecord) (s : State) where
  settled_reaches : (t : State) (a b : ℕ) → is_there t a b ≡ true → (r : Option FarCorners) → try_edge o size field t a b ≡ r → Reached o size s t
      → Reached o size s (settled_on a b r t).state
  settled_reaches t a b there None e R = R
  settled_reaches t a b there (Some q) e R = by (is_full t a b q.c q.d) refl
    where
      by : (full : Bool) → is_full t a b q.c q.d ≡ full
          → Reached o size s (cond full (handled t Full) (handled (place a b q.c q.d t) Placed)).state
      by true f = R
      by false f =
          let A = tried o size field t a b q.c q.d e in
          record {
            quads = suc R.quads;
            by = placed R.by (record { there = there; da = A.da; db = A.db; answered = A.answered; fits = f });
          }

  place_reaches : (t : State) (a b : ℕ) → is_there t a b ≡ true → Reached o size s t → Reached o size s (place_on o size field a b t).state
  unfolding place_on
  place_reaches t a b there R = by (leb most_quads t.counts.quads)
    where
      by : (cap : Bool) → Reached o size s (cond cap (handled t Cap) (settled_on a b (try_edge o size field t a b) t)).state
      by true = R
      by false = settled_reaches t a b there (try_edge o size field t a b) refl R

  step_reaches : (t : State) (a b : ℕ) → Reached o size s t → Reached o size s (step_on o size field a b t)
  unfolding step_on hand_refusal
  step_reaches t a b R = by (eqb (hand_refusal t a b) 0) refl
    where
      by : (done : Bool) → eqb (hand_refusal t a b) 0 ≡ done → Reached o size s (cond done (place_on o size field a b t).state t)
      by true h = place_reaches t a b (there_of t a b (first_zero (mesh_refusal t) (edge_refusal t a b) (eqb-true _ _ h)).1) R
      by false h = R

-- ---- another list

-- nodes only come
reached_nodes : {o : Outline} {size : Float} {s : State} {k : ℕ} {t : State} → Reaches o size s k t → s.counts.nodes ≤ t.counts.nodes
unfolding with_snapshot
reached_nodes begin = omega arith
reached_nodes (snapshot r) = reached_nodes r
reached_nodes (placed {t = t} {a = a} {b = b} {c = c} {d = d} r P) = omega (arith, reached_nodes r, placed_nodes a b c d t)

module _ (o : Outline) (size : Float) where
  -- the outline isn't refused in lists of which another has a place for each point sampled
  accepted_in_lem : (l : List ℕ) (lent : State) → AcceptedRun o size lent → sampled_count o size ≤ length l → AcceptedRun o size (with_scratch l lent)
  unfolding front_refusal edge_places
  accepted_in_lem l lent A h =
      record { doubles = A.doubles; outline = A.outline; front = by (ltb (node_places lent) n) refl (ltb (edge_places lent) n) refl A.front }
    where
      n : ℕ
      n = sampled_count o size

      by : (p : Bool) → ltb (node_places lent) n ≡ p → (q : Bool) → ltb (edge_places lent) n ≡ q → cond {A = ℕ} (p || q) 10 0 ≡ 0
          → front_refusal o size (with_scratch l lent) ≡ 0
      by true e q f z = absurd (omega arith)
      by false e true f z = absurd (omega arith)
      by false e false f z =
          rw (le-ltb (node_places (with_scratch l lent)) n (places_in l lent n (ltb-false (node_places lent) n e) h), f) refl

  lent_kept : (l : List ℕ) (t : State) → FromOutline o size t → t.counts.nodes ≤ length l → FromOutline o size (with_scratch l t)
  lent_kept l t F h =
      let s = from_boundary o size F.lent in
      let count = (begins o size F.lent F.accepted).node_count_of in
      let R = reached_in l o size s F.reached.by h in
      record {
        lent = with_scratch l F.lent;
        accepted = accepted_in_lem l F.lent F.accepted (omega (arith, count, reached_nodes F.reached.by, h));
        reached = rw (sampled_blind l o size F.lent) (record { quads = F.reached.quads; by = R });
      }

  module _ (field : FieldRecord) where
    move_kept : (m : Move) (t : State) → FromOutline o size t → FromOutline o size (move_on o size field m t)
    unfolding move_on
    move_kept (named e) t F =
        record {
          lent = F.lent;
          accepted = F.accepted;
          reached = step_reaches o size field (from_boundary o size F.lent) t e.from e.to F.reached;
        }
    move_kept (passes n) t F =
        record {
          lent = F.lent;
          accepted = F.accepted;
          reached = reached_then o size (from_boundary o size F.lent) t F.reached (advance_reaches o size t field n).by;
        }
    move_kept (lends l) t F = by (leb t.counts.nodes (length l)) refl
      where
        by : (b : Bool) → leb t.counts.nodes (length l) ≡ b → FromOutline o size (cond b (with_scratch l t) t)
        by true e = lent_kept l t F (leb-true _ _ e)
        by false e = F

    pub moves_kept : (ms : List Move) (t : State) → FromOutline o size t → FromOutline o size (moves_on o size field ms t)
    unfolding moves_on
    moves_kept [] t F = F
    moves_kept (m ∷ ms) t F = moves_kept ms (move_on o size field m t) (move_kept m t F)
