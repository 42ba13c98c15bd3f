-- What holds of the definitions of specs/Theorem.antt.
use Rattle.std.specs.Prelude.{List, ℕ, ◌≤◌, Float, Bool, cond, ◌≡◌, suc, ◌+◌, leb, length, Option, Some, None}
use Rattle.outline.specs.Outline.{Outline}
use Rattle.field_direction.specs.Record.{FieldRecord}
use Rattle.front.specs.State.{State, node_places}
use Rattle.front.specs.Sampling.{from_boundary, sampled_count}
use Rattle.books_hold.specs.Runs.{AcceptedRun}
use Rattle.run_origins.specs.Origins.{OneOrigin, push_origin, quad_origins, origins_after}
use Rattle.run_origins.proofs.Theorem.{origins_booked}
use Rattle.books_hand.specs.Moves.{Move, moves_on}
use Rattle.books_hand.proofs.Sequences.{sequence_holds}
use Rattle.books_hand.specs.MoveLaws.{from_outline, FromOutline}
use Rattle.books_hand.proofs.MoveLaws.{moves_kept}
use Rattle.std.proofs.Math.Bool.{true, false}
use Rattle.std.proofs.Math.Path.{refl, sym, ap}
use Rattle.std.proofs.Common.{◌∙◌, add-one, arith, eqb-true}
use Rattle.std.proofs.Math.Dec.{eqb}
use Rattle.laws.specs.Loop.{for_up, for_up_same}
use Rattle.laws.specs.Overlay.{overlay}
use Rattle.outline.specs.Accepted.{first_zero}
use Rattle.front.specs.declared.Corner.{Corner}
use Rattle.front.specs.Place.{added, id_c, id_d, place, is_full}
use Rattle.front.specs.Ready.{room_fits}
use Rattle.front_lent_mesh.specs.declared.QuadIds.{QuadIds}
use Rattle.front_lent_mesh.specs.Mesh.{quad_in}
use Rattle.front_lent_mesh.proofs.Answered.{ids_of, quad_same}
use Rattle.front.specs.declared.FarCorners.{FarCorners}
use Rattle.paving.specs.Attempt.{try_edge, far}
use Rattle.paving.specs.Advance.{most_quads}
use Rattle.paving.specs.Reach.{Placement}
use Rattle.paving.specs.ReachLaws.{tried}
use Rattle.books.proofs.BookBase.{frame_quad}
use Rattle.books.proofs.Step.{Stepped, answered_step}
use Rattle.books_hold.proofs.StagesBase.{standing}
use Rattle.books_hold.proofs.Runs.{start, reached_holds}
use Rattle.run_origins.specs.Writing.{push_count, push_at, push_length, push_over}
use Rattle.hand_steps.specs.declared.StepOutcome.TheVariants.{Placed, Full, Cap}
use Rattle.hand_steps.specs.Hand.{hand_refusal, handled, settled_on, place_on, step_on, new_origins, origins_on}
use Rattle.hand_mesh_check.specs.Check.{mesh_refusal, edge_refusal}
use Rattle.hand_steps.proofs.UseBase.{there_of, on_front_lem, quad_below}
use Rattle.hand_steps.proofs.StepLaws.{origins_same}
use Rattle.hand_origins.proofs.Pushed.{push_counts, new_pushed}
use Rattle.hand_origins.specs.Theorem.{NodesNumbered}

-- ---- NO FRONT LOOP AND NO QUAD OF A SEQUENCE HAS NODES OF TWO NUMBERS

-- of every outline, size and lists of which nothing is refused, any field, and any list of moves: before the first quad, after each one and as it stops
pub sequence_origins : (o : Outline) (size : Float) (lent : State) → AcceptedRun o size lent → (field : FieldRecord) (ms : List Move) (k : ℕ)
    → k ≤ (moves_on o size field ms (from_boundary o size lent)).counts.quads
    → OneOrigin o size (moves_on o size field ms (from_boundary o size lent)) k
sequence_origins o size lent A field ms =
    let F = moves_kept o size field ms (from_boundary o size lent) (from_outline o size lent A) in
    origins_booked o size F.lent (moves_on o size field ms (from_boundary o size lent)) F.accepted.outline F.accepted.front
    (sequence_holds o size lent A field ms)

-- ---- a step keeps the numbers written

-- as many numbers as nodes
numbers_length : (o : Outline) (size : Float) (s : State) → FromOutline o size s → length (origins_after o size s.quads s.counts.quads) ≡ s.counts.nodes
numbers_length o size s F =
    let B = reached_holds o size F.lent F.accepted F.reached.by in
    let O = origins_booked o size F.lent s F.accepted.outline F.accepted.front B s.counts.quads (omega arith) in
    O.holds.long ∙ sym (B.closes O.book O.steps).nodes

-- the numbers after one quad more
after_more : (o : Outline) (size : Float) (quads : List ℕ) (k : ℕ)
    → origins_after o size quads (suc k) ≡ quad_origins (quad_in quads k) (origins_after o size quads k)
unfolding origins_after for_up
after_more o size quads k = refl

module _ (o : Outline) (size : Float) (field : FieldRecord) (s : State) (F : FromOutline o size s) (a b : ℕ) (before l : List ℕ)
    (room : node_places s ≤ length before) (N : NodesNumbered o size s before l) where
  abbrev n : ℕ
  n = s.counts.nodes

  abbrev L : List ℕ
  L = origins_after o size s.quads s.counts.quads

  -- t has its numbers, once those of its new nodes are written
  abbrev NumbersKept : State → Type 0
  NumbersKept t = NodesNumbered o size t before (new_origins a n t.counts.nodes l)

  same_kept : NumbersKept s
  same_kept = sym (origins_same a n l) ∙ N

  module _ (passes : hand_refusal s a b ≡ 0) (c d : Corner) (e : try_edge o size field s a b ≡ Some (far c d)) (full : is_full s a b c d ≡ false) where
    placement : Placement o size s a b c d
    unfolding hand_refusal
    placement =
        let A = tried o size field s a b c d e in
        record { there = there_of s a b (first_zero (mesh_refusal s) (edge_refusal s a b) passes).1; da = A.da; db = A.db; answered = A.answered; fits = full }

    placed : Stepped (sampled_count o size) s (standing (start o size F.lent F.accepted).sound F.reached.by).loops a b c d (place a b c d s)
    placed =
        let Y = standing (start o size F.lent F.accepted).sound F.reached.by in
        answered_step (sampled_count o size) s Y.loops o size a b c d Y.sound placement

    abbrev t : State
    t = place a b c d s

    -- the numbers of the quads before it stay
    earlier : origins_after o size t.quads s.counts.quads ≡ L
    unfolding origins_after
    earlier =
        for_up_same s.counts.quads _ _ _
        (λ i x h. ap (λ (q : QuadIds). quad_origins q x)
        (quad_same t i ∙ (ap ids_of (frame_quad s t placed.frame i h) ∙ sym (quad_same s i))))

    numbers_after : origins_after o size t.quads t.counts.quads ≡ push_origin a (id_d s c d) (push_origin a (id_c s c) L)
    numbers_after =
        let q = s.counts.quads in
        ap (origins_after o size t.quads) (placed.quads ∙ add-one q)
        ∙ (after_more o size t.quads q
        ∙ (ap (λ (x : List ℕ). quad_origins (quad_in t.quads q) x) earlier
        ∙ ap (λ (x : QuadIds). quad_origins x L) (quad_same t q ∙ ap ids_of placed.quad)))

    placed_kept : NumbersKept t
    placed_kept =
        let S = on_front_lem s a b passes in
        let B = quad_below o size field s a b S c d e in
        let long = numbers_length o size s F in
        let C = id_c s c in
        let D = id_d s c d in
        let m = n + added c in
        let count_c = push_counts c n n B.0 (omega arith) in
        let count_d = push_counts d n m B.1 (omega arith) in
        let enough : m + added d ≤ length before = omega (arith, room, (room_fits s a b c d full).nodes_fit) in
        let more : t.counts.nodes ≡ n + (added c + added d) = omega (arith, placed.nodes) in
        let first : push_at a C n l ≡ overlay (push_origin a C L) before =
        ap (push_at a C n) N ∙ push_over a C n L before long S.id_a (omega (arith, count_c, enough)) in
        let second : push_at a D m (overlay (push_origin a C L) before) ≡ overlay (push_origin a D (push_origin a C L)) before =
        push_over a D m (push_origin a C L) before (push_length a C L ∙ (ap (push_count C) long ∙ count_c)) (omega (arith, S.id_a))
        (omega (arith, count_d, enough)) in
        ap (λ (k : ℕ). new_origins a n k l) more
        ∙ (new_pushed a n l S.id_a c d B.0 B.1
        ∙ (ap (push_at a D m) first ∙ (second ∙ ap (λ (x : List ℕ). overlay x before) (sym numbers_after))))

  settled_kept : hand_refusal s a b ≡ 0 → (r : Option FarCorners) → try_edge o size field s a b ≡ r → NumbersKept (settled_on a b r s).state
  settled_kept passes None e = same_kept
  settled_kept passes (Some q) e = by (is_full s a b q.c q.d) refl
    where
      by : (full : Bool) → is_full s a b q.c q.d ≡ full → NumbersKept (cond full (handled s Full) (handled (place a b q.c q.d s) Placed)).state
      by true f = same_kept
      by false f = placed_kept passes q.c q.d e f

  place_kept : hand_refusal s a b ≡ 0 → NumbersKept (place_on o size field a b s).state
  unfolding place_on
  place_kept passes = by (leb most_quads s.counts.quads)
    where
      by : (cap : Bool) → NumbersKept (cond cap (handled s Cap) (settled_on a b (try_edge o size field s a b) s)).state
      by true = same_kept
      by false = settled_kept passes (try_edge o size field s a b) refl

  -- a step keeps the numbers of the mesh written, refused or not
  pub step_numbered : NodesNumbered o size (step_on o size field a b s) before (origins_on o size field a b s l)
  unfolding step_on
  step_numbered = by (eqb (hand_refusal s a b) 0) refl
    where
      by : (done : Bool) → eqb (hand_refusal s a b) 0 ≡ done → NumbersKept (cond done (place_on o size field a b s).state s)
      by true e = place_kept (eqb-true _ _ e)
      by false e = same_kept
