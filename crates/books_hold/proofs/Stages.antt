-- What holds of the definitions of proofs/StagesBase.antt.
use Rattle.std.specs.Prelude.{ℕ, suc, ◌<◌, ◌≤◌, List, ◌≡◌, refl, Bool, true, false, leb, ℤ, ◌+ℤ◌, Float}
use Rattle.std.proofs.Math.Path.{sym, ap}
use Rattle.std.proofs.Common.{◌∙◌, subst, arith, leb-true, leb-false}
use Rattle.std.proofs.Math.Option.{Option}
use Rattle.std.proofs.Math.IntN.{+ℤ_assoc, +ℤ_idl}
use Rattle.laws.specs.Loop.{for_up}
use Rattle.outline.specs.Outline.{Outline}
use Rattle.topology.specs.Balance.{front_sumℤ, quad_sumℤ}
use Rattle.front.specs.declared.Corner.{Corner}
use Rattle.front.specs.State.{State}
use Rattle.front.specs.Place.{id_c, id_d, place}
use Rattle.front.specs.Sampling.{sampled_count}
use Rattle.front.specs.Sound.{Frame}
use Rattle.front.proofs.FrameLaws.{frame_same, frame_trans, frame_node}
use Rattle.paving.specs.Checks.{corners_of}
use Rattle.paving.specs.Advance.{with_snapshot}
use Rattle.paving.specs.Reach.{Placement, Reaches, begin, snapshot, placed}
use Rattle.books.specs.Book.{Book, Quad, quad_at, and_then, book_quad, start_book, book_after, edges_sumℤ, quad_edges}
use Rattle.books.specs.Net.{quads_edges}
use Rattle.books.proofs.NetBase.{sum_joined, quad_sum_lem}
use Rattle.books.proofs.BookBase.{frame_quad}
use Rattle.books.proofs.Step.{Stepped, answered_step}
use Rattle.books.proofs.Booked.{booked}
use Rattle.books.proofs.Snapshot.{snapshot_frame, snapshot_sound, snapshot_matches}
use Rattle.books_hold.proofs.StagesBase.{points_in, Turns, AnsweredQuad, Start, Stage, standing, QuadsTurn, StageOf}

-- ---- from one stage to the next

answered_more : (m n : ℕ) (final : State) (q : Quad) → m ≤ n → AnsweredQuad m final q → AnsweredQuad n final q
answered_more m n final q h A =
    record { a = omega (arith, A.a); b = omega (arith, A.b); d = omega (arith, A.d); c = omega (arith, A.c); turns = A.turns }

module _ (o : Outline) (size : Float) (s : State) (ls : List (List ℕ)) (final : State) where
  start_stage : Start o size s ls → Frame s final → Stage o size s ls final 0 s
  unfolding book_after quads_edges edges_sumℤ for_up
  start_stage S F =
      record {
        quads = S.none;
        earlier = frame_same s;
        later = F;
        loops = ls;
        sound = S.sound;
        number = refl;
        book = start_book o size;
        steps = refl;
        matches = S.matches;
        balance = λ w anti. sym (+ℤ_idl (front_sumℤ w ls));
        each = λ i h. absurd (omega arith);
      }

  snapshot_stage : (k : ℕ) (t : State) → Stage o size s ls final k t → Frame (with_snapshot t) final → Stage o size s ls final k (with_snapshot t)
  unfolding with_snapshot
  snapshot_stage k t S F =
      record {
        quads = S.quads;
        earlier = frame_trans s t (with_snapshot t) S.earlier (snapshot_frame t);
        later = F;
        loops = S.loops;
        sound = snapshot_sound (sampled_count o size) t S.loops S.sound;
        number = S.number;
        book = S.book;
        steps = S.steps;
        matches = snapshot_matches t S.loops S.book S.matches;
        balance = S.balance;
        each = S.each;
      }

  module _ (k : ℕ) (t : State) (a b : ℕ) (c d : Corner) (S : Stage o size s ls final k t) (P : Placement o size t a b c d)
      (turns : Turns (corners_of t a b c d)) (F : Frame (place a b c d t) final) where
    abbrev quad : Quad
    quad = record { a = a; b = b; d = id_d t c d; c = id_c t c }

    after : Stepped (sampled_count o size) t S.loops a b c d (place a b c d t)
    after = answered_step (sampled_count o size) t S.loops o size a b c d S.sound P

    -- the quad answered last
    last_quad : quad_at final k ≡ quad
    last_quad =
        ap (quad_at final) (sym S.quads)
        ∙ (frame_quad (place a b c d t) final F t.counts.quads (omega (arith, after.quads)) ∙ after.quad)

    last_sum : (w : ℕ → ℕ → ℤ) → quad_sumℤ w a b (id_d t c d) (id_c t c) ≡ edges_sumℤ w (quad_edges (quad_at final k))
    last_sum w = sym (ap (λ (q : Quad). edges_sumℤ w (quad_edges q)) last_quad ∙ quad_sum_lem w quad)

    last_points : points_in final quad ≡ corners_of t a b c d
    last_points =
        let u = place a b c d t in
        let more = after.frame.nodes in
        rw (
          frame_node u final F a (omega (arith, after.node_a)),
          frame_node u final F b (omega (arith, after.node_b)),
          frame_node t u after.frame a after.node_a,
          frame_node t u after.frame b after.node_b,
          frame_node u final F (id_c t c) after.node_c,
          frame_node u final F (id_d t c d) after.node_d,
          after.at_c,
          after.at_d,
        )

    last_answered : AnsweredQuad (place a b c d t).counts.nodes final (quad_at final k)
    last_answered =
        let more = after.frame.nodes in
        rw last_quad
        (record {
          a = omega (arith, after.node_a);
          b = omega (arith, after.node_b);
          d = after.node_d;
          c = after.node_c;
          turns = rw last_points turns;
        })

    each_answered : (i : ℕ) → i < suc k → AnsweredQuad (place a b c d t).counts.nodes final (quad_at final i)
    each_answered i h = by (leb (suc i) k) refl
      where
        by : (old : Bool) → leb (suc i) k ≡ old → AnsweredQuad (place a b c d t).counts.nodes final (quad_at final i)
        by true e = answered_more _ _ final (quad_at final i) after.frame.nodes (S.each i (leb-true (suc i) k e))
        by false e =
            let last : k ≡ i = omega (arith, leb-false (suc i) k e) in
            subst (λ (j : ℕ). AnsweredQuad (place a b c d t).counts.nodes final (quad_at final j)) last last_answered

    placed_stage : Stage o size s ls final (suc k) (place a b c d t)
    unfolding book_after quads_edges for_up
    placed_stage =
        let B = booked (sampled_count o size) t S.loops o size a b c d (place a b c d t) final S.sound P after F S.book S.matches in
        record {
          quads = omega (arith, after.quads, S.quads);
          earlier = frame_trans s t (place a b c d t) S.earlier after.frame;
          later = F;
          loops = after.loops;
          sound = after.sound;
          number = after.number ∙ S.number;
          book = B.book;
          steps =
              ap (λ (b : Option Book). and_then b (book_quad final (quad_at final k))) S.steps
              ∙ (ap (λ (i : ℕ). book_quad final (quad_at final i) S.book) (sym S.quads) ∙ B.through);
          matches = B.matches;
          balance = λ w anti.
              S.balance w anti
              ∙ (ap (λ (z : ℤ). edges_sumℤ w (quads_edges final k) +ℤ z)
              (after.balance w anti ∙ ap (λ (z : ℤ). z +ℤ front_sumℤ w after.loops) (last_sum w))
              ∙ (sym (+ℤ_assoc (edges_sumℤ w (quads_edges final k)) (edges_sumℤ w (quad_edges (quad_at final k))) (front_sumℤ w after.loops))
              ∙ ap (λ (z : ℤ). z +ℤ front_sumℤ w after.loops) (sym (sum_joined w (quads_edges final k) (quad_edges (quad_at final k))))));
          each = each_answered;
        }

-- ---- every state of a run

module _ (o : Outline) (size : Float) (s : State) (ls : List (List ℕ)) (S : Start o size s ls) where
  -- a placing comes after what was there
  place_frame : {k : ℕ} {t : State} {a b : ℕ} {c d : Corner} → Reaches o size s k t → Placement o size t a b c d → Frame t (place a b c d t)
  place_frame {t = t} {a = a} {b = b} {c = c} {d = d} r P =
      let Y = standing S.sound r in
      (answered_step (sampled_count o size) t Y.loops o size a b c d Y.sound P).frame

  module _ (turns : QuadsTurn o size s) (final : State) where
    -- the state reached by k quads
    pub stage_at : {k : ℕ} {t : State} → Reaches o size s k t → Frame t final → Stage o size s ls final k t
    stage_at begin F = start_stage o size s ls final S F
    stage_at (snapshot {k = k} {t = t} r) F =
        snapshot_stage o size s ls final k t (stage_at r (frame_trans t (with_snapshot t) final (snapshot_frame t) F)) F
    stage_at (placed {k = k} {t = t} {a = a} {b = b} {c = c} {d = d} r P) F =
        placed_stage o size s ls final k t a b c d (stage_at r (frame_trans t (place a b c d t) final (place_frame r P) F)) P
        (turns k t a b c d r P) F

    -- and that by any number of quads before
    pub stage_before : {k : ℕ} {t : State} → Reaches o size s k t → Frame t final → (j : ℕ) → j ≤ k → StageOf o size s ls final j
    stage_before begin F j h =
        let none : 0 ≡ j = omega arith in
        record { state = s; stage = subst (λ (i : ℕ). Stage o size s ls final i s) none (start_stage o size s ls final S F) }
    stage_before (snapshot {t = t} r) F j h = stage_before r (frame_trans t (with_snapshot t) final (snapshot_frame t) F) j h
    stage_before (placed {k = k} {t = t} {a = a} {b = b} {c = c} {d = d} r P) F j h =
        by (stage_at (placed r P) F) (λ i l. stage_before r (frame_trans t (place a b c d t) final (place_frame r P) F) i l) (leb j k) refl
      where
        by : Stage o size s ls final (suc k) (place a b c d t) → ((i : ℕ) → i ≤ k → StageOf o size s ls final i) → (old : Bool) → leb j k ≡ old
            → StageOf o size s ls final j
        by last before true e = before j (leb-true j k e)
        by last before false e =
            let all : suc k ≡ j = omega (arith, leb-false j k e) in
            record { state = place a b c d t; stage = subst (λ (i : ℕ). Stage o size s ls final i (place a b c d t)) all last }
