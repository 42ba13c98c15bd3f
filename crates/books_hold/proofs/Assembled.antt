-- The books of a run from a start on: what holds after each quad, and at the end, put together.
use Rattle.std.specs.Prelude.{ℕ, List, ◌≡◌, length, Float}
use Rattle.std.proofs.Common.{sym, ◌∙◌, ap, subst}
use Rattle.std.proofs.Math.Option.{some}
use Rattle.exact.specs.Units.{units}
use Rattle.outline.specs.Outline.{Outline}
use Rattle.front.specs.State.{State}
use Rattle.front.specs.Sampling.{loop_count, sampled_count}
use Rattle.front.proofs.FrameLaws.{frame_same}
use Rattle.paving.specs.Reach.{Reaches}
use Rattle.books.specs.Book.{Book, quad_at, book_after}
use Rattle.books.specs.Holds.{HoldsAfter, Closes, BooksHold}
use Rattle.books.proofs.Areas.{areas_balance}
use Rattle.books.proofs.Points.{quad_holds_covers, points_balance}
use Rattle.books_hold.proofs.StagesBase.{Start, Stage, QuadsTurn}
use Rattle.books_hold.proofs.Stages.{stage_at, stage_before}
use Rattle.books_hold.proofs.Areas.{start_joins, net_edges, quads_turn}
use Rattle.books_hold.proofs.Fronts.{loops_hold, counts_hold, closes}

module _ (o : Outline) (size : Float) (s : State) (ls : List (List ℕ)) (S : Start o size s ls) (number : length ls ≡ loop_count o) where
  holds_after : (final : State) (k : ℕ) (t : State) → Stage o size s ls final k t → HoldsAfter o size final k
  holds_after final k t Y =
      let E = net_edges o size s ls S final k t Y in
      let Q = quads_turn o size s ls final k t Y in
      record {
        book = Y.book;
        steps = Y.steps;
        edges = E;
        areas = areas_balance o size final k Y.book Y.steps (start_joins o size s ls S) units E;
        quads = Q;
        covers = λ i h. quad_holds_covers Y.book (quad_at final i) (Q i h);
        points = points_balance o size final k Y.book Y.steps (start_joins o size s ls S) E Q;
        loops = loops_hold (sampled_count o size) t Y.loops Y.book Y.sound Y.matches o (Y.number ∙ number);
        counts = rw Y.quads at (counts_hold (sampled_count o size) t Y.loops Y.book Y.sound Y.matches);
      }

  -- the book that the last quad leaves is the one that the stage has
  closes_at : (k : ℕ) (t : State) → Stage o size s ls t k t → (b : Book) → book_after o size t t.counts.quads ≡ some b
      → Closes o t b
  closes_at k t Y b e =
      let last : some Y.book ≡ some b = sym Y.steps ∙ (ap (book_after o size t) (sym Y.quads) ∙ e) in
      let same : Y.book ≡ b = cc in
      subst (λ (c : Book). Closes o t c) same (closes (sampled_count o size) t Y.loops Y.book Y.sound Y.matches o)

  -- where each quad placed turns left, the books of every state that is reached hold
  pub reached_hold : (turns : QuadsTurn o size s) {k : ℕ} {t : State} → Reaches o size s k t → BooksHold o size t
  reached_hold turns {k} {t} r =
      let Y = stage_at o size s ls S turns t r (frame_same t) in
      record {
        each = λ j h.
            let W = stage_before o size s ls S turns t r (frame_same t) j (rw Y.quads at h) in
            holds_after t j W.state W.stage;
        closes = closes_at k t Y;
      }
