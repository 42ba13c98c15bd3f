-- What the code of a query asks of an outline that isn't refused: it needs no blocks. And `nearest_given`: the segment answered is named. Assumes nothing.
use Rattle.std.specs.Prelude.{List, ◌≡◌, refl, ℕ, zero, suc, length, Ok, Err}
use Rattle.std.proofs.Common.{arith}
use Rattle.outline.specs.declared.Point.{Point}
use Rattle.outline.specs.Outline.{Outline, outline_refusal, point_refusal, query_refusal}
use Rattle.outline.specs.Queries.{nearest_segment, answer_by}
use Rattle.outline.specs.Accepted.{OutlineFits, PointFits, first_zero}
use Rattle.outline_blocks.specs.Blocks.{Drawn}
use Rattle.outline_blocks.proofs.BlockLaws.{drawn_none}
use Rattle.outline_nearest.specs.Named.{Named}
use Rattle.outline_nearest.proofs.NamedLaws.{named}
use Rattle.outline_queries.specs.declared.NearestAnswer.{NearestAnswer}
use Rattle.outline_queries.specs.Answers.{nearest_answer, nearest_numbers, near_of, NearestGiven}

pub query_drawn : (o : Outline) (p : Point) {blocks : List ℕ} → query_refusal o p ≡ 0 → OutlineFits o → length blocks ≡ 0 → Drawn o blocks
unfolding query_refusal
query_drawn o p e f none = drawn_none (first_zero (outline_refusal o) (point_refusal p) e).0 f none

pub nearest_given : (o : Outline) (p : Point) → OutlineFits o → PointFits p → {r : NearestAnswer} → r ≡ nearest_numbers (nearest_answer o p) → NearestGiven o p r
unfolding nearest_answer nearest_numbers query_refusal
nearest_given o p f g e = record { equal = e; named = rw e (answered (query_refusal o p) refl) }
  where
    answered : (n : ℕ) → query_refusal o p ≡ n
        → let r = nearest_numbers (answer_by Err (Ok (nearest_segment o p)) n) in r.refusal ≡ 0 → Named o p (near_of r)
    answered zero h none = let z = first_zero (outline_refusal o) (point_refusal p) h in named o p f g z.0 z.1
    answered (suc n) h none = absurd (omega arith)
