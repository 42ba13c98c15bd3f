-- The run's answer as it crosses to the host: the refusal's number, 0 where nothing is refused, and the values. Definitions only.
use Rattle.std.specs.Prelude.{ℕ, false, Result, Ok, Err}
use Rattle.numbers.specs.Float.{zero_f}
use Rattle.paving.specs.Ends.{end_number}
use Rattle.run.specs.declared.Paved.{Paved}
use Rattle.run_pave_answer.specs.declared.PaveAnswer.{PaveAnswer}

-- all else is 0 on a refusal
abbrev pub refused_run : ℕ → PaveAnswer
refused_run number =
    record {
      refusal = number;
      end = 0;
      whole = false;
      xmin = zero_f;
      ymin = zero_f;
      h = zero_f;
      nx = 0;
      ny = 0;
      nodes = 0;
      quads = 0;
      edges = 0;
      front = 0;
      loops = 0;
      ids = 0;
    }

-- of the run: its end, whether it is whole, the field record's floats and counts, and the counts of the paving and of the loops listed
unfoldable pub pave_numbers : Result Paved ℕ → PaveAnswer
pave_numbers (Err number) = refused_run number
pave_numbers (Ok p) =
    record {
      refusal = 0;
      end = end_number p.end;
      whole = p.whole;
      xmin = p.grid.xmin;
      ymin = p.grid.ymin;
      h = p.grid.h;
      nx = p.grid.nx;
      ny = p.grid.ny;
      nodes = p.counts.nodes;
      quads = p.counts.quads;
      edges = p.counts.edges;
      front = p.counts.front;
      loops = p.listed.count;
      ids = p.listed.ids;
    }
