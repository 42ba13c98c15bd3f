-- THE PROGRAM: the bytes that it prints for the bytes of its standard input (docs/FORMATS.md). Definitions only.
use Rattle.std.specs.Prelude.{List, ◌≡◌, ℕ, ◌≤◌, length, take, replicate, Float, Result, Ok, Err}
use Rattle.numbers.specs.Float.{zero_f}
use Rattle.outline.specs.declared.Settings.{Settings}
use Rattle.outline.specs.Outline.{Outline}
use Rattle.outline.specs.Queries.{answer_by}
use Rattle.paving.specs.Ends.{end_number}
use Rattle.run.specs.declared.Paved.{Paved}
use Rattle.run.specs.Run.{Lent, lent, Ran, run_answer}
use Rattle.file_outline.specs.File.{outline_of, file_refusal, request_of}
use Rattle.listing.specs.declared.Heading.{Heading}
use Rattle.listing.specs.Listing.{heading, refused_listing, listing}
use Rattle.listing.specs.Buffer.{buffer, buffer_written}

-- ---- what the program lends: 1,600 field nodes, 800 nodes, 800 quads, 2,400 edges

abbrev pub floats : ℕ → List Float
floats n = replicate n zero_f

abbrev pub numbers : ℕ → List ℕ
numbers n = replicate n 0

-- a field node has two values and a mark; a node two coordinates, two links, a place in the snapshot and the number of the loop that it came from, and it
-- may be listed; a quad has four ids, an edge two; a file has 8 loops at most
unfoldable pub program_lent : Lent
program_lent =
    lent (floats 3200) (numbers 1600) (floats 800) (floats 800) (numbers 800) (numbers 800) (numbers 800) (numbers 800) (numbers 3200) (numbers 4800)
    (numbers 800) (numbers 8)

-- ---- what it prints

-- of a run's answer what the first line says
unfoldable pub heading_of : Paved → Heading
heading_of r =
    heading r.counts.nodes r.counts.quads r.counts.front (end_number r.end) r.whole r.listed.count

-- or the refusal
abbrev pub headed : Result Paved ℕ → Result Heading ℕ
headed (Ok p) = Ok (heading_of p)
headed (Err number) = Err number

-- the listing of a run's answer, in the lists as the run leaves them
unfoldable pub ran_listing : Ran → List ℕ
ran_listing r =
    let l = r.lists in
    listing (headed r.answer) l.xs l.ys l.quads l.loops l.lengths

-- the listing of an outline: of its run, or of its refusal, 1 to 10
unfoldable pub outline_listing : Outline → Settings → List ℕ
outline_listing o set = ran_listing (run_answer o set program_lent)

-- refused 12 or 13, or the listing of what the file asks for
unfoldable pub program_listing : List ℕ → List ℕ
program_listing file =
    let request = request_of file in
    answer_by refused_listing (outline_listing (outline_of request) request.settings) (file_refusal file)

-- ---- what a caller gets: a buffer as it was and as it is left, with n bytes written

pub record ListingGiven (l before after : List ℕ) (n : ℕ) : Type 0 where
  -- as much of the listing l as the buffer has places for; the other places keep their contents
  pub same : buffer after n ≡ buffer_written l before
  -- a buffer so long has places for any listing
  pub whole : 117681 ≤ length before → take n after ≡ l
  -- so the first n bytes can be lent
  pub counts : (n ≤ length after) × (n ≡ length (take n after))
