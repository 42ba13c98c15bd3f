-- What holds of the definitions of specs/Laws.antt.
use Rattle.std.specs.Prelude.{◌≡◌, List, [], ℕ, zero, suc, ◌*◌, ◌/◌, ◌≤◌, length, get_or, take, drop, Float, Result, Ok, Err}
use Rattle.std.proofs.Math.Path.{refl, ap}
use Rattle.std.proofs.Common.{sym, ◌∙◌, subst, arith, length-append, length-take-le}
use Rattle.laws.specs.Overlay.{overlay, overlay_length}
use Rattle.laws.specs.Tabulate.{tabulate_length, tabulate_at}
use Rattle.laws.proofs.Sums.{sum_term}
use Rattle.outline.specs.declared.Settings.{Settings}
use Rattle.outline.specs.Outline.{Outline}
use Rattle.outline.specs.Queries.{answer_by}
use Rattle.run.specs.declared.Paved.{Paved}
use Rattle.run.specs.Run.{Lent, Paves}
use Rattle.file_outline.specs.declared.Head.{Head}
use Rattle.file_outline.specs.File.{block_at, head_loops, head_length, head_points, coordinate_at, file_points, file_refusal, Request, request_of, outline_of}
use Rattle.file_outline.specs.File.{head_of, Reading, reading, read_as, read_file}
use Rattle.file_outline.specs.ReadLaws.{accepted_file}
use Rattle.file_outline.proofs.Lent.{lent_outline_lem}
use Rattle.file_outline.proofs.Enough.{enough}
use Rattle.listing.specs.Listing.{refused_listing, listing}
use Rattle.listing.specs.Buffer.{Buffer, buffer, buffer_written}
use Rattle.listing.proofs.Fits.{refused_fits, listing_fits, written_front}
use Rattle.file_listing.specs.Program.{program_lent, headed, ran_listing, outline_listing, program_listing, ListingGiven}
use Rattle.file_listing.specs.Laws.{RequestHeld, held_outline}

-- ---- the buffer

-- the same listing by another name
pub given_as : {l m before after : List ℕ} {n : ℕ} → l ≡ m → ListingGiven l before after n → ListingGiven m before after n
given_as {before = before} {after = after} {n = n} e = subst (λ (k : List ℕ). ListingGiven k before after n) e

within : (l before after : List ℕ) (n : ℕ) → buffer after n ≡ buffer_written l before → n ≤ length after
unfolding buffer_written
within l before after n e =
    let cut = take (length before) l in
    rw (ap (λ (b : Buffer). b.used) e, ap (λ (b : Buffer). b.bytes) e, length-append cut (drop (length cut) before)) (omega arith)

pub given_whole : {l before after : List ℕ} {n : ℕ} → buffer after n ≡ buffer_written l before → length l ≤ 117681 → ListingGiven l before after n
given_whole {l} {before} {after} {n} e h =
    let w = within l before after n e in
    record { same = e; whole = λ room. written_front l before after n (omega arith) e; counts = (w, sym (length-take-le n after w)) }

-- ---- the run

-- the lists that are listed are as long as the program's
pub record ProgramLengths (l : Lent) : Type 0 where
  pub xs : length l.xs ≡ 800
  pub quads : length l.quads ≡ 3200
  pub loops : length l.loops ≡ 800
  pub lengths : length l.lengths ≡ 8

module _ (o : Outline) (set : Settings) {r : Result Paved ℕ} {after : Lent} (p : Paves o set program_lent r after) where
  abbrev listed : List ℕ
  listed = listing (headed r) after.xs after.ys after.quads after.loops after.lengths

  listed_is : listed ≡ outline_listing o set
  unfolding outline_listing ran_listing
  listed_is = ap ran_listing p.equal

  pub run_listed : ProgramLengths after → {s t : List ℕ} {n : ℕ} → buffer t n ≡ buffer_written listed s → ListingGiven (outline_listing o set) s t n
  run_listed long f =
      given_as listed_is
      (given_whole f
      (listing_fits (headed r) after.xs after.ys after.quads after.loops after.lengths (omega (arith, long.xs))
      (omega (arith, long.quads)) (omega (arith, long.loops)) (omega (arith, long.lengths))))

-- ---- the request

-- what a file asks for that isn't refused
record Asked (q : Request) : Type 0 where
  even : 2 * (length q.coordinates / 2) ≡ length q.coordinates
  outer : 2 * get_or q.lengths 0 0 ≤ length q.coordinates
  few : length q.coordinates ≤ 496
  some : 1 ≤ length q.lengths
  loops : length q.lengths ≤ 8

asked : (file : List ℕ) → file_refusal file ≡ 0 → Asked (request_of file)
unfolding request_of head_points
asked file e =
    let h = block_at file 0 in
    let n = file_points file in
    let sound = (accepted_file file e).head.sound in
    let coordinates = tabulate_length (2 * n) (coordinate_at file) in
    let lengths = tabulate_length (head_loops h) (head_length h) in
    let first = tabulate_at (head_loops h) (head_length h) 0 0 sound.some in
    let term = sum_term (head_length h) 0 (head_loops h) sound.some in
    record {
      even = omega (arith, coordinates);
      outer = rw (first, coordinates) (omega arith);
      few = omega (arith, coordinates, sound.points);
      some = rw lengths sound.some;
      loops = rw lengths sound.few;
    }

module _ (q : Request) (a : Asked q) (points : List Float) (lens : List ℕ) where
  held : length points ≡ 496 → length lens ≡ 8 → RequestHeld (overlay q.coordinates points) (overlay q.lengths lens) (head_of q)
  unfolding head_of
  held long longs = record {
    outer = omega (arith, a.even, a.outer);
    few = omega (arith, a.few);
    some = a.some;
    loops = a.loops;
    point_places = overlay_length q.coordinates points (omega (arith, a.few)) ∙ long;
    lens_places = overlay_length q.lengths lens (omega (arith, a.loops)) ∙ longs;
  }

-- ---- what was read

-- its listing, refused or not
abbrev read_listing : Reading → List ℕ
read_listing r =
    let head = r.numbers.head in
    answer_by refused_listing (outline_listing (held_outline r.points r.lens head) head.settings) r.numbers.refusal

-- what it tells of the lists, by its number
abbrev ToldBy : ℕ → Reading → Type 0
ToldBy zero r = RequestHeld r.points r.lens r.numbers.head
ToldBy (suc n) r = Unit {0}

abbrev Told : Reading → Type 0
Told r = ToldBy r.numbers.refusal r

module _ (file : List ℕ) (points : List Float) (lens : List ℕ) where
  listing_read : read_listing (read_file file points lens) ≡ program_listing file
  unfolding read_file program_listing head_of
  listing_read = go (file_refusal file) refl
    where
      q : Request
      q = request_of file

      go : (n : ℕ) → file_refusal file ≡ n
          → read_listing (read_as n q points lens) ≡ answer_by refused_listing (outline_listing (outline_of q) q.settings) n
      go zero e = ap (λ (o : Outline). outline_listing o q.settings) (lent_outline_lem file e points lens)
      go (suc n) e = refl

  told_read : length points ≡ 496 → length lens ≡ 8 → Told (read_file file points lens)
  unfolding read_file
  told_read long longs = go (file_refusal file) refl
    where
      q : Request
      q = request_of file

      go : (n : ℕ) → file_refusal file ≡ n → Told (read_as n q points lens)
      go zero e = held q (asked file e) points lens long longs
      go (suc n) e = tt

  -- what the code has in hand: the answer r of `read_file`
  module _ {r : Result Head ℕ} {points' : List Float} {lens' : List ℕ} (e : reading r points' lens' ≡ read_file file points lens)
      (long : length points ≡ 496) (longs : length lens ≡ 8) where
    told : {answer : Result Head ℕ} → r ≡ answer → Told (reading answer points' lens')
    told case =
        subst Told (ap (λ (a : Result Head ℕ). reading a points' lens') case) (subst Told (sym e) (told_read long longs))

    listed_as : {answer : Result Head ℕ} → r ≡ answer → read_listing (reading answer points' lens') ≡ program_listing file
    listed_as case = ap (λ (a : Result Head ℕ). read_listing (reading a points' lens')) (sym case) ∙ (ap read_listing e ∙ listing_read)

    -- where it is read
    pub read_held : {head : Head} → r ≡ Ok head → RequestHeld points' lens' head
    read_held case = told case

    pub read_listed : {head : Head} → r ≡ Ok head → outline_listing (held_outline points' lens' head) head.settings ≡ program_listing file
    read_listed case = listed_as case

    -- where it is refused: with a number, since no outline has no loop
    pub refused_number : (n : ℕ) → r ≡ Err n → n ≡ 0 → ⊥
    refused_number zero case z = absurd (omega (arith, (told case).some))
    refused_number (suc n) case z = omega arith

    pub refused_as : (n : ℕ) → r ≡ Err n → refused_listing n ≡ program_listing file
    refused_as zero case = absurd (omega (arith, (told case).some))
    refused_as (suc n) case = listed_as case

-- ---- a refusal

pub refused_listed : (number : ℕ) {s t : List ℕ} {n : ℕ} → buffer t n ≡ buffer_written (refused_listing number) s
    → ListingGiven (refused_listing number) s t n
refused_listed number e = given_whole e (refused_fits number)

-- ---- endless input

pub start_decides : (file : List ℕ) → program_listing (take 4609 file) ≡ program_listing file
start_decides file =
    sym (listing_read (take 4609 file) [] [])
    ∙ ap read_listing (enough file [] [])
    ∙ listing_read file [] []
