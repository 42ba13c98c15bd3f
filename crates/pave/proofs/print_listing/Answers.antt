-- The buffer has places for the whole listing, and what was read decides it.
use Rattle.std.proofs.Common.{◌≡◌, ◌≤◌, arith, length, take, sym}
use Rattle.file_listing.specs.Program.{program_listing}
use Rattle.pave.proofs.Printed.{printed}
use Rattle.pave.proofs.print_listing.Goals as goal

pub returns : goal.returns
returns g c =
    let n = c.in_ok-n.n in
    let bytes = c.read_full.new.bytes in
    let written = c.list_file-written.new.out in
    let long : length bytes ≡ 4609 = omega arith in
    let within : n ≤ length bytes = c.in_ok-n.ensures.counts.0 in
    let count : length (take n bytes) ≡ n = sym c.in_ok-n.ensures.counts.1 in
    let few : length (take n bytes) ≤ 4609 = omega arith in
    let listed : take c.list_file-written.result written ≡ program_listing (take n bytes) = c.list_file-written.ensures.whole (omega arith) in
    printed c.write_all.result (g.R.Read.remaining c.args.input.now) (g.R.Read.remaining c.read_full.new.input)
    (g.W.Write.contents c.args.output.now) (g.W.Write.contents c.write_all.new.self) (take n bytes) (take c.list_file-written.result written)
    few c.in_ok-n.ensures.taken (λ less. c.in_ok-n.ensures.ends (omega (arith, less, count, long))) listed c.write_all.ensures.bytes
