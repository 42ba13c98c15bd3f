-- What holds of the definitions of specs/Theorem.antt.
use Rattle.small_quads_lattice.specs.Fours.{accepted_four}
use Rattle.small_quads_lattice.proofs.Same.{fours_same}
use Rattle.small_quads_lattice.proofs.Order.{fours_written, numbers_below_are, dictionary, every_four, accepted_any_start}
use Rattle.small_quads_lattice.specs.Theorem.{EverySmallQuad}

pub every_small_quad : EverySmallQuad
every_small_quad = record {
  written = fours_written accepted_four;
  exactly = numbers_below_are accepted_four 65536;
  ordered = dictionary;
  asked = every_four;
  starts = accepted_any_start;
  integers = fours_same;
}
