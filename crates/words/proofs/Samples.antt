-- What the manual says of messages and of words of the command line is what the definitions compute.
use mathlib.Core.Path.{refl}
use Rattle.lines.specs.Decimal.{decimal, digits_in}
use Rattle.words.specs.Samples.{AsInManual}

pub as_in_manual : AsInManual
unfolding decimal digits_in
as_in_manual = record {
  ends = refl;
  no_reading = refl;
  not_taken = refl;
  hyphen = refl;
  two_hyphens = refl;
  help = refl;
  option = refl;
  refused = refl;
  part = refl;
}
