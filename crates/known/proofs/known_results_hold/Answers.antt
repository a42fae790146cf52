use Rattle.std.proofs.Common.{refl}
use Rattle.code.specs.Coding.{mother}
use Rattle.code.specs.Mapping.{symbol_at, symbol_of}
use Rattle.code.specs.Sending.{interleaved, location}
use Rattle.sender.specs.Scrambling.{scrambled}
use Rattle.sender.specs.Transmission.{index_at, transmission}
use Rattle.known.specs.Results.{KnownResults}
use Rattle.known.proofs.known_results_hold.Goals as goal

known : KnownResults
unfolding mother interleaved location symbol_at symbol_of scrambled index_at transmission
known = record {
  seven = refl;
  nine = refl;
  sent = refl;
  located = refl;
  located_by_two = refl;
  symbols = refl;
  three = refl;
  four = refl;
  two = refl;
  total = refl;
  worst = refl;
  counted = refl;
}

pub returns : goal.returns
returns c = known
