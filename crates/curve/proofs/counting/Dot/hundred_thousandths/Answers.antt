use Rattle.std.proofs.Common.{◌≡◌, subst, sym, rules}
use Rattle.curve.specs.Plots.{hundred_thousandths, IsNearest}
use Rattle.curve.proofs.Rated.{written_nearest}
use Rattle.curve.proofs.counting.Dot.hundred_thousandths.Goals as goal

pub returns-clause-nearest : goal.returns-clause-nearest
returns-clause-nearest c = λ some.
    let count = c.args.self.now.count in
    let value : c.unwrap_or.result ≡ hundred_thousandths count = search rules in
    subst (IsNearest count.bit_errors count.bits) (sym value) (written_nearest count some)
