use Rattle.std.proofs.Common.{◌∙◌, ap, refl, rules}
use Rattle.std.proofs.lemmas.Iterator.{YieldsList-from_range}
use Rattle.std.proofs.lemmas.Iterator.Consumers.{YieldsList-from_filter, YieldsList-from_scan, count_from_yields_List}
use Rattle.std.specs.Float.{float_one}
use Rattle.std.specs.Float.Ieee.{le}
use Rattle.curve.proofs.Rated.{lower, one_by_bits, steps_counted}
use Rattle.curve.proofs.svg.steps_below.Goals as goal

pub returns : goal.returns
returns c =
    count_from_yields_List _ c.count.result c.count.ensures.ran
    (YieldsList-from_filter _ (λ at. le c.args.rate at)
    (YieldsList-from_scan _ lower lower float_one (YieldsList-from_range 0 100 100 (search rules) refl) (ap (λ s. s.state) c.filter.ensures.source ∙ c.scan.ensures.state ∙ one_by_bits) (search rules)
    (λ b x r q at k. search rules)) c.filter.ensures.closure (λ x b q k. search rules))
    ∙ steps_counted c.args.rate
