use Rattle.std.proofs.Common.{◌≡◌, ap, ◌∙◌, rules}
use Rattle.channel.specs.Fractions.{summed}
use Rattle.channel.proofs.generator.Generator.draw_normal.Goals as goal

pub returns-clause-value : goal.returns-clause-value
returns-clause-value c =
    let all : c.loop.counter ≡ 12 = search rules in
    c.loop.invariant.1 ∙ ap (summed c.args.self.now.state) all
