use Rattle.std.proofs.Common.{rules}
use Rattle.std.proofs.Output.{has_written_append, has_written_of_eq}
use Rattle.curve.specs.Pictures.{rule_text, rule}
use Rattle.curve.proofs.Plotted.{labels_more}
use Rattle.curve.proofs.svg.RulesDisplay.fmt.Goals as goal

pub loop-power-preserved : goal.loop-power-preserved
loop-power-preserved g c = λ plain.
    let line = c.of-rule.result in
    has_written_of_eq _ _ _ _ _
    (labels_more (rule c.args.self.now.wide) c.args.self.now.labels.now (λ label. label.now) c.loop-power.power _ (rule_text line.wide line.y line.label.now)
    c.loop-power-test.true c.of-rule.ensures)
    (has_written_append _ _ _ _ _ _ (c.loop-power.invariant plain) (search rules))
