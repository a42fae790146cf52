use Rattle.std.proofs.Common.{◌<◌, ◌≤◌, length, vec_items, refl, ◌∙◌, arith}
use Rattle.std.proofs.lemmas.Bool.{true≢false}
use Rattle.lines.proofs.Keeping.{kept_more, kept_full}
use Rattle.lines.proofs.input.Line.push.Goals as goal

pub returns-in_ok-push : goal.returns-in_ok-push
returns-in_ok-push c =
    let held = c.args.self.now.kept in
    let short : length (vec_items held) < 2081 = omega (arith, held.ok.0, c.len.ensures) in
    record {
      kept = λ _ line e. c.in_ok-push.ensures.items ∙ kept_more line (vec_items held) c.args.byte e short;
      refused = λ f. absurd (true≢false f);
    }

pub returns-else-len-lt-KEPT : goal.returns-else-len-lt-KEPT
returns-else-len-lt-KEPT c =
    let held = c.args.self.now.kept in
    let long : 2081 ≤ length (vec_items held) = omega (arith, held.ok.0, c.len.ensures) in
    record {
      kept = λ _ line e. kept_full line (vec_items held) c.args.byte e long;
      refused = λ _. refl;
    }
