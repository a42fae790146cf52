use Rattle.std.proofs.Common.{◌≡◌, ◌-◌, ◌/◌, ◌<◌, ◌≤◌, ◌++◌, min, length, drop, ap, ◌∙◌, arith}
use Rattle.std.proofs.lemmas.List.{take-append-drop}
use Rattle.plan.proofs.Facts.{facts}
use Rattle.plan.specs.Faults.{chain_number, outcome}
use Rattle.plan.specs.Plans.{plan_scheme}
use Rattle.search.specs.Looking.{search_answer}
use Rattle.replay.specs.Given.{given}
use Rattle.replay.specs.Ledger.{lent_of}
use Rattle.replay.proofs.Kept.{part_long}
use Rattle.replay.proofs.Looked.{block_back, found_back}
use Rattle.replay.proofs.looking.look_lent.Goals as goal

pub returns : goal.returns
returns g c =
    let a = c.args in
    let s = plan_scheme a.receiver.now.plan in
    let k = g.K.Kind.scale a.kind.now in
    let values = a.memory.now in
    let block = a.block.now in
    let whole = given values block a.scores.now a.marks.now in
    let l = lent_of whole a.lent in
    let count = c.min-values.result in
    let n = c.min-size.result in
    let lent_values : count ≡ min a.lent.memory (length values) = c.min-values.ensures in
    let lent_block : n ≡ min a.lent.block (length block) = c.min-size.ensures in
    let lent_marks : c.min-bytes.result ≡ min a.lent.marks (length a.marks.now) = c.min-bytes.ensures in
    let first = c.split_at_mut-first.result.0.now in
    let second = c.split_at_mut-first.result.1.now in
    let scores = length a.scores.now in
    let old_part : c.min-states.result ≡ min a.lent.old (length first) = c.min-states.ensures in
    let new_part : c.min-ends.result ≡ min a.lent.new (length second) = c.min-ends.ensures in
    let rest : length second ≡ scores - scores / 2 = omega (arith, c.split_at_mut-first.ensures.back_len) in
    let answered : outcome chain_number c.look.result ≡ search_answer s l =
    c.look.ensures.answer
    ∙ (λ x. search_answer s (record {
      values = part_long count a.lent.memory values lent_values x;
      block = part_long n a.lent.block block lent_block x;
      old = (part_long c.min-states.result a.lent.old first old_part ∙ ap (min a.lent.old) c.split_at_mut-first.ensures.front_len) x;
      new = (part_long c.min-ends.result a.lent.new second new_part ∙ ap (min a.lent.new) rest) x;
      marks = part_long c.min-bytes.result a.lent.marks a.marks.now lent_marks x;
    })) in
    let low : 0 < s.block = omega (arith, (facts s a.receiver.now.plan.accepted).block_low) in
    let room : n ≤ length block = omega arith in
    record {
      answer = answered;
      found = found_back k s l n count values block c.look.new.block lent_block room lent_values low c.look.result answered c.look.ensures.block c.look.ensures.found;
      block = block_back k s l n count values block c.look.new.block lent_block room lent_values c.look.result answered c.look.ensures.block;
      marks = λ e. ap (λ l. l ++ drop c.min-bytes.result a.marks.now) (c.look.ensures.marks e) ∙ take-append-drop c.min-bytes.result a.marks.now;
    }
