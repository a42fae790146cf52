use Rattle.std.proofs.Common.{◌≡◌, ap, subst, inl, inr, refl, arith, rules}
use Rattle.curve.specs.Words.{bytes_of, NamesRow, SetsAll, CanRun, row_words, option_words, usual_of}
use Rattle.curve.proofs.Requests.{cut_words}
use Rattle.curve.proofs.request.run_of.Goals as goal

pub returns-then-can_run : goal.returns-then-can_run
returns-then-can_run c =
    let words = cut_words c.args.words.now c.split_at.result.0.now c.split_at.result.1.now c.numbers_in_front.result c.numbers_in_front.ensures.place
    c.split_at.ensures.front c.split_at.ensures.back in
    let run = c.in_ok-run.run' in
    let sets : SetsAll (option_words (bytes_of c.args.words.now)) (usual_of c.in_ok-choice.choice) run =
    subst (λ l. SetsAll l (usual_of c.in_ok-choice.choice) run) words.1 (subst (λ r. SetsAll (bytes_of c.split_at.result.1.now) r run) c.of.ensures c.in_ok-run.ensures) in
    (c.in_ok-choice.choice, subst (λ l. NamesRow l c.in_ok-choice.choice) words.0 c.in_ok-choice.ensures, sets, c.if-can_run.ensures)

pub returns-else-can_run : goal.returns-else-can_run
returns-else-can_run c =
    let words = cut_words c.args.words.now c.split_at.result.0.now c.split_at.result.1.now c.numbers_in_front.result c.numbers_in_front.ensures.place
    c.split_at.ensures.front c.split_at.ensures.back in
    let run = c.in_ok-run.run' in
    let sets : SetsAll (option_words (bytes_of c.args.words.now)) (usual_of c.in_ok-choice.choice) run =
    subst (λ l. SetsAll l (usual_of c.in_ok-choice.choice) run) words.1 (subst (λ r. SetsAll (bytes_of c.split_at.result.1.now) r run) c.of.ensures c.in_ok-run.ensures) in
    inr (inr (c.in_ok-choice.choice, run, subst (λ l. NamesRow l c.in_ok-choice.choice) words.0 c.in_ok-choice.ensures, sets, c.if-can_run.ensures, refl))
