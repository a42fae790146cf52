-- What a look of the session shows.
-- Assumes nothing.
use Rattle.std.proofs.Common.{◌≡◌, ℕ, ◌*◌, ◌/◌, ◌^◌, ◌≤◌, true, cond, leb, List, length, get_or, take, ℤ, is_ok, IfOk, Ok, Err, Result, ap, ◌∙◌, ⊎_elim, arith}
use Rattle.std.proofs.lemmas.Bool.{and_parts, leb-true, le-leb}
use Rattle.plan.specs.Questions.{plan_answer}
use Rattle.plan.specs.Scheme.{Scheme, sent_length}
use Rattle.plan.specs.declared.fault.ChainFault.{ChainFault}
use Rattle.plan.proofs.Facts.{facts}
use Rattle.code.specs.Numbers.{bits_of}
use Rattle.lines.specs.Plans.{size_fits}
use Rattle.score.specs.Blocks.{value_at}
use Rattle.score.specs.Kinds.{total_scale}
use Rattle.search.specs.Looking.{Found, Lengths, shown, search_answer}
use Rattle.search.specs.Searching.{memory}
use Rattle.trellis.proofs.Written.{overwritten_at, overwritten_length}
use Rattle.receiver.specs.Views.{View}
use Rattle.session.specs.Held.{Shows}

-- the memory of a session is enough for every small plan
pub small_enough : (s : Scheme) (l : Lengths) → plan_answer s ≡ 0 → size_fits s ≡ true → l.values ≡ 1024 → l.block ≡ s.block → l.old ≡ 256 → l.new ≡ 256 → l.marks ≡ 8192 → search_answer s l ≡ 0
small_enough s l accepted small values block old new marks =
    let parts = and_parts _ _ small in
    let low : s.block ≤ 256 = leb-true _ _ parts.0 in
    let sent : sent_length s ≤ 1024 = leb-true _ _ parts.1 in
    let states : 2 ^ memory s ≤ 256 =
    ⊎_elim (λ (e : s.constraint ≡ 7). rw e (omega arith)) (λ (e : s.constraint ≡ 9). rw e (omega arith)) (facts s accepted).constraint in
    let bytes : s.block * 2 ^ memory s / 8 ≤ 8192 =
    ⊎_elim (λ (e : s.constraint ≡ 7). rw e (omega arith)) (λ (e : s.constraint ≡ 9). rw e (omega arith)) (facts s accepted).constraint in
    let h1 : leb (sent_length s) l.values ≡ true = le-leb _ _ (omega arith) in
    let h2 : leb s.block l.block ≡ true = le-leb _ _ (omega arith) in
    let h3 : leb (2 ^ memory s) l.old ≡ true = le-leb _ _ (omega arith) in
    let h4 : leb (2 ^ memory s) l.new ≡ true = le-leb _ _ (omega arith) in
    let h5 : leb (s.block * 2 ^ memory s / 8) l.marks ≡ true = le-leb _ _ (omega arith) in
    simp (h1, h2, h3, h4, h5)

pub shows_from : (v : View) (values : List ℤ) (before now : List ℕ) → length before ≡ v.scheme.block → (r : Result ℕ ChainFault) →
    IfOk r (λ score. Found total_scale v.scheme (value_at (take (sent_length v.scheme) values)) (bits_of now) score) →
    now ≡ cond (is_ok r) (shown total_scale v.scheme (value_at (take (sent_length v.scheme) values)) before) before → IfOk r (λ score. Shows v values score now)
shows_from v values before now long (Ok score) found is = record {
  long = ap length is ∙ overwritten_length v.scheme.block _ before ∙ long;
  bits = λ i lt. ap (λ l. get_or l i 0) is ∙ overwritten_at v.scheme.block _ before i lt (omega arith);
  best = found;
}
shows_from v values before now long (Err e) found is = tt
