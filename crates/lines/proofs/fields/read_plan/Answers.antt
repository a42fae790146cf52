use Rattle.std.proofs.Common.{◌≡◌, ◌≤◌, length, refl, ap, arith, length-drop, rules}
use Rattle.std.proofs.lemmas.List.{take_rest}
use Rattle.std.proofs.lemmas.Result.{err_from_is_err_and}
use Rattle.lines.proofs.Fielded.{plan_long, three_first}
use Rattle.lines.proofs.fields.read_plan.Goals as goal

pub returns-then-rest-entries : goal.returns-then-rest-entries
returns-then-rest-entries c = (
  refl,
  λ s.
      let bytes = c.args.bytes.now in
      omega (arith, plan_long bytes s.0 s.1, ap length (take_rest bytes 3), length-drop 3 bytes, c.if-rest-entries.true, c.from-entries.ensures),
)

pub returns-in_err-parts : goal.returns-in_err-parts
returns-in_err-parts c =
    let p = err_from_is_err_and c.from_residual.result c.from_residual.ensures.1 in
    let bytes = c.args.bytes.now in
    let h = c.in_err-parts.ensures in
    rw (p.1, p.2) (
      h.0,
      λ s.
          let nine : length c.split_at.result.1.now ≡ 9 = omega (arith, plan_long bytes s.0 s.1, ap length (take_rest bytes 3), length-drop 3 bytes, c.split_at.ensures.back_len, c.from-entries.ensures) in
          h.1 nine,
    )

pub returns : goal.returns
returns c =
    let bytes = c.args.bytes.now in
    let long : 3 ≤ length bytes = search rules in (
      refl,
      c.in_ok-parts.ensures.0,
      cc (c.in_ok-parts.ensures.1, three_first bytes long, c.split_at.ensures.front_len, c.split_at.ensures.by_index.0, c.from-entries.ensures),
    )
