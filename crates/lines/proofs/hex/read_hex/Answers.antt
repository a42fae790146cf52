use Rattle.std.proofs.Common.{◌≡◌, ◌-◌, ◌<◌, ◌≤◌, ◌++◌, length, get_or, take, drop, vec_items, vec_len, vec_capacity, sym, refl, ap, ◌∙◌, subst, append-nil, arith, rules}
use Rattle.std.proofs.ByRecursion.{All-push}
use Rattle.std.proofs.lemmas.List.{nil_from_length}
use Rattle.std.proofs.lemmas.Bool.{cond-true, eqb-true, eqb-false}
use Rattle.lines.specs.Hex.{hex, Bytes}
use Rattle.lines.proofs.Digits.{hex_rest, hex_first, hex_odd, two_first, hex_more}
use Rattle.lines.proofs.hex.read_hex.Goals as goal

pub returns-in_default-byte_value : goal.returns-in_default-byte_value
returns-in_default-byte_value c = (
  refl,
  λ s.
      let rest = c.loop-rest.rest.now in
      let long : 2 ≤ length rest = search rules in
      let after = hex_rest (vec_items c.loop-rest.bytes) s.0 rest s.1 (s.2 ∙ sym c.loop-rest.invariant.1) in
      let first = hex_first after.0 (get_or rest 0 0) (get_or rest 1 0) (take (length rest - 2) (drop 2 rest)) after.1 (after.2 ∙ two_first rest long) in
      c.in_default-byte_value.ensures first.0 first.1 first.2,
)

pub loop-rest-preserved : goal.loop-rest-preserved
loop-rest-preserved c =
    let rest = c.loop-rest.rest.now in
    let long : 2 ≤ length rest = search rules in
    let front = vec_items c.loop-rest.bytes in
    let b = c.in-Some.byte in
    let room = c.loop-rest.invariant.2 in
    let there : vec_len c.loop-rest.bytes < vec_capacity c.loop-rest.bytes = omega arith in
    let taken = c.push.ensures.succeeds there in
    let grown = c.push.ensures.items ∙ cond-true _ _ _ taken in (
      subst Bytes (sym grown) (All-push (λ n. n < 256) front b c.loop-rest.invariant.0 c.in-Some.ensures.0),
      ap (λ l. hex l ++ take (length rest - 2) (drop 2 rest)) grown
          ∙ hex_more front rest c.args.text.now (take (length rest - 2) (drop 2 rest)) (get_or rest 0 0) (get_or rest 1 0) b
          c.loop-rest.invariant.1 (two_first rest long) c.in-Some.ensures.1,
      omega (arith, ap length (two_first rest long), c.push.ensures.upper_bound, c.push.ensures.capacity),
    )

pub returns-then-is_empty : goal.returns-then-is_empty
returns-then-is_empty c =
    let rest = c.loop-rest.rest.now in
    let none = nil_from_length rest (eqb-true (length rest) 0 (sym c.if-is_empty.ensures)) in (
      c.loop-rest.invariant.0,
      sym (append-nil (hex (vec_items c.loop-rest.bytes))) ∙ ap (λ l. hex (vec_items c.loop-rest.bytes) ++ l) (sym none) ∙ c.loop-rest.invariant.1,
    )

pub returns-else-is_empty : goal.returns-else-is_empty
returns-else-is_empty c = (
  refl,
  λ s.
      let rest = c.loop-rest.rest.now in
      let some = eqb-false (length rest) 0 (sym c.if-is_empty.ensures) in
      let few : length rest < 2 = search rules in
      let one : length rest ≡ 1 = omega arith in
      hex_odd (vec_items c.loop-rest.bytes) s.0 rest (s.2 ∙ sym c.loop-rest.invariant.1) one,
)
