use Rattle.std.proofs.Common.{◌≡◌, ◌+◌, ◌*◌, ◌<◌, List, [], ◌∷◌, ◌++◌, length, get_or, Some, ℤ, vec_items, sym, ap, ◌∙◌, subst, arith, w16}
use Rattle.std.proofs.lemmas.Bool.{lt-ltb}
use Rattle.std.proofs.lemmas.Int.{to_z-of_z}
use Rattle.plan.specs.Plans.{plan_scheme}
use Rattle.plan.specs.declared.parts.Parts.{Parts}
use Rattle.code.specs.Sending.{location}
use Rattle.code.proofs.Accepted.{facts_of}
use Rattle.score.specs.Blocks.{value_at}
use Rattle.score.specs.Gathered.{held}
use Rattle.score.specs.declared.gathered.BitValues.{BitValues}
use Rattle.score.proofs.Gatherings.{Found, found_none, found_more, found_same, found_all}
use Rattle.score.proofs.gathered.gathering.named.Goals as goal
use Rattle.score.proofs.gathered.gathering.named.Goals.{then-from-wanted, else-from-wanted}

pub loop-i-init : goal.loop-i-init
loop-i-init c =
    let s = plan_scheme c.args.run.now.plan.now in (
      c.as_slice-list.ensures.value ∙ ap (λ (p : Parts). vec_items p.send_list) c.parts.ensures,
      omega arith,
      subst (λ (found : List ℤ). Found s (value_at c.args.memory.now) c.args.run.now.number c.args.wanted found 0) (sym c.none-found.ensures.0) (found_none s (value_at c.args.memory.now) c.args.run.now.number c.args.wanted),
    )

pub push-requires : goal.push-requires
push-requires c =
    let s = plan_scheme c.args.run.now.plan.now in
    let f = facts_of c.args.run.now.plan.now in
    let e : length c.as_slice-list.result.now ≡ length s.entries = ap length c.loop-i.invariant.0 in
    omega arith

pub loop-i-preserved : goal.loop-i-preserved
loop-i-preserved c =
    let s = plan_scheme c.args.run.now.plan.now in
    let values = value_at c.args.memory.now in
    let j = c.args.run.now.number in
    let i = c.loop-i.i in
    let same = c.loop-i.invariant.0 in
    let e : length c.as_slice-list.result.now ≡ length s.entries = ap length same in
    let b : i < length s.entries = omega arith in
    let x : c.from.result ≡ get_or s.entries i 0 = c.from.ensures ∙ ap (λ xs. get_or xs i 0) same in
    let old = held c.loop-i.found in
    let Whole : List ℤ → Type 0 = λ found. Found s values j c.args.wanted found (i + 1) in
    elim c.if-from-wanted.branch [
      | then-from-wanted w ↦
          let some : w.location.result ≡ Some (location s (j * length s.entries + i)) = rw (lt-ltb i (length s.entries) b) at w.location.ensures in
          let here : w.unwrap.result ≡ location s (j * length s.entries + i) = cc in
          let v : w.read.result ≡ values (location s (j * length s.entries + i)) = w.read.ensures ∙ ap values here in
          let new = ap held w.found-is ∙ w.push.ensures.0 ∙ ap (λ x. old ++ (x ∷ [])) (to_z-of_z w16 w.read.result (record { sfits = w.read.type_inv }) ∙ v) in (
            same,
            omega (arith, ap (λ (b : BitValues). b.count) w.found-is, w.push.ensures.1),
            subst Whole (sym new) (found_more s values j c.args.wanted old i b (sym x ∙ w.if-from-wanted.true) c.loop-i.invariant.2),
          )
      | else-from-wanted w ↦ (
        same,
        omega (arith, ap (λ (b : BitValues). b.count) w.found-is),
        subst Whole (sym (ap held w.found-is)) (found_same s values j c.args.wanted old i b (λ q. w.if-from-wanted.false (x ∙ q)) c.loop-i.invariant.2),
      )
    ]

pub returns : goal.returns
returns c =
    let s = plan_scheme c.args.run.now.plan.now in
    let e : length c.as_slice-list.result.now ≡ length s.entries = ap length c.loop-i.invariant.0 in
    found_all s (value_at c.args.memory.now) c.args.run.now.number c.args.wanted (held c.loop-i.found) c.loop-i.i (omega arith) c.loop-i.invariant.2
