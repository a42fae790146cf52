use Rattle.std.proofs.Common.{◌≡◌, ◌+◌, ◌*◌, ◌<◌, false, length, get_or, vec_items, sym, ap, ◌∙◌, arith}
use Rattle.plan.specs.Plans.{plan_scheme}
use Rattle.code.specs.Numbers.{read}
use Rattle.code.specs.Sending.{location}
use Rattle.code.proofs.Accepted.{facts_of}
use Rattle.code.proofs.Loading.{loads_more, source_of}
use Rattle.code.proofs.run.Run.load.Goals as goal
use Rattle.code.proofs.run.Run.load.Goals.{In-loop-i}

-- the list is the plan's
listed : (c : In-loop-i) → c.as_slice-list.result.now ≡ (plan_scheme c.args.self.now.plan.now).entries
listed c = c.as_slice-list.ensures.value ∙ ap (λ p. vec_items p.send_list) c.parts.ensures

inside : (c : In-loop-i) → c.loop-i.i < length (plan_scheme c.args.self.now.plan.now).entries
inside c = omega (arith, c.loop-i-test.true, ap length (listed c))

-- what the entry names
entry : (c : In-loop-i) → get_or c.as_slice-list.result.now c.loop-i.i 0 ≡ get_or (plan_scheme c.args.self.now.plan.now).entries c.loop-i.i 0
entry c = ap (λ l. get_or l c.loop-i.i 0) (listed c)

pub loop-i-preserved : goal.loop-i-preserved
loop-i-preserved c =
    let s = plan_scheme c.args.self.now.plan.now in
    let known = facts_of c.args.self.now.plan.now in
    let here = (goal.at.loop-i-preserved c).In-loop-i in
    let word = c.args.word.now in
    let n = c.args.self.now.number * length s.entries in
    loads_more s known (read word) c.args.array.now c.loop-i.array n c.loop-i.i c.location_below.result (get_or word c.word_place.result false)
    c.loop-i.invariant
    (c.location_below.ensures.value ∙ ap (location s) c.sent_number.ensures.value)
    (ap (read word) (c.word_place.ensures.value ∙ ap (λ e. 2 * s.period * c.args.self.now.number + e) (entry here) ∙ sym (source_of s known c.args.self.now.number c.loop-i.i (inside here))))
