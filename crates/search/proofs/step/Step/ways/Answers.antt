use Rattle.std.proofs.Common.{rules, ◌≡◌, ℕ, ◌+◌, ◌*◌, ◌/◌, ◌^◌, ◌<◌, length, get_or, refl, ap, ◌∙◌, lit<, arith}
use Rattle.plan.specs.Plans.{plan_scheme}
use Rattle.plan.proofs.Facts.{facts}
use Rattle.code.specs.Numbers.{bit_of}
use Rattle.code.specs.Coding.{xor, pair}
use Rattle.score.specs.Blocks.{absorbed}
use Rattle.score.specs.Gathered.{held_both}
use Rattle.trellis.specs.Survivors.{before}
use Rattle.search.specs.Searching.{column}
use Rattle.search.specs.Stepping.{scale_of, way_of}
use Rattle.search.proofs.Parities.{turn, each_of_eight, way_absorbed, before_room, same_item}
use Rattle.search.proofs.step.Step.ways.Goals as goal

pub returns : goal.returns
returns g c =
    let step = c.args.self.now in
    let pass = step.pass.now in
    let k = scale_of pass in
    let scheme = plan_scheme pass.plan.now in
    let n = scheme.constraint in
    let m = pass.trellis.memory in
    let group = c.args.group in
    let scores = c.args.old.now.scores.now in
    let at : (i : ℕ) → i < 8 → (x : _) → x ≡ column k scores (before m c.args.bit (8 * group) + i / 2) → (b0 b1 : _) → b0 ≡ xor (turn i).0 c.parity-b0.result.0 → b1 ≡ xor (turn i).1 c.parity-b0.result.1 →
    get_or c.absorb_each-scores.result i k.start ≡ absorbed k c.as_slice.result.now b0 x → get_or c.absorb_each.result i k.start ≡ absorbed k c.as_slice-2.result.now b1 (get_or c.absorb_each-scores.result i k.start) →
    get_or c.absorb_each.result i k.start ≡ way_of step scores (8 * group + i) c.args.bit =
    λ i l x r b0 b1 e f y z. way_absorbed k n m (held_both step.values) (column k scores) (facts scheme pass.plan.now.accepted).constraint
    pass.trellis.row group i c.args.bit c.parity-b0.result b0 b1 x (get_or c.absorb_each-scores.result i k.start) (get_or c.absorb_each.result i k.start) _ _
    pass.trellis.rows l (c.parity-b0.ensures ∙ ap (λ w. pair n (bit_of n w)) c.window.ensures) e f r c.as_slice.ensures c.as_slice-2.ensures y z in
    let from = c.before-from.result in
    let read : (i j : ℕ) → j < 4 → from + j ≡ i → (x : _) → get_or scores i x ≡ column k scores (before m c.args.bit (8 * group) + j) =
    λ i j l e x. same_item scores i (before m c.args.bit (8 * group) + j) (2 ^ m) x k.start
    (omega (arith, c.before-from.ensures, e)) (omega (arith, c.before-from.ensures, e, before_room m group j c.args.bit c.requires.states l)) c.requires.room in
    let made = c.absorb_each-scores.ensures in
    let both = c.absorb_each.ensures in
    each_of_eight (λ i. get_or c.absorb_each.result i k.start ≡ way_of step scores (8 * group + i) c.args.bit)
    (at 0 (lit< tt) _ (read from 0 (lit< tt) (omega arith) _) _ _ refl refl (made 0 (lit< tt)) (both 0 (lit< tt)))
    (at 1 (lit< tt) _ (read from 0 (lit< tt) (omega arith) _) _ _ refl refl (made 1 (lit< tt)) (both 1 (lit< tt)))
    (at 2 (lit< tt) _ (read (from + 1) 1 (lit< tt) refl _) _ _ refl refl (made 2 (lit< tt)) (both 2 (lit< tt)))
    (at 3 (lit< tt) _ (read (from + 1) 1 (lit< tt) refl _) _ _ refl refl (made 3 (lit< tt)) (both 3 (lit< tt)))
    (at 4 (lit< tt) _ (read (from + 2) 2 (lit< tt) refl _) _ _ refl refl (made 4 (lit< tt)) (both 4 (lit< tt)))
    (at 5 (lit< tt) _ (read (from + 2) 2 (lit< tt) refl _) _ _ refl refl (made 5 (lit< tt)) (both 5 (lit< tt)))
    (at 6 (lit< tt) _ (read (from + 3) 3 (lit< tt) refl _) _ _ refl refl (made 6 (lit< tt)) (both 6 (lit< tt)))
    (at 7 (lit< tt) _ (read (from + 3) 3 (lit< tt) refl _) _ _ refl refl (made 7 (lit< tt)) (both 7 (lit< tt)))

pub offset_bounds-old-from : goal.offset_bounds-old-from
offset_bounds-old-from g c =
    let below : c.before-from.result < length c.args.old.now.scores.now =
    omega (arith, c.before-from.ensures, before_room c.args.self.now.pass.now.trellis.memory c.args.group 0 c.args.bit c.requires.states (lit< tt), c.requires.room) in
    search rules

pub offset_bounds-old-from-2 : goal.offset_bounds-old-from-2
offset_bounds-old-from-2 g c =
    let below : c.before-from.result + 1 < length c.args.old.now.scores.now =
    omega (arith, c.before-from.ensures, before_room c.args.self.now.pass.now.trellis.memory c.args.group 1 c.args.bit c.requires.states (lit< tt), c.requires.room) in
    search rules

pub offset_bounds-old-from-3 : goal.offset_bounds-old-from-3
offset_bounds-old-from-3 g c =
    let below : c.before-from.result + 2 < length c.args.old.now.scores.now =
    omega (arith, c.before-from.ensures, before_room c.args.self.now.pass.now.trellis.memory c.args.group 2 c.args.bit c.requires.states (lit< tt), c.requires.room) in
    search rules

pub offset_bounds-old-from-4 : goal.offset_bounds-old-from-4
offset_bounds-old-from-4 g c =
    let below : c.before-from.result + 3 < length c.args.old.now.scores.now =
    omega (arith, c.before-from.ensures, before_room c.args.self.now.pass.now.trellis.memory c.args.group 3 c.args.bit c.requires.states (lit< tt), c.requires.room) in
    search rules
