use Rattle.std.proofs.Common.{◌≡◌, eqb}
use Rattle.std.proofs.lemmas.Bool.Decides.{same_from_decides}
use Rattle.std.proofs.lemmas.Bool.{eqb-true, eq-eqb}
use Rattle.plan.specs.Questions.{coprime}
use Rattle.plan.proofs.Divisors.{SameDivisors, euclid_step, euclid_yes, euclid_no}
use Rattle.plan.proofs.questions.is_coprime.Goals as goal

pub loop-y-preserved : goal.loop-y-preserved
loop-y-preserved c = euclid_step c.loop-y.x c.loop-y.y c.args.a c.args.n c.loop-y.invariant

pub returns : goal.returns
returns c =
    let x = c.loop-y.x in
    let left : SameDivisors x 0 c.args.a c.args.n = rw c.loop-y-test.false at c.loop-y.invariant in
    same_from_decides {P = x ≡ 1} (eqb x 1) (coprime c.args.a c.args.n)
    (eqb-true x 1, eq-eqb x 1)
    (euclid_no x c.args.a c.args.n c.requires left, euclid_yes x c.args.a c.args.n left)
