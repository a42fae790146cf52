-- What the test of the memories says.
-- Assumes nothing.
use Rattle.std.proofs.Common.{◌≡◌, ℕ, ◌*◌, ◌/◌, ◌^◌, ◌≤◌, true, sym, subst}
use Rattle.std.proofs.lemmas.Bool.{and_parts, leb-true}
use Rattle.plan.specs.Scheme.{Scheme}
use Rattle.search.specs.Searching.{memory}
use Rattle.search.specs.Looking.{Lengths, long_enough}

pub record Room (s : Scheme) (m size : ℕ) (l : Lengths) : Type 0 where
  pub block : s.block ≤ l.block
  pub old : 2 ^ m ≤ l.old
  pub new : 2 ^ m ≤ l.new
  pub marks : size * 2 ^ m / 8 ≤ l.marks

pub room : (s : Scheme) (m size : ℕ) (l : Lengths) → m ≡ memory s → size ≡ s.block → long_enough s l ≡ true → Room s m size l
room s m size l p q t =
    let a = and_parts _ _ t in
    let b = and_parts _ _ a.0 in
    let c = and_parts _ _ b.0 in
    let d = and_parts _ _ c.0 in
    record {
      block = leb-true _ _ d.1;
      old = subst (λ n. 2 ^ n ≤ l.old) (sym p) (leb-true _ _ c.1);
      new = subst (λ n. 2 ^ n ≤ l.new) (sym p) (leb-true _ _ b.1);
      marks = subst (λ n. n * 2 ^ m / 8 ≤ l.marks) (sym q) (subst (λ n. s.block * 2 ^ n / 8 ≤ l.marks) (sym p) (leb-true _ _ a.1));
    }
