-- The block that the search picks is the best of all blocks, by the score of a block.
-- Assumes nothing.
use Rattle.std.proofs.Common.{◌≡◌, ℕ, zero, suc, ◌%◌, ◌^◌, ◌<◌, ◌≤◌, Bool, true, false, eqb, List, length, ℤ, sym, refl, ap, ◌∙◌, subst, ⊎_elim, mod-lt, arith}
use Rattle.plan.specs.Scheme.{Scheme}
use Rattle.plan.proofs.Facts.{Facts}
use Rattle.code.specs.Coding.{pair, coded}
use Rattle.code.specs.Numbers.{digit, num, bit_of, bits_of}
use Rattle.code.proofs.Windows.{pair_num}
use Rattle.score.specs.Scale.{Scale, Lawful}
use Rattle.score.specs.Blocks.{step_score, score_after, block_score}
use Rattle.score.proofs.BlockLaws.{step_monotone}
use Rattle.trellis.specs.Steps as Trellis
use Rattle.trellis.specs.Steps.{Ordered, around, path_score}
use Rattle.trellis.specs.Survivors.{prefix, mark}
use Rattle.trellis.specs.Choice.{final, winner, picked, back}
use Rattle.trellis.specs.Marks.{marked, overwritten}
use Rattle.trellis.proofs.Columns.{back_same}
use Rattle.trellis.proofs.Start.{picked_is_best}
use Rattle.trellis.proofs.Written.{overwritten_at, overwritten_same}
use Rattle.search.specs.Searching.{memory, steps}
use Rattle.search.specs.Looking.{Found, shown}

digit_bit : (b : Bool) → eqb (digit b) 1 ≡ b
digit_bit true = refl
digit_bit false = refl

module _ {S : Type 0} (k : Scale S) (s : Scheme) (values : ℕ → ℤ) where
  -- a block's path through the trellis takes the steps of the block
  path_is : Facts s → (u : ℕ → Bool) (t : ℕ) → path_score (steps k s values) (memory s) (around s.block u) t ≡ score_after k s values u t
  path_is f u zero = refl
  path_is f u (suc t) =
      let w = around s.block u in
      let high : suc (memory s) ≡ s.constraint = ⊎_elim (λ e. omega arith) (λ e. omega arith) f.constraint in
      ap (λ n. step_score k s values t (pair s.constraint (bit_of s.constraint (num w n t))) (path_score (steps k s values) (memory s) w t)) high
      ∙ ap (λ p. step_score k s values t p (path_score (steps k s values) (memory s) w t)) (pair_num s.constraint w t f.constraint)
      ∙ ap (step_score k s values t (coded s u t)) (path_is f u t)

  score_is : Facts s → (u : ℕ → Bool) → Trellis.block_score (steps k s values) (memory s) s.block u ≡ block_score k s values u
  unfolding block_score
  score_is f u = path_is f u s.block

  -- only the bits of the block count
  score_same : (u v : ℕ → Bool) → 0 < s.block → ((i : ℕ) → i < s.block → u i ≡ v i) →
      Trellis.block_score (steps k s values) (memory s) s.block u ≡ Trellis.block_score (steps k s values) (memory s) s.block v
  score_same u v h same = ap (λ w. path_score (steps k s values) (memory s) w s.block) (λ j i. same (i % s.block) (mod-lt i h) j)

  -- the steps keep the order of the scores
  pub ordered : Lawful k → Ordered (steps k s values)
  ordered l = record {
    total = l.total;
    transitive = l.transitive;
    monotone = λ t w a b h. step_monotone k l s values t (pair s.constraint (bit_of s.constraint w)) a b h;
  }

  pub found : Lawful k → Facts s → (u : ℕ → Bool) (score : S) → ((i : ℕ) → i < s.block → u i ≡ picked (steps k s values) (memory s) s.block i) →
      score ≡ final (steps k s values) (memory s) s.block (winner (steps k s values) (memory s) s.block (2 ^ memory s)) → Found k s values u score
  found l f u score picks e =
      let st = steps k s values in
      let m = memory s in
      let small : m < s.block = ⊎_elim (λ c. omega (arith, f.block_low)) (λ c. omega (arith, f.block_low)) f.constraint in
      let best = picked_is_best st (ordered l) m s.block small in
      record {
        picks = picks;
        scores = e ∙ best.scores ∙ score_same (picked st m s.block) u (omega (arith, f.block_low)) (λ i b. sym (picks i b)) ∙ score_is f u;
        beats = λ v. subst (λ x. k.no_worse score x ≡ true) (score_is f v) (subst (λ x. k.no_worse x (Trellis.block_score st m s.block v) ≡ true) (sym e) (best.beats v));
      }

  -- the bits of a memory over which the block is written
  pub shown_bits : (bytes : List ℕ) (i : ℕ) → i < s.block → s.block ≤ length bytes → bits_of (shown k s values bytes) i ≡ picked (steps k s values) (memory s) s.block i
  shown_bits bytes i l h =
      let u = picked (steps k s values) (memory s) s.block in
      ap (λ n. eqb n 1) (overwritten_at s.block u bytes i l (omega arith)) ∙ digit_bit (u i)

  -- the marks of the winner's pass trace the picked block
  pub shown_is : (marks : List ℕ) (m size lead : ℕ) (bytes after : List ℕ) → m ≡ memory s → size ≡ s.block → lead < 2 ^ m →
      lead ≡ winner (steps k s values) m size (2 ^ m) →
      ((t i : ℕ) → t < size → i < 2 ^ m → marked m marks t i ≡ mark (steps k s values) m (prefix m m lead) t i) →
      after ≡ overwritten size (back m (marked m marks) size lead) bytes → after ≡ shown k s values bytes
  shown_is marks m size lead bytes after p q l e agrees r =
      let st = steps k s values in
      r ∙ overwritten_same size _ _ bytes (λ i _. back_same m (marked m marks) (mark st m (prefix m m lead)) size lead i l agrees)
      ∙ ap (λ x. overwritten size (back m (mark st m (prefix m m x)) size x) bytes) e
      ∙ ap (λ n. overwritten n (picked st m n) bytes) q
      ∙ ap (λ n. overwritten s.block (picked st n s.block) bytes) p
