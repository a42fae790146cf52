-- Which step of a block takes which sent bit.
-- Assumes nothing.
use Rattle.std.proofs.Common.{◌≡◌, ℕ, ◌+◌, ◌*◌, ◌/◌, ◌%◌, ◌<◌, length, get_or, mod-lt, div-add-mod', arith}
use Rattle.std.proofs.lemmas.Nat.{mul-add-lt, div-mul-add, mod-mul-add, div_below}
use Rattle.plan.specs.Scheme.{Scheme, sent_length}
use Rattle.plan.proofs.Facts.{Facts}
use Rattle.code.specs.Sending.{source}
use Rattle.code.proofs.Blocks.{below_get_or}

module _ (s : Scheme) (f : Facts s) where
  -- the sent bit at place i of step t's run, by its entry
  pub source_is : (t i half : ℕ) → i < length s.entries → get_or s.entries i 0 ≡ 2 * (t % s.period) + half → source s (t / s.period * length s.entries + i) ≡ 2 * t + half
  source_is t i half g e =
      let d = div-mul-add (t / s.period) (length s.entries) i g in
      let m = mod-mul-add (t / s.period) (length s.entries) i g in
      let w = div-add-mod' t s.period in
      rw (d, m, e) (omega arith)

-- where a sent bit is taken: its step, its place in the send list, and which of the step's pair it is
pub record Taken (s : Scheme) (n : ℕ) : Type 0 where
  pub step : ℕ
  pub place : ℕ
  pub half : ℕ
  pub step_below : step < s.block
  pub place_below : place < length s.entries
  pub half_below : half < 2
  pub entry_is : get_or s.entries place 0 ≡ 2 * (step % s.period) + half
  pub sent_is : step / s.period * length s.entries + place ≡ n

pub taken : (s : Scheme) → Facts s → (n : ℕ) → n < sent_length s → Taken s n
taken s f n h =
    let p = s.period in
    let m = length s.entries in
    let j = n / m in
    let i = n % m in
    let e = get_or s.entries i 0 in
    let low : 0 < p = f.period_low in
    let i_below : i < m = mod-lt n f.entries_low in
    let e_below : e < 2 * p = below_get_or (2 * p) s.entries i f.entries_below i_below in
    let half_way : e / 2 < p = omega arith in
    let j_below : j < s.block / p = div_below n m (s.block / p) f.entries_low h in
    let run : (j * p + e / 2) / p ≡ j = div-mul-add j p (e / 2) half_way in
    let rest : (j * p + e / 2) % p ≡ e / 2 = mod-mul-add j p (e / 2) half_way in
    let whole = div-add-mod' s.block p in
    let none = f.block_whole in
    let inside = mul-add-lt j p (e / 2) (s.block / p) j_below half_way in
    record {
      step = j * p + e / 2;
      place = i;
      half = e % 2;
      step_below = omega arith;
      place_below = i_below;
      half_below = omega arith;
      entry_is = rw rest (omega arith);
      sent_is = rw run (div-add-mod' n m);
    }
