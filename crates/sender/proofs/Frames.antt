-- The places of a frame, and the values for the symbols there.
-- Assumes nothing.
use Rattle.std.proofs.Common.{◌≡◌, ℕ, ◌+◌, ◌*◌, ◌/◌, ◌%◌, ◌<◌, ◌≤◌, true, eqb, ltb, leb, Some, sym, ap, ◌∙◌, mod-eq_of_lt, mul_comm, zero-add, mul-le-mul_right, arith}
use native.Mathlib.Nat.{mod-add-mod, mul-div_cancel, zero-div, suc-mul, div-mul-le_self}
use Rattle.std.proofs.Math.Arith.{mod-mul}
use Rattle.std.proofs.lemmas.Nat.{mod_below, div-add-mod'}
use Rattle.std.proofs.lemmas.Bool.{and_parts, leb-true, lt-ltb, cond-true}
use Rattle.plan.specs.Scheme.{Scheme, sent_length}
use Rattle.plan.proofs.Facts.{Facts}
use Rattle.scrambler.specs.Meaning.{Meaning, reach, value_at}
use Rattle.sender.specs.Scrambling.{needed_width, fits}
use Rattle.sender.specs.Transmission.{symbols, value_for}

-- the place in its frame of a symbol, by the first symbol of the frame
pub place_is : (first place frame : ℕ) → first % frame ≡ 0 → place < frame → place ≡ (first + place) % frame
place_is first place frame starts h =
    sym (mod-eq_of_lt h) ∙ ap (λ n. n % frame) (sym (zero-add place)) ∙ ap (λ n. (n + place) % frame) (sym starts) ∙ mod-add-mod first frame place

none_times : (a b : ℕ) → 0 < b → a * b ≡ 0 → a ≡ 0
none_times a b h e = sym (mul-div_cancel a h) ∙ ap (λ n. n / b) e ∙ zero-div b

-- the symbols of a block are whole frames
pub frames_whole : (s : Scheme) → Facts s → symbols s / s.frame * s.frame ≡ symbols s
frames_whole s known =
    let n = sent_length s in
    let parts = mod-mul n {m = s.frame} {c = s.bits} known.frame_low known.bits_low in
    let sum : n / s.bits % s.frame * s.bits ≡ 0 = omega (arith, parts, known.frame_whole, ap (λ d. n % d) (mul_comm s.frame s.bits)) in
    let rest : symbols s % s.frame ≡ 0 = none_times (n / s.bits % s.frame) s.bits known.bits_low sum in
    omega (arith, div-add-mod' (symbols s) s.frame, mul_comm (symbols s / s.frame) s.frame, rest)

-- a frame among all frames
pub frame_within : (frame size total : ℕ) → frame < total / size → frame * size + size ≤ total
frame_within frame size total h =
    let le = mul-le-mul_right size h in
    omega (arith, le, suc-mul frame size, div-mul-le_self total size)

-- a scrambler that fits has a value for every symbol
pub value_found : (s : Scheme) (m : Meaning) → 1 ≤ s.frame → fits s m ≡ true → (i place : ℕ) → place ≡ i % s.frame → value_at m place ≡ Some (value_for s m i)
value_found s m low fit i place e =
    let long = leb-true s.frame (reach m) (and_parts (eqb m.width (needed_width s.bits)) (leb s.frame (reach m)) fit).1 in
    let below = mod_below i s.frame low in
    ap (value_at m) e ∙ cond-true (ltb (i % s.frame) (reach m)) _ _ (lt-ltb (i % s.frame) (reach m) (omega arith))
