-- Lines and their blocks.
-- Assumes nothing.
use Rattle.std.proofs.Common.{◌≡◌, ℕ, ◌+◌, ◌-◌, ◌<◌, Bool, true, false, cond, List, [], ◌∷◌, ◌++◌, map, length, sym, refl, ap, ◌∙◌, append_assoc, append-nil, arith}
use Rattle.std.specs.Prelude.{◌==◌}
use Rattle.std.specs.List.{flat_map}
use Rattle.std.proofs.lemmas.Bool.{ne_eqb, cond-false}
use Rattle.std.proofs.lemmas.List.{length_push}
use Rattle.bits_text.specs.Texts.{mark, marks, ends_inside, comment_after, Bits, digit, digits, block_line, Says}
use Rattle.bits_text.specs.Blocks.{line_bits, line_block, blocks_from}
use Rattle.bits_text.specs.Laws.{AllComeBack}
use Rattle.bits_text.proofs.Pushed.{digits_written, digit_marks, marks_push, ends_push, digits_same}

bits_of_digits : (bits : List ℕ) → map (λ d. d - 48) (digits bits) ≡ bits
bits_of_digits [] = refl
bits_of_digits (b ∷ bits) = let e : 48 + b - 48 ≡ b = omega arith in let f = bits_of_digits bits in cc

-- what a line says are its bits
pub line_bits_said : (line bits : List ℕ) → Says line bits → line_bits line ≡ bits
line_bits_said line bits h = ap (map (λ d. d - 48)) (sym h.written) ∙ bits_of_digits bits

-- the block of a line that says some bits
pub line_block_said : (line bits : List ℕ) → Says line bits → 0 < length bits → line_block line ≡ bits ∷ []
line_block_said line bits h some =
    let e = line_bits_said line bits h in
    let full : length (line_bits line) == 0 ≡ false = ap (λ l. length l == 0) e ∙ ne_eqb (length bits) 0 (λ z. omega arith) in
    cond-false (length (line_bits line) == 0) [] (line_bits line ∷ []) full ∙ ap (λ l. l ∷ []) e

-- the block of a line that says none
pub line_block_none : (line bits : List ℕ) → Says line bits → length bits ≡ 0 → line_block line ≡ []
line_block_none line bits h none =
    let e = line_bits_said line bits h in
    ap (λ l. cond (length l == 0) [] (l ∷ [])) e ∙ ap (λ n. cond (n == 0) [] (bits ∷ [])) none

-- a digit is no line feed
digit_goes_on : (b : ℕ) (line rest : List ℕ) → blocks_from line (digit b ∷ rest) ≡ blocks_from (line ++ digit b ∷ []) rest
digit_goes_on b line rest =
    elim (b == 0) as (λ v. blocks_from line (cond v 48 49 ∷ rest) ≡ blocks_from (line ++ cond v 48 49 ∷ []) rest) [
      | true ↦ refl
      | false ↦ refl
    ]

-- a line goes on to its line feed
goes_on : (line block rest : List ℕ) → blocks_from line (map digit block ++ 10 ∷ rest) ≡ line_block (line ++ map digit block) ++ blocks_from [] rest
goes_on line [] rest = ap (λ l. line_block l ++ blocks_from [] rest) (sym (append-nil line))
goes_on line (b ∷ block) rest =
    digit_goes_on b line (map digit block ++ 10 ∷ rest) ∙ goes_on (line ++ digit b ∷ []) block rest
    ∙ ap (λ l. line_block l ++ blocks_from [] rest) (append_assoc line (digit b ∷ []) (map digit block))

-- a line feed is no mark
feed : (block : List ℕ) → mark (ends_inside false (map digit block)) 10 ≡ []
feed block = elim (ends_inside false (map digit block)) as (λ v. mark v 10 ≡ []) [ true ↦ refl | false ↦ refl ]

plain_marks : (block : List ℕ) → marks false (map digit block) ≡ map digit block
plain_marks block = sym (append-nil (marks false (map digit block))) ∙ ap (λ l. marks false (map digit block) ++ l) (sym (feed block)) ∙ sym (marks_push false (map digit block) 10) ∙ digit_marks block

-- a block's digits are a line that says it
says_digits : (block : List ℕ) → Bits block → Says (map digit block) block
says_digits block h = record {
  binary = h;
  written = sym (plain_marks block ∙ digits_written block h);
}

pub all_come_back : AllComeBack
all_come_back [] h = refl
all_come_back (block ∷ bs) h =
    ap (blocks_from []) (append_assoc (map digit block) (10 ∷ []) (flat_map block_line bs))
    ∙ goes_on [] block (flat_map block_line bs)
    ∙ (λ i. line_block_said (map digit block) block (says_digits block h.0.1) h.0.0 i ++ all_come_back bs h.1 i)

pub feed_mark : (inside : Bool) → mark inside 10 ≡ []
feed_mark inside = elim inside as (λ v. mark v 10 ≡ []) [ true ↦ refl | false ↦ refl ]

-- a line feed is no bit
pub no_bit_in_feed : (line bits : List ℕ) (c b : ℕ) → Says line bits → Says (line ++ c ∷ []) (bits ++ b ∷ []) → c ≡ 10 → ⊥
no_bit_in_feed line bits c b h more e =
    let same = more.written ∙ marks_push false line c ∙ ap (λ n. marks false line ++ mark (ends_inside false line) n) e
    ∙ ap (λ l. marks false line ++ l) (feed_mark (ends_inside false line)) ∙ append-nil (marks false line) ∙ sym h.written in
    let equal : bits ++ b ∷ [] ≡ bits = digits_same (bits ++ b ∷ []) bits same in
    omega (arith, ap length equal, length_push bits b)

-- a line begins behind a line feed
pub feed_ends : (line : List ℕ) (c : ℕ) → c ≡ 10 → ends_inside false (line ++ c ∷ []) ≡ false
feed_ends line c e = ends_push false line c ∙ ap (comment_after (ends_inside false line)) e
