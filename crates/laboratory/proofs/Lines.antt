-- Reading the blocks of a text a line at a time.
-- Assumes nothing.
use Rattle.std.proofs.Common.{◌≡◌, ℕ, ◌<◌, Bool, true, false, cond, not, List, [], ◌∷◌, ◌++◌, length, Some, None, Ok, Err, Option, Result, sym, refl, ap, ◌∙◌, subst, ⊎_elim, arith}
use Rattle.std.specs.Prelude.{◌==◌, ◌&&◌, if◌then◌else◌}
use Rattle.std.specs.Io.Iter.{bytes_remaining}
use Rattle.std.specs.Io.KnownBytes.{Consumes}
use Rattle.std.proofs.lemmas.Bool.{ne_eqb, cond-false}
use Rattle.std.proofs.lemmas.Bool.Decides.{eqb_tells}
use Rattle.std.proofs.lemmas.List.{nil_from_length}
use Rattle.bits_text.specs.Texts.{Says}
use Rattle.bits_text.specs.Readings.{At}
use Rattle.bits_text.specs.Blocks.{line_block, blocks_from, blocks}
use Rattle.bits_text.proofs.Lines.{line_block_said, line_block_none, no_bit_in_feed, feed_ends}
use Rattle.laboratory.specs.Counting.{Holds, LineTaken, left, Stands, Stepped, Advanced}
use Rattle.laboratory.specs.declared.counting.BlockLine.{BlockLine}
use Rattle.laboratory.specs.declared.counting.Blocks.{Blocks}
use Rattle.laboratory.specs.declared.trouble.Trouble.{Trouble}

-- a byte that is no line feed goes into the line
line_goes_on : (line rest : List ℕ) (c : ℕ) → (c ≡ 10 → ⊥) → blocks_from line (c ∷ rest) ≡ blocks_from (line ++ c ∷ []) rest
line_goes_on line rest c ne = cond-false (c == 10) (line_block line ++ blocks_from [] rest) (blocks_from (line ++ c ∷ []) rest) (ne_eqb c 10 ne)

-- a line feed ends it
line_ends : (line rest : List ℕ) (c : ℕ) → c ≡ 10 → blocks_from line (c ∷ rest) ≡ line_block line ++ blocks_from [] rest
line_ends line rest c e = ap (λ n. cond (n == 10) (line_block line ++ blocks_from [] rest) (blocks_from (line ++ n ∷ []) rest)) e

held : (new : BlockLine) (line bits more : List ℕ) → At new.reader line → Says line bits → new.bits.items ≡ bits → Holds new line
held new line bits more at said e = record { place = at; said = subst (Says line) (sym e) said }

-- a bit more
pub taken_bit : (new : BlockLine) (line bits : List ℕ) (c b : ℕ) → Says line bits → At new.reader (line ++ c ∷ []) → Says (line ++ c ∷ []) (bits ++ b ∷ []) → new.bits.items ≡ bits ++ b ∷ [] → LineTaken line c new (Ok false)
taken_bit new line bits c b h at said e =
    (line ++ c ∷ [], held new (line ++ c ∷ []) (bits ++ b ∷ []) [] at said e, λ rest. line_goes_on line rest c (no_bit_in_feed line bits c b h said))

-- a line feed behind bits
fed_full : (new : BlockLine) (line bits : List ℕ) (c : ℕ) → Says line bits → new.bits.items ≡ bits → c ≡ 10 → (length bits ≡ 0 → ⊥) → LineTaken line c new (Ok true)
fed_full new line bits c h e f some = λ rest.
    let long : 0 < length bits = omega (arith, some) in
    line_ends line rest c f ∙ ap (λ l. l ++ blocks_from [] rest) (line_block_said line bits h long) ∙ ap (λ b. b ∷ blocks_from [] rest) (sym e)

-- a line feed with no bits before it
fed_empty : (new : BlockLine) (line bits : List ℕ) (c : ℕ) → Says line bits → At new.reader (line ++ c ∷ []) → new.bits.items ≡ bits → c ≡ 10 → length bits ≡ 0 → LineTaken line c new (Ok false)
fed_empty new line bits c h at e f none =
    let empty : new.bits.items ≡ [] = e ∙ nil_from_length bits none in
    let start : At new.reader [] = record { comment = at.comment ∙ feed_ends line c f } in
    let nothing : Says [] [] = record { binary = tt; written = refl } in
    ([], held new [] [] [] start nothing empty, λ rest. line_ends line rest c f ∙ ap (λ l. l ++ blocks_from [] rest) (line_block_none line bits h none))

-- no bit more
pub taken_none : (new : BlockLine) (line bits : List ℕ) (c : ℕ) (r : Bool) → Says line bits → At new.reader (line ++ c ∷ []) → Says (line ++ c ∷ []) bits → new.bits.items ≡ bits → r ≡ (c == 10 && not (length bits == 0)) → LineTaken line c new (Ok r)
taken_none new line bits c r h at said e q =
    subst (λ b. LineTaken line c new (Ok b)) (sym q)
    (⊎_elim
    (λ feed. ⊎_elim
    (λ none. subst (λ b. LineTaken line c new (Ok b)) (λ i. sym feed.0 i && not (sym none.0 i)) (fed_empty new line bits c h at e feed.1 none.1))
    (λ some. subst (λ b. LineTaken line c new (Ok b)) (λ i. sym feed.0 i && not (sym some.0 i)) (fed_full new line bits c h e feed.1 some.1))
    (eqb_tells (length bits) 0))
    (λ other. subst (λ b. LineTaken line c new (Ok b)) (λ i. sym other.0 i && not (length bits == 0))
    (line ++ c ∷ [], held new (line ++ c ∷ []) bits [] at said e, λ rest. line_goes_on line rest c other.1))
    (eqb_tells c 10))

-- the byte that was read, and those behind it
pub known_next : (old new : Option (List ℕ)) (b : ℕ) (xs : List ℕ) → Consumes old new (b ∷ []) → old ≡ Some xs → (ys : List ℕ) × (new ≡ Some ys) × (xs ≡ b ∷ ys)
known_next None new b xs h e = absurd (let f : None ≡ Some xs = e in cc)
known_next (Some zs) None b xs h e = absurd h
known_next (Some zs) (Some ys) b xs h e = let f : Some zs ≡ Some xs = e in let same : zs ≡ xs = cc in (ys, refl, sym same ∙ h)

pub step_taken : {R : Type 0} (remaining : R → Option (List ℕ)) (new : Blocks R) (line xs : List ℕ) (b : ℕ) (ys : List ℕ) (r : Result Bool Trouble)
    → left remaining new ≡ Some ys → xs ≡ b ∷ ys → LineTaken line b new.line r → Stepped remaining line xs new r
step_taken remaining new line xs b ys (Ok true) e f h = (ys, e, ap (blocks_from line) f ∙ h ys)
step_taken remaining new line xs b ys (Ok false) e f h = (h.0, ys, record { holds = h.1; rest = e }, ap (blocks_from line) f ∙ h.2 ys)
step_taken remaining new line xs b ys (Err t) e f h = tt

some_same : (xs ys : List ℕ) → Some xs ≡ Some ys → xs ≡ ys
some_same xs ys e = cc

-- the text has ended
pub advanced_end : {R : Type 0} (remaining : R → Option (List ℕ)) (b : Blocks R) (line xs ys : List ℕ) (r : Bool)
    → Stands remaining b line ys → b.ended ≡ true → blocks xs ≡ blocks_from line ys → r ≡ (length b.line.bits.items == 0) → Advanced remaining xs b (Ok (not r))
advanced_end remaining b line xs ys r s ended same q =
    let none : left remaining b ≡ Some [] = ap (λ v. if v then Some [] else bytes_remaining remaining b.bytes) ended in
    let over : ys ≡ [] = some_same ys [] (sym s.rest ∙ none) in
    let last = same ∙ ap (blocks_from line) over in
    ⊎_elim
    (λ empty. subst (λ v. Advanced remaining xs b (Ok (not v))) (sym (q ∙ empty.0)) (none, last ∙ line_block_none line b.line.bits.items s.holds.said empty.1))
    (λ some.
    let long : 0 < length b.line.bits.items = omega (arith, some.1) in
    subst (λ v. Advanced remaining xs b (Ok (not v))) (sym (q ∙ some.0)) ([], none, last ∙ line_block_said line b.line.bits.items s.holds.said long))
    (eqb_tells (length b.line.bits.items) 0)
