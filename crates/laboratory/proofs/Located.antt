-- Where a text that is read by lines stands.
-- Assumes nothing.
use Rattle.std.proofs.Common.{◌≡◌, ℕ, ◌+◌, Bool, true, false, List, [], ◌∷◌, ◌++◌, Some, Ok, Err, Option, Result, length, sym, ap, ◌∙◌, subst, append_assoc, arith, inl, inr}
use Rattle.std.specs.Prelude.{◌&&◌, ◌==◌, codes, max, IfOk, MatchResult}
use Rattle.std.proofs.lemmas.Bool.{and_parts, eqb-true}
use Rattle.bits_text.specs.Texts.{Says}
use Rattle.bits_text.specs.Readings.{At, line_after}
use Rattle.bits_text.specs.declared.reader.BitsReader.{BitsReader}
use Rattle.bits_text.proofs.Lines.{feed_ends}
use Rattle.laboratory.specs.Counting.{left, Behind, Reads, Clear, ReadRefused, CountRefused}
use Rattle.laboratory.specs.Strays.{line_behind}
use Rattle.laboratory.specs.declared.counting.Blocks.{Blocks}
use Rattle.laboratory.specs.declared.trouble.Trouble.{Trouble}
use Rattle.laboratory.specs.declared.trouble.Trouble.TheVariants.{Chain, Bits, Unfinished, Value, Endless, Outside}
use Rattle.laboratory.proofs.TextSent.{line_more}

-- one byte more is read
pub behind_more : (old new : BitsReader) (text bits : List ℕ) (byte : ℕ) → At new (text ++ byte ∷ []) → Says (text ++ byte ∷ []) bits → old.line ≡ line_behind 1 text
    → new.line ≡ line_after old.line byte → Behind new (text ++ byte ∷ [])
behind_more old new text bits byte at said h e = record {
  place = at;
  bits = bits;
  said = said;
  line = e ∙ ap (λ n. line_after n byte) h ∙ sym (line_more 1 text byte);
}

-- a line feed ends any comment
pub clear_behind : (new : BitsReader) (text : List ℕ) (byte : ℕ) (full r : Bool) → At new (text ++ byte ∷ []) → r ≡ (byte == 10 && full) → r ≡ true → new.in_comment ≡ false
clear_behind new text byte full r at e ends = at.comment ∙ feed_ends text byte (eqb-true byte 10 (and_parts (byte == 10) full (sym e ∙ ends)).0)

-- a step over a byte
pub step_read : {R : Type 0} (remaining : R → Option (List ℕ)) (new : Blocks R) (name text rest whole : List ℕ) (byte : ℕ) (r : Result Bool Trouble)
    → left remaining new ≡ Some rest → whole ≡ (text ++ byte ∷ []) ++ rest
    → MatchResult r (λ _. Behind new.line.reader (text ++ byte ∷ [])) (λ e. (after : List ℕ) → ReadRefused name (text ++ byte ∷ after) e)
    → IfOk r (λ ends. ends ≡ true → new.line.reader.in_comment ≡ false)
    → MatchResult r (λ ends. Reads remaining new whole × (ends ≡ true → Clear new)) (λ e. ReadRefused name whole e)
step_read remaining new name text rest whole byte (Ok b) l cut h k = (
  record { text = text ++ byte ∷ []; rest = rest; left = l; cut = cut; behind = λ _. h },
  λ e _. k e,
)
step_read remaining new name text rest whole byte (Err t) l cut h k =
    subst (λ w. ReadRefused name w t) (sym (cut ∙ append_assoc text (byte ∷ []) rest)) (h rest)

-- one round more takes a block of each text that has one
pub round_both : (n : ℕ) (xs ys vs ws : List (List ℕ)) (v w : List ℕ) (most : ℕ) → xs ≡ v ∷ vs → ys ≡ w ∷ ws → n + max (length xs) (length ys) ≡ most → n + 1 + max (length vs) (length ws) ≡ most
round_both n xs ys vs ws v w most e f h = omega (arith, ap length e, ap length f, h)

pub round_first : (n : ℕ) (xs ys vs : List (List ℕ)) (v : List ℕ) (most : ℕ) → xs ≡ v ∷ vs → ys ≡ [] → n + max (length xs) (length ys) ≡ most → n + 1 + max (length vs) 0 ≡ most
round_first n xs ys vs v most e f h = omega (arith, ap length e, ap length f, h)

pub round_second : (n : ℕ) (xs ys ws : List (List ℕ)) (w : List ℕ) (most : ℕ) → xs ≡ [] → ys ≡ w ∷ ws → n + max (length xs) (length ys) ≡ most → n + 1 + max 0 (length ws) ≡ most
round_second n xs ys ws w most e f h = omega (arith, ap length e, ap length f, h)

pub sent_refused : (xs ys : List ℕ) (e : Trouble) → ReadRefused (codes "the first file") xs e → CountRefused xs ys e
sent_refused xs ys Endless h = absurd h
sent_refused xs ys (Bits name stray) h = inl h
sent_refused xs ys (Chain fault) h = inl h
sent_refused xs ys (Outside error) h = inl h
sent_refused xs ys (Unfinished bits long) h = absurd h
sent_refused xs ys (Value line) h = absurd h

pub shown_refused : (xs ys : List ℕ) (e : Trouble) → ReadRefused (codes "the second file") ys e → CountRefused xs ys e
shown_refused xs ys Endless h = absurd h
shown_refused xs ys (Bits name stray) h = inr h
shown_refused xs ys (Chain fault) h = inr h
shown_refused xs ys (Outside error) h = inr h
shown_refused xs ys (Unfinished bits long) h = absurd h
shown_refused xs ys (Value line) h = absurd h
