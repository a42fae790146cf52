-- Lines that are answered in order: which of an input they are, and what a writer then holds.
-- Assumes nothing.
use Rattle.std.proofs.Common.{◌≡◌, ℕ, ◌≤◌, List, [], ◌++◌, length, take, Some, None, Ok, Err, Option, Result, sym, refl, ap, ◌∙◌, append_assoc, arith}
use Rattle.std.specs.Prelude.{◌==◌, if◌then◌else◌}
use Rattle.std.specs.Result.{OnOk}
use Rattle.std.specs.Io.Buffered.{reader_buffer, reader_capacity, reader_inner, reader_remaining}
use Rattle.std.specs.Io.KnownBytes.{Appends, prepend_known}
use Rattle.std.specs.declared.io.buffered.BufReader.{BufReader}
use Rattle.std.proofs.lemmas.List.{append-nil, take_all, take-append-le}

pub appends_none : (a : Option (List ℕ)) → Appends a a []
appends_none None = tt
appends_none (Some xs) = sym (append-nil xs)

pub appends_both : (a b c : Option (List ℕ)) (x y : List ℕ) → Appends a b x → Appends b c y → Appends a c (x ++ y)
appends_both None b c x y h k = tt
appends_both (Some xs) None c x y h k = absurd h
appends_both (Some xs) (Some ys) None x y h k = absurd k
appends_both (Some xs) (Some ys) (Some zs) x y h k = k ∙ ap (λ l. l ++ y) h ∙ append_assoc xs x y

pub on_ok : {X E : Type 0} (r : Result X E) (P Q : Type 0) → (P → Q) → OnOk r P → OnOk r Q
on_ok (Ok x) P Q f h = f h
on_ok (Err e) P Q f h = tt

-- no line is left
pub all_lines : (n : ℕ) (lines each rest : List (List ℕ)) → lines ≡ each ++ rest → rest ≡ [] → length each ≤ n → each ≡ take n lines
all_lines n lines each rest e none few = sym (ap (take n) (e ∙ ap (λ l. each ++ l) none ∙ append-nil each) ∙ take_all n each few)

-- so many lines are answered
pub first_lines : (n : ℕ) (lines each rest : List (List ℕ)) → lines ≡ each ++ rest → length each ≡ n → each ≡ take n lines
first_lines n lines each rest e all =
    let far : n ≤ length each = omega (arith, all) in
    let near : length each ≤ n = omega (arith, all) in
    sym (ap (take n) e ∙ take-append-le n each rest far ∙ take_all n each near)

nothing_before : (known : Option (List ℕ)) → prepend_known [] known ≡ known
nothing_before None = refl
nothing_before (Some xs) = refl

-- a new buffer holds nothing back
pub new_reader : {R A : Type 0} (remaining : R → Option (List ℕ)) (r : BufReader R A) (input : R) → reader_capacity r ≡ 8192 → reader_buffer r ≡ [] → reader_inner r ≡ input →
    reader_remaining remaining r ≡ remaining input
new_reader remaining r input long empty inner = (λ i. if long i == 0 then None else prepend_known (empty i) (remaining (inner i))) ∙ nothing_before (remaining input)
