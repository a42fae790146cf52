-- The fields of a command as bytes: how many there are, and the bytes of each.
-- Assumes nothing.
use Rattle.std.proofs.Common.{◌≡◌, ℕ, zero, suc, ◌+◌, ◌-◌, ◌/◌, ◌%◌, ◌^◌, ◌<◌, ◌≤◌, List, [], ◌∷◌, ◌++◌, map, length, get_or, take, drop, sym, refl, ap, ◌∙◌, subst, append_assoc, arith, length-append, w8, Fits}
use Rattle.std.specs.List.{range_with_len}
use Rattle.std.proofs.lemmas.List.FromFn.{fill_by_all}
use Rattle.std.proofs.ByRecursion.{All-append, All-push, All-from_get_or}
use Rattle.std.proofs.lemmas.List.{take_rest}
use Rattle.plan.specs.Parts.{scheme}
use Rattle.plan.specs.Scheme.{Scheme}
use Rattle.lines.specs.Commands.{Field, field, plan_fields, packed, Fitting}
use Rattle.lines.specs.Hex.{Bytes, big_endian}
use Rattle.lines.specs.Readings.{Holds}
use Rattle.lines.specs.declared.command.Command.{Command}
use Rattle.lines.specs.declared.command.Command.TheVariants.{Plan, Table, Hear, Note, Blank, Look}

-- a list of a known length, element by element
pub spelled : (n : ℕ) (xs : List ℕ) → length xs ≡ n → xs ≡ map (λ i. get_or xs i 0) (range_with_len 0 n)
spelled n xs e = fill_by_all (λ i. get_or xs i 0) xs n 0 e (λ k h. refl)

-- a list of three elements or more, as its pattern takes it apart
pub three_first : (xs : List ℕ) → 3 ≤ length xs → xs ≡ get_or xs 0 0 ∷ get_or xs 1 0 ∷ get_or xs 2 0 ∷ take (length xs - 3) (drop 3 xs)
three_first [] h = absurd (omega arith)
three_first (x ∷ []) h = absurd (omega arith)
three_first (x ∷ y ∷ []) h = absurd (omega arith)
three_first (x ∷ y ∷ z ∷ xs) h = ap (λ l. x ∷ y ∷ z ∷ l) (sym (take_rest (x ∷ y ∷ z ∷ xs) 3))

pub packed_append : (a b : List Field) → packed (a ++ b) ≡ packed a ++ packed b
packed_append [] b = refl
packed_append (f ∷ a) b =
    ap (λ l. big_endian f.width f.number ++ l) (packed_append a b)
    ∙ sym (append_assoc (big_endian f.width f.number) (packed a) (packed b))

-- fields of one byte each are these bytes
pub packed_single : (xs : List ℕ) → Bytes xs → packed (map (field 1) xs) ≡ xs
packed_single [] h = refl
packed_single (x ∷ xs) h =
    let same : x % 256 ≡ x = omega (arith, h.0) in
    ap (λ n. n ∷ packed (map (field 1) xs)) same ∙ ap (λ l. x ∷ l) (packed_single xs h.1)

pub length_single : (xs : List ℕ) → length (packed (map (field 1) xs)) ≡ length xs
length_single [] = refl
length_single (x ∷ xs) = ap suc (length_single xs)

pub fitting_single : (xs : List ℕ) → Bytes xs → Fitting (map (field 1) xs)
fitting_single [] h = tt
fitting_single (x ∷ xs) h = (h.0, fitting_single xs h.1)

-- bytes, since each is a remainder
big_endian_bytes : (width n : ℕ) → Bytes (big_endian width n)
big_endian_bytes zero n = tt
big_endian_bytes (suc width) n =
    All-push (λ b. b < 256) (big_endian width (n / 256)) (n % 256) (big_endian_bytes width (n / 256)) (omega arith)

pub packed_bytes : (fs : List Field) → Bytes (packed fs)
packed_bytes [] = tt
packed_bytes (f ∷ fs) =
    All-append (λ b. b < 256) (big_endian f.width f.number) (packed fs) (big_endian_bytes f.width f.number) (packed_bytes fs)

-- the fields after the send list
abbrev pub last_fields : Scheme → List Field
last_fields s = field 3 s.block ∷ field 1 s.bits ∷ field 2 s.frame ∷ field 3 s.increment ∷ []

-- the numbers before the send list, and the list, are bytes
abbrev pub Front : Scheme → Type 0
Front s = (s.constraint < 256) × (s.period < 256) × (length s.entries < 256) × Bytes s.entries

pub plan_fitting : (s : Scheme) → Front s → Fitting (last_fields s) → Fitting (plan_fields s)
plan_fitting s h l =
    (h.0, (h.1, (h.2, All-append (λ f. f.number < 256 ^ f.width) (map (field 1) s.entries) (last_fields s) (fitting_single s.entries h.3) l)))

pub plan_packed : (s : Scheme) (last : List ℕ) → Front s → packed (last_fields s) ≡ last → packed (plan_fields s) ≡ s.constraint ∷ s.period ∷ length s.entries ∷ (s.entries ++ last)
plan_packed s last h e =
    let a : s.constraint % 256 ≡ s.constraint = omega (arith, h.0) in
    let b : s.period % 256 ≡ s.period = omega (arith, h.1) in
    let c : length s.entries % 256 ≡ length s.entries = omega (arith, h.2) in
    let d = packed_append (map (field 1) s.entries) (last_fields s) ∙ ap (λ l. l ++ packed (last_fields s)) (packed_single s.entries h.3) ∙ ap (λ l. s.entries ++ l) e in
    cc

-- a plan's third byte says how many there are
pub plan_long : (bytes : List ℕ) (c : Command) → Holds 80 bytes c → length bytes ≡ get_or bytes 2 0 + 12
plan_long bytes (Plan parts) h =
    let s = scheme parts in
    let all = ap length h.2 in
    let parted = ap length (packed_append (map (field 1) s.entries) (last_fields s)) ∙ length-append (packed (map (field 1) s.entries)) (packed (last_fields s)) in
    let single = length_single s.entries in
    let third : length s.entries % 256 ≡ get_or bytes 2 0 = ap (λ l. get_or l 2 0) h.2 in
    let small : length s.entries < 256 = h.1.1.1.0 in
    omega arith
plan_long bytes (Table values) h = absurd (omega (arith, h.0))
plan_long bytes (Hear place index weight) h = absurd (omega (arith, h.0))
plan_long bytes (Note location value) h = absurd (omega (arith, h.0))
plan_long bytes (Blank place) h = absurd (omega (arith, h.0))
plan_long bytes Look h = absurd (omega (arith, h.0))

-- what a slice of bytes holds
pub typed_bytes : (xs : List ℕ) → ((i : ℕ) → Fits w8 (get_or xs i 0)) → Bytes xs
typed_bytes xs typed = All-from_get_or (λ b. b < 256) xs 0 (λ i h. (typed i).fits)

-- the parts that stand in a plan's bytes
pub parts_read : (s : Scheme) (k p : ℕ) (list last : List ℕ) → s.constraint ≡ k → s.period ≡ p → s.entries ≡ list
    → (k < 256) × (p < 256) × (length list < 256) × Bytes list → Fitting (last_fields s) → packed (last_fields s) ≡ last
    → Fitting (plan_fields s) × (packed (plan_fields s) ≡ k ∷ p ∷ length list ∷ (list ++ last))
parts_read s k p list last a b e h fit l =
    let front : Front s = (omega (arith, a, h.0), omega (arith, b, h.1), omega (arith, ap length e, h.2), subst Bytes (sym e) h.3) in (
      plan_fitting s front fit,
      plan_packed s last front l ∙ (λ i. a i ∷ b i ∷ length (e i) ∷ (e i ++ last)),
    )
