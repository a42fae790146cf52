-- The line of each command, by what it writes.
-- Assumes nothing.
use Rattle.std.specs.Prelude.{◌≡◌, ℕ, ◌^◌, ◌<◌, ◌≤◌, List, [], ◌∷◌, ◌++◌, map, length, vec_items}
use Rattle.std.specs.Int.{w16}
use Rattle.std.proofs.Common.{of_z}
use Rattle.std.specs.List.{flat_map, AllByRecursion}
use Rattle.plan.specs.Parts.{scheme}
use Rattle.plan.specs.Scheme.{Scheme}
use Rattle.lines.specs.Hex.{hex, big_endian}
use Rattle.lines.specs.declared.command.Command.{Command}
use Rattle.lines.specs.declared.command.Command.TheVariants.{Plan, Table, Hear, Note, Blank, Look}

-- a number, and in how many bytes it is written
pub record Field : Type 0 where
  pub width : ℕ
  pub number : ℕ

abbrev pub field : ℕ → ℕ → Field
field width number = record { width = width; number = number }

-- the send list stands after its length
abbrev pub plan_fields : Scheme → List Field
plan_fields s =
    field 1 s.constraint ∷ field 1 s.period ∷ field 1 (length s.entries) ∷ (map (field 1) s.entries
    ++ (field 3 s.block ∷ field 1 s.bits ∷ field 2 s.frame ∷ field 3 s.increment ∷ []))

-- what follows the first character; a value is written in two's complement
abbrev pub fields : Command → List Field
fields (Plan parts) = plan_fields (scheme parts)
fields (Table values) = map (field 1) (vec_items values)
fields (Hear place index weight) = field 3 place ∷ field 1 index ∷ field 2 weight ∷ []
fields (Note location value) = field 3 location ∷ field 2 (of_z w16 value) ∷ []
fields (Blank place) = field 3 place ∷ []
fields Look = []

-- the first character: P, S, H, V, C or L
abbrev pub kind : Command → ℕ
kind (Plan parts) = 80
kind (Table values) = 83
kind (Hear place index weight) = 72
kind (Note location value) = 86
kind (Blank place) = 67
kind Look = 76

-- the fields one after another, as bytes
abbrev pub packed : List Field → List ℕ
packed fs = flat_map (λ f. big_endian f.width f.number) fs

-- every number is small enough for its bytes
abbrev pub Fitting : List Field → Type 0
Fitting fs = AllByRecursion (λ f. f.number < 256 ^ f.width) fs

abbrev pub text : Command → List ℕ
text c = kind c ∷ hex (packed (fields c))

-- the line is this command's, in at most 2,080 characters
pub record Writes (c : Command) (line : List ℕ) : Type 0 where
  pub fitting : Fitting (fields c)
  pub written : text c ≡ line
  pub short : length line ≤ 2080
