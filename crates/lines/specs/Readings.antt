-- What reading a text, the fields of a command and a whole line answer.
-- Assumes nothing.
use Rattle.std.specs.Prelude.{◌≡◌, ℕ, List, ◌∷◌, ◌++◌, length, Ok, Err, vec_items, Result, Vec}
use Rattle.std.specs.declared.alloc.Global.{Global}
use Rattle.plan.specs.Parts.{scheme}
use Rattle.plan.specs.declared.parts.Parts.{Parts}
use Rattle.lines.specs.Commands.{kind, fields, plan_fields, Fitting, packed, Writes}
use Rattle.lines.specs.Hex.{hex, Bytes}
use Rattle.lines.specs.declared.command.Command.{Command}
use Rattle.lines.specs.declared.fault.LineFault.{LineFault}
use Rattle.lines.specs.declared.fault.LineFault.TheVariants.{Form}

-- refused for its form, where nothing has it
abbrev pub Refuses : Type 0 → LineFault → Type 0
Refuses Formed e = (e ≡ Form) × (Formed → ⊥)

-- the bytes whose digits the text is
abbrev pub HexReading : List ℕ → Result (Vec ℕ Global) LineFault → Type 0
HexReading text (Ok v) = Bytes (vec_items v) × (hex (vec_items v) ≡ text)
HexReading text (Err e) = Refuses ((bs : List ℕ) × Bytes bs × (hex bs ≡ text)) e

-- the command has this first character, and its fields are these bytes
abbrev pub Holds : ℕ → List ℕ → Command → Type 0
Holds k bytes c = (kind c ≡ k) × Fitting (fields c) × (packed (fields c) ≡ bytes)

abbrev pub FieldReading : ℕ → List ℕ → Result Command LineFault → Type 0
FieldReading k bytes (Ok c) = Holds k bytes c
FieldReading k bytes (Err e) = Refuses ((c : Command) × Holds k bytes c) e

-- the parts whose fields are two bytes, the length of a list, the list, and what follows it
abbrev pub PartsReading : ℕ → ℕ → List ℕ → List ℕ → Result Parts LineFault → Type 0
PartsReading k p list last (Ok parts) =
    Fitting (plan_fields (scheme parts)) × (packed (plan_fields (scheme parts)) ≡ k ∷ p ∷ length list ∷ (list ++ last))
PartsReading k p list last (Err e) = Refuses (length last ≡ 9) e

-- the command whose line it is; a line that no command has is refused for its form
abbrev pub LineReading : List ℕ → Result Command LineFault → Type 0
LineReading line (Ok c) = Writes c line
LineReading line (Err e) = Refuses ((c : Command) × Writes c line) e
