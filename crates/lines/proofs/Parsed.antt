-- From the first character and the fields to the whole line.
-- Assumes nothing.
use Rattle.std.proofs.Common.{◌≡◌, ℕ, ◌≤◌, List, ◌∷◌, length, Ok, Err, Result, ap}
use Rattle.lines.specs.Commands.{kind, fields, packed, Writes}
use Rattle.lines.specs.Hex.{hex, Bytes}
use Rattle.lines.specs.Readings.{Refuses, Holds, FieldReading, LineReading}
use Rattle.lines.specs.declared.command.Command.{Command}
use Rattle.lines.specs.declared.fault.LineFault.{LineFault}
use Rattle.lines.proofs.Digits.{hex_same}
use Rattle.lines.proofs.Fielded.{packed_bytes}

pub refuses_from : (P Q : Type 0) (e : LineFault) → (Q → P) → Refuses P e → Refuses Q e
refuses_from P Q e f h = (h.0, λ q. h.1 (f q))

module _ (line rest : List ℕ) (k : ℕ) (parted : line ≡ k ∷ rest) where
  -- what follows the first character of a command's line is digits
  pub digits_from : (c : Command) × Writes c line → (bs : List ℕ) × Bytes bs × (hex bs ≡ rest)
  digits_from s =
      let e = s.1.written in
      let same : hex (packed (fields s.0)) ≡ rest = cc in
      (packed (fields s.0), packed_bytes (fields s.0), same)

  pub writes_from : (bytes : List ℕ) (c : Command) → length line ≤ 2080 → hex bytes ≡ rest → Holds k bytes c → Writes c line
  writes_from bytes c short e h =
      let p = h.0 in
      let q = ap hex h.2 in
      record { fitting = h.1; written = cc; short = short }

  pub holds_from : (bytes : List ℕ) (c : Command) → Bytes bytes → hex bytes ≡ rest → Writes c line → Holds k bytes c
  holds_from bytes c fit e w =
      let p = w.written in
      let first : kind c ≡ k = cc in
      let same : hex (packed (fields c)) ≡ hex bytes = cc in
      (first, w.fitting, hex_same (packed (fields c)) bytes (packed_bytes (fields c)) fit same)

  pub line_from : (bytes : List ℕ) (r : Result Command LineFault) → length line ≤ 2080 → Bytes bytes → hex bytes ≡ rest → FieldReading k bytes r → LineReading line r
  line_from bytes (Ok c) short fit e h = writes_from bytes c short e h
  line_from bytes (Err fault) short fit e h =
      refuses_from ((c : Command) × Holds k bytes c) ((c : Command) × Writes c line) fault (λ s. (s.0, holds_from bytes s.0 fit e s.1)) h
