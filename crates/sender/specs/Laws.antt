-- The laws of scrambling and sending.
-- Assumes nothing.
use Rattle.std.specs.Prelude.{◌≡◌, ℕ, ◌+◌, ◌*◌, ◌^◌, ◌<◌, Bool, true, List, slice_index}
use Rattle.plan.specs.Questions.{plan_answer}
use Rattle.plan.specs.Scheme.{Scheme}
use Rattle.code.specs.Numbers.{read}
use Rattle.scrambler.specs.Meaning.{Meaning, Bounded}
use Rattle.sender.specs.Scrambling.{needed_width, scrambled, unscrambled, fits}
use Rattle.sender.specs.Transmission.{symbols, symbol, sent_array, on_air, transmission}

-- a scrambled symbol has no more bits than the needed width, and comes back with the same value
abbrev pub ComesBack : Type 0
ComesBack = (q y v : ℕ) → y < 2 ^ needed_width q → v < 2 ^ needed_width q → (scrambled q y v < 2 ^ needed_width q) × (unscrambled q (scrambled q y v) v ≡ y)

-- two arrays have the same bits at the locations of symbol i
abbrev pub SameGroup : Scheme → List Bool → List Bool → ℕ → Type 0
SameGroup s a b i = (k : ℕ) → k < s.bits → read a (i * s.bits + k) ≡ read b (i * s.bits + k)

-- under one scrambler that fits, two blocks have the same on-air index at a place exactly where they have the same symbol
abbrev pub KeepsDifferences : Type 0
KeepsDifferences =
    (s : Scheme) → plan_answer s ≡ 0 → (m : Meaning) → Bounded m → fits s m ≡ true →
    (u w : ℕ → Bool) (i : ℕ) → i < symbols s → (on_air s m u i ≡ on_air s m w i → symbol s u i ≡ symbol s w i) × (symbol s u i ≡ symbol s w i → on_air s m u i ≡ on_air s m w i)

-- hence exactly where the same bits stand at the symbol's locations: what is on the air tells the sent bits
abbrev pub TellsBits : Type 0
TellsBits =
    (s : Scheme) → plan_answer s ≡ 0 → (m : Meaning) → Bounded m → fits s m ≡ true →
    (u w : ℕ → Bool) (i : ℕ) → i < symbols s →
    (on_air s m u i ≡ on_air s m w i → SameGroup s (sent_array s u) (sent_array s w) i) × (SameGroup s (sent_array s u) (sent_array s w) i → on_air s m u i ≡ on_air s m w i)

-- scramblers with the same values at the places of a frame send every block alike
abbrev pub SendsAlike : Type 0
SendsAlike =
    (s : Scheme) → plan_answer s ≡ 0 → (m n : Meaning) → ((place : ℕ) → place < s.frame → slice_index m.values place ≡ slice_index n.values place) →
    (u : ℕ → Bool) → transmission s m u ≡ transmission s n u
