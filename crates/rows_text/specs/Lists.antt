-- The send list of each rate.
-- Assumes nothing.
use Rattle.std.specs.Prelude.{ℕ, List, [], ◌∷◌, ◌++◌, codes}
use Rattle.std.specs.Fmt.{decimal}
use Rattle.std.specs.List.{flat_map}
use Rattle.plan.specs.Scheme.{Scheme}
use Rattle.rows.specs.Patterns.{puncture, period, send_list}
use Rattle.rows.specs.Ratios.{fraction}
use Rattle.rows.specs.declared.rate.Rate.{Rate}
use Rattle.rows.specs.declared.rate.Rate.TheVariants.{NineTenths, EightNinths, FiveSixths, FourFifths, ThreeQuarters, TwoThirds, NineSixteenths, Half, Third, Quarter, Sixth, Eighth, Twelfth, Sixteenth}

-- an entry stands behind a blank
abbrev pub listed_entry : ℕ → List ℕ
listed_entry entry = 32 ∷ decimal entry

-- a rate and a constraint length, and with them the period and the send list
abbrev pub line : Rate → ℕ → ℕ → List ℕ → List ℕ
line rate constraint period entries =
    fraction rate ++ (codes " with " ++ (decimal constraint ++ (codes ": " ++ (decimal period ++ (44 ∷ (flat_map listed_entry entries ++ (10 ∷ [])))))))

-- what is written of a plan
abbrev pub scheme_line : Rate → Scheme → List ℕ
scheme_line rate s = line rate s.constraint s.period s.entries

-- the period and the send list of a rate
abbrev pub list_line : Rate → ℕ → List ℕ
list_line rate constraint = line rate constraint (period (puncture rate constraint)) (send_list (puncture rate constraint))

abbrev pub both_lines : Rate → List ℕ
both_lines rate = list_line rate 7 ++ list_line rate 9

-- the rates, from the highest to the lowest
abbrev pub rates : List Rate
rates = NineTenths ∷ EightNinths ∷ FiveSixths ∷ FourFifths ∷ ThreeQuarters ∷ TwoThirds ∷ NineSixteenths ∷ Half ∷ Third ∷ Quarter ∷ Sixth ∷ Eighth ∷ Twelfth ∷ Sixteenth ∷ []

-- every rate with both constraint lengths
unfoldable pub lists_text : List ℕ
lists_text = flat_map both_lines rates
