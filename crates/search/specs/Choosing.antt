-- What a search knows while it chooses the start number.
-- Assumes nothing.
use Rattle.std.specs.Prelude.{◌≡◌, ℕ, ◌^◌, ◌<◌, Bool, false, not, ◌&&◌, List, ◌==◌, slice_index_or}
use Rattle.score.specs.declared.kind.Kind.{Ghosts}
use Rattle.trellis.specs.Bounds.{shares, ahead, Leads}
use Rattle.trellis.specs.Choice.{origin}
use Rattle.trellis.specs.Marks.{marked}
use Rattle.search.specs.Searching.{column}
use Rattle.search.specs.Stepping.{scale_of, steps_of}
use Rattle.search.specs.declared.pass.Pass.{Pass}

-- whether a number may still win
abbrev pub may_win : List Bool → ℕ → Bool
may_win left x = slice_index_or left x false

module _ {K S : Type 0} {g : Ghosts K S} (p : Pass K S g) where
  -- after a pass that held the first bits of a number: of the numbers with these bits those can't win whose survivors are behind the leader
  abbrev pub Closed : ℕ → ℕ → ℕ → S → List S → List Bool → List Bool → Type 0
  Closed held number lead score survivors left after =
      (x : ℕ) → x < 2 ^ p.trellis.memory →
      may_win after x ≡ (may_win left x && not (shares p.trellis.memory held number x && ahead (scale_of p).no_worse score lead (column (scale_of p) survivors x) x))

  -- after a pass: the path that survived into a state comes round to it, and the leader does not come before the state with the survivor's score
  abbrev pub takes_lead : ℕ → ℕ → S → List S → List ℕ → Bool
  takes_lead end lead score survivors marks =
      origin p.trellis.memory (marked p.trellis.memory marks) p.trellis.size end == end
      && not (ahead (scale_of p).no_worse score lead (column (scale_of p) survivors end) end)

  -- the leader is a start number with a score that its own is no worse than, and comes before each number that can't win
  abbrev pub Knows : ℕ → S → List Bool → Type 0
  Knows lead score left = Leads (steps_of p) p.trellis.memory p.trellis.size lead score (may_win left)
