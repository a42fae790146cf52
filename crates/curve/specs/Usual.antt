-- The usual run.
-- Assumes nothing.
use Rattle.std.specs.Prelude.{false, negsuc}
use Rattle.curve.specs.declared.choice.Choice.{Choice}
use Rattle.curve.specs.declared.choice.Run.{Run}

-- 24 kHz, waveform 1, the ultra short interleaver, constraint length 7
abbrev pub usual_choice : Choice
usual_choice = record { row = record { bandwidth = 24; waveform = 1; interleaver = 0 }; constraint = 7 }

-- six blocks at each ratio from -10 to -4 dB, by the seed 5069
abbrev pub usual_run : Run
usual_run = record { choice = usual_choice; from = negsuc 9; to = negsuc 3; blocks = 6; seed = 5069; svg = false }
