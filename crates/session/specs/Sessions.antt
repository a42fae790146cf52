-- What a session holds.
-- Assumes nothing.
use Rattle.std.specs.Prelude.{vec_items}
use Rattle.std.specs.Option.{option_map}
use Rattle.plan.specs.Plans.{plan_scheme}
use Rattle.receiver.specs.Receivers.{view_of}
use Rattle.scrambler.specs.Meanings.{table_meaning}
use Rattle.session.specs.Held.{Held}
use Rattle.session.specs.declared.session.Session.{Session}

abbrev pub held : Session → Held
held x = record {
  plan = option_map plan_scheme x.plan;
  receiver = option_map (view_of table_meaning) x.receiver;
  values = vec_items x.memory;
}
