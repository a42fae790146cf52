-- The coding scheme that a caller's parts state.
-- Assumes nothing.
use Rattle.std.specs.Prelude.{vec_items}
use Rattle.plan.specs.Scheme.{Scheme}
use Rattle.plan.specs.declared.parts.Parts.{Parts}

abbrev pub scheme : Parts → Scheme
scheme p = record {
  constraint = p.constraint;
  period = p.period;
  entries = vec_items p.send_list;
  block = p.block_length;
  bits = p.symbol_bits;
  frame = p.frame_length;
  increment = p.increment;
}
