use Rattle.std.proofs.Common.{◌≡◌, ◌*◌, ◌<◌, ◌≤◌, Some, Option, sym, ap, ◌∙◌, subst}
use Rattle.std.proofs.lemmas.Bool.{and_parts, leb-true}
use Rattle.std.specs.Option.{option_map}
use Rattle.rows.specs.declared.row.Entry.{Entry}
use Rattle.rows.specs.Rows.{symbol_bits, entry_of, setting_entry}
use Rattle.rows.specs.Schemes.{Consistent}
use Rattle.rows.proofs.Passing.{consistent}
use Rattle.rows.proofs.Whole.{row_passes}
use Rattle.rows.proofs.row.Row.entry.Goals as goal

pub entry_of-requires : goal.entry_of-requires
entry_of-requires c =
    let t = row_passes c.args.self c.in_ok-setting.setting c.in_ok-depth.depth c.in_ok-setting.ensures c.in_ok-depth.ensures in
    let p = and_parts _ _ (and_parts _ _ t).0 in
    subst (λ bits. (0 < c.in_ok-depth.depth.0 * bits) × (c.in_ok-depth.depth.0 * bits ≤ 2211840)) (sym c.symbol_bits.ensures)
    (leb-true _ _ p.0, leb-true _ _ p.1)

pub returns : goal.returns
returns c =
    let s = c.in_ok-setting.setting in
    let d = c.in_ok-depth.depth in
    let t = row_passes c.args.self s d c.in_ok-setting.ensures c.in_ok-depth.ensures in
    let e : c.entry_of.result ≡ entry_of s.0 (symbol_bits c.args.self.waveform) d =
    c.entry_of.ensures ∙ ap (λ bits. entry_of s.0 bits d) c.symbol_bits.ensures in
    record {
      value =
          ap {B = Option Entry} (λ x. Some x) e
          ∙ ap (option_map (entry_of s.0 (symbol_bits c.args.self.waveform))) c.in_ok-depth.ensures
          ∙ ap (setting_entry c.args.self) c.in_ok-setting.ensures;
      consistent = subst (λ x. Consistent x) (sym e) (consistent _ (and_parts _ _ t).1);
    }
