use Rattle.std.proofs.Common.{[], ◌∷◌, ◌++◌, Ok, subst, refl}
use Rattle.std.specs.Prelude.{Some, None}
use Rattle.bits_text.specs.Readings.{Taken}
use Rattle.laboratory.proofs.Lines.{taken_bit, taken_none}
use Rattle.laboratory.proofs.Located.{behind_more, clear_behind}
use Rattle.laboratory.proofs.counting.BlockLine.take.Goals as goal

pub returns-in_ok-push-in-Ok-Some-clause-known : goal.returns-in_ok-push-in-Ok-Some-clause-known
returns-in_ok-push-in-Ok-Some-clause-known c = λ line h.
    let bits = c.args.self.now.bits.items in
    let said : Taken c.args.self.now.reader line bits c.args.byte c.take.new.self (Ok (Some c.in-Ok-Some.bit)) =
    subst (λ o. Taken c.args.self.now.reader line bits c.args.byte c.take.new.self (Ok o)) c.in-Ok-Some.field-0-is (c.in-Ok-Some.ensures.said line bits h.place h.said) in
    taken_bit (record { name = c.args.self.now.name; reader = c.take.new.self; bits = c.push.new.self }) line bits c.args.byte c.in-Ok-Some.bit
    h.said said.0 said.1 c.in_ok-push-in-Ok-Some.ensures.items

pub returns-in-Ok-None-clause-known : goal.returns-in-Ok-None-clause-known
returns-in-Ok-None-clause-known c = λ line h.
    let bits = c.args.self.now.bits.items in
    let said : Taken c.args.self.now.reader line bits c.args.byte c.take.new.self (Ok None) =
    subst (λ o. Taken c.args.self.now.reader line bits c.args.byte c.take.new.self (Ok o)) c.in-Ok-None.field-0-is (c.in-Ok-None.ensures.said line bits h.place h.said) in
    taken_none (record { name = c.args.self.now.name; reader = c.take.new.self; bits = c.args.self.now.bits }) line bits c.args.byte c.ends_block.result
    h.said said.0 said.1 refl c.ends_block.ensures

pub returns-in_ok-push-in-Ok-Some-clause-read : goal.returns-in_ok-push-in-Ok-Some-clause-read
returns-in_ok-push-in-Ok-Some-clause-read c = λ text h.
    let old = c.args.self.now.reader in
    let byte = c.args.byte in
    let said : Taken old text h.bits byte c.take.new.self (Ok (Some c.in-Ok-Some.bit)) =
    subst (λ o. Taken old text h.bits byte c.take.new.self (Ok o)) c.in-Ok-Some.field-0-is (c.in-Ok-Some.ensures.said text h.bits h.place h.said) in
    behind_more old c.take.new.self text (h.bits ++ c.in-Ok-Some.bit ∷ []) byte said.0 said.1 h.line c.in-Ok-Some.ensures.line

pub returns-in-Ok-None-clause-read : goal.returns-in-Ok-None-clause-read
returns-in-Ok-None-clause-read c = λ text h.
    let old = c.args.self.now.reader in
    let byte = c.args.byte in
    let said : Taken old text h.bits byte c.take.new.self (Ok None) =
    subst (λ o. Taken old text h.bits byte c.take.new.self (Ok o)) c.in-Ok-None.field-0-is (c.in-Ok-None.ensures.said text h.bits h.place h.said) in
    behind_more old c.take.new.self text h.bits byte said.0 said.1 h.line c.in-Ok-None.ensures.line

pub returns-in-Ok-None-clause-clear : goal.returns-in-Ok-None-clause-clear
returns-in-Ok-None-clause-clear c = λ text h ends.
    let old = c.args.self.now.reader in
    let byte = c.args.byte in
    let said : Taken old text h.bits byte c.take.new.self (Ok None) =
    subst (λ o. Taken old text h.bits byte c.take.new.self (Ok o)) c.in-Ok-None.field-0-is (c.in-Ok-None.ensures.said text h.bits h.place h.said) in
    clear_behind c.take.new.self text byte _ c.ends_block.result said.0 c.ends_block.ensures ends
