use Rattle.std.proofs.Common.{◌≡◌, [], refl}
use Rattle.orders.specs.Settings.{no_option, nothing_set}
use Rattle.orders.proofs.Words.{first_is}
use Rattle.orders.proofs.Options.{one_step}
use Rattle.orders.proofs.settings.Settings.to_receive.Goals as goal

pub loop-rest-init : goal.loop-rest-init
loop-rest-init c = let e : c.none-settings.result ≡ nothing_set = c.none-settings.ensures in ([], rw e no_option, refl)

pub loop-rest-preserved : goal.loop-rest-preserved
loop-rest-preserved c =
    one_step c.loop-rest.invariant.1 c.loop-rest.invariant.2
    (first_is c.loop-rest.rest.now c.name-item.result c.as_str.result.now c.as_str.result.now c.in-len1-up.len_at_least c.name-item.is c.as_str.ensures.value refl)
    c.in_ok-rest.ensures
