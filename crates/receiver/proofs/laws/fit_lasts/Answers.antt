use Rattle.receiver.proofs.Hearing.{made_fits, fit_lasts}
use Rattle.receiver.proofs.laws.fit_lasts.Goals as goal

pub returns : goal.returns
returns c = record { made = made_fits; lasts = fit_lasts }
