use Rattle.std.proofs.Common.{ap, sym}
use Rattle.gptp_scenario.specs.declared.change.Act.TheVariants.{Expire}
use Rattle.gptp_world.proofs.EndLemmas.{station_at}
use Rattle.gptp_world.proofs.views.act_of.Goals as goal

pub returns-in-Expiry-clause-act : goal.returns-in-Expiry-clause-act
returns-in-Expiry-clause-act c =
    let named = rw c.from.ensures at c.clock_in.ensures in
    let stands = station_at c.args.parts.now c.in-Expiry.place c.clock_in.result c.requires.parts named in
    rw c.in-Expiry.is (stands.station, stands.here, ap (λ number. Expire number c.in-Expiry.timer) (sym stands.named))
