use Rattle.std.proofs.Common.{ap, ◌∙◌}
use Rattle.gptp_timeline.specs.ToldSources.{without_untold}
use Rattle.gptp_timeline.proofs.SourceLemmas.{account_lost}
use Rattle.gptp_timeline.proofs.all_readings.lose_from.Goals as goal

pub returns-clause-account : goal.returns-clause-account
returns-clause-account c =
    let ss = c.args.sources.now.items in
    account_lost c.args.clock c.args.systems.now.items c.put_reading.new.systems.items ss c.requires.account
    c.args.before.now c.drop_untold.new.sources.items c.requires.before c.put_reading.ensures
    (c.drop_untold.ensures ∙ ap (λ us. without_untold c.args.before.now.source us ss) c.deref.ensures.value)
