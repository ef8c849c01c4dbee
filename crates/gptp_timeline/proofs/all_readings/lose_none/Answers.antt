use Rattle.gptp_timeline.proofs.SourceLemmas.{account_none}
use Rattle.gptp_timeline.proofs.all_readings.lose_none.Goals as goal

pub returns-clause-account : goal.returns-clause-account
returns-clause-account c =
    account_none c.args.clock c.args.systems.now.items c.put_reading.new.systems.items c.args.sources.now
    c.requires.account c.requires.none c.put_reading.ensures
