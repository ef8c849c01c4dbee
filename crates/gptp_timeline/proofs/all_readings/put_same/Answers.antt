use Rattle.gptp_timeline.proofs.SourceLemmas.{account_same}
use Rattle.gptp_timeline.proofs.all_readings.put_same.Goals as goal

pub returns-clause-account : goal.returns-clause-account
returns-clause-account c =
    account_same c.args.clock c.args.systems.now.items c.put_reading.new.systems.items c.args.sources.now
    c.requires.account c.args.before.now c.args.after c.requires.before c.requires.same c.put_reading.ensures
