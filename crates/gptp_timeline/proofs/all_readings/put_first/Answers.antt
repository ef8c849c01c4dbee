use Rattle.std.proofs.Common.{subst, sym}
use Rattle.gptp_timeline.specs.ToldSources.{IsAccount}
use Rattle.gptp_timeline.proofs.SourceLemmas.{account_first}
use Rattle.gptp_timeline.proofs.all_readings.put_first.Goals as goal

pub returns-clause-account : goal.returns-clause-account
returns-clause-account c =
    account_first c.args.clock c.args.systems.now.items c.put_told.new.systems.items c.args.sources.now.items
    c.requires.account c.args.after c.add_source.new.sources.items c.put_told.new.sources.items c.requires.none
    c.in_ok-add_source.ensures.added c.put_told.ensures.puts c.put_told.ensures.drops

pub returns-in_err-add_source-clause-account : goal.returns-in_err-add_source-clause-account
returns-in_err-add_source-clause-account c =
    subst (IsAccount c.args.systems.now.items) (sym c.in_err-add_source.ensures.same) c.requires.account
