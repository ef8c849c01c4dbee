use Rattle.std.proofs.Common.{ap, subst, sym, ◌∙◌}
use Rattle.gptp_timeline.specs.ToldSources.{IsAccount, without_untold}
use Rattle.gptp_timeline.proofs.SourceLemmas.{account_other}
use Rattle.gptp_timeline.proofs.all_readings.put_other.Goals as goal

pub returns-clause-account : goal.returns-clause-account
returns-clause-account c =
    let some = c.put_told.new.sources.items in
    account_other c.args.clock c.args.systems.now.items c.put_told.new.systems.items c.args.sources.now.items
    c.requires.account c.args.before.now c.args.after c.add_source.new.sources.items some
    c.drop_untold.new.sources.items c.requires.before c.in_ok-add_source.ensures.added c.put_told.ensures.puts
    c.put_told.ensures.drops
    (c.drop_untold.ensures ∙ ap (λ us. without_untold c.args.before.now.source us some) c.deref.ensures.value)

pub returns-in_err-add_source-clause-account : goal.returns-in_err-add_source-clause-account
returns-in_err-add_source-clause-account c =
    subst (IsAccount c.args.systems.now.items) (sym c.in_err-add_source.ensures.same) c.requires.account
