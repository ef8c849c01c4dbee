use Rattle.std.proofs.Common.{rules}
use Rattle.gptp_system.proofs.ReadyLemmas.{started_ready}
use Rattle.gptp_system.proofs.state.State.with_ports.Goals as goal

pub returns-clause-started : goal.returns-clause-started
returns-clause-started c = search rules

pub returns-clause-ready : goal.returns-clause-ready
returns-clause-ready c =
    rw (returns-clause-started c)
    (started_ready c.args.setup c.args.now c.requires.few c.requires.params c.requires.intervals c.requires.phase
    c.requires.drift)
