use Rattle.std.proofs.lemmas.Result.{on_err_weaker, on_ok_weaker}
use Rattle.gptp_commands.proofs.RunSoFarLemmas.{tells_alone, tells_alone_some}
use Rattle.gptp_commands.proofs.run.tell.Goals as goal

pub returns-in-false-clause-some : goal.returns-in-false-clause-some
returns-in-false-clause-some g c = rw c.in-false.is (on_err_weaker c.write_all.result
    (tells_alone_some c.args.document.now c.args.until c.args.world.now.world_core (g.K.Sink.written c.args.sink.now)
    (g.K.Sink.written c.write_all.new.sink)) c.write_all.ensures.some)

pub returns-in-false-clause-whole : goal.returns-in-false-clause-whole
returns-in-false-clause-whole g c = rw c.in-false.is (on_ok_weaker c.write_all.result
    (tells_alone c.args.document.now c.args.until c.args.world.now.world_core (g.K.Sink.written c.args.sink.now)
    (g.K.Sink.written c.write_all.new.sink)) c.write_all.ensures.whole)
