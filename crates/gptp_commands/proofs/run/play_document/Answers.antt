use Rattle.std.proofs.Common.{◌∙◌}
use Rattle.std.proofs.lemmas.Result.{on_err_weaker, on_ok_weaker}
use Rattle.gptp_sink.proofs.SinkLemmas.{after_error}
use Rattle.gptp_timeline.proofs.TimelineLemmas.{no_failed_write}
use Rattle.gptp_commands.proofs.RunSoFarLemmas.{plays_all, plays_front, plays_some}
use Rattle.gptp_commands.proofs.run.play_document.Goals as goal

pub returns-in_err-world-clause-some : goal.returns-in_err-world-clause-some
returns-in_err-world-clause-some g c = after_error c.from_residual.result
    (plays_front c.args.document.now c.args.options.now (g.K.Sink.written c.args.sink.now)
    (g.K.Sink.written c.run_document.new.sink)
    (rw (c.until_of-until.ensures.is, c.new-fate.ensures) at c.in_err-world.ensures.broken))

pub returns-clause-some : goal.returns-clause-some
returns-clause-some g c =
    let until = c.until_of-until.ensures.is in let led = c.in_ok-world.ensures.led in
    on_err_weaker c.tell.result (plays_some c.args.document.now c.args.options.now c.in_ok-world.world.world_core led.0
    (rw (until, c.new-fate.ensures) at led.1) (g.K.Sink.written c.args.sink.now)
    (g.K.Sink.written c.run_document.new.sink) (g.K.Sink.written c.tell.new.sink) led.2)
    (rw until at c.tell.ensures.some)

pub returns-clause-whole : goal.returns-clause-whole
returns-clause-whole g c =
    let until = c.until_of-until.ensures.is in let led = c.in_ok-world.ensures.led in
    on_ok_weaker c.tell.result (plays_all c.args.document.now c.args.options.now c.in_ok-world.world.world_core led.0
    (rw (until, c.new-fate.ensures) at led.1) (g.K.Sink.written c.args.sink.now)
    (g.K.Sink.written c.run_document.new.sink) (g.K.Sink.written c.tell.new.sink) led.2)
    (rw until at c.tell.ensures.whole)

pub returns-clause-works : goal.returns-clause-works
returns-clause-works g c = λ other. c.tell.ensures.works other ∙ c.in_ok-world.ensures.works (no_failed_write _)
