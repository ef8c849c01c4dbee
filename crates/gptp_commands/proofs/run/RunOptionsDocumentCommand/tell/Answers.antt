use Rattle.gptp_sink.proofs.SinkLemmas.{after_error}
use Rattle.gptp_theorem.proofs.OctetLemmas.{documents_playable}
use Rattle.gptp_commands.proofs.RunSoFarLemmas.{runs_all, runs_some}
use Rattle.gptp_commands.proofs.run.RunOptionsDocumentCommand.tell.Goals as goal

pub returns-in_err-play_document-clause-some : goal.returns-in_err-play_document-clause-some
returns-in_err-play_document-clause-some g c =
    let network = rw c.network.ensures at c.well_formed-3.ensures in
    let playable = documents_playable c.requires.read.0 c.args.document.now c.requires.read.1 network
    c.well_formed-2.ensures.events in
    after_error c.from_residual.result
    (runs_some c.args.document.now c.args.self.now playable (g.K.Sink.written c.args.sink.now)
    (g.K.Sink.written c.play_document.new.sink) (rw c.set_seed.ensures at c.in_err-play_document.ensures.some))

pub returns-clause-whole : goal.returns-clause-whole
returns-clause-whole g c =
    let network = rw c.network.ensures at c.well_formed-3.ensures in
    let playable = documents_playable c.requires.read.0 c.args.document.now c.requires.read.1 network
    c.well_formed-2.ensures.events in
    runs_all c.args.document.now c.args.self.now playable (g.K.Sink.written c.args.sink.now)
    (g.K.Sink.written c.play_document.new.sink) (rw c.set_seed.ensures at c.in_ok-play_document.ensures.whole)
