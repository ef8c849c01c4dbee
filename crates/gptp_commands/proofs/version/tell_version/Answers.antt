use Rattle.std.proofs.Common.{subst}
use Rattle.std.specs.Io.KnownBytes.{Appends}
use Rattle.gptp_sink.specs.Sink.{AppendsFront}
use Rattle.gptp_sink.proofs.SinkLemmas.{after_error}
use Rattle.gptp_commands.proofs.version.tell_version.Goals as goal

pub returns-in_err-write_whole-clause-front : goal.returns-in_err-write_whole-clause-front
returns-in_err-write_whole-clause-front g c =
    let old = g.K.Sink.written c.args.sink.now in let new = g.K.Sink.written c.write_whole.new.sink in
    after_error c.from_residual.result
    (subst (AppendsFront old new) c.as_bytes.ensures.value c.in_err-write_whole.ensures.front)

pub returns-clause-whole : goal.returns-clause-whole
returns-clause-whole g c =
    let old = g.K.Sink.written c.args.sink.now in let new = g.K.Sink.written c.write_whole.new.sink in
    subst (Appends old new) c.as_bytes.ensures.value c.in_ok-write_whole.ensures.whole
