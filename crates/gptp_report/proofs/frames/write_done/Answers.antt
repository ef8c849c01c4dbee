use Rattle.std.proofs.Common.{refl}
use Rattle.std.specs.Io.KnownBytes.{Appends}
use Rattle.std.proofs.lemmas.Result.{on_ok_weaker}
use Rattle.gptp_sink.specs.Sink.{AppendsSome}
use Rattle.gptp_report.proofs.FrameLemmas.{heard_shown}
use Rattle.gptp_report.proofs.frames.write_done.Goals as goal

pub returns-in-Heard-clause-some : goal.returns-in-Heard-clause-some
returns-in-Heard-clause-some g c =
    let heard = c.in-Heard in
    rw heard.is (heard_shown c.args.at heard.clock heard.port heard.answer heard.frame.items heard.frame.items
    (AppendsSome (g.K.Sink.written c.args.sink.now) (g.K.Sink.written c.write_frame_line.new.sink))
    refl c.write_frame_line.ensures.some)

pub returns-in-Heard-clause-whole : goal.returns-in-Heard-clause-whole
returns-in-Heard-clause-whole g c = on_ok_weaker c.write_frame_line.result (λ written.
    let heard = c.in-Heard in
    rw heard.is (heard_shown c.args.at heard.clock heard.port heard.answer heard.frame.items heard.frame.items
    (Appends (g.K.Sink.written c.args.sink.now) (g.K.Sink.written c.write_frame_line.new.sink))
    refl written)) c.write_frame_line.ensures.whole
