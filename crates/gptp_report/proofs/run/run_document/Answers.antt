use Rattle.std.proofs.Common.{◌≡◌, [], Err, inl, refl, ap, ◌∙◌}
use Rattle.std.proofs.lemmas.Result.{err_from_is_err_and}
use Rattle.std.specs.Io.KnownBytes.{Appends}
use Rattle.gptp_sink.specs.Sink.{AppendsSome}
use Rattle.gptp_sink.specs.declared.cut.Cut.TheVariants.{Write}
use Rattle.gptp_report.proofs.FrameLemmas.{leads_so_far, leads_to}
use Rattle.gptp_sink.proofs.SinkLemmas.{after_error, none_of}
use Rattle.gptp_report.proofs.run.run_document.Goals as goal

pub play-requires-clause-prompt : goal.play-requires-clause-prompt
play-requires-clause-prompt g c = rw c.events.ensures c.in_ok-world.ensures.prompt

pub returns-in_err-world-clause-broken : goal.returns-in_err-world-clause-broken
returns-in_err-world-clause-broken g c = after_error c.from_residual.result
    ([], inl refl, none_of (g.K.Sink.written c.args.sink.now) [])

pub returns-in_err-play-clause-broken : goal.returns-in_err-play-clause-broken
returns-in_err-play-clause-broken g c =
    let broken = c.in_err-play.ensures.broken in
    after_error c.from_residual-in_err-play.result
    (leads_so_far g.F.Fate.answers c.args.document.now c.args.until (record { asked = c.args.frames }) broken.1
    c.args.fate c.in_ok-world.world.fate c.in_ok-world.world.world_core
    (AppendsSome (g.K.Sink.written c.args.sink.now) (g.K.Sink.written c.play.new.sink)) broken.0
    c.well_formed-2.ensures.events c.in_ok-world.ensures.begun (rw c.events.ensures at broken.2) broken.3)

-- a device that fails is told as such
pub returns-in_err-play-clause-works : goal.returns-in_err-play-clause-works
returns-in_err-play-clause-works g c = λ other.
    let passed = err_from_is_err_and c.from_residual-in_err-play.result c.from_residual-in_err-play.ensures.1 in
    c.in_err-play.ensures.works (λ same.
    let is : c.in_err-play.field-0.0 ≡ Write = cc in
    other (passed.1 ∙ ap Err (passed.2 ∙ is)))

pub returns-clause-led : goal.returns-clause-led
returns-clause-led g c =
    let played = c.in_ok-play.ensures.played in
    leads_to g.F.Fate.answers c.args.document.now c.args.until (record { asked = c.args.frames }) c.play.new.observer
    c.args.fate c.in_ok-world.world.fate c.play.new.world.fate c.in_ok-world.world.world_core
    c.play.new.world.world_core
    (Appends (g.K.Sink.written c.args.sink.now) (g.K.Sink.written c.play.new.sink)) played.0
    c.well_formed-2.ensures.events c.in_ok-world.ensures.begun (rw c.events.ensures at played.1) played.2
