use Rattle.std.proofs.Common.{◌≤◌, ◌^◌, [], arith, inl, inr, refl}
use Rattle.gptp_network.specs.Document.{seeded_document}
use Rattle.gptp_theorem.proofs.OctetLemmas.{documents_playable, seeded_playable}
use Rattle.gptp_sink.proofs.SinkLemmas.{after_error, none_of}
use Rattle.gptp_timeline.proofs.RightLemmas.{timelines_are_right}
use Rattle.gptp_timeline_laws.proofs.RightLemmas.{timelines_read_right}
use Rattle.gptp_commands.specs.RunText.{draws, generator}
use Rattle.gptp_commands.proofs.timeline.TimelineOrderDocumentCommand.tell.Goals as goal

-- nothing was written
pub returns-in_err-until-clause-some : goal.returns-in_err-until-clause-some
returns-in_err-until-clause-some g c =
    after_error c.from_residual.result ([], inl refl, none_of (g.K.Sink.written c.args.sink.now) [])

pub returns-in_err-exceeded-clause-some : goal.returns-in_err-exceeded-clause-some
returns-in_err-exceeded-clause-some g c =
    let some = rw (c.new-fate.ensures, c.set_seed.ensures) at c.in_err-exceeded.ensures.some in
    let ends = rw c.set_seed.ensures at c.in_ok-until.ensures.end in
    after_error c.from_residual-in_err-exceeded.result (
      some.0,
      inr (inl (record { until = c.in_ok-until.until; ends = ends; begins = some.1 })),
      some.2,
    )

pub returns-clause-whole : goal.returns-clause-whole
returns-clause-whole g c =
    let whole = rw (c.new-fate.ensures, c.set_seed.ensures) at c.in_ok-exceeded.ensures.whole in
    let ends = rw c.set_seed.ensures at c.in_ok-until.ensures.end in
    let network = rw c.network.ensures at c.well_formed-3.ensures in
    let seed = c.args.self.now.seed in
    let played = seeded_document seed c.args.document.now in
    let playable = seeded_playable c.args.document.now seed
    (documents_playable c.requires.read.0 c.args.document.now c.requires.read.1 network
    c.well_formed-2.ensures.events) in
    let until = c.in_ok-until.until in
    let bound = c.in_ok-until.ensures.bound in
    let early : until ≤ 10 ^ 18 = omega (arith, bound) in (
      whole.0,
      record {
        until = until;
        ends = ends;
        exceeded = c.in_ok-exceeded.exceeded;
        timeline = whole.1;
        right = timelines_are_right draws played until c.args.self.now.options (generator seed) whole.0
            c.in_ok-exceeded.exceeded whole.1 playable early;
        reads = timelines_read_right draws played until c.args.self.now.options (generator seed) whole.0
            c.in_ok-exceeded.exceeded whole.1 playable early;
        status_is = c.of_refusal.ensures;
      },
      whole.2,
    )
