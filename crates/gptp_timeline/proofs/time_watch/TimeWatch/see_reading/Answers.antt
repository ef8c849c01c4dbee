use Rattle.std.proofs.Common.{◌≡◌, ap, subst, sym, ◌∙◌}
use Rattle.gptp_timeline.specs.Readings.{new_reading, reading_among}
use Rattle.gptp_timeline.specs.TimeWatch.{TimeState}
use Rattle.gptp_timeline.proofs.NewReadingLemmas.{follows_on}
use Rattle.gptp_timeline.proofs.time_watch.TimeWatch.see_reading.Goals as goal

pub take_new-requires-clause-before : goal.take_new-requires-clause-before
take_new-requires-clause-before g c =
    let act = c.args.timed.now.act in let done = c.args.done.now in let w = c.args.world.now.world_core in
    let u = c.in-Some.new in
    subst (λ (o : TimeState). u.before ≡ reading_among o.systems u.clock) c.self.view_is
    (follows_on act done w c.self.inside.systems u
    (ap (new_reading act done w) (sym c.systems.ensures.are) ∙ sym c.new_reading.ensures ∙ c.in-Some.is))
