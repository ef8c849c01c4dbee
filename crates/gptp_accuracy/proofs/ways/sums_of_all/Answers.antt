use Rattle.std.proofs.Common.{◌∙◌, get_or, subst, sym}
use Rattle.std.proofs.lemmas.Option.{slice_get-get_or}
use Rattle.gptp_accuracy.specs.Passing.{AreBySteps}
use Rattle.gptp_accuracy.proofs.PassLemmas.{done_all, done_more, parent_done}
use Rattle.gptp_accuracy.proofs.ways.sums_of_all.Goals as goal

pub sum_up-requires-clause-parent : goal.sum_up-requires-clause-parent
sum_up-requires-clause-parent c = λ line there.
    let places = c.deref-place-items.result.now in
    let lines = c.args.certificate.now.lines in
    let i = c.loop-place.place-index in
    let by_steps = subst (AreBySteps lines) (sym c.deref-place-items.ensures.value) c.in_ok-places.ensures in
    parent_done c.args.network.now c.args.events.now c.args.snapshot.now lines places by_steps
    c.well_formed-2.ensures.network c.well_formed-2.ensures.rising c.well_formed-3.ensures.order.clocks
    c.requires.choice c.well_formed-3.ensures.bare c.loop-place.sums.items i (get_or places i (0, 0))
    (slice_get-get_or places i (0, 0) c.loop-place-test.true)
    c.loop-place.invariant.done line there

pub loop-place-preserved : goal.loop-place-preserved
loop-place-preserved c =
    let places = c.deref-place-items.result.now in
    let lines = c.args.certificate.now.lines in
    let i = c.loop-place.place-index in
    let by_steps = subst (AreBySteps lines) (sym c.deref-place-items.ensures.value) c.in_ok-places.ensures in
    record {
      all = c.sum_up.ensures.all ∙ c.loop-place.invariant.all;
      done =
          done_more c.args.network.now c.args.events.now c.args.snapshot.now lines places by_steps
          c.loop-place.sums.items c.sum_up.new.sums.items i (get_or places i (0, 0))
          (slice_get-get_or places i (0, 0) c.loop-place-test.true)
          c.loop-place.invariant.done c.sum_up.ensures.done c.sum_up.ensures.others;
    }

pub returns-clause-done : goal.returns-clause-done
returns-clause-done c =
    let places = c.deref-place-items.result.now in
    let lines = c.args.certificate.now.lines in
    let by_steps = subst (AreBySteps lines) (sym c.deref-place-items.ensures.value) c.in_ok-places.ensures in
    done_all c.args.network.now c.args.events.now c.args.snapshot.now lines places by_steps c.loop-place.sums.items
    c.loop-place.place-index c.loop-place-test.false c.loop-place.invariant.done
