use Rattle.std.proofs.Common.{arith}
use Rattle.gptp_accuracy.specs.Sums.{way_link}
use Rattle.gptp_accuracy.proofs.MachineLemmas.{IsMade, given_within, is_behind}
use Rattle.gptp_accuracy.proofs.SumLemmas.{sums_behind, window_long}
use Rattle.gptp_accuracy.proofs.sums.Sums.behind.Goals as goal

pub rate_error-requires-clause-jitter : goal.rate_error-requires-clause-jitter
rate_error-requires-clause-jitter c =
    let little = c.blur_of-blur.ensures.within c.requires.params in
    let short = c.requires.link.short in omega (arith, little, short)

pub rate_error-requires-clause-interval : goal.rate_error-requires-clause-interval
rate_error-requires-clause-interval c =
    rw c.rate_interval.ensures.interval (window_long c.args.params.now c.requires.params)

pub link_error-requires-clause-jitter : goal.link_error-requires-clause-jitter
link_error-requires-clause-jitter c =
    let little = c.blur_of-blur.ensures.within c.requires.params in
    let short = c.requires.link.short in omega (arith, little, short)

pub link_error-requires-clause-most : goal.link_error-requires-clause-most
link_error-requires-clause-most c =
    let little = c.blur_of-blur.ensures.within c.requires.params in
    let short = c.requires.link.short in omega (arith, little, short)

pub wait_error-requires-clause-time : goal.wait_error-requires-clause-time
wait_error-requires-clause-time c =
    let little = c.blur_of-blur.ensures.within c.requires.params in
    let short = c.requires.link.short in
    let residence = c.requires.params.residence in
    let jitter = c.requires.sums.jitter in omega (arith, little, short, residence, jitter)

pub returns : goal.returns
returns c = λ w links summed.
    let p = c.args.params.now in
    let s = c.args.self.now in
    let l = way_link c.args.link.now in
    let blur = c.blur_of-blur.ensures.blur in
    let made : IsMade p s l c.rate_interval.result c.rate_error.result c.link_error.result c.rates_error.result
    c.wait_error.result c.steady_rate.result c.from.result =
    record {
      interval_is = c.rate_interval.ensures.interval;
      rate_error_is = rw blur at c.rate_error.ensures.error;
      steady_is = c.steady_rate.ensures.rate;
      near = c.steady_rate.ensures.within;
      rate_is = c.from.ensures;
      hop_is = rw blur at c.link_error.ensures.error;
      rates_is = c.rates_error.ensures.error;
      wait_is = rw blur at c.wait_error.ensures.error;
    } in
    let behind = is_behind p s l _ _ _ _ _ _ _ c.requires.params c.requires.sums c.requires.link made in
    rw blur (record {
      timed = record {
        blur = summed.timed.blur;
        interval = summed.timed.interval;
        turnaround = summed.timed.turnaround;
        residence = summed.timed.residence;
      };
      sums = sums_behind p w l s summed.timed summed.sums _ behind;
      within =
          given_within p s l _ _ _ _ _ _ _ c.requires.params c.requires.sums c.requires.link made links
          summed.within c.rate_error.ensures.bound c.link_error.ensures.bound c.wait_error.ensures.bound;
    })
