-- Each port of a live system has measured the links of the snapshot that are at it.
use Rattle.std.proofs.Common.{◌≤◌, ◌+◌, ◌*◌, subst, arith}
use Rattle.gptp_setup.specs.SettlingParams.{SettlingParams, largest_interval}
use Rattle.gptp_system.specs.declared.port.Port.{Port}
use Rattle.gptp_scenario.specs.Params.{KeepPace}
use Rattle.gptp_scenario.specs.SettlingTime.{window_span}
use Rattle.gptp_model.specs.World.{WorldState}
use Rattle.gptp_pdelay_machine.specs.Measured.{HasMeasured}
use Rattle.gptp_invariants.specs.ChoiceCalm.{HaveQuietLinks}
use Rattle.gptp_invariants.specs.WorldCalmFor.{IsCalmFor, measured_span}
use Rattle.gptp_invariants.specs.WorldSettlingInvariant.{SettlingInvariant}
use Rattle.gptp_invariants.specs.ChoiceSettlesAsMachine.{IsWorld}
use Rattle.gptp_invariants.specs.DelayLinkView.{least_delay, link_setting}
use Rattle.gptp_invariants.specs.DelayMeasuredLinks.{HaveMeasuredLinks}
use Rattle.gptp_invariants.specs.DelayWatch.{GoodLinksMeasure}
use Rattle.gptp_invariants.proofs.WorldSettlingInvariantLemmas.{set_alike}
use Rattle.gptp_invariants.proofs.DelayUsedLinkLemmas.{used_watched}
use Rattle.gptp_invariants.proofs.DelayWatchLemmas.{watched_measure}

pub used_measured : (p : SettlingParams) (w : WorldState) → KeepPace p → IsWorld p w → HaveQuietLinks p.params w
    → GoodLinksMeasure p w
    → w.last_change + 5 * largest_interval p + window_span p.params ≤ w.time → HaveMeasuredLinks w
used_measured p w pace is quiet watches late place station here live i h q holds there to joins =
    let x = used_watched p w pace is quiet watches place station here live i q to there joins in
    let l = x.watched.link in
    record {
      at = x.at;
      link = l;
      from_is = x.from_is;
      to_is = x.to_is;
      state = x.state;
      measured = subst (λ (state : Port). HasMeasured (link_setting x.at w l)
          (least_delay x.at w l) state.peer.last) x.state
          (watched_measure x.at w.last_change (largest_interval p) w x.watched x.period
          (let span = x.span in omega (arith, late, span)));
    }

pub claimed_measured : (w : WorldState) → SettlingInvariant w → IsCalmFor measured_span w → HaveMeasuredLinks w
claimed_measured w claimed calm place station here =
    let is = set_alike w claimed calm.pace calm.set place station here in
    let passed = calm.late in
    let late : w.last_change + 5 * largest_interval calm.pace + window_span calm.pace.params ≤ w.time =
    omega (arith, passed) in
    used_measured calm.pace w is.pace is.world calm.quiet.links is.watched late place station here
