-- From the last change on a link is watched; its port becomes capable, and measures the link.
use Rattle.std.proofs.Common.{◌≡◌, ◌+◌, ◌*◌, ℕ, refl, sym, ap, subst}
use Rattle.gptp_links.specs.declared.bounds.Bounds.{Bounds}
use Rattle.gptp_pdelay_machine.specs.Facts.{Facts, IsGood}
use Rattle.gptp_pdelay_machine.specs.Measured.{MeterInv}
use Rattle.gptp_pdelay_machine.specs.Meter.{act_of}
use Rattle.gptp_pdelay_machine.specs.Setting.{Setting}
use Rattle.gptp_pdelay_machine.proofs.CapabilityLemmas.{capability_settles}
use Rattle.gptp_pdelay_machine.proofs.FactLemmas.{facts_kept, facts_later}
use Rattle.gptp_pdelay_machine.proofs.MeasuredLemmas.{measuring_settles, meter_begins, meter_is_inv, meter_kept, meter_later}
use Rattle.gptp_invariants.specs.DelayLinkView.{reads_as_request, least_delay, meter, pair, reads_as_reply, link_setting}
use Rattle.gptp_invariants.specs.DelayWatchedLaws.{WatchBegins, WatchGoesOn, WatchIsKept, WatchedPortsBecomeCapable, WatchedPortsMeasure}
use Rattle.gptp_invariants.proofs.DelayLinkActLemmas.{acts_seen}
use Rattle.gptp_invariants.proofs.DelayLinkFactLemmas.{facts_begin, links_fresh, nothing_late}

pub watch_begins : WatchBegins
watch_begins at gone calm w l sound measured flight past before good =
    let k = link_setting at w l in
    record {
      link = l;
      good = good;
      facts = facts_begin at gone w l sound measured flight;
      inv = meter_begins k (least_delay at w l) reads_as_request reads_as_reply gone calm (meter at w l)
          (links_fresh at gone calm w l sound measured flight past before);
    }

pub watch_kept : WatchIsKept
watch_kept at gone calm act w w' draws done sound calm_act acts is =
    let k = link_setting at w is.link in
    let least = least_delay at w is.link in
    let seen = acts_seen at act w w' draws done is.link sound calm_act acts in
    let m = meter at w is.link in
    let m' = meter at w' seen.after in
    let one = seen.so in
    let facts = facts_kept k gone reads_as_request reads_as_reply m.pair m'.pair
    (act_of k reads_as_request reads_as_reply m m' one.acts) one.out one.back
    is.facts in
    let same_least : least ≡ least_delay at w' seen.after = ap (λ (b : Bounds). b.min) (sym seen.bounds) in
    let inv = meter_kept k least reads_as_request reads_as_reply gone calm m m' is.good is.facts facts one.out_late
    one.back_late one.acts
    is.inv in
    record {
      link = seen.after;
      good = subst (λ (x : Setting). IsGood x gone calm) (sym seen.settled) is.good;
      facts = subst (λ (x : Setting). Facts x gone m'.pair) (sym seen.settled) facts;
      inv = subst (λ (x : Setting). MeterInv x
          (least_delay at w' seen.after) reads_as_request reads_as_reply gone calm m')
          (sym seen.settled) (subst (λ (n : ℕ). MeterInv k n reads_as_request reads_as_reply gone calm m')
          same_least inv);
    }

pub watch_goes_on : WatchGoesOn
watch_goes_on at gone calm time w sound later first is =
    let k = link_setting at w is.link in
    let p = pair at w is.link in
    record {
      link = is.link;
      good = is.good;
      facts = facts_later k gone time p later (nothing_late at time w is.link sound first) is.facts;
      inv = meter_later k (least_delay at w is.link) reads_as_request reads_as_reply gone calm (meter at w is.link) _
          (time, later, refl)
          is.inv;
    }

pub watched_capable : WatchedPortsBecomeCapable
watched_capable at change interval w l short past =
    let k = link_setting at w l.link in
    capability_settles k reads_as_request reads_as_reply change interval (pair at w l.link) short l.facts
    (meter_is_inv k (least_delay at w l.link) reads_as_request reads_as_reply (change + interval)
    (change + 2 * interval)
    (meter at w l.link) l.inv) past

pub watched_measure : WatchedPortsMeasure
watched_measure at change interval w l short past =
    measuring_settles (link_setting at w l.link)
    (least_delay at w l.link) reads_as_request reads_as_reply change interval
    (meter at w l.link) short l.facts l.inv past
