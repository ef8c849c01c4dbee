-- The claim begins by itself.
use Rattle.std.proofs.Common.{◌≡◌, ◌≤◌, ◌<◌, ◌+◌, ◌*◌, ℕ, List, Option, length, refl, arith}
use Rattle.std.specs.List.{range_with_len}
use Rattle.gptp_links.specs.declared.bounds.Bounds.{Bounds}
use Rattle.gptp_links.specs.Fate.{Draw}
use Rattle.gptp_setup.specs.Intervals.{interval_of}
use Rattle.gptp_setup.specs.SettlingParams.{SettlingParams, largest_interval}
use Rattle.gptp_setup.proofs.IntervalLemmas.{interval_positive}
use Rattle.gptp_scenario.specs.declared.change.Act.TheVariants.{Change as Changing}
use Rattle.gptp_scenario.specs.declared.change.Change.{Change}
use Rattle.gptp_model.specs.declared.done.Done.{Done}
use Rattle.gptp_model.specs.Acts.{Acts}
use Rattle.gptp_model.specs.Course.{Begun}
use Rattle.gptp_model.specs.Initial.{initial}
use Rattle.gptp_scenario.specs.Network.{IsNetwork, NetworkState, pace_of}
use Rattle.gptp_scenario.specs.Params.{KeepPace}
use Rattle.gptp_scenario.proofs.LogLemmas.{keeps_pace}
use Rattle.gptp_model.specs.Sound.{IsSound}
use Rattle.gptp_model.specs.World.{WorldState}
use Rattle.gptp_pdelay_machine.specs.Facts.{IsGood}
use Rattle.gptp_pdelay_machine.proofs.FactLemmas.{timing_is_enough}
use Rattle.gptp_invariants.specs.DelayLinkLaws.{IsGoneBy}
use Rattle.gptp_invariants.specs.DelayMeasured.{LinkIsMeasured}
use Rattle.gptp_invariants.specs.DelayLinkView.{IsLinkOf, LinkPlace, link_setting}
use Rattle.gptp_invariants.proofs.DelayChangeKeptLemmas.{initially_measured, starts_measured}
use Rattle.gptp_invariants.proofs.DelayLinkStandLemmas.{links_seen}
use Rattle.gptp_invariants.proofs.DelayWatchLemmas.{watch_begins}
use Rattle.gptp_invariants.specs.ChoiceSettlesAsMachine.{IsWorld}
use Rattle.gptp_invariants.proofs.WorldOutlineLemmas.{change_is_last, starts_are_last}
use Rattle.gptp_invariants.specs.DelayWatch.{GoodLinksMeasure}
use Rattle.gptp_pdelay.proofs.GoodLinkLemmas.{good_without}
use Rattle.gptp_setup.specs.Stamping.{blur_of}

-- ---- one world

-- the limits of the network leave an exchange over the link its time
enough : (p : SettlingParams) (w : WorldState) → KeepPace p → IsWorld p w → (at : LinkPlace) → (l : IsLinkOf at w)
    → IsGood (link_setting at w l) (w.last_change + largest_interval p) (w.last_change + 2 * largest_interval p)
enough p w pace is at l =
    timing_is_enough (link_setting at w l) l.asking.station.setup.params.threshold w.last_change (largest_interval p)
    (good_without (blur_of l.asking.station.setup.params) l.channel.bounds.max
    l.answering.station.setup.params.turnaround l.asking.station.setup.params.threshold l.good.short) short period
  where
    asking : l.asking.station.setup.params ≡ p.params
    asking = (is.known.set at.asking l.asking.station l.asking.here).starts.params

    answering : l.answering.station.setup.params ≡ p.params
    answering = (is.known.set at.answering l.answering.station l.answering.here).starts.params

    short : 2 * l.asking.station.setup.params.threshold + l.answering.station.setup.params.turnaround
        < interval_of l.asking.station.setup.params.pdelay
    short = rw (asking, answering) pace.params.answered

    period : interval_of l.asking.station.setup.params.pdelay ≤ largest_interval p
    period = rw asking pace.requests

-- where no time has passed since the last change, each good link in use is watched
fresh_watches : (p : SettlingParams) (w : WorldState) → KeepPace p → w.last_change ≡ w.time → IsWorld p w
    → LinkIsMeasured w
    → GoodLinksMeasure p w
fresh_watches p w pace now is measured at stands =
    watch_begins at (w.last_change + largest_interval p) (w.last_change + 2 * largest_interval p) w l is.sound
    measured gone past before (enough p w pace is at l)
  where
    l : IsLinkOf at w
    l = links_seen at w is.sound measured stands

    gone : IsGoneBy (w.last_change + largest_interval p) at w l
    gone direction f member = let near = (is.known.near at.link l.channel l.here).dues direction f member in omega arith

    past : w.time ≤ w.last_change + largest_interval p
    past = omega arith

    before : w.time < w.last_change + 2 * largest_interval p
    before = let positive = interval_positive p.largest pace.largest in omega arith

-- ---- after a change, and at first

pub changes_begin : (p : SettlingParams) (change : Change) (w : WorldState) (draws : List Draw) (done : Done)
    (w' : WorldState)
    → KeepPace p → Acts (Changing change) w draws done w' → IsWorld p w' → LinkIsMeasured w' → GoodLinksMeasure p w'
changes_begin p change w draws done w' pace k = fresh_watches p w' pace (change_is_last change w draws done w' k)

pub first_begins : {F : Type 0} (answers : Bounds → ℕ → F → Option ℕ → F → Type 0) (n : NetworkState)
    (fate fate_after : F) (w : WorldState) → IsNetwork n → Begun answers n fate fate_after w → IsWorld (pace_of n) w
    → LinkIsMeasured w → GoodLinksMeasure (pace_of n) w
first_begins answers n fate fate_after w network k =
    fresh_watches (pace_of n) w (keeps_pace n network)
    (starts_are_last (range_with_len 0 (length n.systems)) (initial n) k.draws w refl k.starts)

pub first_measured : {F : Type 0} (answers : Bounds → ℕ → F → Option ℕ → F → Type 0) (n : NetworkState)
    (fate fate_after : F) (w : WorldState) → IsSound (initial n) → Begun answers n fate fate_after w → LinkIsMeasured w
first_measured answers n fate fate_after w sound k =
    starts_measured (range_with_len 0 (length n.systems)) (initial n) w k.draws sound (initially_measured n) k.starts
