-- When the timers of each port and the frames in flight are due.
use Rattle.std.proofs.Common.{◌≡◌, ℕ, suc, ◌+◌, ◌<◌, ◌≤◌, ℤ, Bool, true, false, List, [], ◌∷◌, map, Option, Some, None, slice_get, refl, sym, subst, ◌∙◌, inl, inr, arith}
use Rattle.std.specs.List.{AllByRecursion}
use Rattle.gptp_lists.specs.Members.{In}
use Rattle.gptp_links.specs.Queue.{Frame}
use Rattle.gptp_receipt.specs.declared.held.Held.{Held}
use Rattle.gptp_receipt.specs.declared.held.Held.TheVariants as helds
use Rattle.gptp_receipt.specs.declared.held.Reception.{Reception}
use Rattle.gptp_receipt.specs.Held.{received}
use Rattle.gptp_pdelay.specs.Peer.{is_capable}
use Rattle.gptp_system.specs.declared.port.Port.{Port}
use Rattle.gptp_setup.specs.declared.setup.Params.{Params}
use Rattle.gptp_setup.specs.declared.timer.Timer.TheVariants as timers
use Rattle.gptp_setup.specs.Intervals.{AreParams, interval_of}
use Rattle.gptp_setup.specs.SettlingParams.{SettlingParams, largest_interval, span_by}
use Rattle.gptp_system.specs.Measures.{measure_at}
use Rattle.gptp_system.specs.State.{SystemState, age_due, announce_due, due, is_mine}
use Rattle.gptp_system.specs.Steps.{IsUp}
use Rattle.gptp_system.specs.Times.{IsPortInTime}
use Rattle.gptp_model.specs.declared.item.Item.TheVariants.{Arrival}
use Rattle.gptp_model.specs.declared.station.Station.{Station}
use Rattle.gptp_model.specs.Ahead.{NoneLate}
use Rattle.gptp_model.specs.Sends.{IsUnlinkedPort}
use Rattle.gptp_model.specs.Sound.{IsSound}
use Rattle.gptp_model.specs.World.{Channel, WorldState, world_queue}
use Rattle.gptp_model.proofs.MomentLemmas.{times-all}
use Rattle.gptp_model.proofs.SoundLemmas.{agrees_arrivals}
use Rattle.gptp_invariants.specs.WorldDue.{IsPortKnown, IsSoonAfter, OfEachPort}
use Rattle.gptp_invariants.specs.WorldKnown.{IsKnown, IsLogAmong, IsSetTo, OfEachFrame}
use Rattle.gptp_invariants.specs.DelayMeasuring.{IsIdle}
use Rattle.gptp_invariants.specs.ChoiceView.{span_at}
use Rattle.gptp_invariants.proofs.WorldSetLemmas.{log_outlasts, span_is}

-- ---- frames

-- what is true of all times of frames is true of that of each
of_each_due : (So : ℕ → Type 0) (f : Frame) (fs : List Frame) → AllByRecursion So (map (λ (x : Frame). x.due) fs)
    → In f fs → So f.due
of_each_due So f [] all among = absurd among
of_each_due So f (g ∷ fs) all (inl same) = subst (λ (x : Frame). So x.due) (sym same) all.0
of_each_due So f (g ∷ fs) all (inr among) = of_each_due So f fs all.1 among

-- nothing is in flight on a link that is down
pub frames_on_links : (w : WorldState) → IsSound w → OfEachFrame (λ channel f. channel.up ≡ true) w
frames_on_links w sound link direction channel f here among = by channel.up refl
  where
    by : (up : Bool) → channel.up ≡ up → up ≡ true
    by true is = refl
    by false is =
        let none = (sound.wired.flow link direction channel here).still is in
        absurd (subst (In f) none among)

pub frames_not_late : (w : WorldState) → IsSound w → OfEachFrame (λ channel f. w.time ≤ f.due) w
frames_not_late w sound link direction channel f here among =
    let pending = times-all (λ t. w.time ≤ t) (Arrival link direction) w.net.pending sound.on_time.pending in
    of_each_due (λ t. w.time ≤ t) f (world_queue direction channel)
    (subst (AllByRecursion (λ t. w.time ≤ t)) (agrees_arrivals w sound.agrees link direction channel here) pending)
    among

pub frames_fresh : (p : SettlingParams) (w : WorldState) → IsSound w → IsKnown p w
    → w.last_change + largest_interval p ≤ w.time
    → OfEachFrame (λ channel f. IsSoonAfter w.time channel.bounds.max f.due) w
frames_fresh p w sound known passed link direction channel f here among = record {
  least = frames_not_late w sound link direction channel f here among;
  most = let soon = known.fresh.frames link direction channel f here among in omega arith;
}

-- ---- ports

-- a Master port announces when its timer runs out
announces_then : (q : Port) (h : Held) → is_mine h ≡ true → announce_due q h ≡ Some q.announce
announces_then q helds.Disabled mine = absurd cc
announces_then q helds.Aged mine = absurd cc
announces_then q (helds.Received r) mine = absurd cc
announces_then q (helds.Mine root steps) mine = refl

-- when the timers of the port at a place run out
module _ (s : SystemState) (i : ℕ) (h : Held) (q : Port) (stands : slice_get s.held i ≡ Some h)
    (there : slice_get s.ports i ≡ Some q) where
  announce_is : due (timers.Announce (suc i)) s ≡ announce_due q h
  announce_is = rw (there, stands) refl

  age_is : due (timers.Age (suc i)) s ≡ age_due s.params s.largest h
  age_is = rw (there, stands) refl

  pdelay_is : due (timers.Pdelay (suc i)) s ≡ q.pdelay
  pdelay_is = rw there refl

  respond_is : due (timers.Respond (suc i)) s ≡ q.respond
  respond_is = rw there refl

-- a port whose timers aren't late, and run out in time, is known
port_known : (p : SettlingParams) (now : ℕ) (station : Station) (i : ℕ) (h : Held) (q : Port) → IsSetTo p station
    → slice_get station.system.held i ≡ Some h → slice_get station.system.ports i ≡ Some q
    → NoneLate now station.system → IsPortInTime station.system.params now h q → IsPortKnown p now h q
port_known p now station i h q set stands there late soon = record {
  announces = λ mine. record {
    least = late (timers.Announce (suc i)) q.announce
        (announce_is s i h q stands there ∙ announces_then q h mine);
    most = soon.announce mine;
  };
  came = λ r got. record { least = soon.came r got; most = stays r got };
  asks = λ t is. record {
    least = late (timers.Pdelay (suc i)) t (pdelay_is s i h q stands there ∙ is);
    most = subst (λ (x : Params). t ≤ now + interval_of x.pdelay) set.params (soon.pdelay t is);
  };
  answers = λ t is. record {
    least = late (timers.Respond (suc i)) t (respond_is s i h q stands there ∙ is);
    most = subst (λ (x : Params). t ≤ now + x.turnaround) set.params (soon.respond t is);
  };
}
  where
    s : SystemState
    s = station.system

    stays : (r : Reception) → received h ≡ Some r → now ≤ r.at + span_by p.params.timeout p.largest r.interval
    stays r got =
        let ages : age_due s.params s.largest h ≡ Some (r.at + span_at s r.interval) = rw got refl in
        subst (λ span. now ≤ r.at + span) (span_is p station set r.interval)
        (late (timers.Age (suc i)) (r.at + span_at s r.interval) (age_is s i h q stands there ∙ ages))

pub ports_known : (p : SettlingParams) (w : WorldState) → IsSound w → IsKnown p w
    → OfEachPort (λ itself h q. IsPortKnown p w.time h q) w
ports_known p w sound known place station here live i h q stands there =
    port_known p w.time station i h q (known.set place station here) stands there
    ((sound.on_time.stations place station here).timers live)
    ((known.in_time place station here live).each i h q stands there)

-- three announce intervals are longer than one and a delay
pub receipts_outlast : (p : SettlingParams) (w : WorldState) → AreParams p.params → IsKnown p w → (log : ℤ)
    → IsLogAmong w.stations log → (link : ℕ) (channel : Channel) → slice_get w.net.channels link ≡ Some channel
    → interval_of log + channel.bounds.max < span_by p.params.timeout p.largest log
receipts_outlast p w params known log among link channel here =
    let prompt = (known.prompt log among link channel here).most in
    let long = log_outlasts p w params known.set log among in
    omega arith

-- ---- ports without a link

-- a port that measured nothing isn't capable
idle_off : (q : Port) → IsIdle (measure_at q) → is_capable q.peer ≡ false
idle_off q idle = rw idle.last refl

pub unlinked_disabled : (p : SettlingParams) (w : WorldState) → IsSound w → IsKnown p w
    → OfEachPort (λ itself h q. IsUnlinkedPort w.net itself → h ≡ helds.Disabled) w
unlinked_disabled p w sound known place station here live i h q stands there unlinked = by q.pdelay refl
  where
    by : (due : Option ℕ) → q.pdelay ≡ due → h ≡ helds.Disabled
    by None none =
        ((sound.on_time.stations place station here).steady.shown.each i h q stands there).off
        (idle_off q ((known.measuring place station here live i q there).idle none))
    by (Some t) runs =
        let up : IsUp station.system (suc i) = rw (there, runs) refl in
        let begins = known.links place station here live (suc i) up in
        let down = unlinked begins.link begins.direction begins.channel begins.here begins.begins in
        let both : true ≡ false = sym begins.up ∙ down in
        absurd cc
