-- What is found of an act tells whether it is there and due.
use Rattle.std.proofs.Common.{◌≡◌, ◌↔◌, ℕ, ◌<◌, Bool, List, [], ◌∷◌, ◌++◌, Some, slice_get, IsTrue, refl, ap, sym, subst, ◌∙◌, inl, inr}
use Rattle.gptp_lists.specs.Members.{In}
use Rattle.gptp_setup.specs.declared.timer.Timer.{Timer}
use Rattle.gptp_world.specs.declared.act_target.ActTarget.{ActTarget}
use Rattle.gptp_world.specs.declared.act_target.ActTarget.TheVariants as aims
use Rattle.gptp_traffic.specs.declared.joined_link.Lane.{Lane}
use Rattle.gptp_scenario.specs.declared.change.Act.{Act}
use Rattle.gptp_scenario.specs.declared.change.Act.TheVariants.{Deliver, Expire, Change as Changing}
use Rattle.gptp_scenario.specs.declared.change.Change.{Change}
use Rattle.gptp_scenario.specs.declared.change.Change.TheVariants as changes
use Rattle.gptp_model.specs.declared.item.Item.{Item}
use Rattle.gptp_world.specs.declared.world_parts.WorldParts.{WorldParts}
use Rattle.gptp_model.specs.declared.station.Station.{Station}
use Rattle.gptp_model.specs.Acts.{IsDueThen, IsEarlier, IsOldestDue, IsThere}
use Rattle.gptp_world.specs.ActTarget.{IsTargetOf, IsTargetOfChange}
use Rattle.gptp_world.specs.Directory.{IsDirectory}
use Rattle.gptp_model.specs.Pending.{Entry, pending_entry, IsNext}
use Rattle.gptp_world.specs.WorldParts.{world_of, IsWorldParts}
use Rattle.gptp_model.specs.World.{Channel, WorldState, port_id, station_due}
use Rattle.gptp_world.proofs.ActTargetLemmas.{lane_joins, system_clock}

-- ---- something is due earlier

in_middle : (before after : List Entry) (e : Entry) → In e (before ++ e ∷ after)
in_middle [] after e = inl refl
in_middle (x ∷ xs) after e = inr (in_middle xs after e)

pub next_earlier : (es : List Entry) (due time : ℕ) (item : Item) → IsNext es due item → due < time → IsEarlier time es
next_earlier es due time item next less = (
  pending_entry due item,
  subst (In (pending_entry due item)) (sym next.is) (in_middle next.before next.after (pending_entry due item)),
  less,
)

-- ---- what is found is there

change_there : (c : Change) (w : WorldState) (target : ActTarget) → IsTargetOfChange c w target → IsThere (Changing c) w
change_there (changes.LinkDown number port) w (aims.Arrival lane) is = absurd is
change_there (changes.LinkDown number port) w (aims.Timer place set) is = absurd is
change_there (changes.LinkDown number port) w (aims.LinkDown at) is =
    record { place = at; channel = is.channel; is = is.is; so = tt }
change_there (changes.LinkDown number port) w (aims.LinkUp at) is = absurd is
change_there (changes.LinkDown number port) w (aims.LinkSet at bounds) is = absurd is
change_there (changes.LinkDown number port) w (aims.Fail at) is = absurd is
change_there (changes.LinkDown number port) w (aims.Recover at) is = absurd is
change_there (changes.LinkDown number port) w (aims.Priority1 at set) is = absurd is
change_there (changes.LinkDown number port) w (aims.Inject lane) is = absurd is
change_there (changes.LinkUp number port) w (aims.Arrival lane) is = absurd is
change_there (changes.LinkUp number port) w (aims.Timer place set) is = absurd is
change_there (changes.LinkUp number port) w (aims.LinkDown at) is = absurd is
change_there (changes.LinkUp number port) w (aims.LinkUp at) is =
    record { place = at; channel = is.channel; is = is.is; so = tt }
change_there (changes.LinkUp number port) w (aims.LinkSet at bounds) is = absurd is
change_there (changes.LinkUp number port) w (aims.Fail at) is = absurd is
change_there (changes.LinkUp number port) w (aims.Recover at) is = absurd is
change_there (changes.LinkUp number port) w (aims.Priority1 at set) is = absurd is
change_there (changes.LinkUp number port) w (aims.Inject lane) is = absurd is
change_there (changes.LinkSet number port min max loss) w (aims.Arrival lane) is = absurd is
change_there (changes.LinkSet number port min max loss) w (aims.Timer place set) is = absurd is
change_there (changes.LinkSet number port min max loss) w (aims.LinkDown at) is = absurd is
change_there (changes.LinkSet number port min max loss) w (aims.LinkUp at) is = absurd is
change_there (changes.LinkSet number port min max loss) w (aims.LinkSet at bounds) is =
    record { place = at; channel = is.0.channel; is = is.0.is; so = tt }
change_there (changes.LinkSet number port min max loss) w (aims.Fail at) is = absurd is
change_there (changes.LinkSet number port min max loss) w (aims.Recover at) is = absurd is
change_there (changes.LinkSet number port min max loss) w (aims.Priority1 at set) is = absurd is
change_there (changes.LinkSet number port min max loss) w (aims.Inject lane) is = absurd is
change_there (changes.Fail number) w (aims.Arrival lane) is = absurd is
change_there (changes.Fail number) w (aims.Timer place set) is = absurd is
change_there (changes.Fail number) w (aims.LinkDown at) is = absurd is
change_there (changes.Fail number) w (aims.LinkUp at) is = absurd is
change_there (changes.Fail number) w (aims.LinkSet at bounds) is = absurd is
change_there (changes.Fail number) w (aims.Fail at) is =
    record { place = at; station = is.station; is = is.is; so = tt }
change_there (changes.Fail number) w (aims.Recover at) is = absurd is
change_there (changes.Fail number) w (aims.Priority1 at set) is = absurd is
change_there (changes.Fail number) w (aims.Inject lane) is = absurd is
change_there (changes.Recover number) w (aims.Arrival lane) is = absurd is
change_there (changes.Recover number) w (aims.Timer place set) is = absurd is
change_there (changes.Recover number) w (aims.LinkDown at) is = absurd is
change_there (changes.Recover number) w (aims.LinkUp at) is = absurd is
change_there (changes.Recover number) w (aims.LinkSet at bounds) is = absurd is
change_there (changes.Recover number) w (aims.Fail at) is = absurd is
change_there (changes.Recover number) w (aims.Recover at) is =
    record { place = at; station = is.station; is = is.is; so = tt }
change_there (changes.Recover number) w (aims.Priority1 at set) is = absurd is
change_there (changes.Recover number) w (aims.Inject lane) is = absurd is
change_there (changes.Priority1 number value) w (aims.Arrival lane) is = absurd is
change_there (changes.Priority1 number value) w (aims.Timer place set) is = absurd is
change_there (changes.Priority1 number value) w (aims.LinkDown at) is = absurd is
change_there (changes.Priority1 number value) w (aims.LinkUp at) is = absurd is
change_there (changes.Priority1 number value) w (aims.LinkSet at bounds) is = absurd is
change_there (changes.Priority1 number value) w (aims.Fail at) is = absurd is
change_there (changes.Priority1 number value) w (aims.Recover at) is = absurd is
change_there (changes.Priority1 number value) w (aims.Priority1 at set) is =
    record { place = at; station = is.0.station; is = is.0.is; so = tt }
change_there (changes.Priority1 number value) w (aims.Inject lane) is = absurd is
change_there (changes.Inject number port octets) w (aims.Arrival lane) is = absurd is
change_there (changes.Inject number port octets) w (aims.Timer place set) is = absurd is
change_there (changes.Inject number port octets) w (aims.LinkDown at) is = absurd is
change_there (changes.Inject number port octets) w (aims.LinkUp at) is = absurd is
change_there (changes.Inject number port octets) w (aims.LinkSet at bounds) is = absurd is
change_there (changes.Inject number port octets) w (aims.Fail at) is = absurd is
change_there (changes.Inject number port octets) w (aims.Recover at) is = absurd is
change_there (changes.Inject number port octets) w (aims.Priority1 at set) is = absurd is
change_there (changes.Inject number port octets) w (aims.Inject lane) is =
    record { place = lane.link; channel = is.channel; is = lane_joins (port_id number port) w lane is; so = tt }

pub aim_there : (act : Act) (w : WorldState) (target : ActTarget) → IsTargetOf act w target → IsThere act w
aim_there (Deliver link direction) w (aims.Arrival lane) is = is.1.1
aim_there (Deliver link direction) w (aims.Timer place set) is = absurd is
aim_there (Deliver link direction) w (aims.LinkDown at) is = absurd is
aim_there (Deliver link direction) w (aims.LinkUp at) is = absurd is
aim_there (Deliver link direction) w (aims.LinkSet at bounds) is = absurd is
aim_there (Deliver link direction) w (aims.Fail at) is = absurd is
aim_there (Deliver link direction) w (aims.Recover at) is = absurd is
aim_there (Deliver link direction) w (aims.Priority1 at set) is = absurd is
aim_there (Deliver link direction) w (aims.Inject lane) is = absurd is
aim_there (Expire number timer) w (aims.Arrival lane) is = absurd is
aim_there (Expire number timer) w (aims.Timer place set) is =
    record { place = place; station = is.0.station; is = is.0.is; so = is.0.timer_of }
aim_there (Expire number timer) w (aims.LinkDown at) is = absurd is
aim_there (Expire number timer) w (aims.LinkUp at) is = absurd is
aim_there (Expire number timer) w (aims.LinkSet at bounds) is = absurd is
aim_there (Expire number timer) w (aims.Fail at) is = absurd is
aim_there (Expire number timer) w (aims.Recover at) is = absurd is
aim_there (Expire number timer) w (aims.Priority1 at set) is = absurd is
aim_there (Expire number timer) w (aims.Inject lane) is = absurd is
aim_there (Changing c) w target is = change_there c w target is

-- ---- whether it is due

no_arrival_of : (c : Change) (w : WorldState) (lane : Lane) → IsTargetOfChange c w (aims.Arrival lane) → ⊥
no_arrival_of (changes.LinkDown number port) w lane is = is
no_arrival_of (changes.LinkUp number port) w lane is = is
no_arrival_of (changes.LinkSet number port min max loss) w lane is = is
no_arrival_of (changes.Fail number) w lane is = is
no_arrival_of (changes.Recover number) w lane is = is
no_arrival_of (changes.Priority1 number value) w lane is = is
no_arrival_of (changes.Inject number port octets) w lane is = is

no_timer_of : (c : Change) (w : WorldState) (place : ℕ) (timer : Timer)
    → IsTargetOfChange c w (aims.Timer place timer) → ⊥
no_timer_of (changes.LinkDown number port) w place timer is = is
no_timer_of (changes.LinkUp number port) w place timer is = is
no_timer_of (changes.LinkSet number port min max loss) w place timer is = is
no_timer_of (changes.Fail number) w place timer is = is
no_timer_of (changes.Recover number) w place timer is = is
no_timer_of (changes.Priority1 number value) w place timer is = is
no_timer_of (changes.Inject number port octets) w place timer is = is

pub arrival_due : (act : Act) (time : ℕ) (w : WorldState) (lane : Lane) (test : Bool)
    → IsTargetOf act w (aims.Arrival lane)
    → ((channel : Channel) → slice_get w.net.channels lane.link ≡ Some channel → IsTrue test
    ↔ IsOldestDue lane.direction time channel)
    → IsTrue test ↔ IsDueThen act time w
arrival_due (Deliver link direction) time w lane test is told = (
  λ yes. record {
    channel = is.1.1.channel;
    here = is.1.1.here;
    so = subst (λ d. IsOldestDue d time is.1.1.channel) is.1.0
        ((told is.1.1.channel (at is.1.1.channel is.1.1.here)).0 yes);
  },
  λ due. (told due.channel (at due.channel due.here)).1
      (subst (λ d. IsOldestDue d time due.channel) (sym is.1.0) due.so),
)
  where
    at : (channel : Channel) → slice_get w.net.channels link ≡ Some channel
        → slice_get w.net.channels lane.link ≡ Some channel
    at channel here = ap (slice_get w.net.channels) is.0 ∙ here
arrival_due (Expire number timer) time w lane test is told = absurd is
arrival_due (Changing c) time w lane test is told = absurd (no_arrival_of c w lane is)

pub timer_due : (act : Act) (time : ℕ) (parts : WorldParts) (place : ℕ) (timer : Timer) (test : Bool)
    → IsWorldParts parts
    → IsDirectory parts.net.directory → IsTargetOf act (world_of parts) (aims.Timer place timer)
    → ((station : Station) → slice_get parts.stations.items place ≡ Some station → IsTrue test
    ↔ (station_due timer station ≡ Some time))
    → IsTrue test ↔ IsDueThen act time (world_of parts)
timer_due (Deliver link direction) time parts place timer test on directory is told = absurd is
timer_due (Expire number own) time parts place timer test on directory is told = (
  λ yes. record {
    place = place;
    station = is.0.station;
    is = is.0.is;
    so = subst (λ t. station_due t is.0.station ≡ Some time) is.1 ((told is.0.station is.0.is.here).0 yes);
  },
  λ due.
      let one = system_clock parts number on
      (record { place = place; station = is.0.station; is = is.0.is; so = tt }) in
      let other = system_clock parts number on
      (record { place = due.place; station = due.station; is = due.is; so = tt }) in
      let same : due.place ≡ place = directory.plan.differ due.place place number other one in
      let here : slice_get parts.stations.items place
      ≡ Some due.station = ap (slice_get parts.stations.items) (sym same) ∙ due.is.here in
      (told due.station here).1 (subst (λ t. station_due t due.station ≡ Some time) (sym is.1) due.so),
)
timer_due (Changing c) time parts place timer test on directory is told =
    absurd (no_timer_of c (world_of parts) place timer is)
