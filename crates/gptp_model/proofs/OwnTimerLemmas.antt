-- The timers that a system has, and that only those run and are pending.
use Rattle.std.proofs.Common.{◌≡◌, ◌⊎◌, ℕ, zero, suc, ◌+◌, ◌≤◌, Bool, true, false, List, [], ◌∷◌, drop, length, Option, Some, None, slice_get, refl, sym, ap, subst, ◌∙◌, inl, inr, arith}
use Rattle.std.specs.Option.{option_and_then}
use Rattle.std.proofs.lemmas.Option.{none-some}
use Rattle.gptp_lists.specs.Members.{In}
use Rattle.gptp_system.specs.declared.port.Port.{Port}
use Rattle.gptp_setup.specs.declared.timer.Timer.{Timer}
use Rattle.gptp_setup.specs.declared.timer.Timer.TheVariants as timers
use Rattle.gptp_system.specs.State.{SystemState, age_due, announce_due, due, held_at, number}
use Rattle.gptp_system.specs.Steps.{IsTimerOf}
use Rattle.gptp_model.specs.declared.item.Item.{Item}
use Rattle.gptp_model.specs.declared.item.Item.TheVariants.{Expiry}
use Rattle.gptp_model.specs.declared.station.Station.{Station}
use Rattle.gptp_model.specs.Item.{same_item}
use Rattle.gptp_model.specs.Pending.{Entry, times_of_item, without_first_entry, timer_time, set_due}
use Rattle.gptp_model.specs.World.{timers_from, station_due}
use Rattle.gptp_model.specs.Act.{set_timers}
use Rattle.gptp_model.specs.Agrees.{OnlyItsTimers}
use Rattle.gptp_model.proofs.PendingLemmas.{times-without_first_same, times-without_first_other}
use Rattle.gptp_lists.proofs.PlaceLemmas.{member_there}
use Rattle.gptp_model.proofs.TimerLemmas.{are_set, item_is, set_all, stays_set, IsSet}

-- ---- the timers that a system has

-- all timers of the port with this number are in a list
record HasTimers (p : ℕ) (ts : List Timer) : Type 0 where
  pdelay : In (timers.Pdelay p) ts
  respond : In (timers.Respond p) ts
  announce : In (timers.Announce p) ts
  age : In (timers.Age p) ts

has_more : (p n : ℕ) (ts : List Timer) → HasTimers p ts
    → HasTimers p (timers.Pdelay n ∷ timers.Respond n ∷ timers.Announce n ∷ timers.Age n ∷ ts)
has_more p n ts has = record {
  pdelay = inr (inr (inr (inr has.pdelay)));
  respond = inr (inr (inr (inr has.respond)));
  announce = inr (inr (inr (inr has.announce)));
  age = inr (inr (inr (inr has.age)));
}

has_these : (n : ℕ) (ts : List Timer)
    → HasTimers n (timers.Pdelay n ∷ timers.Respond n ∷ timers.Announce n ∷ timers.Age n ∷ ts)
has_these n ts = record {
  pdelay = inl refl;
  respond = inr (inl refl);
  announce = inr (inr (inl refl));
  age = inr (inr (inr (inl refl)));
}

port_timers : (n i : ℕ) (ps : List Port) (q : Port) → slice_get ps i ≡ Some q → HasTimers (n + i) (timers_from n ps)
port_timers n i [] q here = absurd (none-some q here)
port_timers n zero (p ∷ ps) q here =
    let same : n ≡ n + zero = omega arith in
    subst (λ m. HasTimers m (timers_from n (p ∷ ps))) same (has_these n (timers_from (n + 1) ps))
port_timers n (suc i) (p ∷ ps) q here =
    let same : n + 1 + i ≡ n + suc i = omega arith in
    subst (λ m. HasTimers m (timers_from n (p ∷ ps))) same
    (has_more (n + 1 + i) n (timers_from (n + 1) ps) (port_timers (n + 1) i ps q here))

number_timers : (ps : List Port) (p : ℕ) → HasTimers p (timers_from 1 ps) ⊎ (number ps p ≡ None)
number_timers ps zero = inr refl
number_timers ps (suc i) = by (slice_get ps i) refl
  where
    by : (here : Option Port) → slice_get ps i ≡ here → HasTimers (suc i) (timers_from 1 ps) ⊎ (slice_get ps i ≡ None)
    by None is = inr is
    by (Some q) is =
        let same : 1 + i ≡ suc i = omega arith in
        inl (subst (λ m. HasTimers m (timers_from 1 ps)) same (port_timers 1 i ps q is))

port_has : (ps : List Port) (p : ℕ) → 1 ≤ p → p ≤ length ps → HasTimers p (timers_from 1 ps)
port_has ps zero least most = absurd (omega arith)
port_has ps (suc i) least most =
    let found = member_there ps i (omega arith) in let same : 1 + i ≡ suc i = omega arith in
    subst (λ m. HasTimers m (timers_from 1 ps)) same (port_timers 1 i ps found.0 found.1)

-- the timers of the system itself are in a list
record HasOwn (ts : List Timer) : Type 0 where
  sync : In timers.Sync ts
  relay : In timers.Relay ts
  lapse : In timers.Lapse ts

own_timers : (n : ℕ) (ps : List Port) → HasOwn (timers_from n ps)
own_timers n [] = record { sync = inl refl; relay = inr (inl refl); lapse = inr (inr (inl refl)) }
own_timers n (p ∷ ps) =
    let rest = own_timers (n + 1) ps in
    record {
      sync = inr (inr (inr (inr rest.sync)));
      relay = inr (inr (inr (inr rest.relay)));
      lapse = inr (inr (inr (inr rest.lapse)));
    }

-- a timer that names a port of the system is one of them, and so are those that name none
pub own_timer : (timer : Timer) (s : SystemState) → IsTimerOf s timer → In timer (timers_from 1 s.ports)
own_timer (timers.Announce p) s is = (port_has s.ports p is.least is.most).announce
own_timer (timers.Age p) s is = (port_has s.ports p is.least is.most).age
own_timer (timers.Pdelay p) s is = (port_has s.ports p is.least is.most).pdelay
own_timer (timers.Respond p) s is = (port_has s.ports p is.least is.most).respond
own_timer timers.Sync s is = (own_timers 1 s.ports).sync
own_timer timers.Relay s is = (own_timers 1 s.ports).relay
own_timer timers.Lapse s is = (own_timers 1 s.ports).lapse

-- a timer of a port is one of the system's, or there is no such port
port_timer : (timer : Timer) (runs : Port → Option ℕ) (s : SystemState) (p : ℕ)
    → (HasTimers p (timers_from 1 s.ports) → In timer (timers_from 1 s.ports))
    → In timer (timers_from 1 s.ports) ⊎ (option_and_then runs (number s.ports p) ≡ None)
port_timer timer runs s p among = elim (number_timers s.ports p) [
  | inl has ↦ inl (among has)
  | inr none ↦ inr (rw none refl)
]

-- a timer is one of the system's, or doesn't run
pub has_timer : (timer : Timer) (s : SystemState) → In timer (timers_from 1 s.ports) ⊎ (due timer s ≡ None)
has_timer (timers.Pdelay p) s = port_timer (timers.Pdelay p) (λ (q : Port). q.pdelay) s p (λ has. has.pdelay)
has_timer (timers.Respond p) s = port_timer (timers.Respond p) (λ (q : Port). q.respond) s p (λ has. has.respond)
has_timer (timers.Announce p) s =
    port_timer (timers.Announce p) (λ q. announce_due q (held_at s p)) s p (λ has. has.announce)
has_timer (timers.Age p) s =
    port_timer (timers.Age p) (λ (q : Port). age_due s.params s.largest (held_at s p)) s p (λ has. has.age)
has_timer timers.Sync s = inl (own_timers 1 s.ports).sync
has_timer timers.Relay s = inl (own_timers 1 s.ports).relay
has_timer timers.Lapse s = inl (own_timers 1 s.ports).lapse

-- as many ports have the same timers
same_timers : (n : ℕ) (ps qs : List Port) → length qs ≡ length ps → timers_from n qs ≡ timers_from n ps
same_timers n [] [] same = refl
same_timers n [] (q ∷ qs) same = absurd (omega arith)
same_timers n (p ∷ ps) [] same = absurd (omega arith)
same_timers n (p ∷ ps) (q ∷ qs) same =
    let rest : length qs ≡ length ps = omega arith in
    ap (λ ts. timers.Pdelay n ∷ timers.Respond n ∷ timers.Announce n ∷ timers.Age n ∷ ts)
    (same_timers (n + 1) ps qs rest)

stays_off : (timer : Timer) (station : Station) → due timer station.system ≡ None → station_due timer station ≡ None
stays_off timer station none = by station.live refl
  where
    by : (live : Bool) → station.live ≡ live → station_due timer station ≡ None
    by true is = rw (is, none) refl
    by false is = rw is refl

-- a timer is one of those of the system at a station, or doesn't run there
pub station_timer : (timer : Timer) (station : Station)
    → In timer (timers_from 1 station.system.ports) ⊎ (station_due timer station ≡ None)
station_timer timer station = elim (has_timer timer station.system) [
  | inl among ↦ inl among
  | inr none ↦ inr (stays_off timer station none)
]

-- ---- only its own timers are pending

pub only_same_count : (place : ℕ) (ps qs : List Port) (es : List Entry) → length qs ≡ length ps
    → OnlyItsTimers place ps es → OnlyItsTimers place qs es
only_same_count place ps qs es same only timer =
    subst (λ ts. In timer ts ⊎ (times_of_item (Expiry place timer) es ≡ [])) (sym (same_timers 1 ps qs same))
    (only timer)

-- nothing of an item is pending once an entry is taken, if nothing was before
none_left : (i j : Item) (es : List Entry) → times_of_item j es ≡ [] → times_of_item j (without_first_entry i es) ≡ []
none_left i j es none = by (same_item j i) refl
  where
    by : (b : Bool) → same_item j i ≡ b → times_of_item j (without_first_entry i es) ≡ []
    by true same =
        let is : i ≡ j = sym (item_is j i same) in
        subst (λ x. times_of_item j (without_first_entry x es) ≡ []) (sym is)
        (times-without_first_same j es ∙ ap (drop 1) none)
    by false differ = times-without_first_other i j es differ ∙ none

pub only_without_first : (place : ℕ) (ps : List Port) (i : Item) (es : List Entry) → OnlyItsTimers place ps es
    → OnlyItsTimers place ps (without_first_entry i es)
only_without_first place ps i es only timer = elim (only timer) [
  | inl among ↦ inl among
  | inr none ↦ inr (none_left i (Expiry place timer) es none)
]

-- ---- the timers of a system are set

pub set_timers_is : (place : ℕ) (station : Station) (ts : List Timer) (es : List Entry)
    → set_timers place station ts es ≡ set_all (λ timer. station_due timer station) place ts es
set_timers_is place station [] es = refl
set_timers_is place station (t ∷ ts) es =
    set_timers_is place station ts (set_due (Expiry place t) (station_due t station) es)

-- a timer that runs only if it is one of these is pending when it is due, once these are set
all_set : (runs : Timer → Option ℕ) (place : ℕ) (ts : List Timer) (es : List Entry) (timer : Timer)
    → In timer ts ⊎ (runs timer ≡ None) → In timer ts ⊎ (times_of_item (Expiry place timer) es ≡ [])
    → IsSet runs place (set_all runs place ts es) timer
all_set runs place ts es timer (inl among) pending = are_set runs place timer ts es among
all_set runs place ts es timer (inr none) (inl among) = are_set runs place timer ts es among
all_set runs place ts es timer (inr none) (inr empty) =
    stays_set runs place timer ts es (empty ∙ sym (ap timer_time none))

-- each timer of a station is pending when it is due
pub timers_agree : (place : ℕ) (station : Station) (es : List Entry) (timer : Timer)
    → OnlyItsTimers place station.system.ports es
    → times_of_item (Expiry place timer) (set_timers place station (timers_from 1 station.system.ports) es)
    ≡ timer_time (station_due timer station)
timers_agree place station es timer only =
    ap (times_of_item (Expiry place timer)) (set_timers_is place station (timers_from 1 station.system.ports) es)
    ∙ all_set (λ t. station_due t station) place (timers_from 1 station.system.ports) es timer
    (station_timer timer station) (only timer)
