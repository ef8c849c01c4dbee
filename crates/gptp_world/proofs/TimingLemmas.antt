-- What is pending of a system's timers: a step touches few of them, and each other is pending when it is due, before
-- the step and after it. To set those that are touched makes the same of what is pending as to set all.
use Rattle.std.proofs.Common.{◌≡◌, ℕ, zero, suc, ◌+◌, ◌<◌, Bool, true, false, drop, List, [], ◌∷◌, length, ◌≤◌, Option, Some, None, IfSome, refl, sym, ap, subst, ◌∙◌, inl, inr, arith}
use Rattle.std.specs.List.{AllByRecursion, filter}
use Rattle.std.proofs.lemmas.Bool.Decides.{nat_tests}
use Rattle.gptp_lists.specs.Members.{In}
use Rattle.gptp_system.specs.declared.answer.Answer.{Answer}
use Rattle.gptp_system.specs.declared.port.Port.{Port}
use Rattle.gptp_setup.specs.declared.timer.Timer.{Timer}
use Rattle.gptp_setup.specs.declared.timer.Timer.TheVariants as timers
use Rattle.gptp_system.specs.Input.{Input}
use Rattle.gptp_system.specs.Reach.{is_of_time, is_selected, same_timer}
use Rattle.gptp_system.specs.State.{SystemState, due}
use Rattle.gptp_system.specs.Steps.{IsTimerOf}
use Rattle.gptp_system.specs.TimersChanged.{IsTouchedOf, Touches}
use Rattle.gptp_traffic.specs.declared.joined_link.Lane.{Lane}
use Rattle.gptp_model.specs.declared.item.Item.TheVariants.{Expiry, Arrival}
use Rattle.gptp_world.specs.declared.net.Net.{Net as Between}
use Rattle.gptp_world.specs.declared.world_parts.WorldParts.{WorldParts}
use Rattle.gptp_model.specs.declared.station.Station.{Station}
use Rattle.gptp_system.specs.declared.timers_changed.TimersChanged.{TimersChanged}
use Rattle.gptp_system.specs.declared.timers_changed.TimersChanged.TheVariants as touches
use Rattle.gptp_model.specs.Act.{in_state, set_timers, TakesFrame}
use Rattle.gptp_model.specs.Agrees.{Agrees}
use Rattle.gptp_model.specs.Item.{same_item}
use Rattle.gptp_model.specs.Pending.{Entry, set_due, times_of_item, without_first_entry}
use Rattle.gptp_world.specs.Net.{between, OnlyEntries}
use Rattle.gptp_world.specs.WorldParts.{world_of, HasStepped}
use Rattle.gptp_world.specs.Timing.{selected_from, AreSetAt, AreSetBut, AreSetFor, HasTouched}
use Rattle.gptp_model.specs.World.{station_due, timers_from, Channel, Net}
use Rattle.gptp_model.proofs.AgreeLemmas.{no_arrival, running}
use Rattle.gptp_model.proofs.OwnTimerLemmas.{set_timers_is}
use Rattle.gptp_model.proofs.PendingLemmas.{set_due-kept, times-set_due_same, times-without_first_other}
use Rattle.gptp_lists.proofs.PlaceLemmas.{get-set_same}
use Rattle.gptp_model.proofs.SteadyLemmas.{same_ports}
use Rattle.gptp_model.proofs.TimerLemmas.{same_timer as same_expiry, set_all, set_all-kept, stays_set, IsSet}

-- ---- one after another

pub only_more : (m n : ℕ) (first second third : Between) → OnlyEntries m first second → OnlyEntries n second third
    → OnlyEntries (m + n) first third
only_more m n first second third a b = record {
  directory = b.directory ∙ a.directory;
  channels = b.channels ∙ a.channels;
  buffers = b.buffers ∙ a.buffers;
  systems = b.systems ∙ a.systems;
  room = let r = a.room in let q = b.room in omega arith;
}

-- a timer is put only where its system lives, so only there it takes room
pub room_if_live : (timer : Timer) (station : Station) (due : Option ℕ) (room : ℕ) → due ≡ station_due timer station
    → (station.live ≡ true → 1 ≤ room) → IfSome due (λ _. 0 < room)
room_if_live timer station due room is has = by station.live refl
  where
    whenever : (due : Option ℕ) → 0 < room → IfSome due (λ _. 0 < room)
    whenever None some = tt
    whenever (Some time) some = some

    by : (live : Bool) → station.live ≡ live → IfSome due (λ _. 0 < room)
    by true lives = let some = has lives in whenever due (omega arith)
    by false fails =
        let none : due ≡ None = is ∙ rw fails refl in subst (λ d. IfSome d (λ _. 0 < room)) (sym none) tt

-- what is left of a list at a place within it
pub drop_here : {X : Type 0} (i : ℕ) (xs : List X) → i < length xs → (x : X) × (drop i xs ≡ x ∷ drop (i + 1) xs)
drop_here i [] within = absurd (omega arith)
drop_here zero (x ∷ xs) within = (x, refl)
drop_here (suc i) (x ∷ xs) within =
    let rest = drop_here i xs (omega arith) in let next : suc i + 1 ≡ suc (i + 1) = omega arith in
    (rest.0, rw next rest.1)

-- ---- the same timer

-- timers are the same only where they are equal
pub timer_is : (t u : Timer) → same_timer t u ≡ true → t ≡ u
timer_is (timers.Announce p) (timers.Announce q) same = let e : p ≡ q = grind (arith, nat_tests) in ap timers.Announce e
timer_is (timers.Age p) (timers.Age q) same = let e : p ≡ q = grind (arith, nat_tests) in ap timers.Age e
timer_is (timers.Pdelay p) (timers.Pdelay q) same = let e : p ≡ q = grind (arith, nat_tests) in ap timers.Pdelay e
timer_is (timers.Respond p) (timers.Respond q) same = let e : p ≡ q = grind (arith, nat_tests) in ap timers.Respond e
timer_is timers.Sync timers.Sync same = refl
timer_is timers.Relay timers.Relay same = refl
timer_is timers.Lapse timers.Lapse same = refl
timer_is _ _ same = absurd cc

-- and a timer is the same as itself
pub timer_itself : (t : Timer) → same_timer t t ≡ true
timer_itself (timers.Announce p) = grind (arith, nat_tests)
timer_itself (timers.Age p) = grind (arith, nat_tests)
timer_itself (timers.Pdelay p) = grind (arith, nat_tests)
timer_itself (timers.Respond p) = grind (arith, nat_tests)
timer_itself timers.Sync = refl
timer_itself timers.Relay = refl
timer_itself timers.Lapse = refl

-- ---- few timers are set

abbrev none : Timer → Bool
none timer = false

-- those that time changes which comes, of all timers of a system
of_time_are : (p : ℕ) (ports : List Port) → filter is_of_time (timers_from p ports) ≡ timers.Relay ∷ timers.Lapse ∷ []
of_time_are p [] = refl
of_time_are p (q ∷ qs) = of_time_are (p + 1) qs

-- and those that selection can change
selected_are : (p : ℕ) (ports : List Port) → filter is_selected (timers_from p ports) ≡ selected_from p ports
selected_are p [] = refl
selected_are p (q ∷ qs) = ap (λ ts. timers.Announce p ∷ timers.Age p ∷ ts) (selected_are (p + 1) qs)

module _ (runs : Timer → Option ℕ) (place : ℕ) where
  -- each timer is pending when it is due, those aside that are kept for later
  abbrev AreSet : (Timer → Bool) → List Entry → Type 0
  AreSet kept es = (t : Timer) → kept t ≡ false → IsSet runs place es t

  -- that stays so as a timer is set
  still : (kept : Timer → Bool) (t : Timer) (es : List Entry) → AreSet kept es
      → AreSet kept (set_due (Expiry place t) (runs t) es)
  still kept t es are = λ u off. stays_set runs place u (t ∷ []) es (are u off)

  -- where each is pending when it is due, nothing changes
  all_set : (ts : List Timer) (es : List Entry) → AreSet none es → AllByRecursion (IsSet runs place es) ts
  all_set [] es are = tt
  all_set (t ∷ ts) es are = (are t refl, all_set ts es are)

  pub nothing_set : (ts : List Timer) (es : List Entry) → AreSet none es → set_all runs place ts es ≡ es
  nothing_set ts es are = set_all-kept runs place ts es (all_set ts es are)

  -- a timer that is pending when it is due may be passed over
  pub passed_over : (kept : Timer → Bool) (ts : List Timer) (es : List Entry) → AreSet kept es
      → set_all runs place ts es ≡ set_all runs place (filter kept ts) es
  passed_over kept [] es are = refl
  passed_over kept (t ∷ ts) es are =
      by (kept t) refl (λ rest left. passed_over kept ts rest left)
    where
      by : (keeps : Bool) → kept t ≡ keeps
          → ((rest : List Entry) → AreSet kept rest
          → set_all runs place ts rest ≡ set_all runs place (filter kept ts) rest)
          → set_all runs place (t ∷ ts) es ≡ set_all runs place (filter kept (t ∷ ts)) es
      by true is rest = rw is (rest (set_due (Expiry place t) (runs t) es) (still kept t es are))
      by false is rest =
          rw is (ap (set_all runs place ts) (set_due-kept (Expiry place t) (runs t) es (are t is)) ∙ rest es are)

  -- once the one timer is set that isn't, all are
  one_left : (t : Timer) (es : List Entry) → AreSet (same_timer t) es
      → AreSet none (set_due (Expiry place t) (runs t) es)
  one_left t es are u off = by (same_timer t u) refl
    where
      by : (same : Bool) → same_timer t u ≡ same → IsSet runs place (set_due (Expiry place t) (runs t) es) u
      by true is =
          subst (IsSet runs place (set_due (Expiry place t) (runs t) es)) (timer_is t u is)
          (times-set_due_same (Expiry place t) (runs t) es)
      by false is = still (same_timer t) t es are u is

  -- so it may be set alone
  pub one_set : (t : Timer) (ts : List Timer) (es : List Entry) → In t ts → AreSet (same_timer t) es
      → set_all runs place ts es ≡ set_due (Expiry place t) (runs t) es
  one_set t [] es among are = elim among [ ]
  one_set t (u ∷ us) es among are = by (same_timer t u) refl among (λ later. one_set t us es later are)
    where
      by : (same : Bool) → same_timer t u ≡ same → In t (u ∷ us)
          → (In t us → set_all runs place us es ≡ set_due (Expiry place t) (runs t) es)
          → set_all runs place us (set_due (Expiry place u) (runs u) es) ≡ set_due (Expiry place t) (runs t) es
      by true is among rest =
          subst
          (λ v. set_all runs place us (set_due (Expiry place v) (runs v) es) ≡ set_due (Expiry place t) (runs t) es)
          (timer_is t u is) (nothing_set us (set_due (Expiry place t) (runs t) es) (one_left t es are))
      by false is (inl here) rest =
          let itself : same_timer t u ≡ true = subst (λ v. same_timer t v ≡ true) here (timer_itself t) in absurd cc
      by false is (inr later) rest =
          ap (set_all runs place us) (set_due-kept (Expiry place u) (runs u) es (are u is)) ∙ rest later

-- ---- setting those that were touched is setting all

module _ (place : ℕ) (station : Station) (ts : List Timer) (es : List Entry) where
  pub nothing_touched : AreSetBut (λ timer. false) place station es → es ≡ set_timers place station ts es
  nothing_touched set =
      sym (set_timers_is place station ts es ∙ nothing_set (λ t. station_due t station) place ts es set)

  pub one_touched : (timer : Timer) → In timer ts → AreSetBut (same_timer timer) place station es
      → set_timers place station (timer ∷ []) es ≡ set_timers place station ts es
  one_touched timer among set =
      sym (set_timers_is place station ts es ∙ one_set (λ t. station_due t station) place timer ts es among set)

module _ (place : ℕ) (station : Station) (ports : List Port) (es : List Entry) where
  -- those of which this is true
  some_touched : (kept : Timer → Bool) (ts : List Timer) → filter kept (timers_from 1 ports) ≡ ts
      → AreSetBut kept place station es
      → set_timers place station ts es ≡ set_timers place station (timers_from 1 ports) es
  some_touched kept ts are set =
      let runs = λ (t : Timer). station_due t station in
      set_timers_is place station ts es
      ∙ ap (λ us. set_all runs place us es) (sym are)
      ∙ sym (passed_over runs place kept (timers_from 1 ports) es set)
      ∙ sym (set_timers_is place station (timers_from 1 ports) es)

  pub time_touched : AreSetBut is_of_time place station es
      → set_timers place station (timers.Relay ∷ timers.Lapse ∷ []) es
      ≡ set_timers place station (timers_from 1 ports) es
  time_touched = some_touched is_of_time (timers.Relay ∷ timers.Lapse ∷ []) (of_time_are 1 ports)

  pub selection_touched : AreSetBut is_selected place station es
      → set_timers place station (selected_from 1 ports) es ≡ set_timers place station (timers_from 1 ports) es
  selection_touched = some_touched is_selected (selected_from 1 ports) (selected_are 1 ports)

-- a timer that is touched alone is one of the system before and after
same_timers_of : (s s' : SystemState) (timer : Timer) → length s'.ports ≡ length s.ports → IsTimerOf s timer
    → IsTimerOf s' timer
same_timers_of s s' (timers.Announce p) ports is = record { least = is.least; most = rw ports is.most }
same_timers_of s s' (timers.Age p) ports is = record { least = is.least; most = rw ports is.most }
same_timers_of s s' (timers.Pdelay p) ports is = record { least = is.least; most = rw ports is.most }
same_timers_of s s' (timers.Respond p) ports is = record { least = is.least; most = rw ports is.most }
same_timers_of s s' timers.Sync ports is = tt
same_timers_of s s' timers.Relay ports is = tt
same_timers_of s s' timers.Lapse ports is = tt

same_touched_of : (s s' : SystemState) (touched : TimersChanged) → length s'.ports ≡ length s.ports
    → IsTouchedOf s touched
    → IsTouchedOf s' touched
same_touched_of s s' touches.Nothing ports is = tt
same_touched_of s s' (touches.One timer) ports is = same_timers_of s s' timer ports is
same_touched_of s s' touches.Time ports is = tt
same_touched_of s s' touches.Selected ports is = tt
same_touched_of s s' touches.All ports is = tt

-- ---- after a step

-- A live system took a step, which left all its timers but these. They were pending when they were due, and still are.
pub has_touched : (parts left : WorldParts) (place : ℕ) (input : Input) (answer : Answer) (touched : TimersChanged)
    (step : HasStepped place input answer parts left) → AreSetFor input place parts
    → Touches input touched step.station.system step.after → HasTouched touched place left
has_touched parts left place input answer touched step set touches =
    let s = step.station.system in let s' = step.after in let net = step.net in let live = step.live in
    let stations = step.stations in
    record {
      station = in_state s' step.station;
      here = rw stations (get-set_same parts.stations.items place step.station (in_state s' step.station) step.here);
      own = same_touched_of s s' touched (same_ports input parts.now s s' left.outbox.items answer step.steps)
          touches.own;
      set = λ timer off.
          let still : due timer s' ≡ due timer s = touches.leaves timer off in
          let same : station_due timer (in_state s' step.station) ≡ station_due timer step.station =
          rw (live, still) refl in
          rw (net, same) (set step.station step.here timer (touches.always timer off));
    }

-- ---- before a step

-- where all agrees each timer of a system is pending when it is due, also once a frame is taken
pub set_for_frame : (parts : WorldParts) (net : Between) (lane : Lane) (octets : List ℕ) (channel : Channel) (place : ℕ)
    → Agrees (world_of parts)
    → TakesFrame lane.link lane.direction parts.now octets channel (between parts.net) (between net)
    → AreSetAt (λ timer. false) place (record parts { net = net })
set_for_frame parts net lane octets channel place agrees takes station here timer off =
    ap (λ (n : Net). times_of_item (Expiry place timer) n.pending) takes.is
    ∙ times-without_first_other (Arrival lane.link lane.direction) (Expiry place timer) parts.net.traffic.net.pending
    (no_arrival place timer lane.link lane.direction)
    ∙ agrees (Expiry place timer) ∙ ap (running timer) here

-- another timer is pending as before once one is taken that runs out
differs : (place : ℕ) (t u : Timer) → same_timer t u ≡ false → same_item (Expiry place u) (Expiry place t) ≡ false
differs place t u off = by (same_item (Expiry place u) (Expiry place t)) refl
  where
    by : (same : Bool) → same_item (Expiry place u) (Expiry place t) ≡ same
        → same_item (Expiry place u) (Expiry place t) ≡ false
    by true is =
        let one : same_timer t u ≡ true =
        subst (λ v. same_timer t v ≡ true) (sym (same_expiry place place u t is).1) (timer_itself t) in absurd cc
    by false is = is

pub set_for_timer : (parts : WorldParts) (net : Between) (place : ℕ) (timer : Timer) → Agrees (world_of parts)
    → between net
    ≡ record (between parts.net) { pending = without_first_entry (Expiry place timer) (between parts.net).pending }
    → AreSetAt (same_timer timer) place (record parts { net = net })
set_for_timer parts net place timer agrees taken station here other off =
    ap (λ (n : Net). times_of_item (Expiry place other) n.pending) taken
    ∙ times-without_first_other (Expiry place timer) (Expiry place other) parts.net.traffic.net.pending
    (differs place timer other off)
    ∙ agrees (Expiry place other) ∙ ap (running other) here
