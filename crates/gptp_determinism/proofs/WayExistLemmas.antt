-- A world that can go on goes on to a time.
use Rattle.std.proofs.Common.{◌≡◌, ◌⊎◌, ◌+◌, ◌-◌, ◌<◌, ◌≤◌, ℕ, zero, suc, List, [], ◌∷◌, ◌++◌, Option, refl, sym, ap, subst, inl, inr, arith}
use Rattle.std.specs.Prelude.{⊤}
use Rattle.std.specs.List.{AllByRecursion}
use Rattle.std.proofs.lemmas.List.Elements.{All-cons, All-nil}
use native.Mathlib.Decide.{dec_le}
use Rattle.gptp_links.specs.declared.bounds.Bounds.{Bounds}
use Rattle.gptp_links.specs.Fate.{Draw}
use Rattle.gptp_setup.specs.Intervals.{IsMoment}
use Rattle.gptp_system.specs.declared.answer.Answer.{Answer}
use Rattle.gptp_system.specs.State.{clock}
use Rattle.gptp_vector.specs.declared.port.PortId.{PortId}
use Rattle.gptp_scenario.specs.Allowed.{IsAllowed}
use Rattle.gptp_scenario.specs.declared.change.Act.{Act}
use Rattle.gptp_scenario.specs.declared.change.Act.TheVariants.{Deliver, Expire, Change as Changing}
use Rattle.gptp_scenario.specs.declared.change.Timed.{Timed}
use Rattle.gptp_model.specs.declared.done.Done.{Done}
use Rattle.gptp_model.specs.declared.done.Done.TheVariants.{Quiet, Heard}
use Rattle.gptp_model.specs.declared.item.Item.{Item}
use Rattle.gptp_model.specs.declared.item.Item.TheVariants.{Arrival, Expiry}
use Rattle.gptp_model.specs.Acts.{at, Acts, TellsHearing}
use Rattle.gptp_model.specs.Ahead.{due_by}
use Rattle.gptp_model.specs.Pending.{Entry, IsNext, NothingBefore}
use Rattle.gptp_model.specs.Sound.{IsSound}
use Rattle.gptp_model.specs.Views.{IsActOf, IsNextAct}
use Rattle.gptp_model.specs.World.{WorldState, receiver}
use Rattle.gptp_model.proofs.AdvanceLemmas.{can_happen, happened, next_not_before, nothing_sooner}
use Rattle.gptp_model.proofs.MomentLemmas.{nothing_before-next}
use Rattle.gptp_model.proofs.NextDueLemmas.{next_runs_out}
use Rattle.gptp_model.proofs.SoundLemmas.{later_sound}
use Rattle.gptp_report.specs.Transitions.{Passes, PassesTo, ActTrace, transition}
use Rattle.gptp_determinism.specs.ExistenceLaws.{ActsExist, WaysExist}
use Rattle.gptp_determinism.specs.GoingOn.{AnswersAll, AllAreOctets, CanGoOn, InjectsOctets, IsOfOctets}
use Rattle.gptp_determinism.proofs.BeginExistLemmas.{acts_exist}

-- ---- what is next

-- the first entry is next where none after it is due earlier
first_next : (e : Entry) (es : List Entry) → NothingBefore e.time es → IsNext (e ∷ es) e.time e.item
first_next e es late = record {
  before = [];
  after = es;
  is = refl;
  later = All-nil (λ (x : Entry). e.time < x.time);
  not_before = late;
}

-- what is next stays next after an entry that is due later
later_next : (e : Entry) (es : List Entry) (time : ℕ) (item : Item) → time < e.time → IsNext es time item
    → IsNext (e ∷ es) time item
later_next e es time item late next = record {
  before = e ∷ next.before;
  after = next.after;
  is = ap (λ (xs : List Entry). e ∷ xs) next.is;
  later = All-cons (λ (x : Entry). time < x.time) e next.before late next.later;
  not_before = next.not_before;
}

-- where something is pending, something is next
next_exists : (e : Entry) (es : List Entry) → (time : ℕ) × (item : Item) × IsNext (e ∷ es) time item
next_exists e [] = (e.time, e.item, first_next e [] (All-nil (λ (x : Entry). e.time ≤ x.time)))
next_exists e (f ∷ es) = by (next_exists f es)
  where
    by : ((time : ℕ) × (item : Item) × IsNext (f ∷ es) time item)
        → (time : ℕ) × (item : Item) × IsNext (e ∷ f ∷ es) time item
    by (time, item, next) = elim (dec_le e.time time) [
      | yes early ↦ (
        e.time,
        e.item,
        first_next e (f ∷ es)
            (nothing_sooner e.time time (f ∷ es) early (nothing_before-next (f ∷ es) time item next)),
      )
      | no over ↦ (time, item, later_next e (f ∷ es) time item (omega (arith, over)) next)
    ]

-- something is next by a time
abbrev IsNextBy : ℕ → List Entry → Type 0
IsNextBy time es = (due : ℕ) × (item : Item) × IsNext es due item × (due ≤ time)

-- something is next by a time, or nothing is due by then
next_by : (time : ℕ) (es : List Entry) → NothingBefore (time + 1) es ⊎ IsNextBy time es
next_by time [] = inl (All-nil (λ (e : Entry). time + 1 ≤ e.time))
next_by time (e ∷ es) = by (next_exists e es)
  where
    by : ((due : ℕ) × (item : Item) × IsNext (e ∷ es) due item)
        → NothingBefore (time + 1) (e ∷ es) ⊎ IsNextBy time (e ∷ es)
    by (due, item, next) = elim (dec_le due time) [
      | yes early ↦ inr (due, item, next, early)
      | no over ↦
          inl (nothing_sooner (time + 1) due (e ∷ es) (omega (arith, over))
          (nothing_before-next (e ∷ es) due item next))
    ]

-- what is next is an act
act_exists : (item : Item) (time : ℕ) (w : WorldState) → IsSound w → IsNext w.net.pending time item
    → (act : Act) × IsActOf item w act
act_exists (Arrival link direction) time w sound next = (Deliver link direction, refl)
act_exists (Expiry place timer) time w sound next =
    let runs = next_runs_out place timer time w sound.agrees next in
    (Expire (clock runs.station.system) timer, (runs.station, runs.here, refl))

-- it injects nothing
next_injects : (item : Item) (act : Act) (w : WorldState) → IsActOf item w act → InjectsOctets act
next_injects (Arrival link direction) act w is = subst InjectsOctets (sym is) tt
next_injects (Expiry place timer) act w (station, here, is) = subst InjectsOctets (sym is) tt

-- ---- time that passes

-- a world that can go on can at a later time before which nothing is due
pub can_later : (w : WorldState) (time : ℕ) → NothingBefore time w.net.pending → CanGoOn w → CanGoOn (at time w)
can_later w time first can = record {
  sound = later_sound w time w.last_change can.sound first;
  systems = can.systems;
  ends = λ link direction channel here.
      let (place, station, is) = can.ends link direction channel here in
      (place, station, record { here = is.here; named = is.named });
  octets = can.octets;
}

-- ---- what is told is of octets

-- a frame that was heard is of octets
abbrev pub TellsOctets : Done → Type 0
TellsOctets Quiet = ⊤
TellsOctets (Heard clock port answer frame) = AllAreOctets frame.items

abbrev pub AllTellOctets : List ActTrace → Type 0
AllTellOctets = AllByRecursion (λ (t : ActTrace). TellsOctets t.told.done)

pub octets-append : (ts us : List ActTrace) → AllTellOctets ts → AllTellOctets us → AllTellOctets (ts ++ us)
octets-append [] us all more = more
octets-append (t ∷ ts) us all more = (all.0, octets-append ts us all.1 more)

heard_octets : (reached : PortId) (answer : Option Answer) (octets : List ℕ) (done : Done)
    → TellsHearing reached answer octets done → AllAreOctets octets → TellsOctets done
heard_octets reached answer octets Quiet told are = absurd told
heard_octets reached answer octets (Heard clock port said frame) told are = subst AllAreOctets (sym told.3) are

-- so is what is told of an act of a world in which octets are in flight
pub done_octets : (act : Act) (time : ℕ) (w v : WorldState) (draws : List Draw) (done : Done) → CanGoOn w
    → Acts act (at time w) draws done v → TellsOctets done
done_octets (Deliver link direction) time w v draws done can k =
    let takes = k.delivers.takes in
    let front = subst (AllByRecursion IsOfOctets) takes.front (can.octets link direction k.delivers.channel takes.here)
    in heard_octets (receiver direction k.channel) k.answer k.octets done k.told front.0.0
done_octets (Expire number timer) time w v draws done can k = subst TellsOctets (sym k.0) tt
done_octets (Changing change) time w v draws done can k = subst TellsOctets (sym k.0) tt

-- ---- acts until nothing is due

-- From a world acts are done until nothing is due by a time. It can go on then, and all that is told is of octets.
record GoesBy {F : Type 0} (answers : Bounds → ℕ → F → Option ℕ → F → Type 0) (until : ℕ) (fate : F) (w : WorldState)
    : Type 0 where
  ts : List ActTrace
  fate_after : F
  after : WorldState
  passes : Passes answers until ts fate fate_after w after
  nothing_left : NothingBefore (until + 1) after.net.pending
  can : CanGoOn after
  octets : AllTellOctets ts

module _ {F : Type 0} (answers : Bounds → ℕ → F → Option ℕ → F → Type 0) (all : AnswersAll answers)
    (acts : ActsExist answers) (until : ℕ) (moment : IsMoment until) where
  -- one act more, which is due at a time before which nothing is: it leaves less to do at that time
  one_more : (from bound due : ℕ) (item : Item) (act : Act) → from ≤ until
      → ((fate : F) (v : WorldState) → CanGoOn v → NothingBefore from v.net.pending
      → due_by from v.net.pending < bound → GoesBy answers until fate v)
      → (fate : F) (w : WorldState) → CanGoOn w → NothingBefore from w.net.pending → due_by from w.net.pending ≤ bound
      → IsNext w.net.pending due item → due ≤ from → IsActOf item w act → GoesBy answers until fate w
  one_more from bound due item act within again fate w can first few next early is =
      let timed : Timed = record { at = due; act = act } in
      let upcoming : IsNextAct w timed = record { item = item; next = next; act = is } in
      let happens = can_happen item due act w can.sound next is in
      let in_time : due ≤ until = omega (arith, early, within) in
      let allowed : IsAllowed timed = record { moment = omega (arith, in_time, moment); fit = happens.fit } in
      let (drawn, v, done, was, can_then) = acts all timed fate w can allowed (next_injects item act w is) happens.ready
      in
      let left = happened answers timed done fate drawn w v can.sound upcoming was in
      let late = next_not_before from w.net.pending due item next first in
      let same : due ≡ from = omega (arith, early, late) in
      let less : due_by from v.net.pending < due_by from w.net.pending =
      subst (λ (t : ℕ). due_by t v.net.pending < due_by t w.net.pending) same left.less in
      let none : NothingBefore from v.net.pending =
      subst (λ (t : ℕ). NothingBefore t v.net.pending) same left.first in
      let rest = again drawn v can_then none (omega (arith, less, few)) in
      record {
        ts = transition timed done w v ∷ rest.ts;
        fate_after = rest.fate_after;
        after = rest.after;
        passes = (drawn, refl, record { next = upcoming; early = in_time; was_done = was }, rest.passes);
        nothing_left = rest.nothing_left;
        can = rest.can;
        octets = (done_octets act due w v was.draws done can was.acts, rest.octets);
      }

  -- what is due at a time is done, and then it goes on so
  finishes : (bound from : ℕ) → from ≤ until
      → ((fate : F) (v : WorldState) → CanGoOn v → NothingBefore (from + 1) v.net.pending → GoesBy answers until fate v)
      → (fate : F) (w : WorldState) → CanGoOn w → NothingBefore from w.net.pending → due_by from w.net.pending ≤ bound
      → NothingBefore (from + 1) w.net.pending ⊎ IsNextBy from w.net.pending → GoesBy answers until fate w
  finishes bound from within more fate w can first few (inl none) = more fate w can none
  finishes zero from within more fate w can first few (inr (due, item, next, early)) =
      let (act, is) = act_exists item due w can.sound next in
      one_more from zero due item act within (λ f v can_then none less. absurd (omega (arith, less))) fate w can first
      few next early is
  finishes (suc bound) from within more fate w can first few (inr (due, item, next, early)) =
      let (act, is) = act_exists item due w can.sound next in
      one_more from (suc bound) due item act within
      (λ f v can_then none less. finishes bound from within more f v can_then none (omega (arith, less))
      (next_by from v.net.pending)) fate w can first few next early is

  -- so time after time
  goes_by : (left from : ℕ) → from + left ≡ until + 1 → (fate : F) (w : WorldState) → CanGoOn w
      → NothingBefore from w.net.pending → GoesBy answers until fate w
  goes_by zero from is fate w can first = record {
    ts = [];
    fate_after = fate;
    after = w;
    passes = (refl, refl);
    nothing_left = nothing_sooner (until + 1) from w.net.pending (omega (arith, is)) first;
    can = can;
    octets = tt;
  }
  goes_by (suc left) from is fate w can first =
      let few : due_by from w.net.pending ≤ due_by from w.net.pending = omega arith in
      finishes (due_by from w.net.pending) from (omega (arith, is))
      (λ f v can_then none. goes_by left (from + 1) (omega (arith, is)) f v can_then none) fate w can first few
      (next_by from w.net.pending)

-- ---- to a time

-- It goes on to a time, and can go on then; and all that is told meanwhile is of octets.
pub record GoesTo {F : Type 0} (answers : Bounds → ℕ → F → Option ℕ → F → Type 0) (until : ℕ) (fate : F)
    (w : WorldState) : Type 0 where
  pub ts : List ActTrace
  pub fate_after : F
  pub after : WorldState
  pub passes : PassesTo answers until ts fate fate_after w after
  pub can : CanGoOn after
  pub octets : AllTellOctets ts

module _ {F : Type 0} (answers : Bounds → ℕ → F → Option ℕ → F → Type 0) (acts : ActsExist answers)
    (all : AnswersAll answers) where
  pub goes_to : (until : ℕ) (fate : F) (w : WorldState) → CanGoOn w → w.time ≤ until → IsMoment until
      → GoesTo answers until fate w
  goes_to until fate w can ahead moment =
      let way = goes_by answers all acts until moment (until + 1 - w.time) w.time (omega (arith, ahead)) fate w can
      can.sound.on_time.pending in
      let first = nothing_sooner until (until + 1) way.after.net.pending (omega arith) way.nothing_left in
      record {
        ts = way.ts;
        fate_after = way.fate_after;
        after = at until way.after;
        passes = record {
          ahead = ahead;
          between = way.after;
          passes = way.passes;
          nothing_left = way.nothing_left;
          is = refl;
        };
        can = can_later way.after until first way.can;
        octets = way.octets;
      }

-- a world that can go on goes on to each time that is ahead
pub ways_exist : {F : Type 0} (answers : Bounds → ℕ → F → Option ℕ → F → Type 0) → WaysExist answers
ways_exist answers all until fate w can ahead moment =
    let way = goes_to answers (acts_exist answers) all until fate w can ahead moment in
    (way.ts, way.fate_after, way.after, way.passes, way.can)
