-- A world that goes on by itself: what is next can happen, and leaves less to do at its time.
use Rattle.std.proofs.Common.{◌≡◌, ◌<◌, ◌≤◌, ℕ, true, List, [], ◌∷◌, ◌++◌, Option, Some, None, slice_get, refl, ap, sym, subst, ◌∙◌, arith}
use Rattle.std.specs.List.{All}
use Rattle.std.proofs.lemmas.List.Elements.{All-head, All-tail, All-weaker}
use Rattle.std.proofs.lemmas.Option.{same_Some}
use Rattle.gptp_links.specs.declared.bounds.Bounds.{Bounds}
use Rattle.gptp_links.specs.declared.link.Direction.{Direction}
use Rattle.gptp_links.specs.Fate.{Draw}
use Rattle.gptp_system.specs.declared.answer.Answer.{Answer}
use Rattle.gptp_setup.specs.declared.timer.Timer.{Timer}
use Rattle.gptp_system.specs.State.{clock, due}
use Rattle.gptp_system.specs.Steps.{IsTimerOf}
use Rattle.gptp_scenario.specs.declared.change.Act.{Act}
use Rattle.gptp_scenario.specs.declared.change.Act.TheVariants.{Deliver, Expire}
use Rattle.gptp_scenario.specs.declared.change.Timed.{Timed}
use Rattle.gptp_model.specs.declared.done.Done.{Done}
use Rattle.gptp_model.specs.declared.done.Done.TheVariants.{Quiet}
use Rattle.gptp_model.specs.declared.item.Item.{Item}
use Rattle.gptp_model.specs.declared.item.Item.TheVariants.{Expiry, Arrival}
use Rattle.gptp_model.specs.declared.station.Station.{Station}
use Rattle.gptp_model.specs.Act.{TimerRunsOut, Hears}
use Rattle.gptp_model.specs.Acts.{at, Acts, AtSystem, Delivery, IsReadyAct, IsTimelyAct}
use Rattle.gptp_scenario.specs.Allowed.{IsFitAct}
use Rattle.gptp_model.specs.Ahead.{due_by}
use Rattle.gptp_model.specs.Pending.{pending_entry, Entry, IsNext, NothingBefore}
use Rattle.gptp_model.specs.Course.{WasDone}
use Rattle.gptp_model.specs.Sound.{IsSound}
use Rattle.gptp_model.specs.Views.{IsActOf, IsNextAct}
use Rattle.gptp_model.specs.World.{receiver, station_due, WorldState}
use Rattle.gptp_model.proofs.AheadLemmas.{live_due}
use Rattle.gptp_model.proofs.MomentLemmas.{nothing_before-next}
use Rattle.gptp_model.proofs.NextDueLemmas.{next_comes, next_runs_out}
use Rattle.gptp_model.proofs.SoundLemmas.{acts_sound, delivers_less, expires_less, later_sound}

-- ---- what is next can happen

middle : (So : Entry → Type 0) (before : List Entry) (e : Entry) (after : List Entry) → All So (before ++ e ∷ after)
    → So e
middle So [] e after all = All-head So e after all
middle So (x ∷ xs) e after all = middle So xs e after (All-tail So x (xs ++ e ∷ after) all)

-- what is next isn't due before a time before which nothing is
pub next_not_before : (from : ℕ) (es : List Entry) (time : ℕ) (item : Item) → IsNext es time item
    → NothingBefore from es → from ≤ time
next_not_before from es time item next none =
    middle (λ (e : Entry). from ≤ e.time) next.before (pending_entry time item) next.after
    (subst (λ xs. NothingBefore from xs) next.is none)

-- nothing that is pending is due before an earlier time either
pub nothing_sooner : (time later : ℕ) (es : List Entry) → time ≤ later → NothingBefore later es
    → NothingBefore time es
nothing_sooner time later es less none =
    All-weaker (λ (e : Entry). later ≤ e.time) (λ (e : Entry). time ≤ e.time) (λ e late. omega (arith, less, late))
    es none

-- a delivery sets no bounds, and an expiry neither
is_fit : (item : Item) (act : Act) (w : WorldState) → IsActOf item w act → IsFitAct act
is_fit (Arrival link direction) act w is = subst IsFitAct (sym is) tt
is_fit (Expiry place timer) act w (station, here, is) = subst IsFitAct (sym is) tt

-- so nothing more is asked of what is next
pub next_fits : (w : WorldState) (timed : Timed) → IsNextAct w timed → IsFitAct timed.act
next_fits w timed next = is_fit next.item timed.act w next.act

-- it is there and due
pub record CanHappen (item : Item) (time : ℕ) (act : Act) (w : WorldState) : Type 0 where
  pub fit : IsFitAct act
  pub ready : IsReadyAct act time w

is_timely : (item : Item) (time : ℕ) (w : WorldState) → IsSound w → IsNext w.net.pending time item → IsTimelyAct time w
is_timely item time w sound next = record {
  now = next_not_before w.time w.net.pending time item next sound.on_time.pending;
  first = nothing_before-next w.net.pending time item next;
}

arrival_happens : (link : ℕ) (direction : Direction) (time : ℕ) (w : WorldState) → IsSound w
    → IsNext w.net.pending time (Arrival link direction)
    → CanHappen (Arrival link direction) time (Deliver link direction) w
arrival_happens link direction time w sound next =
    let comes = next_comes link direction time w
    (λ channel here. (sound.wired.flow link direction channel here).order) sound.agrees next in
    record {
      fit = tt;
      ready = record {
        timely = is_timely (Arrival link direction) time w sound next;
        there = record { channel = comes.channel; here = comes.here; so = tt };
        due = record {
          channel = comes.channel;
          here = comes.here;
          so = record { oldest = comes.oldest; rest = comes.rest; front = comes.front; due = comes.due_now };
        };
      };
    }

expiry_happens : (place : ℕ) (timer : Timer) (time : ℕ) (w : WorldState) (station : Station) → IsSound w
    → IsNext w.net.pending time (Expiry place timer) → slice_get w.stations place ≡ Some station
    → CanHappen (Expiry place timer) time (Expire (clock station.system) timer) w
expiry_happens place timer time w station sound next here =
    let runs = next_runs_out place timer time w sound.agrees next in
    let same : station ≡ runs.station = same_Some station runs.station (sym here ∙ runs.here) in
    let live : station.live ≡ true = ap (λ (s : Station). s.live) same ∙ runs.live in
    let timer_of : IsTimerOf station.system timer =
    subst (λ (s : Station). IsTimerOf s.system timer) (sym same) runs.timer_of in
    let due_now : station_due timer station ≡ Some time =
    live_due station timer live ∙ (ap (λ (s : Station). due timer s.system) same ∙ runs.due_now) in
    record {
      fit = tt;
      ready = record {
        timely = is_timely (Expiry place timer) time w sound next;
        there = record { place = place; station = station; is = record { here = here; named = refl }; so = timer_of };
        due = record { place = place; station = station; is = record { here = here; named = refl }; so = due_now };
      };
    }

pub can_happen : (item : Item) (time : ℕ) (act : Act) (w : WorldState) → IsSound w → IsNext w.net.pending time item
    → IsActOf item w act → CanHappen item time act w
can_happen (Arrival link direction) time act w sound next is =
    subst (λ a. CanHappen (Arrival link direction) time a w) (sym is) (arrival_happens link direction time w sound next)
can_happen (Expiry place timer) time act w sound next (station, here, is) =
    subst (λ a. CanHappen (Expiry place timer) time a w) (sym is)
    (expiry_happens place timer time w station sound next here)

-- ---- it leaves less to do

hears_time : (place port : ℕ) (octets : List ℕ) (w : WorldState) (draws : List Draw) (answer : Option Answer)
    (w' : WorldState) → Hears place port octets w draws answer w' → w'.time ≡ w.time
hears_time place port octets w draws (Some answer) w' calls = ap (λ (x : WorldState). x.time) calls.is
hears_time place port octets w draws None w' (failed, none, is) = ap (λ (x : WorldState). x.time) is

-- fewer entries at its time, which is that of the world
pub record LeavesLess (time : ℕ) (w w' : WorldState) : Type 0 where
  pub less : due_by time w'.net.pending < due_by time w.net.pending
  pub is_time : w'.time ≡ time

pub leaves_less : (item : Item) (time : ℕ) (act : Act) (w : WorldState) (draws : List Draw) (done : Done)
    (w' : WorldState) → IsSound (at time w) → IsActOf item w act → Acts act (at time w) draws done w'
    → LeavesLess time w w'
leaves_less (Arrival link direction) time act w draws done w' sound is acts =
    let k : Delivery link direction done (at time w) draws w' = subst (λ a. Acts a (at time w) draws done w') is acts in
    let heard = k.delivers in
    record {
      less = delivers_less link direction k.octets (at time w) draws k.answer w' sound heard;
      is_time = hears_time heard.place (receiver direction heard.channel).port k.octets
          (record (at time w) { net = heard.net }) draws k.answer w' heard.hears;
    }
leaves_less (Expiry place timer) time act w draws done w' sound (station, here, is) acts =
    let k : (done ≡ Quiet)
    × AtSystem (clock station.system) (at time w) (λ other one. TimerRunsOut other timer (at time w) draws w') =
    subst (λ a. Acts a (at time w) draws done w') is acts in
    record {
      less = expires_less k.1.place timer (at time w) draws w' sound k.1.so;
      is_time = ap (λ (x : WorldState). x.time) k.1.so.calls.is;
    }

-- ---- one act

-- What was next has happened: less is left to do at its own time, and nothing before.
pub record Happened (timed : Timed) (w w' : WorldState) : Type 0 where
  pub less : due_by timed.at w'.net.pending < due_by timed.at w.net.pending
  pub first : NothingBefore timed.at w'.net.pending

pub happened : {F : Type 0} (answers : Bounds → ℕ → F → Option ℕ → F → Type 0) (timed : Timed) (done : Done)
    (fate fate_after : F) (w w' : WorldState) → IsSound w → IsNextAct w timed
    → WasDone answers timed fate fate_after w w' done → Happened timed w w'
happened answers timed done fate fate_after w w' sound next was =
    let time = timed.at in let act = timed.act in
    let now : IsSound (at time w) = later_sound w time w.last_change sound was.ready.timely.first in
    let after = acts_sound act (at time w) was.draws done w' now (next_fits w timed next) was.acts in
    let left = leaves_less next.item time act w was.draws done w' now next.act was.acts in
    record {
      less = left.less;
      first = subst (λ t. NothingBefore t w'.net.pending) left.is_time after.on_time.pending;
    }
