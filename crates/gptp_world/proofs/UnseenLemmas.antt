-- What is next happens, whatever is told of it.
use Rattle.std.proofs.Common.{◌≡◌, ℕ, Option, refl, sym, subst, ◌∙◌, arith}
use Rattle.gptp_links.specs.declared.bounds.Bounds.{Bounds}
use Rattle.gptp_links.specs.declared.link.Direction.{Direction}
use Rattle.gptp_setup.specs.declared.timer.Timer.{Timer}
use Rattle.gptp_system.specs.State.{clock}
use Rattle.gptp_scenario.specs.declared.change.Act.{Act}
use Rattle.gptp_scenario.specs.declared.change.Act.TheVariants.{Deliver, Expire}
use Rattle.gptp_scenario.specs.declared.change.Timed.{Timed}
use Rattle.gptp_model.specs.declared.done.Done.TheVariants.{Quiet}
use Rattle.gptp_model.specs.declared.item.Item.{Item}
use Rattle.gptp_model.specs.declared.item.Item.TheVariants.{Arrival, Expiry}
use Rattle.gptp_model.specs.Acts.{at, Acts, AtPlace, IsOldestDue}
use Rattle.gptp_model.specs.Agrees.{Agrees}
use Rattle.gptp_model.specs.Course.{WasDone}
use Rattle.gptp_model.specs.Pending.{IsNext}
use Rattle.gptp_model.specs.Sound.{IsSound}
use Rattle.gptp_model.specs.Views.{IsActOf, IsNextAct}
use Rattle.gptp_model.specs.World.{WorldState}
use Rattle.gptp_invariants.specs.SyncTimedClaim.{WorldInvariant}
use Rattle.gptp_world.specs.declared.world_parts.WorldParts.{WorldParts}
use Rattle.gptp_world.specs.ActTarget.{IsTimerDue}
use Rattle.gptp_world.specs.Following.{HappensUnseen}
use Rattle.gptp_world.specs.Performing.{Expired, IsDone}
use Rattle.gptp_world.specs.WorldParts.{world_of}
use Rattle.gptp_model.proofs.AdvanceLemmas.{can_happen, happened}
use Rattle.gptp_model.proofs.AheadLemmas.{live_due}
use Rattle.gptp_model.proofs.NextDueLemmas.{next_comes, next_runs_out}
use Rattle.gptp_model.proofs.PromptLemmas.{next_prompt}
use Rattle.gptp_model.proofs.SoundLemmas.{acts_sound}
use Rattle.gptp_world.proofs.LaterLemmas.{at_time}
use Rattle.gptp_world.proofs.SettlingInvariantLemmas.{acted_claimed, next_octet}
use Rattle.gptp_world.proofs.WorldCoreLemmas.{ready_sound}

-- ---- it is due

-- the frame of an arrival that is next is due
pub frame_due : (link : ℕ) (direction : Direction) (time : ℕ) (w : WorldState) → IsSound w
    → IsNext w.net.pending time (Arrival link direction) → AtPlace link w.net (IsOldestDue direction time)
frame_due link direction time w sound next =
    let comes = next_comes link direction time w
    (λ channel here. (sound.wired.flow link direction channel here).order) sound.agrees next in
    record {
      channel = comes.channel;
      here = comes.here;
      so = record { oldest = comes.oldest; rest = comes.rest; front = comes.front; due = comes.due_now };
    }

-- and so is a timer
pub timer_due : (place : ℕ) (timer : Timer) (time : ℕ) (w : WorldState) → IsSound w
    → IsNext w.net.pending time (Expiry place timer) → IsTimerDue place timer time w
timer_due place timer time w sound next =
    let runs = next_runs_out place timer time w sound.agrees next in
    record { station = runs.station; here = runs.here; due = live_due runs.station timer runs.live ∙ runs.due_now }

-- ---- it is an act

-- what is next is an act
next_is : (item : Item) (time : ℕ) (w : WorldState) → Agrees w → IsNext w.net.pending time item
    → (act : Act) × IsActOf item w act
next_is (Arrival link direction) time w agrees next = (Deliver link direction, refl)
next_is (Expiry place timer) time w agrees next =
    let runs = next_runs_out place timer time w agrees next in
    (Expire (clock runs.station.system) timer, (runs.station, runs.here, refl))

-- at a later time too
act_later : (item : Item) (time : ℕ) (w : WorldState) (act : Act) → IsActOf item w act → IsActOf item (at time w) act
act_later (Arrival link direction) time w act is = is
act_later (Expiry place timer) time w act is = is

-- once room is made, the world is sound at the time of what is next
pub next_sound : (item : Item) (time : ℕ) (w : WorldState) (made : WorldParts) → IsSound w → world_of made ≡ w
    → IsNext w.net.pending time item → IsSound (at time (world_of made))
next_sound item time w made sound same next =
    let (act, is) = next_is item time w sound.agrees next in
    ready_sound act time w (world_of made) sound same (can_happen item time act w sound next is).ready

module _ {F : Type 0} (answers : Bounds → ℕ → F → Option ℕ → F → Type 0) where
  -- a timer expired
  pub timer_done : (place : ℕ) (timer : Timer) (act : Act) (fate fate_after : F) (parts after : WorldParts)
      → IsActOf (Expiry place timer) (world_of parts) act → Expired answers place timer fate fate_after parts after
      → IsDone answers act fate fate_after parts after
  timer_done place timer act fate fate_after parts after (station, here, is) expired =
      subst (λ a. IsDone answers a fate fate_after parts after) (sym is) (
        Quiet,
        record {
          draws = expired.draws;
          drawn = expired.drawn;
          acts = (
            refl,
            record {
              place = place;
              station = station;
              is = record { here = here; named = refl };
              so = expired.expires;
            },
          );
        },
      )

  -- what is next happened, and the world keeps what it keeps
  pub record WentOn (time : ℕ) (fate fate_after : F) (w w' : WorldState) : Type 0 where
    pub unseen : HappensUnseen answers time fate fate_after w w'
    pub sound : IsSound w'
    pub claimed : WorldInvariant w'

  -- once room is made, and it is the time of what is next
  pub went_on : (item : Item) (time : ℕ) (fate fate_after : F) (w : WorldState) (made after : WorldParts) → IsSound w
      → WorldInvariant w → world_of made ≡ w → IsNext w.net.pending time item
      → ((act : Act) → IsActOf item (world_of (at_time time made)) act
      → IsDone answers act fate fate_after (at_time time made) after)
      → WentOn time fate fate_after w (world_of after)
  went_on item time fate fate_after w made after sound claimed same next done =
      let (act, is) = next_is item time w sound.agrees next in
      let can = can_happen item time act w sound next is in
      let timed : Timed = record { at = time; act = act } in
      let next_act : IsNextAct w timed = record { item = item; next = next; act = is } in
      let then = act_later item time (world_of made) act (subst (λ x. IsActOf item x act) (sym same) is) in
      let (told, one) = done act then in
      let now = next_sound item time w made sound same next in
      let was : WasDone answers timed fate fate_after w (world_of after) told = record {
        ready = can.ready;
        draws = one.draws;
        drawn = one.drawn;
        acts = subst (λ x. Acts act (at time x) one.draws told (world_of after)) same one.acts;
      } in
      let left = happened answers timed told fate fate_after w (world_of after) sound next_act was in
      record {
        unseen = record {
          told = record { timed = timed; done = told };
          happens = record { next = next_act; early = omega arith; was_done = was };
          less = left.less;
          first = left.first;
        };
        sound = acts_sound act (at time (world_of made)) one.draws told (world_of after) now can.fit one.acts;
        claimed = acted_claimed answers timed fate fate_after w (world_of made) (world_of after) one.draws told claimed
            same can.fit (next_prompt w timed next_act) (next_octet item act w is) can.ready one.drawn one.acts;
      }
