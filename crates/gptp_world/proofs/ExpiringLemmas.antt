-- How a timer of a system expires.
use Rattle.std.proofs.Common.{◌≡◌, ◌≤◌, ℕ, length, Option, subst, arith}
use Rattle.std.proofs.lemmas.Option.{slice_get_within}
use Rattle.gptp_links.specs.declared.bounds.Bounds.{Bounds}
use Rattle.gptp_system.specs.declared.answer.Answer.{Answer}
use Rattle.gptp_setup.specs.declared.limits.TheConstants.{MOST_PORTS}
use Rattle.gptp_setup.specs.declared.timer.Timer.{Timer}
use Rattle.gptp_setup.specs.declared.timer.Timer.TheVariants as timers
use Rattle.gptp_system.specs.Input.{Expires as TimerExpires}
use Rattle.gptp_system.specs.State.{SystemState}
use Rattle.gptp_system.specs.Steps.{IsTimerOf}
use Rattle.gptp_model.specs.declared.item.Item.TheVariants.{Expiry}
use Rattle.gptp_world.specs.declared.net.Net.{Net as Between}
use Rattle.gptp_world.specs.declared.world_parts.WorldParts.{WorldParts}
use Rattle.gptp_model.specs.Act.{Calls}
use Rattle.gptp_world.specs.ActTarget.{IsTimerDue}
use Rattle.gptp_model.specs.Item.{timer_port}
use Rattle.gptp_world.specs.Net.{between}
use Rattle.gptp_model.specs.Pending.{without_first_entry, IsKnownItem}
use Rattle.gptp_world.specs.Performing.{Expired}
use Rattle.gptp_world.specs.WorldParts.{world_of, Called, IsWorldParts}
use Rattle.gptp_model.proofs.NextDueLemmas.{runs_out}

-- the ports of timers are numbered as those of their system
timer_few : (s : SystemState) (timer : Timer) → length s.ports ≤ MOST_PORTS → IsTimerOf s timer
    → timer_port timer ≤ MOST_PORTS
timer_few s (timers.Announce p) few of = let most = of.most in omega (arith, few, most)
timer_few s (timers.Age p) few of = let most = of.most in omega (arith, few, most)
timer_few s (timers.Pdelay p) few of = let most = of.most in omega (arith, few, most)
timer_few s (timers.Respond p) few of = let most = of.most in omega (arith, few, most)
timer_few s timers.Sync few of = omega arith
timer_few s timers.Relay few of = omega arith
timer_few s timers.Lapse few of = omega arith

-- a timer that is due is one that can be pending
pub known_timer : (parts : WorldParts) (place : ℕ) (timer : Timer) → IsWorldParts parts
    → IsTimerDue place timer parts.now (world_of parts)
    → IsKnownItem parts.net.traffic.systems (length parts.net.traffic.net.channels) (Expiry place timer)
known_timer parts place timer is due =
    let runs = runs_out place timer parts.now (world_of parts) due.station due.here due.due in
    let within = slice_get_within parts.stations.items place due.station due.here in let places = is.systems in (
      omega (arith, within, places),
      timer_few runs.station.system timer (is.few place runs.station runs.here) runs.timer_of,
    )

-- its entry is taken, and then its system is told
pub expired : {F : Type 0} (answers : Bounds → ℕ → F → Option ℕ → F → Type 0)
    (place : ℕ) (timer : Timer) (fate fate_after : F)
    (parts : WorldParts) (net : Between) (stage' : WorldParts) → IsTimerDue place timer parts.now (world_of parts)
    → between net
    ≡ record (between parts.net) { pending = without_first_entry (Expiry place timer) (between parts.net).pending }
    → (answer : Answer)
    → Called answers place (TimerExpires timer) answer fate fate_after (record parts { net = net }) stage'
    → Expired answers place timer fate fate_after parts stage'
expired answers place timer fate fate_after parts net stage' due taken answer called =
    record {
      draws = called.draws;
      drawn = called.drawn;
      expires = record {
        station = due.station;
        answer = answer;
        here = due.here;
        now_due = due.due;
        calls = subst
            (λ n. Calls place (TimerExpires timer) (record (world_of parts) { net = n }) called.draws answer
            (world_of stage'))
            taken called.calls;
      };
    }
