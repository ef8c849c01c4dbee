-- The systems are their own and the links join them, and every act keeps it so.
use Rattle.std.proofs.Common.{◌≡◌, ℕ, List, refl}
use Rattle.gptp_links.specs.Fate.{Draw}
use Rattle.gptp_model.specs.World.{WorldState}
use Rattle.gptp_model.specs.Changing.{StartsAll}
use Rattle.gptp_model.specs.Sound.{AllFlow, AreLinked, IsWired}
use Rattle.gptp_model.proofs.FlowLemmas.{acts_flow, starts_all_flow}
use Rattle.gptp_model.proofs.LinkedLemmas.{acts_linked, starts_all_linked}
use Rattle.gptp_model.proofs.StayLemmas.{starts_all_stay, stays_apart, stays_clocks, stays_ports, stays_setups, Stays, acts_stay}
use Rattle.gptp_scenario.specs.declared.change.Act.{Act}
use Rattle.gptp_model.specs.Acts.{Acts}
use Rattle.gptp_model.specs.declared.done.Done.{Done}

-- what stays, with what flows and which ports measure
stays_wired : (w w' : WorldState) → IsWired w → Stays w w' → AllFlow w' → AreLinked w' → IsWired w'
stays_wired w w' wired stays flow linked = record {
  setups = stays_setups w w' stays;
  clocks = stays_clocks w w' stays wired.clocks;
  ports = stays_ports w w' stays wired.ports;
  apart = stays_apart w w' stays wired.apart;
  flow = flow;
  linked = linked;
}

-- only the systems and the links matter, not the time and that of the last change, nor what is pending
pub same_wired : (v w : WorldState) → w.stations ≡ v.stations → w.net.channels ≡ v.net.channels → IsWired v → IsWired w
same_wired v w stations channels wired = record {
  setups = rw stations wired.setups;
  clocks = rw stations wired.clocks;
  ports = rw (stations, channels) wired.ports;
  apart = rw channels wired.apart;
  flow = rw channels wired.flow;
  linked = rw (stations, channels) wired.linked;
}

pub time_wired : (w : WorldState) (time last_change : ℕ) → IsWired w
    → IsWired (record w { time = time; last_change = last_change })
time_wired w time last_change wired =
    same_wired w (record w { time = time; last_change = last_change }) refl refl wired

-- ---- acts, and starts

pub acts_wired : (act : Act) (w : WorldState) (draws : List Draw) (done : Done) (w' : WorldState) → IsWired w
    → Acts act w draws done w' → IsWired w'
acts_wired act w draws done w' wired k =
    stays_wired w w' wired (acts_stay act w draws done w' wired.setups k)
    (acts_flow act w draws done w' wired.flow k) (acts_linked act w draws done w' wired k)

pub starts_all_wired : (places : List ℕ) (w : WorldState) (draws : List Draw) (w' : WorldState) → IsWired w
    → StartsAll places w draws w' → IsWired w'
starts_all_wired places w draws w' wired starts =
    stays_wired w w' wired (starts_all_stay places w draws w' wired.setups starts)
    (starts_all_flow places w draws w' wired.flow starts)
    (starts_all_linked places w draws w' wired.setups wired.clocks wired.ports wired.linked starts)
