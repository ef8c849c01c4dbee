use Rattle.std.proofs.Common.{◌-◌, ◌≤◌}
use Rattle.std.specs.List.{range_with_len}
use Rattle.gptp_world.specs.WorldParts.{IsWorldParts}
use Rattle.gptp_world.specs.Starting.{CameUp}
use Rattle.gptp_world.proofs.ComingUpLemmas.{CallsUse}
use Rattle.gptp_world.proofs.world_parts.WorldParts.bring_ports_up.Given as goal

-- the ports so far came up whose links are up, and no more room was used than that needs
abbrev pub invariant-loop-port : goal.invariant-loop-port
invariant-loop-port g l = record {
  within : l.port ≤ l.ports;
  parts : IsWorldParts l.self;
  uses : CallsUse l.port l.place l.initial.self l.self.net;
  came : CameUp g.F.Fate.answers l.place (range_with_len 1 l.port) l.initial.fate l.fate l.initial.self l.self;
}

abbrev pub decreases-loop-port : goal.decreases-loop-port
decreases-loop-port g l = l.ports - l.port
