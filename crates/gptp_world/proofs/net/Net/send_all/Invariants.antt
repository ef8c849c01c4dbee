use Rattle.std.proofs.Common.{take}
use Rattle.gptp_world.specs.Net.{between, IsNet, SentAll}
use Rattle.gptp_world.specs.Room.{for_sends, Uses}
use Rattle.gptp_world.proofs.net.Net.send_all.Given as goal

-- the sends so far have gone, and used no more room than they needed
abbrev pub invariant-loop-send : goal.invariant-loop-send
invariant-loop-send g l = record {
  net : IsNet l.self;
  uses : Uses (for_sends (take l.send-index l.sends)) l.initial.self l.self;
  sent : SentAll g.F.Fate.answers l.now l.system (take l.send-index l.sends) l.initial.fate l.fate
      (between l.initial.self) (between l.self);
}
