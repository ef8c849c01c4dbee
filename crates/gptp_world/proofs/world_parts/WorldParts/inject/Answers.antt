use Rattle.std.proofs.Common.{sym, ◌∙◌}
use Rattle.gptp_lists.proofs.PlaceLemmas.{member_there}
use Rattle.gptp_world.proofs.PerformingLemmas.{injected, not_injected}
use Rattle.gptp_world.proofs.TellingLemmas.{net_becomes}
use Rattle.gptp_world.proofs.world_parts.WorldParts.inject.Goals as goal

pub inject-requires-clause-room : goal.inject-requires-clause-room
inject-requires-clause-room g c = c.requires.room
    (λ channel here. sym (c.is_up.ensures channel here) ∙ c.if-is_up.true)

pub inject-requires-clause-up : goal.inject-requires-clause-up
inject-requires-clause-up g c = λ channel here. sym (c.is_up.ensures channel here) ∙ c.if-is_up.true

pub returns-then-is_up-clause-parts : goal.returns-then-is_up-clause-parts
returns-then-is_up-clause-parts g c =
    let e = c.inject.ensures in
    net_becomes c.args.self.now c.inject.new.self c.requires.parts e.net e.directory e.systems

pub returns-then-is_up-clause-injected : goal.returns-then-is_up-clause-injected
returns-then-is_up-clause-injected g c =
    let found = member_there c.args.self.now.net.traffic.net.channels c.args.lane.link c.requires.link in
    injected g.F.Fate.answers c.args.lane c.args.octets.now c.args.fate.now c.inject.new.fate c.args.self.now
    c.inject.new.self found.0 found.1 (sym (c.is_up.ensures found.0 found.1) ∙ c.if-is_up.true)
    (c.inject.ensures.sent found.0 found.1)

pub returns-else-is_up-clause-injected : goal.returns-else-is_up-clause-injected
returns-else-is_up-clause-injected g c =
    not_injected g.F.Fate.answers c.args.lane c.args.octets.now c.args.fate.now c.args.self.now
    (λ channel here. sym c.if-is_up.false ∙ c.is_up.ensures channel here)
