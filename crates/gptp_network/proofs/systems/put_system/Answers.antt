-- Why the network refuses the system is told of the network as it was.
use Rattle.std.proofs.Common.{◌≡◌, refl, subst, sym, ◌⊎◌, Err}
use Rattle.gptp_roles.specs.Selection.{clock_of}
use Rattle.gptp_scenario.specs.Network.{system_fault, with_system}
use Rattle.gptp_scenario.specs.declared.fault.NetworkFault.{NetworkFault}
use Rattle.gptp_network.specs.ReadSystems.{first_shorter, put_system, system_why}
use Rattle.gptp_network.specs.Systems.{member_of}
use Rattle.gptp_network.specs.declared.why.Why.{Why}
use Rattle.gptp_network.specs.declared.why.Why.TheVariants.{Memory}
use Rattle.gptp_network.proofs.WhyLemmas.{refusal_told}
use Rattle.gptp_network.proofs.systems.put_system.Goals as goal

pub returns-in-Err-clause-refused : goal.returns-in-Err-clause-refused
returns-in-Err-clause-refused c =
    let n = c.args.network.now in let s = c.args.system in
    let log = first_shorter n.params.pdelay s.intervals.items n.params.announce in
    let why : NetworkFault → Why = system_why n (clock_of s.identity) log in
    let same : c.system_why.result ≡ why c.in-Err.fault =
    rw (c.told_of-newcomer.ensures.clock, c.told_of-newcomer.ensures.log, c.in-Err.ensures.kept)
    at c.system_why.ensures in
    subst (λ (w : Why). (w ≡ Memory) ⊎ (put_system s n ≡ Err w)) (sym same)
    (refusal_told why (system_fault n (member_of s)) (with_system (member_of s) n) c.in-Err.fault refl
    c.in-Err.ensures.refused)
