use Rattle.std.proofs.Common.{subst, arith}
use Rattle.gptp_model.specs.Views.{ShowsLive}
use Rattle.gptp_invariants.specs.ChoiceTraces.{AreHeldCleanInTime, AreHeldWholeInTime}
use Rattle.gptp_network_tests.specs.Pair.{HoldsFirstAlone, HoldsFromFirst}
use Rattle.gptp_network_tests.proofs.HeardLemmas.{for_some_both, pair_since, second_holds, second_holds_from}
use Rattle.gptp_network_tests.proofs.drawn.second_then.Goals as goal

pub returns-clause-alone : goal.returns-clause-alone
returns-clause-alone g c =
    let w = c.args.world.now.world_core in
    for_some_both (λ s. ShowsLive c.from.result w s.now) (λ s. AreHeldWholeInTime w s.now) (λ s. HoldsFirstAlone s.now)
    c.system.result
    (λ s shows whole. second_holds w s.now c.requires (subst (λ n. ShowsLive n w s.now) c.from.ensures shows) whole)
    c.system.ensures.some c.system.ensures.whole

pub returns-clause-from : goal.returns-clause-from
returns-clause-from g c =
    let w = c.args.world.now.world_core in
    let formed = c.well_formed-2.ensures in
    let since = pair_since 22000000000 15000000000 w c.requires (omega arith) in
    for_some_both (λ s. ShowsLive c.from.result w s.now) (λ s. AreHeldCleanInTime w s.now) (λ s. HoldsFromFirst s.now)
    c.system.result
    (λ s shows clean. second_holds_from w since formed.sound formed.claimed s.now
    (subst (λ n. ShowsLive n w s.now) c.from.ensures shows) clean)
    c.system.ensures.some c.system.ensures.held
