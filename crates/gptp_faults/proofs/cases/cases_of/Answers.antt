use Rattle.std.proofs.Common.{◌++◌, [], ℕ, Bool, List, map, if◌then◌else◌, ap, subst, ◌∙◌}
use Rattle.gptp_network.specs.Snapshot.{IsSnapshot}
use Rattle.gptp_faults.specs.Cases.{has_power, has_systems, link_cases, live_clocks, system_cases}
use Rattle.gptp_faults.specs.declared.cases.Case.{Case}
use Rattle.gptp_faults.specs.declared.cases.Case.TheVariants as cases
use Rattle.gptp_faults.proofs.cases.cases_of.Goals as goal

pub returns : goal.returns
returns c =
    let snapshot = c.in_ok-snapshot.snapshot in let d = c.args.document.now in
    let only = c.args.only in let power = c.args.power in
    let hangs : List ℕ → Bool → List Case = λ clocks asked. if asked then map cases.System clocks else [] in
    let powers : List ℕ → Bool → List Case = λ clocks asked. if asked then map cases.Power clocks else [] in
    record {
      snapshot = snapshot;
      stands = subst (λ at. IsSnapshot d at snapshot) c.last_change.ensures c.in_ok-snapshot.ensures;
      are = c.in_ok-push_powers_if.ensures
          ∙ ap (λ (xs : List Case). xs ++ powers c.deref-2.result.now c.has_power.result) c.in_ok-push_hangs_if.ensures
          ∙ ap (λ (xs : List Case). (xs ++ hangs c.deref.result.now c.has_systems.result)
          ++ powers c.deref-2.result.now c.has_power.result) c.in_ok-cases.ensures
          ∙ ap (λ (clocks : List ℕ). (link_cases only snapshot ++ hangs clocks c.has_systems.result)
          ++ powers c.deref-2.result.now c.has_power.result) (c.deref.ensures.value ∙ c.in_ok-clocks.ensures)
          ∙ ap (λ asked. (link_cases only snapshot ++ hangs (live_clocks d) asked)
          ++ powers c.deref-2.result.now c.has_power.result) c.has_systems.ensures
          ∙ ap (λ (clocks : List ℕ). (link_cases only snapshot ++ system_cases only d)
          ++ powers clocks c.has_power.result) (c.deref-2.ensures.value ∙ c.in_ok-clocks.ensures)
          ∙ ap (λ asked. (link_cases only snapshot ++ system_cases only d) ++ powers (live_clocks d) asked)
          c.has_power.ensures;
    }
