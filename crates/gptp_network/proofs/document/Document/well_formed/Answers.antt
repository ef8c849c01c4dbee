use Rattle.std.proofs.Common.{subst}
use Rattle.gptp_scenario.specs.Allowed.{AreAllowed}
use Rattle.gptp_scenario.specs.Network.{smallest_of}
use Rattle.gptp_scenario.specs.Prompt.{ArePromptActs}
use Rattle.gptp_scenario.proofs.LogLemmas.{smallest_log}
use Rattle.gptp_setup.specs.Intervals.{interval_of}
use Rattle.gptp_network.specs.Document.{DocumentState}
use Rattle.gptp_network.proofs.EventLemmas.{events_allowed, events_prompt}
use Rattle.gptp_network.proofs.document.Document.well_formed.Goals as goal

pub returns-clause-allowed : goal.returns-clause-allowed
returns-clause-allowed c =
    let d = c.self.inside in
    subst (λ (d : DocumentState). AreAllowed d.events) c.self.view_is
    (events_allowed d.network d.events.items (smallest_log d.network c.well_formed-2.ensures) c.self.invariant)

pub returns-clause-prompt : goal.returns-clause-prompt
returns-clause-prompt c =
    let d = c.self.inside in
    subst (λ (d : DocumentState). ArePromptActs (interval_of (smallest_of d.network)) d.events) c.self.view_is
    (events_prompt d.network d.events.items c.self.invariant)
