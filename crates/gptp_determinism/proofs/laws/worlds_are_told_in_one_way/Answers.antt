use Rattle.gptp_determinism.proofs.LineLemmas.{reports_once, states_once}
use Rattle.gptp_determinism.proofs.laws.worlds_are_told_in_one_way.Goals as goal

pub returns-clause-report : goal.returns-clause-report
returns-clause-report c = reports_once

pub returns-clause-states : goal.returns-clause-states
returns-clause-states c = states_once
