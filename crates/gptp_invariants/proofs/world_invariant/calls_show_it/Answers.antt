use Rattle.gptp_invariants.proofs.WorldShownLemmas.{capable_shown, choice_at_once, choice_by_distance, choice_by_paths, choice_shown, enabled_shown, role_at_once, role_by_distance, role_by_paths, role_shown}
use Rattle.gptp_invariants.proofs.world_invariant.calls_show_it.Goals as goal

pub returns-clause-capable : goal.returns-clause-capable
returns-clause-capable c = capable_shown

pub returns-clause-enabled : goal.returns-clause-enabled
returns-clause-enabled c = enabled_shown

pub returns-clause-choice : goal.returns-clause-choice
returns-clause-choice c = choice_shown

pub returns-clause-roles : goal.returns-clause-roles
returns-clause-roles c = role_shown

pub returns-clause-choice_by_paths : goal.returns-clause-choice_by_paths
returns-clause-choice_by_paths c = choice_by_paths

pub returns-clause-roles_by_paths : goal.returns-clause-roles_by_paths
returns-clause-roles_by_paths c = role_by_paths

pub returns-clause-choice_at_once : goal.returns-clause-choice_at_once
returns-clause-choice_at_once c = choice_at_once

pub returns-clause-roles_at_once : goal.returns-clause-roles_at_once
returns-clause-roles_at_once c = role_at_once

pub returns-clause-choice_by_distance : goal.returns-clause-choice_by_distance
returns-clause-choice_by_distance c = choice_by_distance

pub returns-clause-roles_by_distance : goal.returns-clause-roles_by_distance
returns-clause-roles_by_distance c = role_by_distance
