use Rattle.gptp_bmca_machine.proofs.SyncLemmas.{expected_begins}
use Rattle.gptp_bmca_machine.proofs.SyncActLemmas.{expected_kept}
use Rattle.gptp_bmca_machine.proofs.syncs.syncs_are_expected.Goals as goal

pub returns-clause-begins : goal.returns-clause-begins
returns-clause-begins g c = expected_begins g.C.Coding.says_sync

pub returns-clause-kept : goal.returns-clause-kept
returns-clause-kept g c = λ n w w' net bare calm calm' invariant invariant' facts facts' step.
    expected_kept g.C.Coding.says g.C.Coding.says_sync n net bare w w' calm calm' facts facts' step invariant invariant'
