use Rattle.gptp_invariants.proofs.SyncExactLemmas.{receipts_are_exact}
use Rattle.gptp_invariants.proofs.sync_exact.receipts_are_exact.Goals as goal

pub returns : goal.returns
returns g c = λ timed fate fate_after w w' done all was early.
    receipts_are_exact g.F.Fate.answers timed fate fate_after w w' all early done was
