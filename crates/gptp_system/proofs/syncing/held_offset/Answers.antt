use Rattle.std.proofs.Common.{subst}
use Rattle.gptp_system.specs.Syncing.{IsOffset}
use Rattle.gptp_system.proofs.SyncLemmas.{offset_ok}
use Rattle.gptp_system.proofs.syncing.held_offset.Goals as goal

pub returns : goal.returns
returns c =
    subst (λ info. IsOffset info c.args.delay c.args.rate c.ok.result) c.held_sum.ensures.held
    (rw c.ok.ensures.value (offset_ok _ c.held_sum.result _ _ c.offset_of.ensures))
