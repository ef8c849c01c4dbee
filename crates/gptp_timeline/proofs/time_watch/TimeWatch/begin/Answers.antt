use Rattle.std.proofs.Common.{refl, subst, sym}
use Rattle.gptp_timeline.specs.ExactReads.{without_reads}
use Rattle.gptp_timeline.specs.TimeWatch.{ReadsRise}
use Rattle.gptp_timeline.specs.declared.exact_reads.SystemReads.{SystemReads}
use Rattle.gptp_timeline.proofs.PutLemmas.{same_rising}
use Rattle.gptp_timeline.proofs.time_watch.TimeWatch.begin.Goals as goal

pub invariant_of-self : goal.invariant_of-self
invariant_of-self c =
    subst ReadsRise (sym c.clear_reads.ensures)
    (same_rising (λ (x : SystemReads). x.clock) without_reads c.self.inside.reads.items (λ x. refl) c.self.invariant)
