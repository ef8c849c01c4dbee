use Rattle.std.proofs.Common.{option_map, refl, subst, sym, unsigned_abs}
use Rattle.gptp_timeline.specs.ExactReads.{counts_new, reads_next}
use Rattle.gptp_timeline.specs.TimeWatch.{ReadsRise}
use Rattle.gptp_timeline.specs.declared.exact_reads.SystemReads.{SystemReads}
use Rattle.gptp_timeline.proofs.PutLemmas.{rising_changed}
use Rattle.gptp_timeline.proofs.time_watch.TimeWatch.take_new.Goals as goal

pub invariant_of-self : goal.invariant_of-self
invariant_of-self g c = c.self.invariant

pub invariant_of-self-2 : goal.invariant_of-self-2
invariant_of-self-2 g c =
    let u = c.args.new.now in let j = c.args.jump.now in let from = c.self.inside.exact_from in
    subst ReadsRise (sym c.take_reads.ensures)
    (rising_changed (λ (x : SystemReads). x.clock) u.clock (λ (x : SystemReads). record x {
      reads = reads_next (counts_new from c.args.at u) c.args.at (option_map unsigned_abs j.before)
          (option_map unsigned_abs j.after) x.reads;
    }) c.self.inside.reads.items (λ x. refl) c.self.invariant)
