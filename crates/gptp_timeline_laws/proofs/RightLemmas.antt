-- What a timeline says of the time that systems read is right.
use Rattle.std.proofs.Common.{ℕ, Option}
use Rattle.gptp_links.specs.declared.bounds.Bounds.{Bounds}
use Rattle.gptp_timeline_laws.specs.Right.{TimelinesReadRight}
use Rattle.gptp_timeline_laws.proofs.AgeLemmas.{timelines_hear_in_time}
use Rattle.gptp_timeline_laws.proofs.ApartLemmas.{timelines_read_apart}
use Rattle.gptp_timeline_laws.proofs.BestLemmas.{timelines_read_from_bests}
use Rattle.gptp_timeline_laws.proofs.ExactLemmas.{timelines_read_exactly}
use Rattle.gptp_timeline_laws.proofs.ExactSoonLemmas.{timelines_are_exact_soon}
use Rattle.gptp_timeline_laws.proofs.GapLemmas.{timelines_always_have_time, timelines_are_always_exact, timelines_hear_again_in_time}
use Rattle.gptp_timeline_laws.proofs.MomentLemmas.{times_bound_moments}
use Rattle.gptp_timeline_laws.proofs.ReadSoonLemmas.{timelines_bound_receipts_soon, timelines_read_exactly_soon}
use Rattle.gptp_timeline_laws.proofs.ReceiptLemmas.{timelines_bound_receipts}
use Rattle.gptp_timeline_laws.proofs.RootLemmas.{timelines_read_from_roots}
use Rattle.gptp_timeline_laws.proofs.SourceLemmas.{timelines_keep_sources}

pub timelines_read_right : {F : Type 0} → (answers : Bounds → ℕ → F → Option ℕ → F → Type 0)
    → TimelinesReadRight answers
timelines_read_right answers d until options fate lines exceeded t playable early = record {
  moments = times_bound_moments answers d until options fate lines exceeded t playable;
  apart = timelines_read_apart answers d until options fate lines exceeded t playable early;
  sources = timelines_keep_sources answers d until options fate lines exceeded t playable;
  roots = timelines_read_from_roots answers d until options fate lines exceeded t playable early;
  bests = timelines_read_from_bests answers d until options fate lines exceeded t playable early;
  ages = timelines_hear_in_time answers d until options fate lines exceeded t playable early;
  gaps = timelines_hear_again_in_time answers d until options fate lines exceeded t playable early;
  always = timelines_are_always_exact answers d until options fate lines exceeded t playable early;
  has_time = timelines_always_have_time answers d until options fate lines exceeded t playable early;
  receipts = timelines_bound_receipts answers d until options fate lines exceeded t playable early;
  accuracy = timelines_read_exactly answers d until options fate lines exceeded t playable early;
  errors_soon = timelines_are_exact_soon answers d until options fate lines exceeded t playable early;
  receipts_soon = timelines_bound_receipts_soon answers d until options fate lines exceeded t playable early;
  accuracy_soon = timelines_read_exactly_soon answers d until options fate lines exceeded t playable early;
}
