-- Time that passes keeps what is known of a world.
use Rattle.std.proofs.Common.{ℕ, ◌≤◌, arith}
use Rattle.gptp_setup.specs.SettlingParams.{SettlingParams, largest_interval}
use Rattle.gptp_setup.specs.Intervals.{interval_of}
use Rattle.gptp_system.proofs.InTimeLemmas.{later_in_time}
use Rattle.gptp_model.specs.Acts.{at}
use Rattle.gptp_model.specs.World.{WorldState}
use Rattle.gptp_invariants.specs.WorldKnown.{AreFresh, IsKnown}
use Rattle.gptp_invariants.proofs.WorldShortLemmas.{later_short}

later_fresh : (p : SettlingParams) (w : WorldState) (t : ℕ) → w.time ≤ t → AreFresh p w → AreFresh p (at t w)
later_fresh p w t later fresh = record {
  change = let before = fresh.change in omega arith;
  frames = λ link direction channel f here among.
      let soon = fresh.frames link direction channel f here among in omega arith;
}

pub later_known : (p : SettlingParams) (w : WorldState) (t : ℕ) → w.time ≤ t → IsKnown p w → IsKnown p (at t w)
later_known p w t later known = record {
  set = known.set;
  prompt = λ log among. later_short (interval_of log) t w later (known.prompt log among);
  in_time = λ place station here live.
      later_in_time station.system w.time t later (known.in_time place station here live);
  measuring = known.measuring;
  time = known.time;
  links = known.links;
  near = later_short (largest_interval p) t w later known.near;
  fresh = later_fresh p w t later known.fresh;
}
