-- What a system reads of the time of its root between two Follow_Ups, and how far that may be off. Times of clocks are
-- in units of 2^-16 ns, rates in units of 2^-41, and all other times in ns.
use Rattle.std.specs.Prelude.{◌≡◌, ℕ, suc, ℤ, ◌+ℤ◌, Option}
use Rattle.std.specs.Option.{option_and_then, option_map}
use Rattle.gptp_graph.specs.Best.{IsBest}
use Rattle.gptp_graph.specs.Snapshot.{System}
use Rattle.gptp_scaled.specs.Rate.{scaled_by}
use Rattle.gptp_correction.specs.declared.sync_in.SyncInfo.{SyncInfo}
use Rattle.gptp_correction.specs.Correction.{sync_received}
use Rattle.gptp_setup.specs.declared.setup.Params.{Params}
use Rattle.gptp_system.specs.Reading.{read_at}
use Rattle.gptp_system.specs.State.{SystemState, local_time}
use Rattle.gptp_system.specs.Syncing.{reading_by}
use Rattle.gptp_system.specs.Takeover.{told_time}
use Rattle.gptp_error_laws.specs.TimeError.{Way, reading_error_at}
use Rattle.gptp_model.specs.Views.{ShowsLive}
use Rattle.gptp_model.specs.World.{WorldState}
use Rattle.gptp_sync_machine.specs.Tree.{IsWayTo}
use Rattle.gptp_invariants.specs.SyncFollowers.{follower_parts}
use Rattle.gptp_invariants.specs.WorldStanding.{snapshot_of}

-- ---- what is read

-- What is read where so much has passed on the own clock since the Sync came: the root's time as it came, and what
-- passed since, at the rate of the root's clock against the own one (IEEE 802.1AS-2020, 10.2.13, clockSlaveTime).
abbrev pub read_after : SyncInfo → ℤ → ℤ → ℤ → ℤ
read_after s link_delay neighbour passed =
    sync_received s link_delay neighbour +ℤ scaled_by (s.rate +ℤ neighbour) passed

-- What is read at a time by the state that a Follow_Up left: nothing where no offset is known. It is read so until the
-- next one is used, whatever becomes of the system and of the network meanwhile: the own clock counts on.
abbrev pub reading : SystemState → ℕ → Option ℤ
reading s time =
    option_and_then (λ known. option_map (λ offset. read_at (reading_by s known offset) (local_time s time)) s.offset)
    s.known

-- What the best of a system's component tells at a time, by the base that it has. That counts on too, whatever becomes
-- of the best.
pub record IsBestsTime (w : WorldState) (number time : ℕ) (shown : ℤ) : Type 0 where
  pub best : System
  pub is_best : IsBest (snapshot_of w) number best
  pub root : SystemState
  pub shows : ShowsLive best.clock w root
  pub is : shown ≡ told_time root time

-- ---- how far that may be off

-- How far what a system reads so long after a Follow_Up may be off. The way of the system, over its parent and the
-- parents of that, has so many links and one more.
pub record IsReadingErrorOf (p : Params) (w : WorldState) (number steps later error : ℕ) : Type 0 where
  pub way : Way
  pub phase : ℕ → ℕ
  pub leads : IsWayTo (follower_parts p w) (snapshot_of w) (suc steps) number way phase
  pub is : error ≡ reading_error_at way steps later
