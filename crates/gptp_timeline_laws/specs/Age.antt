-- How old what systems read is, where the network has a syncReceiptTimeout (IEEE 802.1AS-2020, 10.3.12).
use Rattle.std.specs.Prelude.{◌≡◌, ◌≢◌, ◌<◌, ◌≤◌, ◌+◌, ◌^◌, ◌-ℤ◌, unsigned_abs, ℕ, ℤ, Bool, true, List, Option, Some}
use Rattle.gptp_accuracy.specs.AccuracyText.{reading_always}
use Rattle.gptp_accuracy.specs.declared.errors.TimeErrors.{TimeErrors}
use Rattle.gptp_graph.specs.Best.{IsBest}
use Rattle.gptp_graph.specs.Distance.{IsNear}
use Rattle.gptp_graph.specs.Snapshot.{Snapshot, System}
use Rattle.gptp_links.specs.declared.bounds.Bounds.{Bounds}
use Rattle.gptp_lists.specs.Members.{In}
use Rattle.gptp_model.specs.Views.{rising_clocks}
use Rattle.gptp_model.specs.World.{WorldState}
use Rattle.gptp_network.specs.Document.{DocumentState}
use Rattle.gptp_network.specs.Snapshot.{events_by, IsSnapshot}
use Rattle.gptp_network.specs.Span.{IsBound}
use Rattle.gptp_scenario.specs.SyncWait.{sync_paths, sync_wait}
use Rattle.gptp_system.specs.State.{can_lead}
use Rattle.gptp_theorem.specs.PlayedLaws.{IsPlayable}
use Rattle.gptp_timeline.specs.Laws.{SayBound}
use Rattle.gptp_timeline.specs.Readings.{readings_after}
use Rattle.gptp_timeline.specs.Stretch.{at_of, receives}
use Rattle.gptp_timeline.specs.Timeline.{Carried, none_carried, StretchTrace, TimelineOf, tracks}
use Rattle.gptp_timeline.specs.declared.exact_reads.ExactReads.{ExactReads}
use Rattle.gptp_timeline.specs.declared.readings.SystemReading.{SystemReading}
use Rattle.gptp_timeline.specs.declared.timeline.TimelineOptions.{TimelineOptions}
use Rattle.gptp_timeline_laws.specs.Exact.{reads_from}
use Rattle.gptp_timeline_laws.specs.Moments.{BeginsWith, HasTime, Moment, ReadsAt, world_after}
use Rattle.gptp_world.specs.Transitions.{ActTrace}

-- how long a near system waits for the next Sync at most, in the network of a document as it is at a time
abbrev pub wait_at : DocumentState → ℕ → ℕ
wait_at d at = sync_wait d.network.params (sync_paths d.network (events_by at d.events))

-- by one of these acts the system with this clock received time, no more than a span before a time
pub record ReceivedWithin (name span time : ℕ) (ts : List ActTrace) : Type 0 where
  pub act : ActTrace
  pub member : In act ts
  pub receives : receives name act ≡ true
  pub lately : time ≤ at_of act + span

-- The system with this clock is near, and isn't the best of its component, which can be grandmaster. So it gets time
-- from the best.
pub record GetsTime (g : Snapshot) (name : ℕ) : Type 0 where
  pub near : IsNear g name
  pub best : System
  pub is_best : IsBest g name best
  pub other : best.clock ≢ name
  pub leads : can_lead best.identity ≡ true

-- In a stretch that begins in a calm network, once the span is over, each such system received time in it no longer ago
-- than it waits for the next Sync. So what it reads is no older.
abbrev pub ReceiptsAreRecent : DocumentState → WorldState → Carried → List StretchTrace → Type 0
ReceiptsAreRecent d start first passages = (p : StretchTrace) (w : WorldState) (c : Carried) (g : Snapshot)
    (time span name : ℕ) (moment : Moment p time)
    → BeginsWith passages start first p w c → IsBound d p.from (Some span) → 0 < d.network.params.sync_timeout
    → p.from + span ≤ time → IsSnapshot d p.from g → GetsTime g name
    → ReceivedWithin name (wait_at d p.from) time moment.done

-- From one receipt of a system with an `accuracy` line to the next, and from the last to the end of the stretch, it is
-- no longer than the age that its time errors say: from its first receipt on that is at the time that the line says or
-- later.
abbrev pub GapsAreShort : List ℕ → WorldState → Carried → List StretchTrace → Type 0
GapsAreShort names start first passages = (p : StretchTrace) (w : WorldState) (c : Carried) (rs : List SystemReading)
    (errors : TimeErrors) (name from bound age : ℕ) (r : ExactReads) (says : SayBound errors name bound)
    → BeginsWith passages start first p w c → c.readings ≡ Some rs → p.errors ≡ Some errors
    → errors.from ≡ Some from → errors.age ≡ Some age → reads_from from names p rs name ≡ Some r
    → r.longest ≤ age

-- Once that age is over after that time, what such a system reads is at every moment within the error for a receipt as
-- old as that.
abbrev pub AreAlwaysExact : WorldState → Carried → List StretchTrace → Type 0
AreAlwaysExact start first passages = (p : StretchTrace) (w : WorldState) (c : Carried) (rs : List SystemReading)
    (errors : TimeErrors) (name from bound age time : ℕ) (read source : ℤ) (most : ℕ) (moment : Moment p time)
    (says : SayBound errors name bound)
    → BeginsWith passages start first p w c → c.readings ≡ Some rs → p.errors ≡ Some errors
    → errors.from ≡ Some from → errors.age ≡ Some age → from + age ≤ time
    → ReadsAt time (world_after moment.done w) (readings_after moment.done rs) name read source
    → reading_always errors.age says.system ≡ Some most → unsigned_abs (read -ℤ source) ≤ most

-- It has time at every moment from then on, so there is something that this is said of.
abbrev pub AlwaysHaveTime : WorldState → Carried → List StretchTrace → Type 0
AlwaysHaveTime start first passages = (p : StretchTrace) (w : WorldState) (c : Carried) (rs : List SystemReading)
    (errors : TimeErrors) (name from bound age time : ℕ) (moment : Moment p time) (says : SayBound errors name bound)
    → BeginsWith passages start first p w c → c.readings ≡ Some rs → p.errors ≡ Some errors
    → errors.from ≡ Some from → errors.age ≡ Some age → from + age ≤ time
    → HasTime time (world_after moment.done w) (readings_after moment.done rs) name

-- ---- of every timeline, as long as clocks can show the time

abbrev pub TimelinesHearInTime : {F : Type 0} → (Bounds → ℕ → F → Option ℕ → F → Type 0) → Type 0
TimelinesHearInTime {F} answers = (d : DocumentState) (until : ℕ) (options : TimelineOptions) (fate : F)
    (lines : List (List ℕ)) (exceeded : Bool) (t : TimelineOf answers d until options fate lines exceeded)
    → IsPlayable d → until ≤ 10 ^ 18
    → ReceiptsAreRecent d t.start (none_carried (tracks options) (rising_clocks t.start)) t.passages

abbrev pub TimelinesHearAgainInTime : {F : Type 0} → (Bounds → ℕ → F → Option ℕ → F → Type 0) → Type 0
TimelinesHearAgainInTime {F} answers = (d : DocumentState) (until : ℕ) (options : TimelineOptions) (fate : F)
    (lines : List (List ℕ)) (exceeded : Bool) (t : TimelineOf answers d until options fate lines exceeded)
    → IsPlayable d → until ≤ 10 ^ 18
    → GapsAreShort (rising_clocks t.start) t.start (none_carried (tracks options) (rising_clocks t.start)) t.passages

abbrev pub TimelinesAreAlwaysExact : {F : Type 0} → (Bounds → ℕ → F → Option ℕ → F → Type 0) → Type 0
TimelinesAreAlwaysExact {F} answers = (d : DocumentState) (until : ℕ) (options : TimelineOptions) (fate : F)
    (lines : List (List ℕ)) (exceeded : Bool) (t : TimelineOf answers d until options fate lines exceeded)
    → IsPlayable d → until ≤ 10 ^ 18
    → AreAlwaysExact t.start (none_carried (tracks options) (rising_clocks t.start)) t.passages

abbrev pub TimelinesAlwaysHaveTime : {F : Type 0} → (Bounds → ℕ → F → Option ℕ → F → Type 0) → Type 0
TimelinesAlwaysHaveTime {F} answers = (d : DocumentState) (until : ℕ) (options : TimelineOptions) (fate : F)
    (lines : List (List ℕ)) (exceeded : Bool) (t : TimelineOf answers d until options fate lines exceeded)
    → IsPlayable d → until ≤ 10 ^ 18
    → AlwaysHaveTime t.start (none_carried (tracks options) (rising_clocks t.start)) t.passages
