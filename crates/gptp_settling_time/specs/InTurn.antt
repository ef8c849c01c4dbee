-- How soon a document has settled, event by event: each event leads from what its network came from to the next.
use Rattle.std.specs.Prelude.{◌≡◌, ◌<◌, ◌≤◌, ◌⊎◌, ◌+◌, ◌*◌, ℕ, ⊤, pred, suc, List, [], ◌∷◌, ◌++◌, Option}
use Rattle.gptp_lists.specs.Members.{In}
use Rattle.gptp_links.specs.declared.bounds.Bounds.{Bounds}
use Rattle.gptp_scenario.specs.Calm.{IsCalm, NothingLapses, last_change}
use Rattle.gptp_scenario.specs.Network.{NetworkState, pace_of}
use Rattle.gptp_scenario.specs.SettlingAtOnce.{settling_span_at_once}
use Rattle.gptp_scenario.specs.SettlingTime.{loss_span, settling_span_with, way_span}
use Rattle.gptp_scenario.specs.SyncWait.{sync_paths}
use Rattle.gptp_scenario.specs.declared.change.Timed.{Timed}
use Rattle.gptp_model.specs.World.{WorldState}
use Rattle.gptp_network.specs.Document.{DocumentState}
use Rattle.gptp_network.specs.Snapshot.{events_by}
use Rattle.gptp_report.specs.Transitions.{ActTrace, Unfolds}
use Rattle.gptp_theorem.specs.PlayedLaws.{IsPlayable}
use Rattle.gptp_settling_time.specs.ChoiceAlone.{ChoiceStandsAs}
use Rattle.gptp_settling_time.specs.Documents.{IsSettledAs}
use Rattle.gptp_settling_time.specs.Exactly.{SettlesBy}
use Rattle.gptp_settling_time.specs.Losses.{MovesNoneInAll, NoneSilent}
use Rattle.gptp_settling_time.specs.Pasts.{Aging, AnyPast, Cleared, Fallen, Fewer, Gained, Heard, Left, Lost, Past, Split, Starting, Turned, TurnedTree}
use Rattle.gptp_settling_time.specs.EventKinds.{AreCapableSoon, UsedVaryLittle}
use Rattle.gptp_settling_time.specs.Leads.{EventLeads}
use Rattle.gptp_settling_time.specs.Rests.{IsTakenAs}

-- each event leads from one to the next
abbrev pub LeadOn : NetworkState → List Timed → Past → List Timed → Past → Type 0
LeadOn n before past [] last = last ≡ past
LeadOn n before past (event ∷ events) last =
    (seen : Past) × IsTakenAs n before past event.at seen × (next : Past) × EventLeads n before seen event next
    × LeadOn n (before ++ event ∷ []) next events last

-- ---- a document

-- Ports are capable by then that ask from time 0 on; and where all is heard delays vary little. No network begins after
-- a loss.
abbrev pub BeginsBy : NetworkState → Past → Type 0
BeginsBy n AnyPast = ⊤
BeginsBy n Starting = ⊤
BeginsBy n (Gained start) = AreCapableSoon n [] start
BeginsBy n (Heard start) = UsedVaryLittle n [] × AreCapableSoon n [] start
BeginsBy n (Left ago silent) = ⊥
BeginsBy n (Turned silent time) = ⊥
BeginsBy n (Fallen silent time) = ⊥
BeginsBy n (TurnedTree silent time) = ⊥
BeginsBy n (Cleared ago since silent right old) = ⊥
BeginsBy n (Aging ago aged silent) = ⊥
BeginsBy n (Split ago gone silent) = ⊥
BeginsBy n (Lost ago since most silent) = ⊥
BeginsBy n (Fewer ago since most silent) = ⊥

-- By this time a calm network has settled after these events. From any past the span has to pass, the sharper one where
-- nothing lapses. Else ports become capable; then an announce interval passes where something may not be heard; and
-- then the greatest delay for each system of a path but one. In a network that is left the choice stands, and roles do
-- once ports without a link aren't capable; or at once where no lost link is silent.
abbrev pub SettlesAfter : NetworkState → List Timed → Past → ℕ → Type 0
SettlesAfter n events AnyPast settled =
    (NothingLapses n.params
    × (last_change events + settling_span_at_once (pace_of n) (sync_paths n events) ≤ settled))
    ⊎ (last_change events + settling_span_with (pace_of n) (sync_paths n events) (sync_paths n events).systems ≤
    settled)
SettlesAfter n events Starting settled = ⊥
SettlesAfter n events (Gained start) settled = SettlesBy (pace_of n) (sync_paths n events) start settled
SettlesAfter n events (Heard start) settled =
    NothingLapses n.params
    × (start + pred (sync_paths n events).systems * (sync_paths n events).delay ≤ settled)
SettlesAfter n events (Left ago silent) settled =
    NothingLapses n.params × ((silent ≤ settled) ⊎ NoneSilent n ago events)
SettlesAfter n events (Turned silent time) settled =
    NothingLapses n.params
    × (time + 1 + way_span (sync_paths n events) ≤ settled)
SettlesAfter n events (Fallen silent time) settled =
    NothingLapses n.params
    × (time + 1 + 2 * way_span (sync_paths n events) ≤ settled)
SettlesAfter n events (TurnedTree silent time) settled =
    NothingLapses n.params
    × (time + 1 + 2 * way_span (sync_paths n events) ≤ settled)
SettlesAfter n events (Cleared ago since silent right old) settled =
    NothingLapses n.params × ((silent ≤ settled) ⊎ NoneSilent n ago events)
SettlesAfter n events (Aging ago aged silent) settled =
    NothingLapses n.params × ((silent ≤ settled) ⊎ NoneSilent n ago events)
SettlesAfter n events (Split ago gone silent) settled =
    NothingLapses n.params
    × (gone + 2 * way_span (sync_paths n events) ≤ settled)
    × ((silent ≤ settled) ⊎ NoneSilent n ago events)
SettlesAfter n events (Lost ago since most silent) settled =
    NothingLapses n.params
    × (suc (since + loss_span (pace_of n) (sync_paths n events) most) ≤ settled)
    × ((silent ≤ settled) ⊎ NoneSilent n ago events)
SettlesAfter n events (Fewer ago since most silent) settled =
    NothingLapses n.params × MovesNoneInAll n ago events × NoneSilent n ago events

-- By this time the choice stands after these events: as soon as it has settled, and at once in a network that is left.
-- Where something ages it does once that is gone.
abbrev pub ChoosesAfter : NetworkState → List Timed → Past → ℕ → Type 0
ChoosesAfter n events AnyPast settled = SettlesAfter n events AnyPast settled
ChoosesAfter n events Starting settled = ⊥
ChoosesAfter n events (Gained start) settled = SettlesAfter n events (Gained start) settled
ChoosesAfter n events (Heard start) settled = SettlesAfter n events (Heard start) settled
ChoosesAfter n events (Left ago silent) settled = NothingLapses n.params
ChoosesAfter n events (Turned silent time) settled = SettlesAfter n events (Turned silent time) settled
ChoosesAfter n events (Fallen silent time) settled = SettlesAfter n events (Fallen silent time) settled
ChoosesAfter n events (TurnedTree silent time) settled = SettlesAfter n events (TurnedTree silent time) settled
ChoosesAfter n events (Cleared ago since silent right old) settled = NothingLapses n.params
ChoosesAfter n events (Aging ago aged silent) settled =
    NothingLapses n.params × ((aged ≤ settled) ⊎ ((silent ≤ settled) ⊎ NoneSilent n ago events))
ChoosesAfter n events (Split ago gone silent) settled =
    NothingLapses n.params × (gone + 2 * way_span (sync_paths n events) ≤ settled)
ChoosesAfter n events (Lost ago since most silent) settled =
    NothingLapses n.params × (suc (since + loss_span (pace_of n) (sync_paths n events) most) ≤ settled)
ChoosesAfter n events (Fewer ago since most silent) settled =
    NothingLapses n.params × MovesNoneInAll n ago events × NoneSilent n ago events

-- By a time a document has settled, or its choice stands, as `So` says of what it came from: each of its events up to
-- another time leads from one past to the next.
pub record ComesByEvents (So : NetworkState → List Timed → Past → ℕ → Type 0) (d : DocumentState)
    (until settled : ℕ) : Type 0 where
  pub calm : IsCalm d.network (events_by until d.events)
  pub first : Past
  pub begins : BeginsBy d.network first
  pub last : Past
  pub lead : LeadOn d.network [] first (events_by until d.events) last
  pub settles : So d.network (events_by until d.events) last settled

-- it settles, or its choice stands
abbrev pub SettlesByEvents : DocumentState → ℕ → ℕ → Type 0
SettlesByEvents = ComesByEvents SettlesAfter

abbrev pub ChoosesByEvents : DocumentState → ℕ → ℕ → Type 0
ChoosesByEvents = ComesByEvents ChoosesAfter

-- The world after an act of the run is settled where the act is no earlier than that time, and later than those events.
abbrev pub ActsFindSettledInTurn : {F : Type 0} → (Bounds → ℕ → F → Option ℕ → F → Type 0) → Type 0
ActsFindSettledInTurn {F} answers = (d : DocumentState) (until settled : ℕ) (fate : F) (first w : WorldState)
    (ts : List ActTrace) (t : ActTrace)
    → IsPlayable d → Unfolds answers d until fate first ts w → In t ts
    → SettlesByEvents d t.told.timed.at settled → settled ≤ t.told.timed.at
    → last_change (events_by t.told.timed.at d.events) < t.told.timed.at
    → IsSettledAs d t.told.timed.at t.after

-- and from the time on by which its choice stands it stands in that world
abbrev pub ActsFindChoiceInTurn : {F : Type 0} → (Bounds → ℕ → F → Option ℕ → F → Type 0) → Type 0
ActsFindChoiceInTurn {F} answers = (d : DocumentState) (until settled : ℕ) (fate : F) (first w : WorldState)
    (ts : List ActTrace) (t : ActTrace)
    → IsPlayable d → Unfolds answers d until fate first ts w → In t ts
    → ChoosesByEvents d t.told.timed.at settled → settled ≤ t.told.timed.at
    → last_change (events_by t.told.timed.at d.events) < t.told.timed.at
    → ChoiceStandsAs d t.told.timed.at t.after
