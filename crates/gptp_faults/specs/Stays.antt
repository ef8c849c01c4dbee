-- How long faults stay, and how long runs go on after that (profile).
use Rattle.std.specs.Prelude.{ℕ, ◌+◌, List, Option, unwrap_or}
use Rattle.std.specs.List.{find}
use Rattle.std.specs.Option.{option_map_or}
use Rattle.gptp_how_soon.specs.Times.{is_time_at, settling_times}
use Rattle.gptp_how_soon.specs.declared.bounds.SettlingTime.{SettlingTime}
use Rattle.gptp_network.specs.Document.{DocumentState}
use Rattle.gptp_faults.specs.CaseEvents.{EventsState, with_changes}

-- for how long a network is watched from one of these times on; 0 from any other moment
abbrev pub watch_among : List SettlingTime → ℕ → ℕ
watch_among times at = option_map_or (λ (t : SettlingTime). t.watch) (find (is_time_at at) times) 0

abbrev pub watch_of : DocumentState → ℕ → ℕ
watch_of d = watch_among (settling_times d)

-- a document in which a case fails at a moment, and that is seen
abbrev pub failed_document : ℕ → EventsState → DocumentState → DocumentState
failed_document at e d = with_changes (at + e.delay) e.seen (with_changes at e.at d)

-- How long a case that fails at a moment stays down after that is seen: as long as that is asked, or as long as the
-- network is watched then.
abbrev pub hold_of : DocumentState → Option ℕ → EventsState → ℕ → ℕ
hold_of d asked e at = unwrap_or asked (watch_of (failed_document at e d) (at + e.delay))

-- when it comes back, where it stays down so long
abbrev pub back_at : ℕ → EventsState → ℕ → ℕ
back_at at e hold = at + e.delay + hold

-- a document in which it does
abbrev pub with_case : ℕ → ℕ → EventsState → DocumentState → DocumentState
with_case at hold e d = with_changes (back_at at e hold) e.back (failed_document at e d)

-- How long a run goes on after the return.
abbrev pub behind_of : DocumentState → Option ℕ → EventsState → ℕ → ℕ → ℕ
behind_of d asked e at hold = unwrap_or asked (watch_of (with_case at hold e d) (back_at at e hold))

-- The document of a run in which a case fails at a moment; when the case comes back, and when the run ends.
abbrev pub document_of : DocumentState → Option ℕ → EventsState → ℕ → DocumentState
document_of d asked e at = with_case at (hold_of d asked e at) e d

abbrev pub return_at : DocumentState → Option ℕ → EventsState → ℕ → ℕ
return_at d asked e at = back_at at e (hold_of d asked e at)

abbrev pub end_at : DocumentState → Option ℕ → EventsState → ℕ → ℕ
end_at d asked e at = return_at d asked e at + behind_of d asked e at (hold_of d asked e at)
