-- Events that are put after those of a document (profile).
use Rattle.std.specs.Prelude.{ℕ, if◌then◌else◌, nat_le, nat_lt, ◌∷◌, [], ◌++◌, length, take, Option, Some}
use Rattle.std.specs.Option.{option_map}
use Rattle.gptp_scenario.specs.Calm.{last_change}
use Rattle.gptp_scenario.specs.declared.change.Act.TheVariants as acts
use Rattle.gptp_scenario.specs.declared.change.Change.{Change}
use Rattle.gptp_network.specs.declared.keys.TheConstants.{LATEST_EVENT}
use Rattle.gptp_network.specs.Document.{DocumentState}
use Rattle.gptp_network.specs.Events.{change_fault}
use Rattle.gptp_network.specs.Faults.{document_fault}
use Rattle.gptp_network.specs.declared.fault.DocumentFault.{DocumentFault}
use Rattle.gptp_network.specs.declared.fault.DocumentFault.TheVariants.{EventOrder, OutOfRange, TooMany}

-- the first test that one more event fails: a document has as many as it may have, the event is later than one may be
-- or earlier than the last, or what its kind asks isn't so
abbrev pub adding_fault : DocumentState → ℕ → Change → Option DocumentFault
adding_fault d at change =
    if nat_le 4096 (length d.events) then Some TooMany
    else if nat_lt LATEST_EVENT at then Some OutOfRange
    else if nat_lt at (last_change d.events) then Some EventOrder
    else option_map document_fault (change_fault d.network change)

-- a document with one event more
abbrev pub with_event : ℕ → Change → DocumentState → DocumentState
with_event at change d =
    record d { events = d.events ++ record { at = at; act = acts.Change change } ∷ [] }

-- a document with its first events alone
abbrev pub with_first : ℕ → DocumentState → DocumentState
with_first count d = record d { events = take count d.events }
