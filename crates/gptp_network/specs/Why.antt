-- Why a document is refused, and where.
use Rattle.std.specs.Prelude.{◌≡◌, ◌⊎◌, ℕ, List, length, take, Option, Some, None, Result, Ok, Err, IfErr}
use Rattle.toml.specs.Data.{Data, array, boolean, datetime, float, integer, string, table}
use Rattle.gptp_scenario.specs.declared.fault.NetworkFault.{NetworkFault}
use Rattle.gptp_network.specs.Faults.{document_fault}
use Rattle.gptp_network.specs.declared.fault.DocumentFault.{DocumentFault}
use Rattle.gptp_network.specs.declared.fault.DocumentFault.TheVariants as faults
use Rattle.gptp_network.specs.declared.place.Place.{Place}
use Rattle.gptp_network.specs.declared.why.Front.{Front}
use Rattle.gptp_network.specs.declared.why.Refusal.{Refusal}
use Rattle.gptp_network.specs.declared.why.Shape.{Shape}
use Rattle.gptp_network.specs.declared.why.Shape.TheVariants as shapes
use Rattle.gptp_network.specs.declared.why.Why.{Why}
use Rattle.gptp_network.specs.declared.why.Why.TheVariants as whys

-- what a value is
abbrev pub shape_of : Data → Shape
shape_of (string s) = shapes.Text
shape_of (integer z) = shapes.Whole
shape_of (float x) = shapes.Float
shape_of (boolean b) = shapes.Flag
shape_of (datetime dt) = shapes.Date
shape_of (array ds) = shapes.Array
shape_of (table ms) = shapes.Table

-- the first 64 octets of a text, and how many it has
abbrev pub front_of : List ℕ → Front
front_of text = record { octets = record { items = take 64 text }; count = length text }

-- the fault of a document, without what was seen
abbrev pub fault_of : Why → DocumentFault
fault_of (whys.Missing key) = faults.MissingKey
fault_of (whys.Kind key shape) = faults.WrongKind
fault_of (whys.Natural key value least most) = faults.OutOfRange
fault_of (whys.Whole key value least most) = faults.OutOfRange
fault_of (whys.Intervals count ports) = faults.OutOfRange
fault_of (whys.Text key front) = faults.OutOfRange
fault_of (whys.Above least greatest) = faults.OutOfRange
fault_of (whys.TooMany count most) = faults.TooMany
fault_of (whys.Duplicate clock system) = faults.DuplicateClock
fault_of (whys.BothEnds clock) = faults.SelfLink
fault_of (whys.UnknownClock clock) = faults.NoSuchPort
fault_of (whys.Beyond port ports) = faults.NoSuchPort
fault_of (whys.Unlinked port) = faults.NoSuchPort
fault_of (whys.Taken port link) = faults.PortTaken
fault_of (whys.TooLong greatest most) = faults.DelayTooLong
fault_of (whys.Before at before) = faults.EventOrder
fault_of (whys.Timing params announce) = faults.Timing
fault_of (whys.Other fault) = document_fault fault
fault_of whys.Memory = faults.OutOfMemory

-- what is left of a result where it is forgotten why
abbrev pub forget : {X : Type 0} → Result X Why → Result X DocumentFault
forget (Ok x) = Ok x
forget (Err why) = Err (fault_of why)

-- what is left of a result where it is forgotten why and at which place
abbrev pub forget_place : {X : Type 0} → Result X Refusal → Result X DocumentFault
forget_place (Ok x) = Ok x
forget_place (Err refusal) = Err (fault_of refusal.why)

-- what fails at a place
abbrev pub at_place : {X : Type 0} → Place → Result X Why → Result X Refusal
at_place place (Ok x) = Ok x
at_place place (Err why) = Err (record { place = place; why = why })

-- what stands if no test of the network found a fault
abbrev pub told : {X : Type 0} → (NetworkFault → Why) → Option NetworkFault → X → Result X Why
told why (Some fault) x = Err (why fault)
told why None x = Ok x

-- The answer's fault is the one that is meant, but that memory can be refused at any point.
abbrev pub Stops : {X T : Type 0} → Result X Why → Result T Why → Type 0
Stops meant result = IfErr result (λ why. (why ≡ whys.Memory) ⊎ (meant ≡ Err why))

abbrev pub StopsAt : {X T : Type 0} → Result X Refusal → Result T Refusal → Type 0
StopsAt meant result = IfErr result (λ refusal. (refusal.why ≡ whys.Memory) ⊎ (meant ≡ Err refusal))
