-- Why a document is refused.
use Rattle.std.specs.Prelude.{◌≡◌, ◌⊎◌, ℕ, codes, List, Option, Some, None, Result, Ok, Err, IfErr}
use Rattle.gptp_scenario.specs.declared.fault.NetworkFault.{NetworkFault}
use Rattle.gptp_scenario.specs.declared.fault.NetworkFault.TheVariants as networks
use Rattle.gptp_network.specs.declared.fault.DocumentFault.{DocumentFault}
use Rattle.gptp_network.specs.declared.fault.DocumentFault.TheVariants.{NotToml, MissingKey, WrongKind, OutOfRange, DuplicateClock, SelfLink, PortTaken, NoSuchPort, DelayTooLong, EventOrder, TooMany, Timing, OutOfMemory}

-- the second step, if the first found no fault
infixl 10 ◌>>=◌
abbrev pub ◌>>=◌ : {A B E : Type 0} → Result A E → (A → Result B E) → Result B E
Ok x >>= f = f x
Err e >>= f = Err e

-- a fault of a network, as one of the document that it is read from
abbrev pub document_fault : NetworkFault → DocumentFault
document_fault networks.OutOfRange = OutOfRange
document_fault networks.DuplicateClock = DuplicateClock
document_fault networks.SelfLink = SelfLink
document_fault networks.PortTaken = PortTaken
document_fault networks.NoSuchPort = NoSuchPort
document_fault networks.DelayTooLong = DelayTooLong
document_fault networks.TooMany = TooMany
document_fault networks.Timing = Timing
document_fault networks.OutOfMemory = OutOfMemory

-- what stands if no test found a fault
abbrev pub tested : {X : Type 0} → Option NetworkFault → X → Result X DocumentFault
tested (Some fault) x = Err (document_fault fault)
tested None x = Ok x

-- The answer's fault is the one that is meant, but that memory can be refused at any point.
abbrev pub RefusesDocument : {X T : Type 0} → Result X DocumentFault → Result T DocumentFault → Type 0
RefusesDocument meant result = IfErr result (λ e. (e ≡ OutOfMemory) ⊎ (meant ≡ Err e))

-- a fault as its number and its name
abbrev pub fault_text : DocumentFault → List ℕ
fault_text NotToml = codes "1 NotToml"
fault_text MissingKey = codes "2 MissingKey"
fault_text WrongKind = codes "3 WrongKind"
fault_text OutOfRange = codes "4 OutOfRange"
fault_text DuplicateClock = codes "5 DuplicateClock"
fault_text SelfLink = codes "6 SelfLink"
fault_text PortTaken = codes "7 PortTaken"
fault_text NoSuchPort = codes "8 NoSuchPort"
fault_text DelayTooLong = codes "9 DelayTooLong"
fault_text EventOrder = codes "10 EventOrder"
fault_text TooMany = codes "11 TooMany"
fault_text Timing = codes "12 Timing"
fault_text OutOfMemory = codes "13 OutOfMemory"
