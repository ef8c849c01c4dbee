-- Tests in their order, and what is answered by them.
use Rattle.std.specs.Prelude.{◌≡◌, ◌⊎◌, ℕ, codes, Bool, if◌then◌else◌, List, [], ◌∷◌, Option, Some, None}
use Rattle.gptp_scenario.specs.declared.fault.NetworkFault.{NetworkFault}
use Rattle.gptp_scenario.specs.declared.fault.NetworkFault.TheVariants.{OutOfRange, DuplicateClock, SelfLink, PortTaken, NoSuchPort, DelayTooLong, TooMany, Timing, OutOfMemory}

-- Of tests in their order, each with whether it fails and the fault that it then is: the first that fails.
abbrev pub first_fault : List (Bool × NetworkFault) → Option NetworkFault
first_fault [] = None
first_fault (test ∷ tests) = if test.0 then Some test.1 else first_fault tests

-- The fault that was found is answered. Where none was found, only memory can be refused.
abbrev pub IsRefusal : Option NetworkFault → NetworkFault → Type 0
IsRefusal found e = (found ≡ Some e) ⊎ ((found ≡ None) × (e ≡ OutOfMemory))

-- a fault as its number and its name
abbrev pub network_fault_text : NetworkFault → List ℕ
network_fault_text OutOfRange = codes "4 OutOfRange"
network_fault_text DuplicateClock = codes "5 DuplicateClock"
network_fault_text SelfLink = codes "6 SelfLink"
network_fault_text PortTaken = codes "7 PortTaken"
network_fault_text NoSuchPort = codes "8 NoSuchPort"
network_fault_text DelayTooLong = codes "9 DelayTooLong"
network_fault_text TooMany = codes "11 TooMany"
network_fault_text Timing = codes "12 Timing"
network_fault_text OutOfMemory = codes "13 OutOfMemory"
