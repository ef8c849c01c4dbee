-- What the events of a document that a text means inject is octets that a frame can have.
use Rattle.std.proofs.Common.{◌<◌, ℕ, List, [], ◌∷◌, refl, inl, inr}
use Rattle.std.specs.List.{AllByRecursion}
use Rattle.gptp_lists.specs.Members.{In}
use Rattle.gptp_scenario.specs.declared.change.Act.{Act}
use Rattle.gptp_scenario.specs.declared.change.Act.TheVariants.{Deliver, Expire, Change as Changing}
use Rattle.gptp_scenario.specs.declared.change.Change.TheVariants.{LinkDown, LinkUp, LinkSet, Fail, Recover, Priority1, Inject}
use Rattle.gptp_scenario.specs.declared.change.Timed.{Timed}
use Rattle.gptp_network.specs.Document.{DocumentState, Means}
use Rattle.gptp_network.proofs.MeantLemmas.{SetsOctets, meant_octets}
use Rattle.gptp_determinism.specs.ExistenceLaws.{AllInject}
use Rattle.gptp_determinism.specs.GoingOn.{AllAreOctets, InjectsOctets}

are_octets : (frame : List ℕ) → ((octet : ℕ) → In octet frame → octet < 256) → AllAreOctets frame
are_octets [] below = tt
are_octets (x ∷ xs) below = (below x (inl refl), are_octets xs (λ octet member. below octet (inr member)))

injects : (act : Act) → SetsOctets act → InjectsOctets act
injects (Deliver link direction) is = tt
injects (Expire name timer) is = tt
injects (Changing (LinkDown name port)) is = tt
injects (Changing (LinkUp name port)) is = tt
injects (Changing (LinkSet name port least greatest loss)) is = tt
injects (Changing (Fail name)) is = tt
injects (Changing (Recover name)) is = tt
injects (Changing (Priority1 name value)) is = tt
injects (Changing (Inject name port frame)) is = (are_octets frame is.0, is.1)

all_inject : (events : List Timed) → AllByRecursion (λ (t : Timed). SetsOctets t.act) events → AllInject events
all_inject [] all = tt
all_inject (t ∷ events) all = (injects t.act all.0, all_inject events all.1)

pub meant_injects : (input : List ℕ) (d : DocumentState) → Means input d → AllInject d.events
meant_injects input d means = all_inject d.events (meant_octets input d means)
