-- The role of a port at the settled choice, and why it has that (profile).
use Rattle.std.specs.Prelude.{◌≡◌, ◌⊎◌, ◌+◌, ℕ, Bool, true, false, List, [], ◌∷◌, ◌++◌, codes}
use Rattle.gptp_lists.specs.Members.{In}
use Rattle.gptp_graph.specs.Distance.{IsDistance}
use Rattle.gptp_graph.specs.Labelling.{SystemLine}
use Rattle.gptp_graph.specs.Parent.{IsParent, ParentLink}
use Rattle.gptp_graph.specs.SettledChoice.{IsSettledLine}
use Rattle.gptp_graph.specs.SettledRole.{Disabled, IsSettledRole, Master, Passive, Role, Slave}
use Rattle.gptp_graph.specs.Snapshot.{Joins, Snapshot, clocks}
use Rattle.gptp_vector.specs.declared.port.PortId.{PortId}
use Rattle.gptp_scenario.specs.Change.{link_after}
use Rattle.gptp_scenario.specs.declared.network.LinkSpec.{LinkSpec}
use Rattle.gptp_certificate_text.specs.Forms.{role_word}
use Rattle.gptp_network.specs.Document.{DocumentState}
use Rattle.gptp_network.specs.Snapshot.{events_by, port_identity}
use Rattle.gptp_explain.specs.Compared.{loss, win}
use Rattle.gptp_explain.specs.Why.{clock_port_text, why_text}
use Rattle.gptp_explain.specs.declared.why.Why.{Why}
use Rattle.gptp_explain.specs.declared.why.Why.TheVariants.{Unlinked, Down, Failed, Offers, Loses, Wins}

-- ---- a port at which no link is up between two live systems

-- the link leads from the one port to the other, whichever of them it names first
abbrev pub JoinsPorts : LinkSpec → PortId → PortId → Type 0
JoinsPorts w p q = ((w.a ≡ p) × (w.b ≡ q)) ⊎ ((w.b ≡ p) × (w.a ≡ q))

-- the document has no link at the port
abbrev pub HasNoLink : DocumentState → PortId → Type 0
HasNoLink d p = (w : LinkSpec) (q : PortId) → In w d.network.links → JoinsPorts w p q → ⊥

-- a link of the document leads from the one port to the other, and at the time it is up or down
pub record IsDocumentLink (d : DocumentState) (at : ℕ) (p q : PortId) (up : Bool) : Type 0 where
  pub wire : LinkSpec
  pub one : In wire d.network.links
  pub leads : JoinsPorts wire p q
  pub stands : (link_after (events_by at d.events) wire).up ≡ up

-- what is known of the document's link: there is none, or it is down, or up
abbrev pub IsKnownLink : DocumentState → ℕ → PortId → Why → Type 0
IsKnownLink d at p Unlinked = HasNoLink d p
IsKnownLink d at p (Down q) = IsDocumentLink d at p q false
IsKnownLink d at p (Failed q) = IsDocumentLink d at p q true
IsKnownLink d at p (Offers q steps) = ⊥
IsKnownLink d at p (Loses q steps by) = ⊥
IsKnownLink d at p (Wins q by) = ⊥

-- it is up where the system at its other end has failed
abbrev pub OtherEndHasFailed : Snapshot → Why → Type 0
OtherEndHasFailed g why = (q : PortId) → why ≡ Failed q → In q.clock (clocks g) → ⊥

-- ---- every port

-- where the port's link leads, and how many links from the root the systems at its ends are
pub record IsPortWay (g : Snapshot) (p : PortId) : Type 0 where
  pub there : PortId
  pub joins : Joins g (port_identity p) (port_identity there)
  pub steps : ℕ
  pub here : IsDistance g p.clock steps
  pub beyond : ℕ
  pub beyond_is : IsDistance g there.clock beyond

-- the port of the parent
abbrev pub parent_port : ParentLink → PortId
parent_port l = record { clock = l.clock; port = l.port }

-- it leads to the parent, and offers the steps that the system has
abbrev pub OffersWay : Snapshot → PortId → Why → Type 0
OffersWay g p why =
    (l : ParentLink) × (steps : ℕ) × IsParent g p.clock l × IsDistance g p.clock steps
    × (why ≡ Offers (parent_port l) steps)

-- it offers one step more than the other end has, and loses against the parent
abbrev pub LosesWay : Snapshot → PortId → Why → Type 0
LosesWay g p why =
    (l : ParentLink) × (way : IsPortWay g p) × IsParent g p.clock l
    × (why ≡ Loses way.there (way.beyond + 1) (loss way.steps (parent_port l) (way.beyond + 1) way.there))

-- it wins against the other end
abbrev pub WinsWay : Snapshot → PortId → Why → Type 0
WinsWay g p why = (way : IsPortWay g p) × (why ≡ Wins way.there (win way.steps p.clock way.beyond way.there.clock))

-- why a port of this role has it
abbrev pub HasWhy : DocumentState → ℕ → Snapshot → PortId → Role → Why → Type 0
HasWhy d at g p Disabled why = IsKnownLink d at p why × OtherEndHasFailed g why
HasWhy d at g p Slave why = OffersWay g p why
HasWhy d at g p Passive why = LosesWay g p why
HasWhy d at g p Master why = WinsWay g p why

-- the line of a port
abbrev pub explained_port_line : PortId → Role → Why → List ℕ
explained_port_line p role why = codes "port " ++ clock_port_text p ++ codes " " ++ role_word role
    ++ codes " " ++ why_text why

-- it tells the port's settled role and why it has that
pub record IsPortLine (d : DocumentState) (at : ℕ) (g : Snapshot) (p : PortId) (line : List ℕ) : Type 0 where
  pub role : Role
  pub settled : IsSettledRole g (port_identity p) role
  pub why : Why
  pub has : HasWhy d at g p role why
  pub is : line ≡ explained_port_line p role why

-- the lines of the ports of these numbers, in their order
abbrev pub ArePortLines : DocumentState → ℕ → Snapshot → ℕ → List ℕ → List (List ℕ) → Type 0
ArePortLines d at g v [] lines = lines ≡ []
ArePortLines d at g v (n ∷ ns) lines =
    (line : List ℕ) × (rest : List (List ℕ)) × (lines ≡ line ∷ rest)
    × IsPortLine d at g (record { clock = v; port = n }) line × ArePortLines d at g v ns rest

-- a port of a system that isn't far, by the system's settled line, with its settled role
pub record IsPortOfLine (g : Snapshot) (line : SystemLine) (p : PortId) (stated : Role) : Type 0 where
  pub settled : IsSettledLine g line
  pub near : line.far ≡ false
  pub clock : p.clock ≡ line.clock
  pub role : IsSettledRole g (port_identity p) stated
