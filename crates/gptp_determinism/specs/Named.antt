-- Worlds in which a name means one thing, and fates that answer in one way.
use Rattle.std.specs.Prelude.{◌≡◌, ◌≢◌, ℕ, List, Option, Some, slice_get}
use Rattle.gptp_links.specs.declared.bounds.Bounds.{Bounds}
use Rattle.gptp_links.specs.declared.link.Direction.{Direction}
use Rattle.gptp_model.specs.Sound.{HaveOwnClocks, HaveTheirSetups}
use Rattle.gptp_model.specs.World.{Channel, WorldState, sender}

-- a port is one end of one link
abbrev pub HaveOwnPorts : List Channel → Type 0
HaveOwnPorts channels = (link other : ℕ) (direction way : Direction) (channel at : Channel)
    → slice_get channels link ≡ Some channel → slice_get channels other ≡ Some at
    → sender direction channel ≡ sender way at → (link ≡ other) × (direction ≡ way)

-- A clock names one system, a port one end of one link, and what systems start with names no other.
pub record IsNamed (w : WorldState) : Type 0 where
  pub setups : HaveTheirSetups w
  pub clocks : HaveOwnClocks w
  pub ports : HaveOwnPorts w.net.channels

-- a link joins two ports
abbrev pub JoinTwoPorts : WorldState → Type 0
JoinTwoPorts w = (link : ℕ) (channel : Channel) → slice_get w.net.channels link ≡ Some channel → channel.a ≢ channel.b

-- A fate that is asked in one state answers one thing, and is in one state then.
abbrev pub AnswersOnce : {F : Type 0} → (Bounds → ℕ → F → Option ℕ → F → Type 0) → Type 0
AnswersOnce {F} answers = (bounds : Bounds) (sent : ℕ) (fate f g : F) (answer said : Option ℕ)
    → answers bounds sent fate answer f → answers bounds sent fate said g → (answer ≡ said) × (f ≡ g)
