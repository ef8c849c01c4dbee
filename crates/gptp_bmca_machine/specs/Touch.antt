-- What an input does to what a port holds, before the system selects its roles anew.
use Rattle.std.specs.Prelude.{◌≡◌, ◌≢◌, ◌⊎◌, ◌<◌, ◌≤◌, ⊤, ℕ, length}
use Rattle.gptp_lists.specs.Members.{In}
use Rattle.gptp_graph.specs.Order.{IsLower}
use Rattle.gptp_bmca_machine.specs.Frame.{Announce}
use Rattle.gptp_bmca_machine.specs.Station.{Held, Disabled, Aged, Mine, Received}
use Rattle.gptp_bmca_machine.specs.Vectors.{message, master}

-- An input as far as Announces are concerned: one is heard, the Announce timer of a port expires, what a port holds
-- grows too old, a port becomes capable or no longer so, or something else happens.
pub data StationTouch : Type 0 where
  Hear : (port : ℕ) → Announce → StationTouch
  Tick : (port : ℕ) → StationTouch
  Grow : (port : ℕ) → StationTouch
  Enable : (port : ℕ) → StationTouch
  Disable : (port : ℕ) → StationTouch
  Other : StationTouch

-- the Announce may be used by the system with clock c (IEEE 802.1AS-2020, 10.3.11.2.1)
pub record IsUsable (c : ℕ) (a : Announce) : Type 0 where
  pub foreign : a.source.clock ≢ c
  pub near : a.steps < 255
  pub no_loop : In c a.path → ⊥
  pub short : length a.path ≤ 255

-- an Announce replaces what port n holds: what aged, what came from the same port, whether better or worse, and what is
-- worse than it (profile, for IEEE 802.1AS-2020, 10.3.12)
abbrev pub Replaces : ℕ → ℕ → Announce → Held → Type 0
Replaces c n a Disabled = ⊥
Replaces c n a Aged = ⊤
Replaces c n a (Mine root steps) = IsLower (message a n) (master root steps c n)
Replaces c n a (Received r) = (a.source ≡ r.said.source) ⊎ IsLower (message a n) (message r.said n)

-- it is taken: the port received it now, and a span is set for how long it stays
pub record TakesAnnounce (c n : ℕ) (a : Announce) (now : ℕ) (held mid : Held) : Type 0 where
  pub qualified : IsUsable c a
  pub replaces : Replaces c n a held
  pub span : ℕ
  pub is : mid ≡ Received (record { said = a; at = now; span = span })

-- it changes nothing
pub record LeavesHeld (c n : ℕ) (a : Announce) (held mid : Held) : Type 0 where
  pub fails : IsUsable c a → Replaces c n a held → ⊥
  pub is : mid ≡ held

-- port n of the system with clock c holds `mid` after the touch
abbrev pub HeldInTouch : ℕ → ℕ → StationTouch → ℕ → Held → Held → Type 0
HeldInTouch c n (Hear m a) now held mid =
    ((n ≡ m) × (held ≢ Disabled) × (TakesAnnounce c n a now held mid ⊎ LeavesHeld c n a held mid))
    ⊎ ((n ≢ m) × (mid ≡ held))
HeldInTouch c n (Tick m) now held mid = mid ≡ held
HeldInTouch c n (Grow m) now held mid = ((n ≡ m) × (mid ≡ Aged)) ⊎ ((n ≢ m) × (mid ≡ held))
HeldInTouch c n (Enable m) now held mid = ((n ≡ m) × (held ≡ Disabled) × (mid ≡ Aged)) ⊎ ((n ≢ m) × (mid ≡ held))
HeldInTouch c n (Disable m) now held mid = ((n ≡ m) × (mid ≡ Disabled)) ⊎ ((n ≢ m) × (mid ≡ held))
HeldInTouch c n Other now held mid = mid ≡ held
