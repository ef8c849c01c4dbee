-- Laws on news that come to a network at rest: no announce interval has to pass. They are of the machine alone.
use Rattle.std.specs.Prelude.{◌≡◌, ◌⊎◌, ◌<◌, ◌≤◌, ◌+◌, ℕ, suc, List, Some, slice_get}
use Rattle.gptp_graph.specs.Snapshot.{System, PortIdentity, port_of, Joins}
use Rattle.gptp_bmca_machine.specs.Frame.{Spelling, Lane}
use Rattle.gptp_bmca_machine.specs.Station.{Disabled, Port, Station, MachineState}
use Rattle.gptp_bmca_machine.specs.LinkStage.{Wiring, FinalAnnounceStays}
use Rattle.gptp_bmca_machine.specs.Link.{Stand}
use Rattle.gptp_bmca_machine.specs.Network.{Network, IsSettlingNetwork, settled_from, wiring}
use Rattle.gptp_bmca_machine.specs.Calm.{Calm}
use Rattle.gptp_bmca_machine.specs.Levels.{LeadsFarther, Invariant}
use Rattle.gptp_bmca_machine.specs.Run.{last_state, NearHaveSettled}
use Rattle.gptp_bmca_machine.specs.SoundLaws.{AllIsWhole, AllAreNear, HasNews, IsNewsRun}

-- what the teller tells is held, and stays
abbrev pub LinkStays : Spelling → Wiring → MachineState → Type 0
LinkStays says k w = (pv pu : Port) (l : Lane) → Stand k w pv pu l
    → FinalAnnounceStays says k pv.announce pu.held l.frames

-- in the end it is so of each link that leads farther from the best
abbrev pub LinksStay : Spelling → Type 0
LinksStay says = (n : Network) (w : MachineState) (d : ℕ) (best : System) (v p u q : ℕ)
    → IsSettlingNetwork n → Calm n w → Invariant says n w → settled_from n ≤ w.time → d < 255
    → LeadsFarther n.graph d best v p u q
    → LinkStays says (wiring n d best v p u q) w

-- the second network has what the first has where it was
pub record SameWiring (n n' : Network) : Type 0 where
  pub place : (v : ℕ) → n'.place v ≡ n.place v
  pub lane : (p : PortIdentity) → n'.lane p ≡ n.lane p
  pub log : (p : PortIdentity) → n'.log_of p ≡ n.log_of p
  pub interval : (p : PortIdentity) → n'.interval_of p ≡ n.interval_of p

-- what stands at the ends of this link, and on it, stood there before the news
pub record StandsAsBefore (n : Network) (w w' : MachineState) (v p u : ℕ) : Type 0 where
  pub teller : (s : Station) → slice_get w'.stations (n.place v) ≡ Some s → slice_get w.stations (n.place v) ≡ Some s
  pub hearer : (s : Station) → slice_get w'.stations (n.place u) ≡ Some s → slice_get w.stations (n.place u) ≡ Some s
  pub lane : (l : Lane) → slice_get w'.lanes (n.lane (port_of v (suc p))) ≡ Some l
      → slice_get w.lanes (n.lane (port_of v (suc p))) ≡ Some l

-- the port at place p of the system isn't capable yet
abbrev pub IsOffAt : Network → MachineState → ℕ → ℕ → Type 0
IsOffAt n w v p = (s : Station) (q : Port) → slice_get w.stations (n.place v) ≡ Some s → slice_get s.ports p ≡ Some q
    → q.held ≡ Disabled

-- a calm state whose network has settled, in which all is wholly clean
pub record IsResting (says : Spelling) (n : Network) (w : MachineState) : Type 0 where
  pub near : AllAreNear n.graph
  pub calm : Calm n w
  pub invariant : Invariant says n w
  pub late : settled_from n ≤ w.time
  pub whole : AllIsWhole says n.graph (Joins n.graph) w

-- News come to a network at rest: the state w of the first network becomes w' of the second. Each link was there and is
-- as it was, or the port that would tell is disabled; and all that is held and in flight is wholly clean still.
pub record NewsAtRest (says : Spelling) (n n' : Network) (w w' : MachineState) : Type 0 where
  pub rests : IsResting says n w
  pub news : HasNews n.graph n'.graph
  pub same : SameWiring n n'
  pub links : (v p u q : ℕ) → Joins n'.graph (port_of v (suc p)) (port_of u (suc q))
      → (Joins n.graph (port_of v (suc p)) (port_of u (suc q)) × StandsAsBefore n w w' v p u) ⊎ IsOffAt n' w' v p
  pub whole : AllIsWhole says n.graph (Joins n'.graph) w'

-- a run after such news ends settled
abbrev pub NewsFromRest : Spelling → Type 0
NewsFromRest says = (n n' : Network) (w w' : MachineState) (ws : List MachineState)
    → IsSettlingNetwork n → IsSettlingNetwork n' → NewsAtRest says n n' w w' → IsNewsRun says n' w' ws
    → settled_from n' ≤ (last_state w' ws).time
    → NearHaveSettled n' (last_state w' ws)

-- a run after news at rest is at rest again a delay after it has settled, once ports that no link is at hold nothing,
-- where all live systems are near
abbrev pub RestFollowsNews : Spelling → Type 0
RestFollowsNews says = (n n' : Network) (w w' : MachineState) (ws : List MachineState)
    → IsSettlingNetwork n → IsSettlingNetwork n' → NewsAtRest says n n' w w' → AllAreNear n'.graph
    → IsNewsRun says n' w' ws
    → w'.time < settled_from n' → settled_from n' + n'.most ≤ (last_state w' ws).time → n'.off ≤ (last_state w' ws).time
    → IsResting says n' (last_state w' ws)
