-- What is sound fits its snapshot. Where events move no system but such as they cut off, what fits the snapshot before
-- fits the one after.
use Rattle.std.proofs.Common.{◌≡◌, ◌≤◌, ℕ, zero, suc, true, Some, slice_get, refl, sym, subst, ◌∙◌, inl, inr, arith}
use Rattle.gptp_lists.specs.Members.{In}
use Rattle.gptp_graph.specs.Best.{IsBest}
use Rattle.gptp_graph.specs.Distance.{IsDistance}
use Rattle.gptp_graph.specs.Snapshot.{IsLinked, IsWellFormed, Joins, PortIdentity, Snapshot, System, clocks, port_of}
use Rattle.gptp_graph.proofs.BestLemmas.{IsBest-unique}
use Rattle.gptp_graph.proofs.DistanceLemmas.{IsDistance-unique, nearer_neighbour}
use Rattle.gptp_graph.proofs.ExistenceLemmas.{best_exists, distance_exists}
use Rattle.gptp_graph.proofs.LinkLemmas.{Joins-clock, Joins-sym}
use Rattle.gptp_graph.proofs.SystemLemmas.{In-clocks, system_of}
use Rattle.gptp_bmca_machine.specs.Clean.{CameFits, CameOverLink, CameSound}
use Rattle.gptp_bmca_machine.specs.Calm.{Calm}
use Rattle.gptp_bmca_machine.specs.Facts.{StationFacts, station_system}
use Rattle.gptp_bmca_machine.specs.Frame.{Announce, Lane, Spelling}
use Rattle.gptp_bmca_machine.specs.LossLaws.{EverythingFits, FlightFits}
use Rattle.gptp_bmca_machine.specs.Network.{Network, network_setting}
use Rattle.gptp_bmca_machine.specs.Sound.{ReceivedFits}
use Rattle.gptp_bmca_machine.specs.SoundEverywhere.{IsSoundEverywhere, IsSoundSent}
use Rattle.gptp_bmca_machine.specs.Station.{HoldsAt, MachineState, Reception, Station}
use Rattle.gptp_bmca_machine.proofs.NearestLemmas.{came_fits}
use Rattle.gptp_bmca_machine.proofs.SoundEverywhereLemmas.{on_links}
use Rattle.gptp_bmca_machine.proofs.SoundLemmas.{received_fits}
use Rattle.gptp_settling_time.specs.Losses.{IsCutOff, IsUnmoved, IsUnmovedOrCutOff}

-- ---- what is sound fits

-- what is in flight on a link, as if it was received
flight_fits : (g : Snapshot) (l : Lane) (a : Announce) → IsWellFormed g → Joins g l.from l.to → IsSoundSent g l.from a
    → FlightFits g l a
flight_fits g l a well joins is = record {
  joins = joins;
  source = is.source;
  sender = λ best far of root there.
      over.sender best far of root (subst (λ (q : PortIdentity). IsDistance g q.clock far) one there);
  fits = x.fits;
}
  where
    received : Reception
    received = record { said = a; at = 0; span = 0 }

    came : CameSound g l.to.clock l.to.port received
    came = record { from = l.from; joins = joins; source = is.source; sound = is.sound }

    x : CameFits g l.to.clock l.to.port received
    x = came_fits g l.to.clock l.to.port received well came

    back : Joins g l.to l.from
    back = Joins-sym g l.from l.to joins

    over : CameOverLink g l.to.clock l.to.port a
    over = x.over (l.from, back)

    one : l.from ≡ over.from
    one = well.one_link l.to l.from over.from back (Joins-sym g over.from l.to over.joins)

-- all of it
pub everything_fits : (says : Spelling) (n : Network) (w : MachineState) → IsWellFormed n.graph
    → StationFacts (network_setting n) w → IsSoundEverywhere says n.graph w → EverythingFits says n.graph n w
everything_fits says n w well facts all = record {
  lanes = λ j l f a at flies said to.
      let is = all.lanes j l at f a flies said in
      flight_fits n.graph l a well (facts.linked j l f at flies is.sender to) is;
  stations = received_fits says n.graph w well (on_links says n.graph w all);
}

-- ---- where no system is moved but such as are cut off

-- at a port of a live system that no link of the snapshot is at nothing is received
abbrev pub UnlinkedHoldNothing : Snapshot → MachineState → Type 0
UnlinkedHoldNothing g w = (i : ℕ) (s : Station) (place : ℕ) (r : Reception) → slice_get w.stations i ≡ Some s
    → s.live ≡ true → (IsLinked g (port_of s.clock (suc place)) → ⊥) → HoldsAt s place r
    → ⊥

-- of two snapshots the second is left of the first, and each system of the second is unmoved or cut off
pub record IsLeftUnmoved (g g' : Snapshot) : Type 0 where
  pub systems : (s : System) → In s g'.systems → In s g.systems
  pub links : (p q : PortIdentity) → Joins g' p q → Joins g p q
  pub unmoved : (v : ℕ) → In v (clocks g') → IsUnmovedOrCutOff g g' v

-- one that is cut off is its own best
pub at_zero : (g : Snapshot) (v d : ℕ) → IsWellFormed g → IsCutOff g v → IsDistance g v d → d ≡ 0
at_zero g v zero well cut here = refl
at_zero g v (suc e) well cut here =
    let (x, joined, there) = nearer_neighbour g v e well here in absurd (cut x joined)

module _ (g g' : Snapshot) (well : IsWellFormed g) (well' : IsWellFormed g') (left : IsLeftUnmoved g g') where
  pub lived : (v : ℕ) → In v (clocks g') → In v (clocks g)
  lived v known =
      let (s, here, clock) = system_of g' v known in
      subst (λ c. In c (clocks g)) clock (In-clocks g s (left.systems s here))

  -- one that isn't cut off is unmoved
  pub stays_put : (v : ℕ) → In v (clocks g') → (IsCutOff g' v → ⊥) → IsUnmoved g g' v
  stays_put v known joined = elim (left.unmoved v known) [ inl is ↦ is | inr cut ↦ absurd (joined cut) ]

  -- so is one that a link is at
  pub joined_stays : (p q : PortIdentity) → Joins g' p q → IsUnmoved g g' p.clock
  joined_stays p q joins =
      stays_put p.clock (Joins-clock g' p q well' joins) (λ cut. cut q.clock (p.port, q.port, joins))

  pub best_before : (v : ℕ) (b : System) → IsUnmoved g g' v → IsBest g' v b → IsBest g v b
  best_before v b unmoved is =
      let (c, was) = best_exists g v well (lived v is.reached.1.begins) in
      subst (IsBest g v) (IsBest-unique g' v c b well' (unmoved.best c was) is) was

  pub distance_before : (v d : ℕ) → IsUnmoved g g' v → IsDistance g' v d → IsDistance g v d
  distance_before v d unmoved is =
      let (e, was) = distance_exists g v well (lived v is.is_best.reached.1.begins) in
      subst (IsDistance g v) (IsDistance-unique g' v e d well' (unmoved.far e was) is) was

  -- what an unmoved system received that fits before fits after
  came_still : (c n : ℕ) (r : Reception) → IsUnmoved g g' c → CameFits g c n r → CameFits g' c n r
  came_still c n r unmoved x = record {
    over = over;
    fits = record {
      root = λ best of. x.fits.root best (best_before c best unmoved of);
      here = λ best far of root there.
          x.fits.here best far (best_before c best unmoved of) root (distance_before c far unmoved there);
      members = members;
      long = λ best of. x.fits.long best (best_before c best unmoved of);
    };
  }
    where
      members : (best : System) (m far : ℕ) → IsBest g' c best → r.said.root ≡ best.identity → In m r.said.path
          → IsBest g' m best → IsDistance g' m far → far ≤ r.said.steps
      members best m far of root among of' there = elim (left.unmoved m there.is_best.reached.1.begins) [
        | inl is ↦ x.fits.members best m far (best_before c best unmoved of) root among (best_before m best is of')
            (distance_before m far is there)
        | inr cut ↦ let none = at_zero g' m far well' cut there in omega (arith, none)
      ]

      over : IsLinked g' (port_of c n) → CameOverLink g' c n r.said
      over (q, joins) =
          let back = Joins-sym g' (port_of c n) q joins in
          let was = x.over (q, left.links (port_of c n) q joins) in
          let one : q ≡ was.from =
          well.one_link (port_of c n) q was.from (left.links (port_of c n) q joins)
          (Joins-sym g was.from (port_of c n) was.joins) in
          record {
            from = q;
            joins = back;
            source = was.source ∙ sym one;
            sender = λ best far of root there.
                was.sender best far (best_before c best unmoved of) root
                (subst (λ (p : PortIdentity). IsDistance g p.clock far) one
                (distance_before q.clock far (joined_stays q (port_of c n) back) there));
          }

  -- so does what is in flight over a link that is left
  pub flight_still : (l : Lane) (a : Announce) → Joins g' l.from l.to → FlightFits g l a → FlightFits g' l a
  flight_still l a joins fit = record {
    joins = joins;
    source = fit.source;
    sender = λ best far of root there.
        over.sender best far of root (subst (λ (q : PortIdentity). IsDistance g' q.clock far) one there);
    fits = x.fits;
  }
    where
      received : Reception
      received = record { said = a; at = 0; span = 0 }

      back : Joins g' l.to l.from
      back = Joins-sym g' l.from l.to joins

      x : CameFits g' l.to.clock l.to.port received
      x =
          came_still l.to.clock l.to.port received (joined_stays l.to l.from back)
          (record {
            over = λ linked. record {
              from = l.from;
              joins = fit.joins;
              source = fit.source;
              sender = fit.sender;
            };
            fits = fit.fits;
          })

      over : CameOverLink g' l.to.clock l.to.port a
      over = x.over (l.from, back)

      one : l.from ≡ over.from
      one = well'.one_link l.to l.from over.from back (Joins-sym g' over.from l.to over.joins)

-- so all does, where one that is cut off received nothing
pub received_still : (g : Snapshot) (n : Network) (w : MachineState) → IsWellFormed g → IsWellFormed n.graph
    → IsLeftUnmoved g n.graph → Calm n w → UnlinkedHoldNothing n.graph w → ReceivedFits g w → ReceivedFits n.graph w
received_still g n w well well' left calm none all i s place r at live holds =
    came_still g n.graph well well' left s.clock (suc place) r
    (stays_put g n.graph well well' left s.clock
    (In-clocks n.graph (station_system s) (calm.facts.stations i s at live).known)
    (λ cut. none i s place r at live (λ linked. cut linked.0.clock (suc place, linked.0.port, linked.1)) holds))
    (all i s place r at live holds)
