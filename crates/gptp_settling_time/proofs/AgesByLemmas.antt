-- At a port that no link is at any more what is received ages by the link that was there: it came within the greatest
-- delay of that, and stays by the interval that the port at its other end announces at.
use Rattle.std.proofs.Common.{◌≡◌, ◌≤◌, ◌<◌, ◌+◌, ℕ, ℤ, suc, true, Some, slice_get, refl, subst, inl, inr, arith}
use Rattle.gptp_lists.specs.Members.{In}
use Rattle.gptp_graph.specs.Snapshot.{IsLinked, Joins, PortIdentity, Snapshot, clocks, port_of}
use Rattle.gptp_graph.proofs.LinkLemmas.{Joins-sym}
use Rattle.gptp_bmca_machine.specs.Acts.{MachineSteps}
use Rattle.gptp_bmca_machine.specs.Calm.{Calm}
use Rattle.gptp_bmca_machine.specs.Facts.{NetworkSetting, StationFacts}
use Rattle.gptp_bmca_machine.specs.Frame.{Announce, AnnounceFrame, Lane, Spelling}
use Rattle.gptp_bmca_machine.specs.Network.{Network}
use Rattle.gptp_bmca_machine.specs.SoundEverywhere.{IsSoundEverywhere}
use Rattle.gptp_bmca_machine.specs.Station.{HoldsAt, MachineState, Reception, Station}
use Rattle.gptp_settling_time.proofs.AgingLemmas.{EachAges, HeardNearer, StaysAsNamed, UnlinkedAge, each_ages, each_reduced}
use Rattle.gptp_settling_time.proofs.AgingStillLemmas.{IsEmptied}
use Rattle.gptp_settling_time.proofs.ReducedLemmas.{IsReduced}

-- what comes to such a port ages before a time of the port
abbrev pub AgesAt : Snapshot → (PortIdentity → ℕ → Type 0) → PortIdentity → Announce → ℕ → Type 0
AgesAt g By port a until = (IsLinked g port → ⊥) → (aged : ℕ) × By port aged × (until < aged)

abbrev pub UnlinkedAgeBy : Spelling → Snapshot → (ℤ → ℕ) → (PortIdentity → ℕ → Type 0) → MachineState → Type 0
UnlinkedAgeBy says g stay By w = EachAges says g stay (AgesAt g By) w

-- every step keeps that, and so do links that are gone
pub by_kept : (says : Spelling) (k : NetworkSetting) (stay : ℤ → ℕ) (By : PortIdentity → ℕ → Type 0)
    (w w' : MachineState) → StationFacts k w → StationFacts k w' → StaysAsNamed stay w' → MachineSteps says w w'
    → UnlinkedAgeBy says k.graph stay By w → UnlinkedAgeBy says k.graph stay By w'
by_kept says k stay By w w' facts facts' named =
    each_ages says k stay (AgesAt k.graph By) w w' facts facts' named
    (λ i s p a at live own master to joins t unlinked.
    absurd (unlinked (port_of s.clock p, Joins-sym k.graph (port_of s.clock p) to joins)))

pub by_reduced : (says : Spelling) (g : Snapshot) (stay : ℤ → ℕ) (By : PortIdentity → ℕ → Type 0) (w w' : MachineState)
    → IsReduced w w' → UnlinkedAgeBy says g stay By w → UnlinkedAgeBy says g stay By w'
by_reduced says g stay By = each_reduced says g stay (AgesAt g By)

-- so it does before other times that are as late
pub by_map : (says : Spelling) (g : Snapshot) (stay : ℤ → ℕ) (By By' : PortIdentity → ℕ → Type 0) (w : MachineState)
    → ((port : PortIdentity) (until : ℕ) → (IsLinked g port → ⊥) → By port until → By' port until)
    → UnlinkedAgeBy says g stay By w → UnlinkedAgeBy says g stay By' w
by_map says g stay By By' w more all = record {
  held = λ i s place r at live holds unlinked.
      let (until, by, over) = all.held i s place r at live holds unlinked in
      (until, more (port_of s.clock (suc place)) until unlinked by, over);
  flight = λ j l f a at among said known unlinked.
      let (until, by, over) = all.flight j l f a at among said known unlinked in
      (until, more l.to until unlinked by, over);
}

-- before the greatest of these times, of ports that heard a nearer system before, all has aged there
pub by_all : (says : Spelling) (before g : Snapshot) (stay : ℤ → ℕ) (By : PortIdentity → ℕ → Type 0) (aged : ℕ)
    (w : MachineState)
    → ((port : PortIdentity) (until : ℕ) → HeardNearer before port → By port until → until ≤ aged)
    → UnlinkedAgeBy says g stay By w → UnlinkedAge says before g stay aged w
by_all says before g stay By aged w most all = record {
  held = λ i s place r at live holds unlinked nearer.
      let (until, by, over) = all.held i s place r at live holds unlinked in
      let less = most (port_of s.clock (suc place)) until nearer by in
      omega (arith, over, less);
  flight = λ j l f a at among said known unlinked nearer.
      let (until, by, over) = all.flight j l f a at among said known unlinked in
      let less = most l.to until nearer by in
      omega (arith, over, less);
}

-- ---- how it begins

-- What came over the link that was at the port ages before this time: it comes within the delay of the link, and stays
-- so long.
abbrev pub ByLink : ℕ → (PortIdentity → ℕ → Type 0) → (PortIdentity → PortIdentity → ℕ → Type 0) → PortIdentity → ℕ
    → Type 0
ByLink time Stays Over port aged = (from : PortIdentity) × (most : ℕ) × Over from port most × (span : ℕ)
    × Stays from span × (aged ≡ suc (time + (most + span)))

-- What is held in a network that has settled, and what is in flight, came over its link. What a port tells stays so
-- long, and a link is as slow as that, by what is said of the port, and of the ports of the link.
module _ (says : Spelling) (n : Network) (w : MachineState) (calm : Calm n w) (sound : IsSoundEverywhere says n.graph w)
    (stay : ℤ → ℕ) (named : StaysAsNamed stay w) (Stays : PortIdentity → ℕ → Type 0)
    (Over : PortIdentity → PortIdentity → ℕ → Type 0)
    (held_stays : (i : ℕ) (s : Station) (place : ℕ) (r : Reception) → slice_get w.stations i ≡ Some s → s.live ≡ true
    → HoldsAt s place r → (span : ℕ) × Stays r.said.source span × (stay r.said.log ≤ span))
    (flight_stays : (j : ℕ) (l : Lane) (f : AnnounceFrame) (a : Announce) → slice_get w.lanes j ≡ Some l
    → In f l.frames → says f.octets a → In l.to.clock (clocks n.graph)
    → (span : ℕ) × Stays a.source span × (stay a.log ≤ span))
    (joined : (j : ℕ) (l : Lane) (f : AnnounceFrame) (a : Announce) → slice_get w.lanes j ≡ Some l → In f l.frames
    → says f.octets a → In l.to.clock (clocks n.graph) → Joins n.graph l.from l.to)
    (over : (from to : PortIdentity) → Joins n.graph from to → (most : ℕ) × Over from to most)
    (soon : (j : ℕ) (l : Lane) (f : AnnounceFrame) → slice_get w.lanes j ≡ Some l → In f l.frames
    → Joins n.graph l.from l.to → (most : ℕ) × Over l.from l.to most × (f.due ≤ w.time + most)) where
  module _ (g : Snapshot) (lived : (v : ℕ) → In v (clocks g) → In v (clocks n.graph)) (w' : MachineState)
      (emptied : IsEmptied w w') where
    pub by_begins : UnlinkedAgeBy says g stay (ByLink w.time Stays Over) w'
    by_begins = record {
      held = λ i s place r at live holds unlinked.
          let stood = emptied.stations i s at live in
          let came = sound.stations i s stood live place r holds in
          let (span, stays, less) = held_stays i s place r stood live holds in
          let (most, is_over) = over came.from (port_of s.clock (suc place)) came.joins in
          let now = ((calm.facts.stations i s stood live).held place r holds).came in
          let named_span = named i s place r stood live holds in (
            suc (w.time + (most + span)),
            (came.from, most, is_over, span, subst (λ q. Stays q span) came.source stays, refl),
            omega (arith, now, named_span, less),
          );
      flight = λ j l f a at among said known unlinked. elim (emptied.lanes j l at) [
        | inl stood ↦
            let source = (sound.lanes j l stood f a among said).source in
            let (span, stays, less) = flight_stays j l f a stood among said (lived l.to.clock known) in
            let (most, is_over, due) = soon j l f stood among
            (joined j l f a stood among said (lived l.to.clock known)) in (
              suc (w.time + (most + span)),
              (l.from, most, is_over, span, subst (λ q. Stays q span) source stays, refl),
              omega (arith, due, less),
            )
        | inr (none, off) ↦ absurd (subst (In f) none among)
      ];
    }
