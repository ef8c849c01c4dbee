-- What is so of each Announce that is held, and of each in flight to a live system, every step keeps so, where it is so
-- of what a system says that holds only such, and of what in flight is taken.
use Rattle.std.proofs.Common.{◌≡◌, ℕ, suc, true, List, Some, slice_get, refl, sym, subst, ◌∙◌, inl, inr}
use Rattle.gptp_lists.specs.Members.{In}
use Rattle.gptp_lists.proofs.SystemSpecLemmas.{In-parts}
use Rattle.gptp_graph.specs.Snapshot.{Joins, PortIdentity, clocks, port_of}
use Rattle.gptp_graph.proofs.SystemLemmas.{In-clocks}
use Rattle.gptp_bmca_machine.specs.Acts.{Arrives, MachineSteps, Pops, StationAnswers}
use Rattle.gptp_bmca_machine.specs.Calm.{Calm}
use Rattle.gptp_bmca_machine.specs.Facts.{station_system}
use Rattle.gptp_bmca_machine.specs.Frame.{Announce, AnnounceFrame, Lane, Spelling}
use Rattle.gptp_bmca_machine.specs.Network.{Network}
use Rattle.gptp_bmca_machine.specs.Reacts.{IsMasterAt, IsOwn, PortStep}
use Rattle.gptp_bmca_machine.specs.Station.{HoldsAt, MachineState, Mine, Port, Received, Reception, Station}
use Rattle.gptp_bmca_machine.specs.Touch.{Hear, IsUsable, Replaces, StationTouch}
use Rattle.gptp_settling_time.proofs.TouchedLemmas.{mid_heard}

-- so it is of what a station holds, each at its port
abbrev pub HoldsEach : (PortIdentity → Announce → Type 0) → Station → Type 0
HoldsEach P s = (place : ℕ) (r : Reception) → HoldsAt s place r → P (port_of s.clock (suc place)) r.said

-- so it is of it, whatever the port
abbrev pub HoldsOnly : (Announce → Type 0) → Station → Type 0
HoldsOnly P s = (place : ℕ) (r : Reception) → HoldsAt s place r → P r.said

-- Each Announce in flight from a port to one of a live system of the network is so, and each that a live system holds
-- at a port.
pub record EachAt (says : Spelling) (n : Network) (Q : PortIdentity → PortIdentity → Announce → Type 0)
    (P : PortIdentity → Announce → Type 0) (w : MachineState) : Type 0 where
  pub lanes : (j : ℕ) (l : Lane) (f : AnnounceFrame) (a : Announce) → slice_get w.lanes j ≡ Some l → In f l.frames
      → says f.octets a → In l.to.clock (clocks n.graph) → Q l.from l.to a
  pub stations : (i : ℕ) (s : Station) → slice_get w.stations i ≡ Some s → s.live ≡ true → HoldsEach P s

-- so is each in flight, and each that a live system holds at any port
abbrev pub EachAnnounce : Spelling → Network → (PortIdentity → PortIdentity → Announce → Type 0) → (Announce → Type 0)
    → MachineState → Type 0
EachAnnounce says n Q P w = EachAt says n Q (λ to. P) w

module _ (says : Spelling) (n : Network) (Q : PortIdentity → PortIdentity → Announce → Type 0)
    (P : PortIdentity → Announce → Type 0) (w w' : MachineState) (calm : Calm n w) (calm' : Calm n w')
    (own : (i : ℕ) (s : Station) (p : ℕ) (a : Announce) → slice_get w'.stations i ≡ Some s → s.live ≡ true
    → HoldsEach P s → IsOwn s p a → IsMasterAt s p → (to : PortIdentity) → Joins n.graph (port_of s.clock p) to
    → Q (port_of s.clock p) to a)
    (taken : (j : ℕ) (l : Lane) (f : AnnounceFrame) (a : Announce) (i : ℕ) (s : Station) (place : ℕ) (q : Port)
    → slice_get w.lanes j ≡ Some l → In f l.frames → says f.octets a → slice_get w.stations i ≡ Some s
    → s.live ≡ true → l.to ≡ port_of s.clock (suc place) → slice_get s.ports place ≡ Some q → IsUsable s.clock a
    → Replaces s.clock (suc place) a q.held → Q l.from l.to a → P (port_of s.clock (suc place)) a) where
  -- one system answers
  called : (touch : StationTouch) (mid : MachineState) (call : StationAnswers says touch mid w')
      → EachAt says n Q P mid
      → ((place : ℕ) (q : Port) (a : Announce) → touch ≡ Hear (suc place) a → slice_get call.s.ports place ≡ Some q
      → IsUsable call.s.clock a → Replaces call.s.clock (suc place) a q.held → P (port_of call.s.clock (suc place)) a)
      → EachAt says n Q P w'
  called touch mid call all heard = record { lanes = lanes; stations = stations }
    where
      live' : call.s'.live ≡ true
      live' = call.reacts.live ∙ call.live

      same_port : (place : ℕ) → port_of call.s.clock (suc place) ≡ port_of call.s'.clock (suc place)
      same_port place = λ i. port_of (sym call.reacts.clock i) (suc place)

      held' : HoldsEach P call.s'
      held' place r (q', at, holds) =
          subst (λ port. P port r.said) (same_port place) (go (call.reacts.ports place q' at))
        where
          go : ((q : Port) × (slice_get call.s.ports place ≡ Some q)
              × PortStep says call.s.clock (suc place) mid.time touch call.s'.root call.s'.steps q q' call.sends)
              → P (port_of call.s.clock (suc place)) r.said
          go (q, stood, step) = elim step.after [
            | inr master ↦
                absurd (let both : Mine call.s'.root call.s'.steps ≡ Received r = sym master.mine ∙ holds in cc)
            | inl (kept, keeps) ↦ elim (mid_heard call.s.clock (suc place) mid.time touch q.held step.mid r step.before
                (sym kept ∙ holds)) [
                  | inl before ↦ all.stations call.place call.s call.here call.live place r (q, stood, before)
                  | inr (touched, usable, replaces) ↦ heard place q r.said touched stood usable replaces
                ]
          ]

      stations : (i : ℕ) (s : Station) → slice_get w'.stations i ≡ Some s → s.live ≡ true → HoldsEach P s
      stations i s at live = elim (call.stations i s at) [
        | inl (same, is) ↦ subst (HoldsEach P) (sym is) held'
        | inr (other, stood) ↦ all.stations i s stood live
      ]

      lanes : (j : ℕ) (l' : Lane) (f : AnnounceFrame) (a : Announce) → slice_get w'.lanes j ≡ Some l'
          → In f l'.frames → says f.octets a → In l'.to.clock (clocks n.graph) → Q l'.from l'.to a
      lanes j l' f a at flies said known =
          let (l, stood, step) = call.lanes j l' at in
          elim (In-parts f l.frames step.news (subst (In f) step.behind flies)) [
            | inl old ↦
                subst (λ from. Q from l'.to a) (sym step.from)
                (subst (λ to. Q l.from to a) (sym step.to)
                (all.lanes j l f a stood old said
                (subst (λ (x : PortIdentity). In x.clock (clocks n.graph)) step.to known)))
            | inr new ↦
                let (x, x_in, from, octets) = step.sent f new in
                let (says_own, master) = call.reacts.tells x a x_in (subst (λ o. says o a) octets said) in
                let port : port_of call.s'.clock x.port ≡ l'.from =
                (λ i. port_of (call.reacts.clock i) x.port) ∙ sym (step.from ∙ from) in
                let sender = In-clocks n.graph (station_system call.s')
                (calm'.facts.stations call.place call.s' call.there live').known in
                let joins = calm'.facts.linked j l' f at flies
                (subst (λ (q : PortIdentity). In q.clock (clocks n.graph)) port sender) known in
                subst (λ q. Q q l'.to a) port
                (own call.place call.s' x.port a call.there live' held' says_own master l'.to
                (subst (λ q. Joins n.graph q l'.to) (sym port) joins))
          ]

  -- a frame is taken off its lane
  popped : (j : ℕ) (l : Lane) (f : AnnounceFrame) (fs : List AnnounceFrame) (mid : MachineState) → Pops j l f fs w mid
      → EachAt says n Q P w → EachAt says n Q P mid
  popped j l f fs mid pops all = record {
    lanes = λ m l' x a at flies said known. elim (pops.lanes m l' at) [
      | inl (same, is) ↦
          subst (λ (y : Lane). Q y.from y.to a) (sym is)
          (all.lanes j l x a pops.here
          (subst (In x) (sym pops.frames) (inr (subst (λ (y : Lane). In x y.frames) is flies))) said
          (subst (λ (y : Lane). In y.to.clock (clocks n.graph)) is known))
      | inr (other, stood) ↦ all.lanes m l' x a stood flies said known
    ];
    stations = λ i s at. all.stations i s (pops.stations i s at);
  }

  arrived : (act : Arrives says w w') → EachAt says n Q P w → (place : ℕ) (q : Port) (a : Announce)
      → act.touch ≡ Hear (suc place) a → slice_get act.call.s.ports place ≡ Some q → IsUsable act.call.s.clock a
      → Replaces act.call.s.clock (suc place) a q.held → P (port_of act.call.s.clock (suc place)) a
  arrived act all place q a touched there usable replaces =
      let here = act.pops.stations act.call.place act.call.s act.call.here in
      let (number, said) = act.heard (suc place) a touched in
      let among = subst (In act.f) (sym act.pops.frames) (inl refl) in
      taken act.j act.l act.f a act.call.place act.call.s place q act.pops.here among said here act.call.live
      (λ i. port_of (sym act.owner i) (sym number i)) there usable replaces
      (all.lanes act.j act.l act.f a act.pops.here among said
      (subst (λ c. In c (clocks n.graph)) act.owner
      (In-clocks n.graph (station_system act.call.s)
      (calm.facts.stations act.call.place act.call.s here act.call.live).known)))

  pub each_at_kept : MachineSteps says w w' → EachAt says n Q P w → EachAt says n Q P w'
  each_at_kept (inl wait) all =
      subst (EachAt says n Q P) (sym wait.is) (record { lanes = all.lanes; stations = all.stations })
  each_at_kept (inr (inl act)) all =
      called act.touch act.mid act.call (popped act.j act.l act.f act.fs act.mid act.pops all) (arrived act all)
  each_at_kept (inr (inr (inl act))) all = popped act.j act.l act.f act.fs w' act.pops all
  each_at_kept (inr (inr (inr act))) all =
      called act.touch w act.call all (λ place q a touched. absurd (act.deaf (suc place) a touched))

-- so it is where it is so of each that a system tells, whatever the port to which that comes
pub each_kept : (says : Spelling) (n : Network) (Q : PortIdentity → PortIdentity → Announce → Type 0)
    (P : Announce → Type 0) → ((from to : PortIdentity) (a : Announce) → P a → Q from to a) → (w w' : MachineState)
    → Calm n w → Calm n w'
    → ((i : ℕ) (s : Station) (p : ℕ) (a : Announce) → slice_get w'.stations i ≡ Some s → s.live ≡ true
    → HoldsOnly P s → IsOwn s p a → IsMasterAt s p → P a)
    → ((j : ℕ) (l : Lane) (f : AnnounceFrame) (a : Announce) (i : ℕ) (s : Station) (place : ℕ) (q : Port)
    → slice_get w.lanes j ≡ Some l → In f l.frames → says f.octets a → slice_get w.stations i ≡ Some s
    → s.live ≡ true → l.to ≡ port_of s.clock (suc place) → slice_get s.ports place ≡ Some q → IsUsable s.clock a
    → Replaces s.clock (suc place) a q.held → Q l.from l.to a → P a) → MachineSteps says w w'
    → EachAnnounce says n Q P w → EachAnnounce says n Q P w'
each_kept says n Q P weaker w w' calm calm' own taken =
    each_at_kept says n Q (λ to. P) w w' calm calm'
    (λ i s p a at live held is_own master to joins.
    weaker (port_of s.clock p) to a (own i s p a at live held is_own master)) taken
