-- Where a system fails that others hear, what they hold of it ages: what is received at ports that no link is at any
-- more, and what is in flight to them, is gone before a time.
use Rattle.std.proofs.Common.{◌≡◌, ◌≤◌, ◌<◌, ◌+◌, ℕ, ℤ, suc, true, List, Some, slice_get, refl, sym, ap, subst, ◌∙◌, inl, inr, arith}
use Rattle.gptp_lists.specs.Members.{In}
use Rattle.gptp_lists.proofs.SystemSpecLemmas.{In-parts}
use Rattle.gptp_graph.specs.Snapshot.{IsLinked, Joins, PortIdentity, Snapshot, clocks, port_of}
use Rattle.gptp_graph.proofs.LinkLemmas.{Joins-sym}
use Rattle.gptp_graph.proofs.SystemLemmas.{In-clocks}
use Rattle.gptp_bmca_machine.specs.Acts.{Arrives, MachineSteps, Pops, StationAnswers}
use Rattle.gptp_bmca_machine.specs.Facts.{NetworkSetting, StationFacts, station_system}
use Rattle.gptp_bmca_machine.specs.Frame.{Announce, AnnounceFrame, Lane, Spelling}
use Rattle.gptp_bmca_machine.specs.Reacts.{IsMasterAt, IsOwn}
use Rattle.gptp_bmca_machine.specs.Station.{Disabled, HoldsAt, MachineState, Received, Reception, Station}
use Rattle.gptp_bmca_machine.specs.Touch.{Hear, StationTouch}
use Rattle.gptp_bmca_machine.proofs.ReactsLemmas.{JustHeard, held_from}
use Rattle.gptp_settling_time.proofs.ReducedLemmas.{IsReduced}
use Rattle.gptp_settling_time.proofs.UnlinkedLemmas.{IsFarther}

-- what a live system received stays as long as the interval that it named says
abbrev pub StaysAsNamed : (ℤ → ℕ) → MachineState → Type 0
StaysAsNamed stay w = (i : ℕ) (s : Station) (place : ℕ) (r : Reception) → slice_get w.stations i ≡ Some s
    → s.live ≡ true → HoldsAt s place r
    → r.span ≡ stay r.said.log

-- This is so of each Announce that is held, at its port, and of the time when it has aged there; and of each in flight
-- to a live system, at the port to which it comes, and of when it has aged there once it has come.
pub record EachAges (says : Spelling) (g : Snapshot) (stay : ℤ → ℕ) (So : PortIdentity → Announce → ℕ → Type 0)
    (w : MachineState) : Type 0 where
  pub held : (i : ℕ) (s : Station) (place : ℕ) (r : Reception) → slice_get w.stations i ≡ Some s → s.live ≡ true
      → HoldsAt s place r → So (port_of s.clock (suc place)) r.said (r.at + r.span)
  pub flight : (j : ℕ) (l : Lane) (f : AnnounceFrame) (a : Announce) → slice_get w.lanes j ≡ Some l → In f l.frames
      → says f.octets a → In l.to.clock (clocks g) → So l.to a (f.due + stay a.log)

module _ (says : Spelling) (k : NetworkSetting) (stay : ℤ → ℕ) (So : PortIdentity → Announce → ℕ → Type 0)
    (w w' : MachineState) (facts : StationFacts k w) (facts' : StationFacts k w') (named : StaysAsNamed stay w')
    (own : (i : ℕ) (s : Station) (p : ℕ) (a : Announce) → slice_get w'.stations i ≡ Some s → s.live ≡ true
    → IsOwn s p a → IsMasterAt s p → (to : PortIdentity) → Joins k.graph (port_of s.clock p) to → (t : ℕ)
    → So to a t) where
  abbrev Ages : MachineState → Type 0
  Ages = EachAges says k.graph stay So

  -- so it is of what a system hears at a port
  HeardAges : ℕ → Station → StationTouch → Type 0
  HeardAges now s touch = (place : ℕ) (a : Announce) → touch ≡ Hear (suc place) a
      → So (port_of s.clock (suc place)) a (now + stay a.log)

  -- a frame is taken off its lane
  popped : (j : ℕ) (l : Lane) (f : AnnounceFrame) (fs : List AnnounceFrame) (mid : MachineState)
      → Pops j l f fs w mid → Ages w → Ages mid
  popped j l f fs mid pops all = record {
    held = λ i s place r at. all.held i s place r (pops.stations i s at);
    flight = λ m l' x a at flies said known. elim (pops.lanes m l' at) [
      | inl (same, is) ↦
          subst (λ (y : Lane). So y.to a (x.due + stay a.log)) (sym is)
          (all.flight j l x a pops.here
          (subst (In x) (sym pops.frames) (inr (subst (λ (y : Lane). In x y.frames) is flies))) said
          (subst (λ (y : Lane). In y.to.clock (clocks k.graph)) is known))
      | inr (other, stood) ↦ all.flight m l' x a stood flies said known
    ];
  }

  -- one system answers
  called : (touch : StationTouch) (mid : MachineState) (call : StationAnswers says touch mid w') → Ages mid
      → HeardAges mid.time call.s touch → Ages w'
  unfolding HeardAges
  called touch mid call all heard = record { held = held; flight = flight }
    where
      live' : call.s'.live ≡ true
      live' = call.reacts.live ∙ call.live

      same_port : (place : ℕ) → port_of call.s.clock (suc place) ≡ port_of call.s'.clock (suc place)
      same_port place = λ i. port_of (sym call.reacts.clock i) (suc place)

      ages_so : (place : ℕ) (r : Reception) → HoldsAt call.s' place r → So (port_of call.s'.clock (suc place)) r.said
          (r.at + r.span)
      ages_so place r holds =
          elim (held_from says call.s call.s' touch mid.time call.sends call.reacts place r holds) [
            | inl before ↦
                subst (λ port. So port r.said (r.at + r.span)) (same_port place)
                (all.held call.place call.s place r call.here call.live before)
            | inr just ↦ came just (heard place just.said just.touched)
          ]
        where
          came : (just : JustHeard call.s.clock (suc place) mid.time touch r)
              → So (port_of call.s.clock (suc place)) just.said (mid.time + stay just.said.log)
              → So (port_of call.s'.clock (suc place)) r.said (r.at + r.span)
          came just so =
              let at = just.at in
              let span : r.span ≡ stay just.said.log =
              named call.place call.s' place r call.there live' holds ∙ ap (λ (a : Announce). stay a.log) just.is_said
              in
              let until : mid.time + stay just.said.log ≡ r.at + r.span = omega (arith, at, span) in
              subst (λ t. So (port_of call.s'.clock (suc place)) r.said t) until
              (subst (λ a. So (port_of call.s'.clock (suc place)) a (mid.time + stay just.said.log)) (sym just.is_said)
              (subst (λ port. So port just.said (mid.time + stay just.said.log)) (same_port place) so))

      held : (i : ℕ) (s : Station) (place : ℕ) (r : Reception) → slice_get w'.stations i ≡ Some s → s.live ≡ true
          → HoldsAt s place r → So (port_of s.clock (suc place)) r.said (r.at + r.span)
      held i s place r at live holds = elim (call.stations i s at) [
        | inl (same, is) ↦
            subst (λ (x : Station). So (port_of x.clock (suc place)) r.said (r.at + r.span)) (sym is)
            (ages_so place r (subst (λ x. HoldsAt x place r) is holds))
        | inr (other, stood) ↦ all.held i s place r stood live holds
      ]

      flight : (j : ℕ) (l' : Lane) (f : AnnounceFrame) (a : Announce) → slice_get w'.lanes j ≡ Some l'
          → In f l'.frames → says f.octets a → In l'.to.clock (clocks k.graph) → So l'.to a (f.due + stay a.log)
      flight j l' f a at flies said known =
          let (l, stood, step) = call.lanes j l' at in
          elim (In-parts f l.frames step.news (subst (In f) step.behind flies)) [
            | inl old ↦
                subst (λ to. So to a (f.due + stay a.log)) (sym step.to)
                (all.flight j l f a stood old said
                (subst (λ (x : PortIdentity). In x.clock (clocks k.graph)) step.to known))
            | inr new ↦
                let (x, x_in, from, octets) = step.sent f new in
                let (says_own, master) = call.reacts.tells x a x_in (subst (λ o. says o a) octets said) in
                let port : l'.from ≡ port_of call.s'.clock x.port =
                step.from ∙ from ∙ (λ i. port_of (sym call.reacts.clock i) x.port) in
                let sender = In-clocks k.graph (station_system call.s')
                (facts'.stations call.place call.s' call.there live').known in
                let joins = facts'.linked j l' f at flies
                (subst (λ (q : PortIdentity). In q.clock (clocks k.graph)) (sym port) sender) known in
                own call.place call.s' x.port a call.there live' says_own master l'.to
                (subst (λ q. Joins k.graph q l'.to) port joins) (f.due + stay a.log)
          ]

  -- what arrives
  arrived : (act : Arrives says w w') → Ages w → HeardAges act.mid.time act.call.s act.touch
  unfolding HeardAges
  arrived act all place a touched =
      let heard = act.heard (suc place) a touched in
      let to : act.l.to ≡ port_of act.call.s.clock (suc place) =
      λ j. port_of (sym act.owner j) (sym heard.0 j) in
      let known : In act.l.to.clock (clocks k.graph) =
      subst (λ c. In c (clocks k.graph)) act.owner
      (In-clocks k.graph (station_system act.call.s)
      (facts.stations act.call.place act.call.s (act.pops.stations act.call.place act.call.s act.call.here)
      act.call.live).known) in
      let so = all.flight act.j act.l act.f a act.pops.here (subst (In act.f) (sym act.pops.frames) (inl refl)) heard.1
      known in
      let due = act.pops.due in
      let time = act.pops.time in
      let until : act.f.due + stay a.log ≡ act.mid.time + stay a.log = omega (arith, due, time) in
      subst (λ t. So (port_of act.call.s.clock (suc place)) a t) until
      (subst (λ port. So port a (act.f.due + stay a.log)) to so)

  heard_none : (now : ℕ) (s : Station) (touch : StationTouch) → ((m : ℕ) (a : Announce) → touch ≡ Hear m a → ⊥)
      → HeardAges now s touch
  unfolding HeardAges
  heard_none now s touch deaf place a touched = absurd (deaf (suc place) a touched)

  -- every step keeps that, where it is so of what a system tells over its links
  pub each_ages : MachineSteps says w w' → EachAges says k.graph stay So w → EachAges says k.graph stay So w'
  each_ages (inl wait) all =
      subst (EachAges says k.graph stay So) (sym wait.is) (record { held = all.held; flight = all.flight })
  each_ages (inr (inl act)) all =
      called act.touch act.mid act.call (popped act.j act.l act.f act.fs act.mid act.pops all) (arrived act all)
  each_ages (inr (inr (inl act))) all = popped act.j act.l act.f act.fs w' act.pops all
  each_ages (inr (inr (inr act))) all =
      called act.touch w act.call all (heard_none w.time act.call.s act.touch act.deaf)

-- ---- where no link is

-- Before, no link led to the port from a system that was farther from the best, or as far with the higher clock.
abbrev pub HeardNearer : Snapshot → PortIdentity → Type 0
HeardNearer before port = (from : PortIdentity) → Joins before from port → IsFarther before from port → ⊥

-- At ports of live systems that no link is at, and that heard a nearer system before, what was received ages before
-- this time, and so does what is in flight to them once it has come.
abbrev pub UnlinkedAge : Spelling → Snapshot → Snapshot → (ℤ → ℕ) → ℕ → MachineState → Type 0
UnlinkedAge says before g stay aged w =
    EachAges says g stay (λ port a t. (IsLinked g port → ⊥) → HeardNearer before port → t < aged) w

-- nothing is received there
abbrev pub HearersHoldNothing : Snapshot → Snapshot → MachineState → Type 0
HearersHoldNothing before g w = (i : ℕ) (s : Station) (place : ℕ) (r : Reception) → slice_get w.stations i ≡ Some s
    → s.live ≡ true → (IsLinked g (port_of s.clock (suc place)) → ⊥)
    → HeardNearer before (port_of s.clock (suc place)) → HoldsAt s place r
    → ⊥

-- from then on nothing is
pub aged_gone : (says : Spelling) (before : Snapshot) (k : NetworkSetting) (stay : ℤ → ℕ) (aged : ℕ)
    (w : MachineState) → StationFacts k w → UnlinkedAge says before k.graph stay aged w → aged ≤ w.time
    → HearersHoldNothing before k.graph w
aged_gone says before k stay aged w facts all late i s place r here live unlinked nearer holds =
    let over = all.held i s place r here live holds unlinked nearer in
    let stays = ((facts.stations i s here live).held place r holds).stays in
    omega (arith, over, stays, late)

pub ages_kept : (says : Spelling) (before : Snapshot) (k : NetworkSetting) (stay : ℤ → ℕ) (aged : ℕ)
    (w w' : MachineState) → StationFacts k w → StationFacts k w' → StaysAsNamed stay w' → MachineSteps says w w'
    → UnlinkedAge says before k.graph stay aged w → UnlinkedAge says before k.graph stay aged w'
ages_kept says before k stay aged w w' facts facts' named =
    each_ages says k stay (λ port a t. (IsLinked k.graph port → ⊥) → HeardNearer before port → t < aged) w w' facts
    facts' named
    (λ i s p a at live own master to joins t unlinked.
    absurd (unlinked (port_of s.clock p, Joins-sym k.graph (port_of s.clock p) to joins)))

-- so does what links are gone beside
pub each_reduced : (says : Spelling) (g : Snapshot) (stay : ℤ → ℕ) (So : PortIdentity → Announce → ℕ → Type 0)
    (w w' : MachineState) → IsReduced w w' → EachAges says g stay So w → EachAges says g stay So w'
each_reduced says g stay So w w' less all = record {
  held = λ i s place r at live (q, there, holds).
      let (old, stood, same) = less.stations i s at live in
      elim (same.ports place q there) [
        | inl was ↦
            subst (λ c. So (port_of c (suc place)) r.said (r.at + r.span)) (sym same.clock)
            (all.held i old place r stood (sym same.live ∙ live) (q, was, holds))
        | inr off ↦ absurd (let both : Received r ≡ Disabled = sym holds ∙ off in cc)
      ];
  flight = λ j l f a at flies said known. elim (less.lanes j l at) [
    | inl stood ↦ all.flight j l f a stood flies said known
    | inr (none, off) ↦ absurd (subst (In f) none flies)
  ];
}

pub ages_reduced : (says : Spelling) (before g : Snapshot) (stay : ℤ → ℕ) (aged : ℕ) (w w' : MachineState)
    → IsReduced w w' → UnlinkedAge says before g stay aged w → UnlinkedAge says before g stay aged w'
ages_reduced says before g stay aged =
    each_reduced says g stay (λ port a t. (IsLinked g port → ⊥) → HeardNearer before port → t < aged)
