-- Traces become clean by what live systems tell each other, once what failed systems told them is gone. What else is in
-- flight doesn't matter.
use Rattle.std.proofs.Common.{◌≡◌, ◌⊎◌, ◌≤◌, ◌<◌, ◌+◌, ◌*◌, ℕ, suc, true, List, [], Some, slice_get, refl, sym, subst, ◌∙◌, inl, inr, arith}
use Rattle.std.proofs.lemmas.Option.{none-some}
use Rattle.gptp_lists.specs.Members.{In}
use Rattle.gptp_lists.proofs.SystemSpecLemmas.{In-parts}
use Rattle.gptp_graph.specs.PathBound.{BoundsPaths}
use Rattle.gptp_graph.specs.Snapshot.{Joins, PortIdentity, clocks, port_of}
use Rattle.gptp_graph.proofs.SystemLemmas.{In-clocks}
use Rattle.gptp_bmca_machine.specs.Acts.{Arrives, MachineSteps, Pops, StationAnswers}
use Rattle.gptp_bmca_machine.specs.Clean.{Came, Good}
use Rattle.gptp_bmca_machine.specs.CleanInvariant.{StationIsClean}
use Rattle.gptp_bmca_machine.specs.CleanLaws.{HeldIsWhole}
use Rattle.gptp_bmca_machine.specs.Facts.{BeginsLater, IsLiveStationState, Late, NetworkSetting, StationFacts, station_system, turn}
use Rattle.gptp_bmca_machine.specs.Frame.{Announce, AnnounceFrame, Lane, Spelling}
use Rattle.gptp_bmca_machine.specs.Reacts.{IsOwn}
use Rattle.gptp_bmca_machine.specs.Station.{MachineState, Reception, Station}
use Rattle.gptp_bmca_machine.specs.Touch.{Hear, StationTouch}
use Rattle.gptp_bmca_machine.proofs.CleanLemmas.{held_whole, may_say}
use Rattle.gptp_bmca_machine.proofs.ReactsLemmas.{JustHeard, held_from}

-- An Announce to a live system that is due once what others sent is gone is told by a live one.
abbrev pub TellersLive : Spelling → NetworkSetting → MachineState → Type 0
TellersLive says k w = (j : ℕ) (l : Lane) (f : AnnounceFrame) (a : Announce) → slice_get w.lanes j ≡ Some l
    → In f l.frames → says f.octets a → In l.to.clock (clocks k.graph) → k.gone ≤ f.due
    → In l.from.clock (clocks k.graph)

-- So it is; and what is in flight over links, and what live systems hold, is as clean as when it was sent asks for.
-- What is due so late that it was sent by then is so wherever it is in flight, and a live system told it.
pub record ToldIsClean (says : Spelling) (k : NetworkSetting) (w : MachineState) : Type 0 where
  pub tellers : TellersLive says k w
  pub flight : (j : ℕ) (l : Lane) (f : AnnounceFrame) (a : Announce) (c : ℕ) → slice_get w.lanes j ≡ Some l
      → In f l.frames → says f.octets a → Joins k.graph l.from l.to → Late k c f.due → Good k.graph (suc c) l.from a
  pub anywhere : (j : ℕ) (l : Lane) (f : AnnounceFrame) (a : Announce) (c : ℕ) → slice_get w.lanes j ≡ Some l
      → In f l.frames → says f.octets a → k.start + c * turn k + k.interval ≤ f.due
      → In l.from.clock (clocks k.graph) × Good k.graph (suc c) l.from a
  pub held : (i : ℕ) (s : Station) → slice_get w.stations i ≡ Some s → s.live ≡ true → StationIsClean k s

module _ (says : Spelling) (k : NetworkSetting) where
  -- what a system is about to hear came over that port's link, and is clean by when it is due
  TellsClean : ℕ → Station → StationTouch → Type 0
  TellsClean now s touch = (n : ℕ) (a : Announce) (c : ℕ) → touch ≡ Hear n a → Late k c now
      → (from : PortIdentity) × Joins k.graph from (port_of s.clock n) × Good k.graph (suc c) from a

  known_as : (now : ℕ) (s : Station) → IsLiveStationState k now s → In s.clock (clocks k.graph)
  known_as now s is = In-clocks k.graph (station_system s) is.known

  -- one system answers
  called : (touch : StationTouch) (w w' : MachineState) (call : StationAnswers says touch w w') → StationFacts k w'
      → ToldIsClean says k w → TellsClean w.time call.s touch → ToldIsClean says k w'
  unfolding TellsClean
  called touch w w' call facts' clean heard =
      record { tellers = tellers; flight = flight; anywhere = anywhere; held = held }
    where
      live' : call.s'.live ≡ true
      live' = call.reacts.live ∙ call.live

      is' : IsLiveStationState k w.time call.s'
      is' = subst (λ t. IsLiveStationState k t call.s') call.time (facts'.stations call.place call.s' call.there live')

      came : (i : ℕ) (r : Reception) (c : ℕ) → (just : JustHeard call.s.clock (suc i) w.time touch r)
          → ((from : PortIdentity) × Joins k.graph from (port_of call.s.clock (suc i))
          × Good k.graph (suc c) from just.said)
          → Came k.graph (suc c) call.s.clock (suc i) r
      came i r c just (from, joins, good) = record {
        from = from;
        joins = joins;
        good = subst (Good k.graph (suc c) from) (sym just.is_said) good;
      }

      held' : StationIsClean k call.s'
      held' i r c holds late =
          subst (λ v. Came k.graph (suc c) v (suc i) r) (sym call.reacts.clock)
          (elim (held_from says call.s call.s' touch w.time call.sends call.reacts i r holds) [
            | inl before ↦ clean.held call.place call.s call.here call.live i r c before late
            | inr just ↦
                came i r c just
                (heard (suc i) just.said c just.touched (subst (λ t. Late k c t) just.at late))
          ])

      held : (i : ℕ) (s : Station) → slice_get w'.stations i ≡ Some s → s.live ≡ true → StationIsClean k s
      held i s at live = elim (call.stations i s at) [
        | inl (same, is) ↦ subst (StationIsClean k) (sym is) held'
        | inr (other, stood) ↦ clean.held i s stood live
      ]

      -- what entered a lane came from the system's port
      sent_by : (l l' : Lane) (port : ℕ) → l'.from ≡ l.from → l.from ≡ port_of call.s.clock port
          → port_of call.s'.clock port ≡ l'.from
      sent_by l l' port same from = (λ i. port_of (call.reacts.clock i) port) ∙ sym (same ∙ from)

      tellers : TellersLive says k w'
      tellers j l' f a at flies said known late =
          let (l, stood, step) = call.lanes j l' at in
          elim (In-parts f l.frames step.news (subst (In f) step.behind flies)) [
            | inl old ↦
                subst (λ (q : PortIdentity). In q.clock (clocks k.graph)) (sym step.from)
                (clean.tellers j l f a stood old said
                (subst (λ (q : PortIdentity). In q.clock (clocks k.graph)) step.to known) late)
            | inr new ↦
                let (x, x_in, from, octets) = step.sent f new in
                subst (λ (q : PortIdentity). In q.clock (clocks k.graph)) (sent_by l l' x.port step.from from)
                (known_as w.time call.s' is')
          ]

      sent_late : (c due : ℕ) → (due ≤ w'.time + k.most) ⊎ (due < k.start) → Late k c due
          → k.start + c * turn k ≤ w.time
      sent_late c due (inl soon) late = let time = call.time in omega (arith, soon, late, time)
      sent_late c due (inr early) late = absurd (omega (arith, early, late))

      -- what it says after so many turns is as clean
      said_so : (c port : ℕ) (a : Announce) (from : PortIdentity) → IsOwn call.s' port a
          → port_of call.s'.clock port ≡ from → k.start + c * turn k ≤ w.time → Good k.graph (suc c) from a
      said_so c port a from own same late =
          subst (λ q. Good k.graph (suc c) q a) same (may_say k w.time call.s' is' held' c port a own late)

      flight : (j : ℕ) (l' : Lane) (f : AnnounceFrame) (a : Announce) (c : ℕ) → slice_get w'.lanes j ≡ Some l'
          → In f l'.frames → says f.octets a → Joins k.graph l'.from l'.to → Late k c f.due
          → Good k.graph (suc c) l'.from a
      flight j l' f a c at flies said joins late =
          let (l, stood, step) = call.lanes j l' at in
          elim (In-parts f l.frames step.news (subst (In f) step.behind flies)) [
            | inl old ↦
                subst (λ q. Good k.graph (suc c) q a) (sym step.from)
                (clean.flight j l f a c stood old said
                (subst (λ q. Joins k.graph q l.to) step.from (subst (Joins k.graph l'.from) step.to joins)) late)
            | inr new ↦
                let (x, x_in, from, octets) = step.sent f new in
                said_so c x.port a l'.from (call.reacts.tells x a x_in (subst (λ o. says o a) octets said)).0
                (sent_by l l' x.port step.from from) (sent_late c f.due (facts'.fresh j l' f at flies joins) late)
          ]

      anywhere : (j : ℕ) (l' : Lane) (f : AnnounceFrame) (a : Announce) (c : ℕ) → slice_get w'.lanes j ≡ Some l'
          → In f l'.frames → says f.octets a → k.start + c * turn k + k.interval ≤ f.due
          → In l'.from.clock (clocks k.graph) × Good k.graph (suc c) l'.from a
      anywhere j l' f a c at flies said late =
          let (l, stood, step) = call.lanes j l' at in
          elim (In-parts f l.frames step.news (subst (In f) step.behind flies)) [
            | inl old ↦
                subst (λ q. In q.clock (clocks k.graph) × Good k.graph (suc c) q a) (sym step.from)
                (clean.anywhere j l f a c stood old said late)
            | inr new ↦
                let (x, x_in, from, octets) = step.sent f new in
                let near = facts'.near j l' f at flies in
                let time = call.time in
                let same = sent_by l l' x.port step.from from in (
                  subst (λ (q : PortIdentity). In q.clock (clocks k.graph)) same (known_as w.time call.s' is'),
                  said_so c x.port a l'.from (call.reacts.tells x a x_in (subst (λ o. says o a) octets said)).0 same
                      (omega (arith, near, late, time)),
                )
          ]

  -- a frame is taken off its lane
  popped : (j : ℕ) (l : Lane) (f : AnnounceFrame) (fs : List AnnounceFrame) (w w' : MachineState)
      → Pops j l f fs w w' → ToldIsClean says k w → ToldIsClean says k w'
  popped j l f fs w w' pops clean = record {
    tellers = λ m l' x a at flies said known late. elim (pops.lanes m l' at) [
      | inl (same, is) ↦
          subst (λ (y : Lane). In y.from.clock (clocks k.graph)) (sym is)
          (clean.tellers j l x a pops.here (before x l' is flies) said
          (subst (λ (y : Lane). In y.to.clock (clocks k.graph)) is known) late)
      | inr (other, stood) ↦ clean.tellers m l' x a stood flies said known late
    ];
    flight = λ m l' x a c at flies said joins late. elim (pops.lanes m l' at) [
      | inl (same, is) ↦
          subst (λ (y : Lane). Good k.graph (suc c) y.from a) (sym is)
          (clean.flight j l x a c pops.here (before x l' is flies) said
          (subst (λ (y : Lane). Joins k.graph y.from y.to) is joins) late)
      | inr (other, stood) ↦ clean.flight m l' x a c stood flies said joins late
    ];
    anywhere = λ m l' x a c at flies said late. elim (pops.lanes m l' at) [
      | inl (same, is) ↦
          subst (λ (y : Lane). In y.from.clock (clocks k.graph) × Good k.graph (suc c) y.from a) (sym is)
          (clean.anywhere j l x a c pops.here (before x l' is flies) said late)
      | inr (other, stood) ↦ clean.anywhere m l' x a c stood flies said late
    ];
    held = λ i s at. clean.held i s (pops.stations i s at);
  }
    where
      before : (x : AnnounceFrame) (l' : Lane) → l' ≡ record l { frames = fs } → In x l'.frames → In x l.frames
      before x l' is flies =
          subst (In x) (sym pops.frames) (inr (subst (λ (y : Lane). In x y.frames) is flies))

  -- what arrives is as clean as its lane
  arrived : BeginsLater k → (w w' : MachineState) (act : Arrives says w w') → StationFacts k w → ToldIsClean says k w
      → TellsClean act.mid.time act.call.s act.touch
  unfolding TellsClean
  arrived begun w w' act facts clean n a c touched late =
      let (to, said) = act.heard n a touched in
      let flies : In act.f act.l.frames = subst (In act.f) (sym act.pops.frames) (inl refl) in
      let due : act.mid.time ≡ act.f.due = act.pops.time ∙ sym act.pops.due in
      let late_due : Late k c act.f.due = subst (Late k c) due late in
      let known : In act.l.to.clock (clocks k.graph) =
      subst (λ v. In v (clocks k.graph)) act.owner
      (known_as w.time act.call.s (facts.stations act.call.place act.call.s
      (act.pops.stations act.call.place act.call.s act.call.here) act.call.live)) in
      let from_known = clean.tellers act.j act.l act.f a act.pops.here flies said known
      (omega (arith, begun, late_due)) in
      let joins = facts.linked act.j act.l act.f act.pops.here flies from_known known in (
        act.l.from,
        subst (Joins k.graph act.l.from) (λ i. port_of (sym act.owner i) (sym to i)) joins,
        clean.flight act.j act.l act.f a c act.pops.here flies said joins late_due,
      )

  tells_none : (now : ℕ) (s : Station) (touch : StationTouch) → ((n : ℕ) (a : Announce) → touch ≡ Hear n a → ⊥)
      → TellsClean now s touch
  unfolding TellsClean
  tells_none now s touch deaf n a c touched late = absurd (deaf n a touched)

  -- every step keeps that
  pub told_kept : BeginsLater k → (w w' : MachineState) → StationFacts k w → StationFacts k w' → MachineSteps says w w'
      → ToldIsClean says k w → ToldIsClean says k w'
  told_kept begun w w' facts facts' (inl wait) clean =
      subst (ToldIsClean says k) (sym wait.is)
      (record { tellers = clean.tellers; flight = clean.flight; anywhere = clean.anywhere; held = clean.held })
  told_kept begun w w' facts facts' (inr (inl act)) clean =
      called act.touch act.mid w' act.call facts' (popped act.j act.l act.f act.fs w act.mid act.pops clean)
      (arrived begun w w' act facts clean)
  told_kept begun w w' facts facts' (inr (inr (inl act))) clean = popped act.j act.l act.f act.fs w w' act.pops clean
  told_kept begun w w' facts facts' (inr (inr (inr act))) clean =
      called act.touch w w' act.call facts' clean (tells_none w.time act.call.s act.touch act.deaf)

  -- before the start nothing is claimed but who tells
  pub told_begins : (w : MachineState) → StationFacts k w → TellersLive says k w → w.time < k.start
      → ToldIsClean says k w
  told_begins w facts tellers early = record {
    tellers = tellers;
    flight = λ j l f a c at flies said joins late. absurd (by f.due c (facts.fresh j l f at flies joins) late);
    anywhere = λ j l f a c at flies said late.
        let near = facts.near j l f at flies in absurd (omega (arith, near, late, early));
    held = λ i s at alive place r c holds late.
        let came = ((facts.stations i s at alive).held place r holds).came in
        absurd (omega (arith, came, late, early));
  }
    where
      by : (due c : ℕ) → (due ≤ w.time + k.most) ⊎ (due < k.start) → Late k c due → ⊥
      by due c (inl soon) late = omega (arith, soon, late, early)
      by due c (inr before) late = omega (arith, before, late)

  -- as many turns after the start as a path may have systems, all that is held is wholly clean
  pub told_whole : (m : ℕ) (w : MachineState) → BoundsPaths k.graph m → StationFacts k w → ToldIsClean says k w
      → k.start + m * turn k ≤ w.time → HeldIsWhole k w
  told_whole m w bounded facts clean late =
      held_whole says k m (record w { lanes = [] }) bounded
      (record {
        stations = facts.stations;
        near = λ j l f at. absurd (none j l at);
        fresh = λ j l f at. absurd (none j l at);
        linked = λ j l f at. absurd (none j l at);
      })
      (record { lanes = λ j l at. absurd (none j l at); stations = clean.held }) late
    where
      none : (j : ℕ) (l : Lane) → slice_get [] j ≡ Some l → ⊥
      none j l at = none-some l at
