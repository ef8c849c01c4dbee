-- Traces become clean: each step keeps how clean they are by when they were sent, and in the end all that is held is
-- wholly clean.
use Rattle.std.proofs.Common.{◌≡◌, ◌⊎◌, ◌≤◌, ◌<◌, ◌+◌, ◌*◌, ◌++◌, ℕ, zero, suc, true, List, [], ◌∷◌, Some, slice_get, reverse, refl, sym, ap, subst, ◌∙◌, inl, inr, arith}
use Rattle.gptp_lists.specs.Members.{In}
use Rattle.gptp_graph.specs.Snapshot.{PortIdentity, clocks, port_of, Joins, Adjacent}
use Rattle.gptp_graph.specs.PathBound.{BoundsPaths}
use Rattle.gptp_graph.proofs.LinkLemmas.{Joins-sym}
use Rattle.gptp_graph.proofs.PathLemmas.{IsPath-self}
use Rattle.gptp_graph.proofs.SystemLemmas.{In-clocks}
use Rattle.gptp_lists.proofs.SystemSpecLemmas.{In-parts}
use Rattle.gptp_bmca_machine.specs.Frame.{Announce, Spelling, AnnounceFrame, Lane, Send}
use Rattle.gptp_bmca_machine.specs.Station.{Station, MachineState}
use Rattle.gptp_bmca_machine.specs.Touch.{StationTouch, Hear}
use Rattle.gptp_bmca_machine.specs.Reacts.{IsOwn, StationReacts}
use Rattle.gptp_bmca_machine.specs.Acts.{LaneStep, StationAnswers, Pops, Arrives, StationActs, MomentComes, MachineSteps}
use Rattle.gptp_bmca_machine.specs.Clean.{Clean, Whole, Good, Came, CameWhole}
use Rattle.gptp_bmca_machine.specs.Facts.{NetworkSetting, turn, Late, BeginsLater, SendersLive, station_system, FollowsPort, HeldIsInTime, IsLiveStationState, StationFacts}
use Rattle.gptp_bmca_machine.specs.CleanInvariant.{LaneIsClean, StationIsClean, TracesAreClean}
use Rattle.gptp_bmca_machine.specs.CleanLaws.{HeldIsWhole}
use Rattle.gptp_lists.proofs.ReverseLemmas.{reverse-end}
use Rattle.gptp_bmca_machine.proofs.TraceLemmas.{clean_first, clean_on, whole_own, whole_on, not_all_clean}
use Rattle.gptp_bmca_machine.proofs.ReactsLemmas.{JustHeard, held_from}

-- both ends of a link are joined, seen from either
joined_back : (k : NetworkSetting) (from : PortIdentity) (c n : ℕ) → Joins k.graph from (port_of c n)
    → Adjacent k.graph c from.clock
joined_back k from c n joins = (n, from.port, Joins-sym k.graph from (port_of c n) joins)

-- a live system's clock is one of the snapshot
known_clock : (k : NetworkSetting) (now : ℕ) (s : Station) → IsLiveStationState k now s → In s.clock (clocks k.graph)
known_clock k now s is = In-clocks k.graph (station_system s) is.known

module _ (k : NetworkSetting) (now : ℕ) (s : Station) (is : IsLiveStationState k now s)
    (clean : StationIsClean k s) where
  -- what follows a port goes on what the port received, which was sent a turn earlier at most
  follows_clean : (c : ℕ) (p : FollowsPort s) (n : ℕ) (a : Announce) → IsOwn s n a → k.start + c * turn k ≤ now
      → Clean k.graph (suc c) s.clock a.path ⊎ Whole k.graph s.clock a
  follows_clean zero p n a own late =
      inl (clean_first k.graph s.clock a.path (reverse p.r.said.path) (known_clock k now s is)
      (ap (λ (xs : List ℕ). reverse xs) (own.path ∙ p.trace) ∙ reverse-end s.clock p.r.said.path _ refl))
  follows_clean (suc c) p n a own late =
      on (clean p.place p.r c p.holds (sent_before in_time))
    where
      in_time : HeldIsInTime k now s.clock p.r
      in_time = is.held p.place p.r p.holds

      sent_before : HeldIsInTime k now s.clock p.r → Late k c p.r.at
      sent_before t =
          let stays : now ≤ p.r.at + p.r.span = t.stays in
          let short : p.r.span ≤ k.span = t.short in
          omega arith

      on : Came k.graph (suc c) s.clock (suc p.place) p.r
          → Clean k.graph (suc (suc c)) s.clock a.path ⊎ Whole k.graph s.clock a
      on came =
          let joined = joined_back k came.from s.clock (suc p.place) came.joins in
          let here = known_clock k now s is in
          let path : a.path ≡ p.r.said.path ++ s.clock ∷ [] = own.path ∙ p.trace in
          elim came.good.clean [
            | inl c' ↦ inl (subst (Clean k.graph (suc (suc c)) s.clock) (sym path)
                (clean_on k.graph (suc c) s.clock came.from.clock p.r.said.path c' here joined in_time.no_loop))
            | inr whole ↦ inr (whole_on k.graph s.clock came.from.clock p.r.said a whole here joined in_time.no_loop
                (own.root ∙ p.root) (own.steps ∙ p.steps) path)
          ]

  -- what a live system may say c turns after the start is clean by c + 1 members, or wholly
  pub may_say : (c n : ℕ) (a : Announce) → IsOwn s n a → k.start + c * turn k ≤ now
      → Good k.graph (suc c) (port_of s.clock n) a
  may_say c n a own late = record {
    source = own.source;
    clean = elim is.follows [
      | inl itself ↦ inr (whole_own k.graph (station_system s) a is.known (own.root ∙ itself.root)
          (own.steps ∙ itself.steps) (own.path ∙ itself.trace))
      | inr port ↦ follows_clean c port n a own late
    ];
  }

-- what a system is about to hear at its port n came over that port's link, and is clean by when it is due
HeardIsClean : NetworkSetting → Station → ℕ → StationTouch → Type 0
HeardIsClean k s now touch = (n : ℕ) (a : Announce) (c : ℕ) → touch ≡ Hear n a → Late k c now
    → (from : PortIdentity) × Joins k.graph from (port_of s.clock n) × Good k.graph (suc c) from a

module _ (says : Spelling) (k : NetworkSetting) (s s' : Station) (touch : StationTouch) (now : ℕ) (sends : List Send)
    (reacts : StationReacts says s touch now s' sends) where
  -- what a system has received after an answer is as clean as it was, or as what it heard
  reacted : StationIsClean k s → HeardIsClean k s now touch → StationIsClean k s'
  unfolding HeardIsClean
  reacted clean heard i r c holds late =
      subst (λ v. Came k.graph (suc c) v (suc i) r) (sym reacts.clock)
      (elim (held_from says s s' touch now sends reacts i r holds) [
        | inl before ↦ clean i r c before late
        | inr just ↦ came just (heard (suc i) just.said c just.touched (subst (λ t. Late k c t) just.at late))
      ])
    where
      came : (just : JustHeard s.clock (suc i) now touch r)
          → ((from : PortIdentity) × Joins k.graph from (port_of s.clock (suc i)) × Good k.graph (suc c) from just.said)
          → Came k.graph (suc c) s.clock (suc i) r
      came just (from, joins, good) = record {
        from = from;
        joins = joins;
        good = subst (Good k.graph (suc c) from) (sym just.is_said) good;
      }

  -- what enters a lane is as clean as what its sender may say
  lane_sent : (l l' : Lane) → LaneIsClean says k l → LaneStep s.clock sends l l' → IsLiveStationState k now s'
      → StationIsClean k s'
      → ((f : AnnounceFrame) → In f l'.frames → Joins k.graph l'.from l'.to
      → (f.due ≤ now + k.most) ⊎ (f.due < k.start))
      → ((f : AnnounceFrame) → In f l'.frames → f.due ≤ now + k.interval) → LaneIsClean says k l'
  lane_sent l l' clean step is' clean' fresh near = record { sender = sender; clean = good; anywhere = good_anywhere }
    where
      -- what entered came from the system's port
      at_port : (x : Send) → l.from ≡ port_of s.clock x.port → port_of s'.clock x.port ≡ l'.from
      at_port x from = (λ i. port_of (reacts.clock i) x.port) ∙ sym (step.from ∙ from)

      sender : (f : AnnounceFrame) → In f l'.frames → k.gone ≤ f.due → In l'.from.clock (clocks k.graph)
      sender f at late = elim (In-parts f l.frames step.news (subst (In f) step.behind at)) [
        | inl old ↦ subst (λ (p : PortIdentity). In p.clock (clocks k.graph)) (sym step.from) (clean.sender f old late)
        | inr new ↦
            let (x, x_in, from, octets) = step.sent f new in
            subst (λ (p : PortIdentity). In p.clock (clocks k.graph)) (at_port x from) (known_clock k now s' is')
      ]

      -- an Announce that entered after c turns
      sent_good : (f : AnnounceFrame) (a : Announce) (c : ℕ) → In f step.news → says f.octets a
          → k.start + c * turn k ≤ now
          → Good k.graph (suc c) l'.from a
      sent_good f a c new said late =
          let (x, x_in, from, octets) = step.sent f new in
          let own : IsOwn s' x.port a = (reacts.tells x a x_in (subst (λ (o : List ℕ). says o a) octets said)).0 in
          subst (λ p. Good k.graph (suc c) p a) (at_port x from) (may_say k now s' is' clean' c x.port a own late)

      good : (f : AnnounceFrame) (a : Announce) (c : ℕ) → In f l'.frames → says f.octets a → Joins k.graph l'.from l'.to
          → Late k c f.due → Good k.graph (suc c) l'.from a
      good f a c at said joins late = elim (In-parts f l.frames step.news (subst (In f) step.behind at)) [
        | inl old ↦ subst (λ p. Good k.graph (suc c) p a) (sym step.from)
            (clean.clean f a c old said
            (subst (λ p. Joins k.graph p l.to) step.from (subst (Joins k.graph l'.from) step.to joins)) late)
        | inr new ↦ sent_good f a c new said (sent_late (fresh f at joins))
      ]
        where
          sent_late : (f.due ≤ now + k.most) ⊎ (f.due < k.start) → k.start + c * turn k ≤ now
          sent_late (inl soon) = omega arith
          sent_late (inr early) = absurd (omega arith)

      good_anywhere : (f : AnnounceFrame) (a : Announce) (c : ℕ) → In f l'.frames → says f.octets a
          → k.start + c * turn k + k.interval ≤ f.due → Good k.graph (suc c) l'.from a
      good_anywhere f a c at said late = elim (In-parts f l.frames step.news (subst (In f) step.behind at)) [
        | inl old ↦ subst (λ p. Good k.graph (suc c) p a) (sym step.from) (clean.anywhere f a c old said late)
        | inr new ↦ sent_good f a c new said (let soon = near f at in omega (arith, late, soon))
      ]

module _ (says : Spelling) (k : NetworkSetting) where
  -- one system answers
  called : (touch : StationTouch) (w w' : MachineState) (call : StationAnswers says touch w w') → StationFacts k w'
      → TracesAreClean says k w
      → HeardIsClean k call.s w.time touch → TracesAreClean says k w'
  called touch w w' call facts' clean heard = record { lanes = lanes; stations = stations }
    where
      live' : call.s'.live ≡ true
      live' = call.reacts.live ∙ call.live

      is' : IsLiveStationState k w.time call.s'
      is' = subst (λ t. IsLiveStationState k t call.s') call.time (facts'.stations call.place call.s' call.there live')

      clean' : StationIsClean k call.s'
      clean' =
          reacted says k call.s call.s' touch w.time call.sends call.reacts
          (clean.stations call.place call.s call.here call.live) heard

      stations : (j : ℕ) (m : Station) → slice_get w'.stations j ≡ Some m → m.live ≡ true → StationIsClean k m
      stations j m at live = elim (call.stations j m at) [
        | inl (same, is) ↦ subst (StationIsClean k) (sym is) clean'
        | inr (other, stood) ↦ clean.stations j m stood live
      ]

      lanes : (j : ℕ) (l' : Lane) → slice_get w'.lanes j ≡ Some l' → LaneIsClean says k l'
      lanes j l' at =
          let (l, stood, step) = call.lanes j l' at in
          lane_sent says k call.s call.s' touch w.time call.sends call.reacts l l' (clean.lanes j l stood) step
          is' clean' (λ f h joins. subst (λ t. (f.due ≤ t + k.most) ⊎ (f.due < k.start)) call.time
          (facts'.fresh j l' f at h joins))
          (λ f h. subst (λ t. f.due ≤ t + k.interval) call.time (facts'.near j l' f at h))

  -- a frame is taken off its lane
  popped : (j : ℕ) (l : Lane) (f : AnnounceFrame) (fs : List AnnounceFrame) (w w' : MachineState) → Pops j l f fs w w'
      → TracesAreClean says k w → TracesAreClean says k w'
  popped j l f fs w w' pops clean = record {
    lanes = λ n m at. elim (pops.lanes n m at) [
      | inl (same, is) ↦ subst (LaneIsClean says k) (sym is) rest
      | inr (other, stood) ↦ clean.lanes n m stood
    ];
    stations = λ i m at. clean.stations i m (pops.stations i m at);
  }
    where
      rest : LaneIsClean says k (record l { frames = fs })
      rest = record {
        sender = λ g at. (clean.lanes j l pops.here).sender g (subst (In g) (sym pops.frames) (inr at));
        clean = λ g a c at. (clean.lanes j l pops.here).clean g a c (subst (In g) (sym pops.frames) (inr at));
        anywhere = λ g a c at. (clean.lanes j l pops.here).anywhere g a c (subst (In g) (sym pops.frames) (inr at));
      }

  -- what arrives is as clean as its lane
  arrived : BeginsLater k → (w w' : MachineState) (act : Arrives says w w') → StationFacts k w → TracesAreClean says k w
      → HeardIsClean k act.call.s act.mid.time act.touch
  unfolding HeardIsClean
  arrived begun w w' act facts clean n a c touched late =
      let (to, said) = act.heard n a touched in
      let frame : In act.f act.l.frames = subst (In act.f) (sym act.pops.frames) (inl refl) in
      let due : act.mid.time ≡ act.f.due = act.pops.time ∙ sym act.pops.due in
      let lane = clean.lanes act.j act.l act.pops.here in
      let late_due : Late k c act.f.due = subst (Late k c) due late in
      let from_known = lane.sender act.f frame (omega arith) in
      let is : IsLiveStationState k w.time act.call.s =
      facts.stations act.call.place act.call.s
      (act.pops.stations act.call.place act.call.s act.call.here) act.call.live in
      let to_known : In act.l.to.clock (clocks k.graph) =
      subst (λ v. In v (clocks k.graph)) act.owner (known_clock k w.time act.call.s is) in
      let joins : Joins k.graph act.l.from act.l.to =
      facts.linked act.j act.l act.f act.pops.here frame from_known to_known in (
        act.l.from,
        subst (Joins k.graph act.l.from) (λ i. port_of (sym act.owner i) (sym to i)) joins,
        lane.clean act.f a c frame said joins late_due,
      )

  -- nothing is heard
  heard_none : (s : Station) (now : ℕ) (touch : StationTouch) → ((n : ℕ) (a : Announce) → touch ≡ Hear n a → ⊥)
      → HeardIsClean k s now touch
  unfolding HeardIsClean
  heard_none s now touch deaf n a c touched late = absurd (deaf n a touched)

  -- what happens keeps how clean traces are
  acts : BeginsLater k → (w w' : MachineState) → StationFacts k w → StationFacts k w' → StationActs says w w'
      → TracesAreClean says k w
      → TracesAreClean says k w'
  acts begun w w' facts facts' (inl act) clean =
      called act.touch act.mid w' act.call facts'
      (popped act.j act.l act.f act.fs w act.mid act.pops clean) (arrived begun w w' act facts clean)
  acts begun w w' facts facts' (inr (inl act)) clean = popped act.j act.l act.f act.fs w w' act.pops clean
  acts begun w w' facts facts' (inr (inr act)) clean =
      called act.touch w w' act.call facts' clean (heard_none act.call.s w.time act.touch act.deaf)

  -- so does the passing of time
  waits : (w w' : MachineState) → MomentComes w w' → TracesAreClean says k w → TracesAreClean says k w'
  waits w w' wait clean = subst (TracesAreClean says k) (sym wait.is)
      (let later : TracesAreClean says k (record w { time = wait.time }) =
      record { lanes = clean.lanes; stations = clean.stations } in later)

  -- every step keeps how clean traces are
  pub clean_kept : BeginsLater k → (w w' : MachineState) → StationFacts k w → StationFacts k w' → MachineSteps says w w'
      → TracesAreClean says k w
      → TracesAreClean says k w'
  clean_kept begun w w' facts facts' (inl wait) clean = waits w w' wait clean
  clean_kept begun w w' facts facts' (inr act) clean = acts begun w w' facts facts' act clean

  -- before the start nothing is claimed of traces
  pub clean_begins : (w : MachineState) → StationFacts k w → SendersLive k w → w.time < k.start
      → TracesAreClean says k w
  clean_begins w facts live early = record {
    lanes = λ j l at. record {
      sender = λ f h late. live j l f at h late;
      clean = λ f a c h said joins late. absurd (by f c (facts.fresh j l f at h joins) late);
      anywhere = λ f a c h said late. let soon = facts.near j l f at h in absurd (omega (arith, early, late, soon));
    };
    stations = λ i s at alive place r c holds late.
        let came : r.at ≤ w.time = ((facts.stations i s at alive).held place r holds).came in
        absurd (omega arith);
  }
    where
      by : (f : AnnounceFrame) (c : ℕ) → (f.due ≤ w.time + k.most) ⊎ (f.due < k.start) → Late k c f.due → ⊥
      by f c (inl soon) late = omega arith
      by f c (inr before) late = omega arith

  -- as many turns after the start as a path may have systems, all that is held is wholly clean
  pub held_whole : (m : ℕ) (w : MachineState) → BoundsPaths k.graph m → StationFacts k w → TracesAreClean says k w
      → k.start + m * turn k ≤ w.time → HeldIsWhole k w
  held_whole m w bounded facts clean late i s place r at live holds =
      go m bounded late
    where
      is : IsLiveStationState k w.time s
      is = facts.stations i s at live

      in_time : HeldIsInTime k w.time s.clock r
      in_time = is.held place r holds

      here : In s.clock (clocks k.graph)
      here = known_clock k w.time s is

      go : (count : ℕ) → BoundsPaths k.graph count → k.start + count * turn k ≤ w.time
          → CameWhole k.graph s.clock (suc place) r
      go zero bounded late' =
          let alone : 0 < 0 = bounded s.clock s.clock [] (IsPath-self k.graph s.clock here) in
          absurd (omega arith)
      go (suc m) bounded late' = whole (clean.stations i s at live place r m holds (since in_time))
        where
          since : HeldIsInTime k w.time s.clock r → Late k m r.at
          since t =
              let stays : w.time ≤ r.at + r.span = t.stays in
              let short : r.span ≤ k.span = t.short in
              omega arith

          whole : Came k.graph (suc m) s.clock (suc place) r → CameWhole k.graph s.clock (suc place) r
          whole came = record {
            from = came.from;
            joins = came.joins;
            source = came.good.source;
            whole = elim came.good.clean [
              | inl c ↦ absurd (not_all_clean k.graph (suc m) s.clock came.from.clock r.said.path bounded c here
                  (joined_back k came.from s.clock (suc place) came.joins) in_time.no_loop)
              | inr h ↦ h
            ];
          }
