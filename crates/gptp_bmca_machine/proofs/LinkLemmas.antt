-- One link: every step keeps it at one of its stages, and in time it is settled.
use Rattle.std.proofs.Common.{◌≡◌, ◌≢◌, ◌⊎◌, ◌<◌, ◌≤◌, ◌+◌, ℕ, suc, ◌∷◌, Some, slice_get, refl, sym, ap, subst, ◌∙◌, inl, inr, arith}
use native.Mathlib.Decide.{ℕ_discrete, dec_le}
use Rattle.gptp_graph.specs.Snapshot.{PortIdentity, port_of}
use Rattle.gptp_bmca_machine.specs.Frame.{Announce, Spelling, Lane}
use Rattle.gptp_bmca_machine.specs.Station.{Reception, Received, Port, Station, MachineState}
use Rattle.gptp_bmca_machine.specs.Touch.{StationTouch, Hear, Tick, Grow, Enable, Disable, Other}
use Rattle.gptp_bmca_machine.specs.Acts.{Arrives, Drops, Runs, StationActs, MachineSteps}
use Rattle.gptp_bmca_machine.specs.LinkStage.{Wiring, to_port, IsFinal, FrameSaysAnnounce, LinkStage}
use Rattle.gptp_bmca_machine.specs.Link.{TellerIsReady, Ends, LapsesLater, HearsOn, StaysOn, Stand, LinkSettles}
use Rattle.gptp_bmca_machine.proofs.LinkStageLemmas.{settled}
use Rattle.gptp_bmca_machine.proofs.PlaceLemmas.{same_there}
use Rattle.gptp_bmca_machine.proofs.PopLemmas.{ends_popped, stood_popped, other_lane, silent_frame}
use Rattle.gptp_bmca_machine.proofs.AnswerLemmas.{called, heard}

-- whether an input is an Announce that is heard
pub is_hear : (touch : StationTouch) → ((n : ℕ) × (a : Announce) × (touch ≡ Hear n a))
    ⊎ ((n : ℕ) (a : Announce) → touch ≡ Hear n a → ⊥)
is_hear (Hear n a) = inl (n, a, refl)
is_hear (Tick m) = inr (λ n a e. absurd cc)
is_hear (Grow m) = inr (λ n a e. absurd cc)
is_hear (Enable m) = inr (λ n a e. absurd cc)
is_hear (Disable m) = inr (λ n a e. absurd cc)
is_hear Other = inr (λ n a e. absurd cc)

module _ (says : Spelling) (k : Wiring) where
  -- something that is no delivery
  runs : (w w' : MachineState) → Ends k w → Ends k w' → LapsesLater k w → StaysOn k w w' → Runs says w w'
      → LinkSettles says k w
      → LinkSettles says k w'
  runs w w' ends ends' lapses lasts act link late =
      called says k act.touch w w' act.call ends ends' (subst (λ t. k.from ≤ t) act.call.time late) lasts link
      (λ a here touched. act.deaf (suc k.hearer_port) a touched) ages late
    where
      -- what the hearer holds doesn't lapse
      ages : (q : Port) (r : Reception) → k.hearer_place ≡ act.call.place → act.touch ≡ Grow (suc k.hearer_port)
          → slice_get act.call.s.ports k.hearer_port ≡ Some q → q.held ≡ Received r → r.at + r.span ≤ w.time
      ages q r here grown at holds = elim (act.ages k.hearer_port q r grown at holds) [
        | inl old ↦ old
        | inr now ↦
            let fresh : w.time < w.time =
            lapses act.call.s w.time (subst (λ n. slice_get w.stations n ≡ Some act.call.s) (sym here) act.call.here)
            (subst (λ t. k.from ≤ t) act.call.time late) now.slave now.due in
            absurd (omega arith)
      ]

  -- a frame that does nothing
  drops : (w w' : MachineState) → Ends k w → Drops says w w' → LinkSettles says k w → LinkSettles says k w'
  drops w w' ends act link = elim (ℕ_discrete k.lane act.j) [
    | no other ↦ other_lane says k act.j act.l act.f act.fs w w' act.pops other link
    | yes same ↦ silent_frame says k act.j act.l act.f act.fs w w' act.pops same (λ since pv pu stood (a, said).
        elim act.unheard [
          | inl silent ↦ silent a said
          | inr dead ↦ dead k.hearer_place stood.u stood.hearer
              ((ends.hearer_stands k.hearer_place stood.u stood.hearer).0 refl
              ∙ ap (λ (p : PortIdentity). p.clock) (sym (ends.lane act.l stood.lane).to))
              (ends.hearer_lives stood.u stood.hearer)
        ]) link
  ]

  module _ (w w' : MachineState) (ends : Ends k w) (ends' : Ends k w') (act : Arrives says w w')
      (hears_on : HearsOn says k w) (lasts : StaysOn k w w') (link : LinkSettles says k w) where
    -- what stays on does from when the frame is taken off
    lasts_mid : StaysOn k act.mid w'
    lasts_mid s s' q q' late at port =
        lasts s s' q q' (subst (λ t. k.from ≤ t) act.pops.time late) (act.pops.stations k.hearer_place s at) port

    ends_mid : Ends k act.mid
    ends_mid = ends_popped says k act.j act.l act.f act.fs w act.mid act.pops ends

    since_mid : k.from ≤ w'.time → k.from ≤ act.mid.time
    since_mid late = subst (λ t. k.from ≤ t) act.call.time late

    -- a frame of another lane is delivered, perhaps to one of the ends
    arrives_apart : k.lane ≢ act.j → LinkSettles says k w'
    arrives_apart other late =
        called says k act.touch act.mid w' act.call ends_mid ends' (since_mid late) lasts_mid
        (other_lane says k act.j act.l act.f act.fs w act.mid act.pops other link) deaf
        (λ q r here grown. absurd (act.young (suc k.hearer_port) grown)) late
      where
        deaf : (a : Announce) → k.hearer_place ≡ act.call.place → act.touch ≡ Hear (suc k.hearer_port) a → ⊥
        deaf a here touched = other (sym (ends.only_lane act.j act.l act.pops.here (λ i. port_of (clock i) (port i))))
          where
            clock : act.l.to.clock ≡ k.hearer
            clock = sym act.owner ∙ (ends_mid.hearer_stands act.call.place act.call.s act.call.here).0 (sym here)

            port : act.l.to.port ≡ suc k.hearer_port
            port = sym (act.heard (suc k.hearer_port) a touched).0

    -- a frame of this lane is delivered, to the hearer
    arrives_here : k.lane ≡ act.j → LinkSettles says k w'
    arrives_here same = elim (is_hear act.touch) [
      | inl (n, a, touched) ↦ hearing n a touched
      | inr deaf ↦ (λ late. called says k act.touch act.mid w' act.call ends_mid ends' (since_mid late) lasts_mid
          (silent_frame says k act.j act.l act.f act.fs w act.mid act.pops same (silent deaf) link)
          (λ a here touched. deaf (suc k.hearer_port) a touched)
          (λ q r here grown. absurd (act.young (suc k.hearer_port) grown)) late)
    ]
      where
        lane_at : slice_get w.lanes k.lane ≡ Some act.l
        lane_at = subst (λ n. slice_get w.lanes n ≡ Some act.l) (sym same) act.pops.here

        to : act.l.to ≡ to_port k
        to = (ends.lane act.l lane_at).to

        place : act.call.place ≡ k.hearer_place
        place = (ends_mid.hearer_stands act.call.place act.call.s act.call.here).1
            (act.owner ∙ ap (λ (p : PortIdentity). p.clock) to)

        silent : ((n : ℕ) (a : Announce) → act.touch ≡ Hear n a → ⊥) → k.from ≤ w.time → (pv pu : Port)
            → Stand k w pv pu act.l → FrameSaysAnnounce says act.f → ⊥
        silent deaf since pv pu stood (a, said) =
            let s_is : stood.u ≡ act.call.s =
            same_there w.stations k.hearer_place stood.u act.call.s stood.hearer
            (act.pops.stations k.hearer_place act.call.s
            (subst (λ n. slice_get act.mid.stations n ≡ Some act.call.s) place act.call.here)) in
            let (b, touched) =
            act.hears k.hearer_port pu a (ap (λ (p : PortIdentity). p.port) to)
            (subst (λ (s : Station). slice_get s.ports k.hearer_port ≡ Some pu) s_is stood.hearer_port)
            (hears_on act.l act.f act.fs a stood.u pu since lane_at act.pops.frames act.pops.due said stood.hearer
            stood.hearer_port) said in
            deaf act.l.to.port b touched

        hearing : (n : ℕ) (a : Announce) → act.touch ≡ Hear n a → LinkSettles says k w'
        hearing n a touched late =
            heard says k act.touch act.mid w' act.call ends_mid ends' (since_mid late) lasts_mid act.f a
            (touched ∙ (λ i. Hear (number i) a)) (act.heard n a touched).1 (sym place) stage late
          where
            number : n ≡ suc k.hearer_port
            number = (act.heard n a touched).0 ∙ ap (λ (p : PortIdentity). p.port) to

            stage : (pv pu : Port) (l : Lane) (stand : Stand k act.mid pv pu l) → TellerIsReady k stand.v pv
                → LinkStage says k pv.announce pu.held (act.f ∷ l.frames)
            stage pv pu l stand has = elim (act.pops.lanes k.lane l stand.lane) [
              | inl (here, is) ↦ subst (λ (x : Lane). LinkStage says k pv.announce pu.held (act.f ∷ x.frames)) (sym is)
                  (subst (LinkStage says k pv.announce pu.held) act.pops.frames
                  (link (subst (λ t. k.from ≤ t) act.pops.time (since_mid late)) pv pu act.l
                  (stood_popped says k act.j act.l act.f act.fs w act.mid act.pops act.l lane_at pv pu l stand) has))
              | inr (apart, stood) ↦ absurd (apart same)
            ]

    arrives : LinkSettles says k w'
    arrives = elim (ℕ_discrete k.lane act.j) [
      | no other ↦ arrives_apart other
      | yes same ↦ arrives_here same
    ]

  -- whatever happens keeps the link at a stage
  acts : (w w' : MachineState) → Ends k w → Ends k w' → LapsesLater k w → HearsOn says k w → StaysOn k w w'
      → StationActs says w w'
      → LinkSettles says k w → LinkSettles says k w'
  acts w w' ends ends' lapses on lasts (inl act) link = arrives w w' ends ends' act on lasts link
  acts w w' ends ends' lapses on lasts (inr (inl act)) link = drops w w' ends act link
  acts w w' ends ends' lapses on lasts (inr (inr act)) link = runs w w' ends ends' lapses lasts act link

  -- a moment comes: where claims are made from then on, the teller's timer is due within an interval of an earlier time
  later : (w : MachineState) (t : ℕ) → Ends k w → Ends k (record w { time = t }) → LinkSettles says k w
      → LinkSettles says k (record w { time = t })
  later w t ends ends' link late pv pu l stand has = elim (dec_le k.from w.time) [
    | yes since ↦ link since pv pu l stood has
    | no before ↦ elim ends.entry [
      | inl zero ↦ absurd (omega arith)
      | inr entry ↦ inl (let soon : pv.announce ≤ w.time + k.interval =
          ((ends.teller stand.v pv stand.teller stand.teller_port).timer k.root k.steps
          ((ends'.teller stand.v pv stand.teller stand.teller_port).settled late has).mine).1 in
          omega arith)
    ]
  ]
    where
      stood : Stand k w pv pu l
      stood = record {
        v = stand.v;
        u = stand.u;
        teller = stand.teller;
        teller_port = stand.teller_port;
        hearer = stand.hearer;
        hearer_port = stand.hearer_port;
        lane = stand.lane;
      }

  -- every step keeps the link at a stage
  pub link_kept : (w w' : MachineState) → Ends k w → Ends k w' → LapsesLater k w → HearsOn says k w → StaysOn k w w'
      → MachineSteps says w w' → LinkSettles says k w → LinkSettles says k w'
  link_kept w w' ends ends' lapses on lasts (inl wait) link =
      subst (LinkSettles says k) (sym wait.is)
      (later w wait.time ends (subst (Ends k) wait.is ends') link)
  link_kept w w' ends ends' lapses on lasts (inr act) link = acts w w' ends ends' lapses on lasts act link

  -- in the end the hearer holds what a settled teller tells
  pub link_settled : (w : MachineState) (pv pu : Port) (l : Lane) → Ends k w → LinkSettles says k w
      → (stand : Stand k w pv pu l) → TellerIsReady k stand.v pv → k.before ≤ w.time
      → (r : Reception) × (pu.held ≡ Received r) × IsFinal k r.said
  link_settled w pv pu l ends link stand has late =
      let in_time : k.until + k.most ≤ k.before = ends.in_time in
      let claimed : k.from ≤ k.before = ends.claimed in
      let since : k.from ≤ w.time = omega arith in
      let teller = ends.teller stand.v pv stand.teller stand.teller_port in
      let stays =
      settled says k w.time pv.announce pu.held l.frames
      (teller.timer k.root k.steps (teller.settled since has).mine).0 (λ f h. (ends.frames l f stand.lane h).left)
      in_time late (link since pv pu l stand has) in
      (stays.what, stays.holds, stays.final)
