-- A step as one link sees it: what the port at its end holds, and what is on its way there.
use Rattle.std.proofs.Common.{◌≡◌, ◌≢◌, ◌⊎◌, ◌<◌, ◌≤◌, ◌+◌, ◌++◌, ℕ, suc, true, List, ◌∷◌, Some, slice_get, refl, sym, ap, subst, ◌∙◌, inl, inr, arith}
use native.Mathlib.Decide.{ℕ_discrete}
use Rattle.gptp_lists.specs.Members.{In}
use Rattle.gptp_graph.specs.Snapshot.{IsWellFormed, Joins, PortIdentity, System, clocks, port_of}
use Rattle.gptp_graph.proofs.LinkLemmas.{Joins-clock, Joins-sym}
use Rattle.gptp_graph.proofs.SystemLemmas.{system_of}
use Rattle.gptp_bmca_machine.specs.Acts.{Arrives, Drops, LaneStep, MachineSteps, Runs, StationAnswers}
use Rattle.gptp_bmca_machine.specs.Calm.{Calm}
use Rattle.gptp_bmca_machine.specs.Frame.{Announce, AnnounceFrame, Lane, Send, Spelling}
use Rattle.gptp_bmca_machine.specs.LinkStage.{FrameSaysAnnounce}
use Rattle.gptp_bmca_machine.specs.Network.{Network}
use Rattle.gptp_bmca_machine.specs.Reacts.{PortStep}
use Rattle.gptp_bmca_machine.specs.Station.{Disabled, Held, MachineState, Port, Received, Reception, Station}
use Rattle.gptp_bmca_machine.specs.Touch.{Grow, Hear, StationTouch}
use Rattle.gptp_bmca_machine.proofs.LinkLemmas.{is_hear}
use Rattle.gptp_bmca_machine.proofs.PlaceLemmas.{same_there}

-- where a live system stands
pub lives_at : (n : Network) (w : MachineState) → Calm n w → (v : ℕ) → In v (clocks n.graph) → (s : Station)
    → slice_get w.stations (n.place v) ≡ Some s → (s.live ≡ true) × (s.clock ≡ v)
lives_at n w calm v known s at =
    let (x, live, clock) = system_of n.graph v known in
    let has = calm.there x live in
    let same = same_there w.stations (n.place v) has.station s
    (subst (λ c. slice_get w.stations (n.place c) ≡ Some has.station) clock has.there) at in (
      subst (λ (z : Station). z.live ≡ true) same has.live,
      ap (λ (z : Station). z.clock) (sym same) ∙ ap (λ (z : System). z.clock) has.is ∙ clock,
    )

module _ (says : Spelling) (n : Network) (v p u q : ℕ) where
  -- so it is of what the port of u holds, and of what is on its way there from the port of v
  abbrev pub AtLink : (Held → List AnnounceFrame → Type 0) → MachineState → Type 0
  AtLink P w = (s : Station) (pu : Port) (l : Lane) → slice_get w.stations (n.place u) ≡ Some s
      → slice_get s.ports q ≡ Some pu → slice_get w.lanes (n.lane (port_of v (suc p))) ≡ Some l
      → P pu.held l.frames

  -- the port of u in a state
  pub record StandsAtEnd (w : MachineState) (pu : Port) : Type 0 where
    pub s : Station
    pub at : slice_get w.stations (n.place u) ≡ Some s
    pub there : slice_get s.ports q ≡ Some pu

  -- What makes of the one the other in a step: where nothing happens at the port; where new frames enter; where a frame
  -- says no Announce; where the system answers to anything but an Announce over the link; and where it hears one.
  pub record KeepsAtLink (w w' : MachineState) (P P' : Held → List AnnounceFrame → Type 0) (N : Announce → Type 0)
      : Type 0 where
    pub news : (touch : StationTouch) (mid : MachineState) (call : StationAnswers says touch mid w') (z : Send)
        (a : Announce) → In z call.sends → port_of v (suc p) ≡ port_of call.s.clock z.port → says z.octets a → N a
    pub stays : (held : Held) (fs : List AnnounceFrame) → P held fs → P' held fs
    pub enters : (held : Held) (fs news : List AnnounceFrame)
        → ((f : AnnounceFrame) (a : Announce) → In f news → says f.octets a → N a) → P' held fs
        → P' held (fs ++ news)
    pub misses : (held : Held) (f : AnnounceFrame) (fs : List AnnounceFrame) → (FrameSaysAnnounce says f → ⊥)
        → P held (f ∷ fs) → P held fs
    pub answers : (touch : StationTouch) (now root steps : ℕ) (pu pu' : Port) (sends : List Send)
        (fs : List AnnounceFrame) → StandsAtEnd w pu → StandsAtEnd w' pu' → now ≡ w.time
        → ((h : AnnounceFrame) → In h fs → w.time ≤ h.due)
        → PortStep says u (suc q) now touch root steps pu pu' sends
        → ((a : Announce) → touch ≡ Hear (suc q) a → ⊥)
        → ((r : Reception) → touch ≡ Grow (suc q) → pu.held ≡ Received r → r.at + r.span ≤ w.time)
        → P pu.held fs → P' pu'.held fs
    pub hears : (now root steps : ℕ) (pu pu' : Port) (sends : List Send) (l : Lane) (f : AnnounceFrame)
        (fs : List AnnounceFrame) (a : Announce) → StandsAtEnd w pu → StandsAtEnd w' pu' → now ≡ w.time
        → slice_get w.lanes (n.lane (port_of v (suc p))) ≡ Some l → l.frames ≡ f ∷ fs → says f.octets a
        → PortStep says u (suc q) now (Hear (suc q) a) root steps pu pu' sends
        → P pu.held (f ∷ fs) → P' pu'.held fs

  -- the lane stands there, between the two ports
  pub record LaneStands (w : MachineState) : Type 0 where
    pub lane : Lane
    pub there : slice_get w.lanes (n.lane (port_of v (suc p))) ≡ Some lane
    pub from : lane.from ≡ port_of v (suc p)
    pub to : lane.to ≡ port_of u (suc q)

  module _ (known : In u (clocks n.graph)) (w w' : MachineState) (calm : Calm n w) (calm' : Calm n w')
      (has : LaneStands w) (has' : LaneStands w') (is_on : (pu : Port) → StandsAtEnd w pu → pu.held ≢ Disabled)
      (lapses : (i due : ℕ) (s : Station) → slice_get w.stations i ≡ Some s → s.lapse ≡ Some due → w.time < due)
      (P P' : Held → List AnnounceFrame → Type 0) (N : Announce → Type 0) (keeps : KeepsAtLink w w' P P' N) where
    -- the lane is the one between the two ports
    lane_is : (l : Lane) → slice_get w.lanes (n.lane (port_of v (suc p))) ≡ Some l
        → (l.from ≡ port_of v (suc p)) × (l.to ≡ port_of u (suc q))
    lane_is l at =
        let same = same_there w.lanes (n.lane (port_of v (suc p))) has.lane l has.there at in
        (ap (λ (x : Lane). x.from) (sym same) ∙ has.from, ap (λ (x : Lane). x.to) (sym same) ∙ has.to)

    -- a system answers, after which only news enter the lane
    module _ (touch : StationTouch) (mid : MachineState) (call : StationAnswers says touch mid w')
        (stood : (i : ℕ) (s : Station) → slice_get mid.stations i ≡ Some s → slice_get w.stations i ≡ Some s)
        (time : mid.time ≡ w.time) (Q : Held → List AnnounceFrame → Type 0) (before : AtLink Q mid)
        (quiet : n.place u ≢ call.place → (held : Held) (fs : List AnnounceFrame) → Q held fs → P' held fs)
        (moved : n.place u ≡ call.place → (pu pu' : Port) (l : Lane) → StandsAtEnd w pu → StandsAtEnd w' pu'
        → slice_get mid.lanes (n.lane (port_of v (suc p))) ≡ Some l
        → slice_get call.s.ports q ≡ Some pu
        → PortStep says u (suc q) mid.time touch call.s'.root call.s'.steps pu pu' call.sends
        → Q pu.held l.frames → P' pu'.held l.frames) where
      called : AtLink P' w'
      called s' pu' l' at' there' lane' = by_lane (call.lanes (n.lane (port_of v (suc p))) l' lane')
        where
          by_lane : ((l : Lane) × (slice_get mid.lanes (n.lane (port_of v (suc p))) ≡ Some l)
              × LaneStep call.s.clock call.sends l l') → P' pu'.held l'.frames
          by_lane (l, at_l, step) =
              subst (P' pu'.held) (sym step.behind)
              (keeps.enters pu'.held l.frames step.news new (at_port (call.stations (n.place u) s' at')))
            where
              from_is : l.from ≡ port_of v (suc p)
              from_is =
                  let same = same_there w'.lanes (n.lane (port_of v (suc p))) has'.lane l' has'.there lane' in
                  sym step.from ∙ ap (λ (x : Lane). x.from) (sym same) ∙ has'.from

              new : (f : AnnounceFrame) (a : Announce) → In f step.news → says f.octets a → N a
              new f a among said =
                  let (z, sent, from, octets) = step.sent f among in
                  keeps.news touch mid call z a sent (sym from_is ∙ from) (subst (λ o. says o a) octets said)

              answered : n.place u ≡ call.place → s' ≡ call.s' → P' pu'.held l.frames
              answered same is = by (call.reacts.ports q pu'
                  (subst (λ (z : Station). slice_get z.ports q ≡ Some pu') is there'))
                where
                  at_w : slice_get w.stations (n.place u) ≡ Some call.s
                  at_w =
                      stood (n.place u) call.s
                      (subst (λ i. slice_get mid.stations i ≡ Some call.s) (sym same) call.here)

                  by : ((pu : Port) × (slice_get call.s.ports q ≡ Some pu)
                      × PortStep says call.s.clock (suc q) mid.time touch call.s'.root call.s'.steps pu pu' call.sends)
                      → P' pu'.held l.frames
                  by (pu, there, answer) =
                      moved same pu pu' l (record { s = call.s; at = at_w; there = there })
                      (record { s = s'; at = at'; there = there' }) at_l there
                      (subst
                      (λ c. PortStep says c (suc q) mid.time touch call.s'.root call.s'.steps pu pu' call.sends)
                      (lives_at n w calm u known call.s at_w).1 answer)
                      (before call.s pu l (subst (λ i. slice_get mid.stations i ≡ Some call.s) (sym same) call.here)
                      there at_l)

              at_port : ((n.place u ≡ call.place) × (s' ≡ call.s'))
                  ⊎ ((n.place u ≢ call.place) × (slice_get mid.stations (n.place u) ≡ Some s')) → P' pu'.held l.frames
              at_port (inl (same, is)) = answered same is
              at_port (inr (other, stood_mid)) =
                  quiet other pu'.held l.frames (before s' pu' l stood_mid there' at_l)

    -- something that is no delivery
    runs : Runs says w w' → AtLink P w → AtLink P' w'
    runs act is =
        called act.touch w act.call (λ i s at. at) refl P is (λ other. keeps.stays)
        (λ here pu pu' l end end' at_l there answer.
        keeps.answers act.touch w.time act.call.s'.root act.call.s'.steps pu pu' act.call.sends l.frames end end' refl
        (λ h among. calm.left (n.lane (port_of v (suc p))) l h at_l among) answer (λ a touched. act.deaf (suc q) a
        touched) (λ r grown holds. aged pu r there grown holds))
      where
        aged : (pu : Port) (r : Reception) → slice_get act.call.s.ports q ≡ Some pu → act.touch ≡ Grow (suc q)
            → pu.held ≡ Received r → r.at + r.span ≤ w.time
        aged pu r there grown holds = elim (act.ages q pu r grown there holds) [
          | inl old ↦ old
          | inr now ↦
              let later = lapses act.call.place w.time act.call.s act.call.here now.due in
              absurd (omega (arith, later))
        ]

    module _ (act : Arrives says w w') (is : AtLink P w) where
      in_w : slice_get w.stations act.call.place ≡ Some act.call.s
      in_w = act.pops.stations act.call.place act.call.s act.call.here

      -- it comes over another lane
      module _ (other : n.lane (port_of v (suc p)) ≢ act.j) where
        in_mid : AtLink P act.mid
        in_mid s pu l at there lane_at = elim (act.pops.lanes (n.lane (port_of v (suc p))) l lane_at) [
          | inl (same, one) ↦ absurd (other same)
          | inr (apart, stood) ↦ is s pu l (act.pops.stations (n.place u) s at) there stood
        ]

        deaf : n.place u ≡ act.call.place → (a : Announce) → act.touch ≡ Hear (suc q) a → ⊥
        deaf place a touched =
            other (calm.apart (n.lane (port_of v (suc p))) act.j has.lane act.l has.there act.pops.here
            (has.to ∙ (λ i. port_of (clock i) (number i))))
          where
            clock : u ≡ act.l.to.clock
            clock =
                sym (lives_at n w calm u known act.call.s
                (subst (λ i. slice_get w.stations i ≡ Some act.call.s) (sym place) in_w)).1 ∙ act.owner

            number : suc q ≡ act.l.to.port
            number = (act.heard (suc q) a touched).0

        comes_apart : AtLink P' w'
        comes_apart =
            called act.touch act.mid act.call act.pops.stations act.pops.time P in_mid (λ far. keeps.stays)
            (λ here pu pu' l end end' at_l there answer.
            keeps.answers act.touch act.mid.time act.call.s'.root act.call.s'.steps pu pu' act.call.sends l.frames end
            end' act.pops.time (λ h among. left_then l h at_l among) answer (deaf here)
            (λ r grown. absurd (act.young (suc q) grown)))
          where
            left_then : (l : Lane) (h : AnnounceFrame) → slice_get act.mid.lanes (n.lane (port_of v (suc p))) ≡ Some l
                → In h l.frames → w.time ≤ h.due
            left_then l h at_l among = elim (act.pops.lanes (n.lane (port_of v (suc p))) l at_l) [
              | inl (same, one) ↦ absurd (other same)
              | inr (apart, stood) ↦ calm.left (n.lane (port_of v (suc p))) l h stood among
            ]

      -- it comes over this one
      module _ (same : n.lane (port_of v (suc p)) ≡ act.j) where
        lane_at : slice_get w.lanes (n.lane (port_of v (suc p))) ≡ Some act.l
        lane_at = subst (λ i. slice_get w.lanes i ≡ Some act.l) (sym same) act.pops.here

        to_is : act.l.to ≡ port_of u (suc q)
        to_is = (lane_is act.l lane_at).1

        place : n.place u ≡ act.call.place
        place =
            let clock : act.call.s.clock ≡ u = act.owner ∙ ap (λ (x : PortIdentity). x.clock) to_is in
            sym (calm.placed act.call.place act.call.s in_w ∙ ap n.place clock)

        frames_mid : (l : Lane) → slice_get act.mid.lanes (n.lane (port_of v (suc p))) ≡ Some l → l.frames ≡ act.fs
        frames_mid l at = elim (act.pops.lanes (n.lane (port_of v (suc p))) l at) [
          | inl (here, one) ↦ ap (λ (x : Lane). x.frames) one
          | inr (apart, stood) ↦ absurd (apart same)
        ]

        in_mid_first : AtLink (λ held fs. P held (act.f ∷ fs)) act.mid
        in_mid_first s pu l at there at_l =
            subst (λ fs. P pu.held (act.f ∷ fs)) (sym (frames_mid l at_l))
            (subst (P pu.held) act.pops.frames
            (is s pu act.l (act.pops.stations (n.place u) s at) there lane_at))

        -- an Announce is heard
        comes_heard : (m : ℕ) (a : Announce) → act.touch ≡ Hear m a → AtLink P' w'
        comes_heard m a touched =
            called act.touch act.mid act.call act.pops.stations act.pops.time (λ held fs. P held (act.f ∷ fs))
            in_mid_first (λ far. absurd (far place))
            (λ here pu pu' l end end' at_l there answer.
            keeps.hears act.mid.time act.call.s'.root act.call.s'.steps pu pu' act.call.sends act.l act.f l.frames a end
            end' act.pops.time lane_at (act.pops.frames ∙ ap (λ fs. act.f ∷ fs) (sym (frames_mid l at_l)))
            (act.heard m a touched).1
            (subst (λ z. PortStep says u (suc q) act.mid.time z act.call.s'.root act.call.s'.steps pu pu'
            act.call.sends) (touched ∙ (λ i. Hear (number i) a)) answer))
          where
            number : m ≡ suc q
            number = (act.heard m a touched).0 ∙ ap (λ (x : PortIdentity). x.port) to_is

        -- it says none
        comes_silent : ((m : ℕ) (a : Announce) → act.touch ≡ Hear m a → ⊥) → AtLink P' w'
        comes_silent deaf =
            called act.touch act.mid act.call act.pops.stations act.pops.time P missed (λ far. absurd (far place))
            (λ here pu pu' l end end' at_l there answer.
            keeps.answers act.touch act.mid.time act.call.s'.root act.call.s'.steps pu pu' act.call.sends l.frames end
            end' act.pops.time (λ h among.
            calm.left (n.lane (port_of v (suc p))) act.l h lane_at
            (subst (In h) (sym act.pops.frames) (inr (subst (In h) (frames_mid l at_l) among)))) answer
            (λ a touched. deaf (suc q) a touched) (λ r grown. absurd (act.young (suc q) grown)))
          where
            missed : AtLink P act.mid
            missed s pu l at there at_l =
                keeps.misses pu.held act.f l.frames (λ (a, said).
                let at_w = act.pops.stations (n.place u) s at in
                let one = same_there w.stations (n.place u) s act.call.s at_w
                (subst (λ i. slice_get w.stations i ≡ Some act.call.s) (sym place) in_w) in
                let (b, touched) = act.hears q pu a (ap (λ (x : PortIdentity). x.port) to_is)
                (subst (λ (z : Station). slice_get z.ports q ≡ Some pu) one there)
                (is_on pu (record { s = s; at = at_w; there = there })) said in
                deaf act.l.to.port b touched) (in_mid_first s pu l at there at_l)

      comes : AtLink P' w'
      comes = elim (ℕ_discrete (n.lane (port_of v (suc p))) act.j) [
        | no other ↦ comes_apart other
        | yes same ↦ elim (is_hear act.touch) [
          | inl (m, a, touched) ↦ comes_heard same m a touched
          | inr deaf ↦ comes_silent same deaf
        ]
      ]

    -- a frame that does nothing
    drops : Drops says w w' → AtLink P w → AtLink P' w'
    drops act is s pu l at there at_l = elim (act.pops.lanes (n.lane (port_of v (suc p))) l at_l) [
      | inr (apart, stood) ↦
          keeps.stays pu.held l.frames (is s pu l (act.pops.stations (n.place u) s at) there stood)
      | inl (same, one) ↦ keeps.stays pu.held l.frames
          (subst (P pu.held) (sym (ap (λ (x : Lane). x.frames) one)) (missed same))
    ]
      where
        at_w : slice_get w.stations (n.place u) ≡ Some s
        at_w = act.pops.stations (n.place u) s at

        missed : n.lane (port_of v (suc p)) ≡ act.j → P pu.held act.fs
        missed same =
            let lane_at = subst (λ i. slice_get w.lanes i ≡ Some act.l) (sym same) act.pops.here in
            keeps.misses pu.held act.f act.fs (λ (a, said). elim act.unheard [
              | inl silent ↦ silent a said
              | inr dead ↦
                  let (live, clock) = lives_at n w calm u known s at_w in
                  dead (n.place u) s at_w
                  (clock ∙ ap (λ (x : PortIdentity). x.clock) (sym (lane_is act.l lane_at).1)) live
            ]) (subst (P pu.held) act.pops.frames (is s pu act.l at_w there lane_at))

    -- so every step does
    pub lane_steps : MachineSteps says w w' → AtLink P w → AtLink P' w'
    lane_steps (inl wait) is =
        (λ s pu l at there at_l.
        keeps.stays pu.held l.frames
        (is s pu l (subst (λ (x : MachineState). slice_get x.stations (n.place u) ≡ Some s) wait.is at) there
        (subst (λ (x : MachineState). slice_get x.lanes (n.lane (port_of v (suc p))) ≡ Some l) wait.is at_l)))
    lane_steps (inr (inl act)) is = comes act is
    lane_steps (inr (inr (inl act))) is = drops act is
    lane_steps (inr (inr (inr act))) is = runs act is

  module _ (wf : IsWellFormed n.graph) (joins : Joins n.graph (port_of v (suc p)) (port_of u (suc q)))
      (w w' : MachineState) (calm : Calm n w) (calm' : Calm n w')
      (is_on : (pu : Port) → StandsAtEnd w pu → pu.held ≢ Disabled)
      (lapses : (i due : ℕ) (s : Station) → slice_get w.stations i ≡ Some s → s.lapse ≡ Some due → w.time < due)
      (P P' : Held → List AnnounceFrame → Type 0) (N : Announce → Type 0) (keeps : KeepsAtLink w w' P P' N) where
    -- the lane of a link in use stands
    stands : (x : MachineState) → Calm n x → LaneStands x
    stands x calm_x =
        let is = calm_x.lanes (port_of v (suc p)) (port_of u (suc q)) joins in
        record { lane = is.lane; there = is.there; from = is.from; to = is.to }

    pub link_steps : MachineSteps says w w' → AtLink P w → AtLink P' w'
    link_steps =
        lane_steps (Joins-clock n.graph (port_of u (suc q)) (port_of v (suc p)) wf
        (Joins-sym n.graph (port_of v (suc p)) (port_of u (suc q)) joins)) w w' calm calm' (stands w calm)
        (stands w' calm') is_on lapses P P' N keeps
