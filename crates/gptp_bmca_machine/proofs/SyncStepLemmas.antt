-- What an act does to Syncs, system by system and lane by lane: what will match stays in flight or is heard.
use Rattle.std.proofs.Common.{◌≡◌, ◌≢◌, ◌⊎◌, ◌+◌, ℕ, suc, true, ◌∷◌, Option, Some, None, slice_get, refl, sym, ap, subst, ◌∙◌, inl, inr}
use native.Mathlib.Decide.{ℕ_discrete}
use Rattle.gptp_graph.specs.Snapshot.{PortIdentity, Snapshot, port_of, Joins}
use Rattle.gptp_graph.proofs.LinkLemmas.{Joins-sym, Joins-clock}
use Rattle.gptp_bmca_machine.specs.Frame.{Spelling, SyncId, SaysSync, Lane}
use Rattle.gptp_bmca_machine.specs.Station.{Reception, Mine, Port, Station, MachineState, HoldsAt}
use Rattle.gptp_bmca_machine.specs.Touch.{StationTouch}
use Rattle.gptp_bmca_machine.specs.AtRest.{StationIsAtRest}
use Rattle.gptp_bmca_machine.specs.Acts.{LaneStep, StationAnswers, Arrives, Drops, Runs}
use Rattle.gptp_bmca_machine.specs.Sound.{RunIsSound}
use Rattle.gptp_bmca_machine.specs.Network.{Network, IsSettlingNetwork}
use Rattle.gptp_bmca_machine.specs.Calm.{Calm}
use Rattle.gptp_bmca_machine.specs.Matching.{WillMatch, HasPair, Matches}
use Rattle.gptp_bmca_machine.specs.Syncs.{MayLead}
use Rattle.gptp_bmca_machine.specs.SyncActs.{FollowsOn, FollowUpIsHeard, SendsPairs, HearsFollowedSync, SyncArrives, SyncDrops, SyncRuns, SyncActs}
use Rattle.gptp_bmca_machine.proofs.PlaceLemmas.{same_there, same_place}
use Rattle.gptp_bmca_machine.proofs.EndsLemmas.{station_of}
use Rattle.gptp_bmca_machine.proofs.MatchingLemmas.{match_on, pair_behind, match_heard, match_dropped}

-- from each of its master ports a Follow_Up that will match is on its way, where a link of the snapshot is there, up
-- and without loss
abbrev pub TellsTime : SaysSync → Snapshot → MachineState → Station → Type 0
TellsTime says_sync g w s = (i j : ℕ) (q : Port) (l : Lane) (root steps : ℕ) → slice_get s.ports i ≡ Some q
    → q.held ≡ Mine root steps → slice_get w.lanes j ≡ Some l → l.from ≡ port_of s.clock (suc i) → Joins g l.from l.to
    → l.loss ≡ 0 → l.is_up ≡ true
    → (due : ℕ) × Matches says_sync w.stations w.lanes j due

-- What an act makes of a live system, from s to s'. While it follows the same root over the same port, a Sync timer or
-- Relay timer that doesn't stay has expired, and the system tells time; what would match at its slave port, from the
-- port whose Announce that holds, stays in flight or is heard; and its lapse timer stays or starts again. Where it
-- doesn't, that starts again, if it runs.
pub record StationStep (says_sync : SaysSync) (n : Network) (w w' : MachineState) (s s' : Station) : Type 0 where
  pub sync : s.slave ≡ None → MayLead s.root → FollowsOn s s' → (s'.sync ≡ s.sync) ⊎ TellsTime says_sync n.graph w' s'
  pub relay : (due : ℕ) → s.relay ≡ Some due → FollowsOn s s' → (s'.relay ≡ Some due)
      ⊎ TellsTime says_sync n.graph w' s'
  pub flight : (i j due : ℕ) (l : Lane) → slice_get w.lanes j ≡ Some l → l.to ≡ port_of s.clock (suc i)
      → Joins n.graph l.from l.to → ((r : Reception) → HoldsAt s i r → r.said.source ≡ l.from)
      → s.slave ≡ Some (suc i) → FollowsOn s s'
      → Matches says_sync w.stations w.lanes j due
      → Matches says_sync w'.stations w'.lanes j due ⊎ FollowUpIsHeard n w.time s'
  pub lapse : (due : ℕ) → s'.lapse ≡ Some due
      → ((s.lapse ≡ Some due) × FollowsOn s s') ⊎ (due ≡ w.time + n.syncs.span)

-- each live system makes such a step
abbrev pub StationsStep : SaysSync → Network → MachineState → MachineState → Type 0
StationsStep says_sync n w w' = (i : ℕ) (s s' : Station) → slice_get w.stations i ≡ Some s
    → slice_get w'.stations i ≡ Some s' → s.live ≡ true
    → StationStep says_sync n w w' s s'

-- the slave port of a system at rest received something
slave_holds : (s : Station) (i : ℕ) → StationIsAtRest s → s.slave ≡ Some (suc i) → (r : Reception) × HoldsAt s i r
slave_holds s i rest slave = elim rest.chosen [
  | inl (own, none) ↦ absurd (let x : Some (suc i) ≡ None = sym slave ∙ none in cc)
  | inr (j, r, holds, path, slave_j) ↦ (r, subst (λ m. HoldsAt s m r) (same_place j i (sym slave_j ∙ slave)) holds)
]

module _ (says : Spelling) (says_sync : SaysSync) (n : Network) (net : IsSettlingNetwork n) where
  -- a lane of the snapshot stands where its port says
  lane_place : (w : MachineState) (j : ℕ) (l : Lane) → Calm n w → slice_get w.lanes j ≡ Some l
      → Joins n.graph l.from l.to
      → j ≡ n.lane l.from
  lane_place w j l calm at joins =
      let has = calm.lanes l.from l.to joins in
      calm.apart j (n.lane l.from) l has.lane at has.there (sym has.to)

  -- so it stands there after the act too, between the same ports
  lane_after : (w w' : MachineState) (j : ℕ) (l : Lane) → Calm n w → Calm n w' → slice_get w.lanes j ≡ Some l
      → Joins n.graph l.from l.to
      → (l' : Lane) × (slice_get w'.lanes j ≡ Some l') × (l'.from ≡ l.from) × (l'.to ≡ l.to)
  lane_after w w' j l calm calm' at joins =
      let has = calm'.lanes l.from l.to joins in (
        has.lane,
        subst (λ m. slice_get w'.lanes m ≡ Some has.lane) (sym (lane_place w j l calm at joins)) has.there,
        has.from,
        has.to,
      )

  -- what will match, where the hearer is known
  will_match : (w : MachineState) (j due : ℕ) (l : Lane) (i : ℕ) (s : Station) → Calm n w → slice_get w.lanes j ≡ Some l
      → slice_get w.stations i ≡ Some s → s.clock ≡ l.to.clock → Matches says_sync w.stations w.lanes j due
      → WillMatch says_sync l.from s.kept l.frames due
  will_match w j due l i s calm at stands clock m =
      let one : m.lane ≡ l = same_there w.lanes j m.lane l m.there at in
      let same : m.place ≡ i =
      calm.placed m.place m.hearer m.stands
      ∙ ap n.place (m.clock ∙ ap (λ (x : Lane). x.to.clock) one ∙ sym clock)
      ∙ sym (calm.placed i s stands) in
      let hearer : m.hearer ≡ s =
      same_there w.stations i m.hearer s (subst (λ k. slice_get w.stations k ≡ Some m.hearer) same m.stands) stands in
      subst (λ (x : Lane). WillMatch says_sync x.from s.kept x.frames due) one
      (subst (λ (x : Station). WillMatch says_sync m.lane.from x.kept m.lane.frames due) hearer m.matches)

  -- pairs that enter the lanes of master ports will match
  tells_time : (w w' : MachineState) (s : Station) → Calm n w'
      → (RunIsSound n w')
      → ((j : ℕ) (l' : Lane) → slice_get w'.lanes j ≡ Some l'
      → (l : Lane) × (slice_get w.lanes j ≡ Some l) × (l'.from ≡ l.from) × (l'.loss ≡ l.loss) × (l'.is_up ≡ l.is_up))
      → SendsPairs says_sync w w' s → TellsTime says_sync n.graph w' s
  tells_time w w' s calm' sound' before sends i j q l' root steps port mine at from joins loss up =
      let (l, was, same_from, same_loss, same_up) = before j l' at in
      let (news, frames, (due, pair)) = sends i j q l l' root steps port mine was at (sym same_from ∙ from)
      (sym same_loss ∙ loss) (sym same_up ∙ up) in
      let known = Joins-clock n.graph l'.to l'.from net.graph (Joins-sym n.graph l'.from l'.to joins) in
      let (hearer, stands, live, clock) = station_of n net w' calm' sound' l'.to.clock known in (
        due,
        record {
          lane = l';
          there = at;
          place = n.place l'.to.clock;
          hearer = hearer;
          stands = stands;
          clock = clock;
          matches = inr (subst (λ x. HasPair says_sync l'.from x due) (sym frames)
              (pair_behind says_sync l'.from l.frames news due
              (subst (λ x. HasPair says_sync x news due) (sym same_from) pair)));
        },
      )

  -- what happens to what will match at one system, by what happens to the frames of the lane
  flight_after : (w w' : MachineState) (i j due : ℕ) (s s' : Station) (l : Lane) → Calm n w → Calm n w'
      → slice_get w.stations i ≡ Some s → slice_get w'.stations i ≡ Some s' → s'.clock ≡ s.clock
      → slice_get w.lanes j ≡ Some l → s.clock ≡ l.to.clock → Joins n.graph l.from l.to
      → ((l' : Lane) → slice_get w'.lanes j ≡ Some l' → WillMatch says_sync l.from s.kept l.frames due
      → WillMatch says_sync l.from s'.kept l'.frames due ⊎ FollowUpIsHeard n w.time s')
      → Matches says_sync w.stations w.lanes j due
      → Matches says_sync w'.stations w'.lanes j due ⊎ FollowUpIsHeard n w.time s'
  flight_after w w' i j due s s' l calm calm' stands stands' clocks at to joins frames m =
      let (l', at', from', to') = lane_after w w' j l calm calm' at joins in
      elim (frames l' at' (will_match w j due l i s calm at stands to m)) [
        | inl still ↦ inl (record {
          lane = l';
          there = at';
          place = i;
          hearer = s';
          stands = stands';
          clock = clocks ∙ to ∙ ap (λ (x : PortIdentity). x.clock) (sym to');
          matches = subst (λ x. WillMatch says_sync x s'.kept l'.frames due) (sym from') still;
        })
        | inr heard ↦ inr heard
      ]

  -- a system that doesn't answer
  unchanged : (w w' : MachineState) (i : ℕ) (s : Station) → Calm n w → Calm n w' → slice_get w.stations i ≡ Some s
      → slice_get w'.stations i ≡ Some s
      → ((p j due : ℕ) (l l' : Lane) → slice_get w.lanes j ≡ Some l → l.to ≡ port_of s.clock (suc p)
      → slice_get w'.lanes j ≡ Some l' → WillMatch says_sync l.from s.kept l.frames due
      → WillMatch says_sync l.from s.kept l'.frames due)
      → StationStep says_sync n w w' s s
  unchanged w w' i s calm calm' at at' frames = record {
    sync = λ none may on. inl refl;
    relay = λ due runs on. inl runs;
    flight = λ p j due l there to joins source slave on m.
        flight_after w w' i j due s s l calm calm' at at' refl there (ap (λ (x : PortIdentity). x.clock) (sym to)) joins
        (λ l' there' match. inl (frames p j due l l' there to there' match)) m;
    lapse = λ due runs. inl (runs, record { root = refl; slave = refl });
  }

  -- a frame is dropped: no system changes
  drops_steps : (w w' : MachineState) → Calm n w → Calm n w' → (act : Drops says w w')
      → SyncDrops says says_sync w w' act
      → StationsStep says_sync n w w'
  drops_steps w w' calm calm' act silent i s s' at at' live =
      subst (λ (x : Station). StationStep says_sync n w w' s x) same
      (unchanged w w' i s calm calm' at
      (subst (λ (x : Station). slice_get w'.stations i ≡ Some x) (sym same) at') frames)
    where
      same : s ≡ s'
      same = same_there w.stations i s s' at (act.pops.stations i s' at')

      frames : (p j due : ℕ) (l l' : Lane) → slice_get w.lanes j ≡ Some l → l.to ≡ port_of s.clock (suc p)
          → slice_get w'.lanes j ≡ Some l' → WillMatch says_sync l.from s.kept l.frames due
          → WillMatch says_sync l.from s.kept l'.frames due
      frames p j due l l' there to there' match = elim (act.pops.lanes j l' there') [
        | inl (here, is) ↦
            let one : l ≡ act.l =
            same_there w.lanes j l act.l there (subst (λ k. slice_get w.lanes k ≡ Some act.l) (sym here) act.pops.here)
            in
            let clock : s.clock ≡ act.l.to.clock =
            ap (λ (x : PortIdentity). x.clock) (sym to) ∙ ap (λ (x : Lane). x.to.clock) one in
            let before : WillMatch says_sync l.from s.kept (act.f ∷ act.fs) due =
            subst (λ x. WillMatch says_sync l.from s.kept x due)
            (ap (λ (x : Lane). x.frames) one ∙ act.pops.frames) match
            in
            subst (λ (x : Lane). WillMatch says_sync l.from s.kept x.frames due) (sym is)
            (match_dropped says_sync l.from s.kept act.f act.fs due (λ x said. silent i s x at clock live said) before)
        | inr (other, stood) ↦
            subst (λ (x : Lane). WillMatch says_sync l.from s.kept x.frames due) (same_there w.lanes j l l' there stood)
            match
      ]

  -- frames that enter a lane
  entered : (touch : StationTouch) (w w' : MachineState) (call : StationAnswers says touch w w') (j due : ℕ)
      (from : PortIdentity)
      (kept : Option SyncId) (l l' : Lane) → slice_get w.lanes j ≡ Some l → slice_get w'.lanes j ≡ Some l'
      → WillMatch says_sync from kept l.frames due → WillMatch says_sync from kept l'.frames due
  entered touch w w' call j due from kept l l' there there' match =
      let (m, was, step) = call.lanes j l' there' in
      subst (λ x. WillMatch says_sync from kept x due) (sym step.behind)
      (match_on says_sync from kept m.frames step.news due
      (subst (λ (x : Lane). WillMatch says_sync from kept x.frames due) (same_there w.lanes j l m there was) match))

  -- what a call leaves of a lane
  lane_before : (touch : StationTouch) (w w' : MachineState) → StationAnswers says touch w w' → (j : ℕ) (l' : Lane)
      → slice_get w'.lanes j ≡ Some l'
      → (l : Lane) × (slice_get w.lanes j ≡ Some l) × (l'.from ≡ l.from) × (l'.loss ≡ l.loss) × (l'.is_up ≡ l.is_up)
  lane_before touch w w' call j l' at =
      let (l, was, step) = call.lanes j l' at in
      (l, was, step.from, step.loss, step.is_up)

  -- something that is no delivery
  runs_steps : (w w' : MachineState) → Calm n w → Calm n w' → (RunIsSound n w')
      → (act : Runs says w w') → SyncRuns says says_sync n w w' act
      → StationsStep says_sync n w w'
  runs_steps w w' calm calm' sound' act facts i s s' at at' live = elim (act.call.stations i s' at') [
    | inl (here, is) ↦
        let one : act.call.s ≡ s =
        same_there w.stations i act.call.s s
        (subst (λ k. slice_get w.stations k ≡ Some act.call.s) (sym here) act.call.here) at in
        subst (λ (x : Station). StationStep says_sync n w w' x s') one
        (subst (λ (x : Station). StationStep says_sync n w w' act.call.s x) (sym is) answers)
    | inr (other, stood) ↦
        let same : s ≡ s' = same_there w.stations i s s' at stood in
        subst (λ (x : Station). StationStep says_sync n w w' s x) same
        (unchanged w w' i s calm calm' at
        (subst (λ (x : Station). slice_get w'.stations i ≡ Some x) (sym same) at')
        (λ p j due l l' there to there' match.
        entered act.touch w w' act.call j due l.from s.kept l l' there there' match))
  ]
    where
      answers : StationStep says_sync n w w' act.call.s act.call.s'
      answers = record {
        sync = λ none may on. elim (facts.timers.sync none may on) [
          | inl stays ↦ inl stays
          | inr sends ↦ inr (tells_time w w' act.call.s' calm' sound' (lane_before act.touch w w' act.call) sends)
        ];
        relay = λ due runs on. elim (facts.timers.relay due runs on) [
          | inl stays ↦ inl stays
          | inr sends ↦ inr (tells_time w w' act.call.s' calm' sound' (lane_before act.touch w w' act.call) sends)
        ];
        flight = λ p j due l there to joins source slave on m.
            flight_after w w' act.call.place j due act.call.s act.call.s' l calm calm' act.call.here act.call.there
            act.call.reacts.clock there (ap (λ (x : PortIdentity). x.clock) (sym to)) joins
            (λ l' there' match. inl (entered act.touch w w' act.call j due l.from act.call.s'.kept l l' there there'
            (subst (λ x. WillMatch says_sync l.from x l.frames due) (sym (facts.keeps on)) match))) m;
        lapse = facts.timers.lapse;
      }

  module _ (w w' : MachineState) (calm : Calm n w) (calm' : Calm n w')
      (sound' : RunIsSound n w') (act : Arrives says w w')
      (facts : SyncArrives says says_sync n w w' act) where
    -- the system that answers stood before
    stood : slice_get w.stations act.call.place ≡ Some act.call.s
    stood = act.pops.stations act.call.place act.call.s act.call.here

    -- the lane of the frame leads to its clock alone
    leads_to : (i : ℕ) (s : Station) → slice_get w.stations i ≡ Some s → s.clock ≡ act.l.to.clock → i ≡ act.call.place
    leads_to i s at clock =
        calm.placed i s at
        ∙ ap n.place (clock ∙ sym act.owner)
        ∙ sym (calm.placed act.call.place act.call.s stood)

    -- a lane other than that of the frame, as it was
    other_stood : (j : ℕ) (l m : Lane) → slice_get w.lanes j ≡ Some l → slice_get act.mid.lanes j ≡ Some m
        → (j ≢ act.j) → l ≡ m
    other_stood j l m there was apart = elim (act.pops.lanes j m was) [
      | inl (here, is) ↦ absurd (apart here)
      | inr (other, at) ↦ same_there w.lanes j l m there at
    ]

    -- so frames enter it alone
    entered_other : (j due : ℕ) (from : PortIdentity) (kept : Option SyncId) (l l' : Lane)
        → slice_get w.lanes j ≡ Some l → slice_get w'.lanes j ≡ Some l' → (j ≢ act.j)
        → WillMatch says_sync from kept l.frames due → WillMatch says_sync from kept l'.frames due
    entered_other j due from kept l l' there there' apart match =
        let (m, was, step) = act.call.lanes j l' there' in
        let same : l ≡ m = other_stood j l m there was apart in
        entered act.touch act.mid w' act.call j due from kept m l' was there'
        (subst (λ (x : Lane). WillMatch says_sync from kept x.frames due) same match)

    -- what the system that answers makes of what will match at its slave port
    answers_flight : (p j due : ℕ) (l l' : Lane) → slice_get w.lanes j ≡ Some l
        → l.to ≡ port_of act.call.s.clock (suc p)
        → ((r : Reception) → HoldsAt act.call.s p r → r.said.source ≡ l.from) → act.call.s.slave ≡ Some (suc p)
        → FollowsOn act.call.s act.call.s' → slice_get w'.lanes j ≡ Some l'
        → WillMatch says_sync l.from act.call.s.kept l.frames due
        → WillMatch says_sync l.from act.call.s'.kept l'.frames due ⊎ FollowUpIsHeard n w.time act.call.s'
    answers_flight p j due l l' there to source slave on there' match = elim (ℕ_discrete j act.j) [
      | no apart ↦ inl (entered_other j due l.from act.call.s'.kept l l' there there' apart
          (subst (λ x. WillMatch says_sync l.from x l.frames due)
          (sym (facts.keeps p slave (λ port. apart (same_lane port)) on)) match))
      | yes here ↦ by_lane here (act.call.lanes j l' there')
    ]
      where
        -- a lane to the same port is the same
        same_lane : act.l.to.port ≡ suc p → j ≡ act.j
        same_lane port =
            calm.apart j act.j l act.l there act.pops.here
            (to ∙ (λ i. port_of (act.owner i) (sym port i)))

        by_lane : j ≡ act.j
            → ((m : Lane) × (slice_get act.mid.lanes j ≡ Some m) × LaneStep act.call.s.clock act.call.sends m l')
            → WillMatch says_sync l.from act.call.s'.kept l'.frames due ⊎ FollowUpIsHeard n w.time act.call.s'
        by_lane here (m, was, step) = elim (act.pops.lanes j m was) [
          | inr (other, at) ↦ absurd (other here)
          | inl (same, is) ↦ elim (match_heard says_sync l.from act.call.s.kept act.call.s'.kept act.f act.fs due
              (λ id said from. hears.sync id said (λ r holds. source r holds ∙ sym from))
              (λ none. hears.other (λ id said followed. none id said (sym (followed held.0 held.1)
              ∙ source held.0 held.1))) before) [
                | inl still ↦ inl (entered act.touch act.mid w' act.call j due l.from act.call.s'.kept m l' was there'
                    (subst (λ (x : Lane). WillMatch says_sync l.from act.call.s'.kept x.frames due) (sym is) still))
                | inr (id, kept, said) ↦ inr (hears.follow_up id said kept)
              ]
        ]
          where
            one : l ≡ act.l
            one =
                same_there w.lanes j l act.l there
                (subst (λ k. slice_get w.lanes k ≡ Some act.l) (sym here) act.pops.here)

            port : act.l.to.port ≡ suc p
            port = ap (λ (x : Lane). x.to.port) (sym one) ∙ ap (λ (x : PortIdentity). x.port) to

            hears : HearsFollowedSync says_sync n w.time p act.f.octets act.call.s act.call.s'
            hears = facts.hears p slave port on

            held : (r : Reception) × HoldsAt act.call.s p r
            held =
                slave_holds act.call.s p (calm.stations act.call.place act.call.s stood act.call.live).at_rest slave

            before : WillMatch says_sync l.from act.call.s.kept (act.f ∷ act.fs) due
            before =
                subst (λ x. WillMatch says_sync l.from act.call.s.kept x due)
                (ap (λ (x : Lane). x.frames) one ∙ act.pops.frames) match

    answers_arrival : StationStep says_sync n w w' act.call.s act.call.s'
    answers_arrival = record {
      sync = λ none may on. elim (facts.timers.sync none may on) [
        | inl stays ↦ inl stays
        | inr sends ↦ inr (tells_time act.mid w' act.call.s' calm' sound' (lane_before act.touch act.mid w' act.call)
            sends)
      ];
      relay = λ due runs on. elim (facts.timers.relay due runs on) [
        | inl stays ↦ inl stays
        | inr sends ↦ inr (tells_time act.mid w' act.call.s' calm' sound' (lane_before act.touch act.mid w' act.call)
            sends)
      ];
      flight = λ p j due l there to joins source slave on m.
          flight_after w w' act.call.place j due act.call.s act.call.s' l calm calm' stood act.call.there
          act.call.reacts.clock there (ap (λ (x : PortIdentity). x.clock) (sym to)) joins
          (λ l' there' match. answers_flight p j due l l' there to source slave on there' match) m;
      lapse = λ due runs. elim (facts.timers.lapse due runs) [
        | inl stays ↦ inl stays
        | inr now ↦ inr (now ∙ ap (λ t. t + n.syncs.span) act.pops.time)
      ];
    }

    -- a frame arrives
    arrives_steps : StationsStep says_sync n w w'
    arrives_steps i s s' at at' live = elim (act.call.stations i s' at') [
      | inl (here, is) ↦
          let one : act.call.s ≡ s =
          same_there w.stations i act.call.s s
          (subst (λ k. slice_get w.stations k ≡ Some act.call.s) (sym here) stood) at in
          subst (λ (x : Station). StationStep says_sync n w w' x s') one
          (subst (λ (x : Station). StationStep says_sync n w w' act.call.s x) (sym is) answers_arrival)
      | inr (other, there) ↦
          let same : s ≡ s' = same_there w.stations i s s' at (act.pops.stations i s' there) in
          subst (λ (x : Station). StationStep says_sync n w w' s x) same
          (unchanged w w' i s calm calm' at
          (subst (λ (x : Station). slice_get w'.stations i ≡ Some x) (sym same) at') (frames other))
    ]
      where
        frames : (i ≢ act.call.place) → (p j due : ℕ) (l l' : Lane) → slice_get w.lanes j ≡ Some l
            → l.to ≡ port_of s.clock (suc p) → slice_get w'.lanes j ≡ Some l'
            → WillMatch says_sync l.from s.kept l.frames due → WillMatch says_sync l.from s.kept l'.frames due
        frames other p j due l l' there to there' match =
            entered_other j due l.from s.kept l l' there there' (λ here. other (leads_to i s at (clock here))) match
          where
            clock : j ≡ act.j → s.clock ≡ act.l.to.clock
            clock here =
                let one : l ≡ act.l =
                same_there w.lanes j l act.l there
                (subst (λ k. slice_get w.lanes k ≡ Some act.l) (sym here) act.pops.here) in
                ap (λ (x : PortIdentity). x.clock) (sym to) ∙ ap (λ (x : Lane). x.to.clock) one

  -- whatever happens
  pub acts_steps : (w w' : MachineState) → Calm n w → Calm n w' → (RunIsSound n w')
      → SyncActs says says_sync n w w'
      → StationsStep says_sync n w w'
  acts_steps w w' calm calm' sound' (inl (act, facts)) = arrives_steps w w' calm calm' sound' act facts
  acts_steps w w' calm calm' sound' (inr (inl (act, silent))) = drops_steps w w' calm calm' act silent
  acts_steps w w' calm calm' sound' (inr (inr (act, facts))) = runs_steps w w' calm calm' sound' act facts
