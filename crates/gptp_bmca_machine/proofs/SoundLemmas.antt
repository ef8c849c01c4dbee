-- What is held stays sound: each step keeps it, and so do news.
use Rattle.std.proofs.Common.{◌≡◌, ◌≢◌, ◌⊎◌, ◌≤◌, ◌<◌, ℕ, suc, true, List, [], ◌∷◌, Some, slice_get, sym, ap, subst, ◌∙◌, inl, inr, arith}
use native.Mathlib.Decide.{dec_le}
use Rattle.gptp_lists.specs.Members.{In}
use Rattle.gptp_lists.proofs.SystemSpecLemmas.{In-parts}
use Rattle.gptp_graph.specs.Snapshot.{System, PortIdentity, Snapshot, clocks, port_of, Joins, Adjacent, IsWellFormed}
use Rattle.gptp_graph.specs.Path.{Reaches, Route, IsPath}
use Rattle.gptp_graph.proofs.LinkLemmas.{Joins-sym}
use Rattle.gptp_graph.proofs.LinkDecisions.{IsLinked-dec}
use Rattle.gptp_graph.proofs.PathLemmas.{Reaches-self}
use Rattle.gptp_graph.proofs.SystemLemmas.{In-clocks}
use Rattle.gptp_graph.proofs.SystemLemmas as systems
use Rattle.gptp_graph.proofs.BestLemmas.{IsBest-neighbour}
use Rattle.gptp_bmca_machine.specs.Frame.{Announce, Spelling, AnnounceFrame, Lane, Send}
use Rattle.gptp_bmca_machine.specs.Station.{Reception, Held, Disabled, Mine, Received, Port, Station, MachineState, HoldsAt}
use Rattle.gptp_bmca_machine.specs.Touch.{StationTouch, Hear, Tick, Grow, Enable, Disable, Other, HeldInTouch}
use Rattle.gptp_bmca_machine.specs.Reacts.{IsOwn, StationReacts}
use Rattle.gptp_bmca_machine.specs.Acts.{StationAnswers, Pops, Arrives, MachineSteps}
use Rattle.gptp_bmca_machine.specs.Clean.{IsWorse, Whole, CameSound}
use Rattle.gptp_bmca_machine.specs.Facts.{station_system, FollowsPort, IsLiveStationState}
use Rattle.gptp_bmca_machine.specs.Network.{Network, IsSettlingNetwork, network_setting}
use Rattle.gptp_bmca_machine.specs.Calm.{HasLane, Calm}
use Rattle.gptp_bmca_machine.specs.LossLaws.{EverythingFits, FlightFits, IsWhatIsLeft, WasSystem}
use Rattle.gptp_bmca_machine.specs.SoundLaws.{IsSoundFrom, IsSoundOnLinks, UnlinkedAreOff, HasNews, AllIsWhole}
use Rattle.gptp_bmca_machine.specs.Sound.{ReceivedFits}
use Rattle.gptp_bmca_machine.proofs.NearestLemmas.{came_fits}
use Rattle.gptp_bmca_machine.proofs.PlaceLemmas.{same_there}
use Rattle.gptp_bmca_machine.proofs.TraceLemmas.{whole_own, whole_on}
use Rattle.gptp_bmca_machine.proofs.ReactsLemmas.{JustHeard, held_from}
use Rattle.gptp_bmca_machine.proofs.RestLemmas.{left_of, was_there}

-- a port that received something after a touch wasn't disabled before
on_before : (c n now : ℕ) (touch : StationTouch) (held mid : Held) (r : Reception) → HeldInTouch c n touch now held mid
    → mid ≡ Received r → held ≢ Disabled
on_before c n now (Hear m a) held mid r (inl (same, on, rest)) e off = on off
on_before c n now (Hear m a) held mid r (inr (other, is)) e off = absurd (let x = sym off ∙ sym is ∙ e in cc)
on_before c n now (Tick m) held mid r is e off = absurd (let x = sym off ∙ sym is ∙ e in cc)
on_before c n now (Grow m) held mid r (inl (same, is)) e off = absurd (let x = sym is ∙ e in cc)
on_before c n now (Grow m) held mid r (inr (other, is)) e off = absurd (let x = sym off ∙ sym is ∙ e in cc)
on_before c n now (Enable m) held mid r (inl (same, was, is)) e off = absurd (let x = sym is ∙ e in cc)
on_before c n now (Enable m) held mid r (inr (other, is)) e off = absurd (let x = sym off ∙ sym is ∙ e in cc)
on_before c n now (Disable m) held mid r (inl (same, is)) e off = absurd (let x = sym is ∙ e in cc)
on_before c n now (Disable m) held mid r (inr (other, is)) e off = absurd (let x = sym off ∙ sym is ∙ e in cc)
on_before c n now Other held mid r is e off = absurd (let x = sym off ∙ sym is ∙ e in cc)

-- so the port of a system that received something after an answer wasn't
was_on : (says : Spelling) (s s' : Station) (touch : StationTouch) (now : ℕ) (sends : List Send)
    → StationReacts says s touch now s' sends → (i : ℕ) (r : Reception) → HoldsAt s' i r
    → (q : Port) × (slice_get s.ports i ≡ Some q) × (q.held ≢ Disabled)
was_on says s s' touch now sends reacts i r (q', at, holds) =
    let (q, stood, step) = reacts.ports i q' at in (
      q,
      stood,
      elim step.after [
        | inl (kept, is_kept) ↦ on_before s.clock (suc i) now touch q.held step.mid r step.before (sym kept ∙ holds)
        | inr master ↦ absurd (let x : Mine s'.root s'.steps ≡ Received r = sym master.mine ∙ holds in cc)
      ],
    )

-- all of a network is left of its own snapshot
pub nothing_lost : (n : Network) → IsWellFormed n.graph → IsWhatIsLeft n.graph n
nothing_lost n well = left_of n.graph n well (λ s known. known) (λ p q joins. joins)

-- what is left of a snapshot: there it stays sound by the snapshot
module _ (says : Spelling) (g : Snapshot) (n : Network) (left : IsWhatIsLeft g n) where
  -- all that the station holds is sound
  abbrev IsSoundStation : Station → Type 0
  IsSoundStation s = (place : ℕ) (r : Reception) → HoldsAt s place r → CameSound g s.clock (suc place) r

  -- what a system says of itself is sound, where its identity was as good or better
  says_itself : (s : System) (a : Announce) → WasSystem g s → a.root ≡ s.identity → a.steps ≡ 0
      → a.path ≡ s.clock ∷ [] → IsWorse g s.clock a ⊎ Whole g s.clock a
  says_itself s a was root steps path = elim (dec_le s.identity was.old.identity) [
    | yes same ↦
        let better = was.identity in
        let one : s.identity ≡ was.old.identity = omega (arith, same, better) in
        inr (subst (λ c. Whole g c a) was.clock
        (whole_own g was.old a was.known (root ∙ one) steps (path ∙ ap (λ c. c ∷ []) (sym was.clock))))
    | no worse ↦ inl (λ best is_best.
        let least = is_best.least was.old was.known
        (subst (Reaches g s.clock) (sym was.clock) (Reaches-self g s.clock (was_there g s was))) in
        omega (arith, least, worse, root))
  ]

  -- what a system says is sound where what it holds is
  pub says_sound : (now : ℕ) (s : Station) → IsLiveStationState (network_setting n) now s → IsSoundStation s
      → (p : ℕ) (a : Announce)
      → IsOwn s p a → IsWorse g s.clock a ⊎ Whole g s.clock a
  says_sound now s is held p a own = elim is.follows [
    | inl itself ↦
        says_itself (station_system s) a (left.systems (station_system s) is.known) (own.root ∙ itself.root)
        (own.steps ∙ itself.steps) (own.path ∙ itself.trace)
    | inr port ↦ on port (held port.place port.r port.holds)
  ]
    where
      on : (port : FollowsPort s) → CameSound g s.clock (suc port.place) port.r
          → IsWorse g s.clock a ⊎ Whole g s.clock a
      on port came =
          let joined : Adjacent g s.clock came.from.clock =
          (suc port.place, came.from.port, Joins-sym g came.from (port_of s.clock (suc port.place)) came.joins) in
          elim came.sound [
            | inl worse ↦ inl (λ best is_best. subst (λ m. best.identity < m) (sym (own.root ∙ port.root))
                (worse best (IsBest-neighbour g s.clock came.from.clock best left.graph joined is_best)))
            | inr whole ↦ inr (whole_on g s.clock came.from.clock port.r.said a whole
                (was_there g (station_system s) (left.systems (station_system s) is.known)) joined
                (is.held port.place port.r port.holds).no_loop
                (own.root ∙ port.root) (own.steps ∙ port.steps) (own.path ∙ port.trace))
          ]

  -- what a system hears at a port that isn't disabled came over its link, and is sound
  HeardIsSound : Station → StationTouch → Type 0
  HeardIsSound s touch = (i : ℕ) (q : Port) (a : Announce) → touch ≡ Hear (suc i) a → slice_get s.ports i ≡ Some q
      → q.held ≢ Disabled
      → (from : PortIdentity) × Joins g from (port_of s.clock (suc i)) × IsSoundFrom g from a

  -- one system answers
  called : (touch : StationTouch) (w w' : MachineState) (call : StationAnswers says touch w w') → Calm n w'
      → IsSoundOnLinks says g w
      → HeardIsSound call.s touch → IsSoundOnLinks says g w'
  unfolding HeardIsSound
  called touch w w' call calm' all heard = record { lanes = lanes; stations = stations }
    where
      live' : call.s'.live ≡ true
      live' = call.reacts.live ∙ call.live

      held' : IsSoundStation call.s'
      held' i r holds =
          subst (λ v. CameSound g v (suc i) r) (sym call.reacts.clock)
          (elim (held_from says call.s call.s' touch w.time call.sends call.reacts i r holds) [
            | inl before ↦ all.stations call.place call.s i r call.here call.live before
            | inr just ↦
                let (q, stood, on) = was_on says call.s call.s' touch w.time call.sends call.reacts i r holds in
                came just (heard i q just.said just.touched stood on)
          ])
        where
          came : (just : JustHeard call.s.clock (suc i) w.time touch r)
              → ((from : PortIdentity) × Joins g from (port_of call.s.clock (suc i)) × IsSoundFrom g from just.said)
              → CameSound g call.s.clock (suc i) r
          came just (from, joins, is) = record {
            from = from;
            joins = joins;
            source = ap (λ (a : Announce). a.source) just.is_said ∙ is.source;
            sound = subst (λ a. IsWorse g from.clock a ⊎ Whole g from.clock a) (sym just.is_said) is.sound;
          }

      stations : (i : ℕ) (s : Station) (place : ℕ) (r : Reception) → slice_get w'.stations i ≡ Some s
          → s.live ≡ true → HoldsAt s place r → CameSound g s.clock (suc place) r
      stations i s place r at live holds = elim (call.stations i s at) [
        | inl (same, is) ↦ subst IsSoundStation (sym is) held' place r holds
        | inr (other, stood) ↦ all.stations i s place r stood live holds
      ]

      lanes : (j : ℕ) (l' : Lane) (f : AnnounceFrame) (a : Announce) → slice_get w'.lanes j ≡ Some l' → In f l'.frames
          → says f.octets a → Joins g l'.from l'.to → IsSoundFrom g l'.from a
      lanes j l' f a at flies said joins =
          let (l, stood, step) = call.lanes j l' at in
          subst (λ p. IsSoundFrom g p a) (sym step.from)
          (elim (In-parts f l.frames step.news (subst (In f) step.behind flies)) [
            | inl old ↦ all.lanes j l f a stood old said
                (subst (λ p. Joins g p l.to) step.from (subst (Joins g l'.from) step.to joins))
            | inr new ↦
                let (x, x_in, from, octets) = step.sent f new in
                let own : IsOwn call.s' x.port a =
                (call.reacts.tells x a x_in (subst (λ (o : List ℕ). says o a) octets said)).0 in
                let port : port_of call.s'.clock x.port ≡ l.from =
                (λ i. port_of (call.reacts.clock i) x.port) ∙ sym from in
                subst (λ p. IsSoundFrom g p a) port (record {
                  source = own.source;
                  sound = says_sound w'.time call.s' (calm'.facts.stations call.place call.s' call.there live') held'
                      x.port a own;
                })
          ])

  -- a frame is taken off its lane
  popped : (j : ℕ) (l : Lane) (f : AnnounceFrame) (fs : List AnnounceFrame) (w w' : MachineState) → Pops j l f fs w w'
      → IsSoundOnLinks says g w
      → IsSoundOnLinks says g w'
  popped j l f fs w w' pops all = record {
    lanes = λ m l' x a at flies said joins. elim (pops.lanes m l' at) [
      | inl (same, is) ↦ subst (λ (y : Lane). IsSoundFrom g y.from a) (sym is)
          (all.lanes j l x a pops.here
          (subst (In x) (sym pops.frames) (inr (subst (λ (y : Lane). In x y.frames) is flies))) said
          (subst (λ (y : Lane). Joins g y.from y.to) is joins))
      | inr (other, stood) ↦ all.lanes m l' x a stood flies said joins
    ];
    stations = λ i s place r at. all.stations i s place r (pops.stations i s at);
  }

  -- what arrives came over the link of the port, where that isn't disabled
  arrived : (w w' : MachineState) (act : Arrives says w w') → Calm n w → UnlinkedAreOff n.graph w → IsSoundOnLinks says
      g w
      → HeardIsSound act.call.s act.touch
  unfolding HeardIsSound
  arrived w w' act calm off all i q a touched at on = elim (IsLinked-dec n.graph (port_of act.call.s.clock (suc i))) [
    | no unlinked ↦ absurd (on (off act.call.place act.call.s i q
        (act.pops.stations act.call.place act.call.s act.call.here) act.call.live at unlinked))
    | yes (from, joins) ↦ over from (Joins-sym n.graph (port_of act.call.s.clock (suc i)) from joins)
  ]
    where
      over : (from : PortIdentity) → Joins n.graph from (port_of act.call.s.clock (suc i))
          → (from : PortIdentity) × Joins g from (port_of act.call.s.clock (suc i)) × IsSoundFrom g from a
      over from joins = (
        from,
        left.links from (port_of act.call.s.clock (suc i)) joins,
        subst (λ p. IsSoundFrom g p a) from_is (all.lanes act.j act.l act.f a act.pops.here
            (subst (In act.f) (sym act.pops.frames) (inl (λ j. act.f))) (act.heard (suc i) a touched).1
            (subst (λ p. Joins g p act.l.to) (sym from_is)
            (subst (Joins g from) (sym to) (left.links from (port_of act.call.s.clock (suc i)) joins)))),
      )
        where
          to : act.l.to ≡ port_of act.call.s.clock (suc i)
          to = λ j. port_of (sym act.owner j) (sym (act.heard (suc i) a touched).0 j)

          has : HasLane n w from (port_of act.call.s.clock (suc i))
          has = calm.lanes from (port_of act.call.s.clock (suc i)) joins

          lane_is : has.lane ≡ act.l
          lane_is =
              let place : n.lane from ≡ act.j =
              calm.apart (n.lane from) act.j has.lane act.l has.there act.pops.here (has.to ∙ sym to) in
              same_there w.lanes (n.lane from) has.lane act.l has.there
              (subst (λ m. slice_get w.lanes m ≡ Some act.l) (sym place) act.pops.here)

          from_is : act.l.from ≡ from
          from_is = ap (λ (l : Lane). l.from) (sym lane_is) ∙ has.from

  -- and so did all that is on its way to a live system, where that fits
  arrived_so : (w w' : MachineState) (act : Arrives says w w') → Calm n w → EverythingFits says g n w
      → IsSoundOnLinks says g w → HeardIsSound act.call.s act.touch
  unfolding HeardIsSound
  arrived_so w w' act calm fits all i q a touched at on = (
    act.l.from,
    subst (Joins g act.l.from) to came.joins,
    all.lanes act.j act.l act.f a act.pops.here among (act.heard (suc i) a touched).1 came.joins,
  )
    where
      to : act.l.to ≡ port_of act.call.s.clock (suc i)
      to = λ j. port_of (sym act.owner j) (sym (act.heard (suc i) a touched).0 j)

      among : In act.f act.l.frames
      among = subst (In act.f) (sym act.pops.frames) (inl (λ j. act.f))

      known : In act.l.to.clock (clocks n.graph)
      known =
          subst (λ c. In c (clocks n.graph)) act.owner
          (In-clocks n.graph (station_system act.call.s)
          (calm.facts.stations act.call.place act.call.s
          (act.pops.stations act.call.place act.call.s act.call.here) act.call.live).known)

      came : FlightFits g act.l a
      came = fits.lanes act.j act.l act.f a act.pops.here among (act.heard (suc i) a touched).1 known

  -- nothing is heard
  heard_none : (s : Station) (touch : StationTouch) → ((m : ℕ) (a : Announce) → touch ≡ Hear m a → ⊥)
      → HeardIsSound s touch
  unfolding HeardIsSound
  heard_none s touch deaf i q a touched at on = absurd (deaf (suc i) a touched)

  -- every step between calm states keeps that all is sound
  pub left_sound_kept : (w w' : MachineState) → Calm n w → Calm n w' → UnlinkedAreOff n.graph w → MachineSteps says w w'
      → IsSoundOnLinks says g w
      → IsSoundOnLinks says g w'
  left_sound_kept w w' calm calm' off (inl wait) all =
      subst (IsSoundOnLinks says g) (sym wait.is) (record { lanes = all.lanes; stations = all.stations })
  left_sound_kept w w' calm calm' off (inr (inl act)) all =
      called act.touch act.mid w' act.call calm' (popped act.j act.l act.f act.fs w act.mid act.pops all)
      (arrived w w' act calm off all)
  left_sound_kept w w' calm calm' off (inr (inr (inl act))) all = popped act.j act.l act.f act.fs w w' act.pops all
  left_sound_kept w w' calm calm' off (inr (inr (inr act))) all =
      called act.touch w w' act.call calm' all (heard_none act.call.s act.touch act.deaf)

  -- and so where all that is on its way to live systems fits
  pub fits_sound_kept : (w w' : MachineState) → Calm n w → Calm n w' → EverythingFits says g n w
      → MachineSteps says w w' → IsSoundOnLinks says g w → IsSoundOnLinks says g w'
  fits_sound_kept w w' calm calm' fits (inl wait) all =
      subst (IsSoundOnLinks says g) (sym wait.is) (record { lanes = all.lanes; stations = all.stations })
  fits_sound_kept w w' calm calm' fits (inr (inl act)) all =
      called act.touch act.mid w' act.call calm' (popped act.j act.l act.f act.fs w act.mid act.pops all)
      (arrived_so w w' act calm fits all)
  fits_sound_kept w w' calm calm' fits (inr (inr (inl act))) all =
      popped act.j act.l act.f act.fs w w' act.pops all
  fits_sound_kept w w' calm calm' fits (inr (inr (inr act))) all =
      called act.touch w w' act.call calm' all (heard_none act.call.s act.touch act.deaf)

module _ (says : Spelling) (n : Network) (net : IsSettlingNetwork n) where
  pub sound_kept : (w w' : MachineState) → Calm n w → Calm n w' → UnlinkedAreOff n.graph w → MachineSteps says w w'
      → IsSoundOnLinks says n.graph w
      → IsSoundOnLinks says n.graph w'
  sound_kept = left_sound_kept says n.graph n (nothing_lost n net.graph)

  -- a system that answers to what is no Announce keeps it too, whatever the state before was
  pub reaction_sound : (w w' : MachineState) → StationAnswers says Other w w' → Calm n w'
      → IsSoundOnLinks says n.graph w
      → IsSoundOnLinks says n.graph w'
  reaction_sound w w' call calm' all =
      called says n.graph n (nothing_lost n net.graph) Other w w' call calm' all
      (heard_none says n.graph n (nothing_lost n net.graph) call.s Other (λ m a e. absurd cc))

-- what is sound fits
pub received_fits : (says : Spelling) (g : Snapshot) (w : MachineState) → IsWellFormed g → IsSoundOnLinks says g w
    → ReceivedFits g w
received_fits says g w wf all i s place r at live holds =
    came_fits g s.clock (suc place) r wf (all.stations i s place r at live holds)

-- ---- news

module _ (g g' : Snapshot) (news : HasNews g g') where
  route_on : (v u : ℕ) (us : List ℕ) → Route g v u us → Route g' v u us
  route_on v u [] here = here
  route_on v u (x ∷ xs) ((m, k, joins), rest) =
      ((m, k, news.links (port_of v m) (port_of x k) joins), route_on x u xs rest)

  pub clock_on : (v : ℕ) → In v (clocks g) → In v (clocks g')
  clock_on v here =
      let (s, live, clock) = systems.system_of g v here in
      let (s', live', same, lower) = news.systems s live in
      subst (λ c. In c (clocks g')) (same ∙ clock) (In-clocks g' s' live')

  pub path_on : (v u : ℕ) (us : List ℕ) → IsPath g v u us → IsPath g' v u us
  path_on v u us path = record {
    begins = clock_on v path.begins;
    route = route_on v u us path.route;
    different = path.different;
  }

  -- What was wholly clean stays so, unless its root has a lower identity now.
  pub news_sound : (u : ℕ) (a : Announce) → Whole g u a → IsWorse g' u a ⊎ Whole g' u a
  news_sound u a whole = go (news.systems whole.first whole.known)
    where
      go : ((s' : System) × In s' g'.systems × (s'.clock ≡ whole.first.clock) × (s'.identity ≤ whole.first.identity))
          → IsWorse g' u a ⊎ Whole g' u a
      go (s', live, clock, lower) = elim (dec_le whole.first.identity s'.identity) [
        | yes same ↦ inr (record {
          others = whole.others;
          first = s';
          is = whole.is;
          way = way;
          known = live;
          root = whole.root ∙ identity same;
          steps = whole.steps;
        })
        | no less ↦ inl (λ best is_best.
            let least : best.identity ≤ s'.identity = is_best.least s' live (whole.others, way) in
            let root : a.root ≡ whole.first.identity = whole.root in
            omega arith)
      ]
        where
          way : IsPath g' u s'.clock whole.others
          way =
              subst (λ c. IsPath g' u c whole.others) (sym clock)
              (path_on u whole.first.clock whole.others whole.way)

          identity : whole.first.identity ≤ s'.identity → whole.first.identity ≡ s'.identity
          identity h = omega arith

  -- so all of it is sound
  pub news_all_sound : (says : Spelling) (w : MachineState) → IsWellFormed g' → AllIsWhole says g (Joins g') w
      → IsSoundOnLinks says g' w
  news_all_sound says w wf all = record {
    lanes = λ j l f a at flies said joins.
        let is = all.lanes j l f a at flies said joins in
        record { source = is.source; sound = news_sound l.from.clock a is.whole };
    stations = λ i s place r at live holds.
        let came = all.stations i s place r at live holds in
        record {
          from = came.from;
          joins = news.links came.from (port_of s.clock (suc place)) came.joins;
          source = came.source;
          sound = news_sound came.from.clock r.said came.whole;
        };
  }
