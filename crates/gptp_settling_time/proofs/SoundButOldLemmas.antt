-- What is held is sound, and so is what is in flight, but for what is old: that is due by a time, and comes from who is
-- farther from the best, so that nobody takes it. So it is after a loss of which nothing tells that is taken.
use Rattle.std.proofs.Common.{◌≡◌, ◌⊎◌, ◌<◌, ◌≤◌, ℕ, suc, true, List, Some, slice_get, refl, sym, ap, subst, ◌∙◌, inl, inr, arith}
use Rattle.gptp_lists.specs.Members.{In}
use Rattle.gptp_lists.proofs.SystemSpecLemmas.{In-parts}
use Rattle.gptp_graph.specs.Best.{IsBest}
use Rattle.gptp_graph.specs.Distance.{IsDistance}
use Rattle.gptp_graph.specs.Snapshot.{Adjacent, IsLinked, IsWellFormed, Joins, PortIdentity, Snapshot, System, clocks, port_of}
use Rattle.gptp_graph.proofs.BestLemmas.{IsBest-neighbour}
use Rattle.gptp_graph.proofs.ExistenceLemmas.{distance_exists}
use Rattle.gptp_graph.proofs.LinkDecisions.{IsLinked-dec}
use Rattle.gptp_graph.proofs.LinkLemmas.{Joins-clock, Joins-sym}
use Rattle.gptp_graph.proofs.SystemLemmas.{In-clocks}
use Rattle.gptp_bmca_machine.specs.Acts.{Arrives, LaneStep, MachineSteps, Pops, StationAnswers}
use Rattle.gptp_bmca_machine.specs.Calm.{Calm, HasLane}
use Rattle.gptp_bmca_machine.specs.Clean.{CameSound, IsWorse, Whole}
use Rattle.gptp_bmca_machine.specs.Facts.{FollowsPort, station_system}
use Rattle.gptp_bmca_machine.specs.Frame.{Announce, AnnounceFrame, Lane, Send, Spelling}
use Rattle.gptp_bmca_machine.specs.Levels.{Invariant}
use Rattle.gptp_bmca_machine.specs.LossLaws.{EverythingFits, FlightFits}
use Rattle.gptp_bmca_machine.specs.Network.{IsSettlingNetwork, Network, network_setting, settled_from}
use Rattle.gptp_bmca_machine.specs.Reacts.{IsOwn, PortStep}
use Rattle.gptp_bmca_machine.specs.SoundEverywhere.{IsSoundEverywhere, IsSoundSent, MaySay, StationIsSound}
use Rattle.gptp_bmca_machine.specs.SoundLaws.{AllAreNear}
use Rattle.gptp_bmca_machine.specs.Station.{MachineState, Mine, Port, Received, Reception, Station}
use Rattle.gptp_bmca_machine.specs.Touch.{Hear, IsUsable, Replaces, StationTouch}
use Rattle.gptp_bmca_machine.proofs.PlaceLemmas.{same_there}
use Rattle.gptp_bmca_machine.proofs.SoundEverywhereLemmas.{may_say}
use Rattle.gptp_bmca_machine.proofs.TraceLemmas.{whole_on, whole_own}
use Rattle.gptp_settling_time.specs.Losses.{IsUnmoved}
use Rattle.gptp_settling_time.proofs.FitsLemmas.{IsLeftUnmoved, UnlinkedHoldNothing, distance_before, joined_stays}
use Rattle.gptp_settling_time.proofs.NotTakenLemmas.{farther_not_taken}
use Rattle.gptp_settling_time.proofs.TouchedLemmas.{mid_heard}
use Rattle.gptp_settling_time.proofs.UnlinkedLemmas.{IsFarther, far_holds_none}

-- ---- what a live system says

-- what is said by who may say it, and follows what is sound, is sound
pub says_followed : (g : Snapshot) (s : Station) (n : ℕ) (a : Announce) → IsWellFormed g → MaySay g s
    → ((port : FollowsPort s) → CameSound g s.clock (suc port.place) port.r)
    → IsOwn s n a → IsSoundSent g (port_of s.clock n) a
says_followed g s n a well is followed own = record {
  sender = here;
  source = own.source;
  sound = elim is.follows [
    | inl itself ↦ inr (whole_own g (station_system s) a is.known (own.root ∙ itself.root)
        (own.steps ∙ itself.steps) (own.path ∙ itself.trace))
    | inr port ↦ on port (followed port)
  ];
}
  where
    here : In s.clock (clocks g)
    here = In-clocks g (station_system s) is.known

    on : (p : FollowsPort s) → CameSound g s.clock (suc p.place) p.r → IsWorse g s.clock a ⊎ Whole g s.clock a
    on p came =
        let joined : Adjacent g s.clock came.from.clock =
        (suc p.place, came.from.port, Joins-sym g came.from (port_of s.clock (suc p.place)) came.joins) in
        elim came.sound [
          | inl worse ↦ inl (λ best of.
              subst (λ root. best.identity < root) (sym (own.root ∙ p.root))
              (worse best (IsBest-neighbour g s.clock came.from.clock best well joined of)))
          | inr whole ↦ inr (whole_on g s.clock came.from.clock p.r.said a whole here joined
              (is.no_loop p.place p.r p.holds) (own.root ∙ p.root) (own.steps ∙ p.steps) (own.path ∙ p.trace))
        ]

-- so is what is said by who holds what is sound
pub says_sound : (g : Snapshot) (s : Station) (n : ℕ) (a : Announce) → IsWellFormed g → MaySay g s → StationIsSound g s
    → IsOwn s n a → IsSoundSent g (port_of s.clock n) a
says_sound g s n a well is sound = says_followed g s n a well is (λ port. sound port.place port.r port.holds)

-- ---- what is claimed

-- it is due by then, and over a link it comes from who is farther, or as far with the higher clock
pub record IsOldOn (g : Snapshot) (old : ℕ) (from to : PortIdentity) (due : ℕ) : Type 0 where
  pub by : due ≤ old
  pub farther : Joins g from to → IsFarther g from to

-- each live system received what is sound, and each Announce in flight is a sound one of its sender, or it is old
pub record IsSoundButOld (says : Spelling) (g : Snapshot) (old : ℕ) (w : MachineState) : Type 0 where
  pub lanes : (j : ℕ) (l : Lane) (f : AnnounceFrame) (a : Announce) → slice_get w.lanes j ≡ Some l → In f l.frames
      → says f.octets a → IsSoundSent g l.from a ⊎ IsOldOn g old l.from l.to f.due
  pub stations : (i : ℕ) (s : Station) → slice_get w.stations i ≡ Some s → s.live ≡ true → StationIsSound g s

-- once what is old is gone all is sound
pub old_are_gone : (says : Spelling) (n : Network) (old : ℕ) (w : MachineState) → Calm n w → old < w.time
    → IsSoundButOld says n.graph old w → IsSoundEverywhere says n.graph w
old_are_gone says n old w calm late is = record {
  lanes = λ j l at f a among said. elim (is.lanes j l f a at among said) [
    | inl sound ↦ sound
    | inr gone ↦
        let by = gone.by in
        let left = calm.left j l f at among in
        absurd (omega (arith, by, left, late))
  ];
  stations = is.stations;
}

-- ---- every step keeps it

module _ (says : Spelling) (g : Snapshot) (n : Network) (well : IsWellFormed g) (net : IsSettlingNetwork n)
    (left : IsLeftUnmoved g n.graph) (near : AllAreNear n.graph) (w : MachineState) (calm : Calm n w)
    (invariant : Invariant says n w) (late : settled_from n ≤ w.time) (all : EverythingFits says g n w) where
  -- an Announce from who is farther replaces nothing that the port may hold
  module _ (i : ℕ) (s : Station) (here : slice_get w.stations i ≡ Some s) (live : s.live ≡ true) (place : ℕ)
      (q : Port) (there : slice_get s.ports place ≡ Some q) (from : PortIdentity) (a : Announce)
      (joins : Joins n.graph from (port_of s.clock (suc place)))
      (farther : IsFarther n.graph from (port_of s.clock (suc place))) (source : a.source ≡ from)
      (sender : (best : System) (far : ℕ) → IsBest g s.clock best → a.root ≡ best.identity
      → IsDistance g from.clock far → far ≤ a.steps)
      (above : (best : System) → IsBest g s.clock best → best.identity ≤ a.root) where
    abbrev to : PortIdentity
    to = port_of s.clock (suc place)

    back : Joins n.graph to from
    back = Joins-sym n.graph from to joins

    known : In s.clock (clocks n.graph)
    known = In-clocks n.graph (station_system s) (calm.facts.stations i s here live).known

    stays : IsUnmoved g n.graph s.clock
    stays = joined_stays g n.graph well net.graph left to from back

    stays_from : IsUnmoved g n.graph from.clock
    stays_from = joined_stays g n.graph well net.graph left from to joins

    -- the port received nothing over the link
    none_held : (r : Reception) → q.held ≡ Received r → ⊥
    none_held r holds =
        let (d, s_far, close) = near s.clock known in
        by d s_far close
        (distance_exists n.graph from.clock net.graph (Joins-clock n.graph from to net.graph joins))
      where
        by : (d : ℕ) → IsDistance n.graph s.clock d → d < 255 → ((far : ℕ) × IsDistance n.graph from.clock far) → ⊥
        by d s_far close (far, from_far) =
            far_holds_none says n net w calm invariant late i s place r from d far here live (q, there, holds) back
            s_far close from_far (farther far d from_far s_far)

    pub not_taken : Replaces s.clock (suc place) a q.held → ⊥
    not_taken = by (distance_exists n.graph from.clock net.graph (Joins-clock n.graph from to net.graph joins))
      where
        by : ((far : ℕ) × IsDistance n.graph from.clock far) → Replaces s.clock (suc place) a q.held → ⊥
        by (far, from_far) =
            farther_not_taken says g n well net left near w calm invariant late i s here live stays place q there
            from.clock far a (ap (λ (p : PortIdentity). p.clock) source) (λ d s_far. farther far d from_far s_far)
            (λ best is_best root. sender best far is_best root
            (distance_before g n.graph well net.graph left from.clock far stays_from from_far)) above none_held

  module _ (old : ℕ) (sound : IsSoundButOld says n.graph old w) (w' : MachineState) (calm' : Calm n w')
      (none' : UnlinkedHoldNothing n.graph w') where
    -- what a system takes at a port where a link is came over it, and is sound
    arrived : (act : Arrives says w w') (place : ℕ) (q : Port) (a : Announce) → act.touch ≡ Hear (suc place) a
        → slice_get act.call.s.ports place ≡ Some q → Replaces act.call.s.clock (suc place) a q.held
        → (from : PortIdentity) → Joins n.graph from (port_of act.call.s.clock (suc place))
        → IsSoundSent n.graph from a
    arrived act place q a hears there taken from joins =
        elim (sound.lanes act.j act.l act.f a act.pops.here among heard.1) [
          | inl is ↦ subst (λ p. IsSoundSent n.graph p a) from_is is
          | inr gone ↦ absurd (not_taken act.call.place act.call.s here act.call.live place q there from a joins
              (subst (λ p. IsFarther n.graph p (port_of act.call.s.clock (suc place))) from_is
              (subst (IsFarther n.graph act.l.from) to (gone.farther over))) (fit.source ∙ from_is)
              (λ best far is_best root is_far.
              fit.sender best far (subst (λ (x : PortIdentity). IsBest g x.clock best) (sym to) is_best) root
              (subst (λ (x : PortIdentity). IsDistance g x.clock far) (sym from_is) is_far))
              (λ best is_best.
              fit.fits.root best (subst (λ (x : PortIdentity). IsBest g x.clock best) (sym to) is_best)) taken)
        ]
      where
        here : slice_get w.stations act.call.place ≡ Some act.call.s
        here = act.pops.stations act.call.place act.call.s act.call.here

        heard : (suc place ≡ act.l.to.port) × says act.f.octets a
        heard = act.heard (suc place) a hears

        to : act.l.to ≡ port_of act.call.s.clock (suc place)
        to = λ j. port_of (sym act.owner j) (sym heard.0 j)

        among : In act.f act.l.frames
        among = subst (In act.f) (sym act.pops.frames) (inl refl)

        has : HasLane n w from (port_of act.call.s.clock (suc place))
        has = calm.lanes from (port_of act.call.s.clock (suc place)) joins

        lane_is : has.lane ≡ act.l
        lane_is =
            let one : n.lane from ≡ act.j =
            calm.apart (n.lane from) act.j has.lane act.l has.there act.pops.here (has.to ∙ sym to) in
            same_there w.lanes (n.lane from) has.lane act.l has.there
            (subst (λ m. slice_get w.lanes m ≡ Some act.l) (sym one) act.pops.here)

        from_is : act.l.from ≡ from
        from_is = ap (λ (l : Lane). l.from) (sym lane_is) ∙ has.from

        over : Joins n.graph act.l.from act.l.to
        over =
            subst (λ p. Joins n.graph p act.l.to) (sym from_is)
            (subst (Joins n.graph from) (sym to) joins)

        lives : In act.l.to.clock (clocks n.graph)
        lives =
            subst (λ c. In c (clocks n.graph)) act.owner
            (In-clocks n.graph (station_system act.call.s)
            (calm.facts.stations act.call.place act.call.s here act.call.live).known)

        fit : FlightFits g act.l a
        fit = all.lanes act.j act.l act.f a act.pops.here among heard.1 lives

    -- one system answers
    module _ (touch : StationTouch) (mid : MachineState) (stood : (i : ℕ) (s : Station)
        → slice_get mid.stations i ≡ Some s → slice_get w.stations i ≡ Some s)
        (flies : (j : ℕ) (l : Lane) (f : AnnounceFrame) (a : Announce) → slice_get mid.lanes j ≡ Some l
        → In f l.frames → says f.octets a → IsSoundSent n.graph l.from a ⊎ IsOldOn n.graph old l.from l.to f.due)
        (call : StationAnswers says touch mid w')
        (heard : (place : ℕ) (q : Port) (a : Announce) → touch ≡ Hear (suc place) a
        → slice_get call.s.ports place ≡ Some q → Replaces call.s.clock (suc place) a q.held
        → (from : PortIdentity) → Joins n.graph from (port_of call.s.clock (suc place))
        → IsSoundSent n.graph from a) where
      live' : call.s'.live ≡ true
      live' = call.reacts.live ∙ call.live

      held' : StationIsSound n.graph call.s'
      held' place r (q', at, holds) = go (call.reacts.ports place q' at)
        where
          over : IsLinked n.graph (port_of call.s.clock (suc place))
          over = elim (IsLinked-dec n.graph (port_of call.s.clock (suc place))) [
            | yes linked ↦ linked
            | no unlinked ↦
                absurd (none' call.place call.s' place r call.there live'
                (subst (λ c. IsLinked n.graph (port_of c (suc place)) → ⊥) (sym call.reacts.clock) unlinked)
                (q', at, holds))
          ]

          came : (q : Port) → slice_get call.s.ports place ≡ Some q
              → (q.held ≡ Received r)
              ⊎ ((touch ≡ Hear (suc place) r.said) × IsUsable call.s.clock r.said
              × Replaces call.s.clock (suc place) r.said q.held) → CameSound n.graph call.s.clock (suc place) r
          came q there (inl before) =
              sound.stations call.place call.s (stood call.place call.s call.here) call.live place r
              (q, there, before)
          came q there (inr (hears, usable, taken)) =
              let (from, joins) = over in
              let back = Joins-sym n.graph (port_of call.s.clock (suc place)) from joins in
              let is = heard place q r.said hears there taken from back in
              record { from = from; joins = back; source = is.source; sound = is.sound }

          go : ((q : Port) × (slice_get call.s.ports place ≡ Some q)
              × PortStep says call.s.clock (suc place) mid.time touch call.s'.root call.s'.steps q q' call.sends)
              → CameSound n.graph call.s'.clock (suc place) r
          go (q, there, step) =
              subst (λ c. CameSound n.graph c (suc place) r) (sym call.reacts.clock) (elim step.after [
                | inl (kept, is_kept) ↦ came q there
                    (mid_heard call.s.clock (suc place) mid.time touch q.held step.mid r step.before
                    (sym kept ∙ holds))
                | inr master_is ↦
                    absurd (let x : Mine call.s'.root call.s'.steps ≡ Received r = sym master_is.mine ∙ holds in cc)
              ])

      may : MaySay n.graph call.s'
      may =
          may_say (network_setting n) w'.time call.s' (calm'.facts.stations call.place call.s' call.there live')

      lanes' : (j : ℕ) (l' : Lane) (f : AnnounceFrame) (a : Announce) → slice_get w'.lanes j ≡ Some l'
          → In f l'.frames → says f.octets a
          → IsSoundSent n.graph l'.from a ⊎ IsOldOn n.graph old l'.from l'.to f.due
      lanes' j l' f a at among said =
          let (l, there, step) = call.lanes j l' at in by l there step
        where
          by : (l : Lane) → slice_get mid.lanes j ≡ Some l → LaneStep call.s.clock call.sends l l'
              → IsSoundSent n.graph l'.from a ⊎ IsOldOn n.graph old l'.from l'.to f.due
          by l there step =
              elim (In-parts f l.frames step.news (subst (In f) step.behind among)) [
                | inl before ↦
                    subst (λ p. IsSoundSent n.graph p a ⊎ IsOldOn n.graph old p l'.to f.due) (sym step.from)
                    (subst (λ p. IsSoundSent n.graph l.from a ⊎ IsOldOn n.graph old l.from p f.due) (sym step.to)
                    (flies j l f a there before said))
                | inr new ↦ inl (fresh (step.sent f new))
              ]
            where
              fresh : ((x : Send) × In x call.sends × (l.from ≡ port_of call.s.clock x.port)
                  × (f.octets ≡ x.octets)) → IsSoundSent n.graph l'.from a
              fresh (x, x_in, from, octets) =
                  let own : IsOwn call.s' x.port a =
                  (call.reacts.tells x a x_in (subst (λ (o : List ℕ). says o a) octets said)).0 in
                  let at_port : port_of call.s'.clock x.port ≡ l'.from =
                  (λ i. port_of (call.reacts.clock i) x.port) ∙ sym (step.from ∙ from) in
                  subst (λ p. IsSoundSent n.graph p a) at_port
                  (says_sound n.graph call.s' x.port a net.graph may held' own)

      answered : IsSoundButOld says n.graph old w'
      answered = record {
        lanes = lanes';
        stations = λ i s at live. elim (call.stations i s at) [
          | inl (same, is) ↦ subst (StationIsSound n.graph) (sym is) held'
          | inr (other, before) ↦ sound.stations i s (stood i s before) live
        ];
      }

    -- a frame is taken off its lane
    popped : (j : ℕ) (l : Lane) (f : AnnounceFrame) (fs : List AnnounceFrame) (mid : MachineState)
        → Pops j l f fs w mid → (k : ℕ) (m : Lane) (h : AnnounceFrame) (a : Announce) → slice_get mid.lanes k ≡ Some m
        → In h m.frames → says h.octets a
        → IsSoundSent n.graph m.from a ⊎ IsOldOn n.graph old m.from m.to h.due
    popped j l f fs mid pops k m h a at among said = elim (pops.lanes k m at) [
      | inl (same, is) ↦
          subst (λ (x : Lane). IsSoundSent n.graph x.from a ⊎ IsOldOn n.graph old x.from x.to h.due) (sym is)
          (sound.lanes j l h a pops.here
          (subst (In h) (sym pops.frames) (inr (subst (λ (x : Lane). In h x.frames) is among))) said)
      | inr (other, there) ↦ sound.lanes k m h a there among said
    ]

    pub but_old_kept : MachineSteps says w w' → IsSoundButOld says n.graph old w'
    but_old_kept (inl wait) =
        subst (IsSoundButOld says n.graph old) (sym wait.is)
        (record { lanes = sound.lanes; stations = sound.stations })
    but_old_kept (inr (inl act)) =
        answered act.touch act.mid act.pops.stations (popped act.j act.l act.f act.fs act.mid act.pops) act.call
        (arrived act)
    but_old_kept (inr (inr (inl act))) = record {
      lanes = popped act.j act.l act.f act.fs w' act.pops;
      stations = λ i s at. sound.stations i s (act.pops.stations i s at);
    }
    but_old_kept (inr (inr (inr act))) =
        answered act.touch w (λ i s at. at) sound.lanes act.call
        (λ place q a hears. absurd (act.deaf (suc place) a hears))
