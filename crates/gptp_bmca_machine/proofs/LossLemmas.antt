-- All that is held and in flight fits the snapshot of before after a loss, and every step keeps it.
use Rattle.std.proofs.Common.{◌≡◌, ◌⊎◌, ◌≤◌, ◌++◌, ℕ, suc, true, List, [], ◌∷◌, Some, length, slice_get, refl, sym, ap, subst, ◌∙◌, inl, inr, arith}
use Rattle.std.proofs.lemmas.List.{length-append}
use Rattle.gptp_lists.specs.Members.{In}
use Rattle.gptp_lists.proofs.SystemSpecLemmas.{In-parts}
use Rattle.gptp_graph.specs.Snapshot.{System, PortIdentity, Snapshot, clocks, port_of, Joins, Adjacent, IsLinked}
use Rattle.gptp_graph.specs.Best.{IsBest}
use Rattle.gptp_graph.specs.Distance.{IsDistance}
use Rattle.gptp_graph.proofs.LinkLemmas.{Joins-sym, Joins-clock, Adjacent-sym}
use Rattle.gptp_graph.proofs.SystemLemmas.{In-clocks, system_of as live_system}
use Rattle.gptp_graph.proofs.BestLemmas.{IsBest-unique, IsBest-neighbour}
use Rattle.gptp_graph.proofs.DistanceLemmas.{IsDistance-unique, IsDistance-neighbour, IsDistance-clock}
use Rattle.gptp_graph.proofs.ExistenceLemmas.{distance_exists}
use Rattle.gptp_bmca_machine.specs.Frame.{Announce, Spelling, AnnounceFrame, Lane}
use Rattle.gptp_bmca_machine.specs.Station.{Reception, Station, MachineState, HoldsAt}
use Rattle.gptp_bmca_machine.specs.Touch.{StationTouch, Hear}
use Rattle.gptp_bmca_machine.specs.Reacts.{IsOwn}
use Rattle.gptp_bmca_machine.specs.Acts.{StationAnswers, Pops, Arrives, MachineSteps}
use Rattle.gptp_bmca_machine.specs.Clean.{HeldFits, CameOverLink, CameFits}
use Rattle.gptp_bmca_machine.specs.Sound.{ReceivedFits}
use Rattle.gptp_bmca_machine.specs.Facts.{station_system, FollowsItself, FollowsPort, IsLiveStationState}
use Rattle.gptp_bmca_machine.specs.Link.{Stand}
use Rattle.gptp_bmca_machine.specs.Network.{Network, IsSettlingNetwork, network_setting, settled_from, wiring}
use Rattle.gptp_bmca_machine.specs.Calm.{Calm}
use Rattle.gptp_bmca_machine.specs.Levels.{LeadsFarther, LevelSettles, Invariant}
use Rattle.gptp_bmca_machine.specs.Run.{last_state, NearHaveSettled}
use Rattle.gptp_bmca_machine.specs.RestLaws.{IsResting}
use Rattle.gptp_bmca_machine.specs.LossLaws.{FlightFits, EverythingFits, IsWhatIsLeft, IsLoss, NothingMoved, IsLossRun, WasSystem}
use Rattle.gptp_bmca_machine.proofs.NearestLemmas.{came_fits}
use Rattle.gptp_bmca_machine.proofs.RestLemmas.{IsClear, bounded, root_above, steps_above, was_there}
use Rattle.gptp_bmca_machine.proofs.ReactsLemmas.{JustHeard, held_from}
use Rattle.gptp_bmca_machine.proofs.EndsLemmas.{is_station}
use Rattle.gptp_bmca_machine.proofs.LevelLemmas.{invariant_kept}
use Rattle.gptp_bmca_machine.proofs.SettledLemmas.{network_settles}
use Rattle.gptp_bmca_machine.proofs.RestingLemmas.{links_stay, stays_so}

module _ (says : Spelling) (g : Snapshot) (n : Network) (left : IsWhatIsLeft g n) where
  -- the system is one of the snapshot, maybe with a better identity
  known_in : (now : ℕ) (s : Station) → IsLiveStationState (network_setting n) now s → WasSystem g (station_system s)
  known_in now s is = left.systems (station_system s) is.known

  -- all that the station holds fits
  abbrev pub StationFits : Station → Type 0
  StationFits s = (place : ℕ) (r : Reception) → HoldsAt s place r → CameFits g s.clock (suc place) r

  -- what a live system says, over a link to u, fits u
  module _ (w : MachineState) (calm : Calm n w) (i : ℕ) (s : Station) (at : slice_get w.stations i ≡ Some s)
      (live : s.live ≡ true) (held : StationFits s) (p : ℕ) (a : Announce) (own : IsOwn s p a) where
    is : IsLiveStationState (network_setting n) w.time s
    is = calm.facts.stations i s at live

    clear : IsClear g s
    clear = record {
      rest = (calm.stations i s at live).at_rest;
      known = known_in w.time s is;
      held = λ i r holds.
          bounded g s.clock (suc i) r (held i r holds);
    }

    above : (best : System) → IsBest g s.clock best → best.identity ≤ a.root
    above best is_best =
        subst (λ x. best.identity ≤ x) (sym own.root) (root_above g left.graph s clear best is_best)

    here : (best : System) (far : ℕ) → IsBest g s.clock best → a.root ≡ best.identity → IsDistance g s.clock far
        → far ≤ a.steps
    here best far is_best root far_is =
        subst (λ x. far ≤ x) (sym own.steps)
        (steps_above g left.graph s clear best is_best far far_is (sym own.root ∙ root))

    members : (best : System) (x far : ℕ) → IsBest g s.clock best → a.root ≡ best.identity → In x a.path
        → IsBest g x best → IsDistance g x far → far ≤ a.steps
    members best x far is_best root among is_best' far_is = by is.follows
      where
        itself_is : x ≡ s.clock → far ≤ a.steps
        itself_is e = here best far is_best root (subst (λ c. IsDistance g c far) e far_is)

        by : FollowsItself s ⊎ FollowsPort s → far ≤ a.steps
        by (inl itself) = elim (subst (In x) (own.path ∙ itself.trace) among)
            [ inl e ↦ itself_is e | inr none ↦ absurd none ]
        by (inr port) = elim (In-parts x port.r.said.path (s.clock ∷ []) (subst (In x) (own.path ∙ port.trace) among)) [
          | inl before ↦
              let few : far ≤ port.r.said.steps =
              (held port.place port.r port.holds).fits.members best x far is_best
              (sym port.root ∙ sym own.root ∙ root) before
              is_best' far_is in
              let more : s.steps ≡ suc port.r.said.steps = port.steps in
              let same : a.steps ≡ s.steps = own.steps in
              omega arith
          | inr (inl e) ↦ itself_is e
          | inr (inr none) ↦ absurd none
        ]

    long : (best : System) → IsBest g s.clock best → a.root ≡ best.identity → length a.path ≡ suc a.steps
    long best is_best root = by is.follows
      where
        by : FollowsItself s ⊎ FollowsPort s → length a.path ≡ suc a.steps
        by (inl itself) =
            ap (λ (xs : List ℕ). length xs) (own.path ∙ itself.trace) ∙ ap suc (sym (own.steps ∙ itself.steps))
        by (inr port) =
            let one : length a.path ≡ length (port.r.said.path ++ s.clock ∷ []) =
            ap (λ (xs : List ℕ). length xs) (own.path ∙ port.trace) in
            let two : length port.r.said.path ≡ suc port.r.said.steps =
            (held port.place port.r port.holds).fits.long best is_best (sym port.root ∙ sym own.root ∙ root) in
            let more : a.steps ≡ suc port.r.said.steps = own.steps ∙ port.steps in
            omega (arith, length-append port.r.said.path (s.clock ∷ []))

    pub flight_fits : (l : Lane) → l.from ≡ port_of s.clock p → Joins g l.from l.to → FlightFits g l a
    flight_fits l from joins = record {
      joins = joins;
      source = own.source ∙ sym from;
      sender = λ best far is_best root far_is.
          here best far (there best is_best) root (subst (λ (x : PortIdentity). IsDistance g x.clock far) from far_is);
      fits = record {
        root = λ best is_best. above best (there best is_best);
        here = λ best far is_best root far_is. by best far is_best root far_is
            (distance_exists g s.clock left.graph (was_there g (station_system s) (known_in w.time s is)));
        members = λ best x far is_best root. members best x far (there best is_best) root;
        long = λ best is_best. long best (there best is_best);
      };
    }
      where
        joined : Adjacent g l.to.clock s.clock
        joined =
            (l.to.port, p, Joins-sym g (port_of s.clock p) l.to (subst (λ x. Joins g x l.to) from joins))

        there : (best : System) → IsBest g l.to.clock best → IsBest g s.clock best
        there best is_best = IsBest-neighbour g l.to.clock s.clock best left.graph joined is_best

        by : (best : System) (far : ℕ) → IsBest g l.to.clock best → a.root ≡ best.identity → IsDistance g l.to.clock far
            → ((e : ℕ) × IsDistance g s.clock e) → far ≤ suc a.steps
        by best far is_best root far_is (e, e_is) =
            let least : e ≤ a.steps = here best e (there best is_best) root e_is in
            let near : far ≤ suc e =
            IsDistance-neighbour g s.clock l.to.clock e far left.graph (Adjacent-sym g l.to.clock s.clock joined) e_is
            far_is in
            omega arith

  -- what a system hears at a port fits, as what the port would hold
  HeardFits : Station → StationTouch → Type 0
  HeardFits s touch = (i : ℕ) (a : Announce) → touch ≡ Hear (suc i) a
      → (IsLinked g (port_of s.clock (suc i)) → CameOverLink g s.clock (suc i) a) × HeldFits g s.clock a

  -- one system answers
  called : (touch : StationTouch) (w w' : MachineState) (call : StationAnswers says touch w w') → Calm n w'
      → EverythingFits says g n w
      → HeardFits call.s touch → EverythingFits says g n w'
  unfolding HeardFits
  called touch w w' call calm' all heard = record { lanes = lanes; stations = stations }
    where
      live' : call.s'.live ≡ true
      live' = call.reacts.live ∙ call.live

      held' : StationFits call.s'
      held' i r holds =
          subst (λ v. CameFits g v (suc i) r) (sym call.reacts.clock)
          (elim (held_from says call.s call.s' touch w.time call.sends call.reacts i r holds) [
            | inl before ↦ all.stations call.place call.s i r call.here call.live before
            | inr just ↦ came just (heard i just.said just.touched)
          ])
        where
          came : (just : JustHeard call.s.clock (suc i) w.time touch r)
              → ((IsLinked g (port_of call.s.clock (suc i)) → CameOverLink g call.s.clock (suc i) just.said)
              × HeldFits g call.s.clock just.said)
              → CameFits g call.s.clock (suc i) r
          came just (over, fits) = record {
            over = λ linked. subst (CameOverLink g call.s.clock (suc i)) (sym just.is_said) (over linked);
            fits = subst (HeldFits g call.s.clock) (sym just.is_said) fits;
          }

      stations : (i : ℕ) (s : Station) (place : ℕ) (r : Reception) → slice_get w'.stations i ≡ Some s
          → s.live ≡ true → HoldsAt s place r → CameFits g s.clock (suc place) r
      stations i s place r at live holds = elim (call.stations i s at) [
        | inl (same, is) ↦ subst StationFits (sym is) held' place r holds
        | inr (other, stood) ↦ all.stations i s place r stood live holds
      ]

      lanes : (j : ℕ) (l' : Lane) (f : AnnounceFrame) (a : Announce) → slice_get w'.lanes j ≡ Some l' → In f l'.frames
          → says f.octets a → In l'.to.clock (clocks n.graph) → FlightFits g l' a
      lanes j l' f a at flies said known =
          let (l, stood, step) = call.lanes j l' at in
          elim (In-parts f l.frames step.news (subst (In f) step.behind flies)) [
            | inl old ↦
                let fit = all.lanes j l f a stood old said
                (subst (λ (x : PortIdentity). In x.clock (clocks n.graph)) step.to known) in
                record {
                  joins = subst (λ x. Joins g x l'.to) (sym step.from) (subst (Joins g l.from) (sym step.to) fit.joins);
                  source = fit.source ∙ sym step.from;
                  sender = λ best far is_best root far_is. fit.sender best far
                      (subst (λ (x : PortIdentity). IsBest g x.clock best) step.to is_best) root
                      (subst (λ (x : PortIdentity). IsDistance g x.clock far) step.from far_is);
                  fits = subst (λ (x : PortIdentity). HeldFits g x.clock a) (sym step.to) fit.fits;
                }
            | inr new ↦
                let (x, x_in, from, octets) = step.sent f new in
                let own : IsOwn call.s' x.port a =
                (call.reacts.tells x a x_in (subst (λ (o : List ℕ). says o a) octets said)).0 in
                let port : l'.from ≡ port_of call.s'.clock x.port =
                step.from ∙ from ∙ (λ i. port_of (sym call.reacts.clock i) x.port) in
                let sender = In-clocks n.graph (station_system call.s')
                (calm'.facts.stations call.place call.s' call.there live').known in
                let joins = calm'.facts.linked j l' f at flies
                (subst (λ (x : PortIdentity). In x.clock (clocks n.graph)) (sym port) sender) known in
                flight_fits w' calm' call.place call.s' call.there live' held' x.port a own l' port
                (left.links l'.from l'.to joins)
          ]

  -- a frame is taken off its lane
  popped : (j : ℕ) (l : Lane) (f : AnnounceFrame) (fs : List AnnounceFrame) (w w' : MachineState) → Pops j l f fs w w'
      → EverythingFits says g n w
      → EverythingFits says g n w'
  popped j l f fs w w' pops all = record {
    lanes = λ m l' x a at flies said known. elim (pops.lanes m l' at) [
      | inl (same, is) ↦
          let fit = all.lanes j l x a pops.here
          (subst (In x) (sym pops.frames) (inr (subst (λ (y : Lane). In x y.frames) is flies))) said
          (subst (λ (y : Lane). In y.to.clock (clocks n.graph)) is known) in
          subst (λ (y : Lane). FlightFits g y a) (sym is)
          (record { joins = fit.joins; source = fit.source; sender = fit.sender; fits = fit.fits })
      | inr (other, stood) ↦ all.lanes m l' x a stood flies said known
    ];
    stations = λ i s place r at. all.stations i s place r (pops.stations i s at);
  }

  -- what arrives fits
  arrived : (w w' : MachineState) (act : Arrives says w w') → Calm n w → EverythingFits says g n w
      → HeardFits act.call.s act.touch
  unfolding HeardFits
  arrived w w' act calm all i a touched = (
    over,
    subst (λ c. HeldFits g c a) (sym act.owner) fit.fits,
  )
    where
      known : In act.l.to.clock (clocks n.graph)
      known =
          subst (λ c. In c (clocks n.graph)) act.owner
          (In-clocks n.graph (station_system act.call.s) (calm.facts.stations act.call.place act.call.s
          (act.pops.stations act.call.place act.call.s act.call.here) act.call.live).known)

      fit : FlightFits g act.l a
      fit =
          all.lanes act.j act.l act.f a act.pops.here (subst (In act.f) (sym act.pops.frames) (inl refl))
          (act.heard (suc i) a touched).1 known

      to : act.l.to ≡ port_of act.call.s.clock (suc i)
      to = λ j. port_of (sym act.owner j) (sym (act.heard (suc i) a touched).0 j)

      over : IsLinked g (port_of act.call.s.clock (suc i)) → CameOverLink g act.call.s.clock (suc i) a
      over linked = record {
        from = act.l.from;
        joins = subst (Joins g act.l.from) to fit.joins;
        source = fit.source;
        sender = λ best far is_best.
            fit.sender best far (subst (λ (x : PortIdentity). IsBest g x.clock best) (sym to) is_best);
      }

  heard_none : (s : Station) (touch : StationTouch) → ((m : ℕ) (a : Announce) → touch ≡ Hear m a → ⊥)
      → HeardFits s touch
  unfolding HeardFits
  heard_none s touch deaf i a touched = absurd (deaf (suc i) a touched)

  -- every step keeps that all fits
  pub fits_kept : (w w' : MachineState) → Calm n w → Calm n w' → MachineSteps says w w' → EverythingFits says g n w
      → EverythingFits says g n w'
  fits_kept w w' calm calm' (inl wait) all =
      subst (EverythingFits says g n) (sym wait.is) (record { lanes = all.lanes; stations = all.stations })
  fits_kept w w' calm calm' (inr (inl act)) all =
      called act.touch act.mid w' act.call calm' (popped act.j act.l act.f act.fs w act.mid act.pops all)
      (arrived w w' act calm all)
  fits_kept w w' calm calm' (inr (inr (inl act))) all = popped act.j act.l act.f act.fs w w' act.pops all
  fits_kept w w' calm calm' (inr (inr (inr act))) all =
      called act.touch w w' act.call calm' all (heard_none act.call.s act.touch act.deaf)

  -- so nothing is better than in the snapshot
  pub nothing_better : (w : MachineState) (i : ℕ) (s : Station) (best : System) → Calm n w → EverythingFits says g n w
      → slice_get w.stations i ≡ Some s → s.live ≡ true → IsBest g s.clock best
      → (best.identity ≤ s.root) × ((far : ℕ) → IsDistance g s.clock far → s.root ≡ best.identity → far ≤ s.steps)
  nothing_better w i s best calm all at live is_best =
      let clear : IsClear g s =
      record {
        rest = (calm.stations i s at live).at_rest;
        known = known_in w.time s (calm.facts.stations i s at live);
        held = λ place r holds. bounded g s.clock (suc place) r (all.stations i s place r at live holds);
      } in
      (root_above g left.graph s clear best is_best, steps_above g left.graph s clear best is_best)

-- ---- a loss

pub loss_fits : (says : Spelling) (n n' : Network) (w w' : MachineState) → IsSettlingNetwork n → IsLoss says n n' w w'
    → EverythingFits says n.graph n' w'
loss_fits says n n' w w' net loss = record {
  lanes = λ j l f a at flies said known.
      let (stood, joins) = loss.flight j l f a at flies said known in
      let is = loss.rests.whole.lanes j l f a stood flies said joins in
      let r : Reception = record { said = a; at = 0; span = 0 } in
      let fit =
      came_fits n.graph l.to.clock l.to.port r net.graph
      (record { from = l.from; joins = joins; source = is.source; sound = inr is.whole }) in
      let over = fit.over (l.from, Joins-sym n.graph l.from l.to joins) in
      let one = net.graph.one_link l.to over.from l.from (Joins-sym n.graph over.from l.to over.joins)
      (Joins-sym n.graph l.from l.to joins) in
      record {
        joins = joins;
        source = is.source;
        sender = λ best far is_best root far_is. over.sender best far is_best root
            (subst (λ (p : PortIdentity). IsDistance n.graph p.clock far) (sym one) far_is);
        fits = fit.fits;
      };
  stations = λ i s place r at live holds.
      let came = loss.rests.whole.stations i s place r (loss.stations i s at live) live holds in
      came_fits n.graph s.clock (suc place) r net.graph
      (record { from = came.from; joins = came.joins; source = came.source; sound = inr came.whole });
}

-- ---- a loss that moves nothing

module _ (says : Spelling) (n n' : Network) (net : IsSettlingNetwork n) (net' : IsSettlingNetwork n')
    (w w' : MachineState)
    (moved : NothingMoved says n n' w w') (calm' : Calm n' w') where
  rests : IsResting says n w
  rests = moved.loss.rests

  -- live systems and links were so before
  live_before : (v : ℕ) → In v (clocks n'.graph) → In v (clocks n.graph)
  live_before v known =
      let (s, here, clock) = live_system n'.graph v known in
      subst (λ c. In c (clocks n.graph)) clock (was_there n.graph s (moved.loss.left.systems s here))

  -- what is best and how far is so for both
  best_back : (v : ℕ) (b : System) → In v (clocks n'.graph) → IsBest n'.graph v b → IsBest n.graph v b
  best_back v b known is_best =
      let (d, here, near) = rests.near v (live_before v known) in
      subst (IsBest n.graph v)
      (IsBest-unique n'.graph v here.best b net'.graph ((moved.unmoved v known).best here.best here.is_best) is_best)
      here.is_best

  far_back : (v d : ℕ) → In v (clocks n'.graph) → IsDistance n'.graph v d → IsDistance n.graph v d
  far_back v d known far =
      let (e, here, near) = rests.near v (live_before v known) in
      subst (IsDistance n.graph v) (IsDistance-unique n'.graph v e d net'.graph ((moved.unmoved v known).far e here)
      far) here

  -- what fitted before fits
  fits_on : (c : ℕ) (a : Announce) → In c (clocks n'.graph) → HeldFits n.graph c a → HeldFits n'.graph c a
  fits_on c a known fits = record {
    root = λ best is_best. fits.root best (best_back c best known is_best);
    here = λ best far is_best root far_is.
        fits.here best far (best_back c best known is_best) root (far_back c far known far_is);
    members = λ best x far is_best root among is_best' far_is.
        let known_x = IsDistance-clock n'.graph x far net'.graph far_is in
        fits.members best x far (best_back c best known is_best) root among (best_back x best known_x is_best')
        (far_back x far known_x far_is);
    long = λ best is_best. fits.long best (best_back c best known is_best);
  }

  over_on : (c m : ℕ) (a : Announce) → In c (clocks n'.graph) → CameOverLink n.graph c m a
      → IsLinked n'.graph (port_of c m)
      → CameOverLink n'.graph c m a
  over_on c m a known came (from, linked) = record {
    from = from;
    joins = Joins-sym n'.graph (port_of c m) from linked;
    source = came.source ∙ one;
    sender = λ best far is_best root far_is. came.sender best far (best_back c best known is_best) root
        (subst (λ (p : PortIdentity). IsDistance n.graph p.clock far) (sym one)
        (far_back from.clock far (Joins-clock n'.graph from (port_of c m) net'.graph
        (Joins-sym n'.graph (port_of c m) from linked)) far_is));
  }
    where
      one : came.from ≡ from
      one =
          net.graph.one_link (port_of c m) came.from from (Joins-sym n.graph came.from (port_of c m) came.joins)
          (moved.loss.left.links (port_of c m) from linked)

  -- in any later state what fits as before fits now
  pub fits_now : (x : MachineState) → Calm n' x → ReceivedFits n.graph x → ReceivedFits n'.graph x
  fits_now x calm all i s place r at live holds =
      let known = In-clocks n'.graph (station_system s) (calm.facts.stations i s at live).known in
      let fit = all i s place r at live holds in
      record {
        over = λ linked. over_on s.clock (suc place) r.said known (fit.over (linked_before s.clock (suc place) linked))
            linked;
        fits = fits_on s.clock r.said known fit.fits;
      }
    where
      linked_before : (c m : ℕ) → IsLinked n'.graph (port_of c m) → IsLinked n.graph (port_of c m)
      linked_before c m (q, joins) = (q, moved.loss.left.links (port_of c m) q joins)

  all_now : ReceivedFits n'.graph w'
  all_now = fits_now w' calm' (loss_fits says n n' w w' net moved.loss).stations

  -- each link is at its last stage, as it was
  levels : (d : ℕ) → LevelSettles says n' d w'
  levels d best v p u q close leads from pv pu l stand ready =
      inr (inr (stays_so says n n' moved.loss.same d best best v p u q refl pv.announce pu.held l.frames
      (links_stay says n net w rests.calm rests.invariant rests.late d best v p u q close before pv pu l stood)))
    where
      known_v : In v (clocks n'.graph)
      known_v = Joins-clock n'.graph (port_of v (suc p)) (port_of u (suc q)) net'.graph leads.joins

      known_u : In u (clocks n'.graph)
      known_u =
          Joins-clock n'.graph (port_of u (suc q)) (port_of v (suc p)) net'.graph
          (Joins-sym n'.graph (port_of v (suc p)) (port_of u (suc q)) leads.joins)

      before : LeadsFarther n.graph d best v p u q
      before = record {
        is_best = best_back v best known_v leads.is_best;
        here = far_back v d known_v leads.here;
        joins = moved.loss.left.links (port_of v (suc p)) (port_of u (suc q)) leads.joins;
        far = leads.far;
        there = far_back u leads.far known_u leads.there;
        farther = leads.farther;
      }

      stands_before : (x : ℕ) (s : Station) → In x (clocks n'.graph) → slice_get w'.stations (n'.place x) ≡ Some s
          → slice_get w.stations (n.place x) ≡ Some s
      stands_before x s known at =
          let (live, clock) = is_station n' net' w' calm' (λ late. all_now) x s known at in
          subst (λ i. slice_get w.stations i ≡ Some s) (moved.loss.same.place x)
          (moved.loss.stations (n'.place x) s at live)

      stood : Stand (wiring n d best v p u q) w pv pu l
      stood = record {
        v = stand.v;
        u = stand.u;
        teller = stands_before v stand.v known_v stand.teller;
        teller_port = stand.teller_port;
        hearer = stands_before u stand.u known_u stand.hearer;
        hearer_port = stand.hearer_port;
        lane = moved.loss.lanes (port_of v (suc p)) (port_of u (suc q)) l leads.joins
            (subst (λ i. slice_get w'.lanes i ≡ Some l) (moved.loss.same.lane (port_of v (suc p))) stand.lane);
      }

-- ---- a run after it

first_calm : (says : Spelling) (n : Network) (w : MachineState) (ws : List MachineState) → IsLossRun says n w ws
    → Calm n w
first_calm says n w [] run = run
first_calm says n w (w' ∷ ws) run = run.0

module _ (says : Spelling) (g : Snapshot) (n : Network) (net : IsSettlingNetwork n) (left : IsWhatIsLeft g n)
    (now : (w : MachineState) → Calm n w → ReceivedFits g w → ReceivedFits n.graph w) where
  run_keeps : (w : MachineState) (ws : List MachineState) → IsLossRun says n w ws → EverythingFits says g n w
      → Invariant says n w
      → Calm n (last_state w ws) × Invariant says n (last_state w ws)
  run_keeps w [] run all invariant = (run, invariant)
  run_keeps w (w' ∷ ws) (calm, nothing, waking, step, rest) all invariant =
      let calm' = first_calm says n w' ws rest in
      let all' = fits_kept says g n left w w' calm calm' step all in
      run_keeps w' ws rest all'
      (invariant_kept says n net w w' calm calm' nothing waking step (λ late. now w' calm' all'.stations) invariant)

pub nothing_moved_settles : (says : Spelling) (n n' : Network) (w w' : MachineState) (ws : List MachineState)
    → IsSettlingNetwork n → IsSettlingNetwork n'
    → NothingMoved says n n' w w' → IsLossRun says n' w' ws → settled_from n' ≤ (last_state w' ws).time
    → NearHaveSettled n' (last_state w' ws)
nothing_moved_settles says n n' w w' ws net net' moved run late i s at live near =
    let calm' = first_calm says n' w' ws run in
    let all = loss_fits says n n' w w' net moved.loss in
    let now = fits_now says n n' net net' w w' moved calm' in
    let invariant : Invariant says n' w' =
    record { sound = λ by. now w' calm' all.stations; levels = levels says n n' net net' w w' moved calm' } in
    let (calm, last) = run_keeps says n.graph n' net' moved.loss.left now w' ws run all invariant in
    network_settles says n' (last_state w' ws) i s net' calm last at live near late
