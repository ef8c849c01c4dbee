-- What is known of each state while what is held of a failed system ages: it ages, all that is held and in flight fits
-- the snapshot of before, and each unmoved system keeps its root and steps and tells them. Once nothing is received at
-- ports without a link each link is at its stage.
use Rattle.std.proofs.Common.{◌≡◌, ◌⊎◌, ◌≤◌, ◌<◌, ◌+◌, ℕ, ℤ, suc, true, false, List, [], Some, slice_get, sym, ap, subst, ◌∙◌, inl, inr, arith}
use Rattle.gptp_lists.specs.Members.{In}
use Rattle.gptp_graph.specs.Snapshot.{IsWellFormed, Joins, PortIdentity, Snapshot, System, clocks, port_of}
use Rattle.gptp_graph.proofs.LinkLemmas.{Joins-clock, Joins-sym}
use Rattle.gptp_bmca_machine.specs.Acts.{MachineSteps}
use Rattle.gptp_bmca_machine.specs.Calm.{Calm}
use Rattle.gptp_bmca_machine.specs.Frame.{Announce, AnnounceFrame, Lane, Spelling}
use Rattle.gptp_bmca_machine.specs.Levels.{Invariant, LeadsFarther, LevelSettles}
use Rattle.gptp_bmca_machine.specs.Link.{Ends, Stand}
use Rattle.gptp_bmca_machine.specs.LinkStage.{FinalAnnounceStays, IsFinal, LinkStage}
use Rattle.gptp_bmca_machine.specs.LossLaws.{EverythingFits, IsAfterLoss, IsWhatIsLeft, Unmoved}
use Rattle.gptp_bmca_machine.specs.Network.{IsSettlingNetwork, Network, settled_from, wiring}
use Rattle.gptp_bmca_machine.specs.RestLaws.{SameWiring}
use Rattle.gptp_bmca_machine.specs.Station.{Held, MachineState, Station}
use Rattle.gptp_bmca_machine.proofs.LinkStageLemmas.{settled, tail_over}
use Rattle.gptp_bmca_machine.proofs.LossLemmas.{fits_kept}
use Rattle.gptp_bmca_machine.proofs.PlaceLemmas.{same_there}
use Rattle.gptp_bmca_machine.proofs.RestingLemmas.{links_stay}
use Rattle.gptp_bmca_machine.proofs.StillLemmas.{LeadsOn, StillChoose, StillSettles, chooses_still, ends, is_station, levels_below, still, still_stays}
use Rattle.gptp_bmca_machine.proofs.RestLemmas.{left_of}
use Rattle.gptp_settling_time.proofs.AgingLemmas.{StaysAsNamed, UnlinkedAge}
use Rattle.gptp_settling_time.proofs.FitsLemmas.{IsLeftUnmoved, UnlinkedHoldNothing, best_before, distance_before, joined_stays, received_still}
use Rattle.gptp_settling_time.proofs.NamesItselfLemmas.{AllNameItself, itself_kept}
use Rattle.gptp_settling_time.proofs.ReducedLemmas.{IsReduced, reduced_itself}
use Rattle.gptp_settling_time.proofs.UnlinkedLemmas.{IsLeftSeen}

pub record IsAgingSeen (says : Spelling) (g : Snapshot) (n : Network) (stay : ℤ → ℕ) (aged : ℕ) (w : MachineState)
    : Type 0 where
  pub ages : UnlinkedAge says g n.graph stay aged w
  pub fits : EverythingFits says g n w
  pub still : (d : ℕ) → StillSettles says g n d w
  pub itself : AllNameItself says n g w

abbrev what_is_left : (g : Snapshot) (n : Network) → IsWellFormed g → IsLeftUnmoved g n.graph → IsWhatIsLeft g n
what_is_left g n well left = left_of g n well left.systems left.links

-- every step keeps that
pub aging_kept : (says : Spelling) (g : Snapshot) (n : Network) (stay : ℤ → ℕ) (aged : ℕ) (w w' : MachineState)
    → IsWellFormed g → IsWellFormed n.graph → IsLeftUnmoved g n.graph → IsAfterLoss n w → IsAfterLoss n w'
    → UnlinkedAge says g n.graph stay aged w' → MachineSteps says w w' → IsAgingSeen says g n stay aged w
    → IsAgingSeen says g n stay aged w'
aging_kept says g n stay aged w w' well well' left was after ages step seen = record {
  ages = ages;
  fits = fits;
  still = λ d.
      levels_below says g n well' less w w' was after seen.fits.stations fits.stations step seen.still (suc d) d
      (omega arith);
  itself = itself_kept says n g w w' was.calm after.calm step seen.itself;
}
  where
    less : IsWhatIsLeft g n
    less = what_is_left g n well left

    fits : EverythingFits says g n w'
    fits = fits_kept says g n less w w' was.calm after.calm step seen.fits

-- ---- once nothing is received at ports without a link

module _ (says : Spelling) (g : Snapshot) (n : Network) (well : IsWellFormed g) (well' : IsWellFormed n.graph)
    (left : IsLeftUnmoved g n.graph) (w : MachineState) (after : IsAfterLoss n w) (fits : EverythingFits says g n w)
    (tell : (d : ℕ) → StillSettles says g n d w) where
  abbrev n' : Network
  n' = record n { bare = 0 }

  less : IsWhatIsLeft g n
  less = what_is_left g n well left

  levels : (d : ℕ) → LevelSettles says n' d w
  levels d best v p u q close leads from pv pu l stand ready = inr (inr (record {
    what = stays.what;
    holds = stays.holds;
    final = final stays.what.said stays.final;
    flight = λ f a at said. final a (stays.flight f a at said);
    next = stays.next;
  }))
    where
      unmoved : (c e f : PortIdentity) → Joins n.graph c f → Unmoved g n c.clock
      unmoved c e f joins =
          let is = joined_stays g n.graph well well' left c f joins in
          record { live = Joins-clock n.graph c f well' joins; best = is.best; far = is.far }

      on : LeadsOn g n d best v p u q
      on =
          let back = Joins-sym n.graph (port_of v (suc p)) (port_of u (suc q)) leads.joins in
          let from = joined_stays g n.graph well well' left (port_of v (suc p)) (port_of u (suc q)) leads.joins in
          let to = joined_stays g n.graph well well' left (port_of u (suc q)) (port_of v (suc p)) back in
          record {
            unmoved = record {
              live = Joins-clock n.graph (port_of v (suc p)) (port_of u (suc q)) well' leads.joins;
              best = from.best;
              far = from.far;
            };
            is_best = best_before g n.graph well well' left v best from leads.is_best;
            here = distance_before g n.graph well well' left v d from leads.here;
            joins = leads.joins;
            far = leads.far;
            there = distance_before g n.graph well well' left u leads.far to leads.there;
            farther = leads.farther;
          }

      choose : StillChoose g n w d
      choose = chooses_still says g n well' less w after fits.stations d (λ e below. tell e) close

      is : Ends (still n d best v p u q) w
      is = ends g n well' less w after fits.stations d best v p u q close on choose

      stood : Stand (still n d best v p u q) w pv pu l
      stood = record {
        v = stand.v;
        u = stand.u;
        teller = stand.teller;
        teller_port = stand.teller_port;
        hearer = stand.hearer;
        hearer_port = stand.hearer_port;
        lane = stand.lane;
      }

      always : 0 ≤ w.time
      always = omega arith

      stays : FinalAnnounceStays says (still n d best v p u q) pv.announce pu.held l.frames
      stays =
          let teller = is.teller stand.v pv stood.teller stood.teller_port in
          settled says (still n d best v p u q) w.time pv.announce pu.held l.frames
          (teller.timer best.identity d (teller.settled always ready).mine).0
          (λ f h. (is.frames l f stood.lane h).left) is.in_time after.late
          (tell d best v p u q close on always pv pu l stood ready)

      final : (a : Announce) → IsFinal (still n d best v p u q) a → IsFinal (wiring n' d best v p u q) a
      final a x = record {
        root = x.root;
        steps = x.steps;
        source = x.source;
        log = x.log;
        qualified = x.qualified;
      }

  pub aging_over : UnlinkedHoldNothing n.graph w → IsLeftSeen says g n' w
  aging_over none = record {
    unlinked = none;
    fits = record { lanes = fits.lanes; stations = fits.stations };
    invariant = record {
      sound = λ by. received_still g n w well well' left after.calm none fits.stations;
      levels = levels;
    };
  }

-- ---- how it begins

-- in a network that has settled each system keeps its root and steps
pub still_settled : (says : Spelling) (n : Network) (w : MachineState) → IsSettlingNetwork n → Calm n w
    → Invariant says n w → settled_from n ≤ w.time → (d : ℕ) → StillSettles says n.graph n d w
still_settled says n w net calm invariant late d best v p u q close on from pv pu l stand ready =
    inr (inr (still_stays says n d best v p u q pv.announce pu.held l.frames
    (links_stay says n net w calm invariant late d best v p u q close leads pv pu l stood)))
  where
    leads : LeadsFarther n.graph d best v p u q
    leads = record {
      is_best = on.is_best;
      here = on.here;
      joins = on.joins;
      far = on.far;
      there = on.there;
      farther = on.farther;
    }

    stood : Stand (wiring n d best v p u q) w pv pu l
    stood = record {
      v = stand.v;
      u = stand.u;
      teller = stand.teller;
      teller_port = stand.teller_port;
      hearer = stand.hearer;
      hearer_port = stand.hearer_port;
      lane = stand.lane;
    }

-- at a time by which what was sent first has come, a stage is one by other delays too
module _ (says : Spelling) (n n' : Network) (same : SameWiring n n') (d : ℕ) (best : System) (v p u q now : ℕ)
    (late : n.most ≤ now) where
  final_so : (a : Announce) → IsFinal (still n d best v p u q) a → IsFinal (still n' d best v p u q) a
  final_so a x = record {
    root = x.root;
    steps = x.steps;
    source = x.source;
    log = x.log ∙ sym (same.log (port_of v (suc p)));
    qualified = x.qualified;
  }

  stage_so : (announce : ℕ) (held : Held) (fs : List AnnounceFrame)
      → ((f : AnnounceFrame) → In f fs → now ≤ f.due)
      → LinkStage says (still n d best v p u q) announce held fs
      → LinkStage says (still n' d best v p u q) announce held fs
  stage_so announce held fs left (inl waits) = inl waits
  stage_so announce held fs left (inr (inl tail)) =
      absurd (tail_over says (still n d best v p u q) n.most now fs tail late left)
  stage_so announce held fs left (inr (inr stays)) = inr (inr (record {
    what = stays.what;
    holds = stays.holds;
    final = final_so stays.what.said stays.final;
    flight = λ f a at said. final_so a (stays.flight f a at said);
    next = elim stays.next [
      | inl timer ↦ let interval = same.interval (port_of v (suc p)) in inl (omega (arith, timer, interval))
      | inr (f, at, said, due) ↦ inr (f, at, said, due)
    ];
  }))

-- Each live system stands as it did, and each lane is as it was, or down and empty.
pub record IsEmptied (w w' : MachineState) : Type 0 where
  pub time : w'.time ≡ w.time
  pub stations : (i : ℕ) (s : Station) → slice_get w'.stations i ≡ Some s → s.live ≡ true
      → slice_get w.stations i ≡ Some s
  pub lanes : (j : ℕ) (l : Lane) → slice_get w'.lanes j ≡ Some l
      → (slice_get w.lanes j ≡ Some l) ⊎ ((l.frames ≡ []) × (l.is_up ≡ false))

pub emptied_reduced : (w w' : MachineState) → IsEmptied w w' → IsReduced w w'
emptied_reduced w w' is = record {
  time = is.time;
  stations = λ i s at live. (s, is.stations i s at live, reduced_itself s);
  lanes = is.lanes;
}

-- such a state tells as the other does, where it has fewer systems and links
module _ (says : Spelling) (g : Snapshot) (n n' : Network) (well' : IsWellFormed n'.graph) (same : SameWiring n n')
    (links : (a b : PortIdentity) → Joins n'.graph a b → Joins n.graph a b)
    (back : (v : ℕ) → Unmoved g n' v → Unmoved g n v) (left' : IsWhatIsLeft g n') (w w' : MachineState)
    (emptied : IsEmptied w w') (late : n.most ≤ w.time) (after' : IsAfterLoss n' w')
    (fits' : EverythingFits says g n' w') (tell : (d : ℕ) → StillSettles says g n d w) where
  pub still_emptied : (d : ℕ) → StillSettles says g n' d w'
  still_emptied d best v p u q close on from pv pu l stand ready =
      stage_so says n n' same d best v p u q w.time late pv.announce pu.held l.frames
      (λ f flies.
      let left = after'.calm.left (n'.lane (port_of v (suc p))) l f stand.lane flies in
      let time = emptied.time in
      omega (arith, left, time))
      (tell d best v p u q close was always pv pu l stood ready)
    where
      joined : Joins n'.graph (port_of u (suc q)) (port_of v (suc p))
      joined = Joins-sym n'.graph (port_of v (suc p)) (port_of u (suc q)) on.joins

      known_u : In u (clocks n'.graph)
      known_u = Joins-clock n'.graph (port_of u (suc q)) (port_of v (suc p)) well' joined

      was : LeadsOn g n d best v p u q
      was = record {
        unmoved = back v on.unmoved;
        is_best = on.is_best;
        here = on.here;
        joins = links (port_of v (suc p)) (port_of u (suc q)) on.joins;
        far = on.far;
        there = on.there;
        farther = on.farther;
      }

      always : 0 ≤ w.time
      always = omega arith

      lane_before : slice_get w.lanes (n.lane (port_of v (suc p))) ≡ Some l
      lane_before = elim (emptied.lanes (n'.lane (port_of v (suc p))) l stand.lane) [
        | inl stood ↦ subst (λ i. slice_get w.lanes i ≡ Some l) (same.lane (port_of v (suc p))) stood
        | inr (none, off) ↦
            let has = after'.calm.lanes (port_of v (suc p)) (port_of u (suc q)) on.joins in
            let one : l ≡ has.lane =
            same_there w'.lanes (n'.lane (port_of v (suc p))) l has.lane stand.lane has.there in
            absurd (let both : true ≡ false = sym has.is_up ∙ ap (λ (x : Lane). x.is_up) (sym one) ∙ off in cc)
      ]

      stands_before : (x : ℕ) (s : Station) → In x (clocks n'.graph) → slice_get w'.stations (n'.place x) ≡ Some s
          → slice_get w.stations (n.place x) ≡ Some s
      stands_before x s known at =
          let (live, clock) = is_station g n' well' left' w' after' fits'.stations x s known at in
          subst (λ i. slice_get w.stations i ≡ Some s) (same.place x) (emptied.stations (n'.place x) s at live)

      stood : Stand (still n d best v p u q) w pv pu l
      stood = record {
        v = stand.v;
        u = stand.u;
        teller = stands_before v stand.v on.unmoved.live stand.teller;
        teller_port = stand.teller_port;
        hearer = stands_before u stand.u known_u stand.hearer;
        hearer_port = stand.hearer_port;
        lane = lane_before;
      }

-- ---- what ages in it

-- What is held where a network has settled is no older than now, and what is in flight comes within the greatest delay.
-- So it ages in time where none of it stays for longer than the longest span.
module _ (says : Spelling) (n : Network) (w : MachineState) (calm : Calm n w) (begun : n.start ≤ w.time)
    (fits : EverythingFits says n.graph n w) (stay : ℤ → ℕ) (named : StaysAsNamed stay w) (longest aged : ℕ)
    (short : (log : ℤ) → stay log ≤ longest) (soon : w.time + longest + n.most < aged) (before g : Snapshot)
    (lived : (v : ℕ) → In v (clocks g) → In v (clocks n.graph)) (w' : MachineState) (emptied : IsEmptied w w') where
  pub ages_begin : UnlinkedAge says before g stay aged w'
  ages_begin = record {
    held = λ i s place r at live holds unlinked nearer.
        let stood = emptied.stations i s at live in
        let came = ((calm.facts.stations i s stood live).held place r holds).came in
        let span = named i s place r stood live holds in
        let most = short r.said.log in
        omega (arith, came, span, most, soon);
    flight = λ j l f a at flies said known unlinked nearer. elim (emptied.lanes j l at) [
      | inl stood ↦
          let fit = fits.lanes j l f a stood flies said (lived l.to.clock known) in
          let most = short a.log in
          let left = calm.left j l f stood flies in
          elim (calm.facts.fresh j l f stood flies fit.joins) [
            | inl fresh ↦ omega (arith, fresh, most, soon)
            | inr old ↦ omega (arith, old, left, most, soon, begun)
          ]
      | inr (none, off) ↦ absurd (subst (In f) none flies)
    ];
  }
