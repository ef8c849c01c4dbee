-- What a system had sent that fails, and was the far end of each of its links, is taken by nobody: at a port that no
-- link is at any more nothing is received.
use Rattle.std.proofs.Common.{◌≡◌, ◌⊎◌, ◌<◌, ◌≤◌, ℕ, suc, true, Some, slice_get, refl, sym, ap, subst, ◌∙◌, inl, inr, arith}
use Rattle.gptp_lists.specs.Members.{In}
use Rattle.gptp_graph.specs.Best.{IsBest}
use Rattle.gptp_graph.specs.Distance.{IsDistance}
use Rattle.gptp_graph.specs.Snapshot.{IsLinked, IsWellFormed, Joins, PortIdentity, Snapshot, System, clocks, port_of}
use Rattle.gptp_graph.proofs.ExistenceLemmas.{distance_exists}
use Rattle.gptp_graph.proofs.LinkLemmas.{Joins-clock, Joins-sym}
use Rattle.gptp_graph.proofs.PathBoundLemmas.{IsDistance-within}
use Rattle.gptp_graph.proofs.SystemLemmas.{In-clocks}
use Rattle.gptp_bmca_machine.specs.Acts.{Arrives, MachineSteps, StationAnswers}
use Rattle.gptp_bmca_machine.specs.Calm.{Calm}
use Rattle.gptp_bmca_machine.specs.EarlyPorts.{EarlyPortsHear}
use Rattle.gptp_bmca_machine.specs.Facts.{station_system}
use Rattle.gptp_bmca_machine.specs.Frame.{Announce, Spelling}
use Rattle.gptp_bmca_machine.specs.Lapsing.{NothingNearLapses}
use Rattle.gptp_bmca_machine.specs.Levels.{Invariant}
use Rattle.gptp_bmca_machine.specs.LossLaws.{EverythingFits, FlightFits}
use Rattle.gptp_bmca_machine.specs.Network.{IsSettlingNetwork, Network, settled_from}
use Rattle.gptp_bmca_machine.specs.Reacts.{PortStep}
use Rattle.gptp_bmca_machine.specs.SoundLaws.{AllAreNear}
use Rattle.gptp_bmca_machine.specs.Station.{Disabled, HoldsAt, MachineState, Mine, Port, Received, Reception, Station}
use Rattle.gptp_bmca_machine.specs.Touch.{Hear, Replaces, StationTouch}
use Rattle.gptp_bmca_machine.proofs.EndsLemmas.{clear_at}
use Rattle.gptp_bmca_machine.proofs.LevelLemmas.{invariant_kept}
use Rattle.gptp_bmca_machine.proofs.LossLemmas.{fits_kept}
use Rattle.gptp_bmca_machine.proofs.RestLemmas.{is_master, left_of}
use Rattle.gptp_bmca_machine.proofs.RestingLemmas.{all_choose, by_then_at}
use Rattle.gptp_settling_time.specs.Losses.{IsUnmoved}
use Rattle.gptp_settling_time.proofs.FitsLemmas.{IsLeftUnmoved, UnlinkedHoldNothing, distance_before, received_still}
use Rattle.gptp_settling_time.proofs.NotTakenLemmas.{farther_not_taken}
use Rattle.gptp_settling_time.proofs.TouchedLemmas.{mid_heard}

-- the first port is one of a system that is farther from the best, or as far with the higher clock
abbrev pub IsFarther : Snapshot → PortIdentity → PortIdentity → Type 0
IsFarther g p q = (far near : ℕ) → IsDistance g p.clock far → IsDistance g q.clock near
    → (near < far) ⊎ ((near ≡ far) × (q.clock < p.clock))

-- What is gone in the second snapshot was the far end of each link to what is left, which is unmoved.
abbrev pub LostAreFarther : Snapshot → Snapshot → Type 0
LostAreFarther g g' = (p q : PortIdentity) → Joins g p q → In q.clock (clocks g') → (In p.clock (clocks g') → ⊥)
    → IsUnmoved g g' q.clock × IsFarther g p q

module _ (says : Spelling) (g : Snapshot) (n : Network) (well : IsWellFormed g) (net : IsSettlingNetwork n)
    (left : IsLeftUnmoved g n.graph) (near : AllAreNear n.graph) (farther : LostAreFarther g n.graph)
    (w : MachineState) (calm : Calm n w) (invariant : Invariant says n w) (late : settled_from n ≤ w.time)
    (all : EverythingFits says g n w) (none : UnlinkedHoldNothing n.graph w) where
  -- an Announce that comes to such a port replaces nothing that it may hold
  module _ (i : ℕ) (s : Station) (here : slice_get w.stations i ≡ Some s) (live : s.live ≡ true) (place : ℕ)
      (q : Port) (there : slice_get s.ports place ≡ Some q)
      (unlinked : IsLinked n.graph (port_of s.clock (suc place)) → ⊥) where
    known : In s.clock (clocks n.graph)
    known = In-clocks n.graph (station_system s) (calm.facts.stations i s here live).known

    module _ (from : PortIdentity) (a : Announce) (joins : Joins g from (port_of s.clock (suc place)))
        (gone : In from.clock (clocks n.graph) → ⊥) (source : a.source ≡ from)
        (sender : (best : System) (far : ℕ) → IsBest g s.clock best → a.root ≡ best.identity
        → IsDistance g from.clock far → far ≤ a.steps)
        (above : (best : System) → IsBest g s.clock best → best.identity ≤ a.root) where
      away : IsUnmoved g n.graph s.clock × IsFarther g from (port_of s.clock (suc place))
      away = farther from (port_of s.clock (suc place)) joins known gone

      stays : IsUnmoved g n.graph s.clock
      stays = away.0

      -- so nothing that it may hold is replaced
      not_replaced : Replaces s.clock (suc place) a q.held → ⊥
      not_replaced =
          by (distance_exists g from.clock well (Joins-clock g from (port_of s.clock (suc place)) well joins))
        where
          by : ((far : ℕ) × IsDistance g from.clock far) → Replaces s.clock (suc place) a q.held → ⊥
          by (far, from_far) =
              farther_not_taken says g n well net left near w calm invariant late i s here live stays place q there
              from.clock far a (ap (λ (p : PortIdentity). p.clock) source)
              (λ d s_far. away.1 far d from_far (distance_before g n.graph well net.graph left s.clock d stays s_far))
              (λ best is_best root. sender best far is_best root from_far) above
              (λ r holds. none i s place r here live unlinked (q, there, holds))

  -- where a system answers, what it hears is refused there
  module _ (touch : StationTouch) (mid w' : MachineState) (stood : (i : ℕ) (s : Station)
      → slice_get mid.stations i ≡ Some s → slice_get w.stations i ≡ Some s) (call : StationAnswers says touch mid w')
      (refused : (place : ℕ) (q : Port) (a : Announce) → touch ≡ Hear (suc place) a
      → slice_get call.s.ports place ≡ Some q → (IsLinked n.graph (port_of call.s.clock (suc place)) → ⊥)
      → Replaces call.s.clock (suc place) a q.held → ⊥) where
    own : (place : ℕ) (r : Reception) → (IsLinked n.graph (port_of call.s.clock (suc place)) → ⊥)
        → HoldsAt call.s' place r → ⊥
    own place r unlinked (q', at, holds) = go (call.reacts.ports place q' at)
      where
        go : ((q : Port) × (slice_get call.s.ports place ≡ Some q)
            × PortStep says call.s.clock (suc place) mid.time touch call.s'.root call.s'.steps q q' call.sends) → ⊥
        go (q, there, step) = elim step.after [
          | inl (kept, is_kept) ↦ elim (mid_heard call.s.clock (suc place) mid.time touch q.held step.mid r step.before
              (sym kept ∙ holds)) [
                | inl before ↦
                    none call.place call.s place r (stood call.place call.s call.here) call.live unlinked
                    (q, there, before)
                | inr (hears, usable, taken) ↦ refused place q r.said hears there unlinked taken
              ]
          | inr master_is ↦
              absurd (let x : Mine call.s'.root call.s'.steps ≡ Received r = sym master_is.mine ∙ holds in cc)
        ]

    answered : UnlinkedHoldNothing n.graph w'
    answered i s place r here live unlinked holds = elim (call.stations i s here) [
      | inl (same, is) ↦
          own place r
          (subst (λ c. IsLinked n.graph (port_of c (suc place)) → ⊥)
          (ap (λ (x : Station). x.clock) is ∙ call.reacts.clock) unlinked)
          (subst (λ x. HoldsAt x place r) is holds)
      | inr (other, before) ↦ none i s place r (stood i s before) live unlinked holds
    ]

  -- what arrives is
  arrives_refused : (w' : MachineState) (act : Arrives says w w') (place : ℕ) (q : Port) (a : Announce)
      → act.touch ≡ Hear (suc place) a → slice_get act.call.s.ports place ≡ Some q
      → (IsLinked n.graph (port_of act.call.s.clock (suc place)) → ⊥)
      → Replaces act.call.s.clock (suc place) a q.held → ⊥
  arrives_refused w' act place q a hears there unlinked =
      not_replaced act.call.place act.call.s here act.call.live place q there unlinked act.l.from a joins gone
      fit.source
      (λ best far is_best.
      fit.sender best far (subst (λ (x : PortIdentity). IsBest g x.clock best) (sym to) is_best))
      (λ best is_best.
      fit.fits.root best (subst (λ (x : PortIdentity). IsBest g x.clock best) (sym to) is_best))
    where
      here : slice_get w.stations act.call.place ≡ Some act.call.s
      here = act.pops.stations act.call.place act.call.s act.call.here

      heard : (suc place ≡ act.l.to.port) × says act.f.octets a
      heard = act.heard (suc place) a hears

      to : act.l.to ≡ port_of act.call.s.clock (suc place)
      to = λ j. port_of (sym act.owner j) (sym heard.0 j)

      among : In act.f act.l.frames
      among = subst (In act.f) (sym act.pops.frames) (inl refl)

      lives : In act.l.to.clock (clocks n.graph)
      lives =
          subst (λ c. In c (clocks n.graph)) act.owner
          (In-clocks n.graph (station_system act.call.s)
          (calm.facts.stations act.call.place act.call.s here act.call.live).known)

      fit : FlightFits g act.l a
      fit = all.lanes act.j act.l act.f a act.pops.here among heard.1 lives

      joins : Joins g act.l.from (port_of act.call.s.clock (suc place))
      joins = subst (Joins g act.l.from) to fit.joins

      gone : In act.l.from.clock (clocks n.graph) → ⊥
      gone sender =
          let over = calm.facts.linked act.j act.l act.f act.pops.here among sender lives in
          unlinked (act.l.from, subst (λ p. Joins n.graph p act.l.from) to (Joins-sym n.graph act.l.from act.l.to over))

  -- every step keeps that nothing is received there
  pub unlinked_kept : (w' : MachineState) → MachineSteps says w w' → UnlinkedHoldNothing n.graph w'
  unlinked_kept w' (inl wait) =
      λ i s place r here.
      none i s place r (subst (λ (x : MachineState). slice_get x.stations i ≡ Some s) wait.is here)
  unlinked_kept w' (inr (inl act)) =
      answered act.touch act.mid w' act.pops.stations act.call (arrives_refused w' act)
  unlinked_kept w' (inr (inr (inl act))) = λ i s place r here. none i s place r (act.pops.stations i s here)
  unlinked_kept w' (inr (inr (inr act))) =
      answered act.touch w w' (λ i s at. at) act.call (λ place q a hears. absurd (act.deaf (suc place) a hears))

-- ---- a link to what is farther

-- Over its link to a system that is farther, or as far with the higher clock, a system that has settled holds nothing.
module _ (says : Spelling) (n : Network) (net : IsSettlingNetwork n) (w : MachineState) (calm : Calm n w)
    (invariant : Invariant says n w) (late : settled_from n ≤ w.time) where
  pub far_holds_none : (i : ℕ) (s : Station) (place : ℕ) (r : Reception) (from : PortIdentity) (d far : ℕ)
      → slice_get w.stations i ≡ Some s → s.live ≡ true → HoldsAt s place r
      → Joins n.graph (port_of s.clock (suc place)) from → IsDistance n.graph s.clock d → d < 255
      → IsDistance n.graph from.clock far → (d < far) ⊎ ((d ≡ far) × (s.clock < from.clock)) → ⊥
  far_holds_none i s place r from d far at live (q, there, holds) joins here close beyond farther =
      let within = IsDistance-within n.graph n.reach s.clock d net.paths here in
      let chosen = all_choose says n net w calm invariant late d close
      (by_then_at says n net w calm invariant late d within) s.clock here.best s
      (subst (λ k. slice_get w.stations k ≡ Some s) (calm.placed i s at) at) here.is_best here in
      let mine = is_master n.graph net.graph s
      (clear_at n net w calm invariant.sound i s at live (omega (arith, late))) here.best here.is_best d far place q
      from chosen there (λ off. absurd (let both : Received r ≡ Disabled = sym holds ∙ off in cc)) joins beyond farther
      in
      absurd (let both : Received r ≡ Mine here.best.identity d = sym holds ∙ mine in cc)

-- ---- a network that is left

-- What is claimed of a state of a network that is left of a snapshot: at ports without a link nothing is received, all
-- that is held and in flight fits the snapshot, and each link is at its stage.
pub record IsLeftSeen (says : Spelling) (g : Snapshot) (n : Network) (w : MachineState) : Type 0 where
  pub unlinked : UnlinkedHoldNothing n.graph w
  pub fits : EverythingFits says g n w
  pub invariant : Invariant says n w

-- every step keeps that, where the network has settled
pub left_kept : (says : Spelling) (g : Snapshot) (n : Network) (w w' : MachineState) → IsWellFormed g
    → IsSettlingNetwork n → IsLeftUnmoved g n.graph → AllAreNear n.graph → LostAreFarther g n.graph → Calm n w
    → (UnlinkedHoldNothing n.graph w' → Calm n w') → NothingNearLapses n w → EarlyPortsHear says n w w'
    → settled_from n ≤ w.time → MachineSteps says w w' → IsLeftSeen says g n w → IsLeftSeen says g n w'
left_kept says g n w w' well net left near farther calm calm' nothing early late step is =
    record { unlinked = unlinked'; fits = fits'; invariant = invariant' }
  where
    unlinked' : UnlinkedHoldNothing n.graph w'
    unlinked' =
        unlinked_kept says g n well net left near farther w calm is.invariant late is.fits is.unlinked w' step

    fits' : EverythingFits says g n w'
    fits' =
        fits_kept says g n (left_of g n well left.systems left.links) w w' calm
        (calm' unlinked') step is.fits

    invariant' : Invariant says n w'
    invariant' =
        invariant_kept says n net w w' calm (calm' unlinked') nothing early step
        (λ by. received_still g n w' well net.graph left (calm' unlinked') unlinked' fits'.stations) is.invariant
