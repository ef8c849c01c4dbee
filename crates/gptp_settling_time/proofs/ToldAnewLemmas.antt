-- A world since a loss after which it settles: once links are at rest traces are told anew, by distance. All that is
-- held becomes sound then, and what was in flight before is gone. So claims are made of it as of one since news.
use Rattle.std.proofs.Common.{◌≡◌, ◌⊎◌, ◌<◌, ◌≤◌, ◌+◌, ◌*◌, ℕ, zero, suc, pred, true, List, Some, slice_get, refl, sym, ap, subst, ◌∙◌, inl, inr, arith}
use native.Mathlib.Decide.{dec_lt}
use Rattle.gptp_lists.specs.Members.{In}
use Rattle.gptp_lists.proofs.SystemSpecLemmas.{In-parts}
use Rattle.gptp_graph.specs.PathBound.{path_bound}
use Rattle.gptp_graph.specs.Snapshot.{Snapshot, port_of}
use Rattle.gptp_graph.proofs.DistanceLemmas.{IsDistance-unique}
use Rattle.gptp_graph.proofs.ExistenceLemmas.{distance_exists}
use Rattle.gptp_graph.proofs.PathBoundLemmas.{IsDistance-within}
use Rattle.gptp_graph.proofs.SystemLemmas.{In-clocks}
use Rattle.gptp_scenario.specs.Calm.{NothingLapses}
use Rattle.gptp_scenario.specs.declared.sync_wait.SyncPaths.{SyncPaths}
use Rattle.gptp_setup.specs.SettlingParams.{SettlingParams, largest_interval}
use Rattle.gptp_model.specs.World.{WorldState}
use Rattle.gptp_bmca_machine.specs.Acts.{LaneStep, MachineSteps, MomentComes, Pops, StationAnswers}
use Rattle.gptp_bmca_machine.specs.Calm.{Calm}
use Rattle.gptp_bmca_machine.specs.Facts.{station_system}
use Rattle.gptp_bmca_machine.specs.Frame.{Announce, AnnounceFrame, Lane, Spelling}
use Rattle.gptp_bmca_machine.specs.Levels.{Invariant}
use Rattle.gptp_bmca_machine.specs.Network.{IsSettlingNetwork, Network, wiring}
use Rattle.gptp_bmca_machine.specs.Reacts.{IsMasterAt, IsOwn}
use Rattle.gptp_bmca_machine.specs.SoundEverywhere.{IsSoundSent}
use Rattle.gptp_bmca_machine.specs.SoundLaws.{AllAreNear}
use Rattle.gptp_bmca_machine.specs.Station.{MachineState, Station}
use Rattle.gptp_bmca_machine.specs.Touch.{StationTouch}
use Rattle.gptp_bmca_machine.proofs.SoundEverywhereLemmas.{on_links}
use Rattle.gptp_bmca_machine.proofs.SoundLemmas.{received_fits}
use Rattle.gptp_invariants.specs.ChoiceCalm.{HaveQuietLinks, delay_in}
use Rattle.gptp_invariants.specs.ChoiceSettlesAsMachine.{IsWorld}
use Rattle.gptp_invariants.specs.ChoiceView.{says_announce, view}
use Rattle.gptp_invariants.specs.WorldNews.{AreSilentBy}
use Rattle.gptp_invariants.specs.WorldSound.{IsSoundWorld}
use Rattle.gptp_invariants.specs.WorldStanding.{snapshot_of}
use Rattle.gptp_invariants.proofs.ChoiceCalmKeptLemmas.{KeepsNetwork, links_quiet, same_paths}
use Rattle.gptp_invariants.proofs.ChoiceCalmLemmas.{linked_interval}
use Rattle.gptp_invariants.proofs.ChoiceSettlesAsMachineLemmas.{kept_back}
use Rattle.gptp_settling_time.proofs.AlwaysClaimedLemmas.{IsClaimedAlways, IsStanding}
use Rattle.gptp_settling_time.proofs.AtRestLemmas.{facts_of}
use Rattle.gptp_settling_time.proofs.BecomesSoundLemmas.{nearer_echo, same_time, sound_claimed}
use Rattle.gptp_settling_time.proofs.DueLemmas.{due_by_interval}
use Rattle.gptp_settling_time.proofs.FitsLemmas.{UnlinkedHoldNothing}
use Rattle.gptp_settling_time.proofs.LeftClaimedLemmas.{HaveAskedBy, HaveAskedLong, left_calm, left_net, left_network, same_left}
use Rattle.gptp_settling_time.proofs.RightBeginLemmas.{right_enters}
use Rattle.gptp_settling_time.proofs.RightKeptLemmas.{right_kept}
use Rattle.gptp_settling_time.proofs.RightLemmas.{all_held_right}
use Rattle.gptp_settling_time.proofs.SettledSeenLemmas.{IsSettledSeen, settled_in}
use Rattle.gptp_settling_time.proofs.TellsRightLemmas.{IsSettledState, LevelTellsRight, right_last, right_later, tells_right, tells_right_from}

-- ---- what is in flight

-- each Announce in flight is a sound one of its sender, or it is due by then
abbrev pub FlightsAreSound : Spelling → Snapshot → ℕ → MachineState → Type 0
FlightsAreSound says g old w = (j : ℕ) (l : Lane) (f : AnnounceFrame) (a : Announce) → slice_get w.lanes j ≡ Some l
    → In f l.frames → says f.octets a → IsSoundSent g l.from a ⊎ (f.due ≤ old)

-- what each live system tells at a master port, and that its lane has, is sound
abbrev pub AllTellSound : Snapshot → MachineState → Type 0
AllTellSound g w = (s : Station) (i port : ℕ) (a : Announce) → slice_get w.stations i ≡ Some s → s.live ≡ true
    → IsOwn s port a → IsMasterAt s port → (j : ℕ) (l : Lane) (f : AnnounceFrame) → slice_get w.lanes j ≡ Some l
    → In f l.frames → l.from ≡ port_of s.clock port → IsSoundSent g (port_of s.clock port) a

-- So it is once each system tells what is right.
module _ (says : Spelling) (n : Network) (net : IsSettlingNetwork n) (near : AllAreNear n.graph) (base : ℕ)
    (w' : MachineState) (x' : IsSettledState says n w')
    (levels' : (d : ℕ) → LevelTellsRight says n base w' d)
    (right : tells_right_from n base (pred n.reach) ≤ w'.time) where
  told_sound : AllTellSound n.graph w'
  told_sound s i port a at live own master j l f at_l among from =
      let known = In-clocks n.graph (station_system s) (x'.calm.facts.stations i s at live).known in
      let (d, here) = distance_exists n.graph s.clock net.graph known in
      let (f, there, close) = near s.clock known in
      let same = IsDistance-unique n.graph s.clock d f net.graph here there in
      let later = right_later n base d (pred n.reach)
      (below n.reach d (IsDistance-within n.graph n.reach s.clock d net.paths here)) in
      tells_right says n net near base w' x' d (omega (arith, later, right)) (λ e less. levels' e) s.clock here.best s
      (subst (λ k. slice_get w'.stations k ≡ Some s) (x'.calm.placed i s at) at) here.is_best here
      (omega (arith, same, close)) port a own
    where
      below : (m d : ℕ) → d < m → d ≤ pred m
      below zero d h = absurd (omega (arith, h))
      below (suc m) d h = omega (arith, h)

-- Then every step keeps that what is in flight is sound.
module _ (says : Spelling) (g : Snapshot) (old : ℕ) (w w' : MachineState) (tell : AllTellSound g w') where
  called : (touch : StationTouch) (mid : MachineState) → StationAnswers says touch mid w'
      → FlightsAreSound says g old mid → FlightsAreSound says g old w'
  called touch mid call all j l' f a at among said = by (call.lanes j l' at)
    where
      by : ((l : Lane) × (slice_get mid.lanes j ≡ Some l) × LaneStep call.s.clock call.sends l l')
          → IsSoundSent g l'.from a ⊎ (f.due ≤ old)
      by (l, stood, step) = elim (In-parts f l.frames step.news (subst (In f) step.behind among)) [
        | inl before ↦
            subst (λ k. IsSoundSent g k a ⊎ (f.due ≤ old)) (sym step.from) (all j l f a stood before said)
        | inr new ↦
            let (y, sent, from, octets) = step.sent f new in
            let (own, master) = call.reacts.tells y a sent (subst (λ (o : List ℕ). says o a) octets said) in
            let leaves : port_of call.s'.clock y.port ≡ l'.from =
            (λ i. port_of (call.reacts.clock i) y.port) ∙ sym (step.from ∙ from) in
            inl (subst (λ k. IsSoundSent g k a) leaves
            (tell call.s' call.place y.port a call.there (call.reacts.live ∙ call.live) own master j l' f at among
            (sym leaves)))
      ]

  popped : (j : ℕ) (l : Lane) (f : AnnounceFrame) (fs : List AnnounceFrame) (mid : MachineState) → Pops j l f fs w mid
      → FlightsAreSound says g old w → FlightsAreSound says g old mid
  popped j l f fs mid pops all i l' h a at among said = elim (pops.lanes i l' at) [
    | inl (same, is) ↦
        subst (λ (y : Lane). IsSoundSent g y.from a ⊎ (h.due ≤ old)) (sym is)
        (all j l h a pops.here
        (subst (In h) (sym pops.frames) (inr (subst (λ (y : Lane). In h y.frames) is among))) said)
    | inr (other, stood) ↦ all i l' h a stood among said
  ]

  pub flights_kept : MachineSteps says w w' → FlightsAreSound says g old w → FlightsAreSound says g old w'
  flights_kept (inl wait) all =
      λ j l f a at. all j l f a (subst (λ (z : MachineState). slice_get z.lanes j ≡ Some l) wait.is at)
  flights_kept (inr (inl act)) all =
      called act.touch act.mid act.call (popped act.j act.l act.f act.fs act.mid act.pops all)
  flights_kept (inr (inr (inl act))) all = popped act.j act.l act.f act.fs w' act.pops all
  flights_kept (inr (inr (inr act))) all = called act.touch w act.call all

-- ---- it settles

-- the greatest delay for each system of a path but one
abbrev pub way_in : WorldState → ℕ
way_in w = pred (path_bound (snapshot_of w)) * delay_in w

pub same_way : (w w' : WorldState) → KeepsNetwork w w' → way_in w' ≡ way_in w
same_way w w' keeps = ap (λ (u : SyncPaths). pred u.systems * u.delay) (same_paths w w' keeps)

-- What is so of a world since a loss: links are at rest once a moment is over, and what a best tells is right.
pub record SettlesOnce (p : SettlingParams) (silent settled : ℕ) (w : WorldState) : Type 0 where
  pub standing : IsStanding p silent w
  pub asked : HaveAskedLong w
  pub near : AllAreNear (snapshot_of w)
  pub long : way_in w ≤ settled
  pub root : HaveQuietLinks p.params w → NothingLapses p.params → settled < w.time → (base : ℕ)
      → LevelTellsRight says_announce (left_network p silent w) base (view w) 0
  pub state : HaveQuietLinks p.params w → NothingLapses p.params → settled < w.time
      → IsSettledState says_announce (left_network p silent w) (view w)

-- by then traces have been told anew since, by all but the best and its neighbours
abbrev pub told_by : SettlingParams → ℕ → WorldState → ℕ
told_by p settled w = settled + nearer_echo p w

-- What is claimed of it: from that moment on links tell right traces, by distance. Once they have what is in flight is
-- sound, but for what is old.
pub record TellsOnce (p : SettlingParams) (silent settled : ℕ) (w : WorldState) : Type 0 where
  pub levels : HaveQuietLinks p.params w → NothingLapses p.params → settled < w.time
      → (d : ℕ) → LevelTellsRight says_announce (left_network p silent w) (suc settled) (view w) d
  pub flights : HaveQuietLinks p.params w → NothingLapses p.params → told_by p settled w < w.time
      → FlightsAreSound says_announce (snapshot_of w) (told_by p settled w + largest_interval p) (view w)

-- nothing is claimed yet
pub tells_begins : (p : SettlingParams) (silent settled : ℕ) (w : WorldState) → w.time ≤ settled
    → TellsOnce p silent settled w
tells_begins p silent settled w early = record {
  levels = λ quiet off late. absurd (omega (arith, early, late));
  flights = λ quiet off late. absurd (omega (arith, early, late));
}

-- by then they tell what is right
right_by : (p : SettlingParams) (silent settled : ℕ) (w : WorldState) → told_by p settled w < w.time
    → tells_right_from (left_network p silent w) (suc settled) (pred (path_bound (snapshot_of w))) ≤ w.time
right_by p silent settled w late =
    let by = right_last (left_network p silent w) (suc settled) (pred (path_bound (snapshot_of w))) in
    omega (arith, by, late)

-- ---- it goes on

module _ (p : SettlingParams) (silent settled : ℕ) (w w' : WorldState)
    (once : SettlesOnce p silent settled w) (once' : SettlesOnce p silent settled w')
    (tells : TellsOnce p silent settled w) (keeps : KeepsNetwork w w')
    (step : MachineSteps says_announce (view w) (view w')) where
  abbrev n' : Network
  n' = left_network p silent w'

  abbrev base : ℕ
  base = suc settled

  same : left_network p silent w' ≡ left_network p silent w
  same = same_left p silent w w' keeps

  same_told : told_by p settled w' ≡ told_by p settled w
  same_told =
      ap (λ (u : SyncPaths). settled + pred (pred u.systems) * (largest_interval p + u.delay)) (same_paths w w' keeps)

  world' : IsWorld p w'
  world' = once'.standing.world

  net : IsSettlingNetwork n'
  net = left_net p silent w' world'

  module _ (quiet' : HaveQuietLinks p.params w') (off : NothingLapses p.params) where
    quiet : HaveQuietLinks p.params w
    quiet = links_quiet w' w (kept_back w w' keeps) p.params quiet'

    module _ (late' : settled < w'.time) where
      x' : IsSettledState says_announce n' (view w')
      x' = once'.state quiet' off late'

      -- links were at rest before
      goes_on : settled < w.time → (d : ℕ) → LevelTellsRight says_announce n' base (view w') d
      goes_on late =
          right_kept says_announce n' net once'.near base (view w) (view w')
          (subst (λ z. IsSettledState says_announce z (view w)) (sym same) (once.state quiet off late)) x'
          (λ port linked. linked_interval p w' world'.sound world'.known port linked) step
          (λ d. subst (λ z. LevelTellsRight says_announce z base (view w) d) (sym same) (tells.levels quiet off late d))

      -- a moment comes by which they are
      enters : w.time ≤ settled → MomentComes (view w) (view w')
          → (d : ℕ) → LevelTellsRight says_announce n' base (view w') d
      enters early wait =
          right_enters says_announce n' net once'.near base wait.time (view w) (view w')
          (subst (λ z. Calm z (view w)) (sym same) (left_calm p silent w once.standing once.asked quiet none))
          (omega (arith, early)) wait.is x'
          (λ port linked. linked_interval p w' world'.sound world'.known port linked)
          (once'.root quiet' off late' base)
        where
          -- the systems hold what they do then
          none : UnlinkedHoldNothing (snapshot_of w) (view w)
          none =
              subst (λ h. UnlinkedHoldNothing h (view w)) (ap (λ (z : Network). z.graph) same)
              (λ i s place r here.
              x'.none i s place r (subst (λ (z : MachineState). slice_get z.stations i ≡ Some s) (sym wait.is) here))

      levels' : (d : ℕ) → LevelTellsRight says_announce n' base (view w') d
      levels' = elim (dec_lt settled w.time) [
        | yes late ↦ goes_on late
        | no not ↦ by (omega (arith, not)) step
      ]
        where
          by : w.time ≤ settled → MachineSteps says_announce (view w) (view w')
              → (d : ℕ) → LevelTellsRight says_announce n' base (view w') d
          by early (inl wait) = enters early wait
          by early (inr act) =
              let time = same_time says_announce (view w) (view w') act in
              absurd (omega (arith, early, late', time))

    flights' : told_by p settled w' < w'.time
        → FlightsAreSound says_announce (snapshot_of w') (told_by p settled w' + largest_interval p) (view w')
    flights' told' = elim (dec_lt (told_by p settled w) w.time) [
      | yes told ↦
          flights_kept says_announce (snapshot_of w') (told_by p settled w' + largest_interval p) (view w) (view w')
          (told_sound says_announce n' net once'.near base (view w') (x' late') (levels' late')
          (right_by p silent settled w' told')) step
          (subst (λ t. FlightsAreSound says_announce (snapshot_of w') (t + largest_interval p) (view w)) (sym same_told)
          (subst (λ (z : Network). FlightsAreSound says_announce z.graph (told_by p settled w + largest_interval p)
          (view w)) (sym same) (tells.flights quiet off told)))
      | no not ↦ by (omega (arith, not)) step
    ]
      where
        late' : settled < w'.time
        late' = omega (arith, told')

        by : w.time ≤ told_by p settled w → MachineSteps says_announce (view w) (view w')
            → FlightsAreSound says_announce (snapshot_of w') (told_by p settled w' + largest_interval p) (view w')
        by early (inl wait) = λ j l f a at among said.
            let soon = due_by_interval p w once.standing.world j l f a
            (subst (λ (y : MachineState). slice_get y.lanes j ≡ Some l) wait.is at) among said in
            let one = same_told in
            inr (omega (arith, soon, early, one))
        by early (inr act) =
            let time = same_time says_announce (view w) (view w') act in
            let one = same_told in
            absurd (omega (arith, early, told', time, one))

  pub tells_on : TellsOnce p silent settled w'
  tells_on = record { levels = levels'; flights = flights' }

-- ---- rest

-- all have told traces anew by then, and what was in flight is gone too: where a path has several systems
nearer_fits : (systems hop gone : ℕ) → 1 < systems → gone ≤ hop
    → pred (pred systems) * hop + gone ≤ pred systems * hop
nearer_fits zero hop gone less soon = absurd (omega (arith, less))
nearer_fits (suc zero) hop gone less soon = absurd (omega (arith, less))
nearer_fits (suc (suc k)) hop gone less soon = omega (arith, soon)

pub told_over : (p : SettlingParams) (settled : ℕ) (w : WorldState) → 1 < path_bound (snapshot_of w)
    → settled + pred (path_bound (snapshot_of w)) * (largest_interval p + delay_in w) < w.time
    → told_by p settled w + largest_interval p < w.time
told_over p settled w several over =
    let less = nearer_fits (path_bound (snapshot_of w)) (largest_interval p + delay_in w) (largest_interval p) several
    (omega arith) in
    omega (arith, over, less)

-- Claims are made of all links always once links are at rest and all that is held and in flight is sound.
module _ (p : SettlingParams) (silent start settled : ℕ) (w : WorldState)
    (once : SettlesOnce p silent settled w) (asked : HaveAskedBy start w)
    (quiet : HaveQuietLinks p.params w) (off : NothingLapses p.params) (late : settled < w.time)
    (sound : IsSoundWorld w) where
  abbrev n : Network
  n = left_network p silent w

  net_w : IsSettlingNetwork n
  net_w = left_net p silent w once.standing.world

  x : IsSettledState says_announce n (view w)
  x = once.state quiet off late

  invariant : Invariant says_announce n (view w)
  invariant = record {
    sound = λ now. received_fits says_announce (snapshot_of w) (view w) net_w.graph
        (on_links says_announce (snapshot_of w) (view w) sound);
    levels = λ d best v pp u q close leads from pv pu l stand ready.
        inr (inr (facts_of says_announce (wiring n d best v pp u q) (view w) (x.rest.links d best v pp u q close leads)
        pv pu l stand).stays);
  }

  seen : IsSettledSeen p w
  seen =
      let long = once.long in settled_in p w n refl net_w x.calm invariant (omega (arith, long, late))

  pub rest_claimed : (begin : ℕ) → start ≤ begin → AreSilentBy p begin w → IsClaimedAlways p begin w
  rest_claimed begin later =
      sound_claimed p start silent w once.standing once.asked asked sound seen off begin later

-- So it is once traces are told anew.
module _ (p : SettlingParams) (silent start settled : ℕ) (w : WorldState)
    (once : SettlesOnce p silent settled w) (asked : HaveAskedBy start w) (tells : TellsOnce p silent settled w)
    (quiet : HaveQuietLinks p.params w) (off : NothingLapses p.params)
    (gone_by : told_by p settled w + largest_interval p < w.time) where
  late_then : settled < w.time
  late_then = omega (arith, gone_by)

  told : told_by p settled w < w.time
  told = omega (arith, gone_by)

  state : IsSettledState says_announce (left_network p silent w) (view w)
  state = once.state quiet off late_then

  -- all that is held and in flight is sound
  anew_sound : IsSoundWorld w
  anew_sound = record {
    lanes = λ j l at f a among said. elim (tells.flights quiet off told j l f a at among said) [
      | inl is ↦ is
      | inr old ↦
          let left = state.calm.left j l f at among in
          absurd (omega (arith, old, left, gone_by))
    ];
    stations = all_held_right says_announce (left_network p silent w) (left_net p silent w once.standing.world)
        once.near (suc settled) (view w) state (tells.levels quiet off late_then) (right_by p silent settled w told);
  }

  pub once_claimed : (begin : ℕ) → start ≤ begin → AreSilentBy p begin w → IsClaimedAlways p begin w
  once_claimed = rest_claimed p silent start settled w once asked quiet off late_then anew_sound
