-- A link goes down by which one system is moved: from then on its neighbours turn away.
use Rattle.std.proofs.Common.{◌≡◌, ◌≢◌, ◌≤◌, ◌+◌, ◌*◌, ℕ, zero, suc, pred, true, List, Some, slice_get, refl, subst, inl, inr, arith}
use native.Mathlib.Decide.{ℕ_discrete}
use Rattle.gptp_lists.specs.Members.{In}
use Rattle.gptp_graph.specs.Distance.{IsDistance}
use Rattle.gptp_graph.specs.PathBound.{path_bound}
use Rattle.gptp_graph.specs.Snapshot.{Adjacent, System, clocks}
use Rattle.gptp_graph.proofs.LinkLemmas.{Adjacent-clock, Adjacent-sym}
use Rattle.gptp_graph.proofs.PathBoundLemmas.{IsDistance-within}
use Rattle.gptp_links.specs.declared.link.Direction.{Direction}
use Rattle.gptp_links.specs.declared.link.Direction.TheVariants.{FromA, FromB}
use Rattle.gptp_links.specs.Fate.{Draw}
use Rattle.gptp_scenario.specs.Calm.{NothingLapses}
use Rattle.gptp_scenario.specs.Params.{KeepPace}
use Rattle.gptp_scenario.specs.declared.change.Act.TheVariants.{Change as Changing}
use Rattle.gptp_scenario.specs.declared.change.Change.TheVariants.{LinkDown}
use Rattle.gptp_setup.specs.SettlingParams.{SettlingParams}
use Rattle.gptp_system.specs.Input.{PortDown}
use Rattle.gptp_system.specs.State.{clock}
use Rattle.gptp_system.specs.Steps.{HasPortNumber}
use Rattle.gptp_model.specs.Acts.{Acts}
use Rattle.gptp_model.specs.Changing.{TellsEnds, taken_down}
use Rattle.gptp_model.specs.World.{Channel, WorldState, sender}
use Rattle.gptp_model.specs.declared.done.Done.{Done}
use Rattle.gptp_model.specs.declared.station.Station.{Station}
use Rattle.gptp_bmca_machine.specs.LossLaws.{IsAfterLoss}
use Rattle.gptp_bmca_machine.specs.Network.{Network}
use Rattle.gptp_bmca_machine.specs.RestLaws.{SameWiring}
use Rattle.gptp_bmca_machine.specs.SoundEverywhere.{IsSoundEverywhere}
use Rattle.gptp_bmca_machine.specs.SoundLaws.{AllAreNear}
use Rattle.gptp_bmca_machine.specs.Touch.{Disable, StationTouch}
use Rattle.gptp_invariants.specs.ChoiceCalm.{HaveQuietLinks, delay_in}
use Rattle.gptp_invariants.specs.ChoiceSettlesAsMachine.{IsWorld}
use Rattle.gptp_invariants.specs.ChoiceView.{says_announce, view}
use Rattle.gptp_invariants.specs.DelayMeasured.{LinkIsMeasured}
use Rattle.gptp_invariants.specs.WorldNews.{AreReadyBy, AreSilentBy}
use Rattle.gptp_invariants.specs.WorldSound.{IsSoundWorld}
use Rattle.gptp_invariants.specs.WorldStanding.{snapshot_of}
use Rattle.gptp_invariants.proofs.ChoiceSettlesAsMachineLemmas.{paths_bound}
use Rattle.gptp_invariants.proofs.WorldStandsLemmas.{stands_well}
use Rattle.gptp_settling_time.specs.Losses.{IsTurned, IsUnmoved}
use Rattle.gptp_settling_time.proofs.AlwaysClaimedLemmas.{IsStanding}
use Rattle.gptp_settling_time.proofs.BesideLemmas.{IsDark, IsMoving}
use Rattle.gptp_settling_time.proofs.LeftClaimedLemmas.{HaveAskedLong, left_network}
use Rattle.gptp_settling_time.proofs.LoweredLemmas.{ends, known, less_then, ready_on, wires}
use Rattle.gptp_settling_time.proofs.GoesOnLemmas.{after_loss, dark_now}
use Rattle.gptp_settling_time.proofs.MovedAlwaysLemmas.{IsMovedAlways, at_least, turned_by}
use Rattle.gptp_settling_time.proofs.MovedLemmas.{EachTurns}
use Rattle.gptp_settling_time.proofs.ReducedLemmas.{NearerStay}
use Rattle.gptp_settling_time.proofs.SettledSeenLemmas.{IsSettledSeen}
use Rattle.gptp_settling_time.proofs.TakenDownLemmas.{silent_down, told_keeps}
use Rattle.gptp_settling_time.proofs.TurnLemmas.{TurnsOne, starts_far}
use Rattle.gptp_settling_time.proofs.EndAnswersLemmas.{EndAnswers}
use Rattle.gptp_settling_time.proofs.TurnsAwayLemmas.{moving'}
use Rattle.gptp_settling_time.proofs.OneEndLemmas.{turns_a, turns_b}
use Rattle.gptp_settling_time.proofs.TurnsTellLemmas.{each_begins}
use Rattle.gptp_settling_time.proofs.WidenedLemmas.{ready_first}
use Rattle.gptp_bmca_machine.proofs.RestLemmas.{left_of}

module _ (p : SettlingParams) (w : WorldState) (is : IsWorld p w) (place : ℕ) (channel : Channel)
    (here : slice_get w.net.channels place ≡ Some channel) (draws : List Draw) (w' : WorldState) (is' : IsWorld p w')
    (k : TellsEnds PortDown channel (record w { net = taken_down place channel w.net; last_change = w.time }) draws w')
    (seen : IsSettledSeen p w) (near : AllAreNear (snapshot_of w))
    (next x d e : ℕ) (best : System) (turns : TurnsOne (snapshot_of w) (left_network p next w') x d e best) where
  abbrev taken : WorldState
  taken = record w { net = taken_down place channel w.net; last_change = w.time }

  abbrev n : Network
  n = left_network p next w'

  wired : SameWiring seen.n n
  wired = wires p w is place channel here draws w' is' k seen near n refl

  -- ---- the end that isn't moved

  -- the system is nearer to none
  beside : (v : ℕ) → NearerStay (snapshot_of w) (snapshot_of w') v
  beside v y near_y joined nearer far_v = elim (ℕ_discrete y x) [
    | no other ↦ turns.others y (Adjacent-clock n.graph v y turns.well joined) other
    | yes same ↦
        let back = Adjacent-sym n.graph v y joined in
        absurd (elim (turns.far v near_y (suc near_y) (subst (λ c. Adjacent n.graph c v) same back)
        (subst (λ c. IsDistance n.graph c near_y) same nearer) far_v) [
          | inl less ↦ omega (arith, less)
          | inr (equal, lower) ↦ omega (arith, equal)
        ])
  ]

  -- ---- what is claimed from then on

  module _ (touch : StationTouch) (other : ℕ)
      (a : EndAnswers says_announce n x touch other (view w) (view w')) (pace : KeepPace p)
      (measured' : LinkIsMeasured w') (past : next ≤ w.time)
      (way : pred (path_bound (snapshot_of w')) * delay_in w' ≤ w'.time) (sound : IsSoundWorld w)
      (ready' : AreReadyBy p next w') (silent : AreSilentBy p next w) where
    by_now : next ≤ w'.time
    by_now = let time = a.time in omega (arith, past, time)

    standing' : IsStanding p next w'
    standing' = record {
      pace = pace;
      world = is';
      measured = measured';
      silent = silent_down p w is place channel here draws w' is' k next silent;
    }

    asked' : HaveAskedLong w'
    asked' at stands =
        let (first, by) = ready_first p next w' is' by_now at (ready' at stands) in
        let change = (told_keeps channel taken draws w' k).change in
        (first, next, omega (arith, past, change), record { is = by; late = by_now })

    late : delay_in w' ≤ w'.time
    late =
        let first = starts_far (snapshot_of w) n x d e best turns in
        let more = turns.more in
        let within = IsDistance-within n.graph n.reach x e (paths_bound p w' is') turns.is in
        let least = at_least n.reach n.most e (omega (arith, first, more)) within in
        omega (arith, way, least)

    begins : HaveQuietLinks p.params w' → NothingLapses p.params
        → IsMoving says_announce (snapshot_of w) n x e best (view w')
        × EachTurns says_announce (snapshot_of w) n x d e best turns (w.time + n.most) (turned_by n w.time) (view w')
    begins quiet' off =
        subst (λ h. AllAreNear h → IsSoundEverywhere says_announce h (view w) → (t : TurnsOne h n x d e best)
        → IsMoving says_announce h n x e best (view w')
        × EachTurns says_announce h n x d e best t (w.time + n.most) (turned_by n w.time) (view w')) seen.graph
        (λ near0 sound0 t. (
          moving' says_announce seen.n n x d e best t seen.net (view w) seen.calm seen.invariant seen.late near0 sound0
              wired (view w') touch other a kept' dark',
          each_begins says_announce seen.n n x d e best t seen.net (view w) seen.calm seen.invariant seen.late near0
              sound0 wired (view w') touch other a kept' dark' (turned_by n w.time),
        )) near sound turns
      where
        kept' : IsAfterLoss n (view w')
        kept' = after_loss p next w' standing' asked' quiet' by_now off late

        dark' : IsDark n (view w')
        dark' = dark_now p next w' standing' asked' quiet' by_now

    pub turned_begins : IsMovedAlways p (snapshot_of w) next w.time w'
    turned_begins = record {
      standing = standing';
      asked = asked';
      n = n;
      same = refl;
      x = x;
      d = d;
      e = e;
      best = best;
      turns = turns;
      past = by_now;
      begun = let time = a.time in omega (arith, time);
      late = late;
      seen = begins;
    }

-- ---- the act

module _ (p : SettlingParams) (next owner port : ℕ) (w : WorldState) (draws : List Draw) (done : Done)
    (w' : WorldState) (pace : KeepPace p) (is : IsWorld p w) (is' : IsWorld p w') (measured : LinkIsMeasured w)
    (measured' : LinkIsMeasured w') (acts : Acts (Changing (LinkDown owner port)) w draws done w')
    (up : acts.1.channel.up ≡ true) (quiet : HaveQuietLinks p.params w) (past : next ≤ w.time)
    (ready : AreReadyBy p next w) (silent : AreSilentBy p next w) (seen : IsSettledSeen p w)
    (near : AllAreNear (snapshot_of w)) where
  abbrev place : ℕ
  place = acts.1.place

  abbrev channel : Channel
  channel = acts.1.channel

  abbrev here : slice_get w.net.channels acts.1.place ≡ Some acts.1.channel
  here = acts.1.is.here

  told : TellsEnds PortDown acts.1.channel
      (record w { net = taken_down acts.1.place acts.1.channel w.net; last_change = w.time }) draws w'
  told = ends p next owner port w draws done w' pace is is' measured measured' acts up

  still_ready : AreReadyBy p next w'
  still_ready = ready_on p next owner port w draws done w' pace is is' measured measured' acts up ready

  -- both ends live, and one of them is moved
  module _ (live : (direction : Direction) (at : ℕ) (station : Station) → slice_get w.stations at ≡ Some station
      → clock station.system ≡ (sender direction acts.1.channel).clock → station.live ≡ true)
      (x d e : ℕ) (best : System) (so : IsTurned (snapshot_of w) (snapshot_of w') x d e best)
      (near_then : AllAreNear (snapshot_of w'))
      (moved : (direction : Direction) × ((sender direction acts.1.channel).clock ≡ x))
      (way : pred (path_bound (snapshot_of w')) * delay_in w' ≤ w'.time) (sound : IsSoundWorld w) where
    turns : TurnsOne (snapshot_of w) (left_network p next w') x d e best
    turns =
        let less = less_then p w is place channel here draws w' is' told seen near in
        record {
          well = stands_well w' is'.sound is'.between is'.encodable;
          left = left_of (snapshot_of w) (left_network p next w') (stands_well w is.sound is.between is.encodable)
              less.systems less.links;
          near = near_then;
          others = so.others;
          was_best = so.was_best;
          is_best = so.is_best;
          was = so.was;
          is = so.is;
          more = so.more;
          lost = so.lost;
          far = so.far;
          single = so.single;
          tells = so.tells;
        }

    live_a : told.station_a.live ≡ true
    live_a = live FromA told.place_a told.station_a told.is_a.here told.is_a.named

    live_b : told.station_b.live ≡ true
    live_b = live FromB told.place_b told.station_b told.is_b.here told.is_b.named

    end_known : (way : Direction) → In (sender way channel).clock (clocks (snapshot_of w'))
    end_known FromA =
        subst (λ c. In c (clocks (snapshot_of w'))) told.is_a.named
        (known p w is place channel here draws w' is' told seen near FromA told.place_a told.station_a told.is_a.here
        told.is_a.named live_a)
    end_known FromB =
        subst (λ c. In c (clocks (snapshot_of w'))) told.is_b.named
        (known p w is place channel here draws w' is' told seen near FromB told.place_b told.station_b told.is_b.here
        told.is_b.named live_b)

    -- the end that isn't moved, and who is nearer than it
    stays : (way : Direction) → (sender way channel).clock ≢ x
        → IsUnmoved (snapshot_of w) (snapshot_of w') (sender way channel).clock
        × NearerStay (snapshot_of w) (snapshot_of w') (sender way channel).clock
    stays way other = (
      so.others (sender way channel).clock (end_known way) other,
      beside p w is place channel here draws w' is' told seen near next x d e best turns (sender way channel).clock,
    )

    begins_so : (touch : StationTouch) (other : ℕ)
        → EndAnswers says_announce (left_network p next w') x touch other (view w) (view w')
        → IsMovedAlways p (snapshot_of w) next w.time w'
    begins_so touch other a =
        turned_begins p w is place channel here draws w' is' told seen near next x d e best turns touch other a pace
        measured' past way sound still_ready silent

    by_a : channel.a.clock ≡ x → (n : ℕ) → channel.a.port ≡ n → HasPortNumber told.station_a.system n
        → IsMovedAlways p (snapshot_of w) next w.time w'
    by_a is_a zero number of = absurd (let least = of.least in omega (arith, least))
    by_a is_a (suc i) number of =
        begins_so (Disable (suc i)) told.place_b
        (turns_a p w is place channel here draws w' is' told seen near next x stays live_a live_b is_a i
        number)

    by_b : channel.b.clock ≡ x → (n : ℕ) → channel.b.port ≡ n → HasPortNumber told.station_b.system n
        → IsMovedAlways p (snapshot_of w) next w.time w'
    by_b is_b zero number of = absurd (let least = of.least in omega (arith, least))
    by_b is_b (suc i) number of =
        begins_so (Disable (suc i)) told.place_a
        (turns_b p w is place channel here draws w' is' told seen near next x stays live_a live_b is_b i
        number)

    by_end : (direction : Direction) → (sender direction channel).clock ≡ x
        → IsMovedAlways p (snapshot_of w) next w.time w'
    by_end FromA is_a =
        by_a is_a channel.a.port refl
        (is.sound.wired.ports place told.place_a FromA channel told.station_a here told.is_a.here told.is_a.named)
    by_end FromB is_b =
        by_b is_b channel.b.port refl
        (is.sound.wired.ports place told.place_b FromB channel told.station_b here told.is_b.here told.is_b.named)

    pub act_turned : IsMovedAlways p (snapshot_of w) next w.time w'
    act_turned = by_end moved.0 moved.1
