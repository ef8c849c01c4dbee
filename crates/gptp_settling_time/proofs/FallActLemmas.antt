-- The act by which a link goes down that cuts a tree off: from then on the tree falls back.
use Rattle.std.proofs.Common.{◌≡◌, ◌≢◌, ◌⊎◌, ◌≤◌, ◌+◌, ℕ, true, List, Some, slice_get, refl, sym, ap, subst, ◌∙◌, inl, inr, arith}
use Rattle.gptp_lists.specs.Members.{In}
use Rattle.gptp_graph.specs.Best.{IsBest}
use Rattle.gptp_graph.specs.PathBound.{path_bound}
use Rattle.gptp_graph.specs.Snapshot.{IsWellFormed, PortIdentity, System, clocks, port_of}
use Rattle.gptp_graph.proofs.BestLemmas.{IsBest-neighbour}
use Rattle.gptp_graph.proofs.DistanceLemmas.{IsDistance-clock, IsDistance-unique}
use Rattle.gptp_graph.proofs.LinkLemmas.{Adjacent-clock, Adjacent-sym}
use Rattle.gptp_links.specs.declared.link.Direction.{Direction}
use Rattle.gptp_links.specs.declared.link.Direction.TheVariants.{FromA, FromB}
use Rattle.gptp_links.specs.Fate.{Draw}
use Rattle.gptp_scenario.specs.Params.{KeepPace}
use Rattle.gptp_scenario.specs.declared.change.Act.TheVariants.{Change as Changing}
use Rattle.gptp_scenario.specs.declared.change.Change.TheVariants.{LinkDown}
use Rattle.gptp_setup.specs.SettlingParams.{SettlingParams}
use Rattle.gptp_system.specs.Input.{PortDown}
use Rattle.gptp_system.specs.State.{clock}
use Rattle.gptp_model.specs.Acts.{Acts}
use Rattle.gptp_model.specs.Changing.{TellsEnds, taken_down}
use Rattle.gptp_model.specs.World.{Channel, WorldState, receiver, sender}
use Rattle.gptp_model.specs.declared.done.Done.{Done}
use Rattle.gptp_model.specs.declared.station.Station.{Station}
use Rattle.gptp_bmca_machine.specs.CutTree.{CutsTree}
use Rattle.gptp_bmca_machine.specs.LossLaws.{IsAfterLoss}
use Rattle.gptp_bmca_machine.specs.Network.{Network}
use Rattle.gptp_bmca_machine.specs.SoundLaws.{AllAreNear}
use Rattle.gptp_bmca_machine.specs.Station.{Station as SeenStation}
use Rattle.gptp_bmca_machine.proofs.LinkStepLemmas.{lives_at}
use Rattle.gptp_bmca_machine.proofs.RestLemmas.{left_of}
use Rattle.gptp_invariants.specs.ChoiceCalm.{delay_in}
use Rattle.gptp_invariants.specs.ChoiceSettlesAsMachine.{IsWorld}
use Rattle.gptp_invariants.specs.ChoiceView.{says_announce, view}
use Rattle.gptp_invariants.specs.DelayMeasured.{LinkIsMeasured}
use Rattle.gptp_invariants.specs.WorldNews.{AreReadyBy, AreSilentBy}
use Rattle.gptp_invariants.specs.WorldSound.{IsSoundWorld}
use Rattle.gptp_invariants.specs.WorldStanding.{snapshot_of}
use Rattle.gptp_invariants.proofs.ChoiceSettlesAsMachineLemmas.{paths_bound}
use Rattle.gptp_invariants.proofs.WorldStandsLemmas.{stands_well}
use Rattle.gptp_settling_time.specs.Losses.{IsUnmoved}
use Rattle.gptp_settling_time.specs.TreeLosses.{IsCutTree}
use Rattle.gptp_settling_time.proofs.CutDeepLemmas.{deep_within}
use Rattle.gptp_settling_time.proofs.FallAlwaysLemmas.{IsFallenAlways}
use Rattle.gptp_settling_time.proofs.FallDownLemmas.{FlightNames}
use Rattle.gptp_settling_time.proofs.LeftClaimedLemmas.{left_network}
use Rattle.gptp_settling_time.proofs.LoweredLemmas.{ends, less_then, ready_on, still_joins, wires}
use Rattle.gptp_settling_time.proofs.ReducedLemmas.{NearerStay}
use Rattle.gptp_settling_time.proofs.SettledSeenLemmas.{IsSettledSeen}
use Rattle.gptp_settling_time.proofs.SinceSetLemmas.{AreLimitedBy}
use Rattle.gptp_settling_time.proofs.TreeEndLemmas.{TopAnswers, top_answers}
use Rattle.gptp_settling_time.proofs.TakenDownLemmas.{silent_down, told_keeps}
use Rattle.gptp_settling_time.proofs.TreeTracesLemmas.{HasAllButLink, sound_outside}
use Rattle.gptp_settling_time.proofs.TreeBeginsLemmas.{fallen_begins}

module _ (p : SettlingParams) (silent owner port : ℕ) (w : WorldState) (draws : List Draw) (done : Done)
    (w' : WorldState) (pace : KeepPace p) (is : IsWorld p w) (is' : IsWorld p w') (measured : LinkIsMeasured w)
    (measured' : LinkIsMeasured w') (acts : Acts (Changing (LinkDown owner port)) w draws done w')
    (up : acts.1.channel.up ≡ true) (past : silent ≤ w.time) (ready : AreReadyBy p silent w)
    (quiet_by : AreSilentBy p silent w) (seen : IsSettledSeen p w) (near : AllAreNear (snapshot_of w)) where
  abbrev channel : Channel
  channel = acts.1.channel

  abbrev here : slice_get w.net.channels acts.1.place ≡ Some acts.1.channel
  here = acts.1.is.here

  told : TellsEnds PortDown acts.1.channel
      (record w { net = taken_down acts.1.place acts.1.channel w.net; last_change = w.time }) draws w'
  told = ends p silent owner port w draws done w' pace is is' measured measured' acts up

  still_ready : AreReadyBy p silent w'
  still_ready = ready_on p silent owner port w draws done w' pace is is' measured measured' acts up ready

  -- both ends live, and one of them is the top of a tree
  module _ (live : (direction : Direction) (at : ℕ) (station : Station) → slice_get w.stations at ≡ Some station
      → clock station.system ≡ (sender direction acts.1.channel).clock → station.live ≡ true)
      (top_at other : ℕ) (best next : System) (base : ℕ) (depth : ℕ → ℕ)
      (so : IsCutTree (snapshot_of w) (snapshot_of w') top_at other best next base depth)
      (few : path_bound (snapshot_of w') ≤ 255)
      (ends_are : ((channel.a.clock ≡ top_at) × (channel.b.clock ≡ other))
      ⊎ ((channel.b.clock ≡ top_at) × (channel.a.clock ≡ other))) (late : delay_in w' ≤ w'.time)
      (sound : IsSoundWorld w)
      (named : FlightNames says_announce (snapshot_of w) (view w)) (Limits : ℕ → Type 0)
      (limited : (limit : ℕ) → Limits limit → AreLimitedBy limit w') where
    well : IsWellFormed (snapshot_of w)
    well = stands_well w is.sound is.between is.encodable

    well' : IsWellFormed (snapshot_of w')
    well' = stands_well w' is'.sound is'.between is'.encodable

    -- what the machine knows of it
    tree : CutsTree (snapshot_of w) (left_network p silent w') top_at best next base depth
    tree =
        let less = less_then p w is acts.1.place channel here draws w' is' told seen near in
        record {
          well = well';
          left = left_of (snapshot_of w) (left_network p silent w') well less.systems less.links;
          stand = λ s member. inl (less.systems s member);
          others = λ v known out.
              let unmoved = so.others v known out in
              record { live = known; best = unmoved.best; far = unmoved.far };
          worse = so.worse;
          was_best = so.was_best;
          was = so.was;
          near = λ v in_v.
              let was = so.was v in_v in
              let (far, there, close) = near v (IsDistance-clock (snapshot_of w) v (base + depth v) well was) in
              let one = IsDistance-unique (snapshot_of w) v (base + depth v) far well was there in
              omega (arith, one, close);
          deep = λ v in_v.
              deep_within (snapshot_of w) (snapshot_of w') well well' top_at other best next base depth so
              (left_network p silent w').reach (paths_bound p w' is') v in_v;
          first = so.first;
          lost = so.lost;
          steps = so.steps;
          single = so.single;
          paths = paths_bound p w' is';
          few = few;
        }

    -- these are the ends of the link
    ends_of : (way : Direction) (v u : ℕ) → v ≡ (sender way channel).clock → u ≡ (receiver way channel).clock
        → ((v ≡ top_at) × (u ≡ other)) ⊎ ((v ≡ other) × (u ≡ top_at))
    ends_of FromA v u from to = elim ends_are [
      | inl (is_a, is_b) ↦ inl (from ∙ is_a, to ∙ is_b)
      | inr (is_b, is_a) ↦ inr (from ∙ is_a, to ∙ is_b)
    ]
    ends_of FromB v u from to = elim ends_are [
      | inl (is_a, is_b) ↦ inr (from ∙ is_b, to ∙ is_a)
      | inr (is_b, is_a) ↦ inl (from ∙ is_b, to ∙ is_a)
    ]

    -- all else is left
    left_but : HasAllButLink (snapshot_of w) (snapshot_of w') top_at other
    left_but = record {
      systems = λ s member.
          subst (In s)
          (sym (told_keeps channel (record w { net = taken_down acts.1.place channel w.net; last_change = w.time })
          draws w' told).systems) member;
      links = λ v u joined. elim (still_joins p w is acts.1.place channel here draws w' is' told seen near
          (port_of v joined.0) (port_of u joined.1) joined.2) [
            | inl left ↦ inl (joined.0, joined.1, left)
            | inr (way, from, to) ↦ inr (ends_of way v u (ap (λ (q : PortIdentity). q.clock) from)
                (ap (λ (q : PortIdentity). q.clock) to))
          ];
    }

    -- the other end is unmoved, and so are its neighbours
    other_stays : In other (clocks (snapshot_of w'))
        → IsUnmoved (snapshot_of w) (snapshot_of w') other × NearerStay (snapshot_of w) (snapshot_of w') other
    other_stays known_other = (
      so.others other known_other so.outside,
      (λ y e joined there farther.
          so.others y (Adjacent-clock (snapshot_of w') other y well' joined)
          (λ in_y. so.outside (IsBest-neighbour (snapshot_of w') y other next well'
          (Adjacent-sym (snapshot_of w') other y joined) in_y))),
    )

    top : TopAnswers p silent w is acts.1.place channel here draws w' is' told seen near live top_at other ends_are
        other_stays
    top =
        top_answers p silent w is acts.1.place channel here draws w' is' told seen near live top_at other ends_are
        other_stays

    -- what stands at the other end isn't of the tree
    not_tree : (m : SeenStation) → slice_get (view w').stations top.at ≡ Some m → m.live ≡ true
        → IsBest (snapshot_of w') m.clock next → ⊥
    not_tree m at lives in_m = elim (top.end m at lives) [
      | inl same ↦ so.outside (subst (λ c. IsBest (snapshot_of w') c next) same so.in_top)
      | inr is_other ↦ so.outside (subst (λ c. IsBest (snapshot_of w') c next) is_other in_m)
    ]

    abbrev n : Network
    n = left_network p silent w'

    -- the other end isn't of the tree
    outside_at : (c : ℕ) (m : SeenStation) → IsBest n.graph c next → c ≢ top_at
        → slice_get (view w').stations (n.place c) ≡ Some m → IsAfterLoss n (view w') → n.place c ≢ top.at
    outside_at c m in_c apart at kept' same =
        let (lives, named_c) = lives_at n (view w') kept'.calm c in_c.reached.1.begins m at in
        not_tree m (subst (λ i. slice_get (view w').stations i ≡ Some m) same at) lives
        (subst (λ v. IsBest (snapshot_of w') v next) (sym named_c) in_c)

    pub act_fallen : IsFallenAlways p (snapshot_of w) Limits silent w.time w'
    act_fallen =
        fallen_begins p w w' is' seen silent top_at best next base depth tree so.in_top
        (wires p w is acts.1.place channel here draws w' is' told seen near n refl)
        (told_keeps channel (record w { net = taken_down acts.1.place channel w.net; last_change = w.time }) draws w'
        told).change top.touch top.at top.answers outside_at pace measured' past late sound named still_ready
        (silent_down p w is acts.1.place channel here draws w' is' told silent quiet_by)
        (sound_outside (snapshot_of w) n top_at best next base depth tree other left_but
        so.in_top so.outside) Limits limited
