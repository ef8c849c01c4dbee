-- Where what is held of a failed system ages a link goes down that is up, and of which an end has failed: it ages on.
use Rattle.std.proofs.Common.{◌≡◌, ◌≤◌, ◌*◌, ℕ, pred, true, false, List, sym, subst, inl, inr, arith}
use Rattle.gptp_lists.specs.Members.{In}
use Rattle.gptp_graph.specs.Best.{IsBest}
use Rattle.gptp_graph.specs.Distance.{IsDistance}
use Rattle.gptp_graph.specs.PathBound.{path_bound}
use Rattle.gptp_graph.specs.Snapshot.{IsWellFormed, Joins, PortIdentity, Snapshot, clocks}
use Rattle.gptp_links.specs.Fate.{Draw}
use Rattle.gptp_scenario.specs.Calm.{NothingLapses}
use Rattle.gptp_scenario.specs.declared.change.Act.TheVariants.{Change as Changing}
use Rattle.gptp_scenario.specs.declared.change.Change.TheVariants.{LinkDown}
use Rattle.gptp_setup.specs.SettlingParams.{SettlingParams}
use Rattle.gptp_model.specs.Acts.{Acts, AtLink}
use Rattle.gptp_model.specs.Changing.{GoesDownIf, IsChannel, taken_down}
use Rattle.gptp_model.specs.declared.done.Done.{Done}
use Rattle.gptp_model.specs.World.{Channel, WorldState, port_id}
use Rattle.gptp_bmca_machine.specs.Acts.{MachineSteps}
use Rattle.gptp_bmca_machine.specs.LossLaws.{EverythingFits, IsAfterLoss, IsWhatIsLeft, Unmoved}
use Rattle.gptp_bmca_machine.specs.Network.{Network, network_setting}
use Rattle.gptp_bmca_machine.specs.SoundLaws.{AllAreNear}
use Rattle.gptp_invariants.specs.ChoiceCalm.{HaveQuietLinks, delay_in}
use Rattle.gptp_invariants.specs.ChoiceSettlesAsMachine.{IsWorld}
use Rattle.gptp_invariants.specs.ChoiceView.{says_announce, view}
use Rattle.gptp_invariants.specs.DelayMeasured.{LinkIsMeasured}
use Rattle.gptp_invariants.specs.WorldStanding.{channel_is_used, live_stations, snapshot_of}
use Rattle.gptp_invariants.proofs.WorldStandsLemmas.{stands_well}
use Rattle.gptp_settling_time.proofs.AgesByLemmas.{UnlinkedAgeBy, by_kept, by_reduced}
use Rattle.gptp_settling_time.proofs.AgesByWorldLemmas.{WorldAgesBy}
use Rattle.gptp_settling_time.proofs.AgingLemmas.{UnlinkedAge, ages_kept, ages_reduced}
use Rattle.gptp_settling_time.proofs.AgingClaimedLemmas.{IsAgingAlways, aging_after, aging_facts, aging_network, named_in, stay_of}
use Rattle.gptp_settling_time.proofs.AgingStillLemmas.{IsAgingSeen, IsEmptied, aging_kept, emptied_reduced, still_emptied}
use Rattle.gptp_settling_time.proofs.AlwaysClaimedLemmas.{IsStanding}
use Rattle.gptp_settling_time.proofs.EmptiedLemmas.{AreEmptied, IsAlike, emptied_after, lanes_emptied}
use Rattle.gptp_settling_time.proofs.FitsLemmas.{IsLeftUnmoved}
use Rattle.gptp_settling_time.proofs.LeftClaimedLemmas.{HaveAskedLong}
use Rattle.gptp_settling_time.proofs.NearEndLemmas.{NearEndsStay}
use Rattle.gptp_settling_time.proofs.UnusedDownLemmas.{alike_then, asked', delay_now, either, emptied, late_then, snapshot_now, standing', time}
use Rattle.gptp_bmca_machine.proofs.RestLemmas.{left_of}

module _ (p : SettlingParams) (before : Snapshot) (aged silent owner port : ℕ) (w : WorldState) (draws : List Draw)
    (done : Done) (w' : WorldState) (is' : IsWorld p w') (measured' : LinkIsMeasured w')
    (acts : Acts (Changing (LinkDown owner port)) w draws done w') (aging : IsAgingAlways p before aged silent w)
    (quiet : HaveQuietLinks p.params w) (off : NothingLapses p.params) where
  abbrev is : IsWorld p w
  is = aging.standing.world

  abbrev k : AtLink (port_id owner port) w.net (λ place channel.
      GoesDownIf channel.up place channel (record w { last_change = w.time }) draws w')
  k = acts.1

  abbrev g : Snapshot
  g = snapshot_of w

  abbrev g' : Snapshot
  g' = snapshot_of w'

  abbrev n : Network
  n = aging_network p silent w

  abbrev n' : Network
  n' = aging_network p silent w'

  well : IsWellFormed g
  well = stands_well w is.sound is.between is.encodable

  well' : IsWellFormed g'
  well' = stands_well w' is'.sound is'.between is'.encodable

  claims : IsAgingSeen says_announce before n (stay_of p) aged (view w)
  claims = aging.seen quiet off

  module _ (up : k.channel.up ≡ true)
      (dead : (place : ℕ) (channel : Channel) → IsChannel (port_id owner port) place w.net channel
      → channel_is_used (live_stations w.stations) (record channel { up = true }) ≡ false) where
    abbrev taken : WorldState
    taken = record w { net = taken_down k.place k.channel w.net; last_change = w.time }

    same_graph : g' ≡ g
    same_graph = snapshot_now p silent owner port w draws done w' is' measured' acts aging.standing aging.asked up dead

    alike : IsAlike n n'
    alike = alike_then p silent owner port w draws done w' is' measured' acts aging.standing aging.asked up dead

    lanes_then : AreEmptied g' (view w).lanes (view taken).lanes
    lanes_then = emptied p silent owner port w draws done w' is' measured' acts aging.standing aging.asked up dead

    late' : delay_in w' ≤ w'.time
    late' = late_then p silent owner port w draws done w' is' measured' acts aging.standing aging.asked up dead
        aging.late

    standing_then : IsStanding p silent w'
    standing_then = standing' p silent owner port w draws done w' is' measured' acts aging.standing aging.asked up dead

    asked_then : HaveAskedLong w'
    asked_then = asked' p silent owner port w draws done w' is' measured' acts aging.standing aging.asked up dead

    left' : IsLeftUnmoved before g'
    left' = subst (IsLeftUnmoved before) (sym same_graph) aging.left

    less : IsWhatIsLeft before n'
    less = left_of before n' aging.well left'.systems left'.links

    after : IsAfterLoss n (view w)
    after = aging_after p silent w aging.standing aging.asked quiet off aging.late

    after_taken : IsAfterLoss n' (view taken)
    after_taken = emptied_after n n' alike (view w) (view taken).lanes lanes_then after

    is_emptied : IsEmptied (view w) (view taken)
    is_emptied = lanes_emptied n n' alike (view w) (view taken).lanes lanes_then

    fits_taken : EverythingFits says_announce before n' (view taken)
    fits_taken = record {
      lanes = λ j l f a there flies said known. elim (is_emptied.lanes j l there) [
        | inl stood ↦
            claims.fits.lanes j l f a stood flies said (subst (λ h. In l.to.clock (clocks h)) same_graph known)
        | inr (none, down) ↦ absurd (subst (In f) none flies)
      ];
      stations = claims.fits.stations;
    }

    same_unmoved : (v : ℕ) → Unmoved before n' v → Unmoved before n v
    same_unmoved v x = record {
      live = subst (λ h. In v (clocks h)) same_graph x.live;
      best = λ b is_best. subst (λ h. IsBest h v b) same_graph (x.best b is_best);
      far = λ d here. subst (λ h. IsDistance h v d) same_graph (x.far d here);
    }

    seen_taken : IsAgingSeen says_announce before n' (stay_of p) aged (view taken)
    seen_taken = record {
      ages = subst (λ h. UnlinkedAge says_announce before h (stay_of p) aged (view taken)) (sym same_graph)
          (ages_reduced says_announce before g (stay_of p) aged (view w) (view taken)
          (emptied_reduced (view w) (view taken) is_emptied) claims.ages);
      fits = fits_taken;
      still = still_emptied says_announce before n n' well' alike.wiring
          (λ a b joins. subst (λ h. Joins h a b) same_graph joins) same_unmoved less (view w) (view taken) is_emptied
          aging.late after_taken fits_taken claims.still;
      itself = record {
        lanes = λ j l f a there flies said known. elim (is_emptied.lanes j l there) [
          | inl stood ↦
              claims.itself.lanes j l f a stood flies said (subst (λ h. In l.to.clock (clocks h)) same_graph known)
          | inr (none, down) ↦ absurd (subst (In f) none flies)
        ];
        stations = claims.itself.stations;
      };
    }

    module _ (quiet' : HaveQuietLinks p.params w') where
      after_then : IsAfterLoss n' (view w')
      after_then = aging_after p silent w' standing_then asked_then quiet' off late'

      stepped : MachineSteps says_announce (view taken) (view w')
          → IsAgingSeen says_announce before n' (stay_of p) aged (view w')
      stepped step =
          let ages' = ages_kept says_announce before (network_setting n') (stay_of p) aged (view taken) (view w')
          after_taken.calm.facts (aging_facts p silent w' standing_then asked_then quiet') (named_in p w' is') step
          seen_taken.ages in
          aging_kept says_announce before n' (stay_of p) aged (view taken) (view w') aging.well well' left' after_taken
          after_then ages' step seen_taken

      seen' : IsAgingSeen says_announce before n' (stay_of p) aged (view w')
      seen' = either p silent owner port w draws done w' is' measured' acts aging.standing aging.asked up dead (λ v.
          IsAgingSeen says_announce before n' (stay_of p) aged (view v)) seen_taken stepped

    way' : pred (path_bound g') * delay_in w' ≤ w'.time
    way' =
        let way = aging.way in
        let now = time p silent owner port w draws done w' is' measured' acts aging.standing aging.asked up dead in
        subst (λ delay. pred (path_bound g') * delay ≤ w'.time)
        (sym (delay_now p silent owner port w draws done w' is' measured' acts aging.standing aging.asked up dead))
        (subst (λ h. pred (path_bound h) * delay_in w ≤ w'.time) (sym same_graph) (omega (arith, way, now)))

    pub down_aging : IsAgingAlways p before aged silent w'
    down_aging = record {
      standing = standing_then;
      asked = asked_then;
      well = aging.well;
      left = left';
      near = subst AllAreNear (sym same_graph) aging.near;
      stay = subst (NearEndsStay before) (sym same_graph) aging.stay;
      way = way';
      late = late';
      seen = λ quiet' lapses. seen' quiet';
    }

    -- and what ages by its link does
    pub down_by : (By : PortIdentity → ℕ → Type 0) → WorldAgesBy p By w → WorldAgesBy p By w'
    down_by By ages quiet' =
        either p silent owner port w draws done w' is' measured' acts aging.standing aging.asked up dead (λ v.
        UnlinkedAgeBy says_announce g' (stay_of p) By (view v)) ages_taken
        (λ step. by_kept says_announce (network_setting n') (stay_of p) By (view taken) (view w') after_taken.calm.facts
        (aging_facts p silent w' standing_then asked_then quiet') (named_in p w' is') step ages_taken)
      where
        ages_taken : UnlinkedAgeBy says_announce g' (stay_of p) By (view taken)
        ages_taken =
            subst (λ h. UnlinkedAgeBy says_announce h (stay_of p) By (view taken)) (sym same_graph)
            (by_reduced says_announce g (stay_of p) By (view w) (view taken)
            (emptied_reduced (view w) (view taken) is_emptied) (ages quiet))

    pub down_ages : (By : PortIdentity → ℕ → Type 0) → WorldAgesBy p By w
        → IsAgingAlways p before aged silent w' × WorldAgesBy p By w'
    down_ages By ages = (down_aging, down_by By ages)
