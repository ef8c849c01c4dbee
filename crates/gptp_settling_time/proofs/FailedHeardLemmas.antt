-- A system fails that others hear, and no system is moved but such as are cut off: what is held of it ages from then
-- on.
use Rattle.std.proofs.Common.{◌≡◌, ◌⊎◌, ◌≤◌, ◌<◌, ◌+◌, ◌*◌, ℕ, suc, pred, Bool, true, false, cond, max, List, [], ◌∷◌, Some, slice_get, refl, sym, ap, subst, ◌∙◌, inl, inr, arith}
use Rattle.gptp_lists.specs.Members.{In}
use Rattle.gptp_graph.specs.Best.{IsBest}
use Rattle.gptp_graph.specs.Distance.{IsDistance}
use Rattle.gptp_graph.specs.Path.{IsPath}
use Rattle.gptp_graph.specs.PathBound.{path_bound}
use Rattle.gptp_graph.specs.Snapshot.{IsWellFormed, Joins, Snapshot, System, clocks}
use Rattle.gptp_graph.proofs.ExistenceLemmas.{distance_exists}
use Rattle.gptp_graph.proofs.LinkLemmas.{Joins-clock}
use Rattle.gptp_links.specs.declared.link.Direction.TheVariants.{FromA}
use Rattle.gptp_links.specs.Fate.{Draw}
use Rattle.gptp_scenario.specs.Params.{KeepPace}
use Rattle.gptp_scenario.specs.SettlingTime.{silence_span}
use Rattle.gptp_scenario.specs.declared.change.Act.TheVariants.{Change as Changing}
use Rattle.gptp_scenario.specs.declared.change.Change.TheVariants.{Fail}
use Rattle.gptp_setup.specs.SettlingParams.{SettlingParams, longest_span}
use Rattle.gptp_setup.proofs.SettlingParamsLemmas.{span_longest}
use Rattle.gptp_model.specs.Acts.{Acts, AtSystem}
use Rattle.gptp_model.specs.Changing.{FailsIf}
use Rattle.gptp_model.specs.declared.done.Done.{Done}
use Rattle.gptp_model.specs.World.{Channel, WorldState, receiver, sender}
use Rattle.gptp_bmca_machine.specs.LossLaws.{EverythingFits, Unmoved}
use Rattle.gptp_bmca_machine.specs.Network.{Network}
use Rattle.gptp_bmca_machine.specs.RestLaws.{SameWiring}
use Rattle.gptp_bmca_machine.specs.SoundLaws.{AllAreNear}
use Rattle.gptp_bmca_machine.proofs.StillLemmas.{StillSettles}
use Rattle.gptp_bmca_machine.proofs.RestLemmas.{left_of}
use Rattle.gptp_invariants.specs.ChoiceCalm.{HaveQuietLinks, delay_in, greatest_channel_delay}
use Rattle.gptp_invariants.specs.ChoiceSettlesAsMachine.{IsWorld}
use Rattle.gptp_invariants.specs.ChoiceView.{port_identity_number, says_announce, view}
use Rattle.gptp_invariants.specs.DelayMeasured.{LinkIsMeasured}
use Rattle.gptp_invariants.specs.WorldNews.{AreReadyBy, AreSilentBy}
use Rattle.gptp_invariants.specs.WorldSound.{IsSoundWorld}
use Rattle.gptp_invariants.specs.WorldStanding.{channel_is_used, live_stations, snapshot_of}
use Rattle.gptp_invariants.proofs.ChoiceSettlesAsMachineLemmas.{paths_bound}
use Rattle.gptp_invariants.proofs.WorldStandsLemmas.{stands_well}
use Rattle.gptp_invariants.proofs.WorldWayLemmas.{used_joins}
use Rattle.gptp_settling_time.specs.Losses.{IsUnmovedOrCutOff}
use Rattle.gptp_settling_time.proofs.AgingLemmas.{UnlinkedAge}
use Rattle.gptp_settling_time.proofs.AgingClaimedLemmas.{IsAgingAlways, aging_after, aging_network, named_in, stay_of}
use Rattle.gptp_settling_time.proofs.AgingStillLemmas.{IsEmptied, ages_begin, still_emptied, still_settled}
use Rattle.gptp_settling_time.proofs.AlwaysClaimedLemmas.{IsStanding}
use Rattle.gptp_settling_time.proofs.FailedAloneLemmas as alone
use Rattle.gptp_settling_time.proofs.FitsLemmas.{IsLeftUnmoved, at_zero, lived}
use Rattle.gptp_settling_time.proofs.LeftClaimedLemmas.{HaveAskedLong}
use Rattle.gptp_settling_time.proofs.MovedAlwaysLemmas.{at_least}
use Rattle.gptp_settling_time.proofs.LostEndLemmas.{sound_reduced}
use Rattle.gptp_settling_time.proofs.NamesItselfLemmas.{itself_begins}
use Rattle.gptp_settling_time.proofs.NearEndLemmas.{near_ends_stay}
use Rattle.gptp_settling_time.proofs.ReducedLemmas.{fits_reduced}
use Rattle.gptp_settling_time.proofs.SettledSeenLemmas.{IsSettledSeen, sound_fits}

-- ---- a delay is no longer than a way

-- the greatest delay is 0, or a link is used
record IsUsedAt (systems : List System) (channels : List Channel) : Type 0 where
  link : ℕ
  channel : Channel
  here : slice_get channels link ≡ Some channel
  used : channel_is_used systems channel ≡ true

delay_used : (systems : List System) (channels : List Channel)
    → (greatest_channel_delay systems channels ≡ 0) ⊎ IsUsedAt systems channels
delay_used systems [] = inl refl
delay_used systems (channel ∷ channels) = by (channel_is_used systems channel) refl (delay_used systems channels)
  where
    by : (used : Bool) → channel_is_used systems channel ≡ used
        → (greatest_channel_delay systems channels ≡ 0) ⊎ IsUsedAt systems channels
        → (cond used (max channel.bounds.max (greatest_channel_delay systems channels))
        (greatest_channel_delay systems channels) ≡ 0) ⊎ IsUsedAt systems (channel ∷ channels)
    by true is rest = inr (record { link = 0; channel = channel; here = refl; used = is })
    by false is (inl none) = inl none
    by false is (inr at) = inr (record { link = suc at.link; channel = at.channel; here = at.here; used = at.used })

pub delay_within : (p : SettlingParams) (w : WorldState) (time : ℕ) → IsWorld p w
    → pred (path_bound (snapshot_of w)) * delay_in w ≤ time → delay_in w ≤ time
delay_within p w time is way = elim (delay_used (live_stations w.stations) w.net.channels) [
  | inl none ↦ omega (arith, none)
  | inr at ↦ by at
]
  where
    by : IsUsedAt (live_stations w.stations) w.net.channels → delay_in w ≤ time
    by at =
        let well = stands_well w is.sound is.between is.encodable in
        let from = port_identity_number (sender FromA at.channel) in
        let to = port_identity_number (receiver FromA at.channel) in
        let joins : Joins (snapshot_of w) from to = used_joins w at.link FromA at.channel at.here at.used in
        let path : IsPath (snapshot_of w) from.clock to.clock (to.clock ∷ []) =
        record {
          begins = Joins-clock (snapshot_of w) from to well joins;
          route = ((from.port, to.port, joins), refl);
          different =
              (λ among. elim among [ inl same ↦ well.apart from to joins same | inr none ↦ none ], (λ none. none, tt));
        } in
        let more = paths_bound p w is from.clock to.clock (to.clock ∷ []) path in
        let least = at_least (path_bound (snapshot_of w)) (delay_in w) 1 (omega arith) more in
        omega (arith, least, way)

-- ---- the failure

module _ (p : SettlingParams) (number : ℕ) (w : WorldState) (draws : List Draw) (done : Done) (w' : WorldState)
    (is : IsWorld p w) (is' : IsWorld p w') (acts : Acts (Changing (Fail number)) w draws done w') where
  abbrev k : AtSystem number (record w { last_change = w.time }) (λ place station.
      FailsIf station.live place station (record w { last_change = w.time }) draws w')
  k = acts.1

  abbrev g : Snapshot
  g = snapshot_of w

  abbrev g' : Snapshot
  g' = snapshot_of w'

  well : IsWellFormed g
  well = alone.well p number w draws done w' is is' acts

  well' : IsWellFormed g'
  well' = alone.well' p number w draws done w' is is' acts

  module _ (lives : k.station.live ≡ true) (seen : IsSettledSeen p w) (near : AllAreNear g)
      (stay : (v : ℕ) → In v (clocks g') → IsUnmovedOrCutOff g g' v) (sound : IsSoundWorld w) where
    time_now : w'.time ≡ w.time
    time_now = alone.time_now p number w draws done w' is is' acts lives

    left : IsLeftUnmoved g g'
    left = record {
      systems = alone.systems_before p number w draws done w' is is' acts lives;
      links = alone.links_before p number w draws done w' is is' acts lives;
      unmoved = stay;
    }

    lived_before : (v : ℕ) → In v (clocks g') → In v (clocks g)
    lived_before = lived g g' well well' left

    near_then : AllAreNear g'
    near_then v known = elim (stay v known) [
      | inl same ↦ let (d, here, close) = near v (lived_before v known) in (d, same.far d here, close)
      | inr cut ↦
          let (d, here) = distance_exists g' v well' known in
          let none = at_zero g' v d well' cut here in
          (d, here, omega (arith, none))
    ]

    -- ---- as the machine sees it

    emptied : IsEmptied (view w) (view w')
    emptied = record {
      time = time_now;
      stations = alone.stood_seen p number w draws done w' is is' acts lives;
      lanes = λ j l there.
          inl (ap (λ ls. slice_get ls j) (sym (alone.lanes_now p number w draws done w' is is' acts lives)) ∙ there);
    }

    fits : EverythingFits says_announce seen.n.graph seen.n (view w)
    fits = subst (λ h. EverythingFits says_announce h seen.n (view w)) (sym seen.graph) (sound_fits p w seen sound)

    back_known : (v : ℕ) → In v (clocks g') → In v (clocks seen.n.graph)
    back_known v known = subst (λ h. In v (clocks h)) (sym seen.graph) (lived_before v known)

    module _ (next aged silent : ℕ) (pace : KeepPace p) (measured : LinkIsMeasured w)
        (measured' : LinkIsMeasured w') (past : next ≤ w.time) (over : pred (path_bound g) * delay_in w ≤ w.time)
        (way : pred (path_bound g') * delay_in w' ≤ w'.time) (ready : AreReadyBy p next w)
        (quiet : HaveQuietLinks p.params w) (silent_before : AreSilentBy p next w)
        (long : w.time + silence_span p < silent) (soon : w.time + longest_span p + delay_in w < aged) where
      abbrev n' : Network
      n' = aging_network p silent w'

      standing : IsStanding p silent w'
      standing =
          alone.standing_then p number w draws done w' is is' acts lives next silent pace measured measured' past ready
          quiet silent_before long

      asked : HaveAskedLong w'
      asked =
          alone.asked_then p number w draws done w' is is' acts lives next silent pace measured measured' past ready
          quiet silent_before long

      late : delay_in w' ≤ w'.time
      late = delay_within p w' w'.time is' way

      -- a greatest delay had passed before too
      come : seen.n.most ≤ w.time
      come =
          let most = seen.most in
          let within = delay_within p w w.time is over in
          omega (arith, most, within)

      ages : UnlinkedAge says_announce g g' (stay_of p) aged (view w')
      ages =
          let begun = seen.net.begun in
          let settled = seen.late in
          let most = seen.most in
          ages_begin says_announce seen.n (view w) seen.calm (omega (arith, begun, settled)) fits (stay_of p)
          (named_in p w is) (longest_span p) aged (λ log. span_longest p log pace.largest) (omega (arith, soon, most)) g
          g' back_known (view w') emptied

      fits' : EverythingFits says_announce g n' (view w')
      fits' =
          fits_reduced says_announce g seen.n n' seen.net.graph well'
          (subst (λ h. IsLeftUnmoved h g') (sym seen.graph) left) (view w) (view w')
          (alone.less p number w draws done w' is is' acts lives) (sound_fits p w seen sound)

      same : SameWiring seen.n n'
      same = alone.wires p number w draws done w' is is' acts lives seen n' refl

      back : (v : ℕ) → Unmoved g n' v → Unmoved g seen.n v
      back v x = record {
        live = back_known v x.live;
        best = λ b is_best. subst (λ h. IsBest h v b) (sym seen.graph) is_best;
        far = λ d here. subst (λ h. IsDistance h v d) (sym seen.graph) here;
      }

      tells : (d : ℕ) → StillSettles says_announce g seen.n d (view w)
      tells d =
          subst (λ h. StillSettles says_announce h seen.n d (view w)) seen.graph
          (still_settled says_announce seen.n (view w) seen.net seen.calm seen.invariant seen.late d)

      pub failed_aging : IsAgingAlways p g aged silent w'
      failed_aging = record {
        standing = standing;
        asked = asked;
        well = well;
        left = left;
        near = near_then;
        stay = near_ends_stay g n' number well'
            (left_of g n' well left.systems left.links)
            (alone.loses_it p number w draws done w' is is' acts lives n' refl);
        way = way;
        late = late;
        seen = λ quiet' off. record {
          ages = ages;
          fits = fits';
          still = still_emptied says_announce g seen.n n' well' same
              (λ a b joins. subst (λ h. Joins h a b) (sym seen.graph) (left.links a b joins)) back
              (left_of g n' well left.systems left.links) (view w) (view w') emptied come
              (aging_after p silent w' standing asked quiet' off late) fits' tells;
          itself = itself_begins says_announce n' g (view w')
              (sound_reduced says_announce g (view w) (view w')
              (alone.less p number w draws done w' is is' acts lives) sound);
        };
      }
