-- A system fails that others hear: what they hold of it ages by the link over which it came.
use Rattle.std.proofs.Common.{◌≡◌, ◌⊎◌, ◌≤◌, ◌+◌, ℕ, true, List, Some, slice_get, refl, sym, ap, subst, ◌∙◌, inl, inr, arith}
use native.Mathlib.Decide.{dec_le}
use Rattle.gptp_lists.specs.Members.{In}
use Rattle.gptp_graph.specs.Snapshot.{Joins, PortIdentity, Snapshot, clocks}
use Rattle.gptp_graph.proofs.SystemLemmas.{In-clocks, system_of}
use Rattle.gptp_links.specs.Fate.{Draw}
use Rattle.gptp_scenario.specs.Params.{KeepPace}
use Rattle.gptp_scenario.specs.declared.change.Act.TheVariants.{Change as Changing}
use Rattle.gptp_scenario.specs.declared.change.Change.TheVariants.{Fail}
use Rattle.gptp_setup.specs.SettlingParams.{SettlingParams, longest_span}
use Rattle.gptp_setup.proofs.SettlingParamsLemmas.{span_longest}
use Rattle.gptp_model.specs.Acts.{Acts}
use Rattle.gptp_model.specs.declared.done.Done.{Done}
use Rattle.gptp_model.specs.World.{Channel, WorldState}
use Rattle.gptp_bmca_machine.specs.Frame.{Announce, AnnounceFrame, Lane}
use Rattle.gptp_bmca_machine.specs.LossLaws.{EverythingFits}
use Rattle.gptp_bmca_machine.specs.Network.{Network, network_setting}
use Rattle.gptp_bmca_machine.specs.SoundEverywhere.{IsSoundEverywhere}
use Rattle.gptp_bmca_machine.specs.Station.{HoldsAt, Reception, Station as SeenStation}
use Rattle.gptp_invariants.specs.ChoiceCalm.{HaveQuietLinks}
use Rattle.gptp_invariants.specs.ChoiceSettlesAsMachine.{IsWorld}
use Rattle.gptp_invariants.specs.ChoiceView.{says_announce, view}
use Rattle.gptp_invariants.specs.DelayMeasured.{LinkIsMeasured}
use Rattle.gptp_invariants.specs.WorldNews.{AreReadyBy, AreSilentBy}
use Rattle.gptp_invariants.specs.WorldSound.{IsSoundWorld}
use Rattle.gptp_invariants.specs.WorldStanding.{snapshot_of}
use Rattle.gptp_invariants.proofs.ChoiceCalmFactLemmas.{frame_from}
use Rattle.gptp_invariants.proofs.WorldWayLemmas.{one_way, way_of}
use Rattle.gptp_settling_time.proofs.AgingClaimedLemmas.{named_in, stay_of}
use Rattle.gptp_settling_time.proofs.AgingStillLemmas.{IsEmptied}
use Rattle.gptp_settling_time.proofs.AgesByLemmas.{ByLink, by_begins}
use Rattle.gptp_settling_time.proofs.AgesByWorldLemmas.{OverWay, StaysLongest, StaysNamed, WorldAgesBy}
use Rattle.gptp_settling_time.proofs.AlwaysClaimedLemmas.{AreHeard, IsStanding, due_by_link}
use Rattle.gptp_settling_time.proofs.ClearsLemmas.{ready_asked}
use Rattle.gptp_settling_time.proofs.FailedAloneLemmas as alone
use Rattle.gptp_settling_time.proofs.NamedWorldLemmas.{IsNamedWorld, old_by, set_facts, set_network}
use Rattle.gptp_settling_time.proofs.NamesIntervalLemmas.{flight_named, held_named}
use Rattle.gptp_settling_time.proofs.SettledSeenLemmas.{IsSettledSeen, sound_fits}

-- What others hold of a failed system ages by the link over which it came. It is held as long as the interval of its
-- port says, once all that was held or in flight at the last change has aged; before that for the longest span.
abbrev pub AgesByLink : SettlingParams → WorldState → WorldState → Type 0
AgesByLink p w w' =
    WorldAgesBy p (ByLink w.time (StaysNamed p w) (OverWay w)) w'
    ⊎ ((old_by p w ≤ w.time → ⊥) × WorldAgesBy p (ByLink w.time (StaysLongest p) (OverWay w)) w')

module _ (p : SettlingParams) (number : ℕ) (w : WorldState) (draws : List Draw) (done : Done) (w' : WorldState)
    (is : IsWorld p w) (is' : IsWorld p w') (acts : Acts (Changing (Fail number)) w draws done w')
    (lives : acts.1.station.live ≡ true) (seen : IsSettledSeen p w) (sound : IsSoundWorld w) (next : ℕ)
    (pace : KeepPace p) (measured : LinkIsMeasured w) (past : next ≤ w.time) (ready : AreReadyBy p next w)
    (quiet : HaveQuietLinks p.params w) (silent_before : AreSilentBy p next w) where
  abbrev g : Snapshot
  g = snapshot_of w

  abbrev g' : Snapshot
  g' = snapshot_of w'

  -- each live system stands as it did, and each lane
  pub emptied : IsEmptied (view w) (view w')
  emptied = record {
    time = alone.time_now p number w draws done w' is is' acts lives;
    stations = alone.stood_seen p number w draws done w' is is' acts lives;
    lanes = λ j l there.
        inl (ap (λ ls. slice_get ls j) (sym (alone.lanes_now p number w draws done w' is is' acts lives)) ∙ there);
  }

  fits : EverythingFits says_announce seen.n.graph seen.n (view w)
  fits = subst (λ h. EverythingFits says_announce h seen.n (view w)) (sym seen.graph) (sound_fits p w seen sound)

  -- who lives then lived before
  pub lived_before : (v : ℕ) → In v (clocks g') → In v (clocks g)
  lived_before v known =
      let (s, member, named) = system_of g' v known in
      subst (λ c. In c (clocks g)) named
      (In-clocks g s (alone.systems_before p number w draws done w' is is' acts lives s member))

  back_known : (v : ℕ) → In v (clocks g') → In v (clocks seen.n.graph)
  back_known v known = subst (λ h. In v (clocks h)) (sym seen.graph) (lived_before v known)

  pub heard : AreHeard p next w
  heard at stands =
      let (first, by, before, x) = ready_asked p next w is past ready at stands in inr (inr (inr (first, by, x)))

  stood_then : IsStanding p next w
  stood_then = record { pace = pace; world = is; measured = measured; silent = silent_before }

  sound_seen : IsSoundEverywhere says_announce seen.n.graph (view w)
  sound_seen = subst (λ h. IsSoundEverywhere says_announce h (view w)) (sym seen.graph) sound

  soon_by_link : (j : ℕ) (l : Lane) (f : AnnounceFrame) → slice_get (view w).lanes j ≡ Some l → In f l.frames
      → Joins seen.n.graph l.from l.to → (most : ℕ) × OverWay w l.from l.to most × (f.due ≤ w.time + most)
  soon_by_link j l f there member joins =
      let joined : Joins g l.from l.to = subst (λ h. Joins h l.from l.to) seen.graph joins in
      let way = way_of w l.from l.to joined in
      let at = frame_from w j l f there member in
      let one = one_way w is.sound is.encodable way.link at.link way.direction at.direction way.channel at.channel
      way.here at.here (way.from ∙ ap (λ (z : Lane). z.from) at.lane_is) in
      let most : at.channel.bounds.max ≡ way.channel.bounds.max =
      ap (λ (c : Channel). c.bounds.max) (sym one.same_channel) in
      let due = due_by_link p next w stood_then heard quiet j l f there member joined in
      (way.channel.bounds.max, (way, refl), omega (arith, due, most))

  -- What a port tells stays so long. So it ages within that and the delay of the link.
  module _ (Stays : PortIdentity → ℕ → Type 0)
      (held_stays : (i : ℕ) (s : SeenStation) (place : ℕ) (r : Reception) → slice_get (view w).stations i ≡ Some s
      → s.live ≡ true → HoldsAt s place r → (span : ℕ) × Stays r.said.source span × (stay_of p r.said.log ≤ span))
      (flight_stays : (j : ℕ) (l : Lane) (f : AnnounceFrame) (a : Announce) → slice_get (view w).lanes j ≡ Some l
      → In f l.frames → says_announce f.octets a → In l.to.clock (clocks seen.n.graph)
      → (span : ℕ) × Stays a.source span × (stay_of p a.log ≤ span)) where
    failed_ages : WorldAgesBy p (ByLink w.time Stays (OverWay w)) w'
    failed_ages quiet' =
        by_begins says_announce seen.n (view w) seen.calm sound_seen (stay_of p) (named_in p w is) Stays (OverWay w)
        held_stays flight_stays (λ j l f a at among said known. (fits.lanes j l f a at among said known).joins)
        (λ from to joins.
        let way = way_of w from to (subst (λ h. Joins h from to) seen.graph joins) in
        (way.channel.bounds.max, (way, refl)))
        soon_by_link g' back_known (view w') emptied

  -- that is the longest span of the network
  failed_by : WorldAgesBy p (ByLink w.time (StaysLongest p) (OverWay w)) w'
  failed_by =
      failed_ages (StaysLongest p)
      (λ i s place r at live holds. (longest_span p, refl, span_longest p r.said.log pace.largest))
      (λ j l f a at among said known. (longest_span p, refl, span_longest p a.log pace.largest))

  -- or that of the port's own interval, once all that was held or in flight at the last change has aged
  failed_by_interval : IsNamedWorld p w → old_by p w ≤ w.time
      → WorldAgesBy p (ByLink w.time (StaysNamed p w) (OverWay w)) w'
  failed_by_interval names old =
      failed_ages (StaysNamed p w)
      (λ i s place r at live holds.
      let log = held_named says_announce n_set (stay_of p) (old_by p w) (view w) (network_setting n_set)
      (set_facts p w is) seen.calm.left old names i s place r at live holds in
      (stay_of p (n_set.log_of r.said.source), refl, omega (arith, ap (stay_of p) log)))
      (λ j l f a at among said known.
      let log = flight_named says_announce n_set (stay_of p) (old_by p w) (view w) (network_setting n_set)
      (set_facts p w is) seen.calm.left old names j l f a at among said
      (subst (λ h. In l.to.clock (clocks h)) seen.graph known) in
      (stay_of p (n_set.log_of a.source), refl, omega (arith, ap (stay_of p) log)))
    where
      n_set : Network
      n_set = set_network p w

  pub failed_ages_by : IsNamedWorld p w → AgesByLink p w w'
  failed_ages_by names = elim (dec_le (old_by p w) w.time) [
    | yes old ↦ inl (failed_by_interval names old)
    | no early ↦ inr (early, failed_by)
  ]
