-- A world since a system failed that others hear, and so moved trees. What they hold of it goes until a time, and then
-- each tree has left its old choice within a way. They settle once each distance has had its time.
use Rattle.std.proofs.Common.{◌≡◌, ◌⊎◌, ◌<◌, ◌≤◌, ℕ, zero, suc, pred, List, Some, slice_get, refl, sym, ap, subst, ◌∙◌, inl, inr, arith}
use native.Mathlib.Decide.{dec_lt}
use Rattle.gptp_lists.specs.Members.{In}
use Rattle.gptp_graph.specs.Snapshot.{IsLinked, Joins, PortIdentity, Snapshot, clocks, port_of}
use Rattle.gptp_graph.proofs.DistanceLemmas.{IsDistance-clock, IsDistance-unique}
use Rattle.gptp_graph.proofs.LinkLemmas.{Joins-clock, Joins-sym}
use Rattle.gptp_graph.proofs.SystemLemmas.{In-clocks}
use Rattle.gptp_links.specs.Fate.{Draw}
use Rattle.gptp_scenario.specs.Calm.{NothingLapses}
use Rattle.gptp_scenario.specs.Params.{KeepPace}
use Rattle.gptp_scenario.specs.declared.change.Act.{Act}
use Rattle.gptp_setup.specs.Intervals.{interval_of}
use Rattle.gptp_setup.specs.SettlingParams.{SettlingParams}
use Rattle.gptp_model.specs.Acts.{Acts, at as at_time}
use Rattle.gptp_model.specs.Pending.{NothingBefore}
use Rattle.gptp_model.specs.World.{WorldState}
use Rattle.gptp_model.specs.declared.done.Done.{Done}
use Rattle.gptp_bmca_machine.specs.Acts.{MachineSteps}
use Rattle.gptp_bmca_machine.specs.Frame.{Lane}
use Rattle.gptp_bmca_machine.specs.Facts.{StationFacts, station_system}
use Rattle.gptp_bmca_machine.specs.LossLaws.{IsAfterLoss, Unmoved}
use Rattle.gptp_bmca_machine.specs.Network.{Network, network_setting}
use Rattle.gptp_bmca_machine.specs.Station.{MachineState}
use Rattle.gptp_bmca_machine.proofs.UnlinkedLemmas.{UnlinkedHoldNone}
use Rattle.gptp_bmca_machine.proofs.LinkStepLemmas.{lives_at}
use Rattle.gptp_invariants.specs.ChoiceCalm.{HaveQuietLinks, delay_in}
use Rattle.gptp_invariants.specs.ChoiceSeenLaws.{IsNoChange}
use Rattle.gptp_invariants.specs.ChoiceView.{says_announce, view}
use Rattle.gptp_invariants.specs.WorldEncodableLaws.{SetsAnOctet}
use Rattle.gptp_invariants.specs.WorldStanding.{snapshot_of}
use Rattle.gptp_invariants.proofs.ChoiceCalmKeptLemmas.{KeepsNetwork, acts_keep, delay_kept, links_quiet, same_snapshot}
use Rattle.gptp_invariants.proofs.ChoiceSeenActLemmas.{acts_seen}
use Rattle.gptp_invariants.proofs.ChoiceSettlesAsMachineLemmas.{kept_back}
use Rattle.gptp_invariants.proofs.WorldNewsCourseLemmas.{later_keeps}
use Rattle.gptp_invariants.proofs.WorldOutlineLemmas.{acts_time}
use Rattle.gptp_settling_time.specs.TreeLosses.{CutsAllBeyond, LeavesAlone}
use Rattle.gptp_settling_time.proofs.AgesByLemmas.{UnlinkedAgeBy, by_all, by_kept}
use Rattle.gptp_settling_time.proofs.AgesByWorldLemmas.{WorldAgesBy}
use Rattle.gptp_settling_time.proofs.AgingLemmas.{HeardNearer, HearersHoldNothing, aged_gone}
use Rattle.gptp_settling_time.proofs.AgingClaimedLemmas.{aging_after, aging_facts, aging_network, named_in, off_none, same_aging, stay_of}
use Rattle.gptp_settling_time.proofs.AlwaysClaimedLemmas.{IsStanding}
use Rattle.gptp_settling_time.proofs.BecomesSoundLemmas.{same_time}
use Rattle.gptp_settling_time.proofs.DueLemmas.{AreDueBy, IsGoneBy, gone_due, gone_kept}
use Rattle.gptp_settling_time.proofs.EmptiedLemmas.{older_after}
use Rattle.gptp_settling_time.proofs.FallAlwaysLemmas.{fallen_by}
use Rattle.gptp_settling_time.proofs.FitsLemmas.{UnlinkedHoldNothing}
use Rattle.gptp_settling_time.proofs.LeftAloneLemmas.{alone_tell}
use Rattle.gptp_settling_time.proofs.LeftClaimedLemmas.{HaveAskedBy, HaveAskedLong, asked_acts, asked_later, standing_acts, standing_later}
use Rattle.gptp_settling_time.proofs.NearEndLemmas.{near_ends_hold_none, near_ends_stay}
use Rattle.gptp_settling_time.proofs.LinkBetweenLemmas.{IsLinkBetween, SameSenders, between_kept, lane_between, senders_kept}
use Rattle.gptp_settling_time.proofs.SinceSetLemmas.{AreLimitedBy, limited_acts, limited_later}
use Rattle.gptp_settling_time.proofs.OffForGoodLemmas.{AreOffForGood, GoOnOff, good_acts, good_later, stays_disabled}
use Rattle.gptp_settling_time.proofs.SplitLemmas.{IsCut, IsSplit, IsTurned, IsTwice, SplitSettles, SplitState, SplitStaysOff, SplitsBack, split_settles_on, splits_on}
use Rattle.gptp_settling_time.proofs.SplitSoundLemmas.{all_tell}
use Rattle.gptp_settling_time.proofs.StillSoundLemmas.{AllSayStill, HeldWereLinked, still_kept}
use Rattle.gptp_settling_time.proofs.ToldAnewLemmas.{FlightsAreSound, flights_kept}
use Rattle.gptp_settling_time.proofs.UpJoinsLemmas.{UpJoins, flies_on, up_kept}

-- a request is answered before the next one, so that an interval between them is some time
pub some_pdelay : (p : SettlingParams) → KeepPace p → 0 < interval_of p.params.pdelay
some_pdelay p pace = let answered = pace.params.answered in omega (arith, answered)

-- what is later than some time is 1 ns later than another
pub one_before : (gone failed : ℕ) → failed < gone → suc (pred gone) ≡ gone
one_before zero failed less = absurd (omega (arith, less))
one_before (suc now) failed less = refl

-- trees may be taken to fall back from this time on: then what was held is gone, or no time has passed yet
abbrev pub MayStart : ℕ → ℕ → ℕ → WorldState → Type 0
MayStart gone since start w = (gone ≤ suc start) ⊎ ((since ≤ start) × (w.time ≤ since))

-- what ages by these times at ports that heard a nearer system before has by this one
abbrev pub GoesUntil : Snapshot → (PortIdentity → ℕ → Type 0) → ℕ → Type 0
GoesUntil before By gone = (port : PortIdentity) (until : ℕ) → HeardNearer before port → By port until → until ≤ gone

-- Claims are made of all links always, and it doesn't matter what is older. So the network stays as links go down that
-- aren't used.
abbrev pub split_network : SettlingParams → ℕ → WorldState → Network
split_network p silent w = record (aging_network p silent w) { gone = 0 }

-- each tree has left its old choice by then
abbrev pub left_by : (p : SettlingParams) (g : Snapshot) → IsSplit p g → ℕ → ℕ
left_by p g s gone = fallen_by s.n (pred gone)

-- What is claimed of a world since such a failure: what is received at ports without a link that heard a nearer system
-- goes until a time, since it ages by then, or those ports aren't capable from then on. Where all beyond the failed
-- system is cut off, what unmoved systems say stays sound. So is what is in flight once each tree has left its old
-- choice and what was told before is gone, if nothing has changed since.
pub record IsSplitAlways (p : SettlingParams) (g : Snapshot) (By : PortIdentity → ℕ → Type 0) (Limits Were : ℕ → Type 0)
    (failed gone silent : ℕ)
    (w : WorldState) : Type 0 where
  pub standing : IsStanding p silent w
  pub asked : HaveAskedLong w
  pub good : AreOffForGood w
  pub split : IsSplit p g
  pub at : split.since ≡ failed
  pub some : failed < gone
  pub same : split_network p silent w ≡ split.n
  pub by : WorldAgesBy p By w
  pub linked : (port : PortIdentity) (until : ℕ) → By port until → IsLinked g port
  pub limited : (limit : ℕ) → Limits limit → AreLimitedBy limit w
  pub were : (old : ℕ) → Were old → UpJoins g w
  pub is_gone : GoesUntil g By gone ⊎ (silent ≤ gone)
  pub begun : split.since ≤ w.time
  pub late : delay_in w ≤ w.time
  pub links : (a b : PortIdentity) → Joins g a b → IsLinkBetween w a b
  pub seen : HaveQuietLinks p.params w → NothingLapses p.params → (start : ℕ) → MayStart gone split.since start w
      → SplitsBack p g split start (view w) × SplitSettles p g split start (view w)
  pub says : CutsAllBeyond g split.n.graph → HaveQuietLinks p.params w → NothingLapses p.params
      → AllSayStill says_announce g split.n (view w)
  pub flights : CutsAllBeyond g split.n.graph → w.last_change ≡ failed → (old : ℕ)
      → IsGoneBy p Limits (left_by p g split gone) old w → HaveQuietLinks p.params w → NothingLapses p.params
      → left_by p g split gone < w.time → FlightsAreSound says_announce split.n.graph old (view w)
  pub alone : LeavesAlone g split.n.graph → (old : ℕ) → Were old → HaveQuietLinks p.params w → NothingLapses p.params
      → FlightsAreSound says_announce split.n.graph old (view w)

-- ---- what is known of the world's machine

module _ (p : SettlingParams) (silent : ℕ) (w : WorldState) (standing : IsStanding p silent w)
    (asked : HaveAskedLong w) (quiet : HaveQuietLinks p.params w) where
  pub split_after : NothingLapses p.params → delay_in w ≤ w.time → IsAfterLoss (split_network p silent w) (view w)
  split_after off late =
      older_after (aging_network p silent w) 0 (view w) (aging_after p silent w standing asked quiet off late)

  -- from that time on nothing is received at ports without a link that heard a nearer system
  pub hearers_none : (g : Snapshot) (By : PortIdentity → ℕ → Type 0) (gone : ℕ) → WorldAgesBy p By w
      → GoesUntil g By gone ⊎ (silent ≤ gone) → gone ≤ w.time → HearersHoldNothing g (snapshot_of w) (view w)
  hearers_none g By gone by (inl most) now =
      aged_gone says_announce g (network_setting (aging_network p silent w)) (stay_of p) gone (view w)
      (aging_facts p silent w standing asked quiet)
      (by_all says_announce g (snapshot_of w) (stay_of p) By gone (view w) most (by quiet)) now
  hearers_none g By gone by (inr soon) now = λ i s place r there live unlinked heard.
      off_none p silent w standing asked quiet (omega (arith, soon, now)) i s place r there live unlinked

  -- nor at any other: what came from a farther system wasn't taken
  pub none_held : (g : Snapshot) (s : IsSplit p g) → split_network p silent w ≡ s.n → (start : ℕ)
      → SplitsBack p g s start (view w) → HearersHoldNothing g (snapshot_of w) (view w)
      → UnlinkedHoldNothing (snapshot_of w) (view w)
  none_held g s same start splits none =
      subst (λ h. UnlinkedHoldNothing h (view w)) (sym graph)
      (near_ends_hold_none says_announce g s.n s.moves.well s.moves.left (view w) splits.back.after.kept
      splits.back.after.fits.stations splits.back.still
      (near_ends_stay g s.n s.lost s.moves.well s.moves.left s.moves.loses)
      (λ v d unmoved here.
      let (far, there, close) = s.near v (IsDistance-clock g v d s.moves.left.graph here) in
      let one = IsDistance-unique g v far d s.moves.left.graph there here in
      omega (arith, one, close))
      (subst (λ h. HearersHoldNothing g h (view w)) graph none))
    where
      graph : snapshot_of w ≡ s.n.graph
      graph = ap (λ (z : Network). z.graph) same

-- what is held at ports without a link came over one of before, where what ages there does
linked_by : (p : SettlingParams) (g : Snapshot) (By : PortIdentity → ℕ → Type 0) (w : WorldState) → WorldAgesBy p By w
    → ((port : PortIdentity) (until : ℕ) → By port until → IsLinked g port) → (n : Network)
    → snapshot_of w ≡ n.graph → HaveQuietLinks p.params w → HeldWereLinked g n (view w)
linked_by p g By w by linked n graph quiet i s place r at live none holds =
    let (until, is_by, over) = (by quiet).held i s place r at live holds
    (λ link. none (subst (λ h. IsLinked h (port_of s.clock (suc place))) graph link)) in
    linked (port_of s.clock (suc place)) until is_by

-- so it is of a world of which that is claimed
module _ (p : SettlingParams) (g : Snapshot) (By : PortIdentity → ℕ → Type 0) (Limits Were : ℕ → Type 0)
    (failed gone silent : ℕ) (w : WorldState)
    (is : IsSplitAlways p g By Limits Were failed gone silent w) (quiet : HaveQuietLinks p.params w) (start : ℕ)
    (splits : SplitsBack p g is.split start (view w)) (now : gone ≤ w.time) where
  pub none_now : UnlinkedHoldNothing (snapshot_of w) (view w)
  none_now =
      none_held p silent w is.standing is.asked quiet g is.split is.same start splits
      (hearers_none p silent w is.standing is.asked quiet g By gone is.by is.is_gone now)

-- what is held at ports without a link came over one of before
pub linked_now : (p : SettlingParams) (g : Snapshot) (By : PortIdentity → ℕ → Type 0)
    (Limits Were : ℕ → Type 0) (failed gone silent : ℕ)
    (w : WorldState) (is : IsSplitAlways p g By Limits Were failed gone silent w) → HaveQuietLinks p.params w
    → HeldWereLinked g is.split.n (view w)
linked_now p g By Limits Were failed gone silent w is quiet = linked_by p g By w is.by is.linked is.split.n
    (ap (λ (z : Network). z.graph) is.same) quiet

-- ---- what comes of it

module _ (p : SettlingParams) (g : Snapshot) (By : PortIdentity → ℕ → Type 0)
    (Limits Were : ℕ → Type 0) (failed gone silent : ℕ)
    (w w' : WorldState)
    (is : IsSplitAlways p g By Limits Were failed gone silent w) (standing' : IsStanding p silent w')
    (asked' : HaveAskedLong w')
    (goes : GoOnOff w w') (same_sends : SameSenders w w') (same' : split_network p silent w' ≡ is.split.n)
    (links' : (a b : PortIdentity) → Joins g a b → IsLinkBetween w' a b) (by' : WorldAgesBy p By w')
    (limited' : (limit : ℕ) → Limits limit → AreLimitedBy limit w') (were' : (old : ℕ) → Were old → UpJoins g w')
    (late' : delay_in w' ≤ w'.time) (on : w.time ≤ w'.time) where
  abbrev s : IsSplit p g
  s = is.split

  abbrev n : Network
  n = s.n

  graph' : snapshot_of w' ≡ n.graph
  graph' = ap (λ (z : Network). z.graph) same'

  linked' : HaveQuietLinks p.params w' → HeldWereLinked g n (view w')
  linked' = linked_by p g By w' by' is.linked n graph'

  pub may_before : (start : ℕ) → MayStart gone s.since start w' → MayStart gone s.since start w
  may_before start may = elim may [
    | inl soon ↦ inl soon
    | inr (later, now) ↦ inr (later, omega (arith, now, on))
  ]

  pub split_then : (HaveQuietLinks p.params w' → NothingLapses p.params → (start : ℕ) → MayStart gone s.since start w'
      → SplitsBack p g s start (view w') × SplitSettles p g s start (view w'))
      → (CutsAllBeyond g n.graph → HaveQuietLinks p.params w' → NothingLapses p.params
      → AllSayStill says_announce g n (view w'))
      → (CutsAllBeyond g n.graph → w'.last_change ≡ failed → (old : ℕ) → IsGoneBy p Limits
      (left_by p g s gone) old w'
      → HaveQuietLinks p.params w' → NothingLapses p.params → left_by p g s gone < w'.time
      → FlightsAreSound says_announce n.graph old (view w'))
      → (LeavesAlone g n.graph → (old : ℕ) → Were old → HaveQuietLinks p.params w' → NothingLapses p.params
      → FlightsAreSound says_announce n.graph old (view w'))
      → IsSplitAlways p g By Limits Were failed gone silent w'
  split_then seen says flights alone = record {
    standing = standing';
    asked = asked';
    good = λ at stands. (goes at stands).0;
    split = s;
    at = is.at;
    some = is.some;
    same = same';
    by = by';
    linked = is.linked;
    limited = limited';
    were = were';
    is_gone = is.is_gone;
    begun = let begun = is.begun in omega (arith, begun, on);
    late = late';
    links = links';
    seen = seen;
    says = says;
    flights = flights;
    alone = alone;
  }

  -- a step leads to it from the machine of the world before, whose lanes may be emptied
  module _ (quiet : HaveQuietLinks p.params w) (quiet' : HaveQuietLinks p.params w') (off : NothingLapses p.params)
      (start : ℕ) (may : MayStart gone s.since start w') (lanes : List Lane)
      (was : SplitsBack p g s start (record (view w) { lanes = lanes })
      × SplitSettles p g s start (record (view w) { lanes = lanes }))
      (step : MachineSteps says_announce (record (view w) { lanes = lanes }) (view w')) where
    abbrev x : MachineState
    x = record (view w) { lanes = lanes }

    kept' : IsAfterLoss n (view w')
    kept' = subst (λ z. IsAfterLoss z (view w')) same'
        (split_after p silent w' standing' asked' quiet' off late')

    -- the lanes of lost links stand
    state' : SplitState p g s start (view w')
    state' = record {
      lanes = λ c q i joins.
          let l = lane_between p w' (port_of s.lost (suc q)) (port_of c (suc i)) standing'.world
          (links' (port_of s.lost (suc q)) (port_of c (suc i)) joins) in
          record {
            lane = l.lane;
            there = subst (λ (z : Network). slice_get (view w').lanes (z.lane (port_of s.lost (suc q))) ≡ Some l.lane)
                same' l.there;
            from = l.from_is;
            to = l.to_is;
          };
      named = named_in p w' standing'.world;
      later = let begun = is.begun in omega (arith, begun, on);
    }

    -- who stood at the other end of such a link lives
    other_lives : (c q i : ℕ) → Joins g (port_of s.lost (suc q)) (port_of c (suc i)) → In c (clocks n.graph)
    other_lives c q i joins = elim (s.moves.loses.others c (Joins-clock g (port_of c (suc i)) (port_of s.lost (suc q))
        s.moves.left.graph (Joins-sym g (port_of s.lost (suc q)) (port_of c (suc i)) joins))) [
          | inl live ↦ live
          | inr is_lost ↦
              absurd (s.moves.left.graph.apart (port_of s.lost (suc q)) (port_of c (suc i)) joins (sym is_lost))
        ]

    -- ports that aren't capable stay so
    stays_off : SplitStaysOff p g s start x (view w')
    stays_off c q i joins bare u u' pu pu' at there at' there' held =
        let known = other_lives c q i joins in
        let (live, clock) = lives_at n x was.0.back.after.kept.calm c known u at in
        let (live', clock') = lives_at n (view w') kept'.calm c known u' at' in
        stays_disabled p w w' is.standing.world standing'.world goes same_sends (n.place c) i u u' pu
        pu' at there at' there' live live'
        (λ linked. bare (subst (λ c. IsLinked n.graph (port_of c (suc i))) clock'
        (subst (λ h. IsLinked h (port_of u'.clock (suc i))) graph' linked))) held

    -- Once that time is over moved systems hold nothing at ports without a link: those heard a nearer system, for who
    -- lost its link to a farther one is unmoved.
    none' : UnlinkedHoldNone g n start (view w')
    none' over v u place r moved at live clock bare holds = elim may [
      | inl soon ↦
          hearers_none p silent w' standing' asked' quiet' g By gone by' is.is_gone (omega (arith, soon, over))
          (n.place v) u place r at live
          (λ linked. bare_there (subst (λ h. IsLinked h (port_of u.clock (suc place))) graph' linked))
          heard holds
      | inr (later, now) ↦ omega (arith, later, now, over)
    ]
      where
        bare_there : IsLinked n.graph (port_of u.clock (suc place)) → ⊥
        bare_there linked = bare (subst (λ c. IsLinked n.graph (port_of c (suc place))) clock linked)

        known : In u.clock (clocks n.graph)
        known = In-clocks n.graph (station_system u) (kept'.calm.facts.stations (n.place v) u at live).known

        heard : HeardNearer g (port_of u.clock (suc place))
        heard from joins farther =
            let is = near_ends_stay g n s.lost s.moves.well s.moves.left s.moves.loses from (port_of u.clock (suc
            place)) joins
            known bare_there farther in
            moved (subst (Unmoved g n) clock (record { live = known; best = is.best; far = is.far }))

    back' : SplitsBack p g s start (view w')
    back' = splits_on p g s start x (view w') was.0 kept' state' stays_off none' step

    settles' : SplitSettles p g s start (view w')
    settles' = split_settles_on p g s start x (view w') was.0 kept' state' stays_off none' step was.1

    pub seen_then : SplitsBack p g s start (view w') × SplitSettles p g s start (view w')
    seen_then = (back', settles')

    pub alone_then : LeavesAlone g n.graph → (old : ℕ) → Were old → FlightsAreSound says_announce n.graph old x
        → FlightsAreSound says_announce n.graph old (view w')
    alone_then leaves old is_were =
        flights_kept says_announce n.graph old x (view w')
        (alone_tell g n leaves (view w') kept'.calm (linked' quiet')
        (flies_on g w' standing'.world.sound (were' old is_were))) step

    module _ (cuts : CutsAllBeyond g n.graph) where
      pub says_then : AllSayStill says_announce g n x → AllSayStill says_announce g n (view w')
      says_then =
          still_kept says_announce g n s.moves.well s.moves.left s.near cuts x (view w')
          was.0.back.after.kept.calm kept'
          back'.back.after.fits.stations back'.back.still (linked' quiet') step

      pub flights_then : AllSayStill says_announce g n (view w') → fallen_by n start < w'.time → (old : ℕ)
          → FlightsAreSound says_announce n.graph old x → FlightsAreSound says_announce n.graph old (view w')
      flights_then says' late old =
          flights_kept says_announce n.graph old x (view w')
          (all_tell says_announce g n s.lost s.best (IsCut p g s start) (IsTurned p g s start) (IsTwice p g s start)
          s.moves start s.near cuts (λ t is. is) (λ t is. is) (view w') back'.back (λ t is. (settles'.twice t is).stale)
          (linked' quiet') says' late) step

-- ---- every step keeps it

module _ (p : SettlingParams) (g : Snapshot) (By : PortIdentity → ℕ → Type 0)
    (Limits Were : ℕ → Type 0) (failed gone silent : ℕ)
    (w w' : WorldState)
    (is : IsSplitAlways p g By Limits Were failed gone silent w) (standing' : IsStanding p silent w')
    (asked' : HaveAskedLong w')
    (goes : GoOnOff w w') (keeps : KeepsNetwork w w') (step : MachineSteps says_announce (view w) (view w'))
    (limits : (limit : ℕ) → AreLimitedBy limit w → AreLimitedBy limit w') (on : w.time ≤ w'.time) where
  limited_then : (limit : ℕ) → Limits limit → AreLimitedBy limit w'
  limited_then limit is_limit = limits limit (is.limited limit is_limit)

  were_then : (old : ℕ) → Were old → UpJoins g w'
  were_then old is_were = up_kept g w w' keeps (is.were old is_were)

  same_then : split_network p silent w' ≡ is.split.n
  same_then = ap (λ (z : Network). record z { gone = 0 }) (same_aging p silent w w' keeps) ∙ is.same

  late_then : delay_in w' ≤ w'.time
  late_then =
      let late = is.late in
      subst (λ delay. delay ≤ w'.time) (sym (delay_kept w w' keeps)) (omega (arith, late, on))

  links_then : (a b : PortIdentity) → Joins g a b → IsLinkBetween w' a b
  links_then a b joins = between_kept w w' a b keeps (is.links a b joins)

  quiet_before : HaveQuietLinks p.params w' → HaveQuietLinks p.params w
  quiet_before quiet' = links_quiet w' w (kept_back w w' keeps) p.params quiet'

  by_then : WorldAgesBy p By w'
  by_then quiet' =
      let quiet = quiet_before quiet' in
      let facts = aging_facts p silent w is.standing is.asked quiet in
      let facts' : StationFacts (network_setting (aging_network p silent w)) (view w') =
      subst (λ (z : Network). StationFacts (network_setting z) (view w')) (same_aging p silent w w' keeps)
      (aging_facts p silent w' standing' asked' quiet') in
      subst (λ h. UnlinkedAgeBy says_announce h (stay_of p) By (view w')) (sym (same_snapshot w w' keeps))
      (by_kept says_announce (network_setting (aging_network p silent w)) (stay_of p) By (view w) (view w') facts
      facts' (named_in p w' standing'.world) step (is.by quiet))

  seen' : HaveQuietLinks p.params w' → NothingLapses p.params → (start : ℕ) → MayStart gone is.split.since start w'
      → SplitsBack p g is.split start (view w') × SplitSettles p g is.split start (view w')
  seen' quiet' off start may =
      let quiet = quiet_before quiet' in
      let before = may_before p g By Limits Were failed gone silent w w' is standing' asked'
      goes (senders_kept w w' keeps)
      same_then links_then by_then limited_then were_then late_then on start may in
      seen_then p g By Limits Were failed gone silent w w' is standing' asked' goes
      (senders_kept w w' keeps) same_then links_then
      by_then limited_then were_then late_then on quiet quiet' off start may (view w).lanes
      (is.seen quiet off start before) step

  abbrev made : IsSplit p g
  made = is.split

  now : gone ≤ suc (pred gone)
  now = let one = one_before gone failed is.some in omega (arith, one)

  says' : CutsAllBeyond g made.n.graph → HaveQuietLinks p.params w' → NothingLapses p.params
      → AllSayStill says_announce g made.n (view w')
  says' cuts quiet' off =
      let quiet = quiet_before quiet' in
      says_then p g By Limits Were failed gone silent w w' is standing' asked' goes
      (senders_kept w w' keeps) same_then links_then
      by_then limited_then were_then late_then on quiet quiet' off (pred gone) (inl now) (view w).lanes
      (is.seen quiet off (pred gone) (inl now)) step cuts (is.says cuts quiet off)

  -- what is in flight before that is due by then
  due_before : (old : ℕ) → IsGoneBy p Limits (left_by p g made gone) old w → HaveQuietLinks p.params w
      → NothingLapses p.params → w.time ≤ left_by p g made gone → AreDueBy old w
  due_before old is_old quiet off early =
      gone_due p Limits (left_by p g made gone) old w made.n is.standing.world
      (is.seen quiet off (pred gone) (inl now)).0.back.after.kept (ap (λ (z : Network). z.graph) is.same)
      (sym (ap (λ (z : Network). z.most) is.same)) is.limited early is_old

  flights' : CutsAllBeyond g made.n.graph → w'.last_change ≡ failed → (old : ℕ) → IsGoneBy p
      Limits (left_by p g made gone) old
      w'
      → HaveQuietLinks p.params w' → NothingLapses p.params → left_by p g made gone < w'.time
      → FlightsAreSound says_announce made.n.graph old (view w')
  flights' cuts since old is_old quiet' off late' = elim (dec_lt (left_by p g made gone) w.time) [
    | yes late ↦
        flights_then p g By Limits Were failed gone silent w w' is standing' asked' goes
        (senders_kept w w' keeps) same_then
        links_then by_then limited_then were_then late_then on quiet quiet' off (pred gone) (inl now) (view w).lanes
        (is.seen quiet off (pred gone) (inl now)) step cuts (says' cuts quiet' off) late' old
        (is.flights cuts (sym keeps.change ∙ since) old (old_before is_old) quiet off late)
    | no not ↦ by (omega (arith, not)) step
  ]
    where
      quiet : HaveQuietLinks p.params w
      quiet = quiet_before quiet'

      old_before : IsGoneBy p Limits (left_by p g made gone) old w' → IsGoneBy p Limits (left_by p g made gone) old w
      old_before = gone_kept p Limits (left_by p g made gone) old w' w (kept_back w w' keeps)

      by : w.time ≤ left_by p g made gone → MachineSteps says_announce (view w) (view w')
          → FlightsAreSound says_announce made.n.graph old (view w')
      by early (inl wait) = λ j l f a at among said.
          inr (due_before old (old_before is_old) quiet off early j l f a
          (subst (λ (y : MachineState). slice_get y.lanes j ≡ Some l) wait.is at) among said)
      by early (inr act) =
          let time = same_time says_announce (view w) (view w') act in absurd (omega (arith, early, late', time))

  alone' : LeavesAlone g made.n.graph → (old : ℕ) → Were old → HaveQuietLinks p.params w' → NothingLapses p.params
      → FlightsAreSound says_announce made.n.graph old (view w')
  alone' leaves old is_were quiet' off =
      let quiet = quiet_before quiet' in
      alone_then p g By Limits Were failed gone silent w w' is standing' asked' goes (senders_kept w w' keeps) same_then
      links_then by_then limited_then were_then late_then on quiet quiet' off (pred gone) (inl now) (view w).lanes
      (is.seen quiet off (pred gone) (inl now)) step leaves old is_were (is.alone leaves old is_were quiet off)

  split_step : IsSplitAlways p g By Limits Were failed gone silent w'
  split_step =
      split_then p g By Limits Were failed gone silent w w' is standing' asked' goes
      (senders_kept w w' keeps) same_then links_then
      by_then limited_then were_then late_then on seen' says' flights' alone'

pub split_later : (p : SettlingParams) (g : Snapshot) (By : PortIdentity → ℕ → Type 0) (Limits Were : ℕ → Type 0)
    (failed gone silent time : ℕ)
    (w : WorldState) → w.time ≤ time → NothingBefore time w.net.pending → IsSplitAlways p g By
    Limits Were failed gone silent w
    → IsSplitAlways p g By Limits Were failed gone silent (at_time time w)
split_later p g By Limits Were failed gone silent time w later first is =
    split_step p g By Limits Were failed gone silent w (at_time time w) is (standing_later p silent
    time w later first is.standing)
    (asked_later p w.last_change time w is.standing.world later first is.asked) (good_later time w is.good)
    (later_keeps time w) (inl (record { time = time; later = later; is = refl }))
    (λ limit. limited_later limit w time later) later

pub split_acts : (p : SettlingParams) (g : Snapshot) (By : PortIdentity → ℕ → Type 0)
    (Limits Were : ℕ → Type 0) (failed gone silent : ℕ)
    (act : Act) (w : WorldState) (draws : List Draw) (done : Done) (w' : WorldState) → IsNoChange act → SetsAnOctet act
    → Acts act w draws done w' → IsSplitAlways p g By Limits Were failed gone silent w
    → IsSplitAlways p g By Limits Were failed gone silent w'
split_acts p g By Limits Were failed gone silent act w draws done w' none octet acts is =
    let world = is.standing.world in
    let standing' = standing_acts p silent act w draws done w' none octet acts is.standing in
    let keeps = acts_keep act w draws done w' none acts in
    let time = acts_time act w draws done w' acts in
    split_step p g By Limits Were failed gone silent w w' is standing'
    (subst (λ t. HaveAskedBy t w') (sym keeps.change)
    (asked_acts p w.last_change silent act w draws done w' none acts is.standing standing'.world is.asked))
    (good_acts p act w draws done w' (some_pdelay p is.standing.pace) none acts world is.standing.measured is.good)
    keeps
    (inr (acts_seen act w draws done w' none world.sound world.encodable acts))
    (λ limit. limited_acts limit act w draws done w' none acts) (omega (arith, time))
