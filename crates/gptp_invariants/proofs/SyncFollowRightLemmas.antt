-- What the parent of a system tells is right, where it may come after what comes is right: a root tells its own clock,
-- and a bridge what it knows.
use Rattle.std.proofs.Common.{◌≡◌, ◌⊎◌, ◌<◌, ◌≤◌, ◌+◌, ◌*◌, ◌-ℤ◌, ℕ, zero, suc, ℤ, true, List, Some, refl, sym, ap, subst, ◌∙◌, inl, inr, arith, eqb-true, Option, None, ◌+ℤ◌, if◌then◌else◌, pos}
use Rattle.std.specs.Prelude.{◌==◌}
use Rattle.std.specs.List.{list_any}
use Rattle.std.proofs.lemmas.Bool.{and_parts}
use Rattle.gptp_graph.specs.Distance.{IsDistance, IsNear}
use Rattle.gptp_graph.specs.Parent.{IsParent, ParentLink}
use Rattle.gptp_graph.specs.Snapshot.{IsWellFormed, Snapshot, System}
use Rattle.gptp_graph.specs.SettledChoice.{IsBestIdentity}
use Rattle.gptp_graph.proofs.ParentLemmas.{IsParent-unique, LeadsNearer-distance}
use Rattle.gptp_graph.proofs.SystemLemmas.{same_identity}
use Rattle.gptp_graph.proofs.TreeLemmas.{best_has_no_parent}
use Rattle.gptp_scaled.specs.Interval.{FitsInterval}
use Rattle.gptp_scaled.specs.Rate.{FitsRate}
use Rattle.gptp_scaled.specs.Counts.{AreWithin}
use Rattle.gptp_scaled.specs.Stamp.{Timestamp}
use Rattle.gptp_scaled.proofs.TimeStampLemmas.{time_stamp_is_centred}
use Rattle.gptp_pdelay.specs.Clock.{local_clock}
use Rattle.gptp_correction.specs.declared.correction.Relayed.{Relayed}
use Rattle.gptp_correction.specs.declared.sync_in.SyncInfo.{SyncInfo}
use Rattle.gptp_correction.specs.Correction.{bridge, carried, carried_on, held_sum, relayed, BridgeFits}
use Rattle.gptp_setup.specs.declared.setup.Params.{Params}
use Rattle.gptp_setup.specs.SettlingParams.{SettlingParams}
use Rattle.gptp_setup.specs.Stamping.{behind_of, blur_of}
use Rattle.gptp_system.specs.declared.sending.Sending.{Sending}
use Rattle.gptp_system.specs.State.{SystemState, can_lead, clock, local_time, is_mine, stamp_time, stamping}
use Rattle.gptp_system.specs.Syncing.{HopFits, IsRelayed, IsSentOn, IsToldAtLimits, LeadsTime, hop_of, is_leading, own_time, slave_delay, slave_rate, told_by}
use Rattle.gptp_system.specs.Takeover.{base_after, leading, told_stamp, told_time}
use Rattle.gptp_model.specs.declared.station.Station.{Station}
use Rattle.gptp_model.specs.World.{WorldState, sender}
use Rattle.gptp_error_laws.specs.TimeError.{Way}
use Rattle.gptp_error_laws.specs.WayLaws.{shown_at}
use Rattle.gptp_sync_machine.specs.Follower.{FollowerSetting, from}
use Rattle.gptp_sync_machine.specs.Follower as followers
use Rattle.gptp_sync_machine.specs.FollowerLaws.{IsParentOf}
use Rattle.gptp_sync_machine.specs.Right.{IsHeldAt, IsMeasuredAt, FollowUpIsRight}
use Rattle.gptp_sync_machine.specs.Tree.{IsWayTo, Parts, follower_of}
use Rattle.gptp_sync_machine.proofs.ModestLemmas.{rates_are_held, ways_are_modest}
use Rattle.gptp_sync_machine.proofs.TellingLemmas.{parent_tells_right, parents_numbers_fit, root_tells}
use Rattle.gptp_sync_machine.proofs.TreeLemmas.{parents_are_parents, way_ends_at_parent}
use Rattle.gptp_invariants.specs.SyncFollowView.{tells}
use Rattle.gptp_invariants.specs.SyncFollowers.{HasWay, IsFollower, follower, follower_clock, follower_setting, parent_link, follower_parts, state_above, follower_state, base_at, told_base, stamps_of}
use Rattle.gptp_invariants.specs.DelayLinkView.{LinkPlace}
use Rattle.gptp_invariants.specs.ChoiceSettled.{HasSettledChoice}
use Rattle.gptp_invariants.specs.WorldStanding.{snapshot_of, standing_system}
use Rattle.gptp_invariants.specs.SyncTimed.{AllMeasureRight, CarriesTime, IsSettledFrom}
use Rattle.gptp_invariants.proofs.SyncFollowOctetLemmas.{ToldFits}
use Rattle.gptp_invariants.proofs.SyncFollowPartLemmas.{clock_shown}
use Rattle.gptp_invariants.proofs.SyncFollowSayLemmas.{SendsOn}
use Rattle.gptp_invariants.proofs.SyncFollowSettingLemmas.{is_setting, own_stamped, residence_is}
use Rattle.gptp_invariants.proofs.SyncFollowBaseLemmas.{GoesOn, right_goes_on, root_above, taken_over}
use Rattle.gptp_invariants.proofs.SyncFollowTreeLemmas.{own_choice, same_root, well_formed}
use Rattle.gptp_invariants.proofs.SyncFollowWayLemmas.{Follows, correction_small, documented, few, follows_parent, long, own_time_fits}
use Rattle.gptp_invariants.proofs.WorldSystemLemmas.{live_there}
use Rattle.gptp_roles.specs.Selection.{clock_of}

-- ---- what is sent on

-- It is what came, with the hop of this bridge; with the rate as it came, or with one whose sum is held at its limits;
-- or as it came, where a number doesn't fit.
pub record SaysOn (now : ℕ) (s : SystemState) (sends : List Sending) : Type 0 where
  pub info : SyncInfo
  pub known : s.known ≡ Some info
  pub told : Relayed
  pub origin : told.origin ≡ info.origin
  pub are : sends ≡ told_by told s
  pub is : (HopFits info now s × (told ≡ relayed info (hop_of info now s))) ⊎ IsToldAtLimits info now s told

says_on : (now : ℕ) (s s' : SystemState) (sends : List Sending) → SendsOn now s s' sends → SaysOn now s sends
says_on now s s' sends k = by k.sends_it
  where
    told_origin : (told : Relayed) → IsToldAtLimits k.info now s told → told.origin ≡ k.info.origin
    told_origin told (inl (fits, is)) = ap (λ (x : Relayed). x.origin) is
    told_origin told (inr (unfit, is)) = ap (λ (x : Relayed). x.origin) is

    by : IsRelayed k.info now s s' sends ⊎ IsSentOn k.info now s s' sends → SaysOn now s sends
    by (inl sent) = record {
      info = k.info;
      known = k.known;
      told = relayed k.info (hop_of k.info now s);
      origin = refl;
      are = sent.sends_are;
      is = inl (sent.fits, refl);
    }
    by (inr sent) = record {
      info = k.info;
      known = k.known;
      told = sent.told;
      origin = told_origin sent.told sent.told_is;
      are = sent.sends_are;
      is = inr sent.told_is;
    }

-- ---- the parent of a system

module _ (p : SettlingParams) (settled longest : ℕ) (w : WorldState) (is : IsSettledFrom p settled longest w) where
  abbrev x : Parts
  x = follower_parts p.params w

  abbrev g : Snapshot
  g = snapshot_of w

  wf : IsWellFormed g
  wf = well_formed p settled longest w is

  -- the way to it, as part of the way to the system
  record WayAbove (at : LinkPlace) (f : IsFollower at w) (steps : ℕ) (h : HasWay p.params at w f steps) : Type 0 where
    way : Way
    leads_there : IsWayTo x g steps (sender at.direction f.channel).clock way h.phase

  way_above : (at : LinkPlace) (f : IsFollower at w) (steps : ℕ) (h : HasWay p.params at w f steps)
      → WayAbove at f steps h
  way_above at f steps h =
      let (parent, above, follows, to, way_is, phase_is) = h.is in
      let one = IsParent-unique g (follower_clock at w f) parent (parent_link at.direction f.channel) follows f.parent
      in
      record { way = above; leads_there = subst (λ (l : ParentLink). IsWayTo x g steps l.clock above h.phase) one to }

  -- it is near
  above_near : (at : LinkPlace) (f : IsFollower at w) → IsNear g (clock (state_above at w f))
  above_near at f =
      let (d, here, less) = f.near in
      let farther : d ≡ suc f.parent.nearer.distance =
      LeadsNearer-distance g (follower_clock at w f) d (parent_link at.direction f.channel) wf here f.parent.nearer in (
        f.parent.nearer.distance,
        subst (λ v. IsDistance g v f.parent.nearer.distance) (sym f.above.named) f.parent.nearer.there,
        omega (arith, farther, less),
      )

  above_choice : (at : LinkPlace) (f : IsFollower at w) → HasSettledChoice g (state_above at w f)
  above_choice at f = is.choice at.asking f.above.station f.above.here f.above.live (above_near at f)

  -- one that leads has no parent
  leads_alone : (at : LinkPlace) (f : IsFollower at w) → is_leading (state_above at w f) ≡ true → (l : ParentLink)
      → IsParent g (clock (state_above at w f)) l → ⊥
  leads_alone at f leading l follows =
      let s = state_above at w f in
      let own : s.root ≡ s.identity =
      eqb-true s.root s.identity (and_parts (s.root == s.identity) (can_lead s.identity) leading).0 in
      let (best, is_best, root_is) = (above_choice at f).root in
      let itself : best ≡ standing_system f.above.station =
      same_identity g best (standing_system f.above.station) wf is_best.live
      (live_there w.stations at.asking f.above.station f.above.here f.above.live) (sym root_is ∙ own) in
      best_has_no_parent g (clock s) best l wf is_best (ap (λ (y : System). y.clock) itself) follows

-- ---- what it tells

-- It tells this, which is right where it may come after what comes is right, and fits its octets then.
pub record TellsRight (k : FollowerSetting) (now : ℕ) (s : SystemState) (sends : List Sending) : Type 0 where
  pub told : Relayed
  pub small : told.origin.nanos < 1000000000
  pub are : sends ≡ told_by told s
  pub right : from k ≤ now + (followers.parent_link k).most → FollowUpIsRight k.way k.phase k.base k.place told now
  pub fits : from k ≤ now + (followers.parent_link k).most → ToldFits told

-- what is right goes on being so
pub tells_goes_on : (k : FollowerSetting) (after : Option ℤ) (now : ℕ) (s : SystemState) (sends : List Sending)
    → GoesOn k.base after → TellsRight k now s sends → TellsRight (record k { base = after }) now s sends
tells_goes_on k after now s sends goes t = record {
  told = t.told;
  small = t.small;
  are = t.are;
  right = λ late. right_goes_on k.way k.phase k.base after k.place t.told now goes (t.right late);
  fits = t.fits;
}

-- its own time, where it leads: by the base that it has then
pub leader_right : (p : SettlingParams) (settled longest : ℕ) (w : WorldState) → IsSettledFrom p settled longest w
    → (at : LinkPlace) (f : IsFollower at w) (steps : ℕ) (h : HasWay p.params at w f steps) (base : Option ℤ)
    (s' : SystemState) (sends : List Sending) → (steps ≡ 0 → base ≡ told_base s')
    → is_leading (state_above at w f) ≡ true → list_any is_mine (state_above at w f).held ≡ true
    → LeadsTime w.time (state_above at w f) s' sends
    → TellsRight (record (follower_setting p.params settled longest at w f steps h) { base = base }) w.time
    (state_above at w f) sends
leader_right p settled longest w is at f (suc steps) h base s' sends told leads master k =
    let (l, above, follows, to, way_is, phase_is) = (way_above p settled longest w is at f (suc steps) h).leads_there in
    absurd (leads_alone p settled longest w is at f leads l
    (subst (λ v. IsParent (snapshot_of w) v l) (sym f.above.named) follows))
leader_right p settled longest w is at f zero h base s' sends told leads master k = record {
  told = own_time k.stamp k.rest;
  small = k.split.stamp.nanos;
  are = k.sends_are;
  right = λ late.
      root_tells (record (follower_setting p.params settled longest at w f zero h) { base = base }) ahead said k.stamp
      k.rest w.time refl base_is near k.split;
  fits = λ late. record {
    origin = k.split.stamp;
    correction = let small = k.split.small in record { sfits = omega (arith, small) };
    rate = record { sfits = omega arith };
  };
}
  where
    ahead : ℤ
    ahead = base_after w.time (state_above at w f)

    base_is : base ≡ Some ahead
    base_is =
        told refl ∙ ap told_base k.state
        ∙ ap (λ b. if b then Some ahead else None) (taken_over (state_above at w f) master)

    shown : local_time (state_above at w f) w.time ≡ shown_at h.way h.phase 0 w.time
    shown =
        let x = follower_parts p.params w in
        clock_shown p.params w is.world.sound is.measured at.asking f.above.station f.above.here w.time
        ∙ ap (λ n. local_clock (x.phase n) (x.drift n) w.time) f.above.named
        ∙ sym (way_ends_at_parent.clock x (snapshot_of w) zero (follower_clock at w f) w.time
        (parent_link at.direction f.channel) h.way h.phase f.parent h.is)

    -- the time stamp that it sends is near what it tells
    said : ℤ
    said = told_stamp (leading w.time (state_above at w f)) w.time

    near : AreWithin (32768 * h.way.blur) said (shown_at h.way h.phase 0 w.time +ℤ ahead -ℤ pos h.way.behind)
    near =
        let s = state_above at w f in
        let all = way_ends_at_parent.common (follower_parts p.params w) (snapshot_of w) 1 (follower_clock at w f) h.way
        h.phase h.is in
        let set : s.params ≡ p.params = (is.world.known.set at.asking f.above.station f.above.here).params in
        subst (λ b. AreWithin (32768 * b) said (shown_at h.way h.phase 0 w.time +ℤ ahead -ℤ pos h.way.behind))
        (sym all.3)
        (subst (λ b. AreWithin (32768 * blur_of p.params) said (shown_at h.way h.phase 0 w.time +ℤ ahead -ℤ pos b))
        (sym all.4)
        (subst (λ t. AreWithin (32768 * blur_of p.params) said (t +ℤ ahead -ℤ pos (behind_of p.params))) shown
        (subst (λ (q : Params). AreWithin (32768 * blur_of q) said
        (local_time s w.time +ℤ ahead -ℤ pos (behind_of q))) set
        (time_stamp_is_centred (stamping s) w.time (told_time (leading w.time s) w.time) k.from))))

-- correction and rate fit their octets
record BridgeFitsTold (told : Relayed) : Type 0 where
  correction : FitsInterval told.correction
  rate : FitsRate told.rate

-- ---- a bridge

module _ (p : SettlingParams) (settled longest : ℕ) (w : WorldState) (is : IsSettledFrom p settled longest w)
    (right : AllMeasureRight p.params w) (carries : CarriesTime p.params settled longest w) (at : LinkPlace)
    (f : IsFollower at w) (steps : ℕ) (h : HasWay p.params at w f (suc steps)) where
  abbrev kset : FollowerSetting
  kset = follower_setting p.params settled longest at w f (suc steps) h

  up : WayAbove p settled longest w is at f (suc steps) h
  up = way_above p settled longest w is at f (suc steps) h

  -- it follows its own parent
  bridge_follows : Follows w at.asking f.above.station
  bridge_follows =
      let (l, above, follows, to, way_is, phase_is) = up.leads_there in
      follows_parent p settled longest w is at.asking f.above.station f.above.here f.above.live
      (above_near p settled longest w is at f) l
      (subst (λ v. IsParent (snapshot_of w) v l) (sym f.above.named) follows)

  abbrev at2 : LinkPlace
  at2 = bridge_follows.at

  abbrev f2 : IsFollower at2 w
  f2 = bridge_follows.follower

  abbrev s2 : SystemState
  s2 = follower_state at2 w f2

  bridge_is : state_above at w f ≡ s2
  bridge_is = ap (λ (y : Station). y.system) (sym bridge_follows.own_is)

  abbrev h2 : HasWay p.params at2 w f2 steps
  h2 = record {
    way = up.way;
    phase = h.phase;
    stamps = stamps_of w.stations (follower_clock at2 w f2);
    stamped = refl;
    is = subst (λ n. IsWayTo (follower_parts p.params w) (snapshot_of w) (suc steps) n up.way h.phase)
        (sym f.above.named ∙ sym bridge_follows.named) up.leads_there;
  }

  abbrev k2 : FollowerSetting
  k2 = follower_setting p.params settled longest at2 w f2 steps h2

  -- both have one root
  roots_agree : s2.root ≡ (follower_state at w f).root
  roots_agree =
      same_root (snapshot_of w) (clock s2) s2.root (follower_state at w f).root (well_formed p settled longest w is)
      (own_choice p settled longest w is at2 f2).root
      (subst (λ v. IsBestIdentity (snapshot_of w) v (follower_state at w f).root)
      (sym f.above.named ∙ ap clock bridge_is) (root_above p settled longest w is at f))

  is_parent : IsParentOf k2 kset
  is_parent =
      subst (λ root. IsParentOf (follower_of up.way h.phase (base_at w.stations (clock_of root)) steps k2.stamps
      k2.parent settled longest) kset) (sym roots_agree)
      (parents_are_parents (follower_parts p.params w) (snapshot_of w) steps (follower_clock at w f) settled longest
      (parent_link at.direction f.channel) k2.stamps kset.stamps k2.parent kset.parent up.way h.way h.phase h.phase
      kset.base f.parent up.leads_there h.is)

  module _ (info : SyncInfo) (known : s2.known ≡ Some info) (relay : s2.relay ≡ Some w.time)
      (late : from kset ≤ w.time + (followers.parent_link kset).most) where
    own : stamp_time s2 w.time ≡ k2.stamps w.time
    own = own_stamped p settled longest w is at2 f2 steps h2 w.time

    measured : IsMeasuredAt h2.way steps (slave_rate s2) (slave_delay s2)
    measured = right at2 f2 steps h2

    -- what it tells with a rate that the laws allow is right
    told_right : (held : ℤ) → IsHeldAt h2.way steps info.rate (slave_rate s2) held
        → FollowUpIsRight kset.way kset.phase kset.base kset.place
        (relayed (record info { rate = held }) (hop_of (record info { rate = held }) w.time s2)) w.time
    told_right held allowed =
        let used : SyncInfo = record info { rate = held } in
        subst (λ t. FollowUpIsRight kset.way kset.phase kset.base kset.place
        (relayed used (bridge used (slave_delay s2) (slave_rate s2) t)) w.time) (sym own)
        (parent_tells_right k2 tells kset (follower at2 w f2) info (slave_rate s2) (slave_delay s2) held
        (is_setting p settled longest w is at2 f2 steps h2) (is_setting p settled longest w is at f (suc steps) h)
        is_parent (carries.follow at2 f2 steps h2) known relay late measured allowed)

    -- what comes to those that follow the bridge when it is right there was heard when what comes is right here
    heard_before : from k2 + k2.way.residence ≤ w.time
    heard_before =
        let here = residence_is p settled longest w is at f (suc steps) h in
        let above = residence_is p settled longest w is at2 f2 steps h2 in
        let whole : from kset ≡ settled + suc (suc steps) * (longest + p.params.residence) =
        ap (λ r. settled + suc (suc steps) * (longest + r)) here in
        let before : from k2 + k2.way.residence
        ≡ settled + suc steps * (longest + p.params.residence) + p.params.residence =
        ap (λ r. settled + suc steps * (longest + r) + r) above in
        let short = (is_setting p settled longest w is at f (suc steps) h).short in
        omega (arith, late, whole, before, short)

    -- and its numbers fit
    numbers_fit : (held : ℤ) → IsHeldAt h2.way steps info.rate (slave_rate s2) held
        → HopFits (record info { rate = held }) w.time s2
    numbers_fit held allowed =
        let used : SyncInfo = record info { rate = held } in
        subst (λ t. BridgeFits (bridge used (slave_delay s2) (slave_rate s2) t)
        (carried_on (carried used) (bridge used (slave_delay s2) (slave_rate s2) t))) (sym own)
        (parents_numbers_fit k2 tells (follower at2 w f2) info (slave_rate s2) (slave_delay s2) held
        (is_setting p settled longest w is at2 f2 steps h2) (carries.follow at2 f2 steps h2) known relay
        heard_before measured
        allowed (correction_small p settled longest w is at2 f2 steps h2)
        (own_time_fits p settled longest w is at2 f2 steps h2))

    -- the sum is held at its limits
    held_allowed : IsHeldAt h2.way steps info.rate (slave_rate s2) (held_sum info (slave_rate s2)).rate
    held_allowed =
        rates_are_held.by_limits h2.way steps info.rate (slave_rate s2)
        (ways_are_modest h2.way steps (documented p settled longest w is at2 f2 steps h2)
        (let same = long p settled longest w is at2 f2 steps h2 in omega (arith, same))
        (let less = few p settled longest w is at2 f2 steps h2 in omega (arith, less)))

    -- what is told is right, and its numbers fit
    abbrev IsGood : Relayed → Type 0
    IsGood told = FollowUpIsRight kset.way kset.phase kset.base kset.place told w.time
        × ((told.origin.nanos < 1000000000) → ToldFits told)

    room : (told : Relayed) → FollowUpIsRight kset.way kset.phase kset.base kset.place told w.time
        → BridgeFitsTold told → told.origin.nanos < 1000000000 → ToldFits told
    room told is_right fits small = record {
      origin = is_right.origin;
      correction = fits.correction;
      rate = fits.rate;
    }

    good : (told : Relayed)
        → (HopFits info w.time s2 × (told ≡ relayed info (hop_of info w.time s2))) ⊎ IsToldAtLimits info w.time s2 told
        → IsGood told
    good told (inl (fits, same)) =
        let is_right = told_right info.rate
        (rates_are_held.as_told h2.way steps info.rate (slave_rate s2) fits.rate) in
        subst IsGood (sym same)
        (is_right, room _ is_right (record { correction = fits.correction; rate = fits.rate }))
    good told (inr (inl (fits, same))) =
        let is_right = told_right (held_sum info (slave_rate s2)).rate held_allowed in
        subst IsGood (sym same)
        (is_right, room _ is_right (record { correction = fits.correction; rate = fits.rate }))
    good told (inr (inr (unfit, same))) =
        absurd (unfit (numbers_fit (held_sum info (slave_rate s2)).rate held_allowed))

  pub bridge_right : (s' : SystemState) (sends : List Sending) → (state_above at w f).relay ≡ Some w.time
      → SendsOn w.time (state_above at w f) s' sends → TellsRight kset w.time (state_above at w f) sends
  bridge_right s' sends runs sent =
      let said = says_on w.time (state_above at w f) s' sends sent in
      let known : s2.known ≡ Some said.info = ap (λ (y : SystemState). y.known) (sym bridge_is) ∙ said.known in
      let relay : s2.relay ≡ Some w.time = ap (λ (y : SystemState). y.relay) (sym bridge_is) ∙ runs in
      let told_is = subst (λ y. (HopFits said.info w.time y
      × (said.told ≡ relayed said.info (hop_of said.info w.time y)))
      ⊎ IsToldAtLimits said.info w.time y said.told) bridge_is said.is in
      let small : said.told.origin.nanos < 1000000000 =
      subst (λ (t : Timestamp). t.nanos < 1000000000) (sym said.origin)
      ((is.world.known.time at.asking f.above.station f.above.here f.above.live).stamped said.info said.known) in
      record {
        told = said.told;
        small = small;
        are = said.are;
        right = λ late. (good said.info known relay late said.told told_is).0;
        fits = λ late. (good said.info known relay late said.told told_is).1 small;
      }

-- what the Relay timer of any parent sends on
pub relay_right : (p : SettlingParams) (settled longest : ℕ) (w : WorldState) → IsSettledFrom p settled longest w
    → AllMeasureRight p.params w → CarriesTime p.params settled longest w → (at : LinkPlace) (f : IsFollower at w)
    (steps : ℕ) (h : HasWay p.params at w f steps) (s' : SystemState) (sends : List Sending)
    → (state_above at w f).relay ≡ Some w.time → SendsOn w.time (state_above at w f) s' sends
    → TellsRight (follower_setting p.params settled longest at w f steps h) w.time (state_above at w f) sends
relay_right p settled longest w is right carries at f (suc steps) h s' sends runs sent =
    bridge_right p settled longest w is right carries at f steps h s' sends runs sent
relay_right p settled longest w is right carries at f zero h s' sends runs sent =
    let s = state_above at w f in
    let k = follower_setting p.params settled longest at w f zero h in
    let said = says_on w.time s s' sends sent in
    let there = (way_above p settled longest w is at f zero h).leads_there.0 in
    let early = carries.roots at.asking f.above.station w.time f.above.here f.above.live
    (subst (λ v. IsDistance (snapshot_of w) v 0) (sym f.above.named) there) runs in
    let short = (is_setting p settled longest w is at f zero h).short in
    let residence = residence_is p settled longest w is at f zero h in
    let never : from k ≤ w.time + (followers.parent_link k).most → ⊥ = λ late.
    omega (arith, late, early, short, residence) in
    record {
      told = said.told;
      small = subst (λ (t : Timestamp). t.nanos < 1000000000) (sym said.origin)
          ((is.world.known.time at.asking f.above.station f.above.here f.above.live).stamped said.info said.known);
      are = said.are;
      right = λ late. absurd (never late);
      fits = λ late. absurd (never late);
    }
