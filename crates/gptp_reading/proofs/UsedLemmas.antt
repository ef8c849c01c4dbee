-- What a Follow_Up that a system uses leaves it.
use Rattle.std.proofs.Common.{◌≡◌, ◌≢◌, ◌≤◌, ◌+◌, ◌*◌, ℕ, suc, ℤ, pos, ◌+ℤ◌, ◌-ℤ◌, ◌*ℤ◌, ◌≤ℤ◌, negsuc, Bool, true, false, List, ◌∷◌, map, Option, Some, None, refl, sym, ap, subst, ◌∙◌, inl, inr, arith}
use Rattle.std.specs.Option.{option_and_then, option_map, option_map_or}
use Rattle.std.specs.Prelude.{◌<◌, IsSome, if◌then◌else◌}
use Rattle.std.proofs.lemmas.Bool.Decides.{nat_tests}
use Rattle.std.proofs.lemmas.Int.{ints, clamps}
use Rattle.std.proofs.lemmas.Option.{none-some, same_Some}
use Rattle.gptp_graph.specs.Best.{IsBest}
use Rattle.gptp_graph.specs.Snapshot.{System}
use Rattle.gptp_graph.proofs.BestLemmas.{IsBest-unique}
use Rattle.gptp_scaled.specs.Counts.{AreWithin}
use Rattle.gptp_scaled.specs.Rate.{FitsRate, scaled_by}
use Rattle.gptp_scaled.specs.Stamp.{scaled_of}
use Rattle.gptp_pdelay.specs.Clock.{local_clock}
use Rattle.gptp_messages.specs.declared.follow_up.FollowUp.{FollowUp as FollowUpFields}
use Rattle.gptp_messages.specs.declared.message.Message.TheVariants as messages
use Rattle.gptp_messages.specs.Grammar.{Reads}
use Rattle.gptp_links.specs.Queue.{Frame, frame}
use Rattle.gptp_correction.specs.declared.sync_in.SyncInfo.{SyncInfo}
use Rattle.gptp_correction.specs.Correction.{held_sum, link_time, nearest_rate, sync_received}
use Rattle.gptp_correction.specs.SyncIn.{KeptSync, belongs, information, together}
use Rattle.gptp_setup.specs.declared.setup.Params.{Params}
use Rattle.gptp_setup.specs.SettlingParams.{SettlingParams, has_sync_timeout}
use Rattle.gptp_system.specs.declared.answer.Answer.{Answer}
use Rattle.gptp_system.specs.declared.answer.Answer.TheVariants as answers
use Rattle.gptp_system.specs.declared.sending.Sending.{Sending}
use Rattle.gptp_system.specs.Input.{Frame as FrameHeard, Steps}
use Rattle.gptp_system.specs.State.{SystemState, clock, is_capable_at, lapse_of, local_time}
use Rattle.gptp_system.specs.Reading.{read_at}
use Rattle.gptp_system.specs.Syncing.{reading_by, HearsFollowUpIf, IsOffset, OffsetFits, KnowsBy, KnowsIf, delay_at, is_slave_at, offset_of, root_rate_at, said_on, slave_delay, slave_rate}
use Rattle.gptp_system.specs.Takeover.{told_time}
use Rattle.gptp_error_laws.specs.TimeError.{measured_jitter_at, rates_error_at, reading_error_at, time_error_at}
use Rattle.gptp_error_laws.specs.WayLaws.{shown_at}
use Rattle.gptp_model.specs.declared.station.Station.{Station}
use Rattle.gptp_model.specs.World.{WorldState, world_queue, receiver}
use Rattle.gptp_sync_machine.specs.Follower.{FollowerSetting, from, own_clock, root_told}
use Rattle.gptp_sync_machine.specs.Messages.{FollowUp, IsOneMessage}
use Rattle.gptp_sync_machine.specs.Right.{IsHeldAt, IsMeasuredAt, at_rate, info_of}
use Rattle.gptp_sync_machine.proofs.ModestLemmas.{rates_are_held, ways_are_modest}
use Rattle.gptp_sync_machine.proofs.TreeLemmas.{way_leads_to}
use Rattle.gptp_invariants.specs.SyncFollowView.{kept_sync, tells, told_in}
use Rattle.gptp_invariants.specs.SyncFollowers.{HasWay, IsFollower, base_at, follower, follower_clock, follower_setting, follower_parts, follower_state}
use Rattle.gptp_invariants.specs.DelayLinkView.{LinkPlace, link_frame_view}
use Rattle.gptp_invariants.specs.WorldStanding.{snapshot_of}
use Rattle.gptp_invariants.specs.SyncTimed.{AllMeasureRight, CarriesTime, IsSettledFrom}
use Rattle.gptp_invariants.specs.SyncTimedLaws.{IsRootOf}
use Rattle.gptp_invariants.specs.ChoiceView.{port_identity_number}
use Rattle.gptp_invariants.proofs.SyncFollowBaseLemmas.{base_of, best as root_of, is_best as is_root, root_clock_is}
use Rattle.gptp_invariants.proofs.SyncFollowOctetLemmas.{told_alone}
use Rattle.gptp_invariants.proofs.SyncFollowOffsetLemmas.{IsUsed, is_used}
use Rattle.gptp_invariants.proofs.SyncFollowPartLemmas.{clock_shown}
use Rattle.gptp_invariants.proofs.SyncFollowSettingLemmas.{is_setting, own_shown}
use Rattle.gptp_invariants.proofs.SyncFollowTreeLemmas.{slave_is, well_formed}
use Rattle.gptp_invariants.proofs.SyncFollowWayLemmas.{common, correction_small, documented, few, long, own_time_fits}
use Rattle.gptp_invariants.proofs.SyncHeardLemmas.{heard_as}
use Rattle.gptp_invariants.proofs.SyncTimeStepLemmas.{can_lapse}
use Rattle.gptp_reading.specs.Reading.{read_after, reading}
use Rattle.gptp_reading.specs.Readings.{LeavesTime}
use Rattle.gptp_reading.proofs.TellingLemmas.{IsAsSent, offset_fits, reading_is_exact, told_as_sent}
use Rattle.gptp_reading.proofs.WayLemmas.{in_units}
use Rattle.gptp_reading.specs.ReadingLaws.{IsBehindBy}

-- ---- rates that are held

-- a sum that is a number of 32 bits is the nearest to itself
nearest_is : (q n : ℤ) → FitsRate (q +ℤ n) → (nearest_rate (q +ℤ n) -ℤ n) +ℤ n ≡ q +ℤ n
nearest_is q n fits =
    let low : negsuc 2147483647 ≤ℤ (q +ℤ n) = omega (arith, ints, fits) in
    let high : (q +ℤ n) ≤ℤ pos 2147483647 = omega (arith, ints, fits) in
    omega (arith, ints, clamps, low, high)

-- so where the sum fits, an offset is the one by the rate that is held
offset_held : (info : SyncInfo) (delay rate : ℤ) → FitsRate (info.rate +ℤ rate)
    → offset_of info delay rate ≡ offset_of (held_sum info rate) delay rate
offset_held info delay rate fits =
    ap (λ q. info.ingress -ℤ ((scaled_of info.origin +ℤ info.correction) +ℤ scaled_by q (link_time delay rate)))
    (sym (nearest_is info.rate rate fits))

-- ---- what is left

-- What the Follow_Up and its Sync say is known; the offset, if there is one, is that by the rate that is held; and what
-- the port measured, and the clock, are as they were. Where nothing can lapse there is an offset, and else the Lapse
-- timer begins.
pub record IsLeft (lapses : Bool) (info : SyncInfo) (delay rate : ℤ) (now : ℕ) (s s' : SystemState) : Type 0 where
  pub known : s'.known ≡ Some info
  pub offset : (offset : ℤ) → s'.offset ≡ Some offset → offset ≡ offset_of (held_sum info rate) delay rate
  pub measured : slave_rate s' ≡ slave_rate s
  pub clock : (t : ℕ) → local_time s' t ≡ local_time s t
  pub params : s'.params ≡ s.params
  pub some : lapses ≡ false → (offset : ℤ) × (s'.offset ≡ Some offset)
  pub fits : lapses ≡ true → OffsetFits (held_sum info rate) delay rate → (offset : ℤ) × (s'.offset ≡ Some offset)
  pub starts : lapses ≡ true → s'.lapse ≡ lapse_of s'.params s'.root s'.slave now

-- where it is at the Slave port, and belongs to the Sync that is kept
pub record IsUsedBy (p : ℕ) (m : FollowUpFields) (now : ℕ) (s s' : SystemState) : Type 0 where
  pub kept : KeptSync
  pub keeps : s.sync_in ≡ Some kept
  pub belongs_to : belongs m kept ≡ true
  pub slave : is_slave_at s p ≡ true
  pub left : IsLeft (has_sync_timeout s.params) (together m kept) (delay_at s p) (root_rate_at s p) now s s'

module _ (p : ℕ) (m : FollowUpFields) (octets : List ℕ) (now : ℕ) (s s' : SystemState) (sends : List Sending)
    (reads : Reads octets (messages.FollowUp m)) where
  abbrev delay : ℤ
  delay = delay_at s p

  abbrev rate : ℤ
  rate = root_rate_at s p

  not_used : (other : Answer) → other ≢ answers.Used → answers.Used ≡ other → ⊥
  not_used other differs is = differs (sym is)

  left_by : (b : Bool) (info : SyncInfo) → KnowsBy b info delay rate now s s' sends answers.Used
      → IsLeft b info delay rate now s s'
  left_by true info k = record {
    known = ap (λ (y : SystemState). y.known) k.becomes.state;
    offset = λ offset is.
        by offset (sym (ap (λ (y : SystemState). y.offset) k.becomes.state) ∙ is) k.offset_is;
    measured = ap (λ (y : SystemState). slave_rate y) k.becomes.state;
    clock = λ t. ap (λ (y : SystemState). local_time y t) k.becomes.state;
    params = ap (λ (y : SystemState). y.params) k.becomes.state;
    some = λ off. absurd cc;
    fits = λ on numbers. fits numbers k.offset_is;
    starts = λ on.
        ap (λ (y : SystemState). y.lapse) k.becomes.state
        ∙ sym (ap (λ (y : SystemState). lapse_of y.params y.root y.slave now) k.becomes.state);
  }
    where
      by : (offset : ℤ) → k.offset ≡ Some offset → IsOffset (held_sum info rate) delay rate k.offset
          → offset ≡ offset_of (held_sum info rate) delay rate
      by offset left (inl (fits, same)) =
          sym (same_Some (offset_of (held_sum info rate) delay rate) offset (sym same ∙ left))
      by offset left (inr (unfit, none)) = absurd (none-some offset (sym none ∙ left))

      fits : OffsetFits (held_sum info rate) delay rate → IsOffset (held_sum info rate) delay rate k.offset
          → (offset : ℤ) × (s'.offset ≡ Some offset)
      fits numbers (inl (same_numbers, same)) =
          (offset_of (held_sum info rate) delay rate, ap (λ (y : SystemState). y.offset) k.becomes.state ∙ same)
      fits numbers (inr (unfit, none)) = absurd (unfit numbers)
  left_by false info (inl k) = record {
    known = ap (λ (y : SystemState). y.known) k.becomes.state;
    offset = λ offset is.
        sym (same_Some (offset_of info delay rate) offset
        (sym (ap (λ (y : SystemState). y.offset) k.becomes.state) ∙ is))
        ∙ offset_held info delay rate k.fits.receipt.rate;
    measured = ap (λ (y : SystemState). slave_rate y) k.becomes.state;
    clock = λ t. ap (λ (y : SystemState). local_time y t) k.becomes.state;
    params = ap (λ (y : SystemState). y.params) k.becomes.state;
    some = λ off. (offset_of info delay rate, ap (λ (y : SystemState). y.offset) k.becomes.state);
    fits = λ on numbers. absurd cc;
    starts = λ on. absurd cc;
  }
  left_by false info (inr k) = absurd (not_used answers.Ignored (λ e. cc) k.answer_is)

  -- what is said on the port
  said_is : (u : IsUsed p m s s') → said_on p m s ≡ Some (together m u.kept)
  said_is u =
      ap (λ b. if b then information s.sync_in m else None) u.slave
      ∙ ap (λ o. information o m) u.keeps
      ∙ ap (λ b. if b then Some (together m u.kept) else None) u.belongs_to

  pub used_by : Steps (FrameHeard p octets) now s s' sends answers.Used → IsUsedBy p m now s s'
  used_by k =
      let u = is_used p m octets now s s' sends answers.Used refl reads k in
      record {
        kept = u.kept;
        keeps = u.keeps;
        belongs_to = u.belongs_to;
        slave = u.slave;
        left = left_by (has_sync_timeout s.params) (together m u.kept)
            (subst (λ said. KnowsIf said delay rate now s s' sends answers.Used) (said_is u)
            (by (is_capable_at s p) (heard_as p octets (messages.FollowUp m) now s s' sends answers.Used reads k)));
      }
    where
      by : (b : Bool) → HearsFollowUpIf b p m now s s' sends answers.Used
          → KnowsIf (said_on p m s) delay rate now s s' sends answers.Used
      by true h = h
      by false h = absurd (not_used answers.Disabled (λ e. cc) h.answer_is)

-- ---- what that comes to

timeout_off : (q : Params) → q.sync_timeout ≡ 0 → has_sync_timeout q ≡ false
timeout_off q off = rw off refl

-- with an offset there is a reading
reads_by : (info : SyncInfo) (s : SystemState) → s.known ≡ Some info → (moment : ℕ)
    → (offset : ℤ) × (s.offset ≡ Some offset) → IsSome (reading s moment)
reads_by info s known moment (offset, is_offset) =
    let r : reading s moment ≡ Some (read_at (reading_by s info offset) (local_time s moment)) =
    ap (option_and_then (λ (it : SyncInfo). option_map
    (λ o. read_at (reading_by s it o) (local_time s moment)) s.offset)) known
    ∙ ap (option_map (λ o. read_at (reading_by s info o) (local_time s moment))) is_offset
    in
    subst IsSome (sym r) refl

pub leaves_time : (p : ℕ) (m : FollowUpFields) (now : ℕ) (s s' : SystemState) → IsUsedBy p m now s s'
    → LeavesTime now s'
leaves_time p m now s s' used = record {
  known = subst IsSome (sym used.left.known) refl;
  reads = λ off moment. reads_by (together m used.kept) s' used.left.known moment
      (used.left.some (timeout_off s.params (ap (λ (q : Params). q.sync_timeout) (sym used.left.params) ∙ off)));
  starts = λ on.
      used.left.starts
      (can_lapse s.params (subst (λ (q : Params). 0 < q.sync_timeout) used.left.params on));
}

-- ---- at a system that follows

-- what is less than another by so much
less_by : (whole part less : ℤ) → less ≡ whole -ℤ part → part ≡ whole -ℤ less
less_by whole part less is = omega (arith, ints, is)

back_again : (x y : ℤ) → (x -ℤ y) +ℤ y ≡ x
back_again x y = omega (arith, ints)

module _ (p : SettlingParams) (settled longest : ℕ) (w : WorldState) (is : IsSettledFrom p settled longest w)
    (right : AllMeasureRight p.params w) (carries : CarriesTime p.params settled longest w) (place : LinkPlace)
    (f : IsFollower place w) (steps : ℕ) (h : HasWay p.params place w f steps) (octets : List ℕ) (rest : List Frame)
    (front : world_queue place.direction f.channel ≡ frame w.time octets ∷ rest) (m : FollowUpFields)
    (reads : Reads octets (messages.FollowUp m)) (s' : SystemState)
    (used : IsUsedBy (receiver place.direction f.channel).port m w.time (follower_state place w f) s')
    (late : from (follower_setting p.params settled longest place w f steps h) ≤ w.time) where
  abbrev x : SystemState
  x = follower_state place w f

  abbrev k : FollowerSetting
  k = follower_setting p.params settled longest place w f steps h

  abbrev n : ℕ
  n = (receiver place.direction f.channel).port

  abbrev sync : KeptSync
  sync = used.kept

  abbrev said : SyncInfo
  said = together m sync

  abbrev held : ℤ
  held = nearest_rate (m.rate +ℤ root_rate_at x n) -ℤ root_rate_at x n

  slave : x.slave ≡ Some n
  slave = slave_is p settled longest w is place f

  same_rate : slave_rate x ≡ root_rate_at x n
  same_rate = ap (λ o. option_map_or (root_rate_at x) o (pos 0)) slave

  same_delay : slave_delay x ≡ delay_at x n
  same_delay = ap (λ o. option_map_or (delay_at x) o (pos 0)) slave

  measured : IsMeasuredAt h.way steps (root_rate_at x n) (delay_at x n)
  measured =
      subst (IsMeasuredAt h.way steps (root_rate_at x n)) same_delay
      (subst (λ r. IsMeasuredAt h.way steps r (slave_delay x)) same_rate (right place f steps h))

  one : IsOneMessage tells octets (FollowUp (port_identity_number sync.source) sync.sequence (told_in m))
  one =
      let own = used.belongs_to in
      let clock_same : sync.source.clock ≡ m.head.source.clock = grind (arith, nat_tests) in
      let port_same : sync.source.port ≡ m.head.source.port = grind (arith, nat_tests) in
      let number_same : sync.sequence ≡ m.head.sequence = grind (arith, nat_tests) in
      let it : tells octets (FollowUp (port_identity_number sync.source) sync.sequence (told_in m)) =
      (m, reads, (λ i. record { clock = clock_same i; port = port_same i }), number_same, refl) in
      record { said = it; only = told_alone octets (port_identity_number sync.source) sync.sequence (told_in m) it }

  allowed : IsHeldAt h.way steps m.rate (root_rate_at x n) held
  allowed =
      rates_are_held.by_limits h.way steps m.rate (root_rate_at x n)
      (ways_are_modest h.way steps (documented p settled longest w is place f steps h)
      (let same_length = long p settled longest w is place f steps h in omega (arith, same_length))
      (let less = few p settled longest w is place f steps h in omega (arith, less)))

  -- ---- that there is a reading

  sent_as : IsAsSent k (told_in m) sync.ingress w.time
  sent_as =
      told_as_sent k tells (follower place w f) (link_frame_view (frame w.time octets)) (map link_frame_view rest)
      (port_identity_number sync.source) sync.sequence (told_in m) sync.ingress (carries.follow place f steps h)
      (ap (map link_frame_view) front) refl late one (ap (option_map kept_sync) used.keeps)

  numbers_fit : OffsetFits (held_sum said (root_rate_at x n)) (delay_at x n) (root_rate_at x n)
  numbers_fit =
      offset_fits k (told_in m) sync.ingress (root_rate_at x n) (delay_at x n) held w.time
      (is_setting p settled longest w is place f steps h) sent_as measured allowed
      (correction_small p settled longest w is place f steps h)
      (own_time_fits p settled longest w is place f steps h sent_as.came sent_as.carried.behind) sent_as.right.origin

  pub has_reading : (t : ℕ) → IsSome (reading s' t)
  has_reading t =
      reads_by said s' used.left.known t (by (has_sync_timeout x.params) refl)
    where
      by : (b : Bool) → has_sync_timeout x.params ≡ b → (offset : ℤ) × (s'.offset ≡ Some offset)
      by true on = used.left.fits on numbers_fit
      by false off = used.left.some off

  -- ---- what is read

  abbrev read_then : ℕ → ℤ
  read_then t =
      read_after (info_of (at_rate (told_in m) held) sync.ingress) (delay_at x n) (root_rate_at x n)
      (own_clock k t -ℤ sync.ingress)

  -- time stamps are behind by half of their granularity
  grained : IsBehindBy h.way p.params.granularity
  grained =
      let all = common p settled longest w is place f steps h in
      let blur = all.3 in
      record { half = all.4; fine = omega (arith, blur) }

  exact : (later : ℕ) → (ahead : ℤ) × (k.base ≡ Some ahead)
      × AreWithin (33550000 * time_error_at h.way (suc steps)
      + rates_error_at h.way steps * (later + measured_jitter_at h.way steps))
      (pos 33550000 *ℤ read_then (w.time + later)) (pos 33550000 *ℤ root_told k ahead (w.time + later))
  exact later =
      reading_is_exact k tells (follower place w f) (link_frame_view (frame w.time octets)) (map link_frame_view rest)
      (port_identity_number sync.source) sync.sequence (told_in m) sync.ingress (root_rate_at x n)
      (delay_at x n) held later p.params.granularity grained
      (is_setting p settled longest w is place f steps h) (carries.follow place f steps h)
      (ap (map link_frame_view) front) refl late one (ap (option_map kept_sync) used.keeps) measured allowed

  -- the best has taken over, and so has a base
  pub has_base : (best : System) → IsBest (snapshot_of w) (follower_clock place w f) best
      → (ahead : ℤ) × (base_at w.stations best.clock ≡ Some ahead)
  has_base best is_best =
      let said_time = exact 0 in
      let same : root_of p settled longest w is place f ≡ best =
      IsBest-unique (snapshot_of w) (clock x) (root_of p settled longest w is place f) best
      (well_formed p settled longest w is) (is_root p settled longest w is place f)
      (subst (λ n. IsBest (snapshot_of w) n best) (sym f.own.named) is_best) in (
        said_time.0,
        ap (base_at w.stations)
            (ap (λ (y : System). y.clock) (sym same) ∙ sym (root_clock_is p settled longest w is place f))
            ∙ said_time.1,
      )

  -- by the state that is left
  read_is : (offset : ℤ) (t : ℕ) → s'.offset ≡ Some offset
      → read_then t ≡ read_at (reading_by s' said offset) (local_time s' t)
  read_is offset t is_offset =
      let received_is : sync_received (held_sum said (root_rate_at x n)) (delay_at x n)
      (root_rate_at x n) ≡ sync.ingress -ℤ offset =
      less_by sync.ingress (sync_received (held_sum said (root_rate_at x n)) (delay_at x n) (root_rate_at x n)) offset
      (used.left.offset offset is_offset) in
      let rate_is : held +ℤ root_rate_at x n ≡ nearest_rate (m.rate +ℤ slave_rate s') =
      back_again (nearest_rate (m.rate +ℤ root_rate_at x n)) (root_rate_at x n)
      ∙ ap (λ r. nearest_rate (m.rate +ℤ r)) (sym (used.left.measured ∙ same_rate)) in
      let shown_is : own_clock k t ≡ local_time s' t =
      sym (used.left.clock t ∙ own_shown p settled longest w is place f steps h t) in
      λ i. received_is i +ℤ scaled_by (rate_is i) (shown_is i -ℤ sync.ingress)

  -- what the root tells
  root_is : (t : ℕ) (root : Station) → IsRootOf w (follower_clock place w f) root → (ahead : ℤ)
      → k.base ≡ Some ahead → root_told k ahead t ≡ told_time root.system t
  root_is t root r ahead base =
      let parts = follower_parts p.params w in
      let clock_is : shown_at h.way h.phase 0 t ≡ local_time root.system t =
      way_leads_to.root parts (snapshot_of w) (suc steps) (follower_clock place w f) t r.best h.way h.phase
      (well_formed p settled longest w is) r.is_best h.is
      ∙ ap (λ c. local_clock (parts.phase c) (parts.drift c) t) (sym r.named)
      ∙ sym (clock_shown p.params w is.world.sound is.measured r.place root r.here t) in
      let base_is = base_of p settled longest w is place f root r ahead base in
      λ i. clock_is i +ℤ sym base_is i

  by_offset : (later : ℕ) (root : Station) → IsRootOf w (follower_clock place w f) root → (offset : ℤ)
      → s'.offset ≡ Some offset
      → AreWithin (reading_error_at h.way steps later)
      (read_at (reading_by s' said offset) (local_time s' (w.time + later)))
      (told_time root.system (w.time + later))
  by_offset later root r offset is_offset =
      let t = w.time + later in
      let said_time = exact later in
      let whole = in_units (time_error_at h.way (suc steps)) (rates_error_at h.way steps)
      (later + measured_jitter_at h.way steps) (read_then t) (root_told k said_time.0 t) said_time.2 in
      subst (AreWithin (reading_error_at h.way steps later)
      (read_at (reading_by s' said offset) (local_time s' t))) (root_is t root r said_time.0 said_time.1)
      (subst (λ y. AreWithin (reading_error_at h.way steps later) y (root_told k said_time.0 t))
      (read_is offset t is_offset)
      whole)

  pub used_exactly : (later : ℕ) (root : Station) → IsRootOf w (follower_clock place w f) root → (read : ℤ)
      → reading s' (w.time + later) ≡ Some read
      → AreWithin (reading_error_at h.way steps later) read (told_time root.system (w.time + later))
  used_exactly later root r read reads_it =
      by s'.offset refl
      (sym (ap (option_and_then (λ (known : SyncInfo). option_map
      (λ offset. read_at (reading_by s' known offset) (local_time s' (w.time + later))) s'.offset)) used.left.known)
      ∙ reads_it)
    where
      by : (o : Option ℤ) → s'.offset ≡ o
          → option_map (λ offset. read_at (reading_by s' said offset) (local_time s' (w.time + later))) o ≡ Some read
          → AreWithin (reading_error_at h.way steps later) read (told_time root.system (w.time + later))
      by None is_none none = absurd (none-some read none)
      by (Some offset) is_offset some =
          subst (λ y. AreWithin (reading_error_at h.way steps later) y (told_time root.system (w.time + later)))
          (same_Some (read_at (reading_by s' said offset) (local_time s' (w.time + later))) read some)
          (by_offset later root r offset is_offset)
