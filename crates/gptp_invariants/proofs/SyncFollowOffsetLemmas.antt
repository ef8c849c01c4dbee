-- A Follow_Up that is used leaves an offset that is exact.
use Rattle.std.proofs.Common.{◌≡◌, ◌≢◌, ◌⊎◌, ◌≤◌, ℕ, suc, ℤ, Bool, true, false, List, ◌∷◌, map, Option, Some, None, slice_get, slice_set, refl, sym, ap, subst, ◌∙◌, inl, inr, arith, eqb-true}
use Rattle.std.specs.Option.{option_map, option_map_or}
use Rattle.std.specs.Prelude.{◌==◌, ◌-ℤ◌, pos, if◌then◌else◌, ◌+ℤ◌}
use Rattle.std.proofs.lemmas.Bool.Decides.{nat_tests}
use Rattle.std.proofs.lemmas.Option.{none-some, same_Some}
use Rattle.gptp_lists.proofs.MappedLemmas.{same_there}
use Rattle.gptp_lists.proofs.PlaceLemmas.{get-set_same}
use Rattle.gptp_vector.specs.declared.port.PortId.{PortId}
use Rattle.gptp_scaled.specs.Counts.{AreWithin}
use Rattle.gptp_messages.specs.declared.follow_up.FollowUp.{FollowUp as FollowUpFields}
use Rattle.gptp_messages.specs.declared.message.Message.TheVariants as messages
use Rattle.gptp_messages.specs.Grammar.{Reads}
use Rattle.gptp_pdelay.specs.Clock.{local_clock}
use Rattle.gptp_links.specs.declared.link.Direction.{Direction}
use Rattle.gptp_links.specs.Fate.{Draw}
use Rattle.gptp_links.specs.Queue.{Frame, frame}
use Rattle.gptp_correction.specs.declared.sync_in.SyncInfo.{SyncInfo}
use Rattle.gptp_correction.specs.Correction.{held_sum}
use Rattle.gptp_correction.specs.SyncIn.{KeptSync, belongs, information, together}
use Rattle.gptp_setup.specs.SettlingParams.{SettlingParams, has_sync_timeout}
use Rattle.gptp_system.specs.declared.answer.Answer.{Answer}
use Rattle.gptp_system.specs.declared.answer.Answer.TheVariants as answers
use Rattle.gptp_system.specs.declared.sending.Sending.{Sending}
use Rattle.gptp_system.specs.Input.{Frame as FrameHeard, Steps}
use Rattle.gptp_system.specs.State.{SystemState, is_capable_at, local_time}
use Rattle.gptp_system.specs.Syncing.{HearsFollowUpIf, IsOffset, KnowsBy, KnowsIf, OffsetFits, delay_at, is_slave_at, offset_of, root_rate_at, said_on, slave_delay, slave_rate}
use Rattle.gptp_system.specs.Takeover.{told_time}
use Rattle.gptp_error_laws.specs.TimeError.{time_error_at}
use Rattle.gptp_error_laws.specs.WayLaws.{shown_at}
use Rattle.gptp_model.specs.Act.{Delivers, Hears, in_state}
use Rattle.gptp_model.specs.Acts.{TellsHearing}
use Rattle.gptp_model.specs.declared.done.Done.{Done}
use Rattle.gptp_model.specs.declared.done.Done.TheVariants.{Heard, Quiet}
use Rattle.gptp_model.specs.declared.station.Station.{Station}
use Rattle.gptp_model.specs.World.{WorldState, port_id, world_queue, receiver}
use Rattle.gptp_sync_machine.specs.Follower.{FollowerSetting, from, own_clock, root_told}
use Rattle.gptp_sync_machine.specs.Messages.{FollowUp, IsOneMessage}
use Rattle.gptp_sync_machine.specs.Right.{IsHeldAt, IsMeasuredAt}
use Rattle.gptp_sync_machine.proofs.ModestLemmas.{rates_are_held, ways_are_modest}
use Rattle.gptp_sync_machine.proofs.TellingLemmas.{offset_is_exact}
use Rattle.gptp_sync_machine.proofs.TreeLemmas.{way_leads_to}
use Rattle.gptp_invariants.specs.SyncFollowView.{kept_sync, tells, told_in}
use Rattle.gptp_invariants.specs.SyncFollowers.{HasWay, IsFollower, follower, follower_clock, follower_setting, follower_parts, follower_state}
use Rattle.gptp_invariants.specs.DelayLinkView.{LinkPlace, link_frame_view, other_direction}
use Rattle.gptp_invariants.specs.WorldStanding.{snapshot_of}
use Rattle.gptp_invariants.specs.SyncTimed.{AllMeasureRight, CarriesTime, IsSettledFrom}
use Rattle.gptp_invariants.specs.SyncTimedLaws.{IsRootOf, OffsetsAreExact}
use Rattle.gptp_invariants.specs.ChoiceView.{port_identity_number}
use Rattle.gptp_invariants.proofs.SyncFollowBaseLemmas.{base_of}
use Rattle.gptp_invariants.proofs.SyncFollowDeliveryLemmas.{opposite_same}
use Rattle.gptp_invariants.proofs.SyncFollowOctetLemmas.{told_alone}
use Rattle.gptp_invariants.proofs.SyncFollowPartLemmas.{clock_shown}
use Rattle.gptp_invariants.proofs.SyncFollowSettingLemmas.{is_setting, own_shown}
use Rattle.gptp_invariants.proofs.SyncFollowTreeLemmas.{slave_is, well_formed}
use Rattle.gptp_invariants.proofs.SyncFollowWayLemmas.{documented, few, long}
use Rattle.gptp_invariants.proofs.DelayLinkLemmas.{sender_opposite}
use Rattle.gptp_invariants.proofs.SyncHeardLemmas.{heard_as}
use Rattle.gptp_invariants.proofs.WorldWayLemmas.{one_way}

-- ---- what a system makes of a Follow_Up that it uses

-- It is at the Slave port, and belongs to the Sync that is kept. The offset is that of what both say, with the rate as
-- it came, or with the one whose sum is held at its limits.
pub record IsUsed (p : ℕ) (m : FollowUpFields) (s s' : SystemState) : Type 0 where
  pub kept : KeptSync
  pub keeps : s.sync_in ≡ Some kept
  pub belongs_to : belongs m kept ≡ true
  pub slave : is_slave_at s p ≡ true
  pub offset : (offset : ℤ) → s'.offset ≡ Some offset
      → (OffsetFits (together m kept) (delay_at s p) (root_rate_at s p)
      × (offset ≡ offset_of (together m kept) (delay_at s p) (root_rate_at s p)))
      ⊎ (offset ≡ offset_of (held_sum (together m kept) (root_rate_at s p)) (delay_at s p) (root_rate_at s p))

record IsSaid (p : ℕ) (m : FollowUpFields) (s : SystemState) (info : SyncInfo) : Type 0 where
  kept : KeptSync
  keeps : s.sync_in ≡ Some kept
  belongs_to : belongs m kept ≡ true
  slave : is_slave_at s p ≡ true
  is : info ≡ together m kept

is_said : (p : ℕ) (m : FollowUpFields) (s : SystemState) (info : SyncInfo) → said_on p m s ≡ Some info
    → IsSaid p m s info
is_said p m s info said = by_slave (is_slave_at s p) refl said
  where
    by_belongs : (kept : KeptSync) → s.sync_in ≡ Some kept → is_slave_at s p ≡ true → (b : Bool) → belongs m kept ≡ b
        → (if b then Some (together m kept) else None) ≡ Some info → IsSaid p m s info
    by_belongs kept keeps slave true own is = record {
      kept = kept;
      keeps = keeps;
      belongs_to = own;
      slave = slave;
      is = sym (same_Some (together m kept) info is);
    }
    by_belongs kept keeps slave false own is = absurd (none-some info is)

    by_kept : (o : Option KeptSync) → s.sync_in ≡ o → is_slave_at s p ≡ true → information o m ≡ Some info
        → IsSaid p m s info
    by_kept None keeps slave is = absurd (none-some info is)
    by_kept (Some kept) keeps slave is = by_belongs kept keeps slave (belongs m kept) refl is

    by_slave : (b : Bool) → is_slave_at s p ≡ b → (if b then information s.sync_in m else None) ≡ Some info
        → IsSaid p m s info
    by_slave true slave is = by_kept s.sync_in refl slave is
    by_slave false slave is = absurd (none-some info is)

module _ (p : ℕ) (m : FollowUpFields) (octets : List ℕ) (now : ℕ) (s s' : SystemState) (sends : List Sending)
    (answer : Answer) (used : answer ≡ answers.Used) (reads : Reads octets (messages.FollowUp m)) where
  abbrev delay : ℤ
  delay = delay_at s p

  abbrev rate : ℤ
  rate = root_rate_at s p

  abbrev Leaves : SyncInfo → Type 0
  Leaves info = (offset : ℤ) → s'.offset ≡ Some offset
      → (OffsetFits info delay rate × (offset ≡ offset_of info delay rate))
      ⊎ (offset ≡ offset_of (held_sum info rate) delay rate)

  not_used : (other : Answer) → other ≢ answers.Used → answer ≡ other → ⊥
  not_used other differs is = differs (sym is ∙ used)

  left_by : (b : Bool) (info : SyncInfo) → KnowsBy b info delay rate now s s' sends answer → Leaves info
  left_by true info k offset is = by k.offset_is
    where
      left : k.offset ≡ Some offset
      left = sym (ap (λ (y : SystemState). y.offset) k.becomes.state) ∙ is

      by : IsOffset (held_sum info rate) delay rate k.offset
          → (OffsetFits info delay rate × (offset ≡ offset_of info delay rate))
          ⊎ (offset ≡ offset_of (held_sum info rate) delay rate)
      by (inl (fits, same)) =
          inr (sym (same_Some (offset_of (held_sum info rate) delay rate) offset (sym same ∙ left)))
      by (inr (unfit, none)) = absurd (none-some offset (sym none ∙ left))
  left_by false info (inl k) offset is =
      inl (
        k.fits,
        sym (same_Some (offset_of info delay rate) offset
            (sym (ap (λ (y : SystemState). y.offset) k.becomes.state) ∙ is)),
      )
  left_by false info (inr k) offset is = absurd (not_used answers.Ignored (λ e. cc) k.answer_is)

  used_if : (said : Option SyncInfo) → said_on p m s ≡ said → KnowsIf said delay rate now s s' sends answer
      → IsUsed p m s s'
  used_if None is k = absurd (not_used answers.Ignored (λ e. cc) k.answer_is)
  used_if (Some info) is k =
      let said = is_said p m s info is in
      record {
        kept = said.kept;
        keeps = said.keeps;
        belongs_to = said.belongs_to;
        slave = said.slave;
        offset = subst Leaves said.is (left_by (has_sync_timeout s.params) info k);
      }

  pub is_used : Steps (FrameHeard p octets) now s s' sends answer → IsUsed p m s s'
  is_used k =
      by (is_capable_at s p) (heard_as p octets (messages.FollowUp m) now s s' sends answer reads k)
    where
      by : (b : Bool) → HearsFollowUpIf b p m now s s' sends answer → IsUsed p m s s'
      by true h = used_if (said_on p m s) refl h
      by false h = absurd (not_used answers.Disabled (λ e. cc) h.answer_is)

-- ---- at a system that follows

module _ (p : SettlingParams) (settled longest : ℕ) (w : WorldState) (is : IsSettledFrom p settled longest w)
    (right : AllMeasureRight p.params w) (carries : CarriesTime p.params settled longest w) (place : LinkPlace)
    (f : IsFollower place w) (steps : ℕ) (h : HasWay p.params place w f steps) (octets : List ℕ) (rest : List Frame)
    (front : world_queue place.direction f.channel ≡ frame w.time octets ∷ rest) (m : FollowUpFields)
    (reads : Reads octets (messages.FollowUp m)) where
  abbrev x : SystemState
  x = follower_state place w f

  abbrev k : FollowerSetting
  k = follower_setting p.params settled longest place w f steps h

  abbrev n : ℕ
  n = (receiver place.direction f.channel).port

  slave : x.slave ≡ Some n
  slave = slave_is p settled longest w is place f

  same_rate : slave_rate x ≡ root_rate_at x n
  same_rate = ap (λ o. option_map_or (root_rate_at x) o (pos 0)) slave

  same_delay : slave_delay x ≡ delay_at x n
  same_delay = ap (λ o. option_map_or (delay_at x) o (pos 0)) slave

  measured : IsMeasuredAt h.way steps (root_rate_at x n) (delay_at x n)
  measured =
      subst (IsMeasuredAt h.way steps (root_rate_at x n)) same_delay
      (subst (λ r. IsMeasuredAt h.way steps r (slave_delay x)) same_rate (right place f steps h))

  -- its root tells time, and the offset is within the time error of the way, less what is told
  abbrev IsExact : ℤ → Type 0
  IsExact offset = (ahead : ℤ) × (k.base ≡ Some ahead) × AreWithin (time_error_at h.way (suc steps)) offset
      (own_clock k w.time -ℤ root_told k ahead w.time)

  module _ (s' : SystemState) (used : IsUsed n m x s') (late : from k ≤ w.time) where
    abbrev sync : KeptSync
    sync = used.kept

    one : IsOneMessage tells octets (FollowUp (port_identity_number sync.source) sync.sequence (told_in m))
    one =
        let own = used.belongs_to in
        let clock_same : sync.source.clock ≡ m.head.source.clock = grind (arith, nat_tests) in
        let port_same : sync.source.port ≡ m.head.source.port = grind (arith, nat_tests) in
        let number_same : sync.sequence ≡ m.head.sequence = grind (arith, nat_tests) in
        let said : tells octets (FollowUp (port_identity_number sync.source) sync.sequence (told_in m)) =
        (m, reads, (λ i. record { clock = clock_same i; port = port_same i }), number_same, refl) in
        record {
          said = said;
          only = told_alone octets (port_identity_number sync.source) sync.sequence (told_in m) said;
        }

    -- with a rate that the laws allow
    exact_with : (held : ℤ) → IsHeldAt h.way steps m.rate (root_rate_at x n) held
        → IsExact (offset_of (record (together m sync) { rate = held }) (delay_at x n) (root_rate_at x n))
    exact_with held allowed =
        offset_is_exact k tells (follower place w f) (link_frame_view (frame w.time octets)) (map link_frame_view rest)
        (port_identity_number sync.source) sync.sequence (told_in m) sync.ingress (root_rate_at x n) (delay_at x n) held
        (is_setting p settled longest w is place f steps h) (carries.follow place f steps h)
        (ap (map link_frame_view) front) refl late one (ap (option_map kept_sync) used.keeps) measured allowed

    pub offset_exact : (offset : ℤ) → s'.offset ≡ Some offset → IsExact offset
    offset_exact offset left = by (used.offset offset left)
      where
        by : (OffsetFits (together m sync) (delay_at x n) (root_rate_at x n)
            × (offset ≡ offset_of (together m sync) (delay_at x n) (root_rate_at x n)))
            ⊎ (offset ≡ offset_of (held_sum (together m sync) (root_rate_at x n)) (delay_at x n) (root_rate_at x n))
            → IsExact offset
        by (inl (fits, same)) =
            subst IsExact (sym same)
            (exact_with m.rate (rates_are_held.as_told h.way steps m.rate (root_rate_at x n) fits.receipt.rate))
        by (inr same) =
            subst IsExact (sym same)
            (exact_with (held_sum (together m sync) (root_rate_at x n)).rate
            (rates_are_held.by_limits h.way steps m.rate (root_rate_at x n)
            (ways_are_modest h.way steps (documented p settled longest w is place f steps h)
            (let same_length = long p settled longest w is place f steps h in omega (arith, same_length))
            (let less = few p settled longest w is place f steps h in omega (arith, less)))))

  -- the clock is that of the system, and what is told what its root tells
  module _ (root : Station) (r : IsRootOf w (follower_clock place w f) root) where
    pub clocks_are : (ahead : ℤ) → k.base ≡ Some ahead
        → own_clock k w.time -ℤ root_told k ahead w.time ≡ local_time x w.time -ℤ told_time root.system w.time
    clocks_are ahead base =
        let parts = follower_parts p.params w in
        let own = own_shown p settled longest w is place f steps h w.time in
        let root_is : shown_at h.way h.phase 0 w.time ≡ local_time root.system w.time =
        way_leads_to.root parts (snapshot_of w) (suc steps) (follower_clock place w f) w.time r.best h.way h.phase
        (well_formed p settled longest w is) r.is_best h.is
        ∙ ap (λ c. local_clock (parts.phase c) (parts.drift c) w.time) (sym r.named)
        ∙ sym (clock_shown p.params w is.world.sound is.measured r.place root r.here w.time) in
        let its = base_of p settled longest w is place f root r ahead base in
        λ i. sym own i -ℤ (root_is i +ℤ sym its i)

    pub exact_of : (offset : ℤ) → IsExact offset
        → AreWithin (time_error_at h.way (suc steps)) offset (local_time x w.time -ℤ told_time root.system w.time)
    exact_of offset (ahead, base, exact) =
        subst (AreWithin (time_error_at h.way (suc steps)) offset) (clocks_are ahead base) exact

-- ---- an act

-- what is told of an act is one thing
record ToldOnce (a b : PortId) (first second : Option Answer) (octets heard : List ℕ) : Type 0 where
  clock_is : a.clock ≡ b.clock
  answer_is : first ≡ second
  octets_are : octets ≡ heard

told_once : (a b : PortId) (first second : Option Answer) (octets heard : List ℕ) (done : Done)
    → TellsHearing a first octets done → TellsHearing b second heard done → ToldOnce a b first second octets heard
told_once a b first second octets heard Quiet k l = absurd k
told_once a b first second octets heard (Heard number port told frame) (clocks, ports, answered, frames) (c, q, l, f) =
    record { clock_is = sym clocks ∙ c; answer_is = sym answered ∙ l; octets_are = sym frames ∙ f }

-- the Follow_Up is the oldest frame on the lane to the system, which uses it
record IsUsedHere (w : WorldState) (place : LinkPlace) (f : IsFollower place w) (octets : List ℕ) (m : FollowUpFields)
    (after : SystemState) : Type 0 where
  rest : List Frame
  front : world_queue place.direction f.channel ≡ frame w.time octets ∷ rest
  used : IsUsed (receiver place.direction f.channel).port m (follower_state place w f) after

module _ (p : SettlingParams) (settled longest : ℕ) (w : WorldState) (is : IsSettledFrom p settled longest w)
    (place : LinkPlace)
    (f : IsFollower place w) (link : ℕ) (direction : Direction) (octets : List ℕ) (draws : List Draw)
    (answer : Option Answer) (w' : WorldState) (d : Delivers link direction octets w draws answer w')
    (named : follower_clock place w f ≡ (receiver direction d.channel).clock) (m : FollowUpFields)
    (reads : Reads octets (messages.FollowUp m)) (after : Station)
    (there : slice_get w'.stations place.answering ≡ Some after) where
  abbrev port : ℕ
  port = (receiver direction d.channel).port

  place_is : place.answering ≡ d.place
  place_is =
      is.world.sound.wired.clocks place.answering d.place f.own.station d.station f.own.here d.there
      (f.own.named ∙ named ∙ sym d.is_end)

  slave_port : is_slave_at (follower_state place w f) port ≡ true → (receiver place.direction f.channel).port ≡ port
  slave_port is_slave =
      eqb-true (receiver place.direction f.channel).port port
      (sym (ap (λ o. option_map_or (λ q. q == port) o false) (slave_is p settled longest w is place f)) ∙ is_slave)

  used_here : answer ≡ Some answers.Used → IsUsedHere w place f octets m after.system
  used_here is_used_here = by answer is_used_here d.hears
    where
      by : (o : Option Answer) → o ≡ Some answers.Used → Hears d.place port octets (record w { net = d.net }) draws o w'
          → IsUsedHere w place f octets m after.system
      by None none failed = absurd (none-some answers.Used none)
      by (Some told) used c =
          let s = c.station.system in
          let one : c.station ≡ f.own.station =
          same_there w.stations d.place c.station f.own.station c.here
          (ap (slice_get w.stations) (sym place_is) ∙ f.own.here) in
          let state : s ≡ follower_state place w f = ap (λ (y : Station). y.system) one in
          let called : Station = in_state c.after c.station in
          let after_is : called ≡ after =
          same_Some called after
          (sym (get-set_same w.stations d.place c.station called c.here)
          ∙ ap (slice_get (slice_set w.stations d.place called)) (sym place_is)
          ∙ ap (λ (v : WorldState). slice_get v.stations place.answering) (sym c.is) ∙ there) in
          let u : IsUsed port m s c.after =
          is_used port m octets w.time s c.after c.sends told (same_Some told answers.Used used) reads c.steps in
          let v : IsUsed port m (follower_state place w f) after.system =
          subst (λ (y : Station). IsUsed port m (follower_state place w f) y.system) after_is
          (subst (λ y. IsUsed port m y c.after) state u) in
          let number = slave_port v.slave in
          let ends : receiver direction d.channel ≡ receiver place.direction f.channel =
          λ i. record { clock = sym named i; port = sym number i } in
          let lane = one_way w is.world.sound is.world.encodable link place.link (other_direction direction)
          (other_direction place.direction) d.channel f.channel d.takes.here f.here
          (ap port_identity_number (sender_opposite direction d.channel ∙ ends
          ∙ sym (sender_opposite place.direction f.channel))) in
          record {
            rest = d.takes.rest;
            front = ap (world_queue place.direction) (sym lane.same_channel)
                ∙ ap (λ way. world_queue way d.channel) (sym (opposite_same direction place.direction lane.same_way))
                ∙ d.takes.front;
            used = subst (λ q. IsUsed q m (follower_state place w f) after.system) (sym number) v;
          }

pub offsets_are_exact : OffsetsAreExact
offsets_are_exact p settled longest link direction w draws done w' place f steps port octets root after offset h k
    tells_it (m, reads) is right carries late is_root there left =
    let once = told_once (port_id (follower_clock place w f) port) (receiver direction k.channel) (Some answers.Used)
    k.answer octets k.octets done tells_it k.told in
    let d = k.delivers in
    let channels = same_there w.net.channels link k.channel d.channel k.here d.takes.here in
    let read : Reads k.octets (messages.FollowUp m) =
    subst (λ o. Reads o (messages.FollowUp m)) once.octets_are reads in
    let here = used_here p settled longest w is place f link direction k.octets draws k.answer w' d
    (once.clock_is ∙ ap (λ c. (receiver direction c).clock) channels) m read after there (sym once.answer_is) in
    exact_of p settled longest w is right carries place f steps h k.octets here.rest here.front m read root is_root
    offset
    (offset_exact p settled longest w is right carries place f steps h k.octets here.rest here.front m read after.system
    here.used late offset left)
