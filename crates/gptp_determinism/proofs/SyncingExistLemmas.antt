-- What the timers of time, a Sync and a Follow_Up make of a system exists.
use Rattle.std.proofs.Common.{ℕ, ℤ, pos, ◌≤ℤ◌, Bool, true, false, List, [], Option, Some, None, refl, inl, inr}
use Rattle.gptp_messages.specs.declared.follow_up.FollowUp.{FollowUp}
use Rattle.gptp_messages.specs.declared.head.Head.{Head}
use Rattle.gptp_scaled.specs.Stamp.{FitsStamp}
use Rattle.gptp_correction.specs.declared.correction.Relayed.{Relayed}
use Rattle.gptp_correction.specs.declared.sync_in.SyncInfo.{SyncInfo}
use Rattle.gptp_correction.specs.Correction.{held_sum, relayed}
use Rattle.gptp_setup.specs.SettlingParams.{has_sync_timeout}
use Rattle.gptp_system.specs.declared.answer.Answer.{Answer}
use Rattle.gptp_system.specs.declared.answer.Answer.TheVariants as answers
use Rattle.gptp_system.specs.declared.sending.Sending.{Sending}
use Rattle.gptp_system.specs.State.{SystemState}
use Rattle.gptp_system.specs.Takeover.{leading, told_stamp, told_time}
use Rattle.gptp_system.specs.Syncing.{as_received, delay_at, forgetting, hop_of, is_followed, keeping, knowing, offset_of, own_time, root_rate_at, refreshing, restarted, said_on, slave_rate, timer_stopped, telling, told_by}
use Rattle.gptp_system.specs.Syncing.{HearsFollowUpIf, HearsSyncIf, HopFits, IsOffset, IsToldAtLimits, KeepsIf, KnowsBy, KnowsIf, OffsetFits, RelaysBy, RelaysIf, SyncsIf}
use Rattle.gptp_determinism.proofs.DecisionLemmas.{bridge_or_not, offset_or_not, Decided}
use Rattle.gptp_determinism.proofs.MeasuringExistLemmas.{becomes_itself, split_exists}

-- ---- timers

-- the Sync timer expires
pub syncs_exists : (on : Bool) (now : ℕ) (s : SystemState) → pos 0 ≤ℤ told_time (leading now s) now
    → FitsStamp (told_stamp (leading now s) now)
    → (t : SystemState) × (sends : List Sending) × SyncsIf on now s t sends
syncs_exists true now s from time =
    let parts = split_exists (told_stamp (leading now s) now) time in (
      telling (restarted now (leading now s)),
      told_by (own_time parts.0 parts.1) s,
      record { stamp = parts.0; rest = parts.1; from = from; split = parts.2; state = refl; sends_are = refl },
    )
syncs_exists false now s from time = (restarted now s, [], becomes_itself (restarted now s))

-- the numbers of a hop fit, or one doesn't
hop_or_not : (info : SyncInfo) (now : ℕ) (s : SystemState) → Decided (HopFits info now s)
hop_or_not info now s = bridge_or_not info (hop_of info now s)

-- what is told by a sum of rates held at its limits
told_if : (info : SyncInfo) (now : ℕ) (s : SystemState) → Decided (HopFits (held_sum info (slave_rate s)) now s)
    → (told : Relayed) × IsToldAtLimits info now s told
told_if info now s (inl fits) =
    let held = held_sum info (slave_rate s) in (relayed held (hop_of held now s), inl (fits, refl))
told_if info now s (inr unfit) = (as_received info, inr (unfit, refl))

-- what fits is sent on, and what doesn't is dropped
relayed_if : (info : SyncInfo) (now : ℕ) (s : SystemState) → Decided (HopFits info now s)
    → (t : SystemState) × (sends : List Sending) × RelaysBy false info now s t sends
relayed_if info now s (inl fits) = (
  telling (timer_stopped s),
  told_by (relayed info (hop_of info now s)) s,
  inl (record { fits = fits; state = refl; sends_are = refl }),
)
relayed_if info now s (inr unfit) =
    (timer_stopped s, [], inr (record { unfit = unfit; becomes = becomes_itself (timer_stopped s) }))

relays_by_exists : (on : Bool) (info : SyncInfo) (now : ℕ) (s : SystemState)
    → (t : SystemState) × (sends : List Sending) × RelaysBy on info now s t sends
relays_by_exists true info now s =
    let told = told_if info now s (hop_or_not (held_sum info (slave_rate s)) now s) in (
      telling (timer_stopped s),
      told_by told.0 s,
      record { told = told.0; told_is = told.1; state = refl; sends_are = refl },
    )
relays_by_exists false info now s = relayed_if info now s (hop_or_not info now s)

-- the Relay timer expires
pub relays_exists : (known : Option SyncInfo) (now : ℕ) (s : SystemState)
    → (t : SystemState) × (sends : List Sending) × RelaysIf known now s t sends
relays_exists None now s = (timer_stopped s, [], becomes_itself (timer_stopped s))
relays_exists (Some info) now s = relays_by_exists (has_sync_timeout s.params) info now s

-- ---- a Sync

keeps_exists : (on : Bool) (head : Head) (now : ℕ) (s : SystemState)
    → (t : SystemState) × (sends : List Sending) × (answer : Answer) × KeepsIf on head now s t sends answer
keeps_exists true head now s = (
  keeping head now s,
  [],
  answers.Used,
  record { becomes = becomes_itself (keeping head now s); answer_is = refl },
)
keeps_exists false head now s =
    (s, [], answers.Ignored, record { becomes = becomes_itself s; answer_is = refl })

pub hears_sync_exists : (on : Bool) (p : ℕ) (head : Head) (now : ℕ) (s : SystemState)
    → (t : SystemState) × (sends : List Sending) × (answer : Answer) × HearsSyncIf on p head now s t sends answer
hears_sync_exists true p head now s = keeps_exists (is_followed p head s) head now s
hears_sync_exists false p head now s =
    (s, [], answers.Disabled, record { becomes = becomes_itself s; answer_is = refl })

-- ---- a Follow_Up

-- how far the own clock is ahead, where that fits
offset_if : (info : SyncInfo) (delay rate : ℤ) → Decided (OffsetFits info delay rate)
    → (offset : Option ℤ) × IsOffset info delay rate offset
offset_if info delay rate (inl fits) = (Some (offset_of info delay rate), inl (fits, refl))
offset_if info delay rate (inr unfit) = (None, inr (unfit, refl))

-- the offset is known where it fits, and what was kept is forgotten otherwise
known_if : (info : SyncInfo) (delay rate : ℤ) (now : ℕ) (s : SystemState) → Decided (OffsetFits info delay rate)
    → (t : SystemState) × (sends : List Sending) × (answer : Answer)
    × KnowsBy false info delay rate now s t sends answer
known_if info delay rate now s (inl fits) =
    let after = knowing info (offset_of info delay rate) rate now s in
    (after, [], answers.Used, inl (record { fits = fits; becomes = becomes_itself after; answer_is = refl }))
known_if info delay rate now s (inr unfit) =
    let after = forgetting s in
    (after, [], answers.Ignored, inr (record { unfit = unfit; becomes = becomes_itself after; answer_is = refl }))

knows_by_exists : (on : Bool) (info : SyncInfo) (delay rate : ℤ) (now : ℕ) (s : SystemState)
    → (t : SystemState) × (sends : List Sending) × (answer : Answer) × KnowsBy on info delay rate now s t sends answer
knows_by_exists true info delay rate now s =
    let ahead = offset_if (held_sum info rate) delay rate (offset_or_not (held_sum info rate) delay rate) in (
      refreshing info ahead.0 rate now s,
      [],
      answers.Used,
      record {
        offset = ahead.0;
        offset_is = ahead.1;
        becomes = becomes_itself (refreshing info ahead.0 rate now s);
        answer_is = refl;
      },
    )
knows_by_exists false info delay rate now s = known_if info delay rate now s (offset_or_not info delay rate)

knows_exists : (said : Option SyncInfo) (delay rate : ℤ) (now : ℕ) (s : SystemState)
    → (t : SystemState) × (sends : List Sending) × (answer : Answer) × KnowsIf said delay rate now s t sends answer
knows_exists None delay rate now s =
    (s, [], answers.Ignored, record { becomes = becomes_itself s; answer_is = refl })
knows_exists (Some info) delay rate now s = knows_by_exists (has_sync_timeout s.params) info delay rate now s

pub hears_follow_up_exists : (on : Bool) (p : ℕ) (m : FollowUp) (now : ℕ) (s : SystemState)
    → (t : SystemState) × (sends : List Sending) × (answer : Answer) × HearsFollowUpIf on p m now s t sends answer
hears_follow_up_exists true p m now s = knows_exists (said_on p m s) (delay_at s p) (root_rate_at s p) now s
hears_follow_up_exists false p m now s =
    (s, [], answers.Disabled, record { becomes = becomes_itself s; answer_is = refl })
