-- What a system gives for what it reads is what it reads.
use Rattle.std.proofs.Common.{◌≡◌, ℤ, Option, Some, None, ap}
use Rattle.std.specs.Option.{option_and_then, option_map}
use Rattle.std.proofs.lemmas.Option.{same_Some}
use Rattle.gptp_correction.specs.declared.sync_in.SyncInfo.{SyncInfo}
use Rattle.gptp_system.specs.Reading.{read_at}
use Rattle.gptp_system.specs.State.{SystemState, local_time}
use Rattle.gptp_system.specs.declared.reading.Reading.{Reading}
use Rattle.gptp_system.specs.Syncing.{reading_by}
use Rattle.gptp_reading.specs.ReadingLaws.{HeldIsRead}

-- by what is known, and by the offset
read_by : (s : SystemState) (shown : ℤ) (r : Reading) (known : Option SyncInfo) (offset : Option ℤ)
    → option_and_then (λ k. option_map (λ o. reading_by s k o) offset) known ≡ Some r
    → option_and_then (λ k. option_map (λ o. read_at (reading_by s k o) shown) offset) known ≡ Some (read_at r shown)
read_by s shown r None offset is = absurd cc
read_by s shown r (Some k) None is = absurd cc
read_by s shown r (Some k) (Some o) is =
    ap (λ (held : Reading). Some (read_at held shown)) (same_Some (reading_by s k o) r is)

pub held_is_read : HeldIsRead
held_is_read s time r is = read_by s (local_time s time) r s.known s.offset is
