-- How the sequence numbers of a port go on: by one for each Announce and for each Sync that it sends (IEEE 1588-2019,
-- 7.3.7).
use Rattle.std.specs.Prelude.{◌≡◌, ℕ, zero, suc, ◌==◌, Bool, true, false, ◌&&◌, List, Some, slice_get}
use Rattle.gptp_system.specs.declared.port.Port.{Port}
use Rattle.gptp_system.specs.declared.sending.Body.{Body}
use Rattle.gptp_system.specs.declared.sending.Body.TheVariants as bodies
use Rattle.gptp_system.specs.declared.sending.Sending.{Sending}
use Rattle.gptp_system.specs.Sends.{count_such, next_sequence}
use Rattle.gptp_system.specs.State.{SystemState}

abbrev pub is_announce : Body → Bool
is_announce (bodies.Announce announce) = true
is_announce body = false

abbrev pub is_sync : Body → Bool
is_sync bodies.Sync = true
is_sync body = false

-- how many Announces, and how many Syncs, go at a port
abbrev pub announces_at : ℕ → List Sending → ℕ
announces_at p sends = count_such (λ (x : Sending). is_announce x.body && x.port == p) sends

abbrev pub syncs_at : ℕ → List Sending → ℕ
syncs_at p sends = count_such (λ (x : Sending). is_sync x.body && x.port == p) sends

-- the sequence number that comes this many later
abbrev pub sequence_after : ℕ → ℕ → ℕ
sequence_after zero n = n
sequence_after (suc k) n = sequence_after k (next_sequence n)

-- port p sent these, and counted them
pub record CountsSent (p : ℕ) (sends : List Sending) (q q' : Port) : Type 0 where
  pub announces : q'.announces ≡ sequence_after (announces_at p sends) q.announces
  pub syncs : q'.syncs ≡ sequence_after (syncs_at p sends) q.syncs

-- every port sent these and counted them, from the new state back to the old; the port at place i has the number i + 1
abbrev pub AreCounted : SystemState → SystemState → List Sending → Type 0
AreCounted s s' sends = (i : ℕ) (q' : Port) → slice_get s'.ports i ≡ Some q'
    → (q : Port) × (slice_get s.ports i ≡ Some q) × CountsSent (suc i) sends q q'
