-- What a step of a system sends is frames.
use Rattle.std.proofs.Common.{◌≡◌, ◌⊎◌, ◌+◌, ℕ, ℤ, pos, Bool, true, false, List, [], ◌∷◌, Option, Some, None, FitsSigned, w8, refl, sym, subst, inl, inr, arith}
use Rattle.std.specs.Prelude.{if◌then◌else◌}
use Rattle.gptp_lists.specs.Members.{In}
use Rattle.gptp_correction.specs.declared.correction.Relayed.{Relayed}
use Rattle.gptp_correction.specs.declared.sync_in.SyncInfo.{SyncInfo}
use Rattle.gptp_correction.specs.Correction.{relayed}
use Rattle.gptp_pdelay.specs.declared.answer.Answer.{Answer as Owed}
use Rattle.gptp_receipt.specs.declared.held.Held.{Held}
use Rattle.gptp_setup.specs.declared.timer.Timer.TheVariants as timers
use Rattle.gptp_setup.specs.SettlingParams.{has_sync_timeout}
use Rattle.gptp_system.specs.declared.answer.Answer.{Answer}
use Rattle.gptp_system.specs.declared.port.Port.{Port}
use Rattle.gptp_system.specs.declared.sending.Body.{Body}
use Rattle.gptp_system.specs.declared.sending.Body.TheVariants as bodies
use Rattle.gptp_system.specs.declared.sending.Sending.{Sending}
use Rattle.gptp_system.specs.Facts.{IsSystem}
use Rattle.gptp_system.specs.Input.{Input, IsTimely, Steps, PortUp, PortDown, Frame, Expires, Priority}
use Rattle.gptp_system.specs.Measuring.{owed_at, request_of, RespondsIf}
use Rattle.gptp_system.specs.Messages.{message_kind, AllAre, Announcing, AsksOnce}
use Rattle.gptp_system.specs.Reacts.{IsAnnounce}
use Rattle.gptp_system.specs.Sends.{pdelay_response, response_follow_up}
use Rattle.gptp_system.specs.State.{clock, is_mine, own, SystemState}
use Rattle.gptp_system.specs.Syncing.{follow_up_of, hop_of, is_leading, own_time, sync_of, syncs, told_by, RelaysBy, RelaysIf, SyncsIf}
use Rattle.gptp_system.proofs.AnswerLemmas.{steps_react}
use Rattle.gptp_system.proofs.SendLemmas.{with_send-from}
use Rattle.gptp_system.proofs.SentLemmas.{steps_send}
use Rattle.gptp_model.specs.Sends.{written}
use Rattle.gptp_determinism.specs.GoingOn.{AreOfFrame}
use Rattle.gptp_determinism.proofs.FrameLemmas.{log_fits, own_writable, writable_frame, IsSourced, IsWritable}

-- ---- intervals

-- a message that announces is an Announce
announces : (body : Body) → message_kind body ≡ Announcing → IsAnnounce body
announces (bodies.Announce body) is = (body, refl)
announces bodies.Sync is = absurd cc
announces (bodies.FollowUp origin rate) is = absurd cc
announces bodies.PdelayReq is = absurd cc
announces (bodies.PdelayResp stamp requester) is = absurd cc
announces (bodies.PdelayRespFollowUp stamp requester) is = absurd cc

-- it is an Announce, or names an interval that fits its octet
abbrev IsFine : Sending → Type 0
IsFine x = IsAnnounce x.body ⊎ FitsSigned w8 x.head.log_interval

-- what announces, nothing, what asks and what answers can be written as frames
announcing_fine : (sends : List Sending) → AllAre Announcing sends → (x : Sending) → In x sends → IsFine x
announcing_fine sends all x member = inl (announces x.body (all x member))

silent_fine : (sends : List Sending) → sends ≡ [] → (x : Sending) → In x sends → IsFine x
silent_fine sends none x member = absurd (subst (In x) none member)

asking_fine : (s : SystemState) (p : ℕ) (sends : List Sending) → IsSystem s → AsksOnce s p sends → (x : Sending)
    → In x sends → IsFine x
asking_fine s p sends is k x member =
    by (with_send-from (request_of p s) x k.announces (subst (In x) k.is member))
  where
    by : (x ≡ request_of p s) ⊎ In x k.announces → IsFine x
    by (inl same) =
        inr (subst (λ (y : Sending). FitsSigned w8 y.head.log_interval) (sym same)
        (log_fits s.params.pdelay is.ready.params.pdelay))
    by (inr among) = announcing_fine k.announces k.all x among

-- responses name the interval that says that there is none
none_fits : FitsSigned w8 (pos 0x7F)
none_fits = record { sfits = omega arith }

responding_fine : (owed : Option Owed) (p now : ℕ) (s : SystemState) (sends : List Sending)
    → RespondsIf owed p now s sends → (x : Sending) → In x sends → IsFine x
responding_fine None p now s sends none x member = silent_fine sends none x member
responding_fine (Some owed) p now s sends k x member = by (subst (In x) k.sends_are member)
  where
    first : Sending
    first = pdelay_response (own s p) owed k.came k.came-rest

    second : Sending
    second = response_follow_up (own s p) owed k.went k.went-rest

    by : In x (first ∷ second ∷ []) → IsFine x
    by (inl here) = inr (subst (λ (y : Sending). FitsSigned w8 y.head.log_interval) (sym here) none_fits)
    by (inr (inl here)) = inr (subst (λ (y : Sending). FitsSigned w8 y.head.log_interval) (sym here) none_fits)
    by (inr (inr later)) = absurd later

-- what tells time names the one interval
syncs_logs : (number : ℕ) (log : ℤ) (told : Relayed) (p : ℕ) (hs : List Held) (qs : List Port) (x : Sending)
    → In x (syncs number log told p hs qs) → x.head.log_interval ≡ log
syncs_logs number log told p [] qs x member = absurd member
syncs_logs number log told p (h ∷ hs) [] x member = absurd member
syncs_logs number log told p (h ∷ hs) (q ∷ qs) x member =
    by (is_mine h) (syncs_logs number log told (p + 1) hs qs x) member
  where
    sync : Sending
    sync = sync_of (record { clock = number; port = p }) log q

    follow_up : Sending
    follow_up = follow_up_of (record { clock = number; port = p }) log told q

    rest : List Sending
    rest = syncs number log told (p + 1) hs qs

    by : (b : Bool) → (In x rest → x.head.log_interval ≡ log) → In x (if b then sync ∷ follow_up ∷ rest else rest)
        → x.head.log_interval ≡ log
    by true ih (inl here) = rw here refl
    by true ih (inr (inl here)) = rw here refl
    by true ih (inr (inr later)) = ih later
    by false ih later = ih later

-- what the Sync timer and the Relay timer send can be written as frames
telling_fine : (s : SystemState) (told : Relayed) (sends : List Sending) → IsSystem s → sends ≡ told_by told s
    → (x : Sending) → In x sends → IsFine x
telling_fine s told sends is are x member =
    let log = syncs_logs (clock s) s.params.sync told 1 s.held s.ports x (subst (In x) are member) in
    inr (subst (FitsSigned w8) (sym log) (log_fits s.params.sync is.ready.params.sync))

syncing_fine : (b : Bool) (now : ℕ) (s t : SystemState) (sends : List Sending) → IsSystem s → SyncsIf b now s t sends
    → (x : Sending) → In x sends → IsFine x
syncing_fine true now s t sends is k = telling_fine s (own_time k.stamp k.rest) sends is k.sends_are
syncing_fine false now s t sends is k = silent_fine sends k.silent

relaying_by_fine : (b : Bool) (info : SyncInfo) (now : ℕ) (s t : SystemState) (sends : List Sending) → IsSystem s
    → RelaysBy b info now s t sends → (x : Sending) → In x sends → IsFine x
relaying_by_fine true info now s t sends is k = telling_fine s k.told sends is k.sends_are
relaying_by_fine false info now s t sends is (inl k) =
    telling_fine s (relayed info (hop_of info now s)) sends is k.sends_are
relaying_by_fine false info now s t sends is (inr k) = silent_fine sends k.becomes.silent

relaying_fine : (known : Option SyncInfo) (now : ℕ) (s t : SystemState) (sends : List Sending) → IsSystem s
    → RelaysIf known now s t sends → (x : Sending) → In x sends → IsFine x
relaying_fine None now s t sends is k = silent_fine sends k.silent
relaying_fine (Some info) now s t sends is k = relaying_by_fine (has_sync_timeout s.params) info now s t sends is k

-- all that a step sends can be written as frames
steps_fine : (input : Input) (now : ℕ) (s t : SystemState) (sends : List Sending) (answer : Answer) → IsSystem s
    → IsTimely s now input → Steps input now s t sends answer → (x : Sending) → In x sends → IsFine x
steps_fine (PortUp p) now s t sends answer is timely k =
    asking_fine s p sends is (steps_send (PortUp p) now s t sends answer timely k)
steps_fine (PortDown p) now s t sends answer is timely k =
    announcing_fine sends (steps_send (PortDown p) now s t sends answer timely k)
steps_fine (Frame p octets) now s t sends answer is timely k =
    announcing_fine sends (steps_send (Frame p octets) now s t sends answer timely k)
steps_fine (Expires (timers.Announce p)) now s t sends answer is timely k =
    announcing_fine sends (steps_send (Expires (timers.Announce p)) now s t sends answer timely k)
steps_fine (Expires (timers.Age p)) now s t sends answer is timely k =
    announcing_fine sends (steps_send (Expires (timers.Age p)) now s t sends answer timely k)
steps_fine (Expires (timers.Pdelay p)) now s t sends answer is timely k =
    asking_fine s p sends is (steps_send (Expires (timers.Pdelay p)) now s t sends answer timely k)
steps_fine (Expires (timers.Respond p)) now s t sends answer is timely k =
    responding_fine (owed_at s p) p now s sends
    (steps_send (Expires (timers.Respond p)) now s t sends answer timely k)
steps_fine (Expires timers.Sync) now s t sends answer is timely k = syncing_fine (is_leading s) now s t sends is k
steps_fine (Expires timers.Relay) now s t sends answer is timely k = relaying_fine s.known now s t sends is k
steps_fine (Expires timers.Lapse) now s t sends answer is timely k =
    announcing_fine sends (steps_send (Expires timers.Lapse) now s t sends answer timely k)
steps_fine (Priority value) now s t sends answer is timely k =
    announcing_fine sends (steps_send (Priority value) now s t sends answer timely k)

-- ---- frames

-- what a step sends is frames, as the system writes them once it has taken it
pub steps_frames : (input : Input) (now : ℕ) (s t : SystemState) (sends : List Sending) (answer : Answer) → IsSystem s
    → IsSystem t → IsTimely s now input → Steps input now s t sends answer → (x : Sending) → In x sends
    → AreOfFrame (written t x)
steps_frames input now s t sends answer is after timely k x member =
    writable_frame t x after (by (steps_fine input now s t sends answer is timely k x member))
  where
    its : IsAnnounce x.body → IsWritable x
    its announce =
        own_writable t x after
        ((steps_react input now s t sends answer timely is.shown is.rest k).reacts.tells x member announce)

    sourced : (body : Body) → x.body ≡ body → FitsSigned w8 x.head.log_interval → IsWritable x
    sourced (bodies.Announce body) same fits = its (body, same)
    sourced bodies.Sync same fits = record { log = fits; source = subst IsSourced (sym same) tt }
    sourced (bodies.FollowUp origin rate) same fits = record { log = fits; source = subst IsSourced (sym same) tt }
    sourced bodies.PdelayReq same fits = record { log = fits; source = subst IsSourced (sym same) tt }
    sourced (bodies.PdelayResp stamp requester) same fits =
        record { log = fits; source = subst IsSourced (sym same) tt }
    sourced (bodies.PdelayRespFollowUp stamp requester) same fits =
        record { log = fits; source = subst IsSourced (sym same) tt }

    by : IsAnnounce x.body ⊎ FitsSigned w8 x.head.log_interval → IsWritable x
    by (inl announce) = its announce
    by (inr fits) = sourced x.body refl fits
