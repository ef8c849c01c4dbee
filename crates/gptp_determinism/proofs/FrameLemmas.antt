-- What a system sends is octets, and no more of them than the longest frame has.
use Rattle.std.proofs.Common.{◌≡◌, ◌<◌, ◌≤◌, ◌+◌, ◌/◌, ◌^◌, ℕ, zero, suc, ℤ, Bool, true, false, ltb, ◌&&◌, List, [], ◌∷◌, ◌++◌, length, Option, Some, None, FitsSigned, w8, w16, w32, w64, refl, sym, ap, subst, arith}
use Rattle.std.specs.Prelude.{⊤, if◌then◌else◌}
use Rattle.std.specs.Int.{byte_at, cast_unsigned}
use Rattle.std.proofs.Math.Facts.{Fits-of_z}
use Rattle.std.proofs.lemmas.Bool.{and_parts, ltb-true}
use Rattle.std.proofs.lemmas.Int.{ints}
use Rattle.std.proofs.lemmas.List.{length-append}
use Rattle.std.proofs.lemmas.Nat.{mod_below}
use Rattle.std.proofs.lemmas.Option.{slice_get_within}
use Rattle.byteorder.specs.Endian.{big_bytes}
use Rattle.gptp_lists.proofs.PlaceLemmas.{member_there}
use Rattle.gptp_vector.specs.declared.port.PortId.{PortId}
use Rattle.gptp_scaled.specs.Stamp.{Timestamp}
use Rattle.gptp_messages.specs.declared.announce.AnnounceBody.{AnnounceBody}
use Rattle.gptp_messages.specs.declared.head.Head.{Head}
use Rattle.gptp_messages.specs.Announce.{path_trace, written_announce, written_body}
use Rattle.gptp_messages.specs.FollowUp.{information_tlv, written_follow_up, written_sync}
use Rattle.gptp_messages.specs.Frame.{written_port}
use Rattle.gptp_messages.specs.Grammar.{Written}
use Rattle.gptp_messages.specs.Path.{path_octets}
use Rattle.gptp_messages.specs.PeerDelay.{written_request, written_response}
use Rattle.gptp_messages.specs.Timestamp.{written_stamp}
use Rattle.gptp_messages.specs.Tlv.{Tlv, spelled}
use Rattle.gptp_messages.proofs.WrittenLemmas.{length-written_announce}
use Rattle.gptp_receipt.specs.declared.held.Held.{Held}
use Rattle.gptp_receipt.specs.declared.held.Held.TheVariants as helds
use Rattle.gptp_roles.specs.SystemTrace.{path_received, slave_path, system_trace, SlaveReceived}
use Rattle.gptp_setup.specs.Intervals.{IsLog}
use Rattle.gptp_system.specs.declared.port.Port.{Port}
use Rattle.gptp_system.specs.declared.sending.Body.{Body}
use Rattle.gptp_system.specs.declared.sending.Body.TheVariants as bodies
use Rattle.gptp_system.specs.declared.sending.Sending.{Sending}
use Rattle.gptp_system.specs.Facts.{IsSystem}
use Rattle.gptp_system.specs.Ready.{IsReadyPort}
use Rattle.gptp_system.specs.Reacts.{IsOwnAnnounce}
use Rattle.gptp_system.specs.Sends.{announcement, sent_message}
use Rattle.gptp_system.specs.State.{clock, own, trace, SystemState}
use Rattle.gptp_system.proofs.SystemLemmas.{system_slave}
use Rattle.gptp_model.specs.Sends.{written}
use Rattle.gptp_theorem.proofs.SettlingInvariantLemmas.{each_there}
use Rattle.gptp_determinism.specs.GoingOn.{AllAreOctets, AreOfFrame}

-- ---- octets

-- each octet of a number is one
octet_below : (k x : ℕ) → byte_at k x < 256
octet_below zero x = mod_below x 256 (omega arith)
octet_below (suc k) x = mod_below (x / 256 ^ suc k) 256 (omega arith)

number_octets : (n x : ℕ) → AllAreOctets (big_bytes n x)
number_octets zero x = tt
number_octets (suc n) x = (octet_below n x, number_octets n x)

-- octets after octets
joined : (xs ys : List ℕ) → AllAreOctets xs → AllAreOctets ys → AllAreOctets (xs ++ ys)
joined [] ys front back = back
joined (x ∷ xs) ys front back = (front.0, joined xs ys front.1 back)

-- numbers that a test finds to be octets
abbrev are_small : List ℕ → Bool
are_small [] = true
are_small (x ∷ xs) = ltb x 256 && are_small xs

small_octets : (xs : List ℕ) → are_small xs ≡ true → AllAreOctets xs
small_octets [] is = tt
small_octets (x ∷ xs) is =
    let parts = and_parts (ltb x 256) (are_small xs) is in (ltb-true x 256 parts.0, small_octets xs parts.1)

-- ---- parts of messages

-- what is written of the parts of a message is octets
flag_octet : (two_step : Bool) → (if two_step then 2 else 0) < 256
flag_octet true = omega arith
flag_octet false = omega arith

-- an interval that fits its octet
interval_octet : (log : ℤ) → FitsSigned w8 log → cast_unsigned w8 log < 256
interval_octet log fits = (Fits-of_z fits).fits

port_octets : (p : PortId) → AllAreOctets (written_port p)
port_octets p = joined (big_bytes 8 p.clock) (big_bytes 2 p.port) (number_octets 8 p.clock) (number_octets 2 p.port)

stamp_octets : (t : Timestamp) → AllAreOctets (written_stamp t)
stamp_octets t =
    joined (big_bytes 6 t.seconds) (big_bytes 4 t.nanos) (number_octets 6 t.seconds) (number_octets 4 t.nanos)

tlv_octets : (t : Tlv) → AllAreOctets t.value → AllAreOctets (spelled t)
tlv_octets t value =
    joined (big_bytes 2 t.tlv_type ++ big_bytes 2 (length t.value)) t.value
    (joined (big_bytes 2 t.tlv_type) (big_bytes 2 (length t.value)) (number_octets 2 t.tlv_type)
    (number_octets 2 (length t.value))) value

path_octets_are : (path : List ℕ) → AllAreOctets (path_octets path)
path_octets_are [] = tt
path_octets_are (c ∷ path) = joined (big_bytes 8 c) (path_octets path) (number_octets 8 c) (path_octets_are path)

-- a message whose first octet is this, as it is written
abbrev message_from : ℕ → Head → List ℕ → List ℕ
message_from first h behind =
    (first ∷ 0x12 ∷ big_bytes 2 (34 + length behind))
    ++ (0 ∷ 0 ∷ (if h.two_step then 2 else 0) ∷ 8 ∷ big_bytes 8 (cast_unsigned w64 h.correction))
    ++ (0 ∷ 0 ∷ 0 ∷ 0 ∷ written_port h.source)
    ++ big_bytes 2 h.sequence
    ++ (0 ∷ cast_unsigned w8 h.log_interval ∷ [])
    ++ behind

message_octets : (first : ℕ) (h : Head) (behind : List ℕ) → first < 256 → FitsSigned w8 h.log_interval
    → AllAreOctets behind → AllAreOctets (message_from first h behind)
message_octets first h behind first_octet fits are =
    let front : List ℕ = first ∷ 0x12 ∷ big_bytes 2 (34 + length behind) in
    let second : List ℕ =
    0 ∷ 0 ∷ (if h.two_step then 2 else 0) ∷ 8 ∷ big_bytes 8 (cast_unsigned w64 h.correction) in
    let third : List ℕ = 0 ∷ 0 ∷ 0 ∷ 0 ∷ written_port h.source in
    let fourth : List ℕ = big_bytes 2 h.sequence in
    let fifth : List ℕ = 0 ∷ cast_unsigned w8 h.log_interval ∷ [] in
    let zero_octet : 0 < 256 = omega arith in
    let version_octet : 0x12 < 256 = omega arith in
    let scale_octet : 8 < 256 = omega arith in
    let front_are : AllAreOctets front = (first_octet, (version_octet, number_octets 2 (34 + length behind))) in
    let second_are : AllAreOctets second = (
      zero_octet,
      (zero_octet, (flag_octet h.two_step, (scale_octet, number_octets 8 (cast_unsigned w64 h.correction)))),
    ) in
    let third_are : AllAreOctets third =
    (zero_octet, (zero_octet, (zero_octet, (zero_octet, port_octets h.source)))) in
    let fifth_are : AllAreOctets fifth = (zero_octet, (interval_octet h.log_interval fits, tt)) in
    joined front (second ++ (third ++ (fourth ++ (fifth ++ behind)))) front_are
    (joined second (third ++ (fourth ++ (fifth ++ behind))) second_are
    (joined third (fourth ++ (fifth ++ behind)) third_are
    (joined fourth (fifth ++ behind) (number_octets 2 h.sequence) (joined fifth behind fifth_are are))))

body_octets : (b : AnnounceBody) → b.time_source < 256 → AllAreOctets (written_body b)
body_octets b source =
    let first : List ℕ = 0 ∷ 0 ∷ 0 ∷ 0 ∷ 0 ∷ 0 ∷ 0 ∷ 0 ∷ 0 ∷ 0 ∷ [] in
    let offset : List ℕ = big_bytes 2 (cast_unsigned w16 b.utc_offset) in
    let root : List ℕ = 0 ∷ big_bytes 14 b.root in
    let steps : List ℕ = big_bytes 2 b.steps in
    let last : List ℕ = b.time_source ∷ [] in
    let zero_octet : 0 < 256 = omega arith in
    let root_are : AllAreOctets root = (zero_octet, number_octets 14 b.root) in
    let last_are : AllAreOctets last = (source, tt) in
    joined first (offset ++ (root ++ (steps ++ last))) (small_octets first refl)
    (joined offset (root ++ (steps ++ last)) (number_octets 2 (cast_unsigned w16 b.utc_offset))
    (joined root (steps ++ last) root_are (joined steps last (number_octets 2 b.steps) last_are)))

rate_octets : (rate : ℤ) → AllAreOctets (information_tlv rate).value
rate_octets rate =
    let first : List ℕ = 0x00 ∷ 0x80 ∷ 0xC2 ∷ 0x00 ∷ 0x00 ∷ 0x01 ∷ [] in
    let middle : List ℕ = big_bytes 4 (cast_unsigned w32 rate) in
    let last : List ℕ =
    0 ∷ 0 ∷ 0 ∷ 0 ∷ 0 ∷ 0 ∷ 0 ∷ 0 ∷ 0 ∷ 0 ∷ 0 ∷ 0 ∷ 0 ∷ 0 ∷ 0 ∷ 0 ∷ 0 ∷ 0 ∷ [] in
    joined first (middle ++ last) (small_octets first refl)
    (joined middle last (number_octets 4 (cast_unsigned w32 rate)) (small_octets last refl))

-- ---- messages

-- the timeSource of an Announce is an octet
abbrev pub IsSourced : Body → Type 0
IsSourced (bodies.Announce body) = body.time_source < 256
IsSourced body = ⊤

-- what is written as one octet of a message is one
pub record IsWritable (x : Sending) : Type 0 where
  pub log : FitsSigned w8 x.head.log_interval
  pub source : IsSourced x.body

-- a message with such fields is octets
spelled_octets : (path : List ℕ) (head : Head) (body : Body) → FitsSigned w8 head.log_interval → IsSourced body
    → AllAreOctets (Written (sent_message path head body))
spelled_octets path head (bodies.Announce body) fits source =
    message_octets 0x1B head (written_announce body path) (omega arith) fits
    (joined (written_body body) (spelled (path_trace path)) (body_octets body source)
    (tlv_octets (path_trace path) (path_octets_are path)))
spelled_octets path head bodies.Sync fits source =
    message_octets 0x10 head written_sync (omega arith) fits (small_octets written_sync refl)
spelled_octets path head (bodies.FollowUp origin rate) fits source =
    message_octets 0x18 head (written_follow_up origin rate) (omega arith) fits
    (joined (written_stamp origin) (spelled (information_tlv rate)) (stamp_octets origin)
    (tlv_octets (information_tlv rate) (rate_octets rate)))
spelled_octets path head bodies.PdelayReq fits source =
    message_octets 0x12 head written_request (omega arith) fits (small_octets written_request refl)
spelled_octets path head (bodies.PdelayResp stamp requester) fits source =
    message_octets 0x13 head (written_response stamp requester) (omega arith) fits
    (joined (written_stamp stamp) (written_port requester) (stamp_octets stamp) (port_octets requester))
spelled_octets path head (bodies.PdelayRespFollowUp stamp requester) fits source =
    message_octets 0x1A head (written_response stamp requester) (omega arith) fits
    (joined (written_stamp stamp) (written_port requester) (stamp_octets stamp) (port_octets requester))

-- and is short, where its path is
spelled_short : (path : List ℕ) (head : Head) (body : Body) → length path ≤ 256
    → length (Written (sent_message path head body)) ≤ 2116
spelled_short path head (bodies.Announce body) few =
    let size = length-written_announce head body path in omega arith
spelled_short path head bodies.Sync few = omega arith
spelled_short path head (bodies.FollowUp origin rate) few = omega arith
spelled_short path head bodies.PdelayReq few = omega arith
spelled_short path head (bodies.PdelayResp stamp requester) few = omega arith
spelled_short path head (bodies.PdelayRespFollowUp stamp requester) few = omega arith

-- the path of a system is no longer than a trace
trace_short : (held : List Held) (slave : Option ℕ) (number : ℕ) → SlaveReceived held slave
    → length (system_trace number held slave) ≤ 256
trace_short held None number k = omega arith
trace_short held (Some port) number (r, first, is, short) =
    let same : slave_path held (Some port) ≡ r.path = ap path_received is in
    let long : length (slave_path held (Some port)) ≡ length r.path = ap length same in
    let size = length-append (slave_path held (Some port)) (number ∷ []) in
    omega arith

-- what a system sends that can be written is a frame
pub writable_frame : (s : SystemState) (x : Sending) → IsSystem s → IsWritable x → AreOfFrame (written s x)
writable_frame s x is can = (
  spelled_octets (trace s) x.head x.body can.log can.source,
  spelled_short (trace s) x.head x.body (trace_short s.held s.slave (clock s) (system_slave s is)),
)

-- ---- intervals

-- an announce interval fits its octet
pub log_fits : (log : ℤ) → IsLog log → FitsSigned w8 log
log_fits log is = let low = is.low in let high = is.high in omega (arith, ints)

-- a system's own Announce can be written
pub own_writable : (s : SystemState) (x : Sending) → IsSystem s → IsOwnAnnounce s x → IsWritable x
own_writable s x is k =
    let places = is.shown.places in
    let inside = slice_get_within s.held k.place (helds.Mine s.root s.steps) k.holds in
    let within : k.place < length s.ports = omega arith in
    let (q, there) = member_there s.ports k.place within in
    let log : IsLog k.port.log_interval =
    subst IsLog (k.log q there) (each_there IsReadyPort s.ports is.ready.ports k.place q there).log_interval in
    subst IsWritable (sym k.is) (own_fits s k.place k.port log)
  where
    own_fits : (t : SystemState) (place : ℕ) (port : Port) → IsLog port.log_interval
        → IsWritable (announcement (own t (suc place)) t.root t.steps port)
    own_fits t place port log = record { log = log_fits port.log_interval log; source = omega arith }
