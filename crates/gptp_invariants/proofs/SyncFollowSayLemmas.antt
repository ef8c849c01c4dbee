-- What a system tells of time at one of its ports: a Sync and its Follow_Up, which says what is told, or nothing.
use Rattle.std.proofs.Common.{◌≡◌, ◌≢◌, ◌⊎◌, ◌<◌, ℕ, zero, suc, ℤ, Bool, true, false, List, [], ◌∷◌, ◌++◌, map, Option, Some, None, slice_get, refl, sym, ap, subst, ◌∙◌, inl, inr, arith}
use Rattle.std.proofs.lemmas.List.{append-nil}
use Rattle.gptp_lists.specs.Members.{In}
use Rattle.gptp_graph.specs.Snapshot.{PortIdentity}
use Rattle.gptp_vector.specs.declared.port.PortId.{PortId}
use Rattle.gptp_messages.specs.Frame.{PortFits}
use Rattle.gptp_messages.specs.declared.follow_up.FollowUp.{FollowUp as FollowUpFields}
use Rattle.gptp_messages.specs.declared.message.Message.TheVariants as messages
use Rattle.gptp_messages.specs.Grammar.{Reads, Written}
use Rattle.gptp_messages.specs.Head.{head_of}
use Rattle.gptp_links.specs.Queue.{Frame}
use Rattle.gptp_receipt.specs.declared.held.Held.{Held}
use Rattle.gptp_correction.specs.declared.correction.Relayed.{Relayed}
use Rattle.gptp_correction.specs.declared.sync_in.SyncInfo.{SyncInfo}
use Rattle.gptp_setup.specs.declared.timer.Timer.{Timer}
use Rattle.gptp_setup.specs.declared.timer.Timer.TheVariants as timers
use Rattle.gptp_setup.specs.SettlingParams.{has_sync_timeout}
use Rattle.gptp_bmca_machine.specs.Frame.{SyncId}
use Rattle.gptp_system.specs.declared.answer.Answer.{Answer}
use Rattle.gptp_system.specs.declared.port.Port.{Port}
use Rattle.gptp_system.specs.declared.sending.Sending.{Sending}
use Rattle.gptp_system.specs.Input.{Steps, Expires, Frame as FrameHeard}
use Rattle.gptp_system.specs.Measuring.{owed_at}
use Rattle.gptp_system.specs.Messages.{AllAre, Announcing, AreSent, Telling, message_kind}
use Rattle.gptp_system.specs.State.{SystemState, clock, is_mine, own, trace}
use Rattle.gptp_system.specs.Syncing.{IsRelayed, IsSentOn, LeadsTime, RelaysBy, RelaysIf, SyncsIf, follow_up_of, is_leading, sync_of, syncs as all_syncs, told_by}
use Rattle.gptp_pdelay_machine.specs.Lanes.{AreMute}
use Rattle.gptp_sync_machine.specs.Acts.{SendsTime}
use Rattle.gptp_sync_machine.specs.Messages.{FollowUp, Message, Sync}
use Rattle.gptp_invariants.specs.SyncFollowView.{tells}
use Rattle.gptp_invariants.specs.DelayLinkView.{link_frame_view}
use Rattle.gptp_invariants.specs.ChoiceSaid.{said_at}
use Rattle.gptp_invariants.specs.ChoiceView.{port_identity_number}
use Rattle.gptp_invariants.proofs.SyncFollowOctetLemmas.{TellsFollowUp, ToldFits, tells_follow_up, tells_sync, timeless_tells, told_as_written}
use Rattle.gptp_invariants.proofs.DelaySentLemmas.{first_news, mute_news, octets_of, said_from}
use Rattle.gptp_invariants.proofs.SyncOctetLemmas.{follow_up_said, sync_said, timeless}
use Rattle.gptp_invariants.proofs.SyncSaidLemmas.{asks_no_time, none_before, pair_at, pair_if, responds_no_time, said_there}

-- ---- nothing

-- octets that aren't told of time tell nothing
abbrev pub NoneTells : List (List ℕ) → Type 0
NoneTells all = (octets : List ℕ) → In octets all → (m : Message) → tells octets m → ⊥

pub none_mute : (news : List Frame) (all : List (List ℕ)) → octets_of news ≡ all → NoneTells all
    → AreMute tells (map link_frame_view news)
none_mute news all is none = mute_news tells news (λ octets member. none octets (subst (In octets) is member))

pub said_tells_none : (s' : SystemState) (port : PortId) (sends : List Sending)
    → ((x : Sending) → In x sends → message_kind x.body ≢ Telling) → NoneTells (said_at s' port sends)
said_tells_none s' port sends other octets member m told =
    let (x, among, from, is) = said_from s' port sends octets member in
    timeless_tells (Written _) (timeless (trace s') x.head x.body (other x among)) m
    (subst (λ o. tells o m) is told)

announcing : (sends : List Sending) → AllAre Announcing sends → (x : Sending) → In x sends
    → message_kind x.body ≢ Telling
announcing sends all x member kind = let e = all x member in cc

-- what is heard is answered with Announces alone
pub heard_tells_none : (p : ℕ) (octets : List ℕ) (now : ℕ) (s s' : SystemState) (sends : List Sending) (port : PortId)
    → AreSent s now (FrameHeard p octets) sends → NoneTells (said_at s' port sends)
heard_tells_none p octets now s s' sends port sent = said_tells_none s' port sends (announcing sends sent)

-- no other timer than Sync and Relay tells time
pub timer_tells_none : (timer : Timer) (now : ℕ) (s s' : SystemState) (sends : List Sending) (port : PortId)
    → timer ≢ timers.Sync → timer ≢ timers.Relay → AreSent s now (Expires timer) sends
    → NoneTells (said_at s' port sends)
timer_tells_none timer now s s' sends port no_sync no_relay sent =
    said_tells_none s' port sends (by timer no_sync no_relay sent)
  where
    by : (t : Timer) → t ≢ timers.Sync → t ≢ timers.Relay → AreSent s now (Expires t) sends → (x : Sending)
        → In x sends → message_kind x.body ≢ Telling
    by (timers.Announce p) a b k = announcing sends k
    by (timers.Age p) a b k = announcing sends k
    by (timers.Pdelay p) a b k = asks_no_time s p sends k
    by (timers.Respond p) a b k = responds_no_time (owed_at s p) p now s sends k
    by timers.Sync a b k = absurd (a refl)
    by timers.Relay a b k = absurd (b refl)
    by timers.Lapse a b k = announcing sends k

-- ---- a pair

-- a Sync of this port, directly after it its Follow_Up, which reads as what is told where that fits its octets
pub record TellsPair (source : PortIdentity) (told : Relayed) (all : List (List ℕ)) : Type 0 where
  pub sequence : ℕ
  pub sync : List ℕ
  pub follow_up : List ℕ
  pub are : all ≡ sync ∷ follow_up ∷ []
  pub first : tells sync (Sync source sequence)
  pub read : Relayed
  pub second : tells follow_up (FollowUp source sequence read)
  pub exact : ToldFits told → read ≡ told

abbrev pub PairOrNone : PortIdentity → Relayed → List (List ℕ) → Type 0
PairOrNone source told all = TellsPair source told all ⊎ (all ≡ [])

module _ (s' : SystemState) (log : ℤ) (told : Relayed) where
  written_pair : (n : ℕ) (q : Port) → PortFits (own s' n) → told.origin.nanos < 1000000000
      → TellsPair (port_identity_number (own s' n)) told (pair_if s' log told true n q)
  written_pair n q fits small =
      let first = sync_of (own s' n) log q in
      let second = follow_up_of (own s' n) log told q in
      let m : FollowUpFields = record { head = second.head; origin = told.origin; rate = told.rate } in
      let number = (head_of (Written (messages.Sync first.head) ++ [])).sequence in
      let id : SyncId = record { source = port_identity_number (own s' n); sequence = number } in
      let whole : TellsFollowUp (Written (messages.FollowUp m)) id =
      tells_follow_up (Written (messages.FollowUp m)) id (follow_up_said m fits small first.head refl) in
      record {
        sequence = number;
        sync = Written (messages.Sync first.head);
        follow_up = Written (messages.FollowUp m);
        are = refl;
        first = tells_sync (Written (messages.Sync first.head)) id (sync_said first.head fits refl);
        read = whole.told;
        second = whole.tells_it;
        exact = λ room.
            let (other, reads, from, at, is) = whole.tells_it in
            is
            ∙ told_as_written m fits room other
            (subst (λ o. Reads o (messages.FollowUp other)) (sym (append-nil (Written (messages.FollowUp m)))) reads);
      }

  held_pair : (mine : Bool) (n : ℕ) (q : Port) (all : List (List ℕ)) → all ≡ pair_if s' log told mine n q
      → PortFits (own s' n) → told.origin.nanos < 1000000000 → PairOrNone (port_identity_number (own s' n)) told all
  held_pair true n q all is fits small =
      inl (subst (TellsPair (port_identity_number (own s' n)) told) (sym is) (written_pair n q fits small))
  held_pair false n q all is fits small = inr is

  there_pair : (h : Option Held) (q : Option Port) (n : ℕ) (all : List (List ℕ)) → all ≡ pair_at s' log told h q n
      → PortFits (own s' n) → told.origin.nanos < 1000000000 → PairOrNone (port_identity_number (own s' n)) told all
  there_pair None q n all is fits small = inr is
  there_pair (Some h) None n all is fits small = inr is
  there_pair (Some h) (Some q) n all is fits small = held_pair (is_mine h) n q all is fits small

-- so at each port of a system that tells this time
pub told_pair : (s s' : SystemState) (told : Relayed) (sends : List Sending) (n : ℕ) → clock s' ≡ clock s
    → PortFits (own s' n) → told.origin.nanos < 1000000000 → sends ≡ told_by told s
    → PairOrNone (port_identity_number (own s' n)) told (said_at s' (own s' n) sends)
told_pair s s' told sends zero same fits small are =
    inr (ap (said_at s' (own s' zero)) are'
    ∙ none_before s' s.params.sync told zero 1 s.held s.ports (omega arith))
  where
    are' : sends ≡ all_syncs (clock s') s.params.sync told 1 s.held s.ports
    are' = are ∙ ap (λ c. all_syncs c s.params.sync told 1 s.held s.ports) (sym same)
told_pair s s' told sends (suc i) same fits small are =
    there_pair s' s.params.sync told (slice_get s.held i) (slice_get s.ports i) (suc i)
    (said_at s' (own s' (suc i)) sends)
    (ap (said_at s' (own s' (suc i))) are'
    ∙ said_there s' s.params.sync told i (suc i) 1 s.held s.ports (omega arith)) fits small
  where
    are' : sends ≡ all_syncs (clock s') s.params.sync told 1 s.held s.ports
    are' = are ∙ ap (λ c. all_syncs c s.params.sync told 1 s.held s.ports) (sym same)

-- frames of which the octets are a pair send time
pub pair_sends : (source : PortIdentity) (told : Relayed) (news : List Frame)
    → (pair : TellsPair source told (octets_of news))
    → SendsTime tells source pair.sequence pair.read (map link_frame_view news)
pair_sends source told news pair =
    first_news tells (Sync source pair.sequence) _ news [] pair.sync (pair.follow_up ∷ []) pair.are
    (λ o none. absurd none) pair.first
    (λ rest is. first_news tells (FollowUp source pair.sequence pair.read) (AreMute tells) rest [] pair.follow_up [] is
    (λ o none. absurd none) pair.second
    (λ last ends. none_mute last [] ends (λ o none. absurd none)))

-- ---- what is told

-- the Sync timer of a root tells its own time, and any other nothing
pub syncs_tell : (now : ℕ) (s s' : SystemState) (sends : List Sending) (answer : Answer)
    → Steps (Expires timers.Sync) now s s' sends answer
    → ((is_leading s ≡ true) × LeadsTime now s s' sends) ⊎ (sends ≡ [])
syncs_tell now s s' sends answer k = by (is_leading s) refl k
  where
    by : (b : Bool) → is_leading s ≡ b → SyncsIf b now s s' sends
        → ((is_leading s ≡ true) × LeadsTime now s s' sends) ⊎ (sends ≡ [])
    by true is h = inl (is, h)
    by false is h = inr h.silent

-- the Relay timer sends on what is known, or nothing
pub record SendsOn (now : ℕ) (s s' : SystemState) (sends : List Sending) : Type 0 where
  pub info : SyncInfo
  pub known : s.known ≡ Some info
  pub sends_it : IsRelayed info now s s' sends ⊎ IsSentOn info now s s' sends

pub relays_send : (now : ℕ) (s s' : SystemState) (sends : List Sending) (answer : Answer)
    → Steps (Expires timers.Relay) now s s' sends answer → SendsOn now s s' sends ⊎ (sends ≡ [])
relays_send now s s' sends answer k = by s.known refl k
  where
    by : (known : Option SyncInfo) → s.known ≡ known → RelaysIf known now s s' sends
        → SendsOn now s s' sends ⊎ (sends ≡ [])
    by None is h = inr h.silent
    by (Some info) is h = relayed_by (has_sync_timeout s.params) h
      where
        relayed_by : (b : Bool) → RelaysBy b info now s s' sends → SendsOn now s s' sends ⊎ (sends ≡ [])
        relayed_by true sent = inl (record { info = info; known = is; sends_it = inr sent })
        relayed_by false (inl sent) = inl (record { info = info; known = is; sends_it = inl sent })
        relayed_by false (inr dropped) = inr dropped.becomes.silent
