-- Steps that touch no time are steps of what is left of a system without it.
use Rattle.std.proofs.Common.{◌≡◌, ℕ, ℤ, Bool, true, false, List, Option, None, refl, ap, ◌∙◌, inl, inr}
use Rattle.std.specs.Option.{option_map}
use Rattle.gptp_messages.specs.declared.announce.AnnounceView.{AnnounceView}
use Rattle.gptp_messages.specs.declared.head.Head.{Head}
use Rattle.gptp_messages.specs.declared.message.Message.TheVariants as messages
use Rattle.gptp_vector.specs.declared.vector.Vector.{Vector}
use Rattle.gptp_receipt.specs.Held.{comparison}
use Rattle.gptp_pdelay.specs.Peer.{PeerState}
use Rattle.gptp_correction.specs.declared.sync_in.SyncInfo.{SyncInfo}
use Rattle.gptp_system.specs.declared.answer.Answer.{Answer}
use Rattle.gptp_system.specs.declared.sending.Sending.{Sending}
use Rattle.gptp_system.specs.Announcing.{compared, replaces_held}
use Rattle.gptp_system.specs.Measuring.{is_turned, turned, Turns, TurnsAndAsks, TurnsIf}
use Rattle.gptp_system.specs.Selection.{choosing, follows_on, kept_if, Becomes, Selects, SelectsIf}
use Rattle.gptp_system.specs.State.{SystemState, held_at, number, own, with_peer}
use Rattle.gptp_system.specs.Steps.{HearsMessage}
use Rattle.gptp_system.specs.Syncing.{is_followed, keeping, HearsSyncIf, KeepsIf}
use Rattle.gptp_determinism.specs.BesideTime.{beside_time, info_beside}

pub becomes_beside : (s t : SystemState) (sends : List Sending) → Becomes s t sends
    → Becomes (beside_time s) (beside_time t) sends
becomes_beside s t sends k = record { state = ap beside_time k.state; silent = k.silent }

-- what is known is left out before or after selection
known_beside : (same : Bool) (known : Option SyncInfo)
    → option_map info_beside (kept_if same known) ≡ kept_if same (option_map info_beside known)
known_beside true known = refl
known_beside false known = refl

unknown_beside : (same : Bool) → None ≡ kept_if {X = ℤ} same None
unknown_beside true = refl
unknown_beside false = refl

choosing_beside : (v : Vector) (now : ℕ) (s : SystemState)
    → beside_time (choosing v now s) ≡ choosing v now (beside_time s)
choosing_beside v now s =
    let chosen = choosing v now (beside_time s) in
    let left : Option SyncInfo → Option ℤ → SystemState =
    λ known offset. record chosen { known = known; offset = offset } in
    ap (λ (known : Option SyncInfo). left known None) (known_beside (follows_on v s) s.known)
    ∙ ap (λ (offset : Option ℤ). left chosen.known offset) (unknown_beside (follows_on v s))

pub selects_beside : (now : ℕ) (s t : SystemState) (sends : List Sending) → Selects now s t sends
    → Selects now (beside_time s) (beside_time t) sends
selects_beside now s t sends k = record {
  vector = k.vector;
  is_chosen = k.is_chosen;
  state = ap beside_time k.state ∙ choosing_beside k.vector now s;
  sends_are = k.sends_are;
}

selects_if_beside : (selects : Bool) (now : ℕ) (s t : SystemState) (sends : List Sending)
    → SelectsIf selects now s t sends → SelectsIf selects now (beside_time s) (beside_time t) sends
selects_if_beside true now s t sends k = selects_beside now s t sends k
selects_if_beside false now s t sends k = becomes_beside s t sends k

turns_if_beside : (turns : Bool) (p : ℕ) (step : PeerState → PeerState) (now : ℕ) (s t : SystemState)
    (sends : List Sending) → TurnsIf turns p step now s t sends
    → TurnsIf turns p step now (beside_time s) (beside_time t) sends
turns_if_beside true p step now s t sends k = selects_beside now (turned p step s) t sends k
turns_if_beside false p step now s t sends k = becomes_beside (with_peer p step s) t sends k

pub turns_beside : (p : ℕ) (step : PeerState → PeerState) (now : ℕ) (s t : SystemState) (sends : List Sending)
    → Turns p step now s t sends → Turns p step now (beside_time s) (beside_time t) sends
turns_beside p step now s t sends k = turns_if_beside (is_turned step (number s.ports p)) p step now s t sends k

pub asks_beside : (p : ℕ) (step : PeerState → PeerState) (now : ℕ) (s t : SystemState) (sends : List Sending)
    → TurnsAndAsks p step now s t sends → TurnsAndAsks p step now (beside_time s) (beside_time t) sends
asks_beside p step now s t sends k = record {
  between = beside_time k.between;
  first = k.first;
  turns = turns_beside p step now s k.between k.first k.turns;
  state = ap beside_time k.state;
  sends_are = k.sends_are;
}

keeps_beside : (keeps : Bool) (head : Head) (now : ℕ) (s t : SystemState) (sends : List Sending) (answer : Answer)
    → KeepsIf keeps head now s t sends answer
    → KeepsIf keeps head now (beside_time s) (beside_time t) sends answer
keeps_beside true head now s t sends answer k =
    record { becomes = becomes_beside (keeping head now s) t sends k.becomes; answer_is = k.answer_is }
keeps_beside false head now s t sends answer k =
    record { becomes = becomes_beside s t sends k.becomes; answer_is = k.answer_is }

pub hears_sync_beside : (on : Bool) (p : ℕ) (head : Head) (now : ℕ) (s t : SystemState) (sends : List Sending)
    (answer : Answer) → HearsSyncIf on p head now s t sends answer
    → HearsSyncIf on p head now (beside_time s) (beside_time t) sends answer
hears_sync_beside true p head now s t sends answer k = keeps_beside (is_followed p head s) head now s t sends answer k
hears_sync_beside false p head now s t sends answer k =
    record { becomes = becomes_beside s t sends k.becomes; answer_is = k.answer_is }

pub hears_announce_beside : (p : ℕ) (a : AnnounceView) (now : ℕ) (s t : SystemState) (sends : List Sending)
    (answer : Answer) → HearsMessage p (messages.Announce a) now s t sends answer
    → HearsMessage p (messages.Announce a) now (beside_time s) (beside_time t) sends answer
hears_announce_beside p a now s t sends answer (inl k) =
    inl (record { off = k.off; becomes = becomes_beside s t sends k.becomes; answer_is = k.answer_is })
hears_announce_beside p a now s t sends answer (inr (inl k)) =
    inr (inl (record {
      on = k.on;
      why = k.why;
      fails = k.fails;
      becomes = becomes_beside s t sends k.becomes;
      answer_is = k.answer_is;
    }))
hears_announce_beside p a now s t sends answer (inr (inr k)) =
    inr (inr (record {
      on = k.on;
      qualified = k.qualified;
      selects = selects_if_beside (replaces_held (comparison (held_at s p) (own s p) a)) now (compared p a now s) t
          sends k.selects;
      answer_is = k.answer_is;
    }))
