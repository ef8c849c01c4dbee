-- What is among the sends of a step.
use Rattle.std.proofs.Common.{◌≡◌, ◌⊎◌, ℕ, ◌+◌, Bool, true, false, ℤ, List, [], ◌∷◌, ◌++◌, take, drop, Option, Some, None, refl, sym, subst, inl, inr, take-append-drop}
use Rattle.std.specs.Prelude.{if◌then◌else◌}
use Rattle.gptp_lists.specs.Members.{In}
use Rattle.gptp_lists.proofs.SystemSpecLemmas.{In-left, In-parts, In-right}
use Rattle.gptp_correction.specs.declared.correction.Relayed.{Relayed}
use Rattle.gptp_pdelay.specs.declared.answer.Answer.{Answer as Owed}
use Rattle.gptp_receipt.specs.declared.held.Held.{Held}
use Rattle.gptp_system.specs.declared.port.Port.{Port}
use Rattle.gptp_system.specs.declared.sending.Sending.{Sending}
use Rattle.gptp_system.specs.State.{SystemState, is_mine, own}
use Rattle.gptp_system.specs.Sends.{pdelay_response, response_follow_up, sends_up_to, with_send}
use Rattle.gptp_system.specs.Measuring.{RespondsIf}
use Rattle.gptp_system.specs.Syncing.{follow_up_of, sync_of, syncs}
use Rattle.gptp_system.specs.Messages.{AllAre, Answering, Telling, message_kind}

-- ---- members

-- what is sent stays when one more is sent
pub with_send-among : (x y : Sending) (ys : List Sending) → In y ys → In y (with_send x ys)
with_send-among x y ys member =
    go (In-parts y front back (subst (In y) (sym (take-append-drop (sends_up_to x.port ys) ys)) member))
  where
    front : List Sending
    front = take (sends_up_to x.port ys) ys

    back : List Sending
    back = drop (sends_up_to x.port ys) ys

    go : In y front ⊎ In y back → In y (front ++ x ∷ back)
    go (inl first) = In-left y front (x ∷ back) first
    go (inr second) = In-right y front (x ∷ back) (inr second)

-- and each of them is that one or was sent before
pub with_send-from : (x y : Sending) (ys : List Sending) → In y (with_send x ys) → (y ≡ x) ⊎ In y ys
with_send-from x y ys member = go (In-parts y front (x ∷ back) member)
  where
    front : List Sending
    front = take (sends_up_to x.port ys) ys

    back : List Sending
    back = drop (sends_up_to x.port ys) ys

    whole : front ++ back ≡ ys
    whole = take-append-drop (sends_up_to x.port ys) ys

    go : In y front ⊎ In y (x ∷ back) → (y ≡ x) ⊎ In y ys
    go (inl first) = inr (subst (In y) whole (In-left y front back first))
    go (inr (inl here)) = inl here
    go (inr (inr later)) = inr (subst (In y) whole (In-right y front back later))

-- ---- kinds

pub syncs_tell : (clock : ℕ) (log : ℤ) (told : Relayed) (p : ℕ) (hs : List Held) (qs : List Port)
    → AllAre Telling (syncs clock log told p hs qs)
syncs_tell clock log told p [] qs x member = absurd member
syncs_tell clock log told p (h ∷ hs) [] x member = absurd member
syncs_tell clock log told p (h ∷ hs) (q ∷ qs) x member =
    go (is_mine h) (syncs_tell clock log told (p + 1) hs qs x) member
  where
    sync : Sending
    sync = sync_of (record { clock = clock; port = p }) log q

    follow_up : Sending
    follow_up = follow_up_of (record { clock = clock; port = p }) log told q

    rest : List Sending
    rest = syncs clock log told (p + 1) hs qs

    go : (b : Bool) → (In x rest → message_kind x.body ≡ Telling) → In x (if b then sync ∷ follow_up ∷ rest else rest)
        → message_kind x.body ≡ Telling
    go true ih (inl here) = rw here refl
    go true ih (inr (inl here)) = rw here refl
    go true ih (inr (inr later)) = ih later
    go false ih later = ih later

pub responds_answer : (owed : Option Owed) (p now : ℕ) (s : SystemState) (sends : List Sending)
    → RespondsIf owed p now s sends
    → AllAre Answering sends
responds_answer None p now s sends none x member = absurd (subst (In x) none member)
responds_answer (Some owed) p now s sends k x member = go (subst (In x) k.sends_are member)
  where
    first : Sending
    first = pdelay_response (own s p) owed k.came k.came-rest

    second : Sending
    second = response_follow_up (own s p) owed k.went k.went-rest

    go : In x (first ∷ second ∷ []) → message_kind x.body ≡ Answering
    go (inl here) = rw here refl
    go (inr (inl here)) = rw here refl
    go (inr (inr later)) = absurd later
