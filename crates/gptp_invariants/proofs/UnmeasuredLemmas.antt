-- Where it hears no reply a port that has measured nothing measures nothing, and one that isn't capable stays so.
use Rattle.std.specs.Prelude.{if◌then◌else◌, ⊤}
use Rattle.std.specs.Option.{option_map_or}
use Rattle.std.proofs.Common.{◌≡◌, ◌==◌, ◌+◌, ℕ, Bool, true, false, List, Option, None, refl, sym, subst, inl, inr, eqb-true}
use Rattle.gptp_messages.specs.Grammar.{Reads}
use Rattle.gptp_messages.specs.declared.message.Message.{Message}
use Rattle.gptp_messages.specs.declared.message.Message.TheVariants as messages
use Rattle.gptp_pdelay.specs.Peer.{PeerState, after_interval, is_capable, is_open, loses_too_many, reset_peer}
use Rattle.gptp_pdelay.specs.Exchange.{shows_neighbor}
use Rattle.gptp_pdelay.specs.declared.exchange.Measurement.{Measurement}
use Rattle.gptp_pdelay.specs.declared.progress.Progress.{Progress}
use Rattle.gptp_pdelay.specs.declared.progress.Progress.TheVariants.{Closed}
use Rattle.gptp_setup.specs.declared.timer.Timer.TheVariants as timers
use Rattle.gptp_system.specs.Input.{Expires, Frame, Input, PortDown, PortUp, Priority}
use Rattle.gptp_system.specs.Measures.{IsPartAfter, Part, only_at, part_answered, part_asked, part_down, part_heard}
use Rattle.gptp_system.specs.State.{SystemState}
use Rattle.gptp_pdelay_machine.specs.Messages.{Reply}
use Rattle.gptp_invariants.specs.DelayLinkView.{follow_up_view, reads_as_reply, response_view}
use Rattle.gptp_invariants.specs.FailedUnanswered.{IsUnmeasured, is_answered}

-- such a port isn't capable
pub unmeasured_off : (p : PeerState) → IsUnmeasured p → is_capable p ≡ false
unmeasured_off p un = rw un.0 refl

-- the input is no reply that port n hears
abbrev pub IsMuteTo : ℕ → Input → Type 0
IsMuteTo n (Frame p octets) = n ≡ p → (r : Reply) → reads_as_reply octets r → ⊥
IsMuteTo n input = ⊤

-- What is said of a port's last exchange stays so where it hears no reply: it holds of none, and whatever request is
-- open.
module _ (Says : Option Measurement → ℕ → Progress → Type 0)
    (none : (threshold : ℕ) (q : Progress) → is_answered q ≡ false → Says None threshold q)
    (opens : (last : Option Measurement) (threshold : ℕ) (q q' : Progress) → Says last threshold q
    → is_answered q' ≡ false → Says last threshold q') where
  abbrev Is : PeerState → Type 0
  Is p = Says p.last p.threshold p.progress

  only_so : (p n : ℕ) (f : Part → Part) (x : Part) → Is (f x).peer → Is x.peer → Is (only_at p f n x).peer
  only_so p n f x here so = by (n == p) refl
    where
      by : (here : Bool) → (n == p) ≡ here → Is (only_at p f n x).peer
      by true is = rw is here
      by false is = rw is so

  -- it has come up
  raised_so : (s : SystemState) (now p n : ℕ) (x : Part) → Is x.peer
      → Is (only_at p (part_asked s now reset_peer) n x).peer
  raised_so s now p n x so = only_so p n (part_asked s now reset_peer) x (none x.peer.threshold _ refl) so

  -- a request is given up, and the next one is sent
  asked_so : (s : SystemState) (now : ℕ) (x : Part) → Is x.peer → Is (part_asked s now after_interval x).peer
  asked_so s now x so = by (is_open x.peer.progress) (loses_too_many x.peer)
    where
      p : PeerState
      p = x.peer

      by : (waits lost : Bool)
          → Is (part_asked s now (λ q.
          if waits then (if lost then reset_peer q else record q { progress = Closed; lost = q.lost + 1 })
          else q) x).peer
      by true true = none p.threshold _ refl
      by true false = opens p.last p.threshold p.progress _ so refl
      by false lost = opens p.last p.threshold p.progress _ so refl

  -- what is heard is no reply
  heard_so : (s : SystemState) (now : ℕ) (octets : List ℕ) (m : Message) (x : Part) → Reads octets m
      → ((r : Reply) → reads_as_reply octets r → ⊥) → Is x.peer → Is (part_heard s now m x).peer
  heard_so s now octets (messages.Sync head) x reads mute so = so
  heard_so s now octets (messages.PdelayReq head) x reads mute so = so
  heard_so s now octets (messages.PdelayResp m) x reads mute so =
      absurd (mute (response_view m) (inl (m, reads, refl)))
  heard_so s now octets (messages.FollowUp m) x reads mute so = so
  heard_so s now octets (messages.PdelayRespFollowUp m) x reads mute so =
      absurd (mute (follow_up_view m) (inr (m, reads, refl)))
  heard_so s now octets (messages.Announce m) x reads mute so = so

  part_so : (s : SystemState) (now : ℕ) (input : Input) (n : ℕ) (x x' : Part) → IsMuteTo n input
      → IsPartAfter s now input n x x' → Is x.peer → Is x'.peer
  part_so s now (PortUp p) n x x' mute is so =
      subst (λ (y : Part). Is y.peer) (sym is) (raised_so s now p n x so)
  part_so s now (PortDown p) n x x' mute is so =
      subst (λ (y : Part). Is y.peer) (sym is) (only_so p n part_down x (none x.peer.threshold _ refl) so)
  part_so s now (Frame p octets) n x x' mute (inr (unread, same)) so =
      subst (λ (y : Part). Is y.peer) (sym same) so
  part_so s now (Frame p octets) n x x' mute (inl (m, reads, same)) so =
      subst (λ (y : Part). Is y.peer) (sym same) (by (n == p) refl)
    where
      by : (here : Bool) → (n == p) ≡ here → Is (if here then part_heard s now m x else x).peer
      by true is = heard_so s now octets m x reads (mute (eqb-true n p is)) so
      by false is = so
  part_so s now (Expires (timers.Pdelay p)) n x x' mute is so =
      subst (λ (y : Part). Is y.peer) (sym is)
      (only_so p n (part_asked s now after_interval) x (asked_so s now x so) so)
  part_so s now (Expires (timers.Respond p)) n x x' mute is so =
      subst (λ (y : Part). Is y.peer) (sym is) (only_so p n part_answered x so so)
  part_so s now (Expires (timers.Announce p)) n x x' mute is so =
      subst (λ (y : Part). Is y.peer) (sym is) so
  part_so s now (Expires (timers.Age p)) n x x' mute is so =
      subst (λ (y : Part). Is y.peer) (sym is) so
  part_so s now (Expires timers.Sync) n x x' mute is so =
      subst (λ (y : Part). Is y.peer) (sym is) so
  part_so s now (Expires timers.Relay) n x x' mute is so =
      subst (λ (y : Part). Is y.peer) (sym is) so
  part_so s now (Expires timers.Lapse) n x x' mute is so =
      subst (λ (y : Part). Is y.peer) (sym is) so
  part_so s now (Priority value) n x x' mute is so = subst (λ (y : Part). Is y.peer) (sym is) so

-- nothing is measured, and no response is recorded
abbrev MeasuredNone : Option Measurement → ℕ → Progress → Type 0
MeasuredNone last threshold q = (last ≡ None) × (is_answered q ≡ false)

-- it has come up
pub part_unmeasured : (s : SystemState) (now p n : ℕ) (x : Part) → IsUnmeasured x.peer
    → IsUnmeasured (only_at p (part_asked s now reset_peer) n x).peer
part_unmeasured =
    raised_so MeasuredNone (λ threshold q none. (refl, none)) (λ last threshold q q' so none. (so.0, none))

-- where no reply is heard nothing is measured
pub part_stays : (s : SystemState) (now : ℕ) (input : Input) (n : ℕ) (x x' : Part) → IsMuteTo n input
    → IsPartAfter s now input n x x' → IsUnmeasured x.peer → IsUnmeasured x'.peer
part_stays = part_so MeasuredNone (λ threshold q none. (refl, none)) (λ last threshold q q' so none. (so.0, none))

-- and a port that isn't capable stays so
pub part_off : (s : SystemState) (now : ℕ) (input : Input) (n : ℕ) (x x' : Part) → IsMuteTo n input
    → IsPartAfter s now input n x x' → is_capable x.peer ≡ false → is_capable x'.peer ≡ false
part_off =
    part_so (λ last threshold q. option_map_or (shows_neighbor threshold) last false ≡ false)
    (λ threshold q none. refl) (λ last threshold q q' so none. so)
