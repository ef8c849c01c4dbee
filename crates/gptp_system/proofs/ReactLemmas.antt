-- The parts of steps: as answers to a touch.
use Rattle.std.proofs.Common.{◌≡◌, ◌≢◌, ◌⊎◌, ℕ, zero, suc, ◌+◌, ℤ, Bool, true, false, List, [], ◌∷◌, Option, Some, None, slice_get, refl, sym, ap, subst, ◌∙◌, inl, inr, arith}
use Rattle.std.specs.Option.{option_map_or, option_and_then}
use Rattle.std.proofs.lemmas.Option.{none-some, same_Some}
use Rattle.gptp_lists.specs.Members.{In}
use Rattle.gptp_receipt.specs.declared.held.Held.{Held}
use Rattle.gptp_receipt.specs.declared.held.Held.TheVariants as helds
use Rattle.gptp_receipt.specs.Held.{received}
use Rattle.gptp_correction.specs.declared.sync_in.SyncInfo.{SyncInfo}
use Rattle.gptp_correction.specs.SyncIn.{KeptSync}
use Rattle.gptp_pdelay.specs.Peer.{PeerState}
use Rattle.gptp_system.specs.declared.port.Port.{Port}
use Rattle.gptp_system.specs.declared.reading.TimeRead.{TimeRead}
use Rattle.gptp_system.specs.declared.sending.Sending.{Sending}
use Rattle.gptp_setup.specs.declared.timer.Timer.TheVariants as timers
use Rattle.gptp_setup.specs.Intervals.{interval_of}
use Rattle.gptp_system.specs.State.{SystemState, announce_due, clock, due, held_at, number, on_port, own, stamp_time, with_peer}
use Rattle.gptp_system.specs.Sends.{announcement, with_send}
use Rattle.gptp_system.specs.Selection.{Becomes, announced_again}
use Rattle.gptp_system.specs.Measuring.{Turns, TurnsAndAsks, TurnsIf, asking, is_turned, request_of, turned}
use Rattle.gptp_system.specs.Announcing.{AnnounceExpires, announced_at, announcement_at}
use Rattle.gptp_system.specs.Syncing.{telling}
use Rattle.gptp_system.specs.Facts.{AreShown, IsAtRest}
use Rattle.gptp_system.specs.Touch.{Touch, Other, IsTurn}
use Rattle.gptp_system.specs.Reacts.{IsAnnounce, HoldsOrIsDisabled, IsOwnAnnounce, PortEnds, Reacts, PortAnnounces}
use Rattle.gptp_system.proofs.ChangedLemmas.{Changed, change-get}
use Rattle.gptp_system.proofs.PortLemmas.{Marked, counted-get, with_sync}
use Rattle.gptp_system.specs.Messages.{AllAre, Announcing, Asking, Kind, message_kind}
use Rattle.gptp_system.proofs.SendLemmas.{with_send-among, with_send-from}
use Rattle.gptp_system.proofs.EndLemmas.{Concludes, Ends, rest_concludes, selects_concludes}
use Rattle.gptp_system.proofs.MidLemmas.{GoesOn, Later, Mids, SendsMore, concludes_on, joined, on_port_goes_on, other_mids, turned_mids}

-- ---- steps that select nothing

-- no Announce is sent
abbrev pub AreOther : List Sending → Type 0
AreOther sends = (x : Sending) → In x sends → IsAnnounce x.body → ⊥

pub none_other : (sends : List Sending) → sends ≡ [] → AreOther sends
none_other sends none x member announce = absurd (subst (In x) none member)

pub kind_other : (kind : Kind) (sends : List Sending) → (kind ≡ Announcing → ⊥) → AllAre kind sends → AreOther sends
kind_other kind sends other all x member (announce, is) = other (sym (all x member) ∙ ap message_kind is)

from_none : (sends : List Sending) → AreOther sends → SendsMore [] sends
from_none sends other =
    record { among = λ x member. absurd member; from = λ x member announce. absurd (other x member announce) }

pub later_apart : (s : SystemState) (sync_in : Option KeptSync) (known : Option SyncInfo) (offset : Option ℤ)
    (reads : Option TimeRead) (base : ℤ) (sync : ℕ) (relay lapse : Option ℕ)
    → Later s (record s {
      sync_in = sync_in;
      known = known;
      offset = offset;
      reads = reads;
      base = base;
      sync = sync;
      relay = relay;
      lapse = lapse;
    })
later_apart s sync_in known offset reads base sync relay lapse =
    record { same_clock = refl; held = refl; root = refl; steps = refl; ports = λ i q there. (q, there, refl, refl) }

pub later_itself : (s : SystemState) → Later s s
later_itself s = later_apart s s.sync_in s.known s.offset s.reads s.base s.sync s.relay s.lapse

pub later_port : (p : ℕ) (f : Port → Port) (s : SystemState) → ((q : Port) → (f q).log_interval ≡ q.log_interval)
    → ((q : Port) → (f q).announce ≡ q.announce) → Later s (on_port p f s)
later_port p f s log announce =
    record { same_clock = refl; held = refl; root = refl; steps = refl; ports = on_port_goes_on p f s log announce }

pub later_telling : (s : SystemState) → Later s (telling s)
later_telling s = record {
  same_clock = refl;
  held = refl;
  root = refl;
  steps = refl;
  ports = λ i q' there. go _ i q' (counted-get s.held s.ports i q' there);
}
  where
    go : (mark : Type 0) (i : ℕ) (q' : Port) → Marked with_sync mark s.ports i q' → GoesOn s.ports i q'
    go mark i q' (q, was, inl (mine, new)) =
        (q, was, ap (λ (x : Port). x.log_interval) new, ap (λ (x : Port). x.announce) new)
    go mark i q' (q, was, inr (other, old)) =
        (q, was, ap (λ (x : Port). x.log_interval) old, ap (λ (x : Port). x.announce) old)

-- a system at rest goes on
pub rests : (now : ℕ) (s s' : SystemState) (sends : List Sending) → IsAtRest s → Later s s' → AreOther sends
    → Concludes s now s' sends
rests now s s' sends r later other =
    concludes_on s now s s' [] sends (rest_concludes now s r) later (from_none sends other)

pub becomes : (now : ℕ) (s t s' : SystemState) (sends : List Sending) → IsAtRest s → Later s t → Becomes t s' sends
    → Concludes s now s' sends
becomes now s t s' sends r later b =
    subst (λ x. Concludes s now x sends) (sym b.state) (rests now s t sends r later (none_other sends b.silent))

-- so it answers a touch that isn't one
quietly : (now : ℕ) (s s' : SystemState) (sends : List Sending) → Concludes s now s' sends → Reacts s Other now s' sends
quietly now s s' sends c = joined s Other now s s' sends (other_mids s now) c

-- ---- measuring

pub record Halves (p : ℕ) (s : SystemState) (now : ℕ) (s' : SystemState) (sends : List Sending) : Type 0 where
  pub touch : Touch
  pub is_turn : IsTurn p touch
  pub between : SystemState
  pub mids : Mids s touch now between
  pub concludes : Concludes between now s' sends

pub turns : (p : ℕ) (step : PeerState → PeerState) (now : ℕ) (s s' : SystemState) (sends : List Sending) → AreShown s
    → IsAtRest s
    → Turns p step now s s' sends → Halves p s now s' sends
turns p step now s s' sends shown r h = go (is_turned step (number s.ports p)) refl h
  where
    go : (b : Bool) → is_turned step (number s.ports p) ≡ b → TurnsIf b p step now s s' sends → Halves p s now s' sends
    go true is k =
        let (touch, turn, mids) = turned_mids p step now s shown is in
        record {
          touch = touch;
          is_turn = turn;
          between = turned p step s;
          mids = mids;
          concludes = selects_concludes now (turned p step s) s' sends k;
        }
    go false is k = record {
      touch = Other;
      is_turn = inr (inr refl);
      between = s;
      mids = other_mids s now;
      concludes = becomes now s (with_peer p step s) s' sends r
          (later_port p (λ (q : Port). record q { peer = step q.peer }) s (λ q. refl) (λ q. refl)) k;
    }

request_other : (p : ℕ) (s : SystemState) (sends : List Sending) → SendsMore sends (with_send (request_of p s) sends)
request_other p s sends = record {
  among = λ x member. with_send-among (request_of p s) x sends member;
  from = λ x member announce. go x announce (with_send-from (request_of p s) x sends member);
}
  where
    go : (x : Sending) → IsAnnounce x.body → (x ≡ request_of p s) ⊎ In x sends → In x sends
    go x (announce, is) (inl here) = absurd (asks
        (sym (ap (λ (y : Sending). message_kind y.body) here) ∙ ap message_kind is))
      where
        asks : Asking ≡ Announcing → ⊥
        asks e = cc
    go x announce (inr before) = before

pub turns_and_asks : (p : ℕ) (step : PeerState → PeerState) (now : ℕ) (s s' : SystemState) (sends : List Sending)
    → AreShown s → IsAtRest s
    → TurnsAndAsks p step now s s' sends → Halves p s now s' sends
turns_and_asks p step now s s' sends shown r k =
    let h = turns p step now s k.between k.first shown r k.turns in
    let f = asking (stamp_time k.between now) (now + interval_of k.between.params.pdelay) in
    let after = later_port p f k.between (λ q. refl) (λ q. refl) in
    record {
      touch = h.touch;
      is_turn = h.is_turn;
      between = h.between;
      mids = h.mids;
      concludes = concludes_on h.between now k.between s' k.first sends h.concludes
          (subst (Later k.between) (sym k.state) after)
          (subst (SendsMore k.first) (sym k.sends_are) (request_other p k.between k.first));
    }

-- what is seen of a step and how it is answered
pub record Answers (Seen : Touch
    → Type 0) (s : SystemState) (now : ℕ) (s' : SystemState) (sends : List Sending) : Type 0 where
  pub touch : Touch
  pub seen : Seen touch
  pub reacts : Reacts s touch now s' sends

pub by_turn : (p : ℕ) (Seen : Touch → Type 0) (s : SystemState) (now : ℕ) (s' : SystemState) (sends : List Sending)
    → ((touch : Touch) → IsTurn p touch → Seen touch) → Halves p s now s' sends → Answers Seen s now s' sends
by_turn p Seen s now s' sends seen h = record {
  touch = h.touch;
  seen = seen h.touch h.is_turn;
  reacts = joined s h.touch now h.between s' sends h.mids h.concludes;
}

pub by_other : (Seen : Touch → Type 0) (s : SystemState) (now : ℕ) (s' : SystemState) (sends : List Sending)
    → Seen Other
    → Concludes s now s' sends → Answers Seen s now s' sends
by_other Seen s now s' sends seen c = record { touch = Other; seen = seen; reacts = quietly now s s' sends c }

-- ---- the Announce timer

mine_held : (q : Port) (h : Held) (t : ℕ) → announce_due q h ≡ Some t
    → (root : ℕ) × (steps : ℕ) × (h ≡ helds.Mine root steps)
mine_held q helds.Disabled t is = absurd (none-some t is)
mine_held q helds.Aged t is = absurd (none-some t is)
mine_held q (helds.Mine root steps) t is = (root, steps, refl)
mine_held q (helds.Received r) t is = absurd (none-some t is)

held_there : (o : Option Held) (root steps : ℕ) → option_map_or (λ h. h) o helds.Disabled ≡ helds.Mine root steps
    → o ≡ Some (helds.Mine root steps)
held_there None root steps e = absurd cc
held_there (Some h) root steps e = ap (λ x. Some x) e

not_kept : (h : Held) (root steps : ℕ) → h ≡ helds.Mine root steps → HoldsOrIsDisabled h → ⊥
not_kept h root steps mine (inl off) = absurd (let both = sym mine ∙ off in cc)
not_kept h root steps mine (inr (r, is)) = absurd (none-some r (ap received (sym mine) ∙ is))

pub announce_expires : (p now t : ℕ) (s s' : SystemState) (sends : List Sending) → IsAtRest s
    → due (timers.Announce p) s ≡ Some t
    → AnnounceExpires p now s s' sends → Concludes s now s' sends
announce_expires zero now t s s' sends r is k = absurd (none-some t is)
announce_expires (suc j) now t s s' sends r is k =
    subst (λ x. Concludes s now x sends) (sym k.state)
    (subst (Concludes s now (announced_at (suc j) now s)) (sym k.sends_are) (at (slice_get s.ports j) refl is))
  where
    at : (o : Option Port) → slice_get s.ports j ≡ o
        → option_and_then (λ q. announce_due q (held_at s (suc j))) o ≡ Some t
        → Concludes s now (announced_at (suc j) now s) (announcement_at (suc j) s)
    at None there e = absurd (none-some t e)
    at (Some q) there e =
        subst (Concludes s now (announced_at (suc j) now s)) (sym (ap sent_at there))
        (record { same_clock = refl; ports = ports; tells = tells })
      where
        sent_at : Option Port → List Sending
        sent_at o = option_map_or (λ (x : Port). announcement (own s (suc j)) s.root s.steps x ∷ []) o []

        x : Sending
        x = announcement (own s (suc j)) s.root s.steps q

        base : Concludes s now s []
        base = rest_concludes now s r

        held_mine : slice_get s.held j ≡ Some (helds.Mine s.root s.steps)
        held_mine =
            let (root, steps, mine) = mine_held q (held_at s (suc j)) t e in
            let stands = held_there (slice_get s.held j) root steps mine in
            go root steps stands (base.ports j (helds.Mine root steps) q stands there)
          where
            go : (root steps : ℕ) → slice_get s.held j ≡ Some (helds.Mine root steps)
                → Ends s now s [] j (helds.Mine root steps) q
                → slice_get s.held j ≡ Some (helds.Mine s.root s.steps)
            go root steps stands ends = by ends.ends
              where
                by : PortEnds (clock s) (suc j) now s.root s.steps ends.mid (helds.Mine root steps) ends.port q []
                    → slice_get s.held j ≡ Some (helds.Mine s.root s.steps)
                by (inl (same, kept)) = absurd (not_kept ends.mid root steps (sym same) kept)
                by (inr m) = stands ∙ ap (λ h. Some h) m.mine

        ports : (i : ℕ) (h' : Held) (q' : Port) → slice_get s.held i ≡ Some h'
            → slice_get (announced_at (suc j) now s).ports i ≡ Some q'
            → Ends s now (announced_at (suc j) now s) (x ∷ []) i h' q'
        ports i h' q' stands new = go (change-get (announced_again now) (suc j) s.ports i q' new)
          where
            go : Changed (announced_again now) (suc j ≡ suc i) s.ports i q'
                → Ends s now (announced_at (suc j) now s) (x ∷ []) i h' q'
            go (p, was, inl (here, new)) =
                let place : j ≡ i = omega arith in
                let mine : h' ≡ helds.Mine s.root s.steps =
                same_Some h' (helds.Mine s.root s.steps) (sym stands ∙ ap (slice_get s.held) (sym place)
                ∙ held_mine) in
                let on : h' ≢ helds.Disabled = λ off. let both = sym mine ∙ off in cc in
                record {
                  mid = h';
                  port = p;
                  mid_there = stands;
                  port_there = was;
                  log = ap (λ (y : Port). y.log_interval) new;
                  ends = inr (record {
                    mine = mine;
                    on = on;
                    is_lower = λ reception got. absurd (none-some reception (ap received (sym mine) ∙ got));
                    timing = inr (record {
                      sent = (x, inl refl, here, (_, refl));
                      timer = ap (λ (y : Port). y.announce) new;
                    });
                  });
                }
            go (p, was, inr (elsewhere, old)) =
                let b = base.ports i h' p stands was in
                record {
                  mid = b.mid;
                  port = b.port;
                  mid_there = b.mid_there;
                  port_there = b.port_there;
                  log = ap (λ (y : Port). y.log_interval) old ∙ b.log;
                  ends = still b.mid b.port p (ap (λ (y : Port). y.announce) old) b.ends;
                }
              where
                still : (mid : Held) (a b : Port) → q'.announce ≡ b.announce
                    → PortEnds (clock s) (suc i) now s.root s.steps mid h' a b []
                    → PortEnds (clock s) (suc i) now s.root s.steps mid h' a q' (x ∷ [])
                still mid a b same (inl kept) = inl kept
                still mid a b same (inr m) =
                    inr (record { mine = m.mine; on = m.on; is_lower = m.is_lower; timing = timing m.timing })
                  where
                    timing : (((mid ≡ helds.Mine s.root s.steps) × (b.announce ≡ a.announce)) ⊎ PortAnnounces
                        (suc i) now a b [])
                        → ((mid ≡ helds.Mine s.root s.steps) × (q'.announce ≡ a.announce))
                        ⊎ PortAnnounces (suc i) now a q'
                        (x ∷ [])
                    timing (inl (mine, before)) = inl (mine, same ∙ before)
                    timing (inr told) = absurd told.sent.1

        tells : (y : Sending) → In y (x ∷ []) → IsAnnounce y.body → IsOwnAnnounce (announced_at (suc j) now s) y
        tells y (inl here) announce = record {
          place = j;
          port = q;
          number_is = ap (λ (z : Sending). z.port) here;
          holds = held_mine;
          is = here;
          log = λ q' new. names q' (change-get (announced_again now) (suc j) s.ports j q' new);
        }
          where
            names : (q' : Port) → Changed (announced_again now) (suc j ≡ suc j) s.ports j q'
                → q'.log_interval ≡ q.log_interval
            names q' (p, was, inl (same, new)) =
                ap (λ (z : Port). z.log_interval) (new ∙ ap (announced_again now) (same_Some p q (sym was ∙ there)))
            names q' (p, was, inr (elsewhere, old)) = absurd (elsewhere refl)
        tells y (inr later) announce = absurd later
