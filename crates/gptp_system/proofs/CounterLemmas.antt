-- Which changes of a state count which sends.
use Rattle.std.proofs.Common.{◌≡◌, ◌≤◌, ℕ, zero, suc, ◌+◌, ℤ, Bool, true, false, List, [], ◌∷◌, Option, Some, None, slice_get, refl, sym, ap, subst, ◌∙◌, inl, inr, arith, eq-eqb, eqb-true}
use Rattle.std.specs.Prelude.{if◌then◌else◌, ◌==◌, ◌&&◌}
use Rattle.std.specs.Option.{option_map_or}
use Rattle.std.proofs.lemmas.Bool.{cases_Bool}
use Rattle.std.proofs.lemmas.Bool.Decides.{nat_tests}
use Rattle.std.proofs.lemmas.Option.{none-some, same_Some}
use Rattle.gptp_lists.specs.Members.{In}
use Rattle.gptp_correction.specs.declared.correction.Relayed.{Relayed}
use Rattle.gptp_receipt.specs.declared.held.Held.{Held}
use Rattle.gptp_vector.specs.declared.port.PortId.{PortId}
use Rattle.gptp_system.specs.declared.port.Port.{Port}
use Rattle.gptp_system.specs.declared.sending.Body.{Body}
use Rattle.gptp_system.specs.declared.sending.Body.TheVariants as bodies
use Rattle.gptp_system.specs.declared.sending.Sending.{Sending}
use Rattle.gptp_system.specs.State.{SystemState, clock, is_mine, number, on_port, own}
use Rattle.gptp_system.specs.Sends.{announcement, count_such, with_send}
use Rattle.gptp_system.specs.Selection.{Selects, announced_again, announcements, choosing, fresh_ports}
use Rattle.gptp_system.specs.Announcing.{announced_at, announcement_at}
use Rattle.gptp_system.specs.Syncing.{follow_up_of, sync_of, syncs, telling, told_by}
use Rattle.gptp_system.specs.Messages.{AllAre, Announcing, Kind, Telling, message_kind}
use Rattle.gptp_system.specs.Counters.{AreCounted, CountsSent, announces_at, is_announce, is_sync, sequence_after, syncs_at}
use Rattle.gptp_system.proofs.ChangedLemmas.{Changed, change-get, number-get}
use Rattle.gptp_system.proofs.CountLemmas.{IsOnlyAt, announcements_once, count-none, count-some, count-with_send, syncs_once}
use Rattle.gptp_system.proofs.EndLemmas.{announcement_sent, from_announcements}
use Rattle.gptp_system.proofs.PortLemmas.{Marked, all_announced-get, counted-get, with_sync}
use Rattle.gptp_system.proofs.SendLemmas.{syncs_tell}
use Rattle.gptp_system.proofs.SentLemmas.{announcements_announce}

-- ---- kinds

announces_only : (body : Body) (kind : Kind) → message_kind body ≡ kind → (kind ≡ Announcing → ⊥)
    → is_announce body ≡ false
announces_only (bodies.Announce announce) kind is other = absurd (other (sym is))
announces_only bodies.Sync kind is other = refl
announces_only (bodies.FollowUp origin rate) kind is other = refl
announces_only bodies.PdelayReq kind is other = refl
announces_only (bodies.PdelayResp stamp requester) kind is other = refl
announces_only (bodies.PdelayRespFollowUp stamp requester) kind is other = refl

tells_only : (body : Body) (kind : Kind) → message_kind body ≡ kind → (kind ≡ Telling → ⊥) → is_sync body ≡ false
tells_only (bodies.Announce announce) kind is other = refl
tells_only bodies.Sync kind is other = absurd (other (sym is))
tells_only (bodies.FollowUp origin rate) kind is other = refl
tells_only bodies.PdelayReq kind is other = refl
tells_only (bodies.PdelayResp stamp requester) kind is other = refl
tells_only (bodies.PdelayRespFollowUp stamp requester) kind is other = refl

not_first : (a b : Bool) → a ≡ false → (a && b) ≡ false
not_first true b e = absurd cc
not_first false b e = refl

no_announces : (kind : Kind) → (kind ≡ Announcing → ⊥) → (sends : List Sending) → AllAre kind sends → (p : ℕ)
    → announces_at p sends ≡ 0
no_announces kind other sends all p =
    count-none (λ x. is_announce x.body && x.port == p) sends
    (λ x member. not_first (is_announce x.body) (x.port == p) (announces_only x.body kind (all x member) other))

no_syncs : (kind : Kind) → (kind ≡ Telling → ⊥) → (sends : List Sending) → AllAre kind sends → (p : ℕ)
    → syncs_at p sends ≡ 0
no_syncs kind other sends all p =
    count-none (λ x. is_sync x.body && x.port == p) sends
    (λ x member. not_first (is_sync x.body) (x.port == p) (tells_only x.body kind (all x member) other))

announcing_apart : Announcing ≡ Telling → ⊥
announcing_apart e = cc

telling_apart : Telling ≡ Announcing → ⊥
telling_apart e = cc

-- such sends go at one port
only_at : (such : Sending → Bool) (p : ℕ) → IsOnlyAt (λ x. such x && x.port == p) p
only_at such p x is = eqb-true x.port p (go (such x) is)
  where
    go : (b : Bool) → (b && x.port == p) ≡ true → (x.port == p) ≡ true
    go true e = e
    go false e = absurd cc

-- ---- nothing is sent

-- port p sent nothing of these, and counts as before
stays : (p : ℕ) (sends : List Sending) (q q' : Port) → announces_at p sends ≡ 0 → syncs_at p sends ≡ 0
    → q'.announces ≡ q.announces → q'.syncs ≡ q.syncs → CountsSent p sends q q'
stays p sends q q' none_announced none_told announces syncs = record {
  announces = announces ∙ sym (ap (λ k. sequence_after k q.announces) none_announced);
  syncs = syncs ∙ sym (ap (λ k. sequence_after k q.syncs) none_told);
}

pub counted_same : (s s' : SystemState) → s'.ports ≡ s.ports → AreCounted s s' []
counted_same s s' same i q there =
    (q, ap (λ qs. slice_get qs i) (sym same) ∙ there, record { announces = refl; syncs = refl })

pub counted_on_port : (p : ℕ) (f : Port → Port) (s : SystemState) → ((q : Port) → (f q).announces ≡ q.announces)
    → ((q : Port) → (f q).syncs ≡ q.syncs) → AreCounted s (on_port p f s) []
counted_on_port p f s announces syncs i q' there = go (change-get f p s.ports i q' there)
  where
    go : Changed f (p ≡ suc i) s.ports i q'
        → (q : Port) × (slice_get s.ports i ≡ Some q) × CountsSent (suc i) [] q q'
    go (q, was, inl (here, new)) = (
      q,
      was,
      record {
        announces = ap (λ (x : Port). x.announces) new ∙ announces q;
        syncs = ap (λ (x : Port). x.syncs) new ∙ syncs q;
      },
    )
    go (q, was, inr (elsewhere, old)) =
        (q, was, record { announces = ap (λ (x : Port). x.announces) old; syncs = ap (λ (x : Port). x.syncs) old })

-- first a change that sends nothing, and then another
pub counted_on : (s t u : SystemState) (sends : List Sending) → AreCounted s t [] → AreCounted t u sends
    → AreCounted s u sends
counted_on s t u sends a b i q' there =
    let (p, at, second) = b i q' there in
    let (q, was, first) = a i p at in (
      q,
      was,
      record {
        announces = second.announces ∙ ap (sequence_after (announces_at (suc i) sends)) first.announces;
        syncs = second.syncs ∙ ap (sequence_after (syncs_at (suc i) sends)) first.syncs;
      },
    )

-- and the other way around
pub counted_then : (s t u : SystemState) (sends : List Sending) → AreCounted s t sends → AreCounted t u []
    → AreCounted s u sends
counted_then s t u sends a b i q' there =
    let (p, at, second) = b i q' there in
    let (q, was, first) = a i p at in
    (q, was, record { announces = second.announces ∙ first.announces; syncs = second.syncs ∙ first.syncs })

-- sends that count as others do
pub counted_alike : (s s' : SystemState) (sends others : List Sending)
    → ((p : ℕ) → announces_at p others ≡ announces_at p sends) → ((p : ℕ) → syncs_at p others ≡ syncs_at p sends)
    → AreCounted s s' sends → AreCounted s s' others
counted_alike s s' sends others announces syncs a i q' there =
    let (q, was, k) = a i q' there in (
      q,
      was,
      record {
        announces = k.announces ∙ sym (ap (λ n. sequence_after n q.announces) (announces (suc i)));
        syncs = k.syncs ∙ sym (ap (λ n. sequence_after n q.syncs) (syncs (suc i)));
      },
    )

-- sends that neither announce nor are Syncs
pub counted_other : (kind : Kind) → (kind ≡ Announcing → ⊥) → (kind ≡ Telling → ⊥) → (s s' : SystemState)
    (sends : List Sending) → AllAre kind sends → AreCounted s s' [] → AreCounted s s' sends
counted_other kind quiet dumb s s' sends all a =
    counted_alike s s' [] sends (λ p. no_announces kind quiet sends all p) (λ p. no_syncs kind dumb sends all p) a

-- one such send more
pub counted_more : (s s' : SystemState) (x : Sending) (sends : List Sending) → is_announce x.body ≡ false
    → is_sync x.body ≡ false → AreCounted s s' sends → AreCounted s s' (with_send x sends)
counted_more s s' x sends quiet dumb a =
    counted_alike s s' sends (with_send x sends)
    (λ p. count-with_send (λ y. is_announce y.body && y.port == p) x sends
    ∙ passed (λ y. is_announce y.body && y.port == p) (not_first (is_announce x.body) (x.port == p) quiet))
    (λ p. count-with_send (λ y. is_sync y.body && y.port == p) x sends
    ∙ passed (λ y. is_sync y.body && y.port == p) (not_first (is_sync x.body) (x.port == p) dumb))
    a
  where
    passed : (such : Sending → Bool) → such x ≡ false → count_such such (x ∷ sends) ≡ count_such such sends
    passed such off = rw off refl

-- ---- Announces

-- the port announces once
pub announces_once : (p now : ℕ) (sends : List Sending) (q : Port) → announces_at p sends ≡ 1 → syncs_at p sends ≡ 0
    → CountsSent p sends q (announced_again now q)
announces_once p now sends q once none = record {
  announces = sym (ap (λ k. sequence_after k q.announces) once);
  syncs = sym (ap (λ k. sequence_after k q.syncs) none);
}

pub selects_counted : (now : ℕ) (t u : SystemState) (sends : List Sending) → Selects now t u sends
    → AreCounted t u sends
selects_counted now t u sends k =
    subst (λ x. AreCounted t x sends) (sym k.state)
    (subst (AreCounted t (choosing k.vector now t)) (sym k.sends_are) go)
  where
    fresh : List Bool
    fresh = fresh_ports k.vector t

    sent : List Sending
    sent = announcements (clock t) k.vector.root k.vector.steps 1 fresh t.ports

    no_sync : (p : ℕ) → syncs_at p sent ≡ 0
    no_sync p =
        no_syncs Announcing announcing_apart sent
        (announcements_announce (clock t) k.vector.root k.vector.steps 1 fresh t.ports) p

    once : (i : ℕ) (q : Port) → slice_get fresh i ≡ Some true → slice_get t.ports i ≡ Some q
        → announces_at (suc i) sent ≡ 1
    once i q marked there =
        let such : Sending → Bool = λ x. is_announce x.body && x.port == suc i in
        let few =
        announcements_once such (suc i) (only_at (λ x. is_announce x.body) (suc i)) (clock t) k.vector.root
        k.vector.steps 1 fresh t.ports in
        let number : 1 + i ≡ suc i = omega arith in
        let some =
        count-some such sent
        (announcement (record { clock = clock t; port = 1 + i }) k.vector.root k.vector.steps q)
        (announcement_sent (clock t) k.vector.root k.vector.steps 1 fresh t.ports i q marked there)
        (eq-eqb (1 + i) (suc i) number) in
        omega arith

    never : (i : ℕ) → (slice_get fresh i ≡ Some true → ⊥) → announces_at (suc i) sent ≡ 0
    never i unmarked =
        count-none (λ x. is_announce x.body && x.port == suc i) sent
        (λ x member.
        elim (cases_Bool (is_announce x.body && x.port == suc i)) [
          | inl is ↦ absurd (let (j, q, marked, there, same) =
              from_announcements (clock t) k.vector.root k.vector.steps 1 fresh t.ports x member in
              let port : x.port ≡ 1 + j = ap (λ (y : Sending). y.port) same in
              let here = only_at (λ y. is_announce y.body) (suc i) x is in
              let place : j ≡ i = omega arith in
              unmarked (ap (slice_get fresh) (sym place) ∙ marked))
          | inr other ↦ other
        ])

    go : AreCounted t (choosing k.vector now t) sent
    go i q' there = by (all_announced-get now fresh t.ports i q' there)
      where
        by : Marked (announced_again now) (slice_get fresh i ≡ Some true) t.ports i q'
            → (q : Port) × (slice_get t.ports i ≡ Some q) × CountsSent (suc i) sent q q'
        by (q, was, inl (marked, new)) = (
          q,
          was,
          subst (CountsSent (suc i) sent q) (sym new)
              (announces_once (suc i) now sent q (once i q marked was) (no_sync (suc i))),
        )
        by (q, was, inr (unmarked, old)) = (
          q,
          was,
          stays (suc i) sent q q' (never i unmarked) (no_sync (suc i)) (ap (λ (x : Port). x.announces) old)
              (ap (λ (x : Port). x.syncs) old),
        )

-- the Announce timer's port announces once
pub announced_counted : (p now : ℕ) (s : SystemState) → AreCounted s (announced_at p now s) (announcement_at p s)
announced_counted p now s i q' there = go (change-get (announced_again now) p s.ports i q' there)
  where
    sent : Option Port → List Sending
    sent o = option_map_or (λ (q : Port). announcement (own s p) s.root s.steps q ∷ []) o []

    no_sync : (o : Option Port) → syncs_at (suc i) (sent o) ≡ 0
    no_sync None = refl
    no_sync (Some q) = refl

    once : (q : Port) → p ≡ suc i → announces_at (suc i) (sent (Some q)) ≡ 1
    once q here = rw (eq-eqb p (suc i) here) refl

    never : (o : Option Port) → (p ≡ suc i → ⊥) → announces_at (suc i) (sent o) ≡ 0
    never None other = refl
    never (Some q) other = let off : (p == suc i) ≡ false = grind (arith, nat_tests) in rw off refl

    go : Changed (announced_again now) (p ≡ suc i) s.ports i q'
        → (q : Port) × (slice_get s.ports i ≡ Some q) × CountsSent (suc i) (announcement_at p s) q q'
    go (q, was, inl (here, new)) =
        let stands = number-get s.ports p i q here was in (
          q,
          was,
          subst (CountsSent (suc i) (announcement_at p s) q) (sym new)
              (announces_once (suc i) now (announcement_at p s) q
              (ap (λ o. announces_at (suc i) (sent o)) stands ∙ once q here) (no_sync (number s.ports p))),
        )
    go (q, was, inr (elsewhere, old)) = (
      q,
      was,
      stays (suc i) (announcement_at p s) q q' (never (number s.ports p) elsewhere)
          (no_sync (number s.ports p)) (ap (λ (x : Port). x.announces) old) (ap (λ (x : Port). x.syncs) old),
    )

-- ---- Syncs

-- a Master port's Sync is sent
sync_sent : (c : ℕ) (log : ℤ) (told : Relayed) (n : ℕ) (hs : List Held) (qs : List Port) (i : ℕ) (h : Held) (q : Port)
    → slice_get hs i ≡ Some h → is_mine h ≡ true → slice_get qs i ≡ Some q
    → (x : Sending) × In x (syncs c log told n hs qs) × (x.port ≡ n + i) × (is_sync x.body ≡ true)
sync_sent c log told n [] qs i h q held mine there = absurd (none-some h held)
sync_sent c log told n (g ∷ hs) [] i h q held mine there = absurd (none-some q there)
sync_sent c log told n (g ∷ hs) (p ∷ qs) zero h q held mine there =
    let is : is_mine g ≡ true = ap is_mine (same_Some g h held) ∙ mine in
    (sync_of (record { clock = c; port = n }) log p, rw is (inl refl), omega arith, refl)
sync_sent c log told n (g ∷ hs) (p ∷ qs) (suc i) h q held mine there =
    let (x, member, port, is) = sync_sent c log told (n + 1) hs qs i h q held mine there in
    (x, behind x (is_mine g) member, omega arith, is)
  where
    behind : (x : Sending) (b : Bool) → In x (syncs c log told (n + 1) hs qs)
        → In x
        (if b
        then sync_of (record { clock = c; port = n }) log p ∷ follow_up_of (record { clock = c; port = n }) log told p
        ∷ syncs c log told (n + 1) hs qs
        else syncs c log told (n + 1) hs qs)
    behind x true member = inr (inr member)
    behind x false member = member

-- whatever tells time is of a Master port
from_syncs : (c : ℕ) (log : ℤ) (told : Relayed) (n : ℕ) (hs : List Held) (qs : List Port) (x : Sending)
    → In x (syncs c log told n hs qs)
    → (i : ℕ) × (h : Held) × (slice_get hs i ≡ Some h) × (is_mine h ≡ true) × (x.port ≡ n + i)
from_syncs c log told n [] qs x member = absurd member
from_syncs c log told n (h ∷ hs) [] x member = absurd member
from_syncs c log told n (h ∷ hs) (q ∷ qs) x member =
    go (is_mine h) refl (λ later. from_syncs c log told (n + 1) hs qs x later) member
  where
    Master : List Held → ℕ → Type 0
    Master gs m = (i : ℕ) × (g : Held) × (slice_get gs i ≡ Some g) × (is_mine g ≡ true) × (x.port ≡ m + i)

    behind : Master hs (n + 1) → Master (h ∷ hs) n
    behind (i, g, there, mine, port) = (suc i, g, there, mine, omega arith)

    first : is_mine h ≡ true → x.port ≡ n → Master (h ∷ hs) n
    first mine port = (zero, h, refl, mine, omega arith)

    go : (b : Bool) → is_mine h ≡ b → (In x (syncs c log told (n + 1) hs qs) → Master hs (n + 1))
        → In x
        (if b
        then sync_of (record { clock = c; port = n }) log q ∷ follow_up_of (record { clock = c; port = n }) log told q
        ∷ syncs c log told (n + 1) hs qs
        else syncs c log told (n + 1) hs qs)
        → Master (h ∷ hs) n
    go true mine ih (inl here) = first mine (ap (λ (y : Sending). y.port) here)
    go true mine ih (inr (inl here)) = first mine (ap (λ (y : Sending). y.port) here)
    go true mine ih (inr (inr later)) = behind (ih later)
    go false mine ih later = behind (ih later)

pub telling_counted : (told : Relayed) (s : SystemState) → AreCounted s (telling s) (told_by told s)
telling_counted told s i q' there = go (counted-get s.held s.ports i q' there)
  where
    sent : List Sending
    sent = told_by told s

    such : Sending → Bool
    such x = is_sync x.body && x.port == suc i

    no_announce : announces_at (suc i) sent ≡ 0
    no_announce =
        no_announces Telling telling_apart sent (syncs_tell (clock s) s.params.sync told 1 s.held s.ports) (suc i)

    pair : (own : PortId) (q : Port)
        → count_such such (sync_of own s.params.sync q ∷ follow_up_of own s.params.sync told q ∷ []) ≤ 1
    pair own q = one (own.port == suc i)
      where
        one : (b : Bool) → (if b then 1 else 0) ≤ 1
        one true = omega arith
        one false = omega arith

    once : (h : Held) (q : Port) → slice_get s.held i ≡ Some h → is_mine h ≡ true → slice_get s.ports i ≡ Some q
        → syncs_at (suc i) sent ≡ 1
    once h q held mine was =
        let few =
        syncs_once such (suc i) (only_at (λ x. is_sync x.body) (suc i)) s.params.sync told 1 pair (clock s) 1 s.held
        s.ports in
        let (x, member, port, is) =
        sync_sent (clock s) s.params.sync told 1 s.held s.ports i h q held mine was in
        let number : x.port ≡ suc i = omega arith in
        let some = count-some such sent x member (rw is (eq-eqb x.port (suc i) number)) in
        omega arith

    never : ((h : Held) × (slice_get s.held i ≡ Some h) × (is_mine h ≡ true) → ⊥) → syncs_at (suc i) sent ≡ 0
    never other =
        count-none such sent
        (λ x member.
        elim (cases_Bool (such x)) [
          | inl is ↦ absurd (let (j, h, stands, mine, port) =
              from_syncs (clock s) s.params.sync told 1 s.held s.ports x member in
              let here = only_at (λ y. is_sync y.body) (suc i) x is in
              let place : j ≡ i = omega arith in
              other (h, ap (slice_get s.held) (sym place) ∙ stands, mine))
          | inr off ↦ off
        ])

    go : Marked with_sync ((h : Held) × (slice_get s.held i ≡ Some h) × (is_mine h ≡ true)) s.ports i q'
        → (q : Port) × (slice_get s.ports i ≡ Some q) × CountsSent (suc i) sent q q'
    go (q, was, inl ((h, held, mine), new)) = (
      q,
      was,
      record {
        announces = ap (λ (x : Port). x.announces) new
            ∙ sym (ap (λ k. sequence_after k q.announces) no_announce);
        syncs = ap (λ (x : Port). x.syncs) new
            ∙ sym (ap (λ k. sequence_after k q.syncs) (once h q held mine was));
      },
    )
    go (q, was, inr (other, old)) = (
      q,
      was,
      stays (suc i) sent q q' no_announce (never other) (ap (λ (x : Port). x.announces) old)
          (ap (λ (x : Port). x.syncs) old),
    )
