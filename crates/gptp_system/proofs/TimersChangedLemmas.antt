-- What happens to one port, or to the identity, before a system selects.
use Rattle.std.proofs.Common.{◌≡◌, ◌≢◌, ℕ, suc, ◌+◌, ◌*◌, ◌%◌, ◌^◌, Bool, true, false, List, Option, Some, None, slice_get, refl, sym, ap, subst, ◌∙◌, inl, inr, arith}
use Rattle.std.specs.Prelude.{if◌then◌else◌, not}
use Rattle.std.specs.Option.{option_map_or}
use Rattle.std.proofs.lemmas.Option.{none-some, same_Some}
use Rattle.gptp_vector.specs.declared.port.PortId.{PortId}
use Rattle.gptp_messages.specs.declared.announce.AnnounceView.{AnnounceView}
use Rattle.gptp_receipt.specs.declared.held.Held.{Held}
use Rattle.gptp_receipt.specs.declared.held.Held.TheVariants as helds
use Rattle.gptp_receipt.specs.declared.held.Heard.{Heard}
use Rattle.gptp_receipt.specs.declared.held.Heard.TheVariants as heards
use Rattle.gptp_receipt.specs.declared.held.Reception.{Reception}
use Rattle.gptp_receipt.specs.Held.{CameTo, HoldsFor, aged, comparison, held_after, is_due, reception}
use Rattle.gptp_receipt.specs.Qualification.{Qualified}
use Rattle.gptp_receipt.specs.Span.{span_of}
use Rattle.gptp_pdelay.specs.Peer.{PeerState, is_capable}
use Rattle.gptp_system.specs.declared.port.Port.{Port}
use Rattle.gptp_system.specs.State.{SystemState, change, clock, held_at, number, on_held, on_port, own}
use Rattle.gptp_system.specs.Measuring.{down, held_if, held_turned, is_turned, silenced, turned}
use Rattle.gptp_system.specs.Announcing.{aged_at, aged_by, compared, replaces_held, with_priority}
use Rattle.gptp_system.specs.Facts.{AreHeld, AreShown, IsShown, Keeps}
use Rattle.gptp_system.proofs.ChangedLemmas.{Changed, change-get, change-length, change-map, change-same, number-get}
use Rattle.gptp_system.proofs.FactLemmas.{KeepsBeforeSelection}

-- what a port holds becomes something else that came to it
still_held : (p : ℕ) (g : Held → Held) (s : SystemState)
    → ((h : Held) → HoldsFor (own s p) h → HoldsFor (own s p) (g h))
    → AreHeld s → (i : ℕ) (h' : Held) → slice_get (change g p s.held) i ≡ Some h' → HoldsFor (own s (suc i)) h'
still_held p g s came a i h' stands = go (change-get g p s.held i h' stands)
  where
    go : Changed g (p ≡ suc i) s.held i h' → HoldsFor (own s (suc i)) h'
    go (h, was, inl (here, new)) =
        subst (λ n. HoldsFor (own s n) h') here
        (subst (HoldsFor (own s p)) (sym new) (came h (subst (λ n. HoldsFor (own s n) h) (sym here) (a i h was))))
    go (h, was, inr (elsewhere, old)) = subst (HoldsFor (own s (suc i))) (sym old) (a i h was)

-- a port's part is touched: what it holds and the port become others
pub record Touching (p : ℕ) (g : Held → Held) (f : Port → Port) (s : SystemState) : Type 0 where
  pub log : (q : Port) → (f q).log_interval ≡ q.log_interval
  pub came : (h : Held) → HoldsFor (own s p) h → HoldsFor (own s p) (g h)
  pub shows : (h : Held) (q : Port) → number s.held p ≡ Some h → number s.ports p ≡ Some q → IsShown h q
      → IsShown (g h) (f q)

pub touches : (p : ℕ) (g : Held → Held) (f : Port → Port) (s : SystemState) → Touching p g f s
    → KeepsBeforeSelection s (on_held p g (on_port p f s))
touches p g f s k = record { kept = kept; held = λ a. still_held p g s k.came a; shown = shown }
  where
    kept : Keeps s (on_held p g (on_port p f s))
    kept = record {
      params = refl;
      largest = refl;
      phase = refl;
      drift = refl;
      continues = refl;
      seed = refl;
      same_clock = refl;
      places = change-length g p s.held;
      logs = change-map (λ (q : Port). q.log_interval) f k.log p s.ports;
    }

    shown : AreShown s → AreShown (on_held p g (on_port p f s))
    shown a = record {
      places = change-length g p s.held ∙ a.places ∙ sym (change-length f p s.ports);
      each = λ i h' q' stands there. go i h' q' (change-get g p s.held i h' stands) (change-get f p s.ports i q' there);
    }
      where
        go : (i : ℕ) (h' : Held) (q' : Port) → Changed g (p ≡ suc i) s.held i h' → Changed f (p ≡ suc i) s.ports i q'
            → IsShown h' q'
        go i h' q' (h, held, inl (here, new)) (q, was, inl (same, port)) =
            rw (new, port)
            (k.shows h q (number-get s.held p i h here held) (number-get s.ports p i q here was)
            (a.each i h q held was))
        go i h' q' (h, held, inl (here, new)) (q, was, inr (elsewhere, port)) = absurd (elsewhere here)
        go i h' q' (h, held, inr (elsewhere, old)) (q, was, inl (here, port)) = absurd (elsewhere here)
        go i h' q' (h, held, inr (elsewhere, old)) (q, was, inr (other, port)) = rw (old, port) (a.each i h q held was)

-- the same where the port stays
pub holds_touches : (p : ℕ) (g : Held → Held) (s : SystemState)
    → ((h : Held) → HoldsFor (own s p) h → HoldsFor (own s p) (g h))
    → ((h : Held) → (h ≡ helds.Disabled → g h ≡ helds.Disabled))
    → ((h : Held) → h ≢ helds.Disabled → g h ≢ helds.Disabled) → KeepsBeforeSelection s (on_held p g s)
holds_touches p g s came off on = record {
  kept =
      record {
        params =
            refl;
        largest = refl;
        phase = refl;
        drift = refl;
        continues = refl;
        seed = refl;
        same_clock = refl;
        places = change-length g p s.held;
        logs = refl;
      };
  held = λ a. still_held p g s came a;
  shown = shown;
}
  where
    shown : AreShown s → AreShown (on_held p g s)
    shown a = record {
      places = change-length g p s.held ∙ a.places;
      each = λ i h' q stands there. go i h' q there (change-get g p s.held i h' stands);
    }
      where
        go : (i : ℕ) (h' : Held) (q : Port) → slice_get s.ports i ≡ Some q → Changed g (p ≡ suc i) s.held i h'
            → IsShown h' q
        go i h' q there (h, held, inl (here, new)) =
            let before = a.each i h q held there in
            record { off = λ e. new ∙ off h (before.off e); on = λ e same. on h (before.on e) (sym new ∙ same) }
        go i h' q there (h, held, inr (elsewhere, old)) = rw old (a.each i h q held there)

-- ---- a qualified Announce

received_on : (r : Reception) → helds.Received r ≡ helds.Disabled → ⊥
received_on r e = cc

heard_came : (own : PortId) (heard : Heard) (h : Held) (r : Reception) → CameTo own r → HoldsFor own h
    → HoldsFor own (held_after heard h r)
heard_came own heards.Superior h r came before = λ x is. subst (CameTo own) (same_Some r x is) came
heard_came own heards.Repeated h r came before = λ x is. subst (CameTo own) (same_Some r x is) came
heard_came own heards.Inferior h r came before = before

heard_on : (heard : Heard) (h : Held) (r : Reception) → h ≢ helds.Disabled → held_after heard h r ≢ helds.Disabled
heard_on heards.Superior h r on = received_on r
heard_on heards.Repeated h r on = received_on r
heard_on heards.Inferior h r on = on

qualified_came : (a : AnnounceView) (own : PortId) (now : ℕ) → Qualified a own.clock → CameTo own (reception a own now)
qualified_came a own now k =
    record { foreign = k.foreign; receiver = refl; near = k.near; no_loop = k.no_loop; short = k.short }

pub compared_touches : (p : ℕ) (a : AnnounceView) (now : ℕ) (s : SystemState) → Qualified a (clock s)
    → KeepsBeforeSelection s (compared p a now s)
compared_touches p a now s k =
    holds_touches p (λ h. held_after (comparison h (own s p) a) h (reception a (own s p) now)) s
    (λ h before. heard_came (own s p) (comparison h (own s p) a) h (reception a (own s p) now)
    (qualified_came a (own s p) now k) before)
    (λ h e. rw e refl)
    (λ h on. heard_on (comparison h (own s p) a) h (reception a (own s p) now) on)

-- an Announce that isn't taken changes nothing
not_taken : (heard : Heard) (h : Held) (r : Reception) → replaces_held heard ≡ false → held_after heard h r ≡ h
not_taken heards.Superior h r e = absurd cc
not_taken heards.Repeated h r e = absurd cc
not_taken heards.Inferior h r e = refl

pub compared_same : (p : ℕ) (a : AnnounceView) (now : ℕ) (s : SystemState)
    → replaces_held (comparison (held_at s p) (own s p) a) ≡ false → compared p a now s ≡ s
compared_same p a now s other =
    ap (λ (hs : List Held). put hs)
    (change-same (λ h. held_after (comparison h (own s p) a) h (reception a (own s p) now)) p s.held same)
  where
    put : List Held → SystemState
    put hs = record s { held = hs }

    same : (h : Held) → number s.held p ≡ Some h
        → held_after (comparison h (own s p) a) h (reception a (own s p) now) ≡ h
    same h stands =
        let here : held_at s p ≡ h = ap (λ o. option_map_or (λ x. x) o helds.Disabled) stands in
        not_taken (comparison h (own s p) a) h (reception a (own s p) now)
        (sym (ap (λ x. replaces_held (comparison x (own s p) a)) here) ∙ other)

-- ---- ageing

aged_came : (own : PortId) (h : Held) (span now : ℕ) → HoldsFor own h → HoldsFor own (aged h span now)
aged_came own h span now before = go (is_due h span now)
  where
    go : (b : Bool) → HoldsFor own (if b then helds.Aged else h)
    go true = λ r is. absurd (none-some r is)
    go false = before

aged_on : (h : Held) (span now : ℕ) → h ≢ helds.Disabled → aged h span now ≢ helds.Disabled
aged_on h span now on = go (is_due h span now)
  where
    go : (b : Bool) → (if b then helds.Aged else h) ≢ helds.Disabled
    go true = λ e. absurd cc
    go false = on

pub aged_touches : (p now : ℕ) (s : SystemState) → KeepsBeforeSelection s (aged_at p now s)
aged_touches p now s =
    holds_touches p (aged_by s.params s.largest now) s
    (λ h before. came h (span_of h s.params.timeout s.largest) before)
    (λ h e. rw e refl)
    (λ h on. shows h (span_of h s.params.timeout s.largest) on)
  where
    ages : Held → Option ℕ → Held
    ages h o = option_map_or (λ span. aged h span now) o h

    came : (h : Held) (o : Option ℕ) → HoldsFor (own s p) h → HoldsFor (own s p) (ages h o)
    came h None before = before
    came h (Some span) before = aged_came (own s p) h span now before

    shows : (h : Held) (o : Option ℕ) → h ≢ helds.Disabled → ages h o ≢ helds.Disabled
    shows h None on = on
    shows h (Some span) on = aged_on h span now on

-- ---- measuring

held_if_shows : (b : Bool) (q : Port) → is_capable q.peer ≡ b → IsShown (held_if b) q
held_if_shows true q is = record { off = λ e. absurd (let both = sym is ∙ e in cc); on = λ e same. absurd cc }
held_if_shows false q is = record { off = λ e. refl; on = λ e. absurd (let both = sym is ∙ e in cc) }

held_if_came : (own : PortId) (b : Bool) → HoldsFor own (held_if b)
held_if_came own true = λ r is. absurd (none-some r is)
held_if_came own false = λ r is. absurd (none-some r is)

pub turned_touches : (p : ℕ) (step : PeerState → PeerState) (s : SystemState) → KeepsBeforeSelection s (turned p step s)
turned_touches p step s =
    touches p (held_turned step (number s.ports p)) (λ (q : Port). record q { peer = step q.peer }) s
    (record { log = λ q. refl; came = λ h before. came (number s.ports p) h before; shows = shows })
  where
    came : (o : Option Port) (h : Held) → HoldsFor (own s p) h → HoldsFor (own s p) (held_turned step o h)
    came None h before = before
    came (Some q) h before = held_if_came (own s p) (is_capable (step q.peer))

    shows : (h : Held) (q : Port) → number s.held p ≡ Some h → number s.ports p ≡ Some q → IsShown h q
        → IsShown (held_turned step (number s.ports p) h) (record q { peer = step q.peer })
    shows h q held there before =
        let new : Port = record q { peer = step q.peer } in
        subst (λ o. IsShown (held_turned step o h) new) (sym there) (held_if_shows (is_capable (step q.peer)) new refl)

pub down_touches : (p : ℕ) (s : SystemState) → KeepsBeforeSelection s (down p s)
down_touches p s =
    touches p (λ h. helds.Disabled) silenced s
    (record {
      log = λ q. refl;
      came = λ h before r is. absurd (none-some r is);
      shows = λ h q held there before. record { off = λ e. refl; on = λ e. absurd (silent q e) };
    })
  where
    silent : (q : Port) → is_capable (silenced q).peer ≡ true → ⊥
    silent q e = cc

-- a step that turns nothing leaves the port as capable as it was
pub not_turned : (step : PeerState → PeerState) (q : Port) → is_turned step (Some q) ≡ false
    → is_capable (step q.peer) ≡ is_capable q.peer
not_turned step q same = go (is_capable q.peer) (is_capable (step q.peer)) same
  where
    go : (a b : Bool) → (if a then not b else b) ≡ false → b ≡ a
    go true true e = refl
    go true false e = absurd cc
    go false true e = absurd cc
    go false false e = refl

-- ---- priority1

low_octets : (value n : ℕ) → (value * 2 ^ 104 + n % 2 ^ 104) % 2 ^ 64 ≡ n % 2 ^ 64
low_octets value n = omega arith

pub priority_clock : (value : ℕ) (s : SystemState) → clock (with_priority value s) ≡ clock s
priority_clock value s = low_octets value s.identity

pub priority_touches : (value : ℕ) (s : SystemState) → KeepsBeforeSelection s (with_priority value s)
priority_touches value s = record {
  kept =
      record {
        params =
            refl;
        largest = refl;
        phase = refl;
        drift = refl;
        continues = refl;
        seed = refl;
        same_clock = priority_clock value s;
        places = refl;
        logs = refl;
      };
  held = λ a i h stands.
      subst (λ c. HoldsFor (record { clock = c; port = suc i }) h) (sym (priority_clock value s)) (a i h stands);
  shown = λ a. record { places = a.places; each = a.each };
}
