-- The two halves of a step: what a touch makes of the ports, and what is concluded from that.
use Rattle.std.proofs.Common.{◌≡◌, ◌≢◌, ◌⊎◌, ◌≤◌, ℕ, suc, ◌+◌, Bool, true, false, not, List, Option, Some, None, slice_get, nat_le, refl, sym, ap, subst, ◌∙◌, inl, inr, le-leb}
use Rattle.std.specs.Prelude.{if◌then◌else◌}
use Rattle.std.specs.Option.{option_map_or, option_and_then}
use Rattle.std.proofs.lemmas.Option.{none-some, same_Some}
use native.Mathlib.Decide.{ℕ_discrete}
use Rattle.gptp_lists.specs.Members.{In}
use Rattle.gptp_messages.specs.declared.announce.AnnounceView.{AnnounceView}
use Rattle.gptp_receipt.specs.declared.held.Held.{Held}
use Rattle.gptp_receipt.specs.declared.held.Held.TheVariants as helds
use Rattle.gptp_receipt.specs.Held.{comparison, held_after, reception}
use Rattle.gptp_receipt.specs.Qualification.{Qualified}
use Rattle.gptp_pdelay.specs.Peer.{PeerState, is_capable}
use Rattle.gptp_system.specs.declared.port.Port.{Port}
use Rattle.gptp_system.specs.declared.sending.Sending.{Sending}
use Rattle.gptp_setup.specs.declared.timer.Timer.TheVariants as timers
use Rattle.gptp_setup.specs.Intervals.{interval_of}
use Rattle.gptp_setup.specs.SettlingParams.{span_by}
use Rattle.gptp_system.specs.State.{SystemState, age_due, clock, due, held_at, is_capable_at, number, on_port, own}
use Rattle.gptp_system.specs.Measuring.{down, held_if, held_turned, is_turned, silenced, turned}
use Rattle.gptp_system.specs.Announcing.{aged_at, aged_by, compared, with_priority}
use Rattle.gptp_system.specs.Facts.{AreShown, IsShown}
use Rattle.gptp_system.specs.Touch.{Touch, Hear, Tick, Grow, Enable, Disable, Other, IsTurn, PortHoldsInTouch}
use Rattle.gptp_system.specs.Reacts.{IsAnnounce, IsOwnAnnounce, PlaceReacts, PortEnds, Reacts, PortAnnounces}
use Rattle.gptp_system.proofs.ChangedLemmas.{Changed, change-get, number-get}
use Rattle.gptp_system.proofs.EndLemmas.{Concludes, Ends}
use Rattle.gptp_system.proofs.TimersChangedLemmas.{priority_clock}

-- ---- ports that go on

-- a port that announces as before
abbrev pub GoesOn : List Port → ℕ → Port → Type 0
GoesOn qs i q' =
    (q : Port) × (slice_get qs i ≡ Some q) × (q'.log_interval ≡ q.log_interval) × (q'.announce ≡ q.announce)

pub on_port_goes_on : (p : ℕ) (f : Port → Port) (s : SystemState) → ((q : Port) → (f q).log_interval ≡ q.log_interval)
    → ((q : Port) → (f q).announce ≡ q.announce)
    → (i : ℕ) (q' : Port) → slice_get (on_port p f s).ports i ≡ Some q' → GoesOn s.ports i q'
on_port_goes_on p f s log announce i q' there = go (change-get f p s.ports i q' there)
  where
    go : Changed f (p ≡ suc i) s.ports i q' → GoesOn s.ports i q'
    go (q, was, inl (here, new)) =
        (q, was, ap (λ (x : Port). x.log_interval) new ∙ log q, ap (λ (x : Port). x.announce) new ∙ announce q)
    go (q, was, inr (elsewhere, old)) =
        (q, was, ap (λ (x : Port). x.log_interval) old, ap (λ (x : Port). x.announce) old)

-- ---- the first half

pub record Mids (s : SystemState) (touch : Touch) (now : ℕ) (t : SystemState) : Type 0 where
  pub same_clock : clock t ≡ clock s
  pub held : (i : ℕ) (mid : Held) → slice_get t.held i ≡ Some mid
      → (h : Held) × (slice_get s.held i ≡ Some h) × PortHoldsInTouch (clock s) (suc i) touch now h mid
  pub ports : (i : ℕ) (q' : Port) → slice_get t.ports i ≡ Some q' → GoesOn s.ports i q'

pub other_mids : (s : SystemState) (now : ℕ) → Mids s Other now s
other_mids s now = record {
  same_clock = refl;
  held = λ i mid there. (mid, there, refl);
  ports = λ i q there. (q, there, refl, refl);
}

pub tick_mids : (p : ℕ) (s : SystemState) (now : ℕ) → Mids s (Tick p) now s
tick_mids p s now = record {
  same_clock = refl;
  held = λ i mid there. (mid, there, refl);
  ports = λ i q there. (q, there, refl, refl);
}

pub priority_mids : (value : ℕ) (s : SystemState) (now : ℕ) → Mids s Other now (with_priority value s)
priority_mids value s now = record {
  same_clock = priority_clock value s;
  held = λ i mid there. (mid, there, refl);
  ports = λ i q there. (q, there, refl, refl);
}

-- a capable port isn't Disabled, and every other is
capable_port : (s : SystemState) (p : ℕ) → is_capable_at s p ≡ true
    → (q : Port) × (number s.ports p ≡ Some q) × (is_capable q.peer ≡ true)
capable_port s p on = go (number s.ports p) refl on
  where
    go : (o : Option Port) → number s.ports p ≡ o → option_map_or (λ (q : Port). is_capable q.peer) o false ≡ true
        → (q : Port) × (number s.ports p ≡ Some q) × (is_capable q.peer ≡ true)
    go None is e = absurd cc
    go (Some q) is e = (q, is, e)

number-place : {X : Type 0} (xs : List X) (p i : ℕ) (x : X) → p ≡ suc i → number xs p ≡ Some x → slice_get xs i ≡ Some x
number-place xs p i x here is = sym (ap (number xs) here) ∙ is

-- on a capable port an Announce is heard
pub heard_mids : (p : ℕ) (a : AnnounceView) (now : ℕ) (s : SystemState) → AreShown s → is_capable_at s p ≡ true
    → Qualified a (clock s) → Mids s (Hear p a) now (compared p a now s)
heard_mids p a now s shown on qualified = record {
  same_clock = refl;
  held = λ i mid there. go i mid (change-get f p s.held i mid there);
  ports = λ i q there. (q, there, refl, refl);
}
  where
    f : Held → Held
    f h = held_after (comparison h (own s p) a) h (reception a (own s p) now)

    go : (i : ℕ) (mid : Held) → Changed f (p ≡ suc i) s.held i mid
        → (h : Held) × (slice_get s.held i ≡ Some h) × PortHoldsInTouch (clock s) (suc i) (Hear p a) now h mid
    go i mid (h, was, inl (here, new)) =
        let (q, there, capable) = capable_port s p on in
        let showing = shown.each i h q was (number-place s.ports p i q here there) in
        (h, was, inl (sym here, showing.on capable, inl (qualified, subst (λ n. mid ≡ at n) here new)))
      where
        at : ℕ → Held
        at n = held_after (comparison h (own s n) a) h (reception a (own s n) now)
    go i mid (h, was, inr (elsewhere, old)) = (h, was, inr ((λ e. elsewhere (sym e)), old))

-- where it isn't qualified it changes nothing
pub unheard_mids : (p : ℕ) (a : AnnounceView) (now : ℕ) (s : SystemState) → AreShown s → is_capable_at s p ≡ true
    → (Qualified a (clock s) → ⊥) → Mids s (Hear p a) now s
unheard_mids p a now s shown on unqualified = record {
  same_clock = refl;
  held = λ i mid there. (mid, there, go i mid there (ℕ_discrete (suc i) p));
  ports = λ i q there. (q, there, refl, refl);
}
  where
    go : (i : ℕ) (mid : Held) → slice_get s.held i ≡ Some mid → Dec (suc i ≡ p)
        → PortHoldsInTouch (clock s) (suc i) (Hear p a) now mid mid
    go i mid there (yes here) =
        let (q, stands, capable) = capable_port s p on in
        let showing = shown.each i mid q there (number-place s.ports p i q (sym here) stands) in
        inl (here, showing.on capable, inr (unqualified, refl))
    go i mid there (no elsewhere) = inr (elsewhere, refl)

-- what is held grew too old
pub aged_mids : (p now t : ℕ) (s : SystemState) → due (timers.Age p) s ≡ Some t → t ≤ now
    → Mids s (Grow p) now (aged_at p now s)
aged_mids p now t s is past = record {
  same_clock = refl;
  held = λ i mid stands. at i mid (change-get ages p s.held i mid stands);
  ports = λ i x stands. (x, stands, refl, refl);
}
  where
    ages : Held → Held
    ages = aged_by s.params s.largest now

    grown : (h : Held) → age_due s.params s.largest h ≡ Some t → ages h ≡ helds.Aged
    grown helds.Disabled e = absurd (none-some t e)
    grown helds.Aged e = absurd (none-some t e)
    grown (helds.Mine root steps) e = absurd (none-some t e)
    grown (helds.Received r) e =
        let end : ℕ = r.at + span_by s.params.timeout s.largest r.interval in
        let late : nat_le end now ≡ true = le-leb end now (subst (λ x. x ≤ now) (sym (same_Some end t e)) past) in
        rw late refl

    held_due : (o : Option Port) → option_and_then (λ (q : Port). age_due s.params s.largest (held_at s p)) o ≡ Some t
        → age_due s.params s.largest (held_at s p) ≡ Some t
    held_due None e = absurd (none-some t e)
    held_due (Some q) e = e

    at : (i : ℕ) (mid : Held) → Changed ages (p ≡ suc i) s.held i mid
        → (h : Held) × (slice_get s.held i ≡ Some h) × PortHoldsInTouch (clock s) (suc i) (Grow p) now h mid
    at i mid (h, was, inl (here, new)) =
        let holds : held_at s p ≡ h =
        ap (λ x. option_map_or (λ y. y) x helds.Disabled) (number-get s.held p i h here was) in
        let end = ap (age_due s.params s.largest) (sym holds) ∙ held_due (number s.ports p) is in
        (h, was, inl (sym here, new ∙ grown h end))
    at i mid (h, was, inr (elsewhere, old)) = (h, was, inr ((λ x. elsewhere (sym x)), old))

-- the measuring ends or begins
abbrev turn_of : ℕ → Bool → Touch
turn_of p true = Enable p
turn_of p false = Disable p

is_turn : (p : ℕ) (b : Bool) → IsTurn p (turn_of p b)
is_turn p true = inl refl
is_turn p false = inr (inl refl)

turned_from : (step : PeerState → PeerState) (q : Port) → is_turned step (Some q) ≡ true
    → is_capable (step q.peer) ≡ true → is_capable q.peer ≡ false
turned_from step q changes on = go (is_capable q.peer) (is_capable (step q.peer)) changes on
  where
    go : (a b : Bool) → (if a then not b else b) ≡ true → b ≡ true → a ≡ false
    go true true e on = absurd cc
    go true false e on = absurd cc
    go false b e on = refl

pub turned_mids : (p : ℕ) (step : PeerState → PeerState) (now : ℕ) (s : SystemState) → AreShown s
    → is_turned step (number s.ports p) ≡ true → (touch : Touch) × IsTurn p touch × Mids s touch now (turned p step s)
turned_mids p step now s shown is = go (number s.ports p) refl is
  where
    go : (o : Option Port) → number s.ports p ≡ o → is_turned step o ≡ true
        → (touch : Touch) × IsTurn p touch × Mids s touch now (turned p step s)
    go None there e = absurd cc
    go (Some q) there e = (
      turn_of p (is_capable (step q.peer)),
      is_turn p (is_capable (step q.peer)),
      record {
        same_clock = refl;
        held = λ i mid stands. at i mid (change-get (held_turned step (number s.ports p)) p s.held i mid stands);
        ports = on_port_goes_on p (λ (x : Port). record x { peer = step x.peer }) s (λ x. refl) (λ x. refl);
      },
    )
      where
        here_mid : (n : ℕ) (h mid : Held) (b : Bool) → is_capable (step q.peer) ≡ b → n ≡ p → IsShown h q
            → mid ≡ held_if b
            → PortHoldsInTouch (clock s) n (turn_of p b) now h mid
        here_mid n h mid true on same showing new = inl (same, showing.off (turned_from step q e on), new)
        here_mid n h mid false off same showing new = inl (same, new)

        other_mid : (n : ℕ) (h mid : Held) (b : Bool) → (n ≢ p) → mid ≡ h
            → PortHoldsInTouch (clock s) n (turn_of p b) now h mid
        other_mid n h mid true elsewhere old = inr (elsewhere, old)
        other_mid n h mid false elsewhere old = inr (elsewhere, old)

        at : (i : ℕ) (mid : Held) → Changed (held_turned step (number s.ports p)) (p ≡ suc i) s.held i mid
            → (h : Held) × (slice_get s.held i ≡ Some h)
            × PortHoldsInTouch (clock s) (suc i) (turn_of p (is_capable (step q.peer))) now h mid
        at i mid (h, was, inl (here, new)) = (
          h,
          was,
          here_mid (suc i) h mid (is_capable (step q.peer)) refl (sym here)
              (shown.each i h q was (number-place s.ports p i q here there)) (new
              ∙ ap (λ o. held_turned step o h) there),
        )
        at i mid (h, was, inr (elsewhere, old)) =
            (h, was, other_mid (suc i) h mid (is_capable (step q.peer)) (λ x. elsewhere (sym x)) old)

pub down_mids : (p now : ℕ) (s : SystemState) → Mids s (Disable p) now (down p s)
down_mids p now s = record {
  same_clock = refl;
  held = λ i mid stands. at i mid (change-get (λ h. helds.Disabled) p s.held i mid stands);
  ports = on_port_goes_on p silenced s (λ q. refl) (λ q. refl);
}
  where
    at : (i : ℕ) (mid : Held) → Changed (λ h. helds.Disabled) (p ≡ suc i) s.held i mid
        → (h : Held) × (slice_get s.held i ≡ Some h) × PortHoldsInTouch (clock s) (suc i) (Disable p) now h mid
    at i mid (h, was, inl (here, new)) = (h, was, inl (sym here, new))
    at i mid (h, was, inr (elsewhere, old)) = (h, was, inr ((λ x. elsewhere (sym x)), old))

-- ---- the second half goes on

-- a later state, in which nothing that announcing reads has changed
pub record Later (u s' : SystemState) : Type 0 where
  pub same_clock : clock s' ≡ clock u
  pub held : s'.held ≡ u.held
  pub root : s'.root ≡ u.root
  pub steps : s'.steps ≡ u.steps
  pub ports : (i : ℕ) (q' : Port) → slice_get s'.ports i ≡ Some q' → GoesOn u.ports i q'

-- sends with others among them that aren't Announces
pub record SendsMore (sends more : List Sending) : Type 0 where
  pub among : (x : Sending) → In x sends → In x more
  pub from : (x : Sending) → In x more → IsAnnounce x.body → In x sends

pub concludes_on : (t : SystemState) (now : ℕ) (u s' : SystemState) (sends more : List Sending)
    → Concludes t now u sends → Later u s'
    → SendsMore sends more → Concludes t now s' more
concludes_on t now u s' sends more c l m = record {
  same_clock = l.same_clock ∙ c.same_clock;
  ports = λ i h' q' stands there. ports i h' q' (ap (λ hs. slice_get hs i) (sym l.held) ∙ stands) (l.ports i q' there);
  tells = λ x member announce. tells x (c.tells x (m.from x member announce) announce);
}
  where
    tells : (x : Sending) → IsOwnAnnounce u x → IsOwnAnnounce s' x
    tells x o = record {
      place = o.place;
      port = o.port;
      number_is = o.number_is;
      holds = rw (l.held, l.root, l.steps) o.holds;
      is = rw (l.same_clock, l.root, l.steps) o.is;
      log = λ q there. let (p, was, same, announce) = l.ports o.place q there in same ∙ o.log p was;
    }

    still : (n : ℕ) (mid h' : Held) (q p q' : Port) → q'.log_interval ≡ p.log_interval → q'.announce ≡ p.announce
        → PortEnds (clock t) n now u.root u.steps mid h' q p sends
        → PortEnds (clock t) n now s'.root s'.steps mid h' q q' more
    still n mid h' q p q' log announce (inl kept) = inl kept
    still n mid h' q p q' log announce (inr k) =
        rw (l.root, l.steps)
        (inr (record { mine = k.mine; on = k.on; is_lower = k.is_lower; timing = timing k.timing }))
      where
        timing : (((mid ≡ helds.Mine u.root u.steps) × (p.announce ≡ q.announce)) ⊎ PortAnnounces n now q p sends)
            → ((mid ≡ helds.Mine u.root u.steps) × (q'.announce ≡ q.announce)) ⊎ PortAnnounces n now q q' more
        timing (inl (mine, same)) = inl (mine, announce ∙ same)
        timing (inr k) =
            let (x, member, number, is) = k.sent in
            inr (record { sent = (x, m.among x member, number, is); timer = announce ∙ k.timer })

    ports : (i : ℕ) (h' : Held) (q' : Port) → slice_get u.held i ≡ Some h' → GoesOn u.ports i q'
        → Ends t now s' more i h' q'
    ports i h' q' stands (p, there, log, announce) =
        let e = c.ports i h' p stands there in
        record {
          mid = e.mid;
          port = e.port;
          mid_there = e.mid_there;
          port_there = e.port_there;
          log = log ∙ e.log;
          ends = still (suc i) e.mid h' e.port p q' log announce e.ends;
        }

-- ---- both halves

pub joined : (s : SystemState) (touch : Touch) (now : ℕ) (t s' : SystemState) (sends : List Sending)
    → Mids s touch now t
    → Concludes t now s' sends → Reacts s touch now s' sends
joined s touch now t s' sends m c =
    record { same_clock = c.same_clock ∙ m.same_clock; ports = ports; tells = c.tells }
  where
    from_here : (n : ℕ) (mid h' : Held) (q p q' : Port) → p.log_interval ≡ q.log_interval → p.announce ≡ q.announce
        → PortEnds (clock t) n now s'.root s'.steps mid h' p q' sends
        → PortEnds (clock s) n now s'.root s'.steps mid h' q q' sends
    from_here n mid h' q p q' log announce (inl kept) = inl kept
    from_here n mid h' q p q' log announce (inr k) =
        inr (record {
          mine = k.mine;
          on = k.on;
          is_lower = rw m.same_clock at k.is_lower;
          timing = timing k.timing;
        })
      where
        timing : (((mid ≡ helds.Mine s'.root s'.steps) × (q'.announce ≡ p.announce)) ⊎ PortAnnounces n now p q' sends)
            → ((mid ≡ helds.Mine s'.root s'.steps) × (q'.announce ≡ q.announce)) ⊎ PortAnnounces n now q q' sends
        timing (inl (mine, same)) = inl (mine, same ∙ announce)
        timing (inr k) = inr (record { sent = k.sent; timer = k.timer ∙ ap (λ l. now + interval_of l) log })

    ports : (i : ℕ) (h' : Held) (q' : Port) → slice_get s'.held i ≡ Some h' → slice_get s'.ports i ≡ Some q'
        → PlaceReacts s touch now s' sends i h' q'
    ports i h' q' stands there =
        let e = c.ports i h' q' stands there in
        let (h, held, before) = m.held i e.mid e.mid_there in
        let (q, was, log, announce) = m.ports i e.port e.port_there in
        record {
          held = h;
          port = q;
          held_there = held;
          port_there = was;
          reacts = record {
            log = e.log ∙ log;
            mid = e.mid;
            before = before;
            after = from_here (suc i) e.mid h' q e.port q' log announce e.ends;
          };
        }
