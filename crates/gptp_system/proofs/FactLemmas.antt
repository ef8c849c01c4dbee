-- How one state follows another such that what is true of the one is true of the other.
use Rattle.std.proofs.Common.{◌≡◌, ◌≢◌, ◌⊎◌, ℕ, suc, ◌+◌, true, List, [], ◌∷◌, length, map, ℤ, Some, None, slice_get, refl, sym, ap, subst, ◌∙◌, inl, inr, arith}
use Rattle.std.proofs.lemmas.Option.{none-some}
use Rattle.std.proofs.lemmas.Bool.{cases_Bool}
use Rattle.gptp_vector.specs.declared.vector.Vector.{Vector}
use Rattle.gptp_receipt.specs.declared.held.Held.{Held}
use Rattle.gptp_receipt.specs.declared.held.Held.TheVariants as helds
use Rattle.gptp_receipt.specs.Held.{HoldsFor, received}
use Rattle.gptp_roles.specs.Choice.{ArePlaced, IsChosen}
use Rattle.gptp_roles.specs.Role.{held_after_selection, is_master, chosen_role}
use Rattle.gptp_roles.specs.Selection.{clock_of}
use Rattle.gptp_roles.proofs.EachLemmas.{length-each_from}
use Rattle.gptp_roles.proofs.RestLemmas.{at_rest}
use Rattle.gptp_roles.proofs.RoleLemmas.{held_after-kept, held_after-master, received-held_after}
use Rattle.gptp_pdelay.specs.Peer.{is_capable}
use Rattle.gptp_system.specs.declared.port.Port.{Port}
use Rattle.gptp_system.specs.declared.sending.Sending.{Sending}
use Rattle.gptp_system.specs.State.{SystemState, change, clock, number, on_port, own}
use Rattle.gptp_system.specs.Selection.{Selects, announced_again, choosing, fresh_ports}
use Rattle.gptp_system.specs.Facts.{AreHeld, AreShown, IsAtRest, IsShown, Keeps, intervals}
use Rattle.gptp_system.proofs.ChangedLemmas.{Changed, change-get, change-map, each_port-get, number-get}
use Rattle.gptp_system.proofs.PortLemmas.{Marked, all_announced-get, all_announced-map}

length-map : {X Y : Type 0} (f : X → Y) (xs : List X) → length (map f xs) ≡ length xs
length-map f [] = refl
length-map f (x ∷ xs) = let ih = length-map f xs in omega arith

-- ---- what is kept

pub keeps_on : (s t u : SystemState) → Keeps s t → Keeps t u → Keeps s u
keeps_on s t u a b = record {
  params = b.params ∙ a.params;
  largest = b.largest ∙ a.largest;
  phase = b.phase ∙ a.phase;
  drift = b.drift ∙ a.drift;
  continues = b.continues ∙ a.continues;
  seed = b.seed ∙ a.seed;
  same_clock = b.same_clock ∙ a.same_clock;
  places = b.places ∙ a.places;
  logs = b.logs ∙ a.logs;
}

-- there are as many ports as before
pub keeps_length : (s s' : SystemState) → Keeps s s' → length s'.ports ≡ length s.ports
keeps_length s s' k =
    let log : Port → ℤ = λ q. q.log_interval in
    sym (length-map log s'.ports) ∙ ap length k.logs ∙ length-map log s.ports

-- ---- from one state to another

-- what holds of the one holds of the other
pub record Sound (s s' : SystemState) : Type 0 where
  pub kept : Keeps s s'
  pub held : AreHeld s → AreHeld s'
  pub shown : AreShown s → AreShown s'
  pub rest : AreHeld s → IsAtRest s → IsAtRest s'

-- the same before it is selected
pub record KeepsBeforeSelection (s t : SystemState) : Type 0 where
  pub kept : Keeps s t
  pub held : AreHeld s → AreHeld t
  pub shown : AreShown s → AreShown t

-- sound, and the identity stays
pub record Steady (s s' : SystemState) : Type 0 where
  pub sound : Sound s s'
  pub identity : s'.identity ≡ s.identity

pub steady_on : (s t u : SystemState) → Steady s t → Steady t u → Steady s u
steady_on s t u a b = record {
  sound = record {
    kept = keeps_on s t u a.sound.kept b.sound.kept;
    held = λ h. b.sound.held (a.sound.held h);
    shown = λ h. b.sound.shown (a.sound.shown h);
    rest = λ h r. b.sound.rest (a.sound.held h) (a.sound.rest h r);
  };
  identity = b.identity ∙ a.identity;
}

-- ---- states that choose nothing else

-- nothing that selection reads or that a port shows has changed
pub record Quiet (s s' : SystemState) : Type 0 where
  pub params : s'.params ≡ s.params
  pub largest : s'.largest ≡ s.largest
  pub phase : s'.phase ≡ s.phase
  pub drift : s'.drift ≡ s.drift
  pub continues : s'.continues ≡ s.continues
  pub seed : s'.seed ≡ s.seed
  pub identity : s'.identity ≡ s.identity
  pub held : s'.held ≡ s.held
  pub root : s'.root ≡ s.root
  pub steps : s'.steps ≡ s.steps
  pub slave : s'.slave ≡ s.slave
  pub logs : intervals s' ≡ intervals s
  pub alike : (i : ℕ) (q' : Port) → slice_get s'.ports i ≡ Some q'
      → (q : Port) × (slice_get s.ports i ≡ Some q) × (is_capable q'.peer ≡ is_capable q.peer)

pub quiet_keeps : (s s' : SystemState) → Quiet s s' → Keeps s s'
quiet_keeps s s' k = record {
  params = k.params;
  largest = k.largest;
  phase = k.phase;
  drift = k.drift;
  continues = k.continues;
  seed = k.seed;
  same_clock = ap clock_of k.identity;
  places = ap length k.held;
  logs = k.logs;
}

-- what stands at the places of two lists is shown by the second
quiet_shown : (s s' : SystemState) → Quiet s s' → AreShown s → AreShown s'
quiet_shown s s' k a = record {
  places = ap length k.held ∙ a.places ∙ sym (keeps_length s s' (quiet_keeps s s' k));
  each = λ i h q' stands there.
      let (q, was, same) = k.alike i q' there in
      let before = a.each i h q (ap (λ hs. slice_get hs i) (sym k.held) ∙ stands) was in
      record { off = λ e. before.off (sym same ∙ e); on = λ e. before.on (sym same ∙ e) };
}

quiet_held : (s s' : SystemState) → Quiet s s' → AreHeld s → AreHeld s'
quiet_held s s' k a i h stands =
    let before = a i h (ap (λ hs. slice_get hs i) (sym k.held) ∙ stands) in
    subst (λ c. HoldsFor (record { clock = c; port = suc i }) h) (sym (ap clock_of k.identity)) before

quiet_rest : (s s' : SystemState) → Quiet s s' → IsAtRest s → IsAtRest s'
quiet_rest s s' k r = record {
  vector = r.vector;
  is_chosen = rw (k.identity, k.held) r.is_chosen;
  stays = rw (k.identity, k.held) r.stays;
  root = k.root ∙ r.root;
  steps = k.steps ∙ r.steps;
  slave = k.slave ∙ r.slave;
}

pub quiet_steady : (s s' : SystemState) → Quiet s s' → Steady s s'
quiet_steady s s' k = record {
  sound = record {
    kept = quiet_keeps s s' k;
    held = quiet_held s s' k;
    shown = quiet_shown s s' k;
    rest = λ h r. quiet_rest s s' k r;
  };
  identity = k.identity;
}

-- only the ports change: their announce intervals don't, nor does which of them are asCapable
pub ports_quiet : (s : SystemState) (qs : List Port) → map (λ (q : Port). q.log_interval) qs ≡ intervals s
    → ((i : ℕ) (q' : Port) → slice_get qs i ≡ Some q'
    → (q : Port) × (slice_get s.ports i ≡ Some q) × (is_capable q'.peer ≡ is_capable q.peer))
    → Quiet s (record s { ports = qs })
ports_quiet s qs logs alike = record {
  params = refl;
  largest = refl;
  phase = refl;
  drift = refl;
  continues = refl;
  seed = refl;
  identity = refl;
  held = refl;
  root = refl;
  steps = refl;
  slave = refl;
  logs = logs;
  alike = alike;
}

-- so it is where one port becomes another
pub on_port_quiet : (p : ℕ) (f : Port → Port) (s : SystemState) → ((q : Port) → (f q).log_interval ≡ q.log_interval)
    → ((q : Port) → number s.ports p ≡ Some q → is_capable (f q).peer ≡ is_capable q.peer) → Quiet s (on_port p f s)
on_port_quiet p f s log same =
    ports_quiet s (change f p s.ports) (change-map (λ (q : Port). q.log_interval) f log p s.ports)
    (λ i q' there. go i q' (change-get f p s.ports i q' there))
  where
    go : (i : ℕ) (q' : Port) → Changed f (p ≡ suc i) s.ports i q'
        → (q : Port) × (slice_get s.ports i ≡ Some q) × (is_capable q'.peer ≡ is_capable q.peer)
    go i q' (q, was, inl (here, new)) =
        (q, was, ap (λ (x : Port). is_capable x.peer) new ∙ same q (number-get s.ports p i q here was))
    go i q' (q, was, inr (elsewhere, old)) = (q, was, ap (λ (x : Port). is_capable x.peer) old)

-- ---- selection

-- a port that isn't Disabled doesn't become so
held_after-on : (v : Vector) (c p : ℕ) (h : Held) → h ≢ helds.Disabled → held_after_selection v c p h ≢ helds.Disabled
held_after-on v c p h on =
    elim (cases_Bool (is_master (chosen_role v c p h))) [
      | inl master ↦ λ e. absurd (mine_on (sym (held_after-master v c p h master) ∙ e))
      | inr other ↦ λ e. on (sym (held_after-kept v c p h other) ∙ e)
    ]
  where
    mine_on : helds.Mine v.root v.steps ≡ helds.Disabled → ⊥
    mine_on e = cc

shown_after : (v : Vector) (c p : ℕ) (h : Held) (q : Port) → IsShown h q → IsShown (held_after_selection v c p h) q
shown_after v c p h q a = record {
  off = λ e. ap (held_after_selection v c p) (a.off e);
  on = λ e. held_after-on v c p h (a.on e);
}

choosing_keeps : (v : Vector) (now : ℕ) (s : SystemState) → Keeps s (choosing v now s)
choosing_keeps v now s = record {
  params = refl;
  largest = refl;
  phase = refl;
  drift = refl;
  continues = refl;
  seed = refl;
  same_clock = refl;
  places = length-each_from (held_after_selection v (clock s)) 1 s.held;
  logs = all_announced-map (λ (q : Port). q.log_interval) now (λ q. refl) (fresh_ports v s) s.ports;
}

choosing_held : (v : Vector) (now : ℕ) (s : SystemState) → AreHeld s → AreHeld (choosing v now s)
choosing_held v now s a i h' stands =
    let (h, was, new) = each_port-get (held_after_selection v (clock s)) s.held i h' stands in
    subst (HoldsFor (own s (suc i))) (sym new) (go h (a i h was) (received-held_after v (clock s) (suc i) h))
  where
    go : (h : Held) → HoldsFor (own s (suc i)) h
        → ((received (held_after_selection v (clock s) (suc i) h) ≡ received h)
        ⊎ (received (held_after_selection v (clock s) (suc i) h) ≡ None))
        → HoldsFor (own s (suc i)) (held_after_selection v (clock s) (suc i) h)
    go h came (inl same) = λ r is. came r (sym same ∙ is)
    go h came (inr none) = λ r is. absurd (none-some r (sym none ∙ is))

choosing_shown : (v : Vector) (now : ℕ) (s : SystemState) → AreShown s → AreShown (choosing v now s)
choosing_shown v now s a = record {
  places = length-each_from (held_after_selection v (clock s)) 1 s.held ∙ a.places
      ∙ sym (keeps_length s (choosing v now s) (choosing_keeps v now s));
  each = λ i h' q' stands there.
      let (h, held, new) = each_port-get (held_after_selection v (clock s)) s.held i h' stands in
      subst (λ x. IsShown x q') (sym new) (go i h q' held (all_announced-get now (fresh_ports v s) s.ports i q' there));
}
  where
    go : (i : ℕ) (h : Held) (q' : Port) → slice_get s.held i ≡ Some h
        → Marked (announced_again now) (slice_get (fresh_ports v s) i ≡ Some true) s.ports i q'
        → IsShown (held_after_selection v (clock s) (suc i) h) q'
    go i h q' held (q, was, inl (fresh, new)) =
        subst (IsShown (held_after_selection v (clock s) (suc i) h)) (sym new)
        (announced_shown (shown_after v (clock s) (suc i) h q (a.each i h q held was)))
      where
        announced_shown : IsShown (held_after_selection v (clock s) (suc i) h) q
            → IsShown (held_after_selection v (clock s) (suc i) h) (announced_again now q)
        announced_shown b = record { off = b.off; on = b.on }
    go i h q' held (q, was, inr (other, old)) =
        subst (IsShown (held_after_selection v (clock s) (suc i) h)) (sym old)
        (shown_after v (clock s) (suc i) h q (a.each i h q held was))

-- what the ports hold as received was received there
pub placed_from : (c n : ℕ) (hs : List Held)
    → ((i : ℕ) (h : Held) (p : ℕ) → n + i ≡ p → slice_get hs i ≡ Some h → HoldsFor (record { clock = c; port = p }) h)
    → ArePlaced n hs
placed_from c n [] came = tt
placed_from c n (h ∷ hs) came =
    let first = came 0 h n (omega arith) refl in (
      λ r is. let there = first r is in record { receiver = there.receiver; near = there.near; short = there.short },
      placed_from c (n + 1) hs (λ i g p number there. came (suc i) g p (omega arith) there),
    )

pub are_placed : (s : SystemState) → AreHeld s → ArePlaced 1 s.held
are_placed s a =
    placed_from (clock s) 1 s.held
    (λ i h p number there.
    let e : suc i ≡ p = omega arith in
    subst (λ n. HoldsFor (record { clock = clock s; port = n }) h) e (a i h there))

choosing_rest : (v : Vector) (now : ℕ) (s : SystemState) → AreHeld s → IsChosen s.identity s.held v
    → IsAtRest (choosing v now s)
choosing_rest v now s a chosen =
    let r = at_rest s.identity s.held v (are_placed s a) chosen in
    record { vector = v; is_chosen = r.is_chosen; stays = sym r.held; root = refl; steps = refl; slave = refl }

-- a state whose ports were touched and that then selects
pub selects_rest : (now : ℕ) (t u : SystemState) (sends : List Sending) → AreHeld t → Selects now t u sends → IsAtRest u
selects_rest now t u sends a k = subst IsAtRest (sym k.state) (choosing_rest k.vector now t a k.is_chosen)

pub selects_sound : (now : ℕ) (s t u : SystemState) (sends : List Sending) → KeepsBeforeSelection s t
    → Selects now t u sends
    → Sound s u
selects_sound now s t u sends m k =
    let v = k.vector in
    subst (Sound s) (sym k.state)
    (record {
      kept = keeps_on s t (choosing v now t) m.kept (choosing_keeps v now t);
      held = λ h. choosing_held v now t (m.held h);
      shown = λ h. choosing_shown v now t (m.shown h);
      rest = λ h r. choosing_rest v now t (m.held h) k.is_chosen;
    })

pub selects_steady : (now : ℕ) (s t u : SystemState) (sends : List Sending) → KeepsBeforeSelection s t
    → t.identity ≡ s.identity
    → Selects now t u sends
    → Steady s u
selects_steady now s t u sends m same k =
    record { sound = selects_sound now s t u sends m k; identity = ap (λ (x : SystemState). x.identity) k.state ∙ same }
