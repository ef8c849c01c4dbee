-- Which changes of a state leave which timers due when they were.
use Rattle.std.proofs.Common.{◌≡◌, ℕ, zero, suc, Bool, false, List, [], ◌∷◌, map, Option, Some, None, slice_get, refl, sym, ap, subst, ◌∙◌, eq-eqb}
use Rattle.std.specs.Option.{option_and_then, option_map_or}
use Rattle.gptp_receipt.specs.declared.held.Held.{Held}
use Rattle.gptp_receipt.specs.declared.held.Held.TheVariants as helds
use Rattle.gptp_system.specs.declared.port.Port.{Port}
use Rattle.gptp_system.specs.declared.sending.Sending.{Sending}
use Rattle.gptp_setup.specs.declared.timer.Timer.{Timer}
use Rattle.gptp_setup.specs.declared.timer.Timer.TheVariants as timers
use Rattle.gptp_system.specs.State.{SystemState, age_due, announce_due, change, change_at, held_at, number, on_held, on_port}
use Rattle.gptp_system.specs.Selection.{Selects, all_announced, choosing, fresh_ports}
use Rattle.gptp_system.specs.Syncing.{counted_by_rates, telling}
use Rattle.gptp_system.specs.Reach.{Leaves, is_selected, same_timer}
use Rattle.gptp_system.proofs.PortLemmas.{all_announced-map, counted-map, with_sync}

-- ---- places

at_map : {X : Type 0} (g : X → Option ℕ) (xs : List X) (i : ℕ)
    → option_and_then g (slice_get xs i) ≡ option_and_then (λ y. y) (slice_get (map g xs) i)
at_map g [] i = refl
at_map g (x ∷ xs) zero = refl
at_map g (x ∷ xs) (suc i) = at_map g xs i

-- where all members give the same, so does that at a number
same_number : {X : Type 0} (g : X → Option ℕ) (xs ys : List X) → map g xs ≡ map g ys → (p : ℕ)
    → option_and_then g (number xs p) ≡ option_and_then g (number ys p)
same_number g xs ys same zero = refl
same_number g xs ys same (suc i) =
    at_map g xs i ∙ ap (λ zs. option_and_then (λ y. y) (slice_get zs i)) same ∙ sym (at_map g ys i)

changed_at : {X : Type 0} (g : X → Option ℕ) (f : X → X) (j : ℕ) (xs : List X) (i : ℕ)
    → ((x : X) → i ≡ j → slice_get xs i ≡ Some x → g (f x) ≡ g x)
    → option_and_then g (slice_get (change_at f j xs) i) ≡ option_and_then g (slice_get xs i)
changed_at g f j [] i same = refl
changed_at g f zero (x ∷ xs) zero same = same x refl refl
changed_at g f zero (x ∷ xs) (suc i) same = refl
changed_at g f (suc j) (x ∷ xs) zero same = refl
changed_at g f (suc j) (x ∷ xs) (suc i) same = changed_at g f j xs i (λ y here there. same y (ap suc here) there)

-- where the member at the number gives the same, so does every other
changed_number : {X : Type 0} (g : X → Option ℕ) (f : X → X) (p : ℕ) (xs : List X) (n : ℕ)
    → ((x : X) → n ≡ p → number xs n ≡ Some x → g (f x) ≡ g x)
    → option_and_then g (number (change f p xs) n) ≡ option_and_then g (number xs n)
changed_number g f zero xs n same = refl
changed_number g f (suc j) xs zero same = refl
changed_number g f (suc j) xs (suc i) same = changed_at g f j xs i (λ x here there. same x (ap suc here) there)

-- ---- one port

same_announce : (q q' : Port) (h : Held) → q'.announce ≡ q.announce → announce_due q' h ≡ announce_due q h
same_announce q q' helds.Disabled same = refl
same_announce q q' helds.Aged same = refl
same_announce q q' (helds.Mine root steps) same = rw same refl
same_announce q q' (helds.Received r) same = refl

-- a change of port p that leaves these timers
pub record Spares (touched : Timer → Bool) (p : ℕ) (f : Port → Port) : Type 0 where
  pub announce : touched (timers.Announce p) ≡ false → (q : Port) → (f q).announce ≡ q.announce
  pub pdelay : touched (timers.Pdelay p) ≡ false → (q : Port) → (f q).pdelay ≡ q.pdelay
  pub respond : touched (timers.Respond p) ≡ false → (q : Port) → (f q).respond ≡ q.respond

pub on_port_leaves : (touched : Timer → Bool) (p : ℕ) (f : Port → Port) → Spares touched p f → (s : SystemState)
    → Leaves touched s (on_port p f s)
on_port_leaves touched p f k s (timers.Announce n) off =
    changed_number (λ q. announce_due q (held_at s n)) f p s.ports n
    (λ q here there. same_announce q (f q) (held_at s n)
    (k.announce (subst (λ m. touched (timers.Announce m) ≡ false) here off) q))
on_port_leaves touched p f k s (timers.Age n) off =
    changed_number (λ (q : Port). age_due s.params s.largest (held_at s n)) f p s.ports n (λ q here there. refl)
on_port_leaves touched p f k s (timers.Pdelay n) off =
    changed_number (λ (q : Port). q.pdelay) f p s.ports n
    (λ q here there. k.pdelay (subst (λ m. touched (timers.Pdelay m) ≡ false) here off) q)
on_port_leaves touched p f k s (timers.Respond n) off =
    changed_number (λ (q : Port). q.respond) f p s.ports n
    (λ q here there. k.respond (subst (λ m. touched (timers.Respond m) ≡ false) here off) q)
on_port_leaves touched p f k s timers.Sync off = refl
on_port_leaves touched p f k s timers.Relay off = refl
on_port_leaves touched p f k s timers.Lapse off = refl

-- what a port holds gives a time, as Disabled does not
time_of : (time : Held → Option ℕ) → time helds.Disabled ≡ None → (o : Option Held)
    → time (option_map_or (λ h. h) o helds.Disabled) ≡ option_and_then time o
time_of time none None = none
time_of time none (Some h) = refl

-- a change of what a port holds leaves a time that its own change leaves
held_time : (time : Held → Option ℕ) → time helds.Disabled ≡ None → (p : ℕ) (g : Held → Held) (s : SystemState) (n : ℕ)
    → ((h : Held) → n ≡ p → number s.held n ≡ Some h → time (g h) ≡ time h)
    → time (held_at (on_held p g s) n) ≡ time (held_at s n)
held_time time none p g s n same =
    time_of time none (number (change g p s.held) n) ∙ changed_number time g p s.held n same
    ∙ sym (time_of time none (number s.held n))

same_then : (f g : Port → Option ℕ) → ((q : Port) → f q ≡ g q) → (o : Option Port)
    → option_and_then f o ≡ option_and_then g o
same_then f g same None = refl
same_then f g same (Some q) = same q

-- a change of what a port holds that leaves its Announce timer leaves all timers but its Age timer
pub on_held_leaves : (p : ℕ) (g : Held → Held) (s : SystemState)
    → ((h : Held) (q : Port) → number s.held p ≡ Some h → announce_due q (g h) ≡ announce_due q h)
    → Leaves (same_timer (timers.Age p)) s (on_held p g s)
on_held_leaves p g s same (timers.Announce n) off =
    same_then (λ q. announce_due q (held_at (on_held p g s) n)) (λ q. announce_due q (held_at s n))
    (λ q. held_time (announce_due q) refl p g s n
    (λ h here there. same h q (subst (λ m. number s.held m ≡ Some h) here there)))
    (number s.ports n)
on_held_leaves p g s same (timers.Age n) off =
    let time : Held → Option ℕ = age_due s.params s.largest in
    same_then (λ q. time (held_at (on_held p g s) n)) (λ q. time (held_at s n))
    (λ q. held_time time refl p g s n (λ h here there. absurd (let e = eq-eqb p n (sym here) in cc)))
    (number s.ports n)
on_held_leaves p g s same (timers.Pdelay n) off = refl
on_held_leaves p g s same (timers.Respond n) off = refl
on_held_leaves p g s same timers.Sync off = refl
on_held_leaves p g s same timers.Relay off = refl
on_held_leaves p g s same timers.Lapse off = refl

-- ---- all ports

-- the timers of the system may differ
pub apart_leaves : (touched : Timer → Bool) (s s' : SystemState) → s'.ports ≡ s.ports → s'.held ≡ s.held
    → s'.params ≡ s.params → s'.largest ≡ s.largest
    → (touched timers.Sync ≡ false → s'.sync ≡ s.sync)
    → (touched timers.Relay ≡ false → s'.relay ≡ s.relay)
    → (touched timers.Lapse ≡ false → s'.lapse ≡ s.lapse)
    → Leaves touched s s'
apart_leaves touched s s' ports held params largest sync relay lapse (timers.Announce n) off = rw (ports, held) refl
apart_leaves touched s s' ports held params largest sync relay lapse (timers.Age n) off =
    rw (ports, held, params, largest) refl
apart_leaves touched s s' ports held params largest sync relay lapse (timers.Pdelay n) off = rw ports refl
apart_leaves touched s s' ports held params largest sync relay lapse (timers.Respond n) off = rw ports refl
apart_leaves touched s s' ports held params largest sync relay lapse timers.Sync off = rw (sync off) refl
apart_leaves touched s s' ports held params largest sync relay lapse timers.Relay off = relay off
apart_leaves touched s s' ports held params largest sync relay lapse timers.Lapse off = lapse off

pub leaves_on : (touched : Timer → Bool) (s t u : SystemState) → Leaves touched s t → Leaves touched t u
    → Leaves touched s u
leaves_on touched s t u a b timer off = b timer off ∙ a timer off

-- all timers that selection can change are among these
abbrev pub CoversSelection : (Timer → Bool) → Type 0
CoversSelection touched = (timer : Timer) → touched timer ≡ false → is_selected timer ≡ false

-- what the ports hold becomes anything
pub held_leaves : (touched : Timer → Bool) → CoversSelection touched → (s : SystemState) (hs : List Held)
    → Leaves touched s (record s { held = hs })
held_leaves touched covers s hs (timers.Announce n) off =
    absurd (let on = covers (timers.Announce n) off in cc)
held_leaves touched covers s hs (timers.Age n) off = absurd (let on = covers (timers.Age n) off in cc)
held_leaves touched covers s hs (timers.Pdelay n) off = refl
held_leaves touched covers s hs (timers.Respond n) off = refl
held_leaves touched covers s hs timers.Sync off = refl
held_leaves touched covers s hs timers.Relay off = refl
held_leaves touched covers s hs timers.Lapse off = refl

pub selects_leaves : (touched : Timer → Bool) → CoversSelection touched → (now : ℕ) (t u : SystemState)
    (sends : List Sending) → Selects now t u sends → Leaves touched t u
selects_leaves touched covers now t u sends k = subst (Leaves touched t) (sym k.state) go
  where
    go : Leaves touched t (choosing k.vector now t)
    go (timers.Announce n) off = absurd (let on = covers (timers.Announce n) off in cc)
    go (timers.Age n) off = absurd (let on = covers (timers.Age n) off in cc)
    go (timers.Pdelay n) off =
        same_number (λ (q : Port). q.pdelay) (all_announced now (fresh_ports k.vector t) t.ports) t.ports
        (all_announced-map (λ (q : Port). q.pdelay) now (λ q. refl) (fresh_ports k.vector t) t.ports) n
    go (timers.Respond n) off =
        same_number (λ (q : Port). q.respond) (all_announced now (fresh_ports k.vector t) t.ports) t.ports
        (all_announced-map (λ (q : Port). q.respond) now (λ q. refl) (fresh_ports k.vector t) t.ports) n
    go timers.Sync off = refl
    go timers.Relay off = absurd (let on = covers timers.Relay off in cc)
    go timers.Lapse off = absurd (let on = covers timers.Lapse off in cc)

pub telling_leaves : (touched : Timer → Bool) (s : SystemState) → Leaves touched s (telling s)
telling_leaves touched s (timers.Announce n) off =
    let g : Port → Option ℕ = λ q. announce_due q (held_at s n) in
    same_number g (counted_by_rates s.held s.ports) s.ports
    (counted-map g (λ q. same_announce q (with_sync q) (held_at s n) refl) s.held s.ports) n
telling_leaves touched s (timers.Age n) off =
    let g : Port → Option ℕ = λ q. age_due s.params s.largest (held_at s n) in
    same_number g (counted_by_rates s.held s.ports) s.ports (counted-map g (λ q. refl) s.held s.ports) n
telling_leaves touched s (timers.Pdelay n) off =
    same_number (λ (q : Port). q.pdelay) (counted_by_rates s.held s.ports) s.ports
    (counted-map (λ (q : Port). q.pdelay) (λ q. refl) s.held s.ports) n
telling_leaves touched s (timers.Respond n) off =
    same_number (λ (q : Port). q.respond) (counted_by_rates s.held s.ports) s.ports
    (counted-map (λ (q : Port). q.respond) (λ q. refl) s.held s.ports) n
telling_leaves touched s timers.Sync off = refl
telling_leaves touched s timers.Relay off = refl
telling_leaves touched s timers.Lapse off = refl
