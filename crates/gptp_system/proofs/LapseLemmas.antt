-- When the Lapse timer begins and runs on, and what its end makes of a system before that selects.
use Rattle.std.proofs.Common.{◌≡◌, ◌≢◌, ◌⊎◌, ℕ, suc, ◌+◌, Bool, true, false, ◌&&◌, if◌then◌else◌, length, Option, Some, None, slice_get, refl, sym, ap, ◌∙◌, inl, inr, arith}
use Rattle.std.specs.Prelude.{◌==◌}
use Rattle.std.specs.Option.{option_map_or}
use Rattle.std.proofs.lemmas.Bool.{eqb-true}
use Rattle.std.proofs.lemmas.Bool.Decides.{nat_tests}
use Rattle.std.proofs.lemmas.Option.{none-some, same_Some}
use Rattle.gptp_vector.specs.declared.vector.Vector.{Vector}
use Rattle.gptp_vector.specs.declared.port.PortId.{PortId}
use Rattle.gptp_receipt.specs.declared.held.Held.{Held}
use Rattle.gptp_receipt.specs.declared.held.Held.TheVariants as helds
use Rattle.gptp_receipt.specs.declared.held.Reception.{Reception}
use Rattle.gptp_receipt.specs.Held.{HoldsFor, received}
use Rattle.gptp_roles.specs.Choice.{slave_port}
use Rattle.gptp_setup.specs.declared.setup.Params.{Params}
use Rattle.gptp_setup.specs.SettlingParams.{has_sync_timeout, lapse_span}
use Rattle.gptp_system.specs.State.{SystemState, can_lead, change, clock, held_at, lapse_of, on_held, own}
use Rattle.gptp_system.specs.Selection.{follows_on, lapse_after, same_number}
use Rattle.gptp_system.specs.Lapse.{dropped, lapsed}
use Rattle.gptp_system.specs.Times.{WaitsAnew}
use Rattle.gptp_system.specs.Touch.{Touch, Grow, Other, IsLapseSeenAs, PortHoldsInTouch}
use Rattle.gptp_system.proofs.ChangedLemmas.{Changed, change-get, number-get}
use Rattle.gptp_system.proofs.FactLemmas.{KeepsBeforeSelection}
use Rattle.gptp_system.proofs.MidLemmas.{Mids}
use Rattle.gptp_system.proofs.TimersChangedLemmas.{holds_touches}

-- ---- the timer

-- where it begins, it is due a whole span later
pub lapse_begins : (s : SystemState) (root : ℕ) (slave : Option ℕ) (now t : ℕ)
    → lapse_of s.params root slave now ≡ Some t → WaitsAnew s now t
lapse_begins s root None now t is = absurd (none-some t is)
lapse_begins s root (Some p) now t is = go (has_sync_timeout s.params) (can_lead root) refl is
  where
    go : (a b : Bool) → has_sync_timeout s.params ≡ a
        → (if a && b then Some (now + lapse_span s.params) else None) ≡ Some t → WaitsAnew s now t
    go true true on e =
        record { on = grind (arith, nat_tests); moment = sym (same_Some (now + lapse_span s.params) t e) }
    go true false on e = absurd (none-some t e)
    go false b on e = absurd (none-some t e)

-- without a syncReceiptTimeout it doesn't begin
pub lapse_off : (params : Params) (root : ℕ) (slave : Option ℕ) (now : ℕ) → params.sync_timeout ≡ 0
    → lapse_of params root slave now ≡ None
lapse_off params root None now off = refl
lapse_off params root (Some p) now off = let none : has_sync_timeout params ≡ false = rw off refl in rw none refl

-- the same is followed
same_port_is : (a b : Option ℕ) → same_number a b ≡ true → a ≡ b
same_port_is None None is = refl
same_port_is None (Some q) is = absurd cc
same_port_is (Some p) None is = absurd cc
same_port_is (Some p) (Some q) is = ap (λ n. Some n) (eqb-true p q is)

pub followed : (v : Vector) (s : SystemState) → follows_on v s ≡ true
    → (v.root ≡ s.root) × (slave_port v ≡ s.slave)
followed v s is = go (v.root == s.root) (same_number (slave_port v) s.slave) refl refl is
  where
    go : (a b : Bool) → (v.root == s.root) ≡ a → same_number (slave_port v) s.slave ≡ b → (a && b) ≡ true
        → (v.root ≡ s.root) × (slave_port v ≡ s.slave)
    go true true root slave on = (eqb-true v.root s.root root, same_port_is (slave_port v) s.slave slave)
    go true false root slave on = absurd cc
    go false b root slave on = absurd cc

-- selection lets it run on, or begin anew
pub lapse_chosen : (v : Vector) (now : ℕ) (s : SystemState) (t : ℕ) → lapse_after v now s ≡ Some t
    → ((follows_on v s ≡ true) × (s.lapse ≡ Some t)) ⊎ WaitsAnew s now t
lapse_chosen v now s t is = go (follows_on v s) refl is
  where
    go : (b : Bool) → follows_on v s ≡ b
        → (if b then s.lapse else lapse_of s.params v.root (slave_port v) now) ≡ Some t
        → ((follows_on v s ≡ true) × (s.lapse ≡ Some t)) ⊎ WaitsAnew s now t
    go true same e = inl (same, e)
    go false other e = inr (lapse_begins s v.root (slave_port v) now t e)

-- and where it doesn't run without a syncReceiptTimeout, it doesn't afterwards
pub lapse_stays_off : (v : Vector) (now : ℕ) (s : SystemState) → s.params.sync_timeout ≡ 0 → s.lapse ≡ None
    → lapse_after v now s ≡ None
lapse_stays_off v now s off none = go (follows_on v s)
  where
    go : (b : Bool) → (if b then s.lapse else lapse_of s.params v.root (slave_port v) now) ≡ None
    go true = none
    go false = lapse_off s.params v.root (slave_port v) now off

-- ---- what was received is dropped

dropped_came : (own : PortId) (h : Held) → HoldsFor own h → HoldsFor own (dropped h)
dropped_came own helds.Disabled came = came
dropped_came own helds.Aged came = came
dropped_came own (helds.Mine root steps) came = came
dropped_came own (helds.Received r) came = λ x is. absurd (none-some x is)

dropped_on : (h : Held) → h ≢ helds.Disabled → dropped h ≢ helds.Disabled
dropped_on helds.Disabled on = on
dropped_on helds.Aged on = on
dropped_on (helds.Mine root steps) on = on
dropped_on (helds.Received r) on = λ e. absurd cc

dropped_touches : (p : ℕ) (s : SystemState) → KeepsBeforeSelection s (on_held p dropped s)
dropped_touches p s =
    holds_touches p dropped s (λ h came. dropped_came (own s p) h came) (λ h e. rw e refl) (λ h on. dropped_on h on)

-- the timer stops beside that
stops_touches : (s t : SystemState) → KeepsBeforeSelection s t → KeepsBeforeSelection s (record t { lapse = None })
stops_touches s t k = record {
  kept = record {
    params = k.kept.params;
    largest = k.kept.largest;
    phase = k.kept.phase;
    drift = k.kept.drift;
    continues = k.kept.continues;
    seed = k.kept.seed;
    same_clock = k.kept.same_clock;
    places = k.kept.places;
    logs = k.kept.logs;
  };
  held = k.held;
  shown = λ a. let b = k.shown a in record { places = b.places; each = b.each };
}

itself_touches : (s : SystemState) → KeepsBeforeSelection s s
itself_touches s = record {
  kept = record {
    params = refl;
    largest = refl;
    phase = refl;
    drift = refl;
    continues = refl;
    seed = refl;
    same_clock = refl;
    places = refl;
    logs = refl;
  };
  held = λ a. a;
  shown = λ a. a;
}

-- the state that it leaves, by the Slave port
abbrev lapsed_at : Option ℕ → SystemState → SystemState
lapsed_at slave s = record s {
  held = option_map_or (λ p. change dropped p s.held) slave s.held;
  lapse = None;
}

pub lapsed_touches : (s : SystemState) → KeepsBeforeSelection s (lapsed s)
lapsed_touches s = go s.slave
  where
    go : (o : Option ℕ) → KeepsBeforeSelection s (lapsed_at o s)
    go None = stops_touches s s (itself_touches s)
    go (Some p) = stops_touches s (on_held p dropped s) (dropped_touches p s)

pub length-lapsed : (s : SystemState) → length (lapsed s).held ≡ length s.held
length-lapsed s = (lapsed_touches s).kept.places

-- what it is to the ports
dropped_mids : (p now : ℕ) (s : SystemState) (touch : Touch)
    → ((i : ℕ) (h : Held) → p ≡ suc i → received (held_at s p) ≡ received h
    → PortHoldsInTouch (clock s) (suc i) touch now h (dropped h))
    → ((i : ℕ) (h : Held) → p ≢ suc i → PortHoldsInTouch (clock s) (suc i) touch now h h)
    → Mids s touch now (lapsed_at (Some p) s)
dropped_mids p now s touch here_is elsewhere_is = record {
  same_clock = refl;
  held = λ i mid stands. at i mid (change-get dropped p s.held i mid stands);
  ports = λ i q there. (q, there, refl, refl);
}
  where
    at : (i : ℕ) (mid : Held) → Changed dropped (p ≡ suc i) s.held i mid
        → (h : Held) × (slice_get s.held i ≡ Some h) × PortHoldsInTouch (clock s) (suc i) touch now h mid
    at i mid (h, was, inl (here, new)) =
        let holds : held_at s p ≡ h =
        ap (λ x. option_map_or (λ y. y) x helds.Disabled) (number-get s.held p i h here was) in
        (h, was, rw new (here_is i h here (ap received holds)))
    at i mid (h, was, inr (elsewhere, old)) = (h, was, rw old (elsewhere_is i h elsewhere))

dropped_none : (h : Held) → received h ≡ None → dropped h ≡ h
dropped_none h none = ap (λ o. option_map_or (λ (r : Reception). helds.Aged) o h) none

dropped_some : (h : Held) (r : Reception) → received h ≡ Some r → dropped h ≡ helds.Aged
dropped_some h r got = ap (λ o. option_map_or (λ (r : Reception). helds.Aged) o h) got

pub lapsed_mids : (s : SystemState) (now : ℕ)
    → (touch : Touch) × IsLapseSeenAs s touch × Mids s touch now (lapsed s)
lapsed_mids s now = go s.slave refl
  where
    at : (p : ℕ) (o : Option Reception) → s.slave ≡ Some p → received (held_at s p) ≡ o
        → (touch : Touch) × IsLapseSeenAs s touch × Mids s touch now (lapsed_at (Some p) s)
    at p None slave none = (
      Other,
      inr ((λ q is. let same : p ≡ q = same_Some p q (sym slave ∙ is) in rw (← same) none), refl),
      dropped_mids p now s Other (λ i h here same. dropped_none h (sym same ∙ none)) (λ i h elsewhere. refl),
    )
    at p (Some r) slave got = (
      Grow p,
      inl (p, r, slave, got, refl),
      dropped_mids p now s (Grow p) (λ i h here same. inl (sym here, dropped_some h r (sym same ∙ got)))
          (λ i h elsewhere. inr ((λ e. elsewhere (sym e)), refl)),
    )

    go : (o : Option ℕ) → s.slave ≡ o → (touch : Touch) × IsLapseSeenAs s touch × Mids s touch now (lapsed_at o s)
    go None none = (
      Other,
      inr ((λ p is. absurd (none-some p (sym none ∙ is))), refl),
      record {
        same_clock = refl;
        held = λ i mid there. (mid, there, refl);
        ports = λ i q there. (q, there, refl, refl);
      },
    )
    go (Some p) slave = at p (received (held_at s p)) slave refl
