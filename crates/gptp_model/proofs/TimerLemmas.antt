-- The timers of a system, each pending when it is due.
use Rattle.std.proofs.Common.{◌≡◌, ◌<◌, ℕ, Bool, true, false, List, [], ◌∷◌, ◌++◌, Option, refl, sym, ap, ◌∙◌, arith, inl, inr}
use Prim.Native.Nat.{zero, suc}
use Rattle.std.specs.List.{AllByRecursion}
use Rattle.std.proofs.lemmas.Bool.Decides.{nat_tests}
use Rattle.gptp_lists.specs.Members.{In}
use Rattle.gptp_links.specs.declared.link.Direction.{Direction}
use Rattle.gptp_links.specs.declared.link.Direction.TheVariants.{FromA, FromB}
use Rattle.gptp_setup.specs.declared.timer.Timer.{Timer}
use Rattle.gptp_setup.specs.declared.timer.Timer.TheVariants as timers
use Rattle.gptp_model.specs.declared.item.Item.{Item}
use Rattle.gptp_model.specs.declared.item.Item.TheVariants.{Expiry, Arrival}
use Rattle.gptp_model.specs.Item.{timer_kind, timer_port, same_item}
use Rattle.gptp_model.specs.Pending.{Entry, times_of_item, timer_time, set_due}
use Rattle.gptp_model.proofs.PendingLemmas.{set_due-kept, times-set_due_same, times-set_due_other}

pub kind_below : (timer : Timer) → timer_kind timer < 7
kind_below (timers.Pdelay p) = omega arith
kind_below (timers.Respond p) = omega arith
kind_below (timers.Announce p) = omega arith
kind_below (timers.Age p) = omega arith
kind_below timers.Sync = omega arith
kind_below timers.Relay = omega arith
kind_below timers.Lapse = omega arith

-- ---- the same items

-- the timer of a kind and a port
abbrev timer_of : ℕ → ℕ → Timer
timer_of zero p = timers.Pdelay p
timer_of (suc zero) p = timers.Respond p
timer_of (suc (suc zero)) p = timers.Announce p
timer_of (suc (suc (suc zero))) p = timers.Age p
timer_of (suc (suc (suc (suc zero)))) p = timers.Sync
timer_of (suc (suc (suc (suc (suc zero))))) p = timers.Relay
timer_of (suc (suc (suc (suc (suc (suc k)))))) p = timers.Lapse

timer_back : (t : Timer) → timer_of (timer_kind t) (timer_port t) ≡ t
timer_back (timers.Pdelay p) = refl
timer_back (timers.Respond p) = refl
timer_back (timers.Announce p) = refl
timer_back (timers.Age p) = refl
timer_back timers.Sync = refl
timer_back timers.Relay = refl
timer_back timers.Lapse = refl

pub same_timer : (p q : ℕ) (t u : Timer) → same_item (Expiry p t) (Expiry q u) ≡ true → (p ≡ q) × (t ≡ u)
same_timer p q t u same =
    let kind : timer_kind t ≡ timer_kind u = grind (arith, nat_tests) in
    let port : timer_port t ≡ timer_port u = grind (arith, nat_tests) in (
      grind (arith, nat_tests),
      sym (timer_back t) ∙ ap (λ k. timer_of k (timer_port t)) kind ∙ ap (timer_of (timer_kind u)) port ∙ timer_back u,
    )

-- items that are the same are equal
pub item_is : (a b : Item) → same_item a b ≡ true → a ≡ b
item_is (Expiry p t) (Expiry q u) same =
    let both = same_timer p q t u same in ap (λ x. Expiry x t) both.0 ∙ ap (Expiry q) both.1
item_is (Expiry p t) (Arrival l FromA) same =
    let kind : timer_kind t ≡ 7 = grind (arith, nat_tests) in let below = kind_below t in absurd (omega arith)
item_is (Expiry p t) (Arrival l FromB) same =
    let kind : timer_kind t ≡ 8 = grind (arith, nat_tests) in let below = kind_below t in absurd (omega arith)
item_is (Arrival l FromA) (Expiry q u) same =
    let kind : 7 ≡ timer_kind u = grind (arith, nat_tests) in let below = kind_below u in absurd (omega arith)
item_is (Arrival l FromB) (Expiry q u) same =
    let kind : 8 ≡ timer_kind u = grind (arith, nat_tests) in let below = kind_below u in absurd (omega arith)
item_is (Arrival l FromA) (Arrival m FromA) same =
    let link : l ≡ m = grind (arith, nat_tests) in ap (λ x. Arrival x FromA) link
item_is (Arrival l FromB) (Arrival m FromB) same =
    let link : l ≡ m = grind (arith, nat_tests) in ap (λ x. Arrival x FromB) link
item_is (Arrival l FromA) (Arrival m FromB) same = absurd (grind (arith, nat_tests))
item_is (Arrival l FromB) (Arrival m FromA) same = absurd (grind (arith, nat_tests))

-- an arrival is no timer, nor is a timer one of another system
pub no_timer : (l : ℕ) (d : Direction) (p : ℕ) (t : Timer) → same_item (Arrival l d) (Expiry p t) ≡ false
no_timer l FromA p t = let below = kind_below t in grind (arith, nat_tests)
no_timer l FromB p t = let below = kind_below t in grind (arith, nat_tests)

pub no_arrival : (p : ℕ) (t : Timer) (l : ℕ) (d : Direction) → same_item (Expiry p t) (Arrival l d) ≡ false
no_arrival p t l FromA = let below = kind_below t in grind (arith, nat_tests)
no_arrival p t l FromB = let below = kind_below t in grind (arith, nat_tests)

pub other_system : (p q : ℕ) (t u : Timer) → (p ≡ q → ⊥) → same_item (Expiry p t) (Expiry q u) ≡ false
other_system p q t u differ = grind (arith, nat_tests)

-- ---- timers set one after another

module _ (due : Timer → Option ℕ) (place : ℕ) where
  -- each timer of a list is set to when it is due
  abbrev pub set_all : List Timer → List Entry → List Entry
  set_all [] es = es
  set_all (t ∷ ts) es = set_all ts (set_due (Expiry place t) (due t) es)

  -- this timer is pending when it is due
  abbrev pub IsSet : List Entry → Timer → Type 0
  IsSet es t = times_of_item (Expiry place t) es ≡ timer_time (due t)

  pub set_all-append : (ts us : List Timer) (es : List Entry) → set_all (ts ++ us) es ≡ set_all us (set_all ts es)
  set_all-append [] us es = refl
  set_all-append (t ∷ ts) us es = set_all-append ts us (set_due (Expiry place t) (due t) es)

  pub set_all-more : (ts : List Timer) (t : Timer) (es : List Entry)
      → set_all (ts ++ t ∷ []) es ≡ set_due (Expiry place t) (due t) (set_all ts es)
  set_all-more ts t es = set_all-append ts (t ∷ []) es

  -- where all are pending when they are due, nothing changes
  pub set_all-kept : (ts : List Timer) (es : List Entry) → AllByRecursion (IsSet es) ts → set_all ts es ≡ es
  set_all-kept [] es all = refl
  set_all-kept (t ∷ ts) es all =
      ap (set_all ts) (set_due-kept (Expiry place t) (due t) es all.0) ∙ set_all-kept ts es all.1

  -- what is none of these timers is pending as before
  pub times-set_all_other : (i : Item) (ts : List Timer) (es : List Entry)
      → AllByRecursion (λ t. same_item i (Expiry place t) ≡ false) ts
      → times_of_item i (set_all ts es) ≡ times_of_item i es
  times-set_all_other i [] es all = refl
  times-set_all_other i (t ∷ ts) es all =
      times-set_all_other i ts (set_due (Expiry place t) (due t) es) all.1
      ∙ times-set_due_other (Expiry place t) i (due t) es all.0

  all_differ : (i : Item) → ((t : Timer) → same_item i (Expiry place t) ≡ false) → (ts : List Timer)
      → AllByRecursion (λ t. same_item i (Expiry place t) ≡ false) ts
  all_differ i differ [] = tt
  all_differ i differ (t ∷ ts) = (differ t, all_differ i differ ts)

  pub times-set_all_arrival : (l : ℕ) (d : Direction) (ts : List Timer) (es : List Entry)
      → times_of_item (Arrival l d) (set_all ts es) ≡ times_of_item (Arrival l d) es
  times-set_all_arrival l d ts es =
      times-set_all_other (Arrival l d) ts es (all_differ (Arrival l d) (no_timer l d place) ts)

  pub times-set_all_elsewhere : (p : ℕ) (t : Timer) (ts : List Timer) (es : List Entry) → (p ≡ place → ⊥)
      → times_of_item (Expiry p t) (set_all ts es) ≡ times_of_item (Expiry p t) es
  times-set_all_elsewhere p t ts es differ =
      times-set_all_other (Expiry p t) ts es (all_differ (Expiry p t) (λ u. other_system p place t u differ) ts)

  stays_set-step : (t u : Timer) (es : List Entry) → IsSet es t → (b : Bool)
      → same_item (Expiry place t) (Expiry place u) ≡ b → IsSet (set_due (Expiry place u) (due u) es) t
  stays_set-step t u es is true b =
      let both = same_timer place place t u b in
      ap (λ x. times_of_item (Expiry place x) (set_due (Expiry place u) (due u) es)) both.1
      ∙ times-set_due_same (Expiry place u) (due u) es ∙ sym (ap (λ x. timer_time (due x)) both.1)
  stays_set-step t u es is false b = times-set_due_other (Expiry place u) (Expiry place t) (due u) es b ∙ is

  -- a timer that is set stays so
  pub stays_set : (t : Timer) (ts : List Timer) (es : List Entry) → IsSet es t → IsSet (set_all ts es) t
  stays_set t [] es is = is
  stays_set t (u ∷ us) es is =
      stays_set t us (set_due (Expiry place u) (due u) es)
      (stays_set-step t u es is (same_item (Expiry place t) (Expiry place u)) refl)

  -- each of the timers is set
  pub are_set : (t : Timer) (ts : List Timer) (es : List Entry) → In t ts → IsSet (set_all ts es) t
  are_set t [] es among = elim among [ ]
  are_set t (u ∷ us) es (inl same) =
      let now : IsSet (set_due (Expiry place u) (due u) es) t =
      ap (λ x. times_of_item (Expiry place x) (set_due (Expiry place u) (due u) es)) same
      ∙ times-set_due_same (Expiry place u) (due u) es ∙ sym (ap (λ x. timer_time (due x)) same) in
      stays_set t us (set_due (Expiry place u) (due u) es) now
  are_set t (u ∷ us) es (inr rest) = are_set t us (set_due (Expiry place u) (due u) es) rest
