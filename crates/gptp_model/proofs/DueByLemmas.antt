-- How much is pending at a time or before it, as entries are put and taken.
use Rattle.std.proofs.Common.{◌≡◌, ◌⊎◌, ℕ, ◌+◌, ◌≤◌, ◌<◌, nat_le, Bool, true, false, if◌then◌else◌, List, [], ◌∷◌, ◌++◌, length, Option, Some, None, refl, sym, ap, ◌∙◌, inl, inr, arith}
use Rattle.std.specs.List.{filter}
use Rattle.std.proofs.lemmas.Bool.Decides.{nat_tests}
use Rattle.std.proofs.lemmas.List.{length-append}
use Rattle.std.proofs.lemmas.List.Elements.{filter-append}
use Rattle.gptp_setup.specs.declared.timer.Timer.{Timer}
use Rattle.gptp_model.specs.declared.item.Item.{Item}
use Rattle.gptp_model.specs.declared.item.Item.TheVariants.{Expiry}
use Rattle.gptp_model.specs.declared.station.Station.{Station}
use Rattle.gptp_model.specs.Act.{set_timers}
use Rattle.gptp_model.specs.Ahead.{due_by}
use Rattle.gptp_model.specs.Item.{same_item}
use Rattle.gptp_model.specs.Pending.{Entry, pending_entry, timer_time, put, put_if, same_times, set_due, times_of_item, without, without_first_entry}
use Rattle.gptp_model.specs.World.{station_due}
use Rattle.gptp_model.proofs.PendingLemmas.{same_times-refl, times-set_due_other, times-set_due_same}
use Rattle.gptp_model.proofs.TimerLemmas.{same_timer}

module _ (time : ℕ) where
  -- whether an entry is counted
  abbrev one : Entry → ℕ
  one e = if nat_le e.time time then 1 else 0

  due_by-step : (e : Entry) (es : List Entry) → due_by time (e ∷ es) ≡ one e + due_by time es
  due_by-step e es = by (nat_le e.time time) refl
    where
      by : (b : Bool) → nat_le e.time time ≡ b → due_by time (e ∷ es) ≡ one e + due_by time es
      by true b = rw b (omega arith)
      by false b = rw b (omega arith)

  due_by-append : (es fs : List Entry) → due_by time (es ++ fs) ≡ due_by time es + due_by time fs
  due_by-append es fs =
      let early : Entry → Bool = λ e. nat_le e.time time in
      ap length (filter-append early es fs) ∙ length-append (filter early es) (filter early fs)

  -- what is put later isn't counted
  pub due_by-put : (t : ℕ) (i : Item) (es : List Entry) → time < t → due_by time (put t i es) ≡ due_by time es
  due_by-put t i es later =
      let off : nat_le t time ≡ false = grind (arith, nat_tests) in
      let none : due_by time (pending_entry t i ∷ []) ≡ 0 = rw off refl in
      let sum = due_by-append es (pending_entry t i ∷ []) in omega arith

  -- to cancel entries makes it no more
  pub due_by-without : (i : Item) (es : List Entry) → due_by time (without i es) ≤ due_by time es
  due_by-without i [] = omega arith
  due_by-without i (e ∷ es) = by (same_item i e.item) refl (due_by-without i es)
    where
      by : (t : Bool) → same_item i e.item ≡ t → due_by time (without i es) ≤ due_by time es
          → due_by time (without i (e ∷ es)) ≤ due_by time (e ∷ es)
      by true t ih = let all = due_by-step e es in rw t (omega (arith, ih, all))
      by false t ih =
          let all = due_by-step e es in let kept = due_by-step e (without i es) in rw t (omega (arith, ih, all, kept))

  pub due_by-without_first : (i : Item) (es : List Entry) → due_by time (without_first_entry i es) ≤ due_by time es
  due_by-without_first i [] = omega arith
  due_by-without_first i (e ∷ es) = by (same_item i e.item) refl (due_by-without_first i es)
    where
      by : (t : Bool) → same_item i e.item ≡ t → due_by time (without_first_entry i es) ≤ due_by time es
          → due_by time (without_first_entry i (e ∷ es)) ≤ due_by time (e ∷ es)
      by true t ih = let all = due_by-step e es in rw t (omega (arith, all))
      by false t ih =
          let all = due_by-step e es in
          let kept = due_by-step e (without_first_entry i es) in rw t (omega (arith, ih, all, kept))

  -- where an item is pending by then, to cancel its first entry makes it one less
  pub due_by-taken : (i : Item) (es : List Entry) (t : ℕ) (ts : List ℕ) → times_of_item i es ≡ t ∷ ts → t ≤ time
      → due_by time (without_first_entry i es) + 1 ≡ due_by time es
  due_by-taken i [] t ts is early = absurd (grind (arith, is))
  due_by-taken i (e ∷ es) t ts is early = by (same_item i e.item) refl (due_by-taken i es t ts)
    where
      by : (b : Bool) → same_item i e.item ≡ b
          → (times_of_item i es ≡ t ∷ ts → t ≤ time → due_by time (without_first_entry i es) + 1 ≡ due_by time es)
          → due_by time (without_first_entry i (e ∷ es)) + 1 ≡ due_by time (e ∷ es)
      by true b ih =
          let heads : e.time ∷ times_of_item i es ≡ t ∷ ts = rw b at is in
          let head : e.time ≡ t = cc in
          let counted : nat_le e.time time ≡ true = grind (arith, nat_tests) in
          let first : one e ≡ 1 = rw counted refl in
          let all = due_by-step e es in rw b (omega (arith, all, first))
      by false b ih =
          let rest : times_of_item i es ≡ t ∷ ts = rw b at is in
          let less = ih rest early in
          let all = due_by-step e es in
          let kept = due_by-step e (without_first_entry i es) in rw b (omega (arith, less, all, kept))

  -- ---- timers that are set

  -- a timer that runs is pending at its time already, or is due later
  abbrev pub IsKeptOrLater : Item → Option ℕ → List Entry → Type 0
  IsKeptOrLater i due es = (t : ℕ) → due ≡ Some t → (times_of_item i es ≡ t ∷ []) ⊎ (time < t)

  put_if-step : (i : Item) (due : Option ℕ) (es : List Entry) → IsKeptOrLater i due es
      → same_times (times_of_item i es) (timer_time due) ≡ false
      → due_by time (put_if i due (without i es)) ≤ due_by time es
  put_if-step i None es ahead moved = due_by-without i es
  put_if-step i (Some t) es ahead moved = by (ahead t refl)
    where
      by : (times_of_item i es ≡ t ∷ []) ⊎ (time < t) → due_by time (put t i (without i es)) ≤ due_by time es
      by (inl kept) =
          let same : same_times (times_of_item i es) (t ∷ []) ≡ true = rw kept (same_times-refl (t ∷ [])) in absurd cc
      by (inr later) =
          let fewer = due_by-without i es in let put = due_by-put t i (without i es) later in omega arith

  pub due_by-set_due : (i : Item) (due : Option ℕ) (es : List Entry) → IsKeptOrLater i due es
      → due_by time (set_due i due es) ≤ due_by time es
  due_by-set_due i due es ahead = by (same_times (times_of_item i es) (timer_time due)) refl
    where
      by : (b : Bool) → same_times (times_of_item i es) (timer_time due) ≡ b
          → due_by time (set_due i due es) ≤ due_by time es
      by true b = let same : due_by time es ≤ due_by time es = omega arith in rw b same
      by false b = rw b (put_if-step i due es ahead b)

  module _ (place : ℕ) (station : Station) where
    -- so it is with each timer of the system at a place
    abbrev pub AreKeptOrLater : List Entry → Type 0
    AreKeptOrLater es = (timer : Timer) → IsKeptOrLater (Expiry place timer) (station_due timer station) es

    set-step : (set timer : Timer) (es : List Entry) → AreKeptOrLater es
        → (b : Bool) → same_item (Expiry place timer) (Expiry place set) ≡ b
        → IsKeptOrLater (Expiry place timer) (station_due timer station)
        (set_due (Expiry place set) (station_due set station) es)
    set-step set timer es ahead true b t is =
        let both = same_timer place place timer set b in
        inl (ap (λ x. times_of_item (Expiry place x) (set_due (Expiry place set) (station_due set station) es)) both.1
        ∙ times-set_due_same (Expiry place set) (station_due set station) es
        ∙ ap timer_time (ap (λ x. station_due x station) (sym both.1) ∙ is))
    set-step set timer es ahead false b t is = by (ahead timer t is)
      where
        by : (times_of_item (Expiry place timer) es ≡ t ∷ []) ⊎ (time < t)
            → (times_of_item (Expiry place timer) (set_due (Expiry place set) (station_due set station) es) ≡ t ∷ [])
            ⊎ (time < t)
        by (inl kept) =
            inl (times-set_due_other (Expiry place set) (Expiry place timer) (station_due set station) es b ∙ kept)
        by (inr later) = inr later

    -- then setting them makes it no more
    pub due_by-set_timers : (ts : List Timer) (es : List Entry) → AreKeptOrLater es
        → due_by time (set_timers place station ts es) ≤ due_by time es
    due_by-set_timers [] es ahead = omega arith
    due_by-set_timers (set ∷ ts) es ahead =
        let next : List Entry = set_due (Expiry place set) (station_due set station) es in
        let first = due_by-set_due (Expiry place set) (station_due set station) es (ahead set) in
        let rest = due_by-set_timers ts next
        (λ timer. set-step set timer es ahead (same_item (Expiry place timer) (Expiry place set)) refl) in
        omega arith
