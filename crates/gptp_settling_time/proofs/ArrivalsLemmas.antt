-- By when what was in flight has arrived, where events change nothing: as before them.
use Rattle.std.proofs.Common.{◌≡◌, ◌≤◌, ℕ, true, false, List, [], ◌∷◌, ◌++◌, refl, sym, ap, subst, ◌∙◌, append_assoc, append-nil}
use Rattle.gptp_scenario.specs.Network.{NetworkState}
use Rattle.gptp_scenario.specs.Prompt.{DelayFitsInterval}
use Rattle.gptp_scenario.specs.declared.change.Act.{Act}
use Rattle.gptp_scenario.specs.declared.change.Act.TheVariants.{Deliver, Expire, Change as Changing}
use Rattle.gptp_scenario.specs.declared.change.Change.TheVariants.{LinkDown, LinkUp, LinkSet, Fail, Recover, Priority1, Inject}
use Rattle.gptp_scenario.specs.declared.change.Timed.{Timed}
use Rattle.gptp_settling_time.specs.Arrivals.{HasArrivedSinceSet, after_set, arrived_by, sets_link}
use Rattle.gptp_settling_time.specs.Gains.{ChangesNothing, HasDelaysWithin, Repeats}
use Rattle.gptp_settling_time.specs.HowSoon.{EachEvent}
use Rattle.gptp_settling_time.proofs.DelayWithinLemmas.{within_before, within_behind}
use Rattle.gptp_settling_time.proofs.SinceSetLemmas.{set_still}

-- such an event sets no link
pub idle_sets : (n : NetworkState) (made : List Timed) (act : Act) → ChangesNothing n made act → sets_link act ≡ false
idle_sets n made (Deliver link direction) nothing = refl
idle_sets n made (Expire number timer) nothing = refl
idle_sets n made (Changing (LinkDown number port)) nothing = refl
idle_sets n made (Changing (LinkUp number port)) nothing = refl
idle_sets n made (Changing (LinkSet number port min max loss)) none = absurd none
idle_sets n made (Changing (Fail number)) nothing = refl
idle_sets n made (Changing (Recover number)) nothing = refl
idle_sets n made (Changing (Priority1 number value)) nothing = refl
idle_sets n made (Changing (Inject number port octets)) nothing = refl

-- so it lets none take longer
unset_fits : (most : ℕ) (act : Act) → sets_link act ≡ false → DelayFitsInterval most act
unset_fits most (Deliver link direction) none = tt
unset_fits most (Expire number timer) none = tt
unset_fits most (Changing (LinkDown number port)) none = tt
unset_fits most (Changing (LinkUp number port)) none = tt
unset_fits most (Changing (LinkSet number port min max loss)) none = absurd (let never : true ≡ false = none in cc)
unset_fits most (Changing (Fail number)) none = tt
unset_fits most (Changing (Recover number)) none = tt
unset_fits most (Changing (Priority1 number value)) none = tt
unset_fits most (Changing (Inject number port octets)) none = tt

-- By this time what was in flight as the last of these events set a link has arrived.
abbrev pub SetLimits : NetworkState → List Timed → ℕ → Type 0
SetLimits n events limit = (most : ℕ) × HasDelaysWithin n events most × (limit ≡ arrived_by most events)

module _ (n : NetworkState) (made : List Timed) (event : Timed) (none : sets_link event.act ≡ false) where
  -- so it is before an event that sets none
  pub limits_before : (limit : ℕ) → SetLimits n (made ++ event ∷ []) limit → SetLimits n made limit
  limits_before limit (most, within, is) =
      (most, within_before n made (event ∷ []) most within, is ∙ ap (after_set most) (set_still made event none))

  -- and behind it
  arrived_behind : (time : ℕ) → HasArrivedSinceSet n made time → HasArrivedSinceSet n (made ++ event ∷ []) time
  arrived_behind time (most, within, arrived) = (
    most,
    within_behind n made event most within (unset_fits most event.act none),
    subst (λ t. t ≤ time) (sym (ap (after_set most) (set_still made event none))) arrived,
  )

-- what has arrived after some events has after others
abbrev pub ArriveAlike : NetworkState → List Timed → List Timed → Type 0
ArriveAlike n events more = (time : ℕ) → HasArrivedSinceSet n events time → HasArrivedSinceSet n more time

-- so it has after events that repeat what stands
pub repeats_arrive : (n : NetworkState) (made others : List Timed) → EachEvent (Repeats n) made others
    → ArriveAlike n made (made ++ others)
repeats_arrive n made [] each time = subst (λ es. HasArrivedSinceSet n es time) (sym (append-nil made))
repeats_arrive n made (event ∷ others) (one, each) time =
    λ arrived.
    subst (λ es. HasArrivedSinceSet n es time) (append_assoc made (event ∷ []) others)
    (repeats_arrive n (made ++ event ∷ []) others each time
    (arrived_behind n made event (idle_sets n made event.act one.0) time arrived))
