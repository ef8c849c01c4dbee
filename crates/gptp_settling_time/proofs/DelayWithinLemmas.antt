-- No link takes longer than some delay: after events, after fewer, and as they are made.
use Rattle.std.proofs.Common.{ℕ, List, [], ◌∷◌, ◌++◌}
use Rattle.std.specs.List.{AllByRecursion}
use Rattle.gptp_scenario.specs.Network.{NetworkState}
use Rattle.gptp_scenario.specs.Prompt.{DelayFitsInterval}
use Rattle.gptp_scenario.specs.declared.change.Act.{Act}
use Rattle.gptp_scenario.specs.declared.change.Act.TheVariants.{Deliver, Expire, Change as Changing}
use Rattle.gptp_scenario.specs.declared.change.Timed.{Timed}
use Rattle.gptp_invariants.specs.ChoiceSeenLaws.{IsNoChange}
use Rattle.gptp_settling_time.specs.Gains.{HasDelaysWithin}

abbrev AllFit : ℕ → List Timed → Type 0
AllFit most = AllByRecursion (λ (t : Timed). DelayFitsInterval most t.act)

fit_parts : (most : ℕ) (events others : List Timed) → AllFit most (events ++ others)
    → AllFit most events × AllFit most others
fit_parts most [] others fit = (tt, fit)
fit_parts most (event ∷ events) others fit =
    let (front, back) = fit_parts most events others fit.1 in ((fit.0, front), back)

-- so it is after the first of them
pub within_before : (n : NetworkState) (events others : List Timed) (most : ℕ)
    → HasDelaysWithin n (events ++ others) most → HasDelaysWithin n events most
within_before n events others most within =
    record { links = within.links; sets = (fit_parts most events others within.sets).0 }

fit_behind : (most : ℕ) (events others : List Timed) → AllFit most events → AllFit most others
    → AllFit most (events ++ others)
fit_behind most [] others front back = back
fit_behind most (event ∷ events) others front back = (front.0, fit_behind most events others front.1 back)

-- and behind one more that lets none take longer
pub within_behind : (n : NetworkState) (events : List Timed) (event : Timed) (most : ℕ) → HasDelaysWithin n events most
    → DelayFitsInterval most event.act → HasDelaysWithin n (events ++ event ∷ []) most
within_behind n events event most within fits =
    record { links = within.links; sets = fit_behind most events (event ∷ []) within.sets (fits, tt) }

-- the last of them lets none take longer
pub within_last : (n : NetworkState) (events : List Timed) (event : Timed) (most : ℕ)
    → HasDelaysWithin n (events ++ event ∷ []) most → DelayFitsInterval most event.act
within_last n events event most within = (fit_parts most events (event ∷ []) within.sets).1.0

-- nor does what happens by itself
pub itself_fits : (most : ℕ) (act : Act) → IsNoChange act → DelayFitsInterval most act
itself_fits most (Deliver link direction) none = tt
itself_fits most (Expire number timer) none = tt
itself_fits most (Changing change) none = absurd none
