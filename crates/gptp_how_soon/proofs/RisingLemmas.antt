-- Times that rise, each of which is found by its moment.
use Rattle.std.proofs.Common.{◌≡◌, ◌<◌, ◌≤◌, ℕ, zero, suc, cond, List, [], ◌∷◌, ◌++◌, Some, slice_get, ap, ◌∙◌, arith}
use Rattle.std.specs.List.{AllByRecursion, find}
use Rattle.std.proofs.lemmas.Bool.{eq-eqb, ne_eqb}
use Rattle.gptp_lists.proofs.MappedLemmas.{some_same}
use Rattle.gptp_how_soon.specs.Times.{AreRising, is_time_at}
use Rattle.gptp_how_soon.specs.declared.bounds.SettlingTime.{SettlingTime}

abbrev pub all_earlier : ℕ → List SettlingTime → Type 0
all_earlier at = AllByRecursion (λ (t : SettlingTime). t.at < at)

-- one time more
pub earlier_more : (at next : ℕ) (times : List SettlingTime) (time : SettlingTime) → all_earlier at times → at ≤ next
    → time.at < next
    → all_earlier next (times ++ time ∷ [])
earlier_more at next [] time earlier more now = (now, tt)
earlier_more at next (t ∷ times) time earlier more now =
    let here = earlier.0 in (omega (arith, here, more), earlier_more at next times time earlier.1 more now)

later_more : (first : ℕ) (times : List SettlingTime) (time : SettlingTime)
    → AllByRecursion (λ (u : SettlingTime). first < u.at) times
    → first < time.at
    → AllByRecursion (λ (u : SettlingTime). first < u.at) (times ++ time ∷ [])
later_more first [] time later now = (now, tt)
later_more first (t ∷ times) time later now = (later.0, later_more first times time later.1 now)

pub rising_more : (times : List SettlingTime) (time : SettlingTime) → AreRising times → all_earlier time.at times
    → AreRising (times ++ time ∷ [])
rising_more [] time rising earlier = (tt, tt)
rising_more (t ∷ times) time rising earlier =
    (later_more t.at times time rising.0 earlier.0, rising_more times time rising.1 earlier.1)

-- ---- the time at a moment

later_there : (first : ℕ) (times : List SettlingTime) (place : ℕ) (time : SettlingTime)
    → AllByRecursion (λ (u : SettlingTime). first < u.at) times → slice_get times place ≡ Some time
    → first < time.at
later_there first [] place time later there = absurd cc
later_there first (t ∷ times) zero time later there =
    let here = later.0 in
    let same : t.at ≡ time.at = ap (λ (u : SettlingTime). u.at) (some_same t time there) in
    omega (arith, here, same)
later_there first (t ∷ times) (suc place) time later there = later_there first times place time later.1 there

pub found_there : (at : ℕ) (times : List SettlingTime) (place : ℕ) (time : SettlingTime) → AreRising times
    → slice_get times place ≡ Some time → time.at ≡ at
    → find (is_time_at at) times ≡ Some time
found_there at [] place time rising there is = absurd cc
found_there at (t ∷ times) zero time rising there is =
    let same = some_same t time there in
    ap (λ test. cond test (Some t) (find (is_time_at at) times))
    (eq-eqb t.at at (ap (λ (u : SettlingTime). u.at) same ∙ is))
    ∙ ap Some same
found_there at (t ∷ times) (suc place) time rising there is =
    let later = later_there t.at times place time rising.0 there in
    ap (λ test. cond test (Some t) (find (is_time_at at) times))
    (ne_eqb t.at at (λ same. absurd (omega (arith, later, same, is))))
    ∙ found_there at times place time rising.1 there is
