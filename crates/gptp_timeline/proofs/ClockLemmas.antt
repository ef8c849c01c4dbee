-- What the clock of a system shows, and what base it has, as a world tells them.
use Rattle.std.proofs.Common.{◌≡◌, ◌==◌, ℕ, zero, suc, true, false, ℤ, pos, List, [], ◌∷◌, Option, Some, None, IfSome, IfNone, slice_get, refl, sym, ap, ◌∙◌, arith}
use Rattle.std.proofs.lemmas.Bool.Decides.{nat_tests}
use Rattle.std.proofs.lemmas.Option.{same_Some}
use Rattle.gptp_model.specs.Acts.{AtSystem}
use Rattle.gptp_model.specs.Sound.{HaveOwnClocks}
use Rattle.gptp_model.specs.Views.{HasBase, ShowsTime}
use Rattle.gptp_model.specs.World.{WorldState}
use Rattle.gptp_model.specs.declared.station.Station.{Station}
use Rattle.gptp_system.specs.State.{clock, local_time}
use Rattle.gptp_timeline.specs.Readings.{base_among, base_of, clock_among, clock_time}

-- that of the station at a place, where no other has its clock
clock_found : (name at place : ℕ) (stations : List Station) (station : Station)
    → slice_get stations place ≡ Some station → clock station.system ≡ name
    → ((other : ℕ) (s : Station) → slice_get stations other ≡ Some s → clock s.system ≡ name → other ≡ place)
    → clock_among name at stations ≡ Some (local_time station.system at)
clock_found name at place [] station there named alone = absurd cc
clock_found name at zero (s ∷ ss) station there named alone =
    let is : s ≡ station = same_Some s station there in
    let test : clock station.system == name ≡ true = grind (arith, nat_tests) in rw (is, test) refl
clock_found name at (suc place) (s ∷ ss) station there named alone =
    let test : clock s.system == name ≡ false = grind (arith, nat_tests, alone zero s refl) in
    rw test (clock_found name at place ss station there named
    (λ other x here is. let e : suc other ≡ suc place = alone (suc other) x here is in omega arith))

-- none where no station has the clock
clock_none : (name at : ℕ) (stations : List Station)
    → ((place : ℕ) (s : Station) → slice_get stations place ≡ Some s → clock s.system ≡ name → ⊥)
    → clock_among name at stations ≡ None
clock_none name at [] none = refl
clock_none name at (s ∷ ss) none =
    let test : clock s.system == name ≡ false = grind (arith, nat_tests, none zero s refl) in
    rw test (clock_none name at ss (λ place x there. none (suc place) x there))

pub clock_shown : (name at : ℕ) (w : WorldState) (shown : Option ℤ) → HaveOwnClocks w
    → IfSome shown (λ time. AtSystem name w (ShowsTime at time))
    → IfNone shown ((time : ℤ) → AtSystem name w (ShowsTime at time) → ⊥) → shown ≡ clock_time name at w
clock_shown name at w (Some time) own some none =
    ap Some some.so
    ∙ sym (clock_found name at some.place w.stations some.station some.is.here some.is.named
    (λ other x there same. own other some.place x some.station there some.is.here (same ∙ sym some.is.named)))
clock_shown name at w None own some none =
    sym (clock_none name at w.stations (λ place s there named. none (local_time s.system at)
    (record { place = place; station = s; is = record { here = there; named = named }; so = refl })))

-- ---- its base

-- that of the station at a place, where no other has its clock
base_found : (name place : ℕ) (stations : List Station) (station : Station)
    → slice_get stations place ≡ Some station → clock station.system ≡ name
    → ((other : ℕ) (s : Station) → slice_get stations other ≡ Some s → clock s.system ≡ name → other ≡ place)
    → base_among name stations ≡ station.system.base
base_found name place [] station there named alone = absurd cc
base_found name zero (s ∷ ss) station there named alone =
    let is : s ≡ station = same_Some s station there in
    let test : clock station.system == name ≡ true = grind (arith, nat_tests) in rw (is, test) refl
base_found name (suc place) (s ∷ ss) station there named alone =
    let test : clock s.system == name ≡ false = grind (arith, nat_tests, alone zero s refl) in
    rw test (base_found name place ss station there named
    (λ other x here is. let e : suc other ≡ suc place = alone (suc other) x here is in omega arith))

base_none : (name : ℕ) (stations : List Station)
    → ((place : ℕ) (s : Station) → slice_get stations place ≡ Some s → clock s.system ≡ name → ⊥)
    → base_among name stations ≡ pos 0
base_none name [] none = refl
base_none name (s ∷ ss) none =
    let test : clock s.system == name ≡ false = grind (arith, nat_tests, none zero s refl) in
    rw test (base_none name ss (λ place x there. none (suc place) x there))

pub base_there : (name : ℕ) (w : WorldState) (base : ℤ) → HaveOwnClocks w → AtSystem name w (HasBase base)
    → base ≡ base_of name w
base_there name w base own is =
    is.so
    ∙ sym (base_found name is.place w.stations is.station is.is.here is.is.named
    (λ other x there same. own other is.place x is.station there is.is.here (same ∙ sym is.is.named)))

pub base_missing : (name : ℕ) (w : WorldState) → ((base : ℤ) → AtSystem name w (HasBase base) → ⊥)
    → base_of name w ≡ pos 0
base_missing name w none =
    base_none name w.stations (λ place s there named. none s.system.base
    (record { place = place; station = s; is = record { here = there; named = named }; so = refl }))
