-- What an act leaves as it was: what is shown of every system but that which it gives an input.
use Rattle.std.proofs.Common.{◌≡◌, ◌==◌, ℕ, zero, suc, Bool, true, false, List, [], ◌∷◌, Some, None, if◌then◌else◌, slice_get, slice_set, refl, sym, ap, subst, ◌∙◌, arith}
use Rattle.std.proofs.lemmas.Bool.Decides.{nat_tests}
use Rattle.std.proofs.lemmas.Option.{same_Some}
use Rattle.gptp_model.specs.declared.station.Station.{Station}
use Rattle.gptp_model.specs.Act.{in_state, Calls}
use Rattle.gptp_model.specs.Sound.{HaveOwnClocks}
use Rattle.gptp_model.specs.Views.{ShowsLive, IsLiveSystem}
use Rattle.gptp_model.specs.Acts.{AtSystem}
use Rattle.gptp_model.specs.World.{WorldState}
use Rattle.gptp_model.proofs.SteadyLemmas.{same_clock}
use Rattle.gptp_links.specs.Fate.{Draw}
use Rattle.gptp_system.specs.Input.{Input}
use Rattle.gptp_system.specs.declared.answer.Answer.{Answer}
use Rattle.gptp_system.specs.State.{SystemState, clock}
use Rattle.gptp_timeline.specs.Shown.{live_among, live_system}

-- ---- the live system with a clock

-- the station at a place, where no other has its clock, is found
pub found : (name place : ℕ) (stations : List Station) (station : Station) → slice_get stations place ≡ Some station
    → clock station.system ≡ name
    → ((other : ℕ) (at : Station) → slice_get stations other ≡ Some at → clock at.system ≡ name → other ≡ place)
    → live_among name stations ≡ (if station.live then Some station.system else None)
found name place [] station there named alone = absurd cc
found name zero (s ∷ ss) station there named alone =
    let is : s ≡ station = same_Some s station there in
    let test : clock station.system == name ≡ true = grind (arith, nat_tests) in rw (is, test) refl
found name (suc place) (s ∷ ss) station there named alone =
    let test : clock s.system == name ≡ false = grind (arith, nat_tests, alone zero s refl) in
    rw test (found name place ss station there named
    (λ other at here is. let e : suc other ≡ suc place = alone (suc other) at here is in omega arith))

-- where none is live with a clock, none is found
not_first : (name : ℕ) (s : Station) (ss : List Station)
    → ((place : ℕ) (station : Station) → slice_get (s ∷ ss) place ≡ Some station → clock station.system ≡ name
    → station.live ≡ true → ⊥)
    → live_among name ss ≡ None
    → (t : Bool) → clock s.system == name ≡ t → (l : Bool) → s.live ≡ l
    → live_among name (s ∷ ss) ≡ None
not_first name s ss none rest true test true live = absurd (none zero s refl (grind (arith, nat_tests)) live)
not_first name s ss none rest true test false live = rw (test, live) refl
not_first name s ss none rest false test l live = rw test rest

pub not_found : (name : ℕ) (stations : List Station)
    → ((place : ℕ) (station : Station) → slice_get stations place ≡ Some station → clock station.system ≡ name
    → station.live ≡ true → ⊥)
    → live_among name stations ≡ None
not_found name [] none = refl
not_found name (s ∷ ss) none =
    not_first name s ss none (not_found name ss (λ place station there. none (suc place) station there))
    (clock s.system == name) refl s.live refl

-- ---- one station becomes another

live_step : (name : ℕ) (s : Station) (xs ys : List Station) → live_among name xs ≡ live_among name ys
    → live_among name (s ∷ xs) ≡ live_among name (s ∷ ys)
live_step name s xs ys same =
    ap (λ rest. if clock s.system == name then (if s.live then Some s.system else None) else rest) same

live_head : (name : ℕ) (s t : Station) (ss : List Station) → (clock s.system ≡ name → ⊥) → (clock t.system ≡ name → ⊥)
    → live_among name (t ∷ ss) ≡ live_among name (s ∷ ss)
live_head name s t ss old new =
    let a : clock s.system == name ≡ false = grind (arith, nat_tests) in
    let b : clock t.system == name ≡ false = grind (arith, nat_tests) in rw (a, b) refl

-- where it has another clock before and after, nothing is changed
pub live_other : (name place : ℕ) (stations : List Station) (old new : Station) → slice_get stations place ≡ Some old
    → (clock old.system ≡ name → ⊥) → (clock new.system ≡ name → ⊥)
    → live_among name (slice_set stations place new) ≡ live_among name stations
live_other name place [] old new there before behind = absurd cc
live_other name zero (s ∷ ss) old new there before behind =
    live_head name s new ss (subst (λ (x : Station). clock x.system ≡ name → ⊥) (sym (same_Some s old there)) before)
    behind
live_other name (suc place) (s ∷ ss) old new there before behind =
    live_step name s (slice_set ss place new) ss (live_other name place ss old new there before behind)

-- a system that is given an input leaves the others as they are
pub calls_other : (name place : ℕ) (input : Input) (w : WorldState) (draws : List Draw) (answer : Answer)
    (w' : WorldState) → (calls : Calls place input w draws answer w') → (clock calls.station.system ≡ name → ⊥)
    → live_system name w' ≡ live_system name w
calls_other name place input w draws answer w' calls apart =
    let named = same_clock input w.time calls.station.system calls.after calls.sends answer calls.steps in
    ap (live_system name) calls.is
    ∙ live_other name place w.stations calls.station (in_state calls.after calls.station) calls.here apart
    (λ is. apart (sym named ∙ is))

-- ---- what a world tells of its live system with a clock

pub live_shown : (name : ℕ) (w : WorldState) (s : SystemState) → HaveOwnClocks w → ShowsLive name w s
    → live_system name w ≡ Some s
live_shown name w s own live =
    found name live.place w.stations live.station live.is.here live.is.named
    (λ other at there same. own other live.place at live.station there live.is.here (same ∙ sym live.is.named))
    ∙ ap (λ l. if l then Some live.station.system else None) live.live
    ∙ ap Some (sym live.state)

pub none_shown : (name : ℕ) (w : WorldState) → (AtSystem name w IsLiveSystem → ⊥) → live_system name w ≡ None
none_shown name w none = not_found name w.stations (λ place station there named live.
    none (record { place = place; station = station; is = record { here = there; named = named }; so = live }))
