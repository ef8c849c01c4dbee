-- What a change of a system makes of how it stands.
use Rattle.std.proofs.Common.{◌≡◌, ℕ, ◌+◌, ◌*◌, ◌^◌, ◌%◌, Bool, true, false, List, map, Some, slice_get, slice_set, refl, sym, ap, subst, ◌∙◌, inl, inr}
use Rattle.std.specs.Prelude.{if◌then◌else◌}
use Rattle.gptp_links.specs.Fate.{Draw}
use Rattle.gptp_system.specs.Input.{Priority}
use Rattle.gptp_system.specs.State.{SystemState}
use Rattle.gptp_model.specs.declared.station.Station.{Station}
use Rattle.gptp_model.specs.Act.{in_state}
use Rattle.gptp_model.specs.Changing.{CallsIfLive, FailsIf, RecoversIf, with_setup, with_station}
use Rattle.gptp_model.specs.World.{WorldState}
use Rattle.gptp_lists.proofs.MappedLemmas.{mapped_there, same_there}
use Rattle.gptp_lists.proofs.PlaceLemmas.{get-set_same, map-set}
use Rattle.gptp_theorem.specs.Reached.{Shape, shape}
use Rattle.gptp_theorem.proofs.KeptLemmas.{calls_kept}
use Rattle.gptp_theorem.proofs.BeginLemmas.{SystemBecomes, of_setup, starts_becomes}
use Rattle.gptp_theorem.proofs.EventLemmas.{set_itself, set_twice}

-- it stands so already
stays_itself : (place : ℕ) (station : Station) (new : Shape) (w w' : WorldState)
    → slice_get w.stations place ≡ Some station → shape station ≡ new → w' ≡ w → SystemBecomes place new w w'
stays_itself place station new w w' here same is =
    subst (SystemBecomes place new w) (sym is)
    (record {
      systems = set_itself (map shape w.stations) place new
          (mapped_there shape w.stations place station here ∙ ap Some same);
      links = refl;
      last = refl;
    })

pub fails_becomes : (live : Bool) (place : ℕ) (station : Station) (w : WorldState) (draws : List Draw) (w' : WorldState)
    → slice_get w.stations place ≡ Some station → station.live ≡ live → FailsIf live place station w draws w'
    → SystemBecomes place (of_setup false station.setup) w w'
fails_becomes true place station w draws w' here is k =
    subst (SystemBecomes place (of_setup false station.setup) w) (sym k.1)
    (record { systems = map-set shape w.stations place (record station { live = false }); links = refl; last = refl })
fails_becomes false place station w draws w' here is k =
    stays_itself place station (of_setup false station.setup) w w' here (rw is refl) k.1

pub recovers_becomes : (live : Bool) (place : ℕ) (station : Station) (w : WorldState) (draws : List Draw)
    (w' : WorldState) → slice_get w.stations place ≡ Some station → station.live ≡ live
    → shape station ≡ of_setup station.live station.setup → RecoversIf live place w draws w'
    → SystemBecomes place (of_setup true station.setup) w w'
recovers_becomes true place station w draws w' here is its k =
    stays_itself place station (of_setup true station.setup) w w' here
    (its ∙ ap (λ live. of_setup live station.setup) is) k.1
recovers_becomes false place station w draws w' here is its k =
    subst (λ (s : Station). SystemBecomes place (of_setup true s.setup) w w')
    (same_there w.stations place k.station station k.here here)
    (starts_becomes place w draws w' k)

-- where a system has another priority1, and selects if it lives
pub prioritized_becomes : (value place : ℕ) (station : Station) (w : WorldState) (draws : List Draw) (w' : WorldState)
    → slice_get w.stations place ≡ Some station → shape station ≡ of_setup station.live station.setup
    → CallsIfLive place (Priority value) (with_station place (with_setup value station) w) draws w'
    → SystemBecomes place (of_setup station.live (with_setup value station).setup) w w'
prioritized_becomes value place station w draws w' here its (inl (answer, k)) =
    subst (SystemBecomes place new w) (sym k.is)
    (record {
      systems = map-set shape set.stations place called
          ∙ ap (λ ss. slice_set ss place (shape called)) (map-set shape w.stations place next)
          ∙ set_twice (map shape w.stations) place (shape next) (shape called)
          ∙ ap (slice_set (map shape w.stations) place) stands;
      links = calls_kept place (Priority value) set draws answer w' k;
      last = refl;
    })
  where
    next : Station
    next = with_setup value station

    set : WorldState
    set = with_station place next w

    called : Station
    called = in_state k.after k.station

    new : Shape
    new = of_setup station.live next.setup

    one : k.station ≡ next
    one = same_there set.stations place k.station next k.here (get-set_same w.stations place station next here)

    lives : station.live ≡ true
    lives = ap (λ (s : Station). s.live) (sym one) ∙ k.live

    own : station.system.identity ≡ station.setup.identity
    own =
        ap (λ b. if b then station.system.identity else station.setup.identity) (sym lives)
        ∙ ap (λ (s : Shape). s.identity) its

    named : k.after.identity ≡ next.setup.identity
    named =
        ap (λ (s : SystemState). s.identity) k.steps.state
        ∙ ap (λ (s : Station). value * 2 ^ 104 + s.system.identity % 2 ^ 104) one
        ∙ ap (λ n. value * 2 ^ 104 + n % 2 ^ 104) own

    stands : shape called ≡ new
    stands =
        ap (λ (s : Station). shape (in_state k.after s)) one
        ∙ (rw lives (ap (λ n. record { setup = next.setup; live = true; identity = n }) named))
prioritized_becomes value place station w draws w' here its (inr (dead, none, is)) =
    subst (SystemBecomes place (of_setup station.live (with_setup value station).setup) w) (sym is)
    (record {
      systems = map-set shape w.stations place next ∙ ap (slice_set (map shape w.stations) place) stands;
      links = refl;
      last = refl;
    })
  where
    next : Station
    next = with_setup value station

    one : dead.station ≡ next
    one =
        same_there (slice_set w.stations place next) place dead.station next dead.here
        (get-set_same w.stations place station next here)

    fails : station.live ≡ false
    fails = ap (λ (s : Station). s.live) (sym one) ∙ dead.failed

    stands : shape next ≡ of_setup station.live next.setup
    stands = rw fails refl
