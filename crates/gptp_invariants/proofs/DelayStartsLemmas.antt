-- Ports measure only at links that are up, also where a system starts.
use Rattle.std.proofs.Common.{◌≡◌, ℕ, zero, suc, Bool, true, false, List, [], ◌∷◌, length, map, Option, Some, None, IsSome, slice_get, refl, sym, ap, subst, ◌∙◌, inl, inr, arith}
use Rattle.std.specs.Prelude.{cond, ◌&&◌, ◌||◌}
use Rattle.std.specs.List.{filter, range_with_len}
use Rattle.std.specs.Option.{option_and_then}
use Rattle.std.proofs.lemmas.Bool.Decides.{nat_tests}
use Rattle.std.proofs.lemmas.Option.{same_Some}
use Rattle.gptp_lists.specs.Members.{In}
use Rattle.gptp_vector.specs.declared.port.PortId.{PortId}
use Rattle.gptp_links.specs.declared.link.Direction.{Direction}
use Rattle.gptp_links.specs.declared.link.Direction.TheVariants.{FromA, FromB}
use Rattle.gptp_links.specs.Fate.{Draw}
use Rattle.gptp_roles.specs.Selection.{clock_of}
use Rattle.gptp_system.specs.declared.port.Port.{Port}
use Rattle.gptp_setup.specs.declared.setup.Setup.{Setup}
use Rattle.gptp_system.specs.Input.{PortUp}
use Rattle.gptp_system.specs.Start.{new_port, started}
use Rattle.gptp_system.specs.State.{clock}
use Rattle.gptp_system.specs.Steps.{IsUp}
use Rattle.gptp_system.proofs.StartLemmas.{new_port_at}
use Rattle.gptp_model.specs.declared.station.Station.{Station}
use Rattle.gptp_model.specs.Changing.{CallsAll, CallsIfLive, RecoversIf, Starts, StartsAll, fresh, is_link_end, is_up_at, up_ports}
use Rattle.gptp_model.specs.World.{Channel, WorldState, port_id, sender}
use Rattle.gptp_model.proofs.AgreeLemmas.{replaced}
use Rattle.gptp_lists.proofs.PlaceLemmas.{get-set_same}
use Rattle.gptp_invariants.specs.DelayLinked.{BeginsLink, MeasureLinks}
use Rattle.gptp_invariants.proofs.DelayOnLinkLemmas.{replaced_measure}
use Rattle.gptp_invariants.proofs.DelayComesUpLemmas.{IsAt, calls_if_live_at, calls_if_live_links, port_up_measures}

-- no timer of a port runs in a system that starts
started_still : (setup : Setup) (now n : ℕ) → IsUp (started setup now) n → ⊥
started_still setup now zero up = absurd cc
started_still setup now (suc i) up = by (slice_get (started setup now).ports i) refl up
  where
    by : (o : Option Port) → slice_get (started setup now).ports i ≡ o
        → IsSome (option_and_then (λ (q : Port). q.pdelay) o) → ⊥
    by None there some = absurd cc
    by (Some q) there some =
        let (log, here, is) = new_port_at (clock_of setup.identity) setup.params setup.intervals.items i q there in
        let none : IsSome (new_port (port_id (clock_of setup.identity) (suc i)) setup.params log).pdelay =
        subst (λ (x : Port). IsSome x.pdelay) is some in
        absurd cc

-- a port at which a start finds a link that is up
port_is : (number port : ℕ) (end : PortId) → is_link_end number port end ≡ true → end ≡ port_id number port
port_is number port end is =
    let named : end.clock ≡ number = grind (arith, nat_tests) in
    let at : end.port ≡ port = grind (arith, nat_tests) in
    ap (λ c. port_id c end.port) named ∙ ap (port_id number) at

next_link : (c : Channel) (cs : List Channel) (port : PortId) → BeginsLink cs port → BeginsLink (c ∷ cs) port
next_link c cs port is = record {
  link = suc is.link;
  direction = is.direction;
  channel = is.channel;
  here = is.here;
  begins = is.begins;
  up = is.up;
}

first_link : (c : Channel) (cs : List Channel) (number port : ℕ)
    → (c.up && (is_link_end number port c.a || is_link_end number port c.b)) ≡ true
    → BeginsLink (c ∷ cs) (port_id number port)
first_link c cs number port is = by (is_link_end number port c.a) refl
  where
    up : c.up ≡ true
    up = grind (arith, nat_tests)

    at : (direction : Direction) → sender direction c ≡ port_id number port → BeginsLink (c ∷ cs) (port_id number port)
    at direction same =
        record { link = zero; direction = direction; channel = c; here = refl; begins = same; up = up }

    by : (b : Bool) → is_link_end number port c.a ≡ b → BeginsLink (c ∷ cs) (port_id number port)
    by true here = at FromA (port_is number port c.a here)
    by false other =
        let here : is_link_end number port c.b ≡ true = grind (arith, nat_tests)
        in at FromB (port_is number port c.b here)

found_link : (channels : List Channel) (number port : ℕ) → is_up_at channels number port ≡ true
    → BeginsLink channels (port_id number port)
found_link [] number port is = absurd cc
found_link (c ∷ cs) number port is =
    by (c.up && (is_link_end number port c.a || is_link_end number port c.b)) refl is
    (λ rest. found_link cs number port rest)
  where
    by : (b : Bool) → (c.up && (is_link_end number port c.a || is_link_end number port c.b)) ≡ b
        → (b || is_up_at cs number port) ≡ true → (is_up_at cs number port ≡ true → BeginsLink cs (port_id number port))
        → BeginsLink (c ∷ cs) (port_id number port)
    by true here found ih = first_link c cs number port here
    by false other found ih = next_link c cs (port_id number port) (ih found)

passes : (test : ℕ → Bool) (xs : List ℕ) (x : ℕ) → In x (filter test xs) → test x ≡ true
passes test [] x among = absurd among
passes test (y ∷ ys) x among = by (test y) refl among (λ rest. passes test ys x rest)
  where
    by : (b : Bool) → test y ≡ b → In x (cond b (y ∷ filter test ys) (filter test ys))
        → (In x (filter test ys) → test x ≡ true) → test x ≡ true
    by true is (inl here) ih = ap test here ∙ is
    by true is (inr rest) ih = ih rest
    by false is rest ih = ih rest

-- these ports of the system with a clock come up, one after another
calls_all_measure : (number place : ℕ) (ns : List ℕ) (w : WorldState) (draws : List Draw) (w' : WorldState)
    → IsAt (port_id number 0) place w → ((n : ℕ) → In n ns → BeginsLink w.net.channels (port_id number n))
    → MeasureLinks w → CallsAll place (map PortUp ns) w draws w' → MeasureLinks w'
calls_all_measure number place [] w draws w' at begins measure (none, is) = subst MeasureLinks (sym is) measure
calls_all_measure number place (n ∷ ns) w draws w' at begins measure (first, rest, between, answer, is, calls, more) =
    let one : CallsIfLive place (PortUp n) w first between = inl (answer, calls) in
    let keep = calls_if_live_links place (PortUp n) w first between one in
    calls_all_measure number place ns between rest w'
    (calls_if_live_at (port_id number 0) place place (PortUp n) w first between one at)
    (λ m among. keep (port_id number m) (begins m (inr among)))
    (port_up_measures (port_id number n) place w first between at (begins n (inl refl)) measure one) more

starts_measure : (place : ℕ) (w : WorldState) (draws : List Draw) (w' : WorldState) → MeasureLinks w
    → Starts place w draws w' → MeasureLinks w'
starts_measure place w draws w' measure k =
    calls_all_measure (clock new.system) place (up_ports new w.net) begun draws w' at begins kept k.calls
  where
    new : Station
    new = fresh w.time k.station

    begun : WorldState
    begun = replaced place new w

    at : IsAt (port_id (clock new.system) 0) place begun
    at station there =
        ap (λ (x : Station). clock x.system)
        (sym (same_Some new station (sym (get-set_same w.stations place k.station new k.here) ∙ there)))

    begins : (n : ℕ) → In n (up_ports new w.net) → BeginsLink begun.net.channels (port_id (clock new.system) n)
    begins n among =
        found_link w.net.channels (clock new.system) n
        (passes (λ m. is_up_at w.net.channels (clock new.system) m) (range_with_len 1 (length new.system.ports)) n
        among)

    kept : MeasureLinks begun
    kept =
        replaced_measure w place k.station new k.here
        (λ live n up. absurd (started_still k.station.setup w.time n up)) measure

pub starts_all_measure : (places : List ℕ) (w : WorldState) (draws : List Draw) (w' : WorldState) → MeasureLinks w
    → StartsAll places w draws w' → MeasureLinks w'
starts_all_measure [] w draws w' measure (none, is) = subst MeasureLinks (sym is) measure
starts_all_measure (place ∷ places) w draws w' measure (first, rest, between, is, one, more) =
    starts_all_measure places between rest w' (starts_measure place w first between measure one) more

pub recovers_measure : (live : Bool) (place : ℕ) (w : WorldState) (draws : List Draw) (w' : WorldState) → MeasureLinks w
    → RecoversIf live place w draws w' → MeasureLinks w'
recovers_measure true place w draws w' measure (none, is) = subst MeasureLinks (sym is) measure
recovers_measure false place w draws w' measure k = starts_measure place w draws w' measure k
