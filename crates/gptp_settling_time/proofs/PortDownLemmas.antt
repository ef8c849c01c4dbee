-- A port goes down at a system: what it holds gets less, and so it is after the call.
use Rattle.std.proofs.Common.{◌≡◌, ◌≢◌, ◌⊎◌, ◌<◌, ℕ, ℤ, zero, suc, Bool, true, List, [], ◌∷◌, length, map, Some, slice_get, slice_set, refl, sym, ap, subst, ◌∙◌, inl, inr, arith}
use Rattle.std.proofs.lemmas.Option.{same_Some}
use Rattle.gptp_lists.proofs.PlaceLemmas.{get-set_other, get-set_same, same_place}
use Rattle.gptp_vector.specs.Vector.{system_vector}
use Rattle.gptp_vector.specs.declared.vector.Vector.{Vector}
use Rattle.gptp_links.specs.declared.link.Direction.{Direction}
use Rattle.gptp_links.specs.declared.link.Direction.TheVariants.{FromA, FromB}
use Rattle.gptp_links.specs.Fate.{Draw}
use Rattle.gptp_receipt.specs.declared.held.Held.{Held}
use Rattle.gptp_receipt.specs.declared.held.Held.TheVariants as helds
use Rattle.gptp_receipt.specs.declared.held.Reception.{Reception}
use Rattle.gptp_roles.specs.Choice.{IsIn, path_vectors}
use Rattle.gptp_roles.specs.Selection.{clock_of}
use Rattle.gptp_setup.specs.SettlingParams.{span_by}
use Rattle.gptp_system.specs.declared.port.Port.{Port}
use Rattle.gptp_system.specs.declared.sending.Sending.{Sending}
use Rattle.gptp_system.specs.Facts.{AreHeld, IsAtRest}
use Rattle.gptp_system.specs.Input.{PortDown}
use Rattle.gptp_system.specs.Measuring.{GoesDown, silenced}
use Rattle.gptp_system.specs.State.{SystemState, change_at}
use Rattle.gptp_model.specs.Act.{all_timers, in_state}
use Rattle.gptp_model.specs.Changing.{CallsIfLive}
use Rattle.gptp_model.specs.Sends.{SendsAll}
use Rattle.gptp_model.specs.World.{Channel, Net, WorldState, sender}
use Rattle.gptp_model.specs.declared.station.Station.{Station}
use Rattle.gptp_bmca_machine.specs.Station.{Disabled, Port as SeenPort, Received, Reception as SeenReception, Station as SeenStation}
use Rattle.gptp_invariants.specs.ChoiceView.{held_view, ports_view, reception_view, span_at, station_view, system_view, view}
use Rattle.gptp_invariants.proofs.ChoicePlaceLemmas.{station_from, station_there}
use Rattle.gptp_settling_time.proofs.GoesDownLemmas.{AreDisabled, GoesDownQuietly, goes_down_alone, goes_down_quietly, without}
use Rattle.gptp_settling_time.proofs.ReducedLemmas.{IsReducedStation, reduced_itself}

-- ---- a system whose port goes down

ports_reduced : (keep : ℤ → ℕ) (i : ℕ) (hs : List Held) (qs : List Port) (j : ℕ) (q : SeenPort)
    → slice_get (ports_view keep (without i hs) (change_at silenced i qs)) j ≡ Some q
    → (slice_get (ports_view keep hs qs) j ≡ Some q) ⊎ (q.held ≡ Disabled)
ports_reduced keep i [] qs j q there = inl there
ports_reduced keep zero (h ∷ hs) [] j q there = inl there
ports_reduced keep (suc i) (h ∷ hs) [] j q there = inl there
ports_reduced keep zero (h ∷ hs) (p ∷ qs) zero q there = inr (ap (λ (x : SeenPort). x.held) (sym (same_Some _ q there)))
ports_reduced keep zero (h ∷ hs) (p ∷ qs) (suc j) q there = inl there
ports_reduced keep (suc i) (h ∷ hs) (p ∷ qs) zero q there = inl there
ports_reduced keep (suc i) (h ∷ hs) (p ∷ qs) (suc j) q there = ports_reduced keep i hs qs j q there

reduced : (live : Bool) (i : ℕ) (a b : SystemState) (sends : List Sending) → GoesDownQuietly i a b sends
    → IsReducedStation (system_view live a) (system_view live b)
reduced live i a b sends quiet = record {
  live = refl;
  clock = ap clock_of quiet.identity;
  ports = λ j q there.
      ports_reduced (span_at a) i a.held a.ports j q (subst (λ (ports : List SeenPort). slice_get ports j ≡ Some q) same
      there);
}
  where
    spans : span_at b ≡ span_at a
    spans = λ k. (λ log. span_by (quiet.params k).timeout (quiet.largest k) log)

    same : ports_view (span_at b) b.held b.ports
        ≡ ports_view (span_at a) (without i a.held) (change_at silenced i a.ports)
    same = λ k. ports_view (spans k) (quiet.held k) (quiet.ports k)

pub reduced_on : (a b c : SeenStation) → IsReducedStation a b → IsReducedStation b c → IsReducedStation a c
reduced_on a b c first second = record {
  live = second.live ∙ first.live;
  clock = second.clock ∙ first.clock;
  ports = λ j q there. elim (second.ports j q there) [
    | inl between ↦ first.ports j q between
    | inr off ↦ inr off
  ];
}

-- ---- a call

-- without its port at this place something else is as good as what it follows
pub record HasAnother (s : SystemState) (place : ℕ) : Type 0 where
  pub left : Vector
  pub among : IsIn left (system_vector s.identity ∷ path_vectors (without place s.held))
  pub root : left.root ≡ s.root
  pub steps : left.steps ≡ s.steps

-- what is known of a system whose port goes down: so it is of it, or no other port takes part
pub record CanLose (station : Station) (port : ℕ) : Type 0 where
  pub held : AreHeld station.system
  pub rest : IsAtRest station.system
  pub place : ℕ
  pub number : port ≡ suc place
  pub others : HasAnother station.system place ⊎ AreDisabled (without place station.system.held)

-- systems are reduced at most, and links are as they were
pub record StandsReduced (w w' : WorldState) : Type 0 where
  pub time : w'.time ≡ w.time
  pub stations : (i : ℕ) (s : SeenStation) → slice_get (view w').stations i ≡ Some s
      → (old : SeenStation) × (slice_get (view w).stations i ≡ Some old) × IsReducedStation old s
  pub channels : w'.net.channels ≡ w.net.channels

set_reduced : (stations : List Station) (place : ℕ) (old new : Station) → slice_get stations place ≡ Some old
    → IsReducedStation (station_view old) (station_view new) → (i : ℕ) (s : SeenStation)
    → slice_get (map station_view (slice_set stations place new)) i ≡ Some s
    → (t : SeenStation) × (slice_get (map station_view stations) i ≡ Some t) × IsReducedStation t s
set_reduced stations place old new here less i s there =
    let x = station_from (slice_set stations place new) i s there in
    elim (same_place i place) [
      | inl same ↦
          let one : x.station ≡ new =
          same_Some x.station new
          (sym x.here ∙ ap (slice_get (slice_set stations place new)) same
          ∙ get-set_same stations place old new here) in (
            station_view old,
            ap (slice_get (map station_view stations)) same ∙ station_there stations place old here,
            subst (IsReducedStation (station_view old)) (sym (x.is ∙ ap station_view one)) less,
          )
      | inr apart ↦
          let at : slice_get stations i ≡ Some x.station =
          sym (get-set_other stations place i new apart) ∙ x.here in (
            station_view x.station,
            station_there stations i x.station at,
            subst (IsReducedStation (station_view x.station)) (sym x.is) (reduced_itself (station_view x.station)),
          )
    ]

pub goes_down_reduced : (place port : ℕ) (w : WorldState) (draws : List Draw) (w' : WorldState)
    → ((station : Station) → slice_get w.stations place ≡ Some station → station.live ≡ true → CanLose station port)
    → CallsIfLive place (PortDown port) w draws w' → StandsReduced w w'
goes_down_reduced place port w draws w' can (inr (failed, none, same)) =
    subst (StandsReduced w) (sym same)
    (record { time = refl; stations = λ i s there. (s, there, reduced_itself s); channels = refl })
goes_down_reduced place port w draws w' can (inl (answer, c)) =
    let x = can c.station c.here c.live in
    let after : Station = in_state c.after c.station in
    let steps : GoesDown (suc x.place) w.time c.station.system c.after c.sends =
    subst (λ n. GoesDown n w.time c.station.system c.after c.sends) x.number c.steps in
    let quiet : GoesDownQuietly x.place c.station.system c.after c.sends =
    elim x.others [
      | inl y ↦ goes_down_quietly w.time x.place c.station.system c.after c.sends x.held x.rest steps y.left y.among
          y.root y.steps
      | inr off ↦ goes_down_alone w.time x.place c.station.system c.after c.sends x.held steps off
    ] in
    let net : c.net ≡ all_timers place after w.net =
    (subst (λ sends. SendsAll w.time c.after sends draws (all_timers place after w.net) c.net) quiet.silent c.sent).1 in
    record {
      time = ap (λ (v : WorldState). v.time) c.is;
      stations = λ i s there.
          set_reduced w.stations place c.station after c.here
          (reduced c.station.live x.place c.station.system c.after c.sends quiet) i s
          (ap (λ (v : WorldState). slice_get (map station_view v.stations) i) (sym c.is) ∙ there);
      channels = ap (λ (v : WorldState). v.net.channels) c.is ∙ ap (λ (n : Net). n.channels) net;
    }

pub stands_on : (w v u : WorldState) → StandsReduced w v → StandsReduced v u → StandsReduced w u
stands_on w v u first second = record {
  time = second.time ∙ first.time;
  stations = λ i s there.
      let (mid, at_mid, less) = second.stations i s there in
      let (old, at_old, lesser) = first.stations i mid at_mid in
      (old, at_old, reduced_on old mid s lesser less);
  channels = second.channels ∙ first.channels;
}

-- what is seen to be received is
pub received_from : (keep : ℤ → ℕ) (h : Held) (r : SeenReception) → held_view keep h ≡ Received r
    → (x : Reception) × (h ≡ helds.Received x) × (reception_view keep x ≡ r)
received_from keep helds.Disabled r is = absurd cc
received_from keep helds.Aged r is = absurd cc
received_from keep (helds.Mine root steps) r is = absurd cc
received_from keep (helds.Received x) r is = (x, refl, cc)

-- what is seen to be disabled is
pub disabled_from : (keep : ℤ → ℕ) (h : Held) → held_view keep h ≡ Disabled → h ≡ helds.Disabled
disabled_from keep helds.Disabled is = refl
disabled_from keep helds.Aged is = absurd cc
disabled_from keep (helds.Mine root steps) is = absurd cc
disabled_from keep (helds.Received x) is = absurd cc

pub place_within : (j : ℕ) (hs : List Held) (h : Held) → slice_get hs j ≡ Some h → j < length hs
place_within j [] h there = absurd cc
place_within zero (x ∷ hs) h there = omega arith
place_within (suc j) (x ∷ hs) h there = let within = place_within j hs h there in omega (arith, within)

-- the ends of a link between two systems differ, so one that is at this system is this one
pub same_end : (channel : Channel) (way direction : Direction) → channel.a.clock ≢ channel.b.clock
    → (sender direction channel).clock ≡ (sender way channel).clock → sender direction channel ≡ sender way channel
same_end channel FromA FromA apart same = refl
same_end channel FromB FromB apart same = refl
same_end channel FromA FromB apart same = absurd (apart (sym same))
same_end channel FromB FromA apart same = absurd (apart same)
