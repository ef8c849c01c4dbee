-- Ports that come up, one after another, each whose link is up.
use Rattle.std.proofs.Common.{◌≡◌, ℕ, zero, suc, ◌+◌, ◌*◌, ◌<◌, Bool, true, false, List, [], ◌∷◌, ◌++◌, length, map, Option, Some, slice_get, IfSome, IfNone, is_some, refl, ap, subst, sym, ◌∙◌, arith}
use Rattle.std.proofs.lemmas.List.{append-nil, append_assoc, map-append}
use Rattle.std.specs.List.{filter, range_with_len}
use Rattle.std.proofs.lemmas.List.Elements.{filter-append}
use Rattle.std.proofs.lemmas.Option.{same_Some}
use Rattle.gptp_links.specs.declared.bounds.Bounds.{Bounds}
use Rattle.gptp_links.specs.Fate.{Draw}
use Rattle.gptp_links.proofs.DrawLemmas.{draws-append}
use Rattle.gptp_system.specs.declared.answer.Answer.{Answer}
use Rattle.gptp_system.specs.Input.{Input, PortUp}
use Rattle.gptp_system.specs.State.{SystemState, clock}
use Rattle.gptp_traffic.specs.declared.joined_link.Lane.{Lane}
use Rattle.gptp_world.specs.declared.net.Net.{Net as Between}
use Rattle.gptp_world.specs.declared.world_parts.WorldParts.{WorldParts}
use Rattle.gptp_model.specs.declared.station.Station.{Station}
use Rattle.gptp_model.specs.Act.{in_state, Calls}
use Rattle.gptp_model.specs.Changing.{is_up_at, CallsAll}
use Rattle.gptp_world.specs.Net.{between, IsUpLane}
use Rattle.gptp_model.specs.World.{port_id}
use Rattle.gptp_model.specs.Sends.{IsUnlinkedPort}
use Rattle.gptp_world.specs.Room.{both, for_call, no_room, repeated, WorldHasRoom, Need, Uses}
use Rattle.gptp_world.specs.WorldParts.{clock_at_place, world_of, Called, CallUses, HasRoomToCall, IsWorldParts}
use Rattle.gptp_world.specs.Starting.{CameUp, HasRoomForPorts}
use Rattle.gptp_model.specs.World.{WorldState}
use Rattle.gptp_world.proofs.NeedLemmas.{covered, left_of, unsent, uses_both, uses_less, Covers}
use Rattle.gptp_lists.proofs.MappedLemmas.{mapped_there}
use Rattle.gptp_lists.proofs.PlaceLemmas.{get-set_same}
use Rattle.gptp_model.proofs.SteadyLemmas.{same_clock, same_ports}
use Rattle.gptp_world.proofs.UpPortLemmas.{calls_all_up, up_tells}

-- ---- calls one after another

calls_all-append : (place : ℕ) (xs ys : List Input) (w middle w' : WorldState) (ds es : List Draw)
    → CallsAll place xs w ds middle
    → CallsAll place ys middle es w' → CallsAll place (xs ++ ys) w (ds ++ es) w'
calls_all-append place [] ys w middle w' ds es front back =
    let none = front.0 in rw none (subst (λ v. CallsAll place ys v es w') front.1 back)
calls_all-append place (x ∷ xs) ys w middle w' ds es (first, rest, between, answer, is, one, more) back = (
  first,
  rest ++ es,
  between,
  answer,
  ap (λ v. v ++ es) is ∙ append_assoc first rest es,
  one,
  calls_all-append place xs ys between middle w' rest es more back,
)

-- a system with the same clock and as many ports, as live as this one, stands at a place
pub record Remains (place : ℕ) (one : Station) (w : WorldState) : Type 0 where
  pub station : Station
  pub here : slice_get w.stations place ≡ Some station
  pub live : station.live ≡ one.live
  pub ports : length station.system.ports ≡ length one.system.ports
  pub clocks : clock station.system ≡ clock one.system

remains : (place : ℕ) (one : Station) (w : WorldState) → slice_get w.stations place ≡ Some one → Remains place one w
remains place one w here = record { station = one; here = here; live = refl; ports = refl; clocks = refl }

calls_remain : (place : ℕ) (one : Station) (input : Input) (w : WorldState) (draws : List Draw) (answer : Answer)
    (w' : WorldState)
    → Remains place one w → Calls place input w draws answer w' → Remains place one w'
calls_remain place one input w draws answer w' was calls =
    let new = in_state calls.after calls.station in
    let is : calls.station ≡ was.station = same_Some calls.station was.station (sym calls.here ∙ was.here) in
    record {
      station = new;
      here = ap (λ (v : WorldState). slice_get v.stations place) calls.is
          ∙ get-set_same w.stations place calls.station new calls.here;
      live = ap (λ (s : Station). s.live) is ∙ was.live;
      ports = same_ports input w.time calls.station.system calls.after calls.sends answer calls.steps
          ∙ (ap (λ (s : Station). length s.system.ports) is ∙ was.ports);
      clocks = same_clock input w.time calls.station.system calls.after calls.sends answer calls.steps
          ∙ (ap (λ (s : Station). clock s.system) is ∙ was.clocks);
    }

calls_all_remain : (place : ℕ) (one : Station) (inputs : List Input) (w : WorldState) (draws : List Draw)
    (w' : WorldState)
    → Remains place one w → CallsAll place inputs w draws w' → Remains place one w'
calls_all_remain place one [] w draws w' was calls = subst (Remains place one) (sym calls.1) was
calls_all_remain place one (input ∷ inputs) w draws w' was (first, rest, between, answer, is, calls, more) =
    calls_all_remain place one inputs between rest w' (calls_remain place one input w first answer between was calls)
    more

-- ---- ports that come up

filter-equal : (p q : ℕ → Bool) (xs : List ℕ) → ((x : ℕ) → p x ≡ q x) → filter p xs ≡ filter q xs
filter-equal p q [] same = refl
filter-equal p q (x ∷ xs) same = by (q x) refl (filter-equal p q xs same)
  where
    by : (test : Bool) → q x ≡ test → filter p xs ≡ filter q xs → filter p (x ∷ xs) ≡ filter q (x ∷ xs)
    by true test ih = let first = same x ∙ test in rw (first, test, ih) refl
    by false test ih = let first = same x ∙ test in rw (first, test, ih) refl

pub none_came : {F : Type 0} (answers : Bounds → ℕ → F → Option ℕ → F → Type 0) (place : ℕ) (fate : F)
    (parts : WorldParts)
    (station : Station)
    → slice_get parts.stations.items place ≡ Some station → CameUp answers place [] fate fate parts parts
none_came answers place fate parts station here =
    record { station = station; here = here; draws = []; drawn = refl; calls = (refl, refl) }

-- what stands there afterwards
pub came_remains : {F : Type 0} (answers : Bounds → ℕ → F → Option ℕ → F → Type 0) (place : ℕ) (ports : List ℕ)
    (fate fate_after : F)
    (parts stage' : WorldParts) (station : Station) → slice_get parts.stations.items place ≡ Some station
    → CameUp answers place ports fate fate_after parts stage' → Remains place station (world_of stage')
came_remains answers place ports fate fate_after parts stage' station here came =
    calls_all_remain place station _ (world_of parts) came.draws (world_of stage')
    (remains place station (world_of parts) here) came.calls

pub came_more : {F : Type 0} (answers : Bounds → ℕ → F → Option ℕ → F → Type 0) (place : ℕ) (xs ys : List ℕ)
    (first second third : F)
    (parts middle stage' : WorldParts) → CameUp answers place xs first second parts middle
    → CameUp answers place ys second third middle stage'
    → CameUp answers place (xs ++ ys) first third parts stage'
came_more answers place xs ys first second third parts middle stage' a b =
    let up : ℕ → Bool = λ p. is_up_at (world_of parts).net.channels (clock a.station.system) p in
    let up' : ℕ → Bool = λ p. is_up_at (world_of middle).net.channels (clock b.station.system) p in
    let still = came_remains answers place xs first second parts middle a.station a.here a in
    let one : b.station ≡ still.station = same_Some b.station still.station (sym b.here ∙ still.here) in
    let clocks : clock b.station.system ≡ clock a.station.system = ap (λ (s : Station). clock s.system) one
    ∙ still.clocks in
    let same : (p : ℕ) → up' p ≡ up p =
    λ p. ap (λ number. is_up_at (world_of middle).net.channels number p) clocks
    ∙ calls_all_up place (map PortUp (filter up xs)) (world_of parts) a.draws (world_of middle)
    (clock a.station.system) p a.calls in
    let inputs : map PortUp (filter up xs) ++ map PortUp (filter up' ys) ≡ map PortUp (filter up (xs ++ ys)) =
    ap (λ zs. map PortUp (filter up xs) ++ map PortUp zs) (filter-equal up' up ys same)
    ∙ (sym (map-append PortUp (filter up xs) (filter up ys)) ∙ ap (map PortUp) (sym (filter-append up xs ys))) in
    record {
      station = a.station;
      here = a.here;
      draws = a.draws ++ b.draws;
      drawn = draws-append answers first second third a.draws b.draws a.drawn b.drawn;
      calls = subst (λ zs. CallsAll place zs (world_of parts) (a.draws ++ b.draws) (world_of stage')) inputs
          (calls_all-append place (map PortUp (filter up xs)) (map PortUp (filter up' ys)) (world_of parts)
          (world_of middle)
          (world_of stage') a.draws b.draws a.calls b.calls);
    }

-- ---- one port

-- whether a link that is up is at a port of a system of the stage
pub linked : (parts : WorldParts) (place port : ℕ) (one : Station) (lane : Option Lane) → IsWorldParts parts
    → slice_get parts.stations.items place ≡ Some one
    → ((number : ℕ) → slice_get parts.net.directory.clocks place ≡ Some number
    → IfSome lane (IsUpLane parts.net (port_id number port)))
    → ((number : ℕ) → slice_get parts.net.directory.clocks place ≡ Some number
    → IfNone lane (IsUnlinkedPort (between parts.net) (port_id number port)))
    → is_up_at (world_of parts).net.channels (clock one.system) port ≡ is_some lane
linked parts place port one lane is here some none =
    let number = clock one.system in
    let known : slice_get parts.net.directory.clocks place ≡ Some number =
    ap (λ cs. slice_get cs place) (sym is.clocks) ∙ mapped_there clock_at_place parts.stations.items place one here in
    up_tells parts.net number port lane is.net (some number known) (none number known)

pub one_came : {F : Type 0} (answers : Bounds → ℕ → F → Option ℕ → F → Type 0) (place port : ℕ) (fate fate_after : F)
    (parts stage' : WorldParts)
    (station : Station) → slice_get parts.stations.items place ≡ Some station
    → is_up_at (world_of parts).net.channels (clock station.system) port ≡ true
    → (answer : Answer) → Called answers place (PortUp port) answer fate fate_after parts stage'
    → CameUp answers place (port ∷ []) fate fate_after parts stage'
one_came answers place port fate fate_after parts stage' station here up answer one =
    let calls : CallsAll place (PortUp port ∷ []) (world_of parts) one.draws (world_of stage') =
    (one.draws, [], world_of stage', answer, sym (append-nil one.draws), one.calls, (refl, refl)) in
    record { station = station; here = here; draws = one.draws; drawn = one.drawn; calls = rw up calls }

pub none_up : {F : Type 0} (answers : Bounds → ℕ → F → Option ℕ → F → Type 0) (place port : ℕ) (fate : F)
    (parts : WorldParts)
    (station : Station) → slice_get parts.stations.items place ≡ Some station
    → is_up_at (world_of parts).net.channels (clock station.system) port ≡ false
    → CameUp answers place (port ∷ []) fate fate parts parts
none_up answers place port fate parts station here down =
    record { station = station; here = here; draws = []; drawn = refl; calls = rw down (refl, refl) }

-- ---- the numbers of ports

pub range-more : (a n : ℕ) → range_with_len a (n + 1) ≡ range_with_len a n ++ (a + n) ∷ []
range-more a zero = let same : a ≡ a + 0 = omega arith in ap (λ p. p ∷ []) same
range-more a (suc n) =
    let ih = range-more (a + 1) n in let same : a + 1 + n ≡ a + suc n = omega arith in
    let count : suc n + 1 ≡ suc (n + 1) = omega arith in
    ap (range_with_len a) count ∙ ap (λ ps. a ∷ ps) (ih ∙ ap (λ p. range_with_len (a + 1) n ++ p ∷ []) same)

-- ---- room

abbrev call_of : ℕ → Need
call_of ports = record { entries = 6 * ports + 3; buffers = 2 * ports }

-- a system with as many ports needs the same
pub same_call : (s s' : SystemState) → length s'.ports ≡ length s.ports → for_call s' ≡ for_call s
same_call s s' ports = ap call_of ports

-- once more
repeated-more : (few many : ℕ) (need : Need) → few < many → Covers (repeated many need) (both (repeated few need) need)
repeated-more few zero need less = absurd (omega arith)
repeated-more zero (suc many) need less =
    record { entries = omega arith; buffers = omega arith }
repeated-more (suc few) (suc many) need less =
    let rest = repeated-more few many need (omega arith) in
    record {
      entries = let e = rest.entries in omega (arith, e);
      buffers = let e = rest.buffers in omega (arith, e);
    }

-- so many of the calls used no more room than they needed
abbrev pub CallsUse : ℕ → ℕ → WorldParts → Between → Type 0
CallsUse calls place parts net = (station : Station) → slice_get parts.stations.items place ≡ Some station
    → Uses (repeated calls (for_call station.system)) parts.net net

pub none_use : (place : ℕ) (parts : WorldParts) → CallsUse 0 place parts parts.net
none_use place parts = λ station here. unsent no_room parts.net

-- one call more
pub more_use : (calls place : ℕ) (parts middle : WorldParts) (net : Between)
    → ((station : Station) → slice_get parts.stations.items place ≡ Some station
    → Remains place station (world_of middle))
    → CallsUse calls place parts middle.net → CallUses place middle net → CallsUse (calls + 1) place parts net
more_use calls place parts middle net remain so_far one = λ station here.
    let still = remain station here in
    let need = for_call station.system in
    let used : Uses need middle.net net =
    subst (λ (n : Need). Uses n middle.net net) (same_call station.system still.station.system still.ports)
    (one still.station still.here) in
    uses_less (repeated (calls + 1) need) (both (repeated calls need) need) parts.net net
    (repeated-more calls (calls + 1) need (omega arith))
    (uses_both (repeated calls need) need parts.net middle.net net (so_far station here) used)

-- there is room for the call of one port more
pub room_for_next : (calls place : ℕ) (parts middle : WorldParts) (has : HasRoomForPorts place parts)
    → Remains place has.station (world_of middle) → CallsUse calls place parts middle.net
    → calls < length has.station.system.ports
    → HasRoomToCall place middle
room_for_next calls place parts middle has still so_far less =
    let need = for_call has.station.system in
    let left : WorldHasRoom need middle.net =
    left_of (repeated calls need) need parts.net middle.net (so_far has.station has.here)
    (covered (repeated (length has.station.system.ports) need) (both (repeated calls need) need) parts.net
    (repeated-more calls (length has.station.system.ports) need less) has.room) in
    let same = same_call has.station.system still.station.system still.ports in
    record {
      station = still.station;
      here = still.here;
      room = subst (λ (n : Need). WorldHasRoom n middle.net) (sym same) left;
    }
