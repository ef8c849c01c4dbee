-- The lines of systems, put one after another by rising clock, are those of all live systems.
use Rattle.std.proofs.Common.{◌≡◌, ◌<◌, ◌≤◌, ◌+◌, ℕ, zero, suc, Bool, true, false, if◌then◌else◌, List, [], ◌∷◌, ◌++◌, length, map, drop, get_or, slice_get, Some, refl, sym, ap, subst, ◌∙◌, inl, inr, arith, append_assoc, append-nil}
use Rattle.std.proofs.lemmas.List.{drop_more}
use Rattle.std.proofs.lemmas.Option.{same_Some, slice_get-get_or, slice_get_within}
use Rattle.std.specs.List.{range_with_len}
use Rattle.gptp_graph.specs.Labelling.{PortLine, SystemLine, line_clocks}
use Rattle.gptp_lists.specs.Members.{In}
use Rattle.gptp_graph.specs.Order.{IsRising}
use Rattle.gptp_lists.proofs.SystemSpecLemmas.{In-left, In-map, In-parts, In-right, In-slice_get, from_map, slice_get-In}
use Rattle.gptp_system.specs.State.{SystemState, clock}
use Rattle.gptp_model.specs.Acts.{AtSystem}
use Rattle.gptp_model.specs.Sound.{HaveOwnClocks}
use Rattle.gptp_model.specs.Views.{rising_clocks}
use Rattle.gptp_model.specs.World.{WorldState}
use Rattle.gptp_model.specs.declared.station.Station.{Station}
use Rattle.gptp_model.proofs.RisingLemmas.{rising_clocks-count}
use Rattle.gptp_invariants.proofs.WorldNameLemmas.{clock_of_station, clocks_rise, In-rising}
use Rattle.gptp_certificate.specs.Stated.{stated_line, stated_port}
use Rattle.gptp_certificate.specs.Stating.{stated_if, Adds, AreSaid}

-- ---- the lines of the systems with some clocks, one after another

abbrev AreLines : List ℕ → WorldState → List SystemLine → Type 0
AreLines [] w lines = lines ≡ []
AreLines (name ∷ names) w lines = (rest : List SystemLine)
    × AtSystem name w (λ place station. lines ≡ stated_if station ++ rest) × AreLines names w rest

-- The lines of some systems are there, and those of the systems that are left make them those of all.
pub record StatedSoFar (names left : List ℕ) (w : WorldState) (lines : List SystemLine) : Type 0 where
  pub more : (rest : List SystemLine) → AreLines left w rest → AreLines names w (lines ++ rest)

stated_more : (names : List ℕ) (name : ℕ) (left : List ℕ) (w : WorldState) (before after : List SystemLine)
    → StatedSoFar names (name ∷ left) w before → Adds name w before after → StatedSoFar names left w after
stated_more names name left w before after so_far one = record {
  more = λ rest are.
      subst (AreLines names w)
      (sym (ap (λ (ls : List SystemLine). ls ++ rest) one.so ∙ append_assoc before (stated_if one.station) rest))
      (so_far.more (stated_if one.station ++ rest)
      (rest, record { place = one.place; station = one.station; is = one.is; so = refl }, are));
}

drop_here : (xs : List ℕ) (place x : ℕ) → slice_get xs place ≡ Some x → drop place xs ≡ x ∷ drop (place + 1) xs
drop_here xs place x here =
    let within = slice_get_within xs place x here in
    let is : get_or xs place x
    ≡ x = same_Some (get_or xs place x) x (sym (slice_get-get_or xs place x within) ∙ here) in
    drop_more xs place x within ∙ ap (λ y. y ∷ drop (place + 1) xs) is

-- the system at a place by rising clock is the next
pub stated_next : (w : WorldState) (place : ℕ) (before after : List SystemLine) → place < length w.stations
    → StatedSoFar (rising_clocks w) (drop place (rising_clocks w)) w before
    → ((name : ℕ) → slice_get (rising_clocks w) place ≡ Some name → Adds name w before after)
    → StatedSoFar (rising_clocks w) (drop (place + 1) (rising_clocks w)) w after
stated_next w place before after below so_far adds =
    let names = rising_clocks w in
    let name = get_or names place 0 in
    let here : slice_get names place ≡ Some name = slice_get-get_or names place 0 (rw (rising_clocks-count w) below) in
    stated_more names name (drop (place + 1) names) w before after
    (subst (λ left. StatedSoFar names left w before) (drop_here names place name here) so_far) (adds name here)

-- ---- these are those of the live systems, and rise

-- of systems whose clocks are among some
record IsStatedOf (names : List ℕ) (w : WorldState) (line : SystemLine) : Type 0 where
  station : Station
  there : In station w.stations
  named : In (clock station.system) names
  live : station.live ≡ true
  is : line ≡ stated_line station.system

if_live : (station : Station) (line : SystemLine) (live : Bool) → station.live ≡ live
    → In line (if live then stated_line station.system ∷ [] else []) → (station.live ≡ true)
    × (line ≡ stated_line station.system)
if_live station line true is (inl e) = (is, e)
if_live station line true is (inr k) = absurd k
if_live station line false is k = absurd k

stated_of : (names : List ℕ) (w : WorldState) (lines : List SystemLine) (line : SystemLine) → AreLines names w lines
    → In line lines → IsStatedOf names w line
stated_of [] w lines line are h = absurd (rw are at h)
stated_of (name ∷ names) w lines line (rest, one, are) h =
    elim (In-parts line (stated_if one.station) rest (rw one.so at h)) [
      | inl here ↦ (let both = if_live one.station line one.station.live refl here in record {
        station = one.station;
        there = In-slice_get one.station w.stations one.place one.is.here;
        named = inl one.is.named;
        live = both.0;
        is = both.1;
      })
      | inr k ↦ (let later = stated_of names w rest line are k in record {
        station = later.station;
        there = later.there;
        named = inr later.named;
        live = later.live;
        is = later.is;
      })
    ]

of_stated : (names : List ℕ) (w : WorldState) (lines : List SystemLine) (station : Station) → HaveOwnClocks w
    → AreLines names w lines → In station w.stations → In (clock station.system) names → station.live ≡ true
    → In (stated_line station.system) lines
of_stated [] w lines station own are there named live = absurd named
of_stated (name ∷ names) w lines station own (rest, one, are) there (inl e) live =
    let (place, at) = slice_get-In station w.stations there in
    let place_is : place ≡ one.place = own place one.place station one.station at one.is.here (e ∙ sym one.is.named) in
    let same : one.station ≡ station =
    same_Some one.station station (sym one.is.here ∙ ap (slice_get w.stations) (sym place_is) ∙ at) in
    let first : In (stated_line station.system) (stated_if station) = rw live (inl refl) in
    rw (one.so, same) (In-left (stated_line station.system) (stated_if station) rest first)
of_stated (name ∷ names) w lines station own (rest, one, are) there (inr k) live =
    rw one.so (In-right (stated_line station.system) (stated_if one.station) rest
    (of_stated names w rest station own are there k live))

-- one more line rises below those of later clocks
rises_below : (name : ℕ) (w : WorldState) (names : List ℕ) (rest : List SystemLine) (station : Station)
    → clock station.system ≡ name → ((y : ℕ) → In y names → name < y) → AreLines names w rest
    → IsRising (line_clocks rest) → (live : Bool) → station.live ≡ live
    → IsRising (line_clocks (stated_if station ++ rest))
rises_below name w names rest station named below are up true is =
    rw is ((λ c k. subst (λ n. n < c) (sym named) (later c k)), up)
  where
    later : (c : ℕ) → In c (line_clocks rest) → name < c
    later c k =
        let (line, at, e) = from_map (λ (l : SystemLine). l.clock) c rest k in
        let of = stated_of names w rest line are at in
        below c (subst (λ n. In n names) (sym (ap (λ (l : SystemLine). l.clock) of.is) ∙ e) of.named)
rises_below name w names rest station named below are up false is = rw is up

lines_rise : (names : List ℕ) (w : WorldState) (lines : List SystemLine) → IsRising names → AreLines names w lines
    → IsRising (line_clocks lines)
lines_rise [] w lines up are = rw are tt
lines_rise (name ∷ names) w lines up (rest, one, are) =
    rw one.so (rises_below name w names rest one.station one.is.named up.0 are (lines_rise names w rest up.1 are)
    one.station.live refl)

-- where none is left, the lines are those of all live systems
pub stated_all : (w : WorldState) (lines : List SystemLine) → HaveOwnClocks w → StatedSoFar (rising_clocks w) [] w lines
    → AreSaid w lines
stated_all w lines own all = record {
  rising = lines_rise names w lines (clocks_rise w own) are;
  each = λ line. (
    (λ k. let of = stated_of names w lines line are k in
        record { station = of.station; there = of.there; live = of.live; is = of.is }),
    (λ s. subst (λ l. In l lines) (sym s.is) (of_stated names w lines s.station own are s.there
        (In-rising (clock s.station.system) (map clock_of_station w.stations)
        (In-map clock_of_station s.station w.stations s.there)) s.live)),
  );
}
  where
    names : List ℕ
    names = rising_clocks w

    are : AreLines names w lines
    are = subst (AreLines names w) (append-nil lines) (all.more [] refl)

-- ---- the ports of a line are numbered from 1 on

numbers_from : (s : SystemState) (first count k : ℕ)
    → In k (map (λ (port : PortLine). port.number) (map (stated_port s) (range_with_len first count))) → first ≤ k
numbers_from s first zero k h = absurd h
numbers_from s first (suc count) k (inl e) = omega arith
numbers_from s first (suc count) k (inr h) = let later = numbers_from s (first + 1) count k h in omega arith

pub numbers_rise : (s : SystemState) (first count : ℕ)
    → IsRising (map (λ (port : PortLine). port.number) (map (stated_port s) (range_with_len first count)))
numbers_rise s first zero = tt
numbers_rise s first (suc count) = (
  (λ k h. let later = numbers_from s (first + 1) count k h in omega arith),
  numbers_rise s (first + 1) count,
)
