-- What the lines of a system tell last is what it shows.
use Rattle.std.proofs.Common.{◌≡◌, ◌==◌, ◌+◌, ◌<◌, ℕ, zero, suc, Bool, true, false, if◌then◌else◌, List, [], ◌∷◌, ◌++◌, map, Option, Some, None, slice_get, option_map, refl, sym, ap, subst, ◌∙◌, append_assoc, append-nil, arith}
use Rattle.std.proofs.lemmas.Bool.Decides.{nat_tests}
use Rattle.std.proofs.lemmas.List.{map-append}
use Rattle.std.specs.List.{flat_map}
use Rattle.std.specs.Option.{option_or}
use Rattle.gptp_model.specs.declared.station.Station.{Station}
use Rattle.gptp_links.specs.declared.bounds.Bounds.{Bounds}
use Rattle.gptp_network.specs.Document.{DocumentState}
use Rattle.gptp_network.specs.Events.{AreEvents}
use Rattle.gptp_network.specs.Snapshot.{events_by}
use Rattle.gptp_world.specs.Transitions.{ActTrace}
use Rattle.gptp_timeline.specs.Changes.{change_lines, is_same, port_lines, port_lines_if, same_line, system_lines_if}
use Rattle.gptp_timeline.specs.Laws.{all_acts}
use Rattle.gptp_timeline.specs.Ports.{same_bool, shows_same_port}
use Rattle.gptp_timeline.specs.Shown.{live_among, same_slave, shown, shown_of}
use Rattle.gptp_timeline.specs.Tellings.{all_tellings, IsAlike, last_by, of_port, of_system, OfFailure, OfSystem, port_telling, port_tellings, Telling, telling_line, tellings, TellLast}
use Rattle.gptp_timeline.specs.Timeline.{TimelineOf}
use Rattle.gptp_timeline.specs.declared.ports.ShownPort.{ShownPort}
use Rattle.gptp_timeline.specs.declared.shown.Shown.{Shown}
use Rattle.gptp_timeline.specs.declared.timeline.TimelineOptions.{TimelineOptions}
use Rattle.gptp_timeline.proofs.ChainLemmas.{Chain, courses_chain}
use Rattle.gptp_timeline.proofs.SameLemmas.{both, number_itself, same_number, same_port_is, same_truth}
use Rattle.gptp_timeline.proofs.UnfoldLemmas.{timeline_unfolds}

-- ---- lines are those of what is told

module _ (at name : ℕ) where
  port_told : (place : ℕ) (before : Option ShownPort) (q : ShownPort)
      → port_lines_if at name (place + 1) before q ≡ map (telling_line at name) (port_telling place before q)
  port_told place before q = by (is_same before q) refl
    where
      by : (same : Bool) → is_same before q ≡ same
          → port_lines_if at name (place + 1) before q ≡ map (telling_line at name) (port_telling place before q)
      by true is = rw is refl
      by false is = rw is refl

  port_and_others : (place : ℕ) (before : Option ShownPort) (q : ShownPort) (lines : List (List ℕ))
      (others : List Telling) → lines ≡ map (telling_line at name) others
      → port_lines_if at name (place + 1) before q ++ lines
      ≡ map (telling_line at name) (port_telling place before q ++ others)
  port_and_others place before q lines others are =
      ap (λ ls. port_lines_if at name (place + 1) before q ++ ls) are
      ∙ ap (λ ls. ls ++ map (telling_line at name) others) (port_told place before q)
      ∙ sym (map-append (telling_line at name) (port_telling place before q) others)

  ports_told : (place : ℕ) (before after : List ShownPort)
      → port_lines at name (place + 1) before after ≡ map (telling_line at name) (port_tellings place before after)
  ports_told place before [] = refl
  ports_told place [] (q ∷ qs) =
      port_and_others place None q (port_lines at name (place + 1 + 1) [] qs) (port_tellings (place + 1) [] qs)
      (ports_told (place + 1) [] qs)
  ports_told place (p ∷ ps) (q ∷ qs) =
      port_and_others place (Some p) q (port_lines at name (place + 1 + 1) ps qs) (port_tellings (place + 1) ps qs)
      (ports_told (place + 1) ps qs)

  system_told : (same : Bool) (t : Shown)
      → system_lines_if same at name t ≡ map (telling_line at name) (if same then [] else OfSystem t ∷ [])
  system_told true t = refl
  system_told false t = refl

  pub changes_told : (before after : Option Shown)
      → change_lines at name before after ≡ map (telling_line at name) (tellings before after)
  changes_told None None = refl
  changes_told (Some s) None = refl
  changes_told None (Some t) = ap (λ ls. telling_line at name (OfSystem t) ∷ ls) (ports_told 0 [] t.ports)
  changes_told (Some s) (Some t) =
      let same = same_line (Some s) (Some t) in
      ap (λ ls. system_lines_if same at name t ++ ls) (ports_told 0 s.ports t.ports)
      ∙ ap (λ ls. ls ++ map (telling_line at name) (port_tellings 0 s.ports t.ports)) (system_told same t)
      ∙ sym (map-append (telling_line at name) (if same then [] else OfSystem t ∷ []) (port_tellings 0 s.ports t.ports))

-- ---- lines that are the same

same_slave_is : (a b : Option ℕ) → same_slave a b ≡ true → a ≡ b
same_slave_is None None is = refl
same_slave_is None (Some n) is = absurd cc
same_slave_is (Some n) None is = absurd cc
same_slave_is (Some n) (Some m) is = ap Some (same_number n m is)

alike : (s t : Shown) → same_line (Some s) (Some t) ≡ true → IsAlike s t
alike s t is =
    let (way, known) = both _ (same_bool s.known t.known) is in
    let (root, rest) = both (s.root == t.root) _ way in
    let (steps, slave) = both (s.steps == t.steps) (same_slave s.slave t.slave) rest in
    record {
      root = same_number s.root t.root root;
      steps = same_number s.steps t.steps steps;
      slave = same_slave_is s.slave t.slave slave;
      known = same_truth s.known t.known known;
    }

alike_on : (s t u : Shown) → IsAlike s t → IsAlike t u → IsAlike s u
alike_on s t u a b = record {
  root = a.root ∙ b.root;
  steps = a.steps ∙ b.steps;
  slave = a.slave ∙ b.slave;
  known = a.known ∙ b.known;
}

-- ---- the last of two lists

module _ {X : Type 0} where
  or_none : (a : Option X) → option_or a None ≡ a
  or_none None = refl
  or_none (Some x) = refl

  or_both : (a b c : Option X) → option_or (option_or a b) c ≡ option_or a (option_or b c)
  or_both None b c = refl
  or_both (Some x) b c = refl

  last_both : (told : Telling → Option X) (ts us : List Telling)
      → last_by told (ts ++ us) ≡ option_or (last_by told us) (last_by told ts)
  last_both told [] us = sym (or_none (last_by told us))
  last_both told (t ∷ ts) us =
      ap (λ last. option_or last (told t)) (last_both told ts us) ∙ or_both (last_by told us) (last_by told ts) (told t)

  -- what stood before stands where nothing is told anew
  or_before : (a b c : Option X) (x : X) → option_or a b ≡ Some x → ((y : X) → b ≡ Some y → c ≡ Some y)
      → option_or a c ≡ Some x
  or_before (Some y) b c x is before = is
  or_before None (Some y) c x is before = before y refl ∙ is
  or_before None None c x is before = absurd cc

-- ---- ports

-- a line of a port tells nothing of the system itself
nothing_of_system : (place : ℕ) (before : Option ShownPort) (q : ShownPort)
    → last_by of_system (port_telling place before q) ≡ None
nothing_of_system place before q = by (is_same before q) refl
  where
    by : (same : Bool) → is_same before q ≡ same → last_by of_system (port_telling place before q) ≡ None
    by true is = rw is refl
    by false is = rw is refl

none_before : {X : Type 0} (told : Telling → Option X) (ts us : List Telling) → last_by told ts ≡ None
    → last_by told us ≡ None → last_by told (ts ++ us) ≡ None
none_before told ts us first second = last_both told ts us ∙ rw (second, first) refl

ports_of_none : (place : ℕ) (before after : List ShownPort)
    → last_by of_system (port_tellings place before after) ≡ None
ports_of_none place before [] = refl
ports_of_none place [] (q ∷ qs) =
    none_before of_system (port_telling place None q) (port_tellings (place + 1) [] qs) (nothing_of_system place None q)
    (ports_of_none (place + 1) [] qs)
ports_of_none place (p ∷ ps) (q ∷ qs) =
    none_before of_system (port_telling place (Some p) q) (port_tellings (place + 1) ps qs)
    (nothing_of_system place (Some p) q) (ports_of_none (place + 1) ps qs)

-- nor of another port
of_other : (place low : ℕ) (before : Option ShownPort) (q : ShownPort) → (low ≡ place → ⊥)
    → last_by (of_port place) (port_telling low before q) ≡ None
of_other place low before q apart = by (is_same before q) refl
  where
    by : (same : Bool) → is_same before q ≡ same → last_by (of_port place) (port_telling low before q) ≡ None
    by true is = rw is refl
    by false is = let other : low == place ≡ false = grind (arith, nat_tests, apart) in rw (is, other) refl

ports_of_others : (place low : ℕ) (before after : List ShownPort) → place < low
    → last_by (of_port place) (port_tellings low before after) ≡ None
ports_of_others place low before [] less = refl
ports_of_others place low [] (q ∷ qs) less =
    none_before (of_port place) (port_telling low None q) (port_tellings (low + 1) [] qs)
    (of_other place low None q (λ e. absurd (omega arith)))
    (ports_of_others place (low + 1) [] qs (omega arith))
ports_of_others place low (p ∷ ps) (q ∷ qs) less =
    none_before (of_port place) (port_telling low (Some p) q) (port_tellings (low + 1) ps qs)
    (of_other place low (Some p) q (λ e. absurd (omega arith)))
    (ports_of_others place (low + 1) ps qs (omega arith))

-- a port that is another is told of; where it isn't told of, it is as before
of_itself : (place : ℕ) (before : Option ShownPort) (q : ShownPort)
    → option_or (last_by (of_port place) (port_telling place before q)) before ≡ Some q
of_itself place None q = rw (number_itself place) refl
of_itself place (Some p) q = by (shows_same_port p q) refl
  where
    by : (same : Bool) → shows_same_port p q ≡ same
        → option_or (last_by (of_port place) (port_telling place (Some p) q)) (Some p) ≡ Some q
    by true is = rw is (ap Some (same_port_is p q is))
    by false is = rw (is, number_itself place) refl

first_port : (place : ℕ) (before : Option ShownPort) (q : ShownPort) (others : List Telling)
    → last_by (of_port place) others ≡ None
    → option_or (last_by (of_port place) (port_telling place before q ++ others)) before ≡ Some q
first_port place before q others none =
    ap (λ last. option_or last before)
    (last_both (of_port place) (port_telling place before q) others
    ∙ ap (λ last. option_or last (last_by (of_port place) (port_telling place before q))) none)
    ∙ of_itself place before q

later_port : (place low : ℕ) (first before : Option ShownPort) (q r : ShownPort) (others : List Telling)
    → (low ≡ place → ⊥) → option_or (last_by (of_port place) others) before ≡ Some r
    → option_or (last_by (of_port place) (port_telling low first q ++ others)) before ≡ Some r
later_port place low first before q r others apart is =
    ap (λ last. option_or last before)
    (last_both (of_port place) (port_telling low first q) others
    ∙ ap (λ last. option_or (last_by (of_port place) others) last) (of_other place low first q apart)
    ∙ or_none (last_by (of_port place) others))
    ∙ is

at_port : (place low i : ℕ) (before after : List ShownPort) (q : ShownPort) → place ≡ low + i
    → slice_get after i ≡ Some q
    → option_or (last_by (of_port place) (port_tellings low before after)) (slice_get before i) ≡ Some q
at_port place low i before [] q is there = absurd cc
at_port place low zero [] (r ∷ rs) q is there =
    let same : low ≡ place = omega (arith, is) in
    subst (λ p. option_or (last_by (of_port p) (port_tellings low [] (r ∷ rs))) None ≡ Some q) same
    (first_port low None r (port_tellings (low + 1) [] rs) (ports_of_others low (low + 1) [] rs (omega arith)) ∙ there)
at_port place low zero (p ∷ ps) (r ∷ rs) q is there =
    let same : low ≡ place = omega (arith, is) in
    subst (λ n. option_or (last_by (of_port n) (port_tellings low (p ∷ ps) (r ∷ rs))) (Some p) ≡ Some q) same
    (first_port low (Some p) r (port_tellings (low + 1) ps rs) (ports_of_others low (low + 1) ps rs (omega arith))
    ∙ there)
at_port place low (suc i) [] (r ∷ rs) q is there =
    later_port place low None None r q (port_tellings (low + 1) [] rs) (λ e. absurd (omega (arith, is)))
    (at_port place (low + 1) i [] rs q (omega (arith, is)) there)
at_port place low (suc i) (p ∷ ps) (r ∷ rs) q is there =
    later_port place low (Some p) (slice_get ps i) r q (port_tellings (low + 1) ps rs)
    (λ e. absurd (omega (arith, is))) (at_port place (low + 1) i ps rs q (omega (arith, is)) there)

-- ---- an act

module _ (told own : List Telling) (before after : List ShownPort) where
  -- its own line, where there is one, stands last; else what stood before
  system_last : last_by of_system (told ++ (own ++ port_tellings 0 before after))
      ≡ option_or (last_by of_system own) (last_by of_system told)
  system_last =
      last_both of_system told (own ++ port_tellings 0 before after)
      ∙ ap (λ last. option_or last (last_by of_system told))
      (last_both of_system own (port_tellings 0 before after)
      ∙ ap (λ last. option_or last (last_by of_system own)) (ports_of_none 0 before after))

  -- the last change of a port that is told is what it shows
  port_last : (place : ℕ) (p : ShownPort) → last_by (of_port place) own ≡ None → slice_get after place ≡ Some p
      → ((r : ShownPort) → slice_get before place ≡ Some r → last_by (of_port place) told ≡ Some r)
      → last_by (of_port place) (told ++ (own ++ port_tellings 0 before after)) ≡ Some p
  port_last place p none there stood =
      last_both (of_port place) told (own ++ port_tellings 0 before after)
      ∙ ap (λ last. option_or last (last_by (of_port place) told))
      (last_both (of_port place) own (port_tellings 0 before after)
      ∙ ap (λ last. option_or (last_by (of_port place) (port_tellings 0 before after)) last) none
      ∙ or_none (last_by (of_port place) (port_tellings 0 before after)))
      ∙ or_before (last_by (of_port place) (port_tellings 0 before after)) (slice_get before place)
      (last_by (of_port place) told) p (at_port place 0 place before after p (omega arith) there) stood

tells_on : (before after : Option Shown) (told : List Telling) → TellLast told before
    → TellLast (told ++ tellings before after) after
tells_on None None told k = subst (λ ts. TellLast ts None) (sym (append-nil told)) k
tells_on (Some s) None told k =
    λ u is. absurd (let failed : Some None ≡ Some (Some u) = sym (last_both of_system told (OfFailure ∷ [])) ∙ is in cc)
tells_on None (Some t) told k = (
  (t, system_last told (OfSystem t ∷ []) [] t.ports, record { root = refl; steps = refl; slave = refl; known = refl }),
  λ place p there. port_last told (OfSystem t ∷ []) [] t.ports place p refl there (λ r is. absurd cc),
)
tells_on (Some s) (Some t) told k = by (same_line (Some s) (Some t)) refl
  where
    own : Bool → List Telling
    own same = if same then [] else OfSystem t ∷ []

    silent : (same : Bool) (place : ℕ) → last_by (of_port place) (own same) ≡ None
    silent true place = refl
    silent false place = refl

    last : (same : Bool) → same_line (Some s) (Some t) ≡ same
        → (u : Shown) × (option_or (last_by of_system (own same)) (last_by of_system told) ≡ Some (Some u))
        × IsAlike u t
    last true is = let (u, stood, its) = k.0 in (u, stood, alike_on u s t its (alike s t is))
    last false is = (t, refl, record { root = refl; steps = refl; slave = refl; known = refl })

    by : (same : Bool) → same_line (Some s) (Some t) ≡ same
        → TellLast (told ++ ((if same_line (Some s) (Some t) then [] else OfSystem t ∷ [])
        ++ port_tellings 0 s.ports t.ports)) (Some t)
    by same is =
        let (u, now, its) = last same is in
        rw is (
          (u, system_last told (own same) s.ports t.ports ∙ now, its),
          λ place p there. port_last told (own same) s.ports t.ports place p (silent same place) there (k.1 place),
        )

-- ---- several acts

abbrev shown_in : ℕ → List Station → Option Shown
shown_in name stations = option_map shown_of (live_among name stations)

module _ (name : ℕ) where
  abbrev tells : ActTrace → List Telling
  tells t = tellings (shown name t.before) (shown name t.after)

  chain_tells : (ts : List ActTrace) (before after : List Station) (told : List Telling) → Chain ts before after
      → TellLast told (shown_in name before) → TellLast (told ++ flat_map tells ts) (shown_in name after)
  chain_tells [] before after told same k =
      subst (λ us. TellLast us (shown_in name after)) (sym (append-nil told))
      (subst (λ ss. TellLast told (shown_in name ss)) same k)
  chain_tells (t ∷ ts) before after told (first, done, rest) k =
      subst (λ us. TellLast us (shown_in name after)) (append_assoc told (tells t) (flat_map tells ts))
      (chain_tells ts t.after.stations after (told ++ tells t) rest
      (tells_on (shown name t.before) (shown name t.after) told
      (subst (λ ss. TellLast told (shown_in name ss)) (sym first) k)))

module _ {F : Type 0} (answers : Bounds → ℕ → F → Option ℕ → F → Type 0) (d : DocumentState) (until : ℕ)
    (options : TimelineOptions) (fate : F) (lines : List (List ℕ)) (exceeded : Bool)
    (t : TimelineOf answers d until options fate lines exceeded) where
  pub last_lines : (name : ℕ) → AreEvents d.network d.events
      → TellLast (all_tellings name t.start (all_acts t.passages)) (shown name t.after)
  last_lines name events =
      let run = timeline_unfolds answers d until options fate lines exceeded t events in
      chain_tells name (all_acts t.passages) t.start.stations t.after.stations (tellings None (shown name t.start))
      (courses_chain answers until (events_by until d.events) (all_acts t.passages) run.started run.drawn t.start
      t.after run.courses)
      (tells_on None (shown name t.start) [] (λ s is. absurd cc))
