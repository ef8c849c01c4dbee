-- Each document has time errors at each time, and their text.
use Rattle.std.proofs.Common.{◌≡◌, ◌<◌, ◌≤◌, ℕ, zero, suc, ℤ, Bool, true, false, List, [], ◌∷◌, length, map, Option, Some, None, is_some, refl, sym, ap, ap₂, subst, ◌∙◌, inl, inr, arith}
use Rattle.std.specs.Global.{Vec}
use Rattle.std.proofs.lemmas.List.{length-map}
use denote.RawPtr.{null_ptr}
use native.Mathlib.Decide.{dec_lt}
use Rattle.gptp_lists.specs.Members.{In}
use Rattle.gptp_graph.specs.Distance.{IsDistance}
use Rattle.gptp_graph.specs.Snapshot.{IsWellFormed, Snapshot, System, clocks, port_of}
use Rattle.gptp_graph.proofs.ExistenceLemmas.{best_exists, distance_exists}
use Rattle.gptp_graph.proofs.LinkLemmas.{JoinsAt-clock}
use Rattle.gptp_graph.proofs.ParentLemmas.{LeadsNearer-distance, parent_exists}
use Rattle.gptp_scenario.specs.Calm.{IsCalm, last_change}
use Rattle.gptp_scenario.specs.Change.{link_after}
use Rattle.gptp_scenario.specs.Network.{IsNetwork, NetworkState}
use Rattle.gptp_scenario.specs.declared.change.Timed.{Timed}
use Rattle.gptp_network.specs.Document.{DocumentState}
use Rattle.gptp_network.specs.Snapshot.{StandsAfter, events_by}
use Rattle.gptp_network.proofs.ExistenceLemmas.{snapshot_exists}
use Rattle.gptp_network.proofs.LawLemmas.{within_limits}
use Rattle.gptp_network.proofs.MeantLemmas.{meant_document, meant_well}
use Rattle.gptp_error_laws.specs.TimeError.{WayLink, Way, time_error}
use Rattle.gptp_error_laws.specs.WayLaws.{longer}
use Rattle.gptp_accuracy.specs.AccuracyText.{accuracy_lines, error_is_exceeded}
use Rattle.gptp_accuracy.specs.Laws.{EachIsExact}
use Rattle.gptp_accuracy.specs.TimeErrors.{AreTimeErrors, HasByWay, IsExact, exact_from, greatest_age, root_is_capable}
use Rattle.gptp_accuracy.specs.Readings.{ReadingTerms, reading_terms}
use Rattle.gptp_accuracy.specs.Ways.{HasDrift, IsLinkTo, IsWay, root_way}
use Rattle.gptp_accuracy.specs.declared.errors.SystemError.{SystemError}
use Rattle.gptp_accuracy.specs.declared.errors.TimeErrors.{TimeErrors}
use Rattle.gptp_topology.proofs.RestLemmas.{calm_dec}
use Rattle.gptp_accuracy.proofs.StandingLemmas.{member_stands, wire_stands}

abbrev said : ℕ → ℕ → ℕ → Bool → Option ℕ → Option ReadingTerms → SystemError
said clock root steps far error reading =
    record { clock = clock; root = root; steps = steps; far = far; error = error; reading = reading }

-- the same without errors
abbrev bare : ℕ → ℕ → ℕ → Bool → SystemError
bare clock root steps far = said clock root steps far None None

abbrev clock_in : SystemError → ℕ
clock_in s = s.clock

module _ (n : NetworkState) (events : List Timed) (g : Snapshot) (stands : StandsAfter n events g)
    (wf : IsWellFormed g) where
  -- ---- ways

  drift_exists : (v : ℕ) → In v (clocks g) → (drift : ℤ) × HasDrift n v drift
  drift_exists v live =
      let (m, there, is) = member_stands n events g stands v live in
      (m.drift, record { system = m; there = there; is = is; drift_is = refl })

  way_exists : (h v : ℕ) → IsDistance g v h → In v (clocks g) → (w : Way) × IsWay n events g h v w
  way_exists zero v here live =
      let (drift, has) = drift_exists v live in (root_way n.params drift, (here, (drift, has, refl)))
  way_exists (suc h) v here live =
      let (parent, follows) = parent_exists g v h wf here in
      let steps : suc h ≡ suc follows.nearer.distance =
      LeadsNearer-distance g v (suc h) parent wf here follows.nearer in
      let left : follows.nearer.distance ≡ h = omega (arith, steps) in
      let joins = follows.nearer.joins in
      let (above, way) = way_exists h parent.clock (subst (IsDistance g parent.clock) left follows.nearer.there)
      (JoinsAt-clock g v parent wf joins) in
      let (wire, there, end) = wire_stands n events g stands (port_of v parent.own_port)
      (port_of parent.clock parent.port) joins in
      let (drift, has) = drift_exists v live in
      let last : WayLink = record {
        least = (link_after events wire).bounds.min;
        most = (link_after events wire).bounds.max;
        drift = drift;
      } in
      let leads : IsLinkTo n events v parent last = record {
        delays = record { wire = wire; there = there; end = end; least_is = refl; most_is = refl };
        drift = has;
      } in
      (longer above last, (parent, above, last, follows, way, leads, refl))

  -- ---- errors

  module _ {A : Type 0} (of : Way → A) where
    by_capable : (v root h : ℕ) (far capable : Bool) → IsCalm n events → h < 255 → root_is_capable root ≡ capable
        → ((w : Way) × IsWay n events g h v w) → (e : Option A) × HasByWay n events g (bare v root h far) of e
    by_capable v root h far true calm near is (w, way) = (Some (of w), (calm, near, is, (w, way, refl)))
    by_capable v root h far false calm near is (w, way) = (None, inr (inr is))

    by_way_exists : (v root h : ℕ) (far : Bool) → Dec (IsCalm n events) → Dec (h < 255)
        → ((w : Way) × IsWay n events g h v w) → (e : Option A) × HasByWay n events g (bare v root h far) of e
    by_way_exists v root h far (no restless) near way = (None, inl restless)
    by_way_exists v root h far (yes calm) (no over) way = (None, inr (inl (omega (arith, over))))
    by_way_exists v root h far (yes calm) (yes near) way =
        by_capable v root h far (root_is_capable root) calm near refl way

  exact_exists : (v : ℕ) → In v (clocks g) → (s : SystemError) × IsExact n events g s × (s.clock ≡ v)
  exact_exists v live = by (dec_lt h 255)
    where
      best : System
      best = (best_exists g v wf live).0

      h : ℕ
      h = (distance_exists g v wf live).0

      here : IsDistance g v h
      here = (distance_exists g v wf live).1

      by : Dec (h < 255) → (s : SystemError) × IsExact n events g s × (s.clock ≡ v)
      by (yes near) =
          let way = way_exists h v here live in
          let (e, error) = by_way_exists time_error v best.identity h false (calm_dec n events) (yes near) way in
          let (r, reading) = by_way_exists reading_terms v best.identity h false (calm_dec n events) (yes near) way in (
            said v best.identity h false e r,
            record {
              root = (best, (best_exists g v wf live).1, refl);
              steps = here;
              near = λ same. near;
              far = λ same. absurd cc;
              error = error;
              reading = reading;
            },
            refl,
          )
      by (no over) =
          let way = way_exists h v here live in
          let (e, error) = by_way_exists time_error v best.identity h true (calm_dec n events) (no over) way in
          let (r, reading) = by_way_exists reading_terms v best.identity h true (calm_dec n events) (no over) way in (
            said v best.identity h true e r,
            record {
              root = (best, (best_exists g v wf live).1, refl);
              steps = here;
              near = λ same. absurd cc;
              far = λ same. omega (arith, over);
              error = error;
              reading = reading;
            },
            refl,
          )

  -- ---- all systems

  record HaveErrors (vs : List ℕ) : Type 0 where
    systems : List SystemError
    clocks_are : map clock_in systems ≡ vs
    each : (s : SystemError) → In s systems → IsExact n events g s

  all_exist : (vs : List ℕ) → ((v : ℕ) → In v vs → In v (clocks g)) → HaveErrors vs
  all_exist [] live = record { systems = []; clocks_are = refl; each = λ s member. absurd member }
  all_exist (v ∷ vs) live =
      let (s, exact, is) = exact_exists v (live v (inl refl)) in
      let rest = all_exist vs (λ w member. live w (inr member)) in
      record {
        systems = s ∷ rest.systems;
        clocks_are = ap₂ (λ (w : ℕ) (ws : List ℕ). w ∷ ws) is rest.clocks_are;
        each = λ t member. elim member [
          | inl same ↦ subst (IsExact n events g) (sym same) exact
          | inr later ↦ rest.each t later
        ];
      }

-- ---- the errors of a document

-- a list of systems as it stands in memory
abbrev held : (systems : List SystemError) → length systems ≤ 512 → Vec SystemError
held systems few = record {
  ptr = null_ptr;
  len = length systems;
  cap = length systems;
  alloc = record { memory = record { seal = tt } };
  items = systems;
  ok = (refl, omega arith);
  small = omega (arith, few);
}

pub errors_exist : (d : DocumentState) (until : ℕ) (g : Snapshot) → IsNetwork d.network
    → StandsAfter d.network (events_by until d.events) g → IsWellFormed g
    → (t : TimeErrors) × AreTimeErrors d until t
errors_exist d until g network stands wf =
    let n = d.network in
    let events = events_by until d.events in
    let all = all_exist n events g stands wf (clocks g) (λ v live. live) in
    let from : Option ℕ = exact_from d until in
    let many : length all.systems ≡ length g.systems =
    sym (length-map all.systems clock_in) ∙ ap length all.clocks_are
    ∙ length-map g.systems (λ (s : System). s.clock) in
    let few : length all.systems ≤ 512 =
    let most = (within_limits d until g network stands).systems in omega (arith, many, most) in (
      record {
        time = last_change events;
        from = from;
        age = greatest_age n events (is_some from);
        systems = held all.systems few;
      },
      record {
        snapshot = g;
        is = stands;
        network = wf;
        time = refl;
        from = refl;
        age = refl;
        systems = record { clocks = all.clocks_are; each = all.each };
      },
    )

pub each_is_exact : EachIsExact
each_is_exact text d until options means =
    let network = (meant_document text d means).0 in
    let (g, stands) = snapshot_exists d until network in
    let (t, are) = errors_exist d until g network stands (meant_well text d until g means stands) in (
      accuracy_lines options t,
      error_is_exceeded options t,
      record { errors = t; are = are; shown = refl; exceeded_is = refl },
    )
