-- The systems of the settled choice with their time errors, line by line.
use Rattle.std.proofs.Common.{◌≡◌, ◌↔◌, inl, inr, ℕ, ◌+◌, Bool, IsTrue, true, false, not, ◌&&◌, if◌then◌else◌, List, [], ◌∷◌, ◌++◌, length, map, Some, None, slice_get, refl, sym, ap, ap₂, subst, ◌∙◌, arith}
use Rattle.std.proofs.lemmas.List.{length-map, map-append, take_all}
use Rattle.std.proofs.lemmas.Option.{same_Some}
use Rattle.gptp_lists.proofs.MappedLemmas.{mapped_there, taken}
use Rattle.gptp_lists.proofs.SystemSpecLemmas.{In-parts, In-slice_get}
use Rattle.gptp_graph.specs.Labelling.{SystemLine, line_clocks}
use Rattle.gptp_graph.specs.Distance.{IsDistance}
use Rattle.gptp_graph.specs.Order.{IsRising}
use Rattle.gptp_graph.specs.SettledChoice.{IsBestIdentity, IsSettledChoice}
use Rattle.gptp_graph.specs.Snapshot.{System, Snapshot, clocks}
use Rattle.gptp_scenario.specs.Calm.{IsCalm}
use Rattle.gptp_scenario.specs.Network.{NetworkState}
use Rattle.gptp_scenario.specs.declared.change.Timed.{Timed}
use Rattle.gptp_checker.proofs.PlaceLemmas.{AreLinesFor, lines_of_passed}
use Rattle.gptp_error_laws.specs.TimeError.{Way, time_error}
use Rattle.gptp_accuracy.specs.Passing.{AreNearWithin, IsDoneAt}
use Rattle.gptp_accuracy.specs.Readings.{reading_terms}
use Rattle.gptp_accuracy.specs.Sums.{AreSummed, SumsAreWithin, terms_of}
use Rattle.gptp_accuracy.specs.TimeErrors.{AreEntries, AreExact, HasByWay, IsEntry, IsErrorOf, IsReadingOf, IsSystemOf, if_promised, root_is_capable}
use Rattle.gptp_accuracy.specs.Ways.{IsWay}
use Rattle.gptp_accuracy.specs.declared.errors.SystemError.{SystemError}
use Rattle.gptp_accuracy.specs.declared.sums.Sums.{Sums}
use Rattle.gptp_accuracy.proofs.ReadingLemmas.{terms_are}
use Rattle.gptp_accuracy.proofs.SumLemmas.{within_more}

-- one line more
pub entry_added : (calm : Bool) (lines : List SystemLine) (sums : List Sums) (place : ℕ) (systems : List SystemError)
    (line : SystemLine) (to : Sums) (s : SystemError) → AreEntries calm lines sums place systems
    → slice_get lines place ≡ Some line → slice_get sums place ≡ Some to → IsSystemOf calm line to s
    → AreEntries calm lines sums (place + 1) (systems ++ s ∷ [])
entry_added calm lines sums place systems line to s before there summed is = record {
  clocks = map-append (λ (t : SystemError). t.clock) systems (s ∷ [])
      ∙ ap₂ (λ (k l : List ℕ). k ++ l) before.clocks (ap (λ c. c ∷ []) is.clock)
      ∙ sym (taken (line_clocks lines) place line.clock
      (mapped_there (λ (l : SystemLine). l.clock) lines place line there));
  each = λ t member. elim (In-parts t systems (s ∷ []) member) [
    | inl early ↦ before.each t early
    | inr late ↦ elim late [
      | inl same ↦ subst (IsEntry calm lines sums) (sym same)
          (record { place = place; line = line; there = there; to = to; summed = summed; is = is })
      | inr none ↦ absurd none
    ]
  ];
}

-- lines of the systems have their clocks
line_clocks_are : (systems : List System) (lines : List SystemLine) → AreLinesFor systems lines
    → line_clocks lines ≡ map (λ (s : System). s.clock) systems
line_clocks_are [] [] h = refl
line_clocks_are [] (line ∷ lines) h = absurd h
line_clocks_are (s ∷ systems) [] h = absurd h
line_clocks_are (s ∷ systems) (line ∷ lines) h =
    ap₂ (λ (c : ℕ) (cs : List ℕ). c ∷ cs) h.0.clock (line_clocks_are systems lines h.1)

module _ (n : NetworkState) (events : List Timed) (g : Snapshot) (lines : List SystemLine) (sums : List Sums)
    (choice : IsSettledChoice g lines)
    (done : (place : ℕ) → IsDoneAt n events g lines sums place) where
  module _ {A : Type 0} (by_way : Way → A) (by_sums : Sums → A)
      (agree : (links : ℕ) (w : Way) (to : Sums) → AreSummed links n.params w to → by_sums to ≡ by_way w) where
    -- what the sums of a near line give
    summed_up : (s : SystemError) (line : SystemLine) (place : ℕ) (to : Sums) → slice_get lines place ≡ Some line
        → slice_get sums place ≡ Some to → s.clock ≡ line.clock → s.steps ≡ line.steps → line.far ≡ false
        → (w : Way) × IsWay n events g s.steps s.clock w × (by_sums to ≡ by_way w)
    summed_up s line place to there stands clock steps near =
        let (other, at, summed) = done place line there near in
        let same : other ≡ to = same_Some other to (sym at ∙ stands) in (
          summed.way,
          subst (λ d. IsWay n events g d s.clock summed.way) (sym steps)
              (subst (λ v. IsWay n events g line.steps v summed.way) (sym clock) summed.is),
          ap by_sums (sym same) ∙ agree line.steps summed.way other summed.summed,
        )

    by_line : (s : SystemError) (line : SystemLine) (place : ℕ) (to : Sums) → slice_get lines place ≡ Some line
        → slice_get sums place ≡ Some to → (shown : Bool) → IsSystemOf shown line to s → (calm : Bool)
        → IsTrue calm ↔ IsCalm n events → (far : Bool) → line.far ≡ far → (capable : Bool)
        → root_is_capable line.root ≡ capable → HasByWay n events g s by_way
        (if calm && (not far && capable) then Some (by_sums to) else None)
    by_line s line place to there stands shown is false decides far is_far capable known =
        inl (λ calm. let clash : false ≡ true = decides.1 calm in absurd cc)
    by_line s line place to there stands shown is true decides true is_far capable known =
        let above = (choice.settled line (In-slice_get line lines place there)).far is_far in
        inr (inl (omega (arith, is.steps, above)))
    by_line s line place to there stands shown is true decides false is_far false known =
        inr (inr (ap root_is_capable is.root ∙ known))
    by_line s line place to there stands shown is true decides false is_far true known =
        let below = (choice.settled line (In-slice_get line lines place there)).near is_far in (
          decides.0 refl,
          omega (arith, is.steps, below),
          ap root_is_capable is.root ∙ known,
          summed_up s line place to there stands is.clock is.steps is_far,
        )

    -- what a system has
    by_entry : (calm : Bool) (s : SystemError) → IsTrue calm ↔ IsCalm n events → (e : IsEntry calm lines sums s)
        → HasByWay n events g s by_way (if_promised calm e.line.far e.line.root (by_sums e.to))
    by_entry calm s decides e =
        by_line s e.line e.place e.to e.there e.summed calm e.is calm decides e.line.far refl
        (root_is_capable e.line.root) refl

  error_is : (calm : Bool) (s : SystemError) → IsTrue calm ↔ IsCalm n events → IsEntry calm lines sums s
      → IsErrorOf n events g s s.error
  error_is calm s decides e =
      subst (IsErrorOf n events g s) (sym e.is.error)
      (by_entry time_error (λ (k : Sums). k.error) (λ links w to summed. summed.sums.error) calm s decides e)

  reading_is : (calm : Bool) (s : SystemError) → IsTrue calm ↔ IsCalm n events → IsEntry calm lines sums s
      → IsReadingOf n events g s s.reading
  reading_is calm s decides e =
      subst (IsReadingOf n events g s) (sym e.is.reading)
      (by_entry reading_terms terms_of (λ links w to summed. terms_are n.params w to links summed) calm s decides e)

-- the systems by their lines
pub are_exact : (n : NetworkState) (events : List Timed) (g : Snapshot) (lines : List SystemLine) (sums : List Sums)
    (calm : Bool) (systems : List SystemError) → IsRising (clocks g) → IsRising (line_clocks lines)
    → IsSettledChoice g lines → ((place : ℕ) → IsDoneAt n events g lines sums place) → IsTrue calm ↔ IsCalm n events
    → AreEntries calm lines sums (length lines) systems → AreExact n events g systems
are_exact n events g lines sums calm systems rising lines_rising choice done decides entries = record {
  clocks = entries.clocks
      ∙ take_all (length lines) (line_clocks lines) (omega (arith, length-map lines (λ (l : SystemLine). l.clock)))
      ∙ line_clocks_are g.systems lines (lines_of_passed g lines rising lines_rising choice.systems);
  each = λ s member.
      let e = entries.each s member in
      let settled = choice.settled e.line (In-slice_get e.line lines e.place e.there) in
      record {
        root = subst (IsBestIdentity g s.clock) (sym e.is.root)
            (subst (λ v. IsBestIdentity g v e.line.root) (sym e.is.clock) settled.root);
        steps = subst (IsDistance g s.clock) (sym e.is.steps)
            (subst (λ v. IsDistance g v e.line.steps) (sym e.is.clock) settled.steps);
        near = λ near. let below = settled.near (sym e.is.far ∙ near) in omega (arith, e.is.steps, below);
        far = λ far. let above = settled.far (sym e.is.far ∙ far) in omega (arith, e.is.steps, above);
        error = error_is n events g lines sums choice done calm s decides e;
        reading = reading_is n events g lines sums choice done calm s decides e;
      };
}

-- the sums of near lines are within the limits
pub near_within : (n : NetworkState) (events : List Timed) (g : Snapshot) (lines : List SystemLine) (sums : List Sums)
    → IsSettledChoice g lines → ((place : ℕ) → IsDoneAt n events g lines sums place) → AreNearWithin lines sums
near_within n events g lines sums choice done place line to there near stands =
    let (other, at, summed) = done place line there near in
    let same : other ≡ to = same_Some other to (sym at ∙ stands) in
    let below = (choice.settled line (In-slice_get line lines place there)).near near in
    subst (SumsAreWithin 511) same (within_more line.steps other (omega (arith, below)) summed.summed.within)
