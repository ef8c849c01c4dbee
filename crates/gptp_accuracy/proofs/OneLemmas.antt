-- A document has one text of time errors at a time.
use Rattle.std.proofs.Common.{◌≡◌, inl, inr, ℕ, ◌<◌, ◌≤◌, Bool, true, false, List, [], ◌∷◌, ◌++◌, map, Option, Some, None, is_some, option_map, option_and_then, refl, sym, ap, ap₂, subst, ◌∙◌, arith}
use Rattle.gptp_lists.specs.Members.{In}
use Rattle.gptp_graph.specs.Best.{IsBest}
use Rattle.gptp_graph.specs.Distance.{IsDistance}
use Rattle.gptp_graph.specs.Snapshot.{IsWellFormed, Snapshot, System}
use Rattle.gptp_graph.proofs.BestLemmas.{IsBest-unique}
use Rattle.gptp_graph.proofs.DistanceLemmas.{IsDistance-unique}
use Rattle.gptp_scenario.specs.Network.{NetworkState}
use Rattle.gptp_scenario.specs.declared.change.Timed.{Timed}
use Rattle.gptp_network.specs.Document.{DocumentState}
use Rattle.gptp_network.specs.Snapshot.{events_by}
use Rattle.gptp_network.proofs.LawLemmas.{one_snapshot}
use Rattle.gptp_error_laws.specs.TimeError.{Way, time_error}
use Rattle.gptp_accuracy.specs.AccuracyText.{accuracy_time_line, accuracy_verdict, accuracy_verdict_lines, first_above, system_line}
use Rattle.gptp_accuracy.specs.Laws.{OneAccuracy}
use Rattle.gptp_accuracy.specs.Readings.{ReadingTerms, reading_terms}
use Rattle.gptp_accuracy.specs.TimeErrors.{AreExact, AreTimeErrors, HasByWay, IsErrorOf, IsExact, IsReadingOf, greatest_age}
use Rattle.gptp_accuracy.specs.declared.errors.SystemError.{SystemError}
use Rattle.gptp_accuracy.specs.declared.errors.TimeErrors.{TimeErrors}
use Rattle.gptp_accuracy.proofs.WayLemmas.{HasOneEach, one_each, one_way_of}

-- whether steps are too many is one thing
far_once : (one other : Bool) (steps : ℕ) → (one ≡ false → steps < 255) → (one ≡ true → 255 ≤ steps)
    → (other ≡ false → steps < 255) → (other ≡ true → 255 ≤ steps) → one ≡ other
far_once true true steps a b c d = refl
far_once false false steps a b c d = refl
far_once true false steps a b c d = let above = b refl in let below = c refl in absurd (omega (arith, above, below))
far_once false true steps a b c d = let below = a refl in let above = d refl in absurd (omega (arith, above, below))

module _ (n : NetworkState) (events : List Timed) (g : Snapshot) (network : HasOneEach n) (well_formed : IsWellFormed g)
  where
    -- what a system has by its way, or none
    by_way_once : {A : Type 0} (by_way : Way → A) (s : SystemError) (one other : Option A)
        → HasByWay n events g s by_way one → HasByWay n events g s by_way other → one ≡ other
    by_way_once by_way s None None a b = refl
    by_way_once by_way s None (Some e) (inl not_calm) b = absurd (not_calm b.0)
    by_way_once by_way s None (Some e) (inr (inl far)) b = let near = b.1 in absurd (omega (arith, far, near))
    by_way_once by_way s None (Some e) (inr (inr incapable)) b = let capable = b.2 in absurd cc
    by_way_once by_way s (Some e) None a (inl not_calm) = absurd (not_calm a.0)
    by_way_once by_way s (Some e) None a (inr (inl far)) = let near = a.1 in absurd (omega (arith, far, near))
    by_way_once by_way s (Some e) None a (inr (inr incapable)) = let capable = a.2 in absurd cc
    by_way_once by_way s (Some e) (Some f) a b =
        let (v, way, is) = a.3 in
        let (w, way_too, is_too) = b.3 in
        let same = one_way_of n network events g s.steps s.clock v w way way_too in
        ap Some (is ∙ ap by_way same ∙ sym is_too)

    -- what is said of a system
    exact_once : (s t : SystemError) → s.clock ≡ t.clock → IsExact n events g s → IsExact n events g t → s ≡ t
    exact_once s t clock one other =
        let (best, is, root) = one.root in
        let (best_too, is_too, root_too) = other.root in
        let bests = IsBest-unique g s.clock best best_too well_formed is
        (subst (λ v. IsBest g v best_too) (sym clock) is_too) in
        let roots : s.root ≡ t.root = root ∙ ap (λ (k : System). k.identity) bests ∙ sym root_too in
        let steps : s.steps ≡ t.steps =
        IsDistance-unique g s.clock s.steps t.steps well_formed one.steps
        (subst (λ v. IsDistance g v t.steps) (sym clock) other.steps) in
        let far : s.far ≡ t.far =
        far_once s.far t.far s.steps one.near one.far
        (λ near. let below = other.near near in omega (arith, steps, below))
        (λ is_far. let above = other.far is_far in omega (arith, steps, above)) in
        let with : Option ℕ → Option ReadingTerms → SystemError → SystemError = λ e r k. record {
          clock = k.clock;
          root = k.root;
          steps = k.steps;
          far = k.far;
          error = e;
          reading = r;
        } in
        let but_errors : (e : Option ℕ) (r : Option ReadingTerms) → with e r s ≡ with e r t =
        λ e r i. record { clock = clock i; root = roots i; steps = steps i; far = far i; error = e; reading = r } in
        let error : s.error ≡ t.error =
        by_way_once time_error s s.error t.error one.error
        (subst (λ (k : SystemError). IsErrorOf n events g k t.error) (sym (but_errors t.error t.reading))
        other.error) in
        let reading : s.reading ≡ t.reading =
        by_way_once reading_terms s s.reading t.reading one.reading
        (subst (λ (k : SystemError). IsReadingOf n events g k t.reading) (sym (but_errors t.error t.reading))
        other.reading) in
        λ i. record {
          clock = clock i;
          root = roots i;
          steps = steps i;
          far = far i;
          error = error i;
          reading = reading i;
        }

    -- and of all
    all_once : (ss ts : List SystemError)
        → map (λ (s : SystemError). s.clock) ss ≡ map (λ (s : SystemError). s.clock) ts
        → ((s : SystemError) → In s ss → IsExact n events g s) → ((s : SystemError) → In s ts → IsExact n events g s)
        → ss ≡ ts
    all_once [] [] e a b = refl
    all_once [] (t ∷ ts) e a b = absurd cc
    all_once (s ∷ ss) [] e a b = absurd cc
    all_once (s ∷ ss) (t ∷ ts) e a b =
        let clock : s.clock ≡ t.clock = cc in
        let rest : map (λ (k : SystemError). k.clock) ss ≡ map (λ (k : SystemError). k.clock) ts = cc in
        ap₂ (λ (k : SystemError) (ks : List SystemError). k ∷ ks)
        (exact_once s t clock (a s (inl refl)) (b t (inl refl)))
        (all_once ss ts rest (λ k member. a k (inr member)) (λ k member. b k (inr member)))

-- what is said of a document at a time: the last time of events, from when on errors hold, how old the last receipt is
-- at most, and the errors of all systems
pub record AreSameErrors (t u : TimeErrors) : Type 0 where
  pub time : t.time ≡ u.time
  pub from : t.from ≡ u.from
  pub age : t.age ≡ u.age
  pub systems : t.systems.items ≡ u.systems.items

pub errors_once : (d : DocumentState) (until : ℕ) (t u : TimeErrors) → HasOneEach d.network → AreTimeErrors d until t
    → AreTimeErrors d until u → AreSameErrors t u
errors_once d until t u network a b =
    let n = d.network in
    let events = events_by until d.events in
    let g = a.snapshot in
    let same : b.snapshot ≡ g = one_snapshot d until b.snapshot g b.is a.is in
    let exact : AreExact n events g u.systems.items =
    subst (λ h. AreExact n events h u.systems.items) same b.systems in
    let from = a.from ∙ sym b.from in record {
      time = a.time ∙ sym b.time;
      from = from;
      age = a.age ∙ ap (λ (f : Option ℕ). greatest_age n events (is_some f)) from ∙ sym b.age;
      systems = all_once n events g network a.network t.systems.items u.systems.items
          (a.systems.clocks ∙ sym exact.clocks) a.systems.each exact.each;
    }

pub one_accuracy : OneAccuracy
one_accuracy d until options lines others one other network a b =
    let same = errors_once d until a.errors b.errors (one_each d.network network) a.are b.are in
    let verdict : Option ℕ → List SystemError → Option (Option ℕ) = λ age ss.
    option_map (λ most. first_above options age most ss) options.max_error in
    let verdicts : accuracy_verdict options a.errors ≡ accuracy_verdict options b.errors =
    ap₂ verdict same.age same.systems in (
      a.shown
          ∙ (λ i. accuracy_time_line options (same.time i) (same.from i) (same.age i)
          ∷ map (system_line options (same.age i)) (same.systems i) ++ accuracy_verdict_lines (verdicts i))
          ∙ sym b.shown,
      a.exceeded_is
          ∙ ap (λ (v : Option (Option ℕ)). is_some (option_and_then (λ (exceeds : Option ℕ). exceeds) v)) verdicts
          ∙ sym b.exceeded_is,
    )
