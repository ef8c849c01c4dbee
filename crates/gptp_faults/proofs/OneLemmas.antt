-- A document has one table of its faults, or is refused in one way, where runs end in one way.
use Rattle.std.proofs.Common.{◌≡◌, ◌⊎◌, ◌+◌, ℕ, Bool, true, false, List, [], ◌∷◌, ◌++◌, length, map, max, Some, unwrap_or, refl, sym, ap, ap₂, subst, ◌∙◌, inl, inr, arith}
use Rattle.std.proofs.lemmas.Option.{same_Some}
use Rattle.gptp_graph.specs.PathBound.{path_bound}
use Rattle.gptp_graph.specs.SettledChoice.{IsBestIdentity}
use Rattle.gptp_graph.specs.Snapshot.{clocks, Snapshot}
use Rattle.gptp_graph.proofs.RisingLemmas.{same_rising}
use Rattle.gptp_lists.specs.Members.{In}
use Rattle.gptp_lists.proofs.SystemSpecLemmas.{from_map}
use Rattle.gptp_network.specs.Document.{DocumentState}
use Rattle.gptp_network.specs.Snapshot.{events_by}
use Rattle.gptp_network.specs.Span.{IsSpan}
use Rattle.gptp_network.specs.declared.fault.DocumentFault.{DocumentFault}
use Rattle.gptp_network.proofs.LawLemmas.{one_snapshot}
use Rattle.gptp_scenario.specs.Calm.{last_change}
use Rattle.gptp_scenario.specs.Network.{pace_of, seeded}
use Rattle.gptp_scenario.specs.SettlingTime.{settling_span_with}
use Rattle.gptp_scenario.specs.SyncWait.{sync_paths}
use Rattle.gptp_timeline.specs.Each.{Each}
use Rattle.gptp_timeline.specs.Stretch.{times}
use Rattle.gptp_timeline.specs.declared.ends.LastStretches.{LastStretches}
use Rattle.gptp_faults.specs.CaseEvents.{EventsState}
use Rattle.gptp_faults.specs.Cases.{AreCases, link_cases, power_cases, system_cases}
use Rattle.gptp_faults.specs.Extremes.{greatest_behind}
use Rattle.gptp_faults.specs.Faults.{FaultsOf}
use Rattle.gptp_faults.specs.Follows.{AreFollows}
use Rattle.gptp_faults.specs.declared.follows.Follow.{Follow}
use Rattle.gptp_faults.specs.FaultsText.{exceeds_limit, table_lines}
use Rattle.gptp_faults.specs.Laws.{NeverRefused, OneRefusal, OneTable, RunsEndOnce}
use Rattle.gptp_faults.specs.Options.{tracks}
use Rattle.gptp_faults.specs.Outcomes.{aside_of, AreOutcomes, back_in, down_in, IsOutcome, IsOutcomeAt, OutcomeState, case_numbers}
use Rattle.gptp_faults.specs.Parts.{AreCaseParts, AreWhole, cut_off, IsLeft, IsPlaced, kept, parts_of, weighed}
use Rattle.gptp_faults.specs.Ranking.{OutcomesAreRanked}
use Rattle.gptp_faults.specs.Refusals.{case_events, IsLate, RefusesFaults, fault_before}
use Rattle.gptp_faults.specs.Runs.{AreRunEnds, CaseRunEnds, document_run, generator, is_seen, run_moment, seed_of, set_aside}
use Rattle.gptp_faults.specs.Stays.{end_at, failed_document, hold_of, watch_of}
use Rattle.gptp_faults.specs.Times.{AreTimes}
use Rattle.gptp_faults.specs.Whole.{IsWhole, WholeState}
use Rattle.gptp_faults.specs.declared.cases.Case.{Case}
use Rattle.gptp_faults.specs.declared.options.FaultsOptions.{FaultsOptions}
use Rattle.gptp_faults.specs.declared.parts.Placed.{Placed}
use Rattle.gptp_faults.specs.declared.runs.RunEnds.{RunEnds}
use Rattle.gptp_faults.specs.declared.times.Times.{Times}
use Rattle.gptp_faults.proofs.OrderLemmas.{ranked_once}
use Rattle.gptp_faults.proofs.RunLemmas.{case_are}

-- ---- member by member

-- where each member has one answer, two lists of answers are one
each_once : {X Y : Type 0} (P : X → Y → Type 0) → ((x : X) (y z : Y) → P x y → P x z → y ≡ z)
    → (xs : List X) (ys zs : List Y) → Each P xs ys → Each P xs zs → ys ≡ zs
each_once P once [] [] [] k l = refl
each_once P once [] [] (z ∷ zs) k l = absurd l
each_once P once [] (y ∷ ys) zs k l = absurd k
each_once P once (x ∷ xs) [] zs k l = absurd k
each_once P once (x ∷ xs) (y ∷ ys) [] k l = absurd l
each_once {X} {Y} P once (x ∷ xs) (y ∷ ys) (z ∷ zs) k l =
    ap₂ (λ (v : Y) (vs : List Y). v ∷ vs) (once x y z k.0 l.0) (each_once P once xs ys zs k.1 l.1)

-- ---- whom systems follow

follows_once : (roots : List ℕ) (a b : List Follow) → AreFollows roots a → AreFollows roots b → a ≡ b
follows_once roots a b k l =
    same_rising (λ (f : Follow). f.root) a b k.rising l.rising (among a b k l) (among b a l k)
  where
    among : (xs ys : List Follow) → AreFollows roots xs → AreFollows roots ys → (f : Follow) → In f xs → In f ys
    among xs ys x y f member =
        let (g, there, is) = from_map (λ (h : Follow). h.root) f.root ys (y.all f.root (x.only f member)) in
        let systems : g.systems ≡ f.systems =
        y.counted g there ∙ ap (times roots) is ∙ sym (x.counted f member) in
        let same : g ≡ f = λ i. record { root = is i; systems = systems i } in
        subst (λ (h : Follow). In h ys) same there

-- ---- parts of components

-- the best of a component has one identity
identity_once : (g : Snapshot) (v a b : ℕ) → IsBestIdentity g v a → IsBestIdentity g v b → a ≡ b
identity_once g v a b (x, is_x, a_is) (y, is_y, b_is) =
    let below = is_x.least y is_y.live is_y.reached in
    let above = is_y.least x is_x.live is_x.reached in
    let same : x.identity ≡ y.identity = omega (arith, below, above) in
    a_is ∙ same ∙ sym b_is

module _ (g g' : Snapshot) where
  placed_once : (name : ℕ) (x y : Placed) → IsPlaced g g' name x → IsPlaced g g' name y → x ≡ y
  placed_once name x y k l =
      let clock : x.clock ≡ y.clock = k.clock ∙ sym l.clock in
      let component = identity_once g name x.component y.component k.component l.component in
      let part = identity_once g' name x.part y.part k.part l.part in
      λ i. record { clock = clock i; component = component i; part = part i }

  left_once : (cut others : List ℕ) (main mains : List (List ℕ)) → IsLeft g g' cut main → IsLeft g g' others mains
      → (cut ≡ others) × (main ≡ mains)
  left_once cut others main mains k l =
      let same = each_once (IsPlaced g g') placed_once (clocks g') k.systems l.systems k.are l.are in (
        k.cut_is ∙ ap (λ (xs : List Placed). cut_off (weighed xs)) same ∙ sym l.cut_is,
        k.main_is ∙ ap (λ (xs : List Placed). parts_of (kept (weighed xs))) same ∙ sym l.main_is,
      )

case_parts_once : (d : DocumentState) (g : Snapshot) (e : EventsState) (at : ℕ) (cut others : List ℕ)
    (main mains : List (List ℕ)) → AreCaseParts d g e at cut main → AreCaseParts d g e at others mains
    → (cut ≡ others) × (main ≡ mains)
case_parts_once d g e at cut others main mains k l =
    let failed = failed_document at e d in
    let same = one_snapshot failed (last_change failed.events) k.after l.after k.stands l.stands in
    left_once g l.after cut others main mains (subst (λ (h : Snapshot). IsLeft g h cut main) same k.left) l.left

-- the network after all events is one
whole_parts_once : (g : Snapshot) (xs ys : List (List ℕ)) → AreWhole g xs → AreWhole g ys → xs ≡ ys
whole_parts_once g xs ys k l =
    k.parts_are ∙ ap parts_of (each_once (IsPlaced g g) (placed_once g g) (clocks g) k.systems l.systems k.are l.are)
    ∙ sym l.parts_are

whole_once : (d : DocumentState) (a b : WholeState) → IsWhole d a → IsWhole d b → a ≡ b
whole_once d a b k l =
    let cables : a.cables ≡ b.cables = k.cables ∙ sym l.cables in
    let snapshot = one_snapshot d (last_change d.events) a.snapshot b.snapshot k.stands l.stands in
    let parts = whole_parts_once b.snapshot a.parts b.parts
    (subst (λ (g : Snapshot). AreWhole g a.parts) snapshot k.parts) l.parts in
    λ i. record { cables = cables i; snapshot = snapshot i; parts = parts i }

-- ---- a run

run_ends_once : (seen : Bool) (last : LastStretches) (a b : RunEnds) → AreRunEnds seen last a
    → AreRunEnds seen last b → a ≡ b
run_ends_once false last a b k l =
    let first : a.first ≡ b.first = k.0 ∙ sym l.0 in
    let down = same_Some a.down b.down (sym k.1 ∙ l.1) in
    let back = same_Some a.back b.back (sym k.2 ∙ l.2) in
    λ i. record { first = first i; down = down i; back = back i }
run_ends_once true last a b k l =
    let first : a.first ≡ b.first = sym k.1 ∙ l.1 in
    let down = same_Some a.down b.down (sym k.2 ∙ l.2) in
    let back = same_Some a.back b.back (sym k.3 ∙ l.3) in
    λ i. record { first = first i; down = down i; back = back i }

module _ (d : DocumentState) (once : RunsEndOnce d) (options : FaultsOptions) (t : Times) where
  run_once : (e : EventsState) (names : List ℕ) (run : ℕ) (a b : RunEnds) → CaseRunEnds options d t e names run a
      → CaseRunEnds options d t e names run b → a ≡ b
  run_once e names run a b k l =
      let at = run_moment t run in
      let seed = seed_of t run in
      let same = once (tracks options) (set_aside d options.hold e names at) (document_run d options.hold e t run) seed
      (end_at d options.hold e at) (generator seed) k.last l.last
      (ap (λ (x : DocumentState). seeded seed x.network) (case_are at (hold_of d options.hold e at) e d)) k.ends
      l.ends in
      run_ends_once (is_seen e) l.last a b
      (subst (λ (last : LastStretches). AreRunEnds (is_seen e) last a) same k.are) l.are

  -- ---- a case

  outcome_once : (number : ℕ) (c : Case) (a b : OutcomeState) → IsOutcome options d t number c a
      → IsOutcome options d t number c b → a ≡ b
  outcome_once number c a b k l =
      let e = case_events d options c in
      let whole = whole_once d k.whole l.whole k.is_whole l.is_whole in
      let parts = case_parts_once d l.whole.snapshot e t.from k.cut l.cut k.main l.main
      (subst (λ (w : WholeState). AreCaseParts d w.snapshot e t.from k.cut k.main) whole k.parts) l.parts in
      let runs = each_once (CaseRunEnds options d t e (aside_of c l.cut)) (run_once e (aside_of c l.cut)) _
      (k.first ∷ k.others) (l.first ∷ l.others)
      (subst (λ (names : List ℕ). Each (CaseRunEnds options d t e (aside_of c names)) _ (k.first ∷ k.others)) parts.0
      k.runs) l.runs in
      let first : k.first ≡ l.first = cc in
      let others : k.others ≡ l.others = cc in
      let numbers : a.number ≡ b.number = k.number_is ∙ sym l.number_is in
      let failing : a.failing ≡ b.failing = k.failing ∙ sym l.failing in
      let downs : greatest_behind (down_in k.cut k.main k.first) (map (down_in k.cut k.main) k.others)
      ≡ greatest_behind (down_in l.cut l.main l.first) (map (down_in l.cut l.main) l.others) =
      λ i. greatest_behind (down_in (parts.0 i) (parts.1 i) (first i))
      (map (down_in (parts.0 i) (parts.1 i)) (others i)) in
      let backs : greatest_behind (back_in k.whole.parts k.first) (map (back_in k.whole.parts) k.others)
      ≡ greatest_behind (back_in l.whole.parts l.first) (map (back_in l.whole.parts) l.others) =
      λ i. greatest_behind (back_in (whole i).parts (first i)) (map (back_in (whole i).parts) (others i)) in
      let down : a.down ≡ b.down = k.down ∙ downs ∙ sym l.down in
      let back : a.back ≡ b.back = k.back ∙ backs ∙ sym l.back in
      let follow : a.follow ≡ b.follow =
      follows_once l.first.down.roots a.follow b.follow
      (subst (λ (r : RunEnds). AreFollows r.down.roots a.follow) first k.follow) l.follow in
      λ i. record {
        number = numbers i;
        failing = failing i;
        down = down i;
        back = back i;
        follow = follow i;
      }

  outcome_at_once : (cases : List Case) (number : ℕ) (a b : OutcomeState) → IsOutcomeAt options d t cases number a
      → IsOutcomeAt options d t cases number b → a ≡ b
  outcome_at_once cases number a b (c, at, k) (e, there, l) =
      let same : e ≡ c = same_Some e c (sym there ∙ at) in
      outcome_once number c a b k (subst (λ (x : Case). IsOutcome options d t number x b) same l)

  outcomes_once : (cases : List Case) (a b : List OutcomeState) → AreOutcomes d t options cases a
      → AreOutcomes d t options cases b → a ≡ b
  outcomes_once cases a b k l =
      each_once (IsOutcomeAt options d t cases) (outcome_at_once cases)
      (case_numbers options.parts options.part (length cases)) a b k l

-- ---- cases and times

span_once : (d : DocumentState) (at m n : ℕ) → IsSpan d at m → IsSpan d at n → m ≡ n
span_once d at m n x y =
    let same = one_snapshot d at x.snapshot y.snapshot x.stands y.stands in
    let paths = sync_paths d.network (events_by at d.events) in
    x.is ∙ ap (λ (g : Snapshot). settling_span_with (pace_of d.network) paths (path_bound g)) same ∙ sym y.is

cases_once : (d : DocumentState) (options : FaultsOptions) (a b : List Case) → AreCases d options.only options.power a
    → AreCases d options.only options.power b → a ≡ b
cases_once d options a b k l =
    let same = one_snapshot d _ k.snapshot l.snapshot k.stands l.stands in
    k.are
    ∙ ap (λ (g : Snapshot). (link_cases options.only g ++ system_cases options.only d)
    ++ power_cases options.only options.power d) same
    ∙ sym l.are

times_once : (d : DocumentState) (options : FaultsOptions) (t u : Times) → AreTimes d options t → AreTimes d options u
    → t ≡ u
times_once d options t u k l =
    let last = last_change d.events in
    let spans = span_once d last k.span l.span k.span_is l.span_is in
    let from : t.from ≡ u.from =
    k.from_is ∙ ap (λ (span : ℕ). unwrap_or options.at (last + max span (watch_of d last))) spans ∙ sym l.from_is in
    let spread : t.spread ≡ u.spread = k.spread_is ∙ sym l.spread_is in
    let moments : t.moments ≡ u.moments = k.moments_are ∙ sym l.moments_are in
    let seeds : t.seeds ≡ u.seeds = k.seeds_are ∙ sym l.seeds_are in
    λ i. record { from = from i; spread = spread i; moments = moments i; seeds = seeds i }

module _ (d : DocumentState) (options : FaultsOptions) where
  -- ---- a table, or a refusal

  module _ (once : RunsEndOnce d) where
    one_table_of : (xs ys : List (List ℕ)) (a b : Bool) → FaultsOf d options xs a → FaultsOf d options ys b
        → (xs ≡ ys) × (a ≡ b)
    one_table_of xs ys a b k l =
        let cases = cases_once d options k.cases l.cases k.are_cases l.are_cases in
        let times = times_once d options k.times l.times k.are_times l.are_times in
        let outcomes : k.outcomes ≡ l.outcomes =
        outcomes_once d once options l.times l.cases k.outcomes l.outcomes
        (subst (λ (cs : List Case). AreOutcomes d l.times options cs k.outcomes) cases
        (subst (λ (t : Times). AreOutcomes d t options k.cases k.outcomes) times k.are_outcomes)) l.are_outcomes in
        let told : k.told ≡ l.told =
        ranked_once l.outcomes k.told l.told
        (subst (λ (os : List OutcomeState). OutcomesAreRanked os k.told) outcomes k.are_told) l.are_told in (
          k.are ∙ ap₂ (λ (t : Times) (os : List OutcomeState). table_lines options t os) times told ∙ sym l.are,
          k.exceeded_is ∙ ap (exceeds_limit options.limits) told ∙ sym l.exceeded_is,
        )

  -- what a refusal rests on: the cases and the times of a document are one thing
  refuses_with : (fault : DocumentFault) (cases : List Case) (t : Times) → AreCases d options.only options.power cases
      → AreTimes d options t → RefusesFaults d options fault
      → (fault_before d options t cases ≡ Some fault) ⊎ IsLate d options t cases fault
  refuses_with fault cases t are_cases are_times k =
      subst (λ (u : Times). (fault_before d options u cases ≡ Some fault) ⊎ IsLate d options u cases fault)
      (times_once d options k.times t k.are_times are_times)
      (subst (λ (cs : List Case). (fault_before d options k.times cs ≡ Some fault) ⊎ IsLate d options k.times cs fault)
      (cases_once d options k.cases cases k.are_cases are_cases) k.refuses)

  -- a document with a table isn't refused
  not_refused : (xs : List (List ℕ)) (exceeded : Bool) (fault : DocumentFault) → FaultsOf d options xs exceeded
      → RefusesFaults d options fault → ⊥
  not_refused xs exceeded fault k refuses =
      by (refuses_with fault k.cases k.times k.are_cases k.are_times refuses)
    where
      by : (fault_before d options k.times k.cases ≡ Some fault) ⊎ IsLate d options k.times k.cases fault → ⊥
      by (inl early) = let none = k.before in absurd cc
      by (inr late) =
          let in_time = k.in_time in let too_late = late.late in absurd cc

  -- and has one fault
  refusals_once : (f g : DocumentFault) → RefusesFaults d options f → RefusesFaults d options g → f ≡ g
  refusals_once f g k l = by k.refuses (refuses_with g k.cases k.times k.are_cases k.are_times l)
    where
      by : (fault_before d options k.times k.cases ≡ Some f) ⊎ IsLate d options k.times k.cases f
          → (fault_before d options k.times k.cases ≡ Some g) ⊎ IsLate d options k.times k.cases g → f ≡ g
      by (inl x) (inl y) = cc
      by (inl x) (inr y) = let none = y.before in absurd cc
      by (inr x) (inl y) = let none = x.before in absurd cc
      by (inr x) (inr y) = x.is ∙ sym y.is

pub table_once : OneTable
table_once d options lines others one other once k l = one_table_of d options once lines others one other k l

pub never_refused : NeverRefused
never_refused d options lines exceeded fault k refuses = not_refused d options lines exceeded fault k refuses

pub one_refusal : OneRefusal
one_refusal d options f g k l = refusals_once d options f g k l
