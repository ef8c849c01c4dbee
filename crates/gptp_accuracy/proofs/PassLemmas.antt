-- One pass from the roots down: the places of lines by rising steps, and where a line's parent stands among them.
use Rattle.std.proofs.Common.{◌≡◌, ◌≢◌, ℕ, zero, suc, ◌+◌, ◌<◌, ◌≤◌, ℤ, Bool, true, false, List, [], ◌∷◌, ◌++◌, length, get_or, Some, None, slice_get, inl, inr, refl, sym, ap, subst, ◌∙◌, arith}
use Rattle.std.specs.List.Sorted.{IsNonDecreasingBy, IsPermutation, IsSortedByKey}
use Rattle.std.specs.Ordering.{nat_cmp}
use Rattle.std.proofs.lemmas.Bool.{cases_lt}
use Rattle.std.proofs.lemmas.List.Sorted.{IsNonDecreasingBy-from_sort, IsPermutation-sym}
use Rattle.std.proofs.lemmas.Option.{get_or_from_slice_get, same_Some, slice_get_within}
use Rattle.gptp_lists.specs.Members.{In}
use Rattle.gptp_lists.proofs.SystemSpecLemmas.{In-left, In-parts, In-right, In-slice_get, slice_get-In}
use Rattle.gptp_lists.proofs.PlaceLemmas.{same_place}
use Rattle.gptp_graph.specs.Labelling.{SystemLine, IsBare, line_clocks}
use Rattle.gptp_graph.specs.Order.{IsRising}
use Rattle.gptp_graph.specs.Parent.{ParentLink, IsParent}
use Rattle.gptp_graph.specs.SettledChoice.{IsParentIfAny, IsSettledChoice, IsSettledLine}
use Rattle.gptp_graph.specs.Snapshot.{Snapshot, IsWellFormed, clocks, port_of}
use Rattle.gptp_graph.specs.Distance.{IsDistance}
use Rattle.gptp_graph.proofs.DistanceLemmas.{IsDistance-clock, IsDistance-unique}
use Rattle.gptp_graph.proofs.ParentLemmas.{parent_exists}
use Rattle.gptp_graph.proofs.StatementLemmas.{line_of}
use Rattle.gptp_roles.specs.Selection.{clock_of}
use Rattle.gptp_scenario.specs.Network.{NetworkState, IsEnd}
use Rattle.gptp_scenario.specs.declared.change.Timed.{Timed}
use Rattle.gptp_scenario.specs.declared.network.SystemSpec.{SystemSpec}
use Rattle.gptp_scenario.specs.declared.network.LinkSpec.{LinkSpec}
use Rattle.gptp_network.specs.Snapshot.{StandsAfter}
use Rattle.gptp_network.specs.SnapshotTables.{HasClock}
use Rattle.gptp_network.proofs.SnapshotLemmas.{In-permutation}
use Rattle.gptp_checker.proofs.PlaceLemmas.{passed_at}
use Rattle.gptp_error_laws.specs.TimeError.{WayLink, Way}
use Rattle.gptp_error_laws.specs.WayLaws.{longer}
use Rattle.gptp_accuracy.specs.Passing.{AreBySteps, ArePlaces, IsDoneAt, IsParentDone, IsSummedUp}
use Rattle.gptp_accuracy.specs.Sums.{AreSummed}
use Rattle.gptp_accuracy.specs.Ways.{HasDelays, HasDrift, IsLinkTo, IsWay, root_way}
use Rattle.gptp_accuracy.specs.declared.sums.Sums.{Sums}
use Rattle.gptp_accuracy.proofs.StandingLemmas.{member_stands, wire_stands}

-- one line more
pub place_added : (lines : List SystemLine) (count : ℕ) (places : List (ℕ × ℕ)) (line : SystemLine)
    → ArePlaces lines count places → slice_get lines count ≡ Some line
    → ArePlaces lines (count + 1) (places ++ (line.steps, count) ∷ [])
place_added lines count places line before there = record { all = all; only = only }
  where
    all : (place : ℕ) (other : SystemLine) → place < count + 1 → slice_get lines place ≡ Some other
        → In (other.steps, place) (places ++ (line.steps, count) ∷ [])
    all place other below at = elim (cases_lt place count) [
      | inl less ↦ In-left _ places ((line.steps, count) ∷ []) (before.all place other less at)
      | inr more ↦ (
          let same : place ≡ count = omega (arith, below, more) in
          let is : other ≡ line = same_Some other line (sym at ∙ ap (slice_get lines) same ∙ there) in
          In-right _ places ((line.steps, count) ∷ [])
          (inl (λ i. ((is i).steps, same i)))
          )
    ]

    only : (steps place : ℕ) → In (steps, place) (places ++ (line.steps, count) ∷ [])
        → (other : SystemLine) × (slice_get lines place ≡ Some other) × (other.steps ≡ steps)
    only steps place member = elim (In-parts (steps, place) places ((line.steps, count) ∷ []) member) [
      | inl early ↦ before.only steps place early
      | inr late ↦ elim late [
        | inl is ↦ (
          line,
          ap (λ (p : ℕ × ℕ). slice_get lines p.1) is ∙ there,
          sym (ap (λ (p : ℕ × ℕ). p.0) is),
        )
        | inr none ↦ absurd none
      ]
    ]

-- all of them, sorted by steps
pub places_sorted : (lines : List SystemLine) (before after : List (ℕ × ℕ)) → ArePlaces lines (length lines) before
    → IsPermutation before after → IsSortedByKey (λ (p : ℕ × ℕ). p.0) nat_cmp after → AreBySteps lines after
places_sorted lines before after are moved sorted = record {
  rising = IsNonDecreasingBy-from_sort (λ (p : ℕ × ℕ). p.0) after sorted;
  all = λ place line there.
      In-permutation (line.steps, place) before after moved
      (are.all place line (slice_get_within lines place line there) there);
  only = λ steps place member.
      are.only steps place
      (In-permutation (steps, place) after before (IsPermutation-sym before after moved) member);
}

-- fewer steps stand before
pub earlier : (places : List (ℕ × ℕ)) → IsNonDecreasingBy (λ (p : ℕ × ℕ). p.0) places
    → (i j : ℕ) (here there : ℕ × ℕ) → slice_get places i ≡ Some here → slice_get places j ≡ Some there
    → there.0 < here.0 → j < i
earlier places rising i j here there at_i at_j less = elim (cases_lt j i) [
  | inl before ↦ before
  | inr behind ↦ (
      let within = slice_get_within places j there at_j in
      let keys = rising i j here behind within in
      let a : (get_or places i here).0 ≡ here.0 =
      ap (λ (p : ℕ × ℕ). p.0) (get_or_from_slice_get places i here here at_i) in
      let b : (get_or places j here).0 ≡ there.0 =
      ap (λ (p : ℕ × ℕ). p.0) (get_or_from_slice_get places j there here at_j) in
      absurd (omega (arith, keys, a, b, less))
      )
]

-- a line that isn't far and has no parent is that of the best
pub steps_at_root : (g : Snapshot) (line : SystemLine) → IsWellFormed g → IsSettledLine g line → line.far ≡ false
    → line.parent ≡ None → line.steps ≡ 0
steps_at_root g line network settled near none = by line.steps settled.steps
  where
    by : (d : ℕ) → IsDistance g line.clock d → d ≡ 0
    by zero distance = refl
    by (suc d) distance =
        let (l, is) = parent_exists g line.clock d network distance in
        let alone : IsParentIfAny g line.clock None =
        subst (IsParentIfAny g line.clock) none (settled.parent near) in
        absurd (alone l is)

-- a line that has a parent isn't far
pub near_by_parent : (line : SystemLine) (l : ParentLink) → (line.far ≡ true → IsBare line) → line.parent ≡ Some l
    → line.far ≡ false
near_by_parent line l bare some = by line.far refl
  where
    by : (far : Bool) → line.far ≡ far → far ≡ false
    by false e = refl
    by true e = let none : None ≡ Some l = sym (bare e).parent ∙ some in absurd cc

-- the line of a line's parent
pub record HasParentLine (g : Snapshot) (lines : List SystemLine) (line : SystemLine) (l : ParentLink) : Type 0 where
  pub is : IsParent g line.clock l
  pub parent : SystemLine
  pub place : ℕ
  pub there : slice_get lines place ≡ Some parent
  pub clock : parent.clock ≡ l.clock
  pub nearer : suc parent.steps ≡ line.steps
  pub near : parent.far ≡ false
  pub has : HasClock g.systems l.clock place

module _ (g : Snapshot) (lines : List SystemLine) (network : IsWellFormed g) (rising : IsRising (clocks g))
    (lines_rising : IsRising (line_clocks lines)) (choice : IsSettledChoice g lines)
    (bare : (line : SystemLine) → In line lines → line.far ≡ true → IsBare line) where
  pub parent_line : (line : SystemLine) (l : ParentLink) → In line lines → line.parent ≡ Some l
      → HasParentLine g lines line l
  parent_line line l stated some =
      let settled = choice.settled line stated in
      let near = near_by_parent line l (bare line stated) some in
      let is : IsParent g line.clock l = subst (IsParentIfAny g line.clock) some (settled.parent near) in
      let steps = IsDistance-unique g line.clock (suc is.nearer.distance) line.steps network is.nearer.here
      settled.steps in
      let found = line_of g lines l.clock choice.systems
      (IsDistance-clock g l.clock is.nearer.distance network is.nearer.there) in
      let parent = choice.settled found.line found.stated in
      let distance : IsDistance g l.clock found.line.steps =
      subst (λ v. IsDistance g v found.line.steps) found.clock parent.steps in
      let same = IsDistance-unique g l.clock found.line.steps is.nearer.distance network distance is.nearer.there in
      let (place, there) = slice_get-In found.line lines found.stated in
      let agree = passed_at g lines rising lines_rising choice.systems place
      (slice_get_within lines place found.line there) in
      let lines_agree : agree.line ≡ found.line = same_Some agree.line found.line (sym agree.line_there ∙ there) in
      record {
        is = is;
        parent = found.line;
        place = place;
        there = there;
        clock = found.clock;
        nearer = omega (arith, same, steps);
        near = not_far found.line.far refl (λ far. omega (arith, same, steps, settled.near near, parent.far far));
        has = record {
          system = agree.system;
          there = agree.system_there;
          is = sym agree.is.clock ∙ ap (λ (k : SystemLine). k.clock) lines_agree ∙ found.clock;
        };
      }
    where
      not_far : {far : Bool} (b : Bool) → far ≡ b → (far ≡ true → ⊥) → far ≡ false
      not_far true e none = absurd (none e)
      not_far false e none = e

-- ---- the last link of a way

-- what is there of the link from a line's system to its parent
pub record HasLink (n : NetworkState) (g : Snapshot) (line : SystemLine) (l : ParentLink) : Type 0 where
  pub is : IsParent g line.clock l
  pub near : line.steps < 255
  pub wire : LinkSpec
  pub wire_there : In wire n.links
  pub end : IsEnd (record { clock = line.clock; port = l.own_port }) wire

-- the system of a line is one of the network
pub line_member : (n : NetworkState) (events : List Timed) (g : Snapshot) (line : SystemLine) → IsWellFormed g
    → StandsAfter n events g → IsSettledLine g line
    → (m : SystemSpec) × In m n.systems × (clock_of m.identity ≡ line.clock)
line_member n events g line network stands settled =
    member_stands n events g stands line.clock (IsDistance-clock g line.clock line.steps network settled.steps)

pub line_link : (n : NetworkState) (events : List Timed) (g : Snapshot) (line : SystemLine) (l : ParentLink)
    → StandsAfter n events g → IsSettledLine g line → (line.far ≡ true → IsBare line) → line.parent ≡ Some l
    → HasLink n g line l
line_link n events g line l stands settled bare some =
    let near = near_by_parent line l bare some in
    let is : IsParent g line.clock l = subst (IsParentIfAny g line.clock) some (settled.parent near) in
    let (wire, there, end) =
    wire_stands n events g stands (port_of line.clock l.own_port) (port_of l.clock l.port) is.nearer.joins in
    record { is = is; near = settled.near near; wire = wire; wire_there = there; end = end }

-- what is summed up for a parent serves the line
module _ (n : NetworkState) (events : List Timed) (g : Snapshot) (line : SystemLine) (l : ParentLink) (steps : ℕ)
    (next : suc steps ≡ line.steps) where
  pub summed_next : (before : Sums) (to : Sums) (last : WayLink) → IsSummedUp n events g l.clock steps before
      → IsParent g line.clock l → HasDelays n events line.clock l.own_port last.least last.most
      → HasDrift n line.clock last.drift
      → ((w : Way) → AreSummed steps n.params w before → AreSummed (suc steps) n.params (longer w last) to)
      → IsSummedUp n events g line.clock line.steps to
  summed_next before to last summed is delays drift behind =
      let link : IsLinkTo n events line.clock l last = record { delays = delays; drift = drift } in
      let way : IsWay n events g (suc steps) line.clock (longer summed.way last) =
      (l, summed.way, last, is, summed.is, link, refl) in
      record {
        way = longer summed.way last;
        is = subst (λ k. IsWay n events g k line.clock (longer summed.way last)) next way;
        summed = subst (λ k. AreSummed k n.params (longer summed.way last) to) next (behind summed.way summed.summed);
      }

-- nothing is summed up for a root
pub summed_first : (n : NetworkState) (events : List Timed) (g : Snapshot) (line : SystemLine) (to : Sums) (drift : ℤ)
    → IsWellFormed g → IsSettledLine g line → line.parent ≡ None → line.far ≡ false → HasDrift n line.clock drift
    → AreSummed 0 n.params (root_way n.params drift) to → IsSummedUp n events g line.clock line.steps to
summed_first n events g line to drift network settled none near has summed =
    let zero_is : line.steps ≡ 0 = steps_at_root g line network settled near none in
    let distance : IsDistance g line.clock 0 = subst (IsDistance g line.clock) zero_is settled.steps in
    let way : IsWay n events g 0 line.clock (root_way n.params drift) = (distance, (drift, has, refl)) in
    record {
      way = root_way n.params drift;
      is = subst (λ k. IsWay n events g k line.clock (root_way n.params drift)) (sym zero_is) way;
      summed = subst (λ k. AreSummed k n.params (root_way n.params drift) to) (sym zero_is) summed;
    }

-- ---- the places so far

-- at the places so far stand the right sums
abbrev pub AreDone : NetworkState → List Timed → Snapshot → List SystemLine → List (ℕ × ℕ) → List Sums → ℕ → Type 0
AreDone n events g lines places sums count = (k steps place : ℕ) → k < count → slice_get places k ≡ Some (steps, place)
    → IsDoneAt n events g lines sums place

module _ (n : NetworkState) (events : List Timed) (g : Snapshot) (lines : List SystemLine) (places : List (ℕ × ℕ))
    (by_steps : AreBySteps lines places) where
  -- one place more
  pub done_more : (before after : List Sums) (i : ℕ) (here : ℕ × ℕ) → slice_get places i ≡ Some here
      → AreDone n events g lines places before i → IsDoneAt n events g lines after here.1
      → ((other : ℕ) → other ≢ here.1 → slice_get after other ≡ slice_get before other)
      → AreDone n events g lines places after (i + 1)
  done_more before after i here at so_far now others k steps place below there =
      elim (same_place place here.1) [
        | inl same ↦ subst (IsDoneAt n events g lines after) (sym same) now
        | inr other ↦ elim (cases_lt k i) [
          | inl early ↦ (
              λ line is near. let (to, stood, summed) = so_far k steps place early there line is near in
              (to, others place other ∙ stood, summed)
              )
          | inr late ↦ (
              let same : k ≡ i = omega (arith, below, late) in
              let clash : (steps, place) ≡ here =
              same_Some (steps, place) here (sym there ∙ ap (slice_get places) same ∙ at) in
              absurd (other (ap (λ (p : ℕ × ℕ). p.1) clash))
              )
        ]
      ]

  -- where a place comes up, the parent of its line was done
  pub parent_done : IsWellFormed g → IsRising (clocks g) → IsRising (line_clocks lines) → IsSettledChoice g lines
      → ((line : SystemLine) → In line lines → line.far ≡ true → IsBare line) → (sums : List Sums) (i : ℕ)
      (here : ℕ × ℕ) → slice_get places i ≡ Some here → AreDone n events g lines places sums i → (line : SystemLine)
      → slice_get lines here.1 ≡ Some line → IsParentDone n events g sums line
  parent_done network rising lines_rising choice bare sums i here at done line there l some =
      let stated = In-slice_get line lines here.1 there in
      let up = parent_line g lines network rising lines_rising choice bare line l stated some in
      let (own, own_there, own_steps) = by_steps.only here.0 here.1 (In-slice_get here places i at) in
      let same : own ≡ line = same_Some own line (sym own_there ∙ there) in
      let steps : line.steps ≡ here.0 = ap (λ (k : SystemLine). k.steps) (sym same) ∙ own_steps in
      let (j, parent_at) =
      slice_get-In (up.parent.steps, up.place) places (by_steps.all up.place up.parent up.there) in
      let before = earlier places by_steps.rising i j here (up.parent.steps, up.place) at parent_at
      (omega (arith, up.nearer, steps)) in
      let (to, stands, summed) = done j up.parent.steps up.place before parent_at up.parent up.there up.near in (
        up.parent.steps,
        up.nearer,
        record {
          place = up.place;
          has = up.has;
          to = to;
          there = stands;
          summed = subst (λ v. IsSummedUp n events g v up.parent.steps to) up.clock summed;
        },
      )

  -- all of them
  pub done_all : (sums : List Sums) (count : ℕ) → length places ≤ count → AreDone n events g lines places sums count
      → (place : ℕ) → IsDoneAt n events g lines sums place
  done_all sums count all done place line there near =
      let (k, at) = slice_get-In (line.steps, place) places (by_steps.all place line there) in
      let within = slice_get_within places k (line.steps, place) at in
      done k line.steps place (omega (arith, within, all)) at line there near
