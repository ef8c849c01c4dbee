-- What is found, by the places of systems.
use Rattle.std.proofs.Common.{◌≡◌, ◌≢◌, ◌<◌, ◌++◌, ◌∙◌, ℕ, zero, suc, List, [], ◌∷◌, length, get_or, IfNone, IfSome, Option, Some, None, slice_get, slice_set, refl, sym, ap, subst, inl, inr, arith}
use Rattle.std.proofs.lemmas.Option.{same_Some, slice_get-get_or, slice_get_within}
use native.Mathlib.Decide.{ℕ_discrete}
use Rattle.gptp_lists.specs.Members.{In}
use Rattle.gptp_lists.proofs.SystemSpecLemmas.{In-left, In-parts, In-right, In-slice_get, slice_get-In}
use Rattle.gptp_lists.proofs.PlaceLemmas.{get-set_other, get-set_same}
use Rattle.gptp_graph.specs.Order.{IsRising}
use Rattle.gptp_graph.specs.Snapshot.{System, Snapshot, clocks}
use Rattle.gptp_graph.proofs.SystemLemmas.{system_of}
use Rattle.gptp_network.specs.SnapshotTables.{HasClock}
use Rattle.gptp_network.proofs.SearchLemmas.{same_place}
use Rattle.gptp_components.specs.Distances.{AreDistances, IsDistanceOf}
use Rattle.gptp_components.specs.Search.{IsFound, IsPut, NothingFound}
use Rattle.gptp_components.specs.declared.distance.Distance.{Distance}

-- distances with the same parts are one
pub same_distance : (d e : Distance) → d.root ≡ e.root → d.steps ≡ e.steps → d ≡ e
same_distance d e root steps = λ i. record { root = root i; steps = steps i }

-- each system stands at a place
pub place_there : (g : Snapshot) (v : ℕ) → In v (clocks g) → (place : ℕ) × HasClock g.systems v place
place_there g v live =
    let (s, at, is) = system_of g v live in
    let (place, there) = slice_get-In s g.systems at in
    (place, record { system = s; there = there; is = is })

-- and at one
pub one_place : (g : Snapshot) (v i j : ℕ) → IsRising (clocks g) → HasClock g.systems v i → HasClock g.systems v j
    → i ≡ j
one_place g v i j rising a b =
    same_place (λ (s : System). s.clock) g.systems i j a.system b.system rising a.there b.there (a.is ∙ sym b.is)

-- and of one system
pub one_clock : (g : Snapshot) (v w i : ℕ) → HasClock g.systems v i → HasClock g.systems w i → v ≡ w
one_clock g v w i a b =
    let one : a.system ≡ b.system = same_Some a.system b.system (sym a.there ∙ b.there) in
    sym a.is ∙ ap (λ (s : System). s.clock) one ∙ b.is

-- the place of a system is within what is found
pub within_found : (g : Snapshot) (found : List (Option Distance)) (v place : ℕ) → HasClock g.systems v place
    → length found ≡ length g.systems → place < length found
within_found g found v place has as_many =
    let within = slice_get_within g.systems place has.system has.there in
    omega arith

-- a system with the clock stands at a place
pub place_of_system : (g : Snapshot) (s : System) (v : ℕ) → In s g.systems → s.clock ≡ v
    → (place : ℕ) × HasClock g.systems v place
place_of_system g s v live is =
    let (place, there) = slice_get-In s g.systems live in
    (place, record { system = s; there = there; is = is })

-- where nothing is found at its place, nothing is found of the system
pub unfound_there : (g : Snapshot) (found : List (Option Distance)) (v place : ℕ)
    → ((other : ℕ) → HasClock g.systems v other → Some place ≡ Some other) → (o : Option Distance)
    → IfNone o ((d : Distance) → slice_get found place ≡ Some (Some d) → ⊥)
    → IfNone o ((d : Distance) → IsFound g found v d → ⊥)
unfound_there g found v place only None none = λ d is.
    let same : place ≡ is.place = same_Some place is.place (only is.place is.has) in
    none d (ap (slice_get found) same ∙ is.there)
unfound_there g found v place only (Some d) none = tt

-- what is found of a system stands at its place
pub found_there : (g : Snapshot) (found : List (Option Distance)) (v place : ℕ) (d : Distance) → IsRising (clocks g)
    → HasClock g.systems v place → IsFound g found v d → slice_get found place ≡ Some (Some d)
found_there g found v place d rising has is =
    subst (λ k. slice_get found k ≡ Some (Some d)) (one_place g v is.place place rising is.has has) is.there

-- nothing is found where nothing is
pub nothing_there : (g : Snapshot) (found : List (Option Distance)) (v : ℕ) (d : Distance) → NothingFound found
    → IsFound g found v d → ⊥
nothing_there g found v d nothing is = nothing d (In-slice_get (Some d) found is.place is.there)

pub nothing_first : NothingFound []
nothing_first d member = member

pub nothing_more : (found : List (Option Distance)) → NothingFound found → NothingFound (found ++ None ∷ [])
nothing_more found nothing d member = elim (In-parts (Some d) found (None ∷ []) member) [
  | inl before ↦ nothing d before
  | inr last ↦ elim last [
    | inl same ↦ absurd cc
    | inr none ↦ absurd none
  ]
]

-- it is found already
pub put_before : (g : Snapshot) (next : Distance) (v : ℕ) (found : List (Option Distance)) (waiting : List ℕ)
    (d : Distance) → IsFound g found v d → IsPut g next v found waiting found waiting
put_before g next v found waiting d is = record {
  as_many = refl;
  kept = λ w e h. h;
  only = λ w e h. inl h;
  still = λ w h. h;
  new = λ w h. inl h;
  done = (d, is);
}

-- it is found now
pub put_now : (g : Snapshot) (next : Distance) (v place : ℕ) (found after : List (Option Distance))
    (waiting longer : List ℕ) → IsRising (clocks g) → HasClock g.systems v place
    → ((d : Distance) → IsFound g found v d → ⊥) → place < length found → length after ≡ length found
    → after ≡ slice_set found place (Some next) → longer ≡ waiting ++ v ∷ []
    → IsPut g next v found waiting after longer
put_now g next v place found after waiting longer rising has unfound within as_many is more = record {
  as_many = as_many;
  kept = λ w d h. record { place = h.place; has = h.has; there = still w d h };
  only = λ w d h. elim (ℕ_discrete h.place place) [
    | yes same ↦ inr (
      same_Some d next (same_Some (Some d) (Some next)
          (sym h.there ∙ ap (slice_get after) same ∙ now)),
      subst (In w) (sym more)
          (In-right w waiting (v ∷ []) (inl (one_clock g w v place (subst (HasClock g.systems w) same h.has) has))),
    )
    | no other ↦ inl (record {
      place = h.place;
      has = h.has;
      there = sym (elsewhere h.place other) ∙ h.there;
    })
  ];
  still = λ w h. subst (In w) (sym more) (In-left w waiting (v ∷ []) h);
  new = λ w h. elim (In-parts w waiting (v ∷ []) (subst (In w) more h)) [
    | inl before ↦ inl before
    | inr last ↦ elim last [
      | inl same ↦ inr (same, unfound, record { place = place; has = has; there = now })
      | inr none ↦ absurd none
    ]
  ];
  done = (next, record { place = place; has = has; there = now });
}
  where
    at_place : (xs : List (Option Distance)) → place < length xs → (x : Option Distance) × (slice_get xs place ≡ Some x)
    at_place xs less = (get_or xs place None, slice_get-get_or xs place None less)

    now : slice_get after place ≡ Some (Some next)
    now =
        let (x, here) = at_place found within in
        ap (λ (t : List (Option Distance)). slice_get t place) is ∙ get-set_same found place x (Some next) here

    elsewhere : (k : ℕ) → k ≢ place → slice_get after k ≡ slice_get found k
    elsewhere k other =
        ap (λ (t : List (Option Distance)). slice_get t k) is ∙ get-set_other found place k (Some next) other

    still : (w : ℕ) (d : Distance) → (h : IsFound g found w d) → slice_get after h.place ≡ Some (Some d)
    still w d h =
        elsewhere h.place (λ same. unfound d (subst (λ u. IsFound g found u d)
        (one_clock g w v place (subst (HasClock g.systems w) same h.has) has) h)) ∙ h.there

-- ---- by the distances of all

module _ (g : Snapshot) (ds : List Distance) (all : AreDistances g ds) (v place : ℕ)
    (has : HasClock g.systems v place) where
  pub distance_some : (o : Option Distance) → o ≡ slice_get ds place → IfSome o (IsDistanceOf g v)
  distance_some None e = tt
  distance_some (Some d) e =
      subst (λ w. IsDistanceOf g w d) has.is (all.each place has.system d has.there (sym e))

  pub distance_none : (o : Option Distance) → o ≡ slice_get ds place → IfNone o (In v (clocks g) → ⊥)
  distance_none None e =
      λ live. let within = slice_get_within g.systems place has.system has.there in
      let many = all.as_many in
      no_gap ds place (omega arith) (sym e)
    where
      no_gap : (xs : List Distance) (i : ℕ) → i < length xs → slice_get xs i ≡ None → ⊥
      no_gap [] i less none = absurd (omega arith)
      no_gap (x ∷ xs) zero less none = absurd cc
      no_gap (x ∷ xs) (suc i) less none = no_gap xs i (omega arith) none
  distance_none (Some d) e = tt
