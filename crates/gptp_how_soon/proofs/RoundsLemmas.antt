-- After so many rounds each system has the best that so few links lead to.
use Rattle.std.proofs.Common.{◌≡◌, ◌⊎◌, ◌<◌, ◌≤◌, ◌+◌, ◌-◌, ◌++◌, ◌==◌, ◌&&◌, ℕ, zero, suc, Bool, true, false, List, [], ◌∷◌, append_assoc, drop, get_or, length, map, nat_lt, Option, Some, None, slice_get, slice_set, refl, sym, ap, ap₂, subst, ◌∙◌, inl, inr, arith}
use native.Mathlib.Decide.{dec_lt}
use Rattle.std.specs.Bool.{Decides}
use Rattle.std.specs.Cmp.Lexicographic.{pointwise}
use Rattle.std.specs.List.{AllByRecursion}
use Rattle.std.proofs.lemmas.Bool.{and_parts, eq-eqb, eqb-true, or_cases, or_parts}
use Rattle.std.proofs.lemmas.Bool.Decides.{nat_tests}
use Rattle.std.proofs.lemmas.Option.{slice_get-get_or}
use Rattle.std.proofs.lemmas.Slice.Eq.{slice_eq-Decides}
use Rattle.gptp_lists.specs.Members.{In}
use Rattle.gptp_lists.proofs.MappedLemmas.{same_there, some_same}
use Rattle.gptp_lists.proofs.PlaceLemmas.{get-set_other, get-set_same, same_place}
use Rattle.gptp_topology.specs.declared.nodes.System.{System}
use Rattle.gptp_how_soon.specs.Chosen.{better, ends_in_use, farther, hearing, is_better, itself, passing, passing_all, round, rounds, taking, used_one}
use Rattle.gptp_how_soon.specs.Links.{is_used_at, is_used_by}
use Rattle.gptp_how_soon.specs.declared.chosen.Chosen.{Chosen}
use Rattle.gptp_how_soon.specs.declared.chosen.Ends.{Ends}
use Rattle.gptp_how_soon.proofs.LinksLemmas.{drop_at, gone_at}

-- ---- the better of two

-- one is no worse than another that is so many steps farther
abbrev pub IsWithin : ℕ → Chosen → Chosen → Type 0
IsWithin more c d = (c.root < d.root) ⊎ ((c.root ≡ d.root) × (c.steps ≤ more + d.steps))

within_itself : (c : Chosen) → IsWithin 0 c c
within_itself c = inr (refl, omega arith)

within_both : (k l : ℕ) (a b c : Chosen) → IsWithin k a b → IsWithin l b c → IsWithin (k + l) a c
within_both k l a b c (inl x) (inl y) = inl (omega (arith, x, y))
within_both k l a b c (inl x) (inr (e, y)) = inl (omega (arith, x, e))
within_both k l a b c (inr (e, x)) (inl y) = inl (omega (arith, e, y))
within_both k l a b c (inr (e, x)) (inr (f, y)) = inr (e ∙ f, omega (arith, x, y))

-- one more step
within_farther : (k : ℕ) (c d : Chosen) → IsWithin k c (farther d) → IsWithin (suc k) c d
within_farther k c d (inl x) = inl x
within_farther k c d (inr (e, x)) = inr (e, omega (arith, x))

record IsBetterOf (one other c : Chosen) : Type 0 where
  first : IsWithin 0 c one
  second : IsWithin 0 c other
  either : (c ≡ one) ⊎ (c ≡ other)

better_of : (one other : Chosen) → IsBetterOf one other (better one other)
better_of one other = by (is_better one other) refl
  where
    lower : (is_better one other ≡ true) → IsWithin 0 one other
    lower is =
        let nearer = (one.root == other.root) && nat_lt one.steps other.steps in
        elim (or_cases (nat_lt one.root other.root) nearer is) [
          | inl less ↦ inl (grind (arith, nat_tests))
          | inr both ↦
              let (same, fewer) = and_parts (one.root == other.root) (nat_lt one.steps other.steps) both in
              let steps : one.steps < other.steps = grind (arith, nat_tests) in
              inr (eqb-true one.root other.root same, omega (arith, steps))
        ]

    no_better : (is_better one other ≡ false) → IsWithin 0 other one
    no_better is =
        let (not_less, neither) =
        or_parts (nat_lt one.root other.root) ((one.root == other.root) && nat_lt one.steps other.steps) is in
        let least : other.root ≤ one.root = grind (arith, nat_tests) in
        elim (dec_lt other.root one.root) [
          | yes less ↦ inl less
          | no not_lower ↦
              let same : one.root ≡ other.root = omega (arith, least, not_lower) in
              let none : nat_lt one.steps other.steps ≡ false =
              ap (λ b. b && nat_lt one.steps other.steps) (sym (eq-eqb one.root other.root same)) ∙ neither in
              let nearer : other.steps ≤ one.steps = grind (arith, nat_tests) in
              inr (sym same, omega (arith, nearer))
        ]

    by : (test : Bool) → is_better one other ≡ test → IsBetterOf one other (better one other)
    by true is = rw is (record { first = within_itself one; second = lower is; either = inl refl })
    by false is = rw is (record { first = no_better is; second = within_itself other; either = inr refl })

-- ---- one hears of another

abbrev pub Has : List Chosen → ℕ → Type 0
Has cs i = (c : Chosen) × (slice_get cs i ≡ Some c)

record Hears (heard : Option Chosen) (place : ℕ) (cs ds : List Chosen) : Type 0 where
  there : (i : ℕ) → Has cs i → Has ds i
  back : (i : ℕ) (d : Chosen) → slice_get ds i ≡ Some d
      → (c : Chosen) × (slice_get cs i ≡ Some c) × IsWithin 0 d c
  from : (i : ℕ) (d : Chosen) → slice_get ds i ≡ Some d
      → (slice_get cs i ≡ Some d) ⊎ ((i ≡ place) × ((h : Chosen) × (heard ≡ Some h) × (d ≡ farther h)))
  met : (h d : Chosen) → heard ≡ Some h → slice_get ds place ≡ Some d → IsWithin 0 d (farther h)

-- nothing changes
unheard : (heard : Option Chosen) (place : ℕ) (cs : List Chosen)
    → ((h d : Chosen) → heard ≡ Some h → slice_get cs place ≡ Some d → ⊥)
    → Hears heard place cs cs
unheard heard place cs none = record {
  there = λ i has. has;
  back = λ i d at. (d, at, within_itself d);
  from = λ i d at. inl at;
  met = λ h d is at. absurd (none h d is at);
}

module _ (h own : Chosen) (place : ℕ) (cs : List Chosen) (at_place : slice_get cs place ≡ Some own) where
  abbrev new : Chosen
  new = better (farther h) own

  abbrev after : List Chosen
  after = slice_set cs place new

  now : slice_get after place ≡ Some new
  now = get-set_same cs place own new at_place

  is_new : (d : Chosen) → slice_get after place ≡ Some d → new ≡ d
  is_new d at = some_same new d (sym now ∙ at)

  taken : Hears (Some h) place cs after
  taken = record {
    there = λ i has. elim (same_place i place) [
      | inl same ↦ (new, ap (slice_get after) same ∙ now)
      | inr apart ↦ (has.0, get-set_other cs place i new apart ∙ has.1)
    ];
    back = λ i d at. elim (same_place i place) [
      | inl same ↦ (
        own,
        ap (slice_get cs) same ∙ at_place,
        subst (λ c. IsWithin 0 c own) (is_new d (ap (slice_get after) (sym same) ∙ at))
            (better_of (farther h) own).second,
      )
      | inr apart ↦ (d, sym (get-set_other cs place i new apart) ∙ at, within_itself d)
    ];
    from = λ i d at. elim (same_place i place) [
      | inl same ↦
          let is = is_new d (ap (slice_get after) (sym same) ∙ at) in
          elim (better_of (farther h) own).either [
            | inl heard ↦ inr (same, (h, refl, sym is ∙ heard))
            | inr kept ↦ inl (ap (slice_get cs) same ∙ at_place ∙ ap Some (sym kept ∙ is))
          ]
      | inr apart ↦ inl (sym (get-set_other cs place i new apart) ∙ at)
    ];
    met = λ k d is at.
        subst (λ c. IsWithin 0 d (farther c)) (some_same h k is)
        (subst (λ c. IsWithin 0 c (farther h)) (is_new d at) (better_of (farther h) own).first);
  }

hears : (heard : Option Chosen) (place : ℕ) (cs : List Chosen) → Hears heard place cs (hearing heard place cs)
hears None place cs = unheard None place cs (λ h d is at. absurd cc)
hears (Some h) place cs = by (slice_get cs place) refl
  where
    by : (o : Option Chosen) → slice_get cs place ≡ o → Hears (Some h) place cs (taking h place cs o)
    by None is = unheard (Some h) place cs (λ k d same at. let no = sym is ∙ at in absurd cc)
    by (Some own) is = taken h own place cs is

-- ---- over links

-- a link joins the two places
abbrev pub Touches : List Ends → ℕ → ℕ → Type 0
Touches links i j = In (record { a = i; b = j }) links ⊎ In (record { a = j; b = i }) links

record Passes (before cs : List Chosen) (links : List Ends) (ds : List Chosen) : Type 0 where
  there : (i : ℕ) → Has cs i → Has ds i
  back : (i : ℕ) (d : Chosen) → slice_get ds i ≡ Some d
      → (c : Chosen) × (slice_get cs i ≡ Some c) × IsWithin 0 d c
  from : (i : ℕ) (d : Chosen) → slice_get ds i ≡ Some d
      → (slice_get cs i ≡ Some d)
      ⊎ ((j : ℕ) × Touches links i j × ((h : Chosen) × (slice_get before j ≡ Some h) × (d ≡ farther h)))
  met : (i j : ℕ) (h d : Chosen) → Touches links i j → slice_get before j ≡ Some h → slice_get ds i ≡ Some d
      → IsWithin 0 d (farther h)

touches_more : (e : Ends) (links : List Ends) (i j : ℕ) → Touches links i j → Touches (e ∷ links) i j
touches_more e links i j (inl along) = inl (inr along)
touches_more e links i j (inr along) = inr (inr along)

-- over one link, and then over the others
module _ (before cs : List Chosen) (e : Ends) (links : List Ends) where
  abbrev one : List Chosen
  one = hearing (slice_get before e.a) e.b cs

  abbrev two : List Chosen
  two = passing before cs e

  abbrev last : List Chosen
  last = passing_all before two links

  first : Hears (slice_get before e.a) e.b cs one
  first = hears (slice_get before e.a) e.b cs

  second : Hears (slice_get before e.b) e.a one two
  second = hears (slice_get before e.b) e.a one

  module _ (rest : Passes before two links last) where
    -- at the ends of the link
    at_a : (h d : Chosen) → slice_get before e.b ≡ Some h → slice_get last e.a ≡ Some d → IsWithin 0 d (farther h)
    at_a h d is at =
        let (c, at_c, within) = rest.back e.a d at in
        within_both 0 0 d c (farther h) within (second.met h c is at_c)

    at_b : (h d : Chosen) → slice_get before e.a ≡ Some h → slice_get last e.b ≡ Some d → IsWithin 0 d (farther h)
    at_b h d is at =
        let (c, at_c, within) = rest.back e.b d at in
        let (b, here, b_within) = second.back e.b c at_c in
        within_both 0 0 d b (farther h) (within_both 0 0 d c b within b_within) (first.met h b is here)

    reached : (i j : ℕ) (h d : Chosen) → Touches (e ∷ links) i j → slice_get before j ≡ Some h
        → slice_get last i ≡ Some d → IsWithin 0 d (farther h)
    reached i j h d (inl (inl same)) is at =
        at_a h d (ap (λ (x : Ends). slice_get before x.b) (sym same) ∙ is)
        (ap (λ (x : Ends). slice_get last x.a) (sym same) ∙ at)
    reached i j h d (inr (inl same)) is at =
        at_b h d (ap (λ (x : Ends). slice_get before x.a) (sym same) ∙ is)
        (ap (λ (x : Ends). slice_get last x.b) (sym same) ∙ at)
    reached i j h d (inl (inr along)) is at = rest.met i j h d (inl along) is at
    reached i j h d (inr (inr along)) is at = rest.met i j h d (inr along) is at

    back_so : (i : ℕ) (d : Chosen) → slice_get last i ≡ Some d
        → (c : Chosen) × (slice_get cs i ≡ Some c) × IsWithin 0 d c
    back_so i d at =
        let (c, at_c, c_within) = rest.back i d at in
        let (b, here, b_within) = second.back i c at_c in
        let (a, there, a_within) = first.back i b here in
        (a, there, within_both 0 0 d b a (within_both 0 0 d c b c_within b_within) a_within)

    from_so : (i : ℕ) (d : Chosen) → slice_get last i ≡ Some d
        → (slice_get cs i ≡ Some d)
        ⊎ ((j : ℕ) × Touches (e ∷ links) i j × ((h : Chosen) × (slice_get before j ≡ Some h) × (d ≡ farther h)))
    from_so i d at = elim (rest.from i d at) [
      | inl kept ↦ elim (second.from i d kept) [
        | inl still ↦ elim (first.from i d still) [
          | inl was ↦ inl was
          | inr (same, heard) ↦ inr (e.a, inr (inl (ap (λ k. record { a = e.a; b = k }) same)), heard)
        ]
        | inr (same, heard) ↦ inr (e.b, inl (inl (ap (λ k. record { a = k; b = e.b }) same)), heard)
      ]
      | inr (j, touches, heard) ↦ inr (j, touches_more e links i j touches, heard)
    ]

    passes_more : Passes before cs (e ∷ links) last
    passes_more = record {
      there = λ i has. rest.there i (second.there i (first.there i has));
      back = back_so;
      from = from_so;
      met = reached;
    }

passes : (before cs : List Chosen) (links : List Ends) → Passes before cs links (passing_all before cs links)
passes before cs [] = record {
  there = λ i has. has;
  back = λ i d at. (d, at, within_itself d);
  from = λ i d at. inl at;
  met = λ i j h d touches is at. elim touches [ inl none ↦ absurd none | inr none ↦ absurd none ];
}
passes before cs (e ∷ links) = passes_more before cs e links (passes before (passing before cs e) links)

-- ---- rounds

-- so many links, one after another, lead from the one place to the other
abbrev pub Leads : List Ends → ℕ → ℕ → ℕ → Type 0
Leads links i j zero = i ≡ j
Leads links i j (suc count) = (m : ℕ) × Leads links i m count × Touches links m j

-- what is chosen came over so many links as it has steps more, and is no worse than what so few lead to
pub record Settles (links : List Ends) (count : ℕ) (cs ds : List Chosen) : Type 0 where
  pub there : (i : ℕ) → Has cs i → Has ds i
  pub came : (i : ℕ) (d : Chosen) → slice_get ds i ≡ Some d
      → (j far : ℕ) × ((c : Chosen) × Leads links i j far × (slice_get cs j ≡ Some c) × (d.root ≡ c.root)
      × (d.steps ≡ far + c.steps))
  pub least : (far i j : ℕ) (c d : Chosen) → far ≤ count → Leads links i j far → slice_get cs j ≡ Some c
      → slice_get ds i ≡ Some d → IsWithin far d c

abbrev pub AreInside : List Ends → List Chosen → Type 0
AreInside links cs = (i j : ℕ) → Touches links i j → Has cs i

settles_none : (links : List Ends) (cs : List Chosen) → Settles links 0 cs cs
settles_none links cs = record {
  there = λ i has. has;
  came = λ i d at. (i, 0, (d, refl, at, refl, omega arith));
  least = none;
}
  where
    none : (far i j : ℕ) (c d : Chosen) → far ≤ 0 → Leads links i j far → slice_get cs j ≡ Some c
        → slice_get cs i ≡ Some d → IsWithin far d c
    none zero i j c d few same at_c at_d =
        subst (λ x. IsWithin 0 x c) (same_there cs i c d (ap (slice_get cs) same ∙ at_c) at_d) (within_itself c)
    none (suc far) i j c d few leads at_c at_d = absurd (omega (arith, few))

-- one round more comes first
module _ (links : List Ends) (count : ℕ) (cs : List Chosen) (inside : AreInside links cs) (ds : List Chosen)
    (rest : Settles links count (round links cs) ds) where
  abbrev next : List Chosen
  next = round links cs

  round_passes : Passes cs cs links next
  round_passes = passes cs cs links

  came_so : (i : ℕ) (d : Chosen) → slice_get ds i ≡ Some d
      → (j far : ℕ) × ((c : Chosen) × Leads links i j far × (slice_get cs j ≡ Some c) × (d.root ≡ c.root)
      × (d.steps ≡ far + c.steps))
  came_so i d at =
      let (m, far, (b, leads, at_b, root, steps)) = rest.came i d at in
      elim (round_passes.from m b at_b) [
        | inl was ↦ (m, far, (b, leads, was, root, steps))
        | inr (j, touches, (h, at_h, is)) ↦
            let more : b.steps ≡ suc h.steps = ap (λ (x : Chosen). x.steps) is in (
              j,
              suc far,
              (
                h,
                (m, leads, touches),
                at_h,
                root ∙ ap (λ (x : Chosen). x.root) is,
                omega (arith, steps, more),
              ),
            )
      ]

  least_so : (far i j : ℕ) (c d : Chosen) → far ≤ suc count → Leads links i j far → slice_get cs j ≡ Some c
      → slice_get ds i ≡ Some d → IsWithin far d c
  least_so zero i j c d few same at_c at_d =
      let (b, at_b) = round_passes.there j (c, at_c) in
      let (a, at_a, within) = round_passes.back j b at_b in
      let is : a ≡ c = same_there cs j a c at_a at_c in
      within_both 0 0 d b c (rest.least 0 i j b d (omega arith) same at_b at_d) (subst (IsWithin 0 b) is within)
  least_so (suc far) i j c d few (m, leads, touches) at_c at_d =
      let (b, at_b) = round_passes.there m (inside m j touches) in
      let far_b : IsWithin far d b = rest.least far i m b d (omega (arith, few)) leads at_b at_d in
      let near : IsWithin 0 b (farther c) = round_passes.met m j c b touches at_c at_b in
      let as_far : far + 0 ≡ far = omega arith in
      within_farther far d c
      (subst (λ k. IsWithin k d (farther c)) as_far (within_both far 0 d b (farther c) far_b near))

  settles_more : Settles links (suc count) cs ds
  settles_more = record {
    there = λ i has. rest.there i (round_passes.there i has);
    came = came_so;
    least = least_so;
  }

pub settles : (links : List Ends) (count : ℕ) (cs : List Chosen) → AreInside links cs
    → Settles links count cs (rounds links count cs)
settles links zero cs inside = settles_none links cs
settles links (suc count) cs inside =
    settles_more links count cs inside (rounds links count (round links cs))
    (settles links count (round links cs) (λ i j touches. (passes cs cs links).there i (inside i j touches)))

-- ---- one round after another

-- choices that are equal one by one are the same
one_choice : (a b : Chosen) → Decides ((a.root == b.root) && (a.steps == b.steps)) (a ≡ b)
one_choice a b = (
  λ is.
      let (root, steps) = and_parts (a.root == b.root) (a.steps == b.steps) is in
      λ i. record { root = eqb-true a.root b.root root i; steps = eqb-true a.steps b.steps steps i },
  λ same. ap₂ (λ x y. x && y) (eq-eqb a.root b.root (ap (λ (c : Chosen). c.root) same))
      (eq-eqb a.steps b.steps (ap (λ (c : Chosen). c.steps) same)),
)

pub same_choices : (cs ds : List Chosen) (equal : Bool)
    → equal ≡ pointwise (λ (a b : Chosen). (a.root == b.root) && (a.steps == b.steps)) cs ds → equal ≡ true → cs ≡ ds
same_choices cs ds equal is = (slice_eq-Decides one_choice cs ds equal is).0

-- where a round changes nothing, no more of them do
pub stays_still : (links : List Ends) (count : ℕ) (cs : List Chosen) → round links cs ≡ cs → rounds links count cs ≡ cs
stays_still links zero cs same = refl
stays_still links (suc count) cs same = ap (rounds links count) same ∙ stays_still links count cs same

-- the first of those that are left is made
pub one_round : (links : List Ends) (all made : ℕ) (cs : List Chosen) → made < all
    → rounds links (all - made) cs ≡ rounds links (all - (made + 1)) (round links cs)
one_round links all made cs less =
    let more : all - made ≡ suc (all - (made + 1)) = omega (arith, less) in ap (λ k. rounds links k cs) more

-- what holds at each place holds of all, and back
all_there : (P : Chosen → Type 0) (cs : List Chosen) → ((i : ℕ) (c : Chosen) → slice_get cs i ≡ Some c → P c)
    → AllByRecursion P cs
all_there P [] each = tt
all_there P (c ∷ cs) each = (each 0 c refl, all_there P cs (λ i d at. each (suc i) d at))

there_all : (P : Chosen → Type 0) (cs : List Chosen) → AllByRecursion P cs → (i : ℕ) (c : Chosen)
    → slice_get cs i ≡ Some c → P c
there_all P [] all i c at = absurd cc
there_all P (d ∷ cs) all zero c at = subst P (some_same d c at) all.0
there_all P (d ∷ cs) all (suc i) c at = there_all P cs all.1 i c at

-- so many steps at most are one more after a round
abbrev pub AreWithin : ℕ → List Chosen → Type 0
AreWithin most = AllByRecursion (λ (c : Chosen). c.steps ≤ most)

pub steps_more : (links : List Ends) (most : ℕ) (cs : List Chosen) → AreWithin most cs
    → AreWithin (most + 1) (round links cs)
steps_more links most cs within =
    all_there (λ c. c.steps ≤ most + 1) (round links cs) (λ i d at.
    elim ((passes cs cs links).from i d at) [
      | inl was ↦ let few = there_all (λ c. c.steps ≤ most) cs within i d was in omega (arith, few)
      | inr (j, touches, (h, at_h, is)) ↦
          let few = there_all (λ c. c.steps ≤ most) cs within j h at_h in
          let more : d.steps ≡ suc h.steps = ap (λ (x : Chosen). x.steps) is in
          omega (arith, few, more)
    ])

pub steps_fit : (most limit : ℕ) (cs : List Chosen) → most < limit → AreWithin most cs
    → AllByRecursion (λ (c : Chosen). c.steps < limit) cs
steps_fit most limit cs less within =
    all_there (λ c. c.steps < limit) cs (λ i c at.
    let few = there_all (λ x. x.steps ≤ most) cs within i c at in omega (arith, few, less))

-- at first nobody is away
pub none_away : (systems : List System) → AreWithin 0 (map itself systems)
none_away [] = tt
none_away (o ∷ systems) = (omega arith, none_away systems)

-- ---- links in use

-- one link more is looked at
used_more : (es : List Ends) (us : List Bool) (place : ℕ) (e : Ends) → slice_get es place ≡ Some e
    → used_one e (is_used_at us place) ++ ends_in_use (drop (place + 1) es) (drop (place + 1) us)
    ≡ ends_in_use (drop place es) (drop place us)
used_more es us place e there = by (slice_get us place) refl
  where
    by : (o : Option Bool) → slice_get us place ≡ o
        → used_one e (is_used_by o) ++ ends_in_use (drop (place + 1) es) (drop (place + 1) us)
        ≡ ends_in_use (drop place es) (drop place us)
    by (Some u) is = sym (ap₂ ends_in_use (drop_at es place e there) (drop_at us place u is))
    by None is =
        let (here, behind) = gone_at us place is in
        ap (ends_in_use (drop (place + 1) es)) behind
        ∙ sym (ap₂ ends_in_use (drop_at es place e there) here)

-- so they are with those before
pub used_so_far : (es : List Ends) (us : List Bool) (place : ℕ) (d : Ends) (used : Bool) (links after all : List Ends)
    → place < length es → used ≡ is_used_at us place → after ≡ links ++ used_one (get_or es place d) used
    → links ++ ends_in_use (drop place es) (drop place us) ≡ all
    → after ++ ends_in_use (drop (place + 1) es) (drop (place + 1) us) ≡ all
used_so_far es us place d used links after all less is pushed so =
    let e = get_or es place d in
    let rest = ends_in_use (drop (place + 1) es) (drop (place + 1) us) in
    ap (λ ls. ls ++ rest) pushed
    ∙ ap (λ u. (links ++ used_one e u) ++ rest) is
    ∙ append_assoc links (used_one e (is_used_at us place)) rest
    ∙ ap (λ ls. links ++ ls) (used_more es us place e (slice_get-get_or es place d less))
    ∙ so
