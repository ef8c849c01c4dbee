-- The clocks that none of the links names, sorted, are those of the systems that no link of the network names.
use Rattle.std.proofs.Common.{◌≡◌, ◌≤◌, ◌<◌, ◌==◌, ◌+◌, ◌++◌, ◌∷◌, ℕ, zero, suc, Bool, true, false, not, List, [], filter, length, map, take, Some, slice_get, refl, sym, ap, subst, ◌∙◌, inl, inr, arith}
use Rattle.std.specs.List.Sorted.{IsPermutation, IsSorted}
use Rattle.std.specs.Ordering.{nat_cmp}
use Rattle.std.proofs.lemmas.Bool.{eq-eqb, eqb-true, not-true, not_from_false, or_cases, or_left, or_right}
use Rattle.std.proofs.lemmas.List.{map-append}
use Rattle.std.proofs.lemmas.List.Elements.{filter-append}
use Rattle.std.proofs.lemmas.List.Sorted.{IsPermutation-sym}
use Rattle.gptp_lists.specs.Members.{Different, In}
use Rattle.gptp_lists.proofs.MappedLemmas.{taken}
use Rattle.gptp_lists.proofs.SystemSpecLemmas.{In-map, from_map, slice_get-In}
use Rattle.gptp_roles.specs.Selection.{clock_of}
use Rattle.gptp_scenario.specs.Network.{IsNetwork, NetworkState}
use Rattle.gptp_scenario.specs.declared.network.SystemSpec.{SystemSpec}
use Rattle.gptp_network.proofs.PassLemmas.{kept, passes, passes_at}
use Rattle.gptp_network.proofs.SnapshotLemmas.{In-permutation, from_filter}
use Rattle.gptp_topology.specs.Course.{cable_of, is_cable_end}
use Rattle.gptp_topology.specs.Tables.{clocks_of}
use Rattle.gptp_topology.specs.declared.course.Cable.{Cable}
use Rattle.gptp_lint.specs.Unlinked.{AreUnlinked, LinksName, IsUnlinked, is_linked, unlinked_in}
use Rattle.gptp_lint.proofs.SortedLemmas.{Different-filter, sorted_rising}

abbrev pub own_clock : SystemSpec → ℕ
own_clock m = clock_of m.identity

-- ---- one system more

pub unlinked_more : (cables : List Cable) (ms : List SystemSpec) (place : ℕ) (m : SystemSpec)
    → slice_get ms place ≡ Some m
    → unlinked_in cables (map own_clock (take place ms)) ++ unlinked_in cables (own_clock m ∷ [])
    ≡ unlinked_in cables (map own_clock (take (place + 1) ms))
unlinked_more cables ms place m there =
    sym (filter-append (λ clock. not (is_linked cables clock)) (map own_clock (take place ms)) (own_clock m ∷ []))
    ∙ ap (unlinked_in cables)
    (sym (map-append own_clock (take place ms) (m ∷ [])) ∙ ap (map own_clock) (sym (taken ms place m there)))

-- ---- which are named

linked_to : (n : NetworkState) (clock : ℕ) → is_linked (map cable_of n.links) clock ≡ true → LinksName n clock
linked_to n clock is =
    let (cable, member, ends) = passes (λ (c : Cable). is_cable_end c clock) (map cable_of n.links) is in
    let (w, among, same) = from_map cable_of cable n.links member in (
      w,
      among,
      elim (or_cases (clock == cable.a.clock) (clock == cable.b.clock) ends) [
        | inl at ↦ inl (ap (λ (c : Cable). c.a.clock) same ∙ sym (eqb-true clock cable.a.clock at))
        | inr at ↦ inr (ap (λ (c : Cable). c.b.clock) same ∙ sym (eqb-true clock cable.b.clock at))
      ],
    )

linked_from : (n : NetworkState) (clock : ℕ) → LinksName n clock → is_linked (map cable_of n.links) clock ≡ true
linked_from n clock (w, among, at) =
    passes_at (λ (c : Cable). is_cable_end c clock) (map cable_of n.links) (cable_of w)
    (In-map cable_of w n.links among)
    (elim at [
      | inl a ↦ or_left (clock == w.a.clock) (clock == w.b.clock) (eq-eqb clock w.a.clock (sym a))
      | inr b ↦ or_right (clock == w.a.clock) (clock == w.b.clock) (eq-eqb clock w.b.clock (sym b))
    ])

-- ---- clocks differ

abbrev OneClockEach : List SystemSpec → Type 0
OneClockEach ms = (i j : ℕ) (l m : SystemSpec) → slice_get ms i ≡ Some l → slice_get ms j ≡ Some m
    → clock_of l.identity ≡ clock_of m.identity → i ≡ j

pub clocks_differ : (ms : List SystemSpec) → OneClockEach ms → Different (map own_clock ms)
clocks_differ [] once = tt
clocks_differ (m ∷ ms) once = (first, clocks_differ ms behind)
  where
    first : In (own_clock m) (map own_clock ms) → ⊥
    first member =
        let (l, at, same) = from_map own_clock (own_clock m) ms member in
        let (place, there) = slice_get-In l ms at in
        let none : zero ≡ suc place = once zero (suc place) m l refl there (sym same) in
        absurd (omega arith)

    behind : OneClockEach ms
    behind = λ i j l k at there same.
        let e : suc i ≡ suc j = once (suc i) (suc j) l k at there same in omega arith

-- ---- all systems

abbrev is_free : NetworkState → ℕ → Bool
is_free n clock = not (is_linked (map cable_of n.links) clock)

module _ (n : NetworkState) (network : IsNetwork n) where
  pub few_unlinked : length n.systems < 2 → (clocks : List ℕ) → clocks ≡ [] → AreUnlinked n clocks
  few_unlinked few clocks none = subst (AreUnlinked n) (sym none) (record {
    rising = tt;
    are = λ clock. (
      λ member. absurd member,
      λ unlinked. let several = unlinked.several in absurd (omega (arith, few, several)),
    );
  })

  pub are_unlinked : 2 ≤ length n.systems → (cables : List Cable) → cables ≡ map cable_of n.links
      → (before after : List ℕ) → before ≡ unlinked_in cables (clocks_of n) → IsPermutation before after
      → IsSorted nat_cmp after → AreUnlinked n after
  are_unlinked several cables are before after is moved sorted = record {
    rising = sorted_rising before after different moved sorted;
    are = λ clock. (to clock, from clock);
  }
    where
      left : before ≡ filter (is_free n) (clocks_of n)
      left = is ∙ ap (λ cs. unlinked_in cs (clocks_of n)) are

      different : Different before
      different = subst Different (sym left)
          (Different-filter (is_free n) (clocks_of n) (clocks_differ n.systems network.clocks))

      to : (clock : ℕ) → In clock after → IsUnlinked n clock
      to clock member =
          let (system, free) = from_filter (is_free n) clock (clocks_of n)
          (subst (In clock) left
          (In-permutation clock after before (IsPermutation-sym before after moved) member)) in
          record {
            system = system;
            alone = λ linked.
                let no = not-true (is_linked (map cable_of n.links) clock) free in
                let yes = linked_from n clock linked in
                absurd cc;
            several = several;
          }

      free_of : (clock : ℕ) → (LinksName n clock → ⊥) → (test : Bool)
          → is_linked (map cable_of n.links) clock ≡ test → test ≡ false
      free_of clock alone true linked = absurd (alone (linked_to n clock linked))
      free_of clock alone false free = refl

      from : (clock : ℕ) → IsUnlinked n clock → In clock after
      from clock unlinked =
          In-permutation clock before after moved
          (subst (In clock) (sym left)
          (kept (is_free n) clock (clocks_of n) unlinked.system
          (not_from_false (is_linked (map cable_of n.links) clock)
          (free_of clock unlinked.alone (is_linked (map cable_of n.links) clock) refl))))
