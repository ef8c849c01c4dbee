-- Behind an event that changes nothing the same snapshots stand, also where a failed system gets a priority1.
use Rattle.std.proofs.Common.{◌≡◌, ℕ, Bool, true, false, ◌+◌, ◌*◌, ◌%◌, ◌^◌, List, [], ◌∷◌, ◌++◌, map, filter, Some, None, refl, sym, ap, subst, ◌∙◌, inl, inr}
use Rattle.std.specs.Prelude.{◌==◌, if◌then◌else◌}
use Rattle.std.specs.List.Sorted.{IsPermutation}
use Rattle.std.proofs.lemmas.Bool.{eqb-true}
use Rattle.gptp_lists.specs.Members.{In}
use Rattle.gptp_lists.proofs.SystemSpecLemmas.{slice_get-In}
use Rattle.gptp_graph.specs.Snapshot.{Snapshot}
use Rattle.gptp_roles.specs.Selection.{clock_of}
use Rattle.gptp_scenario.specs.Change.{joined_after, link_acted, link_after, live_after, standing, system_acted, system_after, with_priority1}
use Rattle.gptp_scenario.specs.Network.{IsNetwork, NetworkState}
use Rattle.gptp_scenario.specs.declared.change.Act.{Act}
use Rattle.gptp_scenario.specs.declared.change.Act.TheVariants as acts
use Rattle.gptp_scenario.specs.declared.change.Change.TheVariants as changes
use Rattle.gptp_scenario.specs.declared.change.Timed.{Timed}
use Rattle.gptp_scenario.specs.declared.network.LinkSpec.{LinkSpec}
use Rattle.gptp_scenario.specs.declared.network.SystemSpec.{SystemSpec}
use Rattle.gptp_network.specs.Snapshot.{StandsAfter, joins_two, link_of, system_of}
use Rattle.gptp_theorem.proofs.EventLemmas.{link_behind, system_behind}
use Rattle.gptp_settling_time.specs.Gains.{ChangesNothing, KeepsIdentity}
use Rattle.gptp_settling_time.proofs.SamePathsLemmas.{idle_same, map_same}
use Rattle.gptp_how_soon_laws.proofs.RepeatLemmas.{stands_seen}

module _ (n : NetworkState) (network : IsNetwork n) (made : List Timed) (event : Timed)
    (nothing : ChangesNothing n made event.act) (h : Snapshot) (stands : StandsAfter n made h) where
  abbrev after : List Timed
  after = made ++ event ∷ []

  -- a failed system gets a priority1, or one gets what it has
  module _ (number value : ℕ) (is : event.act ≡ acts.Change (changes.Priority1 number value)) where
    kept : KeepsIdentity n made number value
    kept = subst (ChangesNothing n made) is nothing

    gets : (m : SystemSpec) → In m n.systems → clock_of m.identity ≡ number
        → (if (with_priority1 value (system_after made m)).live
        then Some ((with_priority1 value (system_after made m)).identity, m.ports) else None)
        ≡ live_after made m
    gets m member own =
        let (place, there) = slice_get-In m n.systems member in
        let s = system_after made m in
        elim (kept place m there own) [
          | inl failed ↦
              ap (λ live. if live then Some (value * 2 ^ 104 + s.identity % 2 ^ 104, m.ports) else None) failed
              ∙ sym (ap (λ live. if live then Some (s.identity, m.ports) else None) failed)
          | inr same ↦ ap (λ identity. if s.live then Some (identity, m.ports) else None) same
        ]

    system_stays : (m : SystemSpec) → In m n.systems → live_after after m ≡ live_after made m
    system_stays m member =
        ap (λ s. if s.live then Some (s.identity, m.ports) else None)
        (system_behind made event (clock_of m.identity) (standing m)
        ∙ ap (λ act. system_acted act (clock_of m.identity) (system_after made m)) is)
        ∙ by (number == clock_of m.identity) refl
      where
        by : (test : Bool) → (number == clock_of m.identity) ≡ test
            → (if (if test then with_priority1 value (system_after made m) else system_after made m).live
            then Some (
              (if test then with_priority1 value (system_after made m) else system_after made m).identity,
              m.ports,
            )
            else None)
            ≡ live_after made m
        by true own = gets m member (sym (eqb-true number (clock_of m.identity) own))
        by false own = refl

    link_stays : (v : LinkSpec) → joined_after after v ≡ joined_after made v
    link_stays v =
        ap (λ (w : LinkSpec). if w.up then Some (v.a, v.b) else None)
        (link_behind made event v ∙ ap (λ act. link_acted act (link_after made v)) is)

    stands_set : StandsAfter n after h
    stands_set = record {
      systems = subst (λ pairs. IsPermutation (map system_of pairs) h.systems)
          (sym (map_same (live_after after) (live_after made) n.systems system_stays)) stands.systems;
      rising = stands.rising;
      links = stands.links
          ∙ sym (ap (λ xs. filter (joins_two h.systems) (map link_of xs))
          (map_same (joined_after after) (joined_after made) n.links (λ v member. link_stays v)));
    }

  -- or it sets none
  repeated : ((number value : ℕ) → event.act ≡ acts.Change (changes.Priority1 number value) → ⊥)
      → StandsAfter n after h
  repeated other = stands_seen n made after (idle_same n network made event (nothing, other)) h stands

  pub stands_idle : StandsAfter n after h
  stands_idle = by event.act refl
    where
      by : (act : Act) → event.act ≡ act → StandsAfter n after h
      by (acts.Deliver link direction) is = absurd (subst (ChangesNothing n made) is nothing)
      by (acts.Expire number timer) is = absurd (subst (ChangesNothing n made) is nothing)
      by (acts.Change (changes.Priority1 number value)) is = stands_set number value is
      by (acts.Change (changes.LinkDown clock port)) is =
          repeated (λ number value same. let both = sym is ∙ same in absurd cc)
      by (acts.Change (changes.LinkUp clock port)) is =
          repeated (λ number value same. let both = sym is ∙ same in absurd cc)
      by (acts.Change (changes.LinkSet clock port least greatest loss)) is =
          absurd (subst (ChangesNothing n made) is nothing)
      by (acts.Change (changes.Fail clock)) is =
          repeated (λ number value same. let both = sym is ∙ same in absurd cc)
      by (acts.Change (changes.Recover clock)) is =
          repeated (λ number value same. let both = sym is ∙ same in absurd cc)
      by (acts.Change (changes.Inject clock port octets)) is =
          repeated (λ number value same. let both = sym is ∙ same in absurd cc)
