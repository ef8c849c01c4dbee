-- A loss that leaves each live system alone, which was at one link at most, does so from one snapshot to the other.
use Rattle.std.proofs.Common.{◌≡◌, ◌≤◌, ◌⊎◌, inl, inr, ℕ, suc, Bool, true, false, List, [], ◌∷◌, ◌++◌, append-nil, length, slice_get, refl, sym, ap, ◌∙◌, arith}
use Rattle.std.specs.Prelude.{◌==◌, ◌||◌, nat_le, not}
use Rattle.std.specs.List.{count_by, list_all, range_with_len}
use Rattle.std.proofs.lemmas.Bool.{and_parts, eq-eqb, eqb-true, or_cases}
use Rattle.std.proofs.lemmas.Bool.Decides.{nat_tests}
use Rattle.gptp_lists.specs.Members.{In}
use Rattle.gptp_lists.proofs.MappedLemmas.{mapped_there}
use Rattle.gptp_lists.proofs.SystemSpecLemmas.{In-map, from_map}
use Rattle.gptp_graph.specs.Snapshot.{IsWellFormed, Joins, PortIdentity, Snapshot, System, clocks, port_of}
use Rattle.gptp_graph.proofs.LinkLemmas.{Joins-clock, Joins-sym}
use Rattle.gptp_network.specs.Snapshot.{StandsAfter, link_of}
use Rattle.gptp_scenario.specs.Network.{IsNetwork, NetworkState}
use Rattle.gptp_scenario.specs.declared.change.Timed.{Timed}
use Rattle.gptp_scenario.specs.declared.network.LinkSpec.{LinkSpec}
use Rattle.gptp_topology.specs.After.{system_then, systems_after}
use Rattle.gptp_topology.specs.declared.nodes.System as ours
use Rattle.gptp_how_soon.specs.Alone.{has_one_at_most, leaves_alone_after}
use Rattle.gptp_how_soon.specs.Chosen.{ends_at, ends_of, used_ends}
use Rattle.gptp_how_soon.specs.Silent.{is_live}
use Rattle.gptp_how_soon.specs.declared.chosen.Ends.{Ends}
use Rattle.gptp_how_soon.proofs.ChosenLemmas.{IsAt, at_clock}
use Rattle.gptp_settling_time.specs.TreeLosses.{LeavesAlone, LeavesAloneFrom}
use Rattle.gptp_how_soon_laws.proofs.FailedLemmas.{each_is}
use Rattle.gptp_how_soon_laws.proofs.LostLinkLemmas.{IsJoinedBy, joined_by, same_port, used_links}
use Rattle.gptp_how_soon_laws.proofs.TreeTestLemmas.{one_same}
use Rattle.gptp_how_soon_laws.proofs.UnmovedLemmas.{AreWell, asked_of}
use Rattle.gptp_how_soon_laws.proofs.WorseningLemmas.{lives_of}

none_listed : (es : List Ends) (e : Ends) → length es ≡ 0 → In e es → ⊥
none_listed [] e none member = member
none_listed (f ∷ es) e none member = let no : suc (length es) ≡ 0 = none in omega (arith, no)

-- a link between two places ends at the first
ends_first : (i j : ℕ) (e : Ends) → (e ≡ record { a = i; b = j }) ⊎ (e ≡ record { a = j; b = i })
    → ends_at i e ≡ true
ends_first i j e (inl same) = ap (ends_at i) same ∙ ap (λ b. b || (j == i)) (eq-eqb i i refl)
ends_first i j e (inr same) =
    ap (ends_at i) same ∙ ap (λ b. (j == i) || b) (eq-eqb i i refl) ∙ or_true (j == i)
  where
    or_true : (b : Bool) → (b || true) ≡ true
    or_true true = refl
    or_true false = refl

module _ (n : NetworkState) (network : IsNetwork n) (made events : List Timed)
    (test : leaves_alone_after n made events ≡ true) (g h : Snapshot) (stands : StandsAfter n made g)
    (stands' : StandsAfter n events h) (well : IsWellFormed g) (well' : IsWellFormed h) where
  abbrev systems : List ours.System
  systems = systems_after n events

  abbrev one_test : Bool
  one_test = list_all (has_one_at_most systems (used_ends n made)) (range_with_len 0 (length systems))

  both : (length (used_ends n events) ≡ 0) × (one_test ≡ true)
  both =
      let (none, one) = and_parts (length (used_ends n events) == 0) one_test test in
      (eqb-true (length (used_ends n events)) 0 none, one)

  -- ---- no link is left

  none : (from to : PortIdentity) → Joins h from to → ⊥
  none from to joins =
      let (i, at) = at_clock n network events h stands' well' from.clock (Joins-clock h from to well' joins) in
      let (j, at') =
      at_clock n network events h stands' well' to.clock (Joins-clock h to from well' (Joins-sym h from to joins)) in
      let x = joined_by n network made g stands well events h stands' well' i j from to at at' joins in
      none_listed (used_ends n events) (ends_of n x.wire) both.0
      (In-map (ends_of n) x.wire (used_links n events) x.among)

  -- ---- each that lives was at one link at most

  module _ (v i : ℕ) (at : IsAt n i v) (known : In v (clocks h)) where
    most : count_by (ends_at i) (used_ends n made) ≤ 1
    most =
        elim (or_cases (not (is_live (slice_get systems i))) (nat_le (count_by (ends_at i) (used_ends n made)) 1)
        (each_is (has_one_at_most systems (used_ends n made)) (range_with_len 0 (length systems)) i both.1
        (asked_of n events i at.system at.there))) [
          | inl dead ↦ let no : false ≡ true = ap not (sym lives) ∙ dead in absurd cc
          | inr few ↦ least (count_by (ends_at i) (used_ends n made)) few
        ]
      where
        lives : is_live (slice_get systems i) ≡ true
        lives =
            let (x, live, named) = from_map (λ (t : System). t.clock) v h.systems known in
            ap is_live (mapped_there (system_then events) n.systems i at.system at.there)
            ∙ lives_of n network events h stands' x live i at.system at.there (at.clock ∙ sym named)

        least : (k : ℕ) → nat_le k 1 ≡ true → k ≤ 1
        least k few = grind (arith, nat_tests)

    -- the link that was at a port
    over : (p : ℕ) (t : PortIdentity) → Joins g (port_of v p) t
        → (j : ℕ) × IsJoinedBy n network made g stands well made g stands well i j (port_of v p) t
    over p t joins =
        let (j, at') =
        at_clock n network made g stands well t.clock (Joins-clock g t (port_of v p) well (Joins-sym g (port_of v p) t
        joins)) in
        (j, joined_by n network made g stands well made g stands well i j (port_of v p) t at at' joins)

    one_port : (p q : ℕ) (t u : PortIdentity) → Joins g (port_of v p) t → Joins g (port_of v q) u → p ≡ q
    one_port p q t u first second =
        let (j, x) = over p t first in
        let (k, y) = over q u second in
        let same : x.wire ≡ y.wire =
        one_same (ends_at i) (ends_of n) (used_links n made) x.wire y.wire most x.among y.among
        (ends_first i j (ends_of n x.wire) (elim x.by [ inl (ends, is) ↦ inl ends | inr (ends, is) ↦ inr ends ]))
        (ends_first i k (ends_of n y.wire) (elim y.by [ inl (ends, is) ↦ inl ends | inr (ends, is) ↦ inr ends ])) in
        same_port v p q t u (λ loop. well.apart (port_of v p) t first (sym loop))
        (λ loop. well.apart (port_of v q) u second (sym loop))
        (elim x.by [ inl (ends, is) ↦ inl is | inr (ends, is) ↦ inr is ])
        (elim y.by [ inl (ends, is) ↦ inl is | inr (ends, is) ↦ inr is ])
        (ap (λ (w : LinkSpec). link_of (w.a, w.b)) same)

  pub alone_so : LeavesAlone g h
  alone_so = record {
    none = none;
    one = λ v p q t u known first second.
        let (i, at) = at_clock n network events h stands' well' v known in
        one_port v i at known p q t u first second;
  }

pub all_alone : (n : NetworkState) → IsNetwork n → (made now : List Timed) → AreWell n (made ++ now)
    → leaves_alone_after n made (made ++ now) ≡ true → LeavesAloneFrom n made (made ++ now)
all_alone n network made now well test g h stands stands' =
    alone_so n network made (made ++ now) test g h stands stands' (well made now refl g stands)
    (well (made ++ now) [] (append-nil (made ++ now)) h stands')
