-- What a network keeps when a system or a link is added.
use Rattle.std.proofs.Common.{◌≡◌, ◌<◌, ◌≤◌, ◌^◌, inl, inr, ℕ, ◌+◌, ℤ, List, [], ◌∷◌, ◌++◌, length, Option, None, Some, slice_get, refl, sym, ap, subst, ◌∙◌, arith}
use Rattle.std.specs.Int.{int_max, int_min}
use Rattle.std.specs.List.{cons_option, reduce}
use Rattle.std.proofs.lemmas.List.{length-append}
use Rattle.std.proofs.lemmas.Option.{none-some}
use Rattle.gptp_vector.specs.declared.port.PortId.{PortId}
use Rattle.gptp_roles.specs.Selection.{clock_of}
use Rattle.gptp_setup.specs.declared.setup.Params.{Params}
use Rattle.gptp_setup.specs.Intervals.{interval_of}
use Rattle.gptp_scenario.specs.Network.{NetworkState, without_members, with_system, with_link, logs_of, ArePrompt, IsKeptNetwork, IsMember, IsMemberTimed, IsPort, IsWire, IsEnd, IsNetwork, CanAddSystem, CanAddLink, seeded, largest_of, smallest_of}
use Rattle.gptp_scenario.specs.Calm.{IsCalm}
use Rattle.gptp_scenario.specs.Params.{KeepParams}
use Rattle.gptp_scenario.specs.declared.change.Timed.{Timed}
use Rattle.gptp_scenario.specs.declared.network.SystemSpec.{SystemSpec}
use Rattle.gptp_scenario.specs.declared.network.LinkSpec.{LinkSpec}
use Rattle.gptp_lists.specs.Members.{In}
use Rattle.gptp_lists.proofs.SystemSpecLemmas.{In-parts}
use Rattle.gptp_lists.proofs.PlaceLemmas.{behind, before}
use Rattle.gptp_scenario.proofs.LogLemmas.{logs_added, of_member, reduce_added}

pub none_yet : (p : Params) → KeepParams p → IsKeptNetwork (without_members p) None None
none_yet p h = record {
  network = record {
    params = h;
    few_systems = omega arith;
    few_links = omega arith;
    systems = λ i m e. absurd (none-some m e);
    identities = λ i m e. absurd (none-some m e);
    clocks = λ i j l m e f same. absurd (none-some l e);
    timed = λ i m e. absurd (none-some m e);
    links = λ i w e. absurd (none-some w e);
    one_link = λ i j v w q e f at_v at_w. absurd (none-some v e);
  };
  smallest = refl;
  largest = refl;
}

length_behind : {X : Type 0} (xs : List X) (x : X) → length (xs ++ x ∷ []) ≡ length xs + 1
length_behind xs x = length-append xs (x ∷ [])

-- a port stays when a system is added
kept_port : (systems : List SystemSpec) (m : SystemSpec) (p : PortId) → IsPort systems p → IsPort (systems ++ m ∷ []) p
kept_port systems m p h = record {
  place = h.place;
  system = h.system;
  there = before systems m h.system h.place h.there;
  clock = h.clock;
  first = h.first;
  last = h.last;
}

-- where a link is as prompt as a network and as one more system ask, it is as prompt as both ask
still_prompt : (n : NetworkState) (m : SystemSpec) (i : ℕ) (w : LinkSpec) → IsWire n i w → slice_get n.links i ≡ Some w
    → CanAddSystem n m → (log : ℤ) → In log (logs_of (with_system m n)) → w.bounds.max ≤ interval_of log
still_prompt n m i w k there c log member =
    elim (In-parts log (logs_of n) m.intervals.items (subst (In log) (logs_added n m) member)) [
      | inl of_others ↦ k.prompt log of_others
      | inr of_its ↦ of_member (ArePrompt n.links) m.intervals.items log c.prompt of_its i w there
    ]

network_with_system : (n : NetworkState) (m : SystemSpec) → IsNetwork n → CanAddSystem n m → m.identity < 2 ^ 112
    → IsNetwork (with_system m n)
network_with_system n m h c octets = record {
  params = h.params;
  few_systems = let e = length_behind n.systems m in let r = c.room in omega arith;
  few_links = h.few_links;
  systems = λ i x e. elim (behind n.systems m x i e) [
    | inl f ↦ h.systems i x f
    | inr f ↦ subst IsMember f.1 c.limits
  ];
  identities = λ i x e. elim (behind n.systems m x i e) [
    | inl f ↦ h.identities i x f
    | inr f ↦ subst (λ (y : SystemSpec). y.identity < 2 ^ 112) f.1 octets
  ];
  clocks = λ i j l x e f same. elim (behind n.systems m l i e) [
    | inl e' ↦ elim (behind n.systems m x j f) [
      | inl f' ↦ h.clocks i j l x e' f' same
      | inr f' ↦ absurd (c.fresh i l e' (same ∙ ap (λ (y : SystemSpec). clock_of y.identity) (sym f'.1)))
    ]
    | inr e' ↦ elim (behind n.systems m x j f) [
      | inl f' ↦ absurd (c.fresh j x f' (sym same ∙ ap (λ (y : SystemSpec). clock_of y.identity) (sym e'.1)))
      | inr f' ↦ e'.0 ∙ sym f'.0
    ]
  ];
  timed = λ i x e. elim (behind n.systems m x i e) [
    | inl f ↦ h.timed i x f
    | inr f ↦ subst (IsMemberTimed n.params) f.1 c.timed
  ];
  links = λ i w e. let k = h.links i w e in record {
    number = k.number;
    fit = k.fit;
    prompt = still_prompt n m i w k e c;
    a = kept_port n.systems m w.a k.a;
    b = kept_port n.systems m w.b k.b;
    apart = k.apart;
  };
  one_link = h.one_link;
}

pub system_added : (n : NetworkState) (m : SystemSpec) (smallest largest : Option ℤ) → IsKeptNetwork n smallest largest
    → CanAddSystem n m → m.identity < 2 ^ 112
    → IsKeptNetwork (with_system m n) (reduce int_min (cons_option smallest m.intervals.items))
    (reduce int_max (cons_option largest m.intervals.items))
system_added n m smallest largest h c octets = record {
  network = network_with_system n m h.network c octets;
  smallest = reduce_added int_min n m smallest h.smallest;
  largest = reduce_added int_max n m largest h.largest;
}

-- a link has the limits of the network, whatever other links there are
kept_wire : (n : NetworkState) (added w : LinkSpec) (i : ℕ) → IsWire n i w → IsWire (with_link added n) i w
kept_wire n added w i k = record {
  number = k.number;
  fit = k.fit;
  prompt = k.prompt;
  a = k.a;
  b = k.b;
  apart = k.apart;
}

-- no earlier link is at a port of one that can be added
free : (n : NetworkState) (w v : LinkSpec) (i : ℕ) (p : PortId) → CanAddLink n w → slice_get n.links i ≡ Some v
    → IsEnd p v → IsEnd p w → ⊥
free n w v i p c e at_v at_w = elim at_w [
  | inl f ↦ c.free_a i v e (subst (λ q. IsEnd q v) (sym f) at_v)
  | inr f ↦ c.free_b i v e (subst (λ q. IsEnd q v) (sym f) at_v)
]

network_with_link : (n : NetworkState) (w : LinkSpec) → IsNetwork n → CanAddLink n w → IsNetwork (with_link w n)
network_with_link n w h c = record {
  params = h.params;
  few_systems = h.few_systems;
  few_links = let e = length_behind n.links w in let r = c.room in omega arith;
  systems = h.systems;
  identities = h.identities;
  clocks = h.clocks;
  timed = h.timed;
  links = λ i x e. elim (behind n.links w x i e) [
    | inl f ↦ kept_wire n w x i (h.links i x f)
    | inr f ↦ subst (λ j. IsWire (with_link w n) j x) (sym f.0)
        (subst (IsWire (with_link w n) (length n.links)) f.1 (kept_wire n w w (length n.links) c.limits))
  ];
  one_link = λ i j v x p e f at_v at_x. elim (behind n.links w v i e) [
    | inl e' ↦ elim (behind n.links w x j f) [
      | inl f' ↦ h.one_link i j v x p e' f' at_v at_x
      | inr f' ↦ absurd (free n w v i p c e' at_v (subst (IsEnd p) (sym f'.1) at_x))
    ]
    | inr e' ↦ elim (behind n.links w x j f) [
      | inl f' ↦ absurd (free n w x j p c f' at_x (subst (IsEnd p) (sym e'.1) at_v))
      | inr f' ↦ e'.0 ∙ sym f'.0
    ]
  ];
}

pub link_added : (n : NetworkState) (w : LinkSpec) (smallest largest : Option ℤ) → IsKeptNetwork n smallest largest
    → CanAddLink n w → IsKeptNetwork (with_link w n) smallest largest
link_added n w smallest largest h c =
    record { network = network_with_link n w h.network c; smallest = h.smallest; largest = h.largest }

-- ---- the seed

-- a network has its limits whatever the seed
seeded_wire : (n : NetworkState) (seed i : ℕ) (w : LinkSpec) → IsWire n i w → IsWire (seeded seed n) i w
seeded_wire n seed i w k = record {
  number = k.number;
  fit = k.fit;
  prompt = k.prompt;
  a = k.a;
  b = k.b;
  apart = k.apart;
}

pub seeded_network : (n : NetworkState) (seed : ℕ) → IsNetwork n → IsNetwork (seeded seed n)
seeded_network n seed h = record {
  params = h.params;
  few_systems = h.few_systems;
  few_links = h.few_links;
  systems = h.systems;
  identities = h.identities;
  clocks = h.clocks;
  timed = h.timed;
  links = λ i w there. seeded_wire n seed i w (h.links i w there);
  one_link = h.one_link;
}

pub seeded_kept : (n : NetworkState) (seed : ℕ) (smallest largest : Option ℤ) → IsKeptNetwork n smallest largest
    → IsKeptNetwork (seeded seed n) smallest largest
seeded_kept n seed smallest largest h =
    record { network = seeded_network n seed h.network; smallest = h.smallest; largest = h.largest }

pub seeded_smallest : (n : NetworkState) (seed : ℕ) → smallest_of (seeded seed n) ≡ smallest_of n
unfolding smallest_of
seeded_smallest n seed = refl

pub seeded_largest : (n : NetworkState) (seed : ℕ) → largest_of (seeded seed n) ≡ largest_of n
unfolding largest_of
seeded_largest n seed = refl

-- and it is calm whatever the seed
pub calm_seeded : (n : NetworkState) (seed : ℕ) (events : List Timed) → IsCalm n events → IsCalm (seeded seed n) events
calm_seeded n seed events h = record { links = h.links; lapses = h.lapses }

pub seeded_calm : (n : NetworkState) (seed : ℕ) (events : List Timed) → IsCalm (seeded seed n) events → IsCalm n events
seeded_calm n seed events h = record { links = h.links; lapses = h.lapses }
