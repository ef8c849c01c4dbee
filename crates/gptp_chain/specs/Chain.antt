-- Values that a slab holds: those of a queue are a chain, each leads to the one that was put next.
use Rattle.std.specs.Prelude.{◌≡◌, ◌≢◌, ◌⊎◌, ℕ, zero, suc, ◌+◌, ◌-◌, ◌<◌, ◌≤◌, ◌==◌, List, length, [], ◌∷◌, Option, Some, None, if◌then◌else◌, map, slice_get}
use Rattle.std.specs.List.{sum_by}
use Rattle.std.specs.Option.{option_map, option_map_or}
use Rattle.slab.specs.Slab.{Slab, get, slab_len}
use Rattle.gptp_lists.specs.Members.{In, Different}
use Rattle.gptp_chain.specs.declared.chain.Chain.{Chain}
use Rattle.gptp_chain.specs.declared.chain.Node.{Node}

abbrev pub no_chain : Chain
no_chain = record { head = 0; tail = 0; count = 0 }

-- with a value more, the last, at this key
abbrev pub with_last : ℕ → Chain → Chain
with_last key chain = record {
  head = if chain.count == 0 then key else chain.head;
  tail = key;
  count = chain.count + 1;
}

-- without the first value, that led to this key
abbrev pub without_first : ℕ → Chain → Chain
without_first next chain = record chain { head = next; count = chain.count - 1 }

module _ {T : Type 0} where
  abbrev pub with_next : ℕ → Node T → Node T
  with_next next node = record node { next = next }

  -- its value is a clone of that of another, and it leads to the same
  pub record IsNodeClone (is_clone : T → T → Type 0) (node copy : Node T) : Type 0 where
    pub value : is_clone node.value copy.value
    pub next : copy.next ≡ node.next

  -- so many values from a key on, each with its key; each but the first has the key to which the one before it leads
  abbrev pub keyed_values : (ℕ → Option (Node T)) → ℕ → ℕ → List (ℕ × T)
  keyed_values nodes zero key = []
  keyed_values nodes (suc n) key =
      option_map_or (λ (node : Node T). (key, node.value) ∷ keyed_values nodes n node.next) (nodes key) []

  module _ (nodes : ℕ → Option (Node T)) where
    abbrev pub chain_keys : Chain → List ℕ
    chain_keys chain = map (λ (p : ℕ × T). p.0) (keyed_values nodes chain.count chain.head)

    -- the values of a chain, in order of putting
    abbrev pub chain_values : Chain → List T
    chain_values chain = map (λ (p : ℕ × T). p.1) (keyed_values nodes chain.count chain.head)

    -- there are as many values as the chain counts, at different keys, the last of which is known
    pub record IsChained (chain : Chain) : Type 0 where
      pub all : length (chain_keys chain) ≡ chain.count
      pub differ : Different (chain_keys chain)
      pub tail : (n : ℕ) → chain.count ≡ n + 1 → slice_get (chain_keys chain) n ≡ Some chain.tail

    -- no key is one of both chains
    abbrev pub ChainsAreApart : Chain → Chain → Type 0
    ChainsAreApart one other = (key : ℕ) → In key (chain_keys one) → In key (chain_keys other) → ⊥

  -- the number of nodes of the slab, and its capacity, are as they were
  pub record SameNodeRoom (old new : Slab (Node T)) : Type 0 where
    pub len : slab_len new ≡ slab_len old
    pub capacity : new.capacity ≡ old.capacity

  -- the last of a chain leads to this key, and nothing else was changed
  pub record JoinsValue (old new : ℕ → Option (Node T)) (chain : Chain) (key : ℕ) : Type 0 where
    pub joined : 0 < chain.count → new chain.tail ≡ option_map (with_next key) (old chain.tail)
    pub others : (k : ℕ) → (0 < chain.count → k ≢ chain.tail) → new k ≡ old k

  -- values of one chain came or went, at keys of its own or such as were vacant; all others are as they were
  pub record ChangesOne (old new : ℕ → Option (Node T)) (before after : Chain) : Type 0 where
    pub chained : IsChained new after
    pub others : (key : ℕ) → (In key (chain_keys old before) → ⊥) → old key ≢ None → new key ≡ old key
    pub from : (key : ℕ) → In key (chain_keys new after) → In key (chain_keys old before) ⊎ (old key ≡ None)

  -- All are chains through one slab, which holds their values alone.
  pub record AreChained (nodes : Slab (Node T)) (chains : List Chain) : Type 0 where
    pub each : (i : ℕ) (c : Chain) → slice_get chains i ≡ Some c → IsChained (get nodes) c
    pub apart : (i j : ℕ) (c d : Chain) → i ≢ j → slice_get chains i ≡ Some c → slice_get chains j ≡ Some d
        → ChainsAreApart (get nodes) c d
    pub alone : slab_len nodes ≡ sum_by (λ (c : Chain). c.count) chains
    pub fits : slab_len nodes ≤ nodes.capacity
