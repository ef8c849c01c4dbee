-- The chains of all queues, as one of them changes.
use Rattle.std.proofs.Common.{◌≡◌, ◌≢◌, ℕ, zero, suc, ◌+◌, ◌-◌, ◌<◌, ◌≤◌, List, [], ◌∷◌, map, length, replicate, Option, Some, None, is_some, slice_get, slice_set, slice_index_or, refl, sym, ap, ap₂, ◌∙◌, subst, inl, inr, arith}
use Rattle.std.proofs.lemmas.Bool.{cases_lt}
use Rattle.std.proofs.lemmas.List.{length-map, get_or_past, nil_from_length}
use Rattle.std.proofs.lemmas.List.Folds.{sum_by-replicate}
use Rattle.std.proofs.lemmas.List.Sums.{sum_by-set, sum_by-le, get_or-le-sum_by}
use Rattle.std.proofs.lemmas.Option.{none-some, same_Some, slice_get-get_or, slice_get_within}
use Rattle.std.specs.List.{AllZip, count_by}
use Rattle.slab.specs.Slab.{Slab, get, slab_len, IsSlabClone, IsSlotClone}
use Rattle.gptp_lists.specs.Members.{In}
use Rattle.gptp_lists.proofs.MappedLemmas.{mapped_there}
use Rattle.gptp_lists.proofs.PlaceLemmas.{member_there, read, set_each}
use Rattle.gptp_chain.specs.Chain.{no_chain, keyed_values, chain_keys, chain_values, IsChained, IsNodeClone, ChainsAreApart, ChangesOne, AreChained}
use Rattle.gptp_chain.specs.Queues.{QueuesState, queue_at, with_queue_at}
use Rattle.gptp_chain.specs.declared.chain.Chain.{Chain}
use Rattle.gptp_chain.specs.declared.chain.Node.{Node}
use Rattle.gptp_chain.proofs.ChainLemmas.{keyed-stays, chained-stays, apart-stays}

-- ---- lists

map-same : {X Y : Type 0} (f g : X → Y) (xs : List X)
    → ((i : ℕ) (x : X) → slice_get xs i ≡ Some x → g x ≡ f x) → map g xs ≡ map f xs
map-same f g [] same = refl
map-same f g (x ∷ xs) same =
    ap₂ (λ y ys. y ∷ ys) (same zero x refl) (map-same f g xs (λ i z at. same (suc i) z at))

-- where the others are as they were, one is replaced
map-set_same : {X Y : Type 0} (f g : X → Y) (xs : List X) (place : ℕ) (y : X)
    → ((i : ℕ) (x : X) → i ≢ place → slice_get xs i ≡ Some x → g x ≡ f x)
    → map g (slice_set xs place y) ≡ slice_set (map f xs) place (g y)
map-set_same f g [] place y same = refl
map-set_same f g (x ∷ xs) zero y same =
    ap (λ ys. g y ∷ ys) (map-same f g xs (λ i z at. same (suc i) z (λ none. omega (arith, none)) at))
map-set_same f g (x ∷ xs) (suc place) y same =
    ap₂ (λ z zs. z ∷ zs) (same zero x (λ none. omega (arith, none)) refl)
    (map-set_same f g xs place y (λ i z apart at. same (suc i) z (λ equal. apart (omega (arith, equal))) at))

alike : {X : Type 0} (n i : ℕ) (x y : X) → slice_get (replicate n x) i ≡ Some y → x ≡ y
alike zero i x y there = absurd (none-some y there)
alike (suc n) zero x y there = same_Some x y there
alike (suc n) (suc i) x y there = alike n i x y there

module _ {T : Type 0} where
  abbrev state : Slab (Node T) → List Chain → QueuesState T
  state nodes chains = record { queues = map (chain_values (get nodes)) chains; room = nodes.capacity - slab_len nodes }

  -- ---- reading

  -- the chain that a call is lent is the one at that place
  pub lent_there : (s : ℕ → Option (Node T)) (chains : List Chain) (place : ℕ) (lent : Chain)
      → place < length (map (chain_values s) chains) → lent ≡ slice_index_or chains place lent
      → slice_get chains place ≡ Some lent
  lent_there s chains place lent within is =
      let many = length-map chains (chain_values s) in
      slice_get-get_or chains place lent (omega (arith, many, within)) ∙ ap Some (sym is)

  -- the values at a place are those of the chain there
  queue_there : (s : Slab (Node T)) (chains : List Chain) (place : ℕ) (c : Chain) → slice_get chains place ≡ Some c
      → queue_at place (state s chains) ≡ chain_values (get s) c
  queue_there s chains place c there =
      read (map (chain_values (get s)) chains) place (chain_values (get s) c) []
      (mapped_there (chain_values (get s)) chains place c there)

  counted : (s : ℕ → Option (Node T)) (c : Chain) → IsChained s c → length (chain_values s c) ≡ c.count
  counted s c chained =
      length-map (keyed_values s c.count c.head) (λ (p : ℕ × T). p.1)
      ∙ sym (length-map (keyed_values s c.count c.head) (λ (p : ℕ × T). p.0)) ∙ chained.all

  -- a queue has no value where its chain counts none
  pub none_there : (s : Slab (Node T)) (chains : List Chain) (place : ℕ) (c : Chain) → AreChained s chains
      → slice_get chains place ≡ Some c
      → (c.count ≡ 0 → queue_at place (state s chains) ≡ []) × (queue_at place (state s chains) ≡ [] → c.count ≡ 0)
  none_there s chains place c are there =
      let queue = queue_there s chains place c there in
      let many = counted (get s) c (are.each place c there) in (
        λ none. queue ∙ nil_from_length (chain_values (get s) c) (many ∙ none),
        λ none. sym many ∙ ap length (sym queue ∙ none),
      )

  -- the last value of a queue, by the count of its chain
  pub last_there : (s : Slab (Node T)) (chains : List Chain) (place : ℕ) (c : Chain) → AreChained s chains
      → slice_get chains place ≡ Some c
      → slice_get (chain_values (get s) c) (c.count - 1)
      ≡ slice_get (queue_at place (state s chains)) (length (queue_at place (state s chains)) - 1)
  last_there s chains place c are there =
      rw (queue_there s chains place c there, counted (get s) c (are.each place c there)) refl

  few_there : (s : Slab (Node T)) (chains : List Chain) (place : ℕ) (c : Chain) → AreChained s chains
      → slice_get chains place ≡ Some c → c.count ≤ slab_len s
  few_there s chains place c are there =
      let least = get_or-le-sum_by (λ (d : Chain). d.count) chains place c (slice_get_within chains place c there) in
      let is = ap (λ (d : Chain). d.count) (read chains place c c there) in
      omega (arith, are.alone, least, is)

  -- ---- no value

  pub none_chained : (s : Slab (Node T)) (n : ℕ) → slab_len s ≡ 0 → AreChained s (replicate n no_chain)
  none_chained s n empty = record {
    each = λ i c there. subst (IsChained (get s)) (alike n i no_chain c there)
        (record { all = refl; differ = tt; tail = λ m none. absurd (omega (arith, none)) });
    apart = λ i j c d differ there other key.
        subst (λ e. In key (chain_keys (get s) e) → In key (chain_keys (get s) d) → ⊥) (alike n i no_chain c there)
        (λ one two. one);
    alone = let total = sum_by-replicate (λ (c : Chain). c.count) n no_chain in omega (arith, empty, total);
    fits = omega (arith, empty);
  }

  -- the slab is empty exactly where no queue has a value
  module _ (s : Slab (Node T)) (chains : List Chain) (are : AreChained s chains) where
    pub all_empty : slab_len s ≡ 0 → (place : ℕ) → queue_at place (state s chains) ≡ []
    all_empty none place = elim (cases_lt place (length chains)) [
      | inl within ↦
          let there = member_there chains place within in
          let few = few_there s chains place there.0 are there.1 in
          (none_there s chains place there.0 are there.1).0 (omega (arith, few, none))
      | inr past ↦
          let many = length-map chains (chain_values (get s)) in
          get_or_past (map (chain_values (get s)) chains) place [] (omega (arith, many, past))
    ]

    pub empty_slab : ((place : ℕ) → queue_at place (state s chains) ≡ []) → slab_len s ≡ 0
    empty_slab none =
        let total = sum_by-le (λ (c : Chain). c.count) 0 chains
        (λ place other within.
        let there = member_there chains place within in
        let count = (none_there s chains place there.0 are there.1).1 (none place) in
        rw (read chains place there.0 other there.1) (omega (arith, count))) in
        omega (arith, are.alone, total)

  -- ---- more room

  pub chained-roomy : (s t : Slab (Node T)) (chains : List Chain) → AreChained s chains
      → t ≡ record s { capacity = t.capacity } → s.capacity ≤ t.capacity → AreChained t chains
  chained-roomy s t chains are kept larger =
      let same : AreChained (record s { capacity = t.capacity }) chains = record {
        each = are.each;
        apart = are.apart;
        alone = are.alone;
        fits = omega (arith, are.fits, larger);
      } in
      subst (λ (u : Slab (Node T)). AreChained u chains) (sym kept) same

  -- ---- a copy

  -- where the clone of a value is the same
  module _ (is_clone : T → T → Type 0) (equal : (value copy : T) → is_clone value copy → copy ≡ value)
      (s copy t : Slab (Node T)) (clones : IsSlabClone (IsNodeClone is_clone) s copy)
      (kept : t ≡ record copy { capacity = t.capacity }) where
    abbrev made : T → ℕ → Node T
    made value next = record { value = value; next = next }

    -- nodes of which each is a clone
    slots-copied : (xs ys : List (Option (Node T))) → AllZip (IsSlotClone (IsNodeClone is_clone)) xs ys → ys ≡ xs
    slots-copied [] [] same = refl
    slots-copied [] (y ∷ ys) same = absurd same
    slots-copied (x ∷ xs) [] same = absurd same
    slots-copied (x ∷ xs) (y ∷ ys) same = ap₂ (λ z zs. z ∷ zs) (by x y same.0) (slots-copied xs ys same.1) where
      by : (a b : Option (Node T)) → IsSlotClone (IsNodeClone is_clone) a b → b ≡ a
      by None b same = same
      by (Some node) None same = absurd same
      by (Some node) (Some copied) same = ap Some (ap₂ made (equal node.value copied.value same.value) same.next)

    slots-kept : t.slots ≡ s.slots
    slots-kept = ap (λ (u : Slab (Node T)). u.slots) kept ∙ slots-copied s.slots copy.slots clones.slots

    abbrev node_in : List (Option (Node T)) → ℕ → Option (Node T)
    node_in slots key = slice_index_or slots key None

    get-kept : get t ≡ get s
    get-kept = ap node_in slots-kept

    len-kept : slab_len t ≡ slab_len s
    len-kept = ap (count_by is_some) slots-kept

    pub chained-copied : (chains : List Chain) → AreChained s chains → slab_len t ≤ t.capacity → AreChained t chains
    chained-copied chains are fits = record {
      each = rw get-kept are.each;
      apart = rw get-kept are.apart;
      alone = len-kept ∙ are.alone;
      fits = fits;
    }

    pub queues-copied : (chains : List Chain)
        → map (chain_values (get t)) chains ≡ map (chain_values (get s)) chains
    queues-copied chains = ap (λ (nodes : ℕ → Option (Node T)). map (chain_values nodes) chains) get-kept

  -- ---- one queue

  -- One of the chains changed, and the slab has so many values more or fewer.
  module _ (s t : Slab (Node T)) (chains : List Chain) (place : ℕ) (before after : Chain) (are : AreChained s chains)
      (here : slice_get chains place ≡ Some before) (changes : ChangesOne (get s) (get t) before after) where
    beside : (i : ℕ) (c : Chain) → i ≢ place → slice_get chains i ≡ Some c → ChainsAreApart (get s) before c
    beside i c differs there = are.apart place i before c (λ same. differs (sym same)) here there

    stays : (i : ℕ) (c : Chain) → i ≢ place → slice_get chains i ≡ Some c
        → keyed_values (get t) c.count c.head ≡ keyed_values (get s) c.count c.head
    stays i c differs there =
        keyed-stays (get s) (get t) before after c changes (are.each i c there) (beside i c differs there)

    apart-here : (i : ℕ) (c : Chain) → i ≢ place → slice_get chains i ≡ Some c → ChainsAreApart (get t) after c
    apart-here i c differs there =
        apart-stays (get s) (get t) before after c changes (are.each i c there) (beside i c differs there)

    -- one that was there is apart from each other
    apart-there : (i : ℕ) (c : Chain) → i ≢ place → slice_get chains i ≡ Some c → (j : ℕ) (d : Chain)
        → slice_get (slice_set chains place after) j ≡ Some d → i ≢ j → ChainsAreApart (get t) c d
    apart-there i c differs there = set_each (λ j d. i ≢ j → ChainsAreApart (get t) c d) chains place before after here
        (λ differ key one two. apart-here i c differs there key two one)
        (λ j d other also differ key one two.
        are.apart i j c d differ there also key (rw (stays i c differs there) at one)
        (rw (stays j d other also) at two))

    pub all-changed : slab_len t + before.count ≡ slab_len s + after.count → slab_len t ≤ t.capacity
        → AreChained t (slice_set chains place after)
    all-changed len fits = record {
      each = set_each (λ i c. IsChained (get t) c) chains place before after here changes.chained
          (λ i c differs there.
          chained-stays (get s) (get t) before after c changes (are.each i c there) (beside i c differs there));
      apart = λ i j c d differ one two.
          set_each (λ i c. (j : ℕ) (d : Chain) → slice_get (slice_set chains place after) j ≡ Some d → i ≢ j
          → ChainsAreApart (get t) c d) chains place before after here
          (set_each (λ j d. place ≢ j → ChainsAreApart (get t) after d) chains place before after here
          (λ differ. absurd (differ refl)) (λ j d other also differ. apart-here j d other also))
          apart-there i c one j d two differ;
      alone =
          let within = slice_get_within chains place before here in
          let total = sum_by-set (λ (c : Chain). c.count) chains place after before within in
          let was = ap (λ (c : Chain). c.count) (read chains place before before here) in
          omega (arith, are.alone, total, was, len);
      fits = fits;
    }

    pub state-changed : (change : List T → List T) (room : ℕ)
        → chain_values (get t) after ≡ change (chain_values (get s) before)
        → t.capacity - slab_len t ≡ room
        → state t (slice_set chains place after)
        ≡ with_queue_at place (change (queue_at place (state s chains))) room (state s chains)
    state-changed change room values left =
        ap₂ (λ queues (n : ℕ). record { queues = queues; room = n })
        (map-set_same (chain_values (get s)) (chain_values (get t)) chains place after
        (λ i c differs there. ap (map (λ (p : ℕ × T). p.1)) (stays i c differs there))
        ∙ ap (slice_set (map (chain_values (get s)) chains) place)
        (values ∙ ap change (sym (queue_there s chains place before here))))
        left
