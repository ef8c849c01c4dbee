-- A chain as values are put and taken, and what that leaves of the others.
use Rattle.std.proofs.Common.{◌≡◌, ◌≢◌, ℕ, zero, suc, ◌+◌, ◌-◌, ◌<◌, ◌==◌, List, [], ◌∷◌, ◌++◌, map, length, Option, Some, None, false, if◌then◌else◌, slice_get, refl, sym, ap, ◌∙◌, subst, inl, inr, arith}
use Rattle.std.proofs.lemmas.Bool.Decides.{nat_tests}
use Rattle.std.proofs.lemmas.List.{length-append, map_push}
use Rattle.std.proofs.lemmas.Option.{none-some, same_Some}
use Rattle.std.specs.Option.{option_map, option_map_or}
use Rattle.gptp_lists.specs.Members.{In, Different}
use Rattle.gptp_lists.proofs.SystemSpecLemmas.{In-parts, In-slice_get}
use Rattle.gptp_chain.specs.Chain.{with_next, with_last, without_first, keyed_values, chain_keys, chain_values, IsChained, JoinsValue, ChangesOne}
use Rattle.gptp_chain.specs.declared.chain.Chain.{Chain}
use Rattle.gptp_chain.specs.declared.chain.Node.{Node}

-- ---- lists

different-push : (ks : List ℕ) (key : ℕ) → Different ks → (In key ks → ⊥) → Different (ks ++ key ∷ [])
different-push [] key differ new = (λ none. none, tt)
different-push (k ∷ ks) key differ new = (
  λ there. elim (In-parts k ks (key ∷ []) there) [
    | inl early ↦ differ.0 early
    | inr (inl same) ↦ new (inl (sym same))
    | inr (inr none) ↦ none
  ],
  different-push ks key differ.1 (λ there. new (inr there)),
)

last-push : (ks : List ℕ) (key n : ℕ) → length ks ≡ n → slice_get (ks ++ key ∷ []) n ≡ Some key
last-push [] key zero many = refl
last-push [] key (suc n) many = absurd (omega (arith, many))
last-push (k ∷ ks) key zero many = absurd (omega (arith, many))
last-push (k ∷ ks) key (suc n) many = last-push ks key n (omega (arith, many))

module _ {T : Type 0} where
  abbrev keys_in : List (ℕ × T) → List ℕ
  keys_in = map (λ (p : ℕ × T). p.0)

  abbrev keys : (ℕ → Option (Node T)) → ℕ → ℕ → List ℕ
  keys s n key = keys_in (keyed_values s n key)

  -- the values from a key on, where this stands there
  abbrev keyed_from : (ℕ → Option (Node T)) → ℕ → ℕ → Option (Node T) → List (ℕ × T)
  keyed_from s n key node = option_map_or (λ (m : Node T). (key, m.value) ∷ keyed_values s n m.next) node []

  -- a value stands at each key
  stands : (s : ℕ → Option (Node T)) (n key k : ℕ) → In k (keys s n key) → s k ≢ None
  stands s zero key k there = absurd there
  stands s (suc n) key k there = by (s key) refl (λ next. stands s n next k) there where
    by : (o : Option (Node T)) → s key ≡ o → ((next : ℕ) → In k (keys s n next) → s k ≢ None)
        → In k (keys_in (keyed_from s n key o)) → s k ≢ None
    by None is ih there = absurd there
    by (Some m) is ih (inl same) = λ none. none-some m (sym none ∙ ap s same ∙ is)
    by (Some m) is ih (inr later) = ih m.next later

  -- values stay where nothing changes at their keys
  keyed-same : (s t : ℕ → Option (Node T)) (n key : ℕ) → length (keys s n key) ≡ n
      → ((k : ℕ) → In k (keys s n key) → t k ≡ s k) → keyed_values t n key ≡ keyed_values s n key
  keyed-same s t zero key all same = refl
  keyed-same s t (suc n) key all same = by (s key) refl (λ next. keyed-same s t n next) all same where
    by : (o : Option (Node T)) → s key ≡ o
        → ((next : ℕ) → length (keys s n next) ≡ n → ((k : ℕ) → In k (keys s n next) → t k ≡ s k)
        → keyed_values t n next ≡ keyed_values s n next)
        → length (keys_in (keyed_from s n key o)) ≡ suc n
        → ((k : ℕ) → In k (keys_in (keyed_from s n key o)) → t k ≡ s k)
        → keyed_values t (suc n) key ≡ keyed_from s n key (s key)
    by None is ih all same = absurd (omega (arith, all))
    by (Some m) is ih all same =
        let here : t key ≡ Some m = same key (inl refl) ∙ is in
        rw (is, here)
        (ap (λ rest. (key, m.value) ∷ rest) (ih m.next (omega (arith, all)) (λ k there. same k (inr there))))

  -- ---- a value comes behind the others

  -- the last value leads to a new one
  module _ (s t : ℕ → Option (Node T)) (last new : ℕ) (node : Node T) (here : t new ≡ Some node) (vacant : s new ≡ None)
      (joined : t last ≡ option_map (with_next new) (s last))
      (others : (k : ℕ) → k ≢ last → k ≢ new → t k ≡ s k) where
    keyed-longer : (n key : ℕ) → slice_get (keys s (suc n) key) n ≡ Some last → Different (keys s (suc n) key)
        → keyed_values t (suc (suc n)) key ≡ keyed_values s (suc n) key ++ (new, node.value) ∷ []
    keyed-longer zero key = by (s key) refl where
      by : (o : Option (Node T)) → s key ≡ o
          → slice_get (keys_in (keyed_from s 0 key o)) 0 ≡ Some last
          → Different (keys_in (keyed_from s 0 key o))
          → keyed_values t 2 key ≡ keyed_from s 0 key o ++ (new, node.value) ∷ []
      by None is ends differ = absurd (none-some last ends)
      by (Some m) is ends differ =
          let same = same_Some key last ends in
          let now : t key ≡ Some (with_next new m) =
          ap t same ∙ joined ∙ ap (option_map (with_next new)) (ap s (sym same) ∙ is) in
          rw (now, here) refl
    keyed-longer (suc n) key = by (s key) refl (keyed-longer n) where
      by : (o : Option (Node T)) → s key ≡ o
          → ((next : ℕ) → slice_get (keys s (suc n) next) n ≡ Some last → Different (keys s (suc n) next)
          → keyed_values t (suc (suc n)) next ≡ keyed_values s (suc n) next ++ (new, node.value) ∷ [])
          → slice_get (keys_in (keyed_from s (suc n) key o)) (suc n) ≡ Some last
          → Different (keys_in (keyed_from s (suc n) key o))
          → keyed_values t (suc (suc (suc n))) key ≡ keyed_from s (suc n) key o ++ (new, node.value) ∷ []
      by None is ih ends differ = absurd (none-some last ends)
      by (Some m) is ih ends differ =
          let there = In-slice_get last (keys s (suc n) m.next) n ends in
          let apart : key ≢ last = λ same.
          differ.0 (subst (λ k. In k (keys s (suc n) m.next)) (sym same) there) in
          let old : key ≢ new = λ same. none-some m (sym vacant ∙ ap s (sym same) ∙ is) in
          rw (others key apart old ∙ is)
          (ap (λ rest. (key, m.value) ∷ rest) (ih m.next ends differ.1))

  -- A value was put at a key that was vacant, and what was the last leads to it.
  module _ (s one t : ℕ → Option (Node T)) (chain : Chain) (new : ℕ) (node : Node T) (vacant : s new ≡ None)
      (put : one new ≡ Some node) (same : (k : ℕ) → k ≢ new → one k ≡ s k) (joins : JoinsValue one t chain new)
      (chained : IsChained s chain) where
    is_new : In new (chain_keys s chain) → ⊥
    is_new there = stands s chain.count chain.head new there vacant

    is_last : 0 < chain.count → In chain.tail (chain_keys s chain)
    is_last some =
        let last : ℕ = chain.count - 1 in
        In-slice_get chain.tail (chain_keys s chain) last (chained.tail last (omega (arith, some)))

    -- the last is no new one
    apart : 0 < chain.count → chain.tail ≢ new
    apart some equal = is_new (subst (λ k. In k (chain_keys s chain)) equal (is_last some))

    now : t new ≡ Some node
    now = joins.others new (λ some equal. apart some (sym equal)) ∙ put

    joined : 0 < chain.count → t chain.tail ≡ option_map (with_next new) (s chain.tail)
    joined some = joins.joined some ∙ ap (option_map (with_next new)) (same chain.tail (apart some))

    others : (k : ℕ) → (0 < chain.count → k ≢ chain.tail) → k ≢ new → t k ≡ s k
    others k before differs = joins.others k before ∙ same k differs

    keyed-pushed : keyed_values t (chain.count + 1) (with_last new chain).head
        ≡ keyed_values s chain.count chain.head ++ (new, node.value) ∷ []
    keyed-pushed = by chain.count refl where
      by : (n : ℕ) → chain.count ≡ n → keyed_values t (n + 1) (if n == 0 then new else chain.head)
          ≡ keyed_values s n chain.head ++ (new, node.value) ∷ []
      by zero is = rw now refl
      by (suc n) is =
          let some : 0 < chain.count = omega (arith, is) in let more : suc n + 1 ≡ suc (suc n) = omega arith in
          let test : (suc n == 0) ≡ false = grind (arith, nat_tests) in
          rw (more, test)
          (keyed-longer s t chain.tail new node now vacant (joined some) (λ k differs. others k (λ some. differs)) n
          chain.head (rw is at (chained.tail n (omega (arith, is)))) (rw is at chained.differ))

    keys-pushed : chain_keys t (with_last new chain) ≡ chain_keys s chain ++ new ∷ []
    keys-pushed = ap keys_in keyed-pushed
        ∙ map_push (λ (p : ℕ × T). p.0) (keyed_values s chain.count chain.head) (new, node.value)

    pub values-pushed : chain_values t (with_last new chain) ≡ chain_values s chain ++ node.value ∷ []
    values-pushed = ap (map (λ (p : ℕ × T). p.1)) keyed-pushed
        ∙ map_push (λ (p : ℕ × T). p.1) (keyed_values s chain.count chain.head) (new, node.value)

    pub changes-pushed : ChangesOne s t chain (with_last new chain)
    changes-pushed = record {
      chained = record {
        all = rw keys-pushed (length-append (chain_keys s chain) (new ∷ []) ∙ omega (arith, chained.all));
        differ = rw keys-pushed (different-push (chain_keys s chain) new chained.differ is_new);
        tail = λ n many. rw keys-pushed
            (last-push (chain_keys s chain) new n (omega (arith, chained.all, many)));
      };
      others = λ k outside some.
          others k (λ many equal. outside (subst (λ l. In l (chain_keys s chain)) (sym equal) (is_last many)))
          (λ equal. some (ap s equal ∙ vacant));
      from = λ k there. elim (In-parts k (chain_keys s chain) (new ∷ []) (rw keys-pushed at there)) [
        | inl early ↦ inl early
        | inr (inl equal) ↦ inr (ap s equal ∙ vacant)
        | inr (inr none) ↦ absurd none
      ];
    }

  -- ---- the first value is taken out

  -- The value at the head of a chain is gone.
  module _ (s t : ℕ → Option (Node T)) (chain : Chain) (node : Node T) (found : s chain.head ≡ Some node)
      (same : (k : ℕ) → k ≢ chain.head → t k ≡ s k) (some : 0 < chain.count) (chained : IsChained s chain) where
    abbrev shorter : Chain
    shorter = without_first node.next chain

    keyed-were : keyed_values s chain.count chain.head
        ≡ (chain.head, node.value) ∷ keyed_values s shorter.count node.next
    keyed-were =
        let more : chain.count ≡ suc (chain.count - 1) = omega (arith, some) in
        ap (λ n. keyed_values s n chain.head) more
        ∙ ap (keyed_from s (chain.count - 1) chain.head) found

    keys-were : chain_keys s chain ≡ chain.head ∷ keys s shorter.count node.next
    keys-were = ap keys_in keyed-were

    rest-differ : Different (chain.head ∷ keys s shorter.count node.next)
    rest-differ = rw keys-were at chained.differ

    rest-all : length (keys s shorter.count node.next) ≡ shorter.count
    rest-all = let all = ap length (sym keys-were) ∙ chained.all in omega (arith, all)

    keyed-left : keyed_values t shorter.count node.next ≡ keyed_values s shorter.count node.next
    keyed-left = keyed-same s t shorter.count node.next rest-all
        (λ k there. same k (λ equal. rest-differ.0
        (subst (λ l. In l (keys s shorter.count node.next)) equal there)))

    pub values-taken : chain_values s chain ≡ node.value ∷ chain_values t shorter
    values-taken = ap (map (λ (p : ℕ × T). p.1))
        (keyed-were ∙ ap (λ rest. (chain.head, node.value) ∷ rest) (sym keyed-left))

    pub changes-taken : ChangesOne s t chain shorter
    changes-taken = record {
      chained = record {
        all = rw keyed-left rest-all;
        differ = rw keyed-left rest-differ.1;
        tail = λ n many. rw keyed-left (rw keys-were at (chained.tail (suc n) (omega (arith, many))));
      };
      others = λ k outside there. same k (λ equal. outside (rw (keys-were, equal) (inl refl)));
      from = λ k there. inl (rw keys-were (inr (rw keyed-left at there)));
    }

  -- ---- the other chains

  -- a chain is what it was beside one that changed
  module _ (s t : ℕ → Option (Node T)) (before after other : Chain) (changes : ChangesOne s t before after)
      (chained : IsChained s other) (apart : (k : ℕ) → In k (chain_keys s before) → In k (chain_keys s other) → ⊥) where
    pub keyed-stays : keyed_values t other.count other.head ≡ keyed_values s other.count other.head
    keyed-stays = keyed-same s t other.count other.head chained.all
        (λ k there. changes.others k (λ also. apart k also there) (stands s other.count other.head k there))

    pub chained-stays : IsChained t other
    chained-stays = record {
      all = rw keyed-stays chained.all;
      differ = rw keyed-stays chained.differ;
      tail = rw keyed-stays chained.tail;
    }

    pub apart-stays : (k : ℕ) → In k (chain_keys t after) → In k (chain_keys t other) → ⊥
    apart-stays k here there =
        let was = rw keyed-stays at there in
        elim (changes.from k here) [
          | inl old ↦ apart k old was
          | inr vacant ↦ stands s other.count other.head k was vacant
        ]

  -- ---- a value by its key

  -- the value that stands at a key of a chain
  pub value_at : (s : ℕ → Option (Node T)) (n key i k : ℕ) → slice_get (keys s n key) i ≡ Some k
      → option_map (λ (m : Node T). m.value) (s k) ≡ slice_get (map (λ (p : ℕ × T). p.1) (keyed_values s n key)) i
  value_at s zero key i k there = absurd (none-some k there)
  value_at s (suc n) key i k there = by (s key) refl (value_at s n) i there where
    by : (o : Option (Node T)) → s key ≡ o
        → ((next j l : ℕ) → slice_get (keys s n next) j ≡ Some l
        → option_map (λ (m : Node T). m.value) (s l) ≡ slice_get (map (λ (p : ℕ × T). p.1) (keyed_values s n next)) j)
        → (j : ℕ) → slice_get (keys_in (keyed_from s n key o)) j ≡ Some k
        → option_map (λ (m : Node T). m.value) (s k) ≡ slice_get (map (λ (p : ℕ × T). p.1) (keyed_from s n key o)) j
    by None is ih j there = absurd (none-some k there)
    by (Some m) is ih zero there =
        let same : key ≡ k = same_Some key k there in rw (← same, is) refl
    by (Some m) is ih (suc j) there = ih m.next j k there
