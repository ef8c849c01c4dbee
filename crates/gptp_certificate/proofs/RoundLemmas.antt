-- After as many rounds as there are places the least value that comes over so many links stands at each.
use Rattle.std.proofs.Common.{◌≡◌, ◌≢◌, ◌⊎◌, ◌+◌, ◌*◌, ◌<◌, ◌≤◌, ℕ, zero, suc, List, [], ◌∷◌, ◌++◌, length, take, Some, slice_get, slice_set, slice_index_or, refl, sym, ap, subst, ◌∙◌, inl, inr, arith}
use Rattle.std.proofs.lemmas.List.{length-set}
use Rattle.gptp_lists.specs.Members.{In}
use Rattle.std.proofs.lemmas.Option.{slice_get-get_or}
use Rattle.gptp_lists.proofs.MappedLemmas.{taken}
use Rattle.gptp_lists.proofs.SystemSpecLemmas.{In-parts, In-slice_get}
use Rattle.gptp_lists.proofs.PlaceLemmas.{get-set_same, read, same_place}
use Rattle.std.proofs.lemmas.List.{get_or-set_other}
use Rattle.gptp_certificate.specs.Rounds.{value, LinksAreWithin, CameOver, HasCome, Leads, PassRound, ValuesPass, LinkTouches}

-- ---- over one link

module _ (step a b x y : ℕ) (xs : List ℕ) (at_a : slice_get xs a ≡ Some x) (at_b : slice_get xs b ≡ Some y) where
  is_a : value xs a ≡ x
  is_a = read xs a x 0 at_a

  is_b : value xs b ≡ y
  is_b = read xs b y 0 at_b

  set_at : (i z new : ℕ) → slice_get xs i ≡ Some z → value (slice_set xs i new) i ≡ new
  set_at i z new at = read (slice_set xs i new) i new 0 (get-set_same xs i z new at)

  -- the value at b is the lesser
  pub passes_to_a : y + step < x → ValuesPass step a b xs (slice_set xs a (y + step))
  passes_to_a lower = record {
    long = length-set xs a (y + step);
    less = λ i. by i (same_place i a);
    meets_a = let new = set_at a x (y + step) at_a in let there = is_b in omega arith;
    meets_b = at_other (same_place b a);
    from = λ i. came i (same_place i a);
  }
    where
      by : (i : ℕ) → (i ≡ a) ⊎ (i ≢ a) → value (slice_set xs a (y + step)) i ≤ value xs i
      by i (inl same) =
          let new = set_at a x (y + step) at_a in let old = is_a in
          rw same (omega arith)
      by i (inr apart) = let other = get_or-set_other xs a i (y + step) 0 apart in omega arith

      at_other : (b ≡ a) ⊎ (b ≢ a) → value (slice_set xs a (y + step)) b ≤ value xs a + step
      at_other (inl same) =
          let alike : value xs b ≡ value xs a = ap (value xs) same in
          let here = is_a in let there = is_b in absurd (omega arith)
      at_other (inr apart) =
          let other = get_or-set_other xs a b (y + step) 0 apart in
          let here = is_a in let there = is_b in omega arith

      came : (i : ℕ) → (i ≡ a) ⊎ (i ≢ a) → (value (slice_set xs a (y + step)) i ≡ value xs i)
          ⊎ ((i ≡ a) × (value (slice_set xs a (y + step)) i ≡ value xs b + step))
          ⊎ ((i ≡ b) × (value (slice_set xs a (y + step)) i ≡ value xs a + step))
      came i (inl same) =
          let new = set_at a x (y + step) at_a in let there = is_b in
          inr (inl (same, rw same (omega arith)))
      came i (inr apart) = inl (get_or-set_other xs a i (y + step) 0 apart)

-- neither is
pub passes_nothing : (step a b x y : ℕ) (xs : List ℕ) → slice_get xs a ≡ Some x → slice_get xs b ≡ Some y
    → x ≤ y + step → y ≤ x + step → ValuesPass step a b xs xs
passes_nothing step a b x y xs at_a at_b first second =
    let here = read xs a x 0 at_a in let there = read xs b y 0 at_b in
    record {
      long = refl;
      less = λ i. omega arith;
      meets_a = omega arith;
      meets_b = omega arith;
      from = λ i. inl refl;
    }

-- over a link the other way round it is the same
turned : (step a b : ℕ) (xs ys : List ℕ) → ValuesPass step a b xs ys → ValuesPass step b a xs ys
turned step a b xs ys passes = record {
  long = passes.long;
  less = passes.less;
  meets_a = passes.meets_b;
  meets_b = passes.meets_a;
  from = λ i. elim (passes.from i) [
    | inl same ↦ inl same
    | inr (inl first) ↦ inr (inr first)
    | inr (inr second) ↦ inr (inl second)
  ];
}

-- the value at a is the lesser
pub passes_to_b : (step a b x y : ℕ) (xs : List ℕ) → slice_get xs a ≡ Some x → slice_get xs b ≡ Some y
    → x + step < y → ValuesPass step a b xs (slice_set xs b (x + step))
passes_to_b step a b x y xs at_a at_b lower =
    turned step b a xs (slice_set xs b (x + step)) (passes_to_a step b a y x xs at_b at_a lower)

-- ---- over all links

pub round_begins : (step : ℕ) (xs : List ℕ) → PassRound step [] xs xs
round_begins step xs = record { long = refl; less = λ i. omega arith; meets = λ i j member. absurd member }

round_more : (step a b : ℕ) (links : List (ℕ × ℕ)) (before xs ys : List ℕ) → PassRound step links before xs
    → ValuesPass step a b xs ys → PassRound step (links ++ (a, b) ∷ []) before ys
round_more step a b links before xs ys so_far passes = record {
  long = passes.long ∙ so_far.long;
  less = λ i. (let first = so_far.less i in let then = passes.less i in omega arith);
  meets = λ i j member. (let p : ℕ × ℕ = (i, j) in by i j (In-parts p links (last ∷ []) member));
}
  where
    last : ℕ × ℕ
    last = (a, b)

    by : (i j : ℕ) → In (i, j) links ⊎ In {X = ℕ × ℕ} (i, j) (last ∷ [])
        → (value ys i ≤ value before j + step) × (value ys j ≤ value before i + step)
    by i j (inl earlier) =
        let (one, other) = so_far.meets i j earlier in
        let at_i = passes.less i in let at_j = passes.less j in
        (omega arith, omega arith)
    by i j (inr (inl same)) =
        let first : i ≡ a = ap (λ (p : ℕ × ℕ). p.0) same in
        let second : j ≡ b = ap (λ (p : ℕ × ℕ). p.1) same in
        let at_a = so_far.less a in let at_b = so_far.less b in
        let meets_a = passes.meets_a in let meets_b = passes.meets_b in
        rw (first, second) (omega arith, omega arith)
    by i j (inr (inr none)) = absurd none

-- ---- round by round

module _ (step : ℕ) (links : List (ℕ × ℕ)) (starts : List ℕ) where
  pub came_at_first : CameOver step links starts starts
  came_at_first = record { long = refl; from = λ i within. (i, 0, within, refl, omega arith) }

  -- what passes over a link has come over one more
  came_more : (a b : ℕ) (xs ys : List ℕ) → LinksAreWithin (length starts) links → In (a, b) links
      → ValuesPass step a b xs ys → CameOver step links starts xs → CameOver step links starts ys
  came_more a b xs ys within member passes came = record {
    long = passes.long ∙ came.long;
    from = λ i here. by i here (passes.from i);
  }
    where
      IsFrom : ℕ → Type 0
      IsFrom i =
          (j k : ℕ) × (j < length starts) × Leads links i j k × (value ys i ≡ value starts j + k * step)

      over : (i m : ℕ) → LinkTouches links i m → m < length starts → value ys i ≡ value xs m + step → IsFrom i
      over i m touches there is =
          let (j, k, below, leads, at) = came.from m there in
          (j, suc k, below, (m, touches, leads), omega arith)

      by : (i : ℕ) → i < length starts → (value ys i ≡ value xs i)
          ⊎ ((i ≡ a) × (value ys i ≡ value xs b + step)) ⊎ ((i ≡ b) × (value ys i ≡ value xs a + step)) → IsFrom i
      by i here (inl same) = let (j, k, below, leads, at) = came.from i here in (j, k, below, leads, same ∙ at)
      by i here (inr (inl (at, is))) =
          over i b (inl (subst (λ x. In (x, b) links) (sym at) member)) (within a b member).1 is
      by i here (inr (inr (at, is))) =
          over i a (inr (subst (λ x. In (a, x) links) (sym at) member)) (within a b member).0 is

  pub come_at_first : HasCome step links starts 0 starts
  come_at_first i j zero few leads = rw leads (omega arith)
  come_at_first i j (suc k) few leads = absurd (omega arith)

  -- after one round more what one link more leads to has come
  pub come_more : (rounds : ℕ) (xs ys : List ℕ) → HasCome step links starts rounds xs → PassRound step links xs ys
      → HasCome step links starts (rounds + 1) ys
  come_more rounds xs ys come round i j zero few leads =
      let before = come i j 0 (omega arith) leads in let less = round.less i in omega arith
  come_more rounds xs ys come round i j (suc k) few (m, touches, leads) =
      let before = come m j k (omega arith) leads in
      let meets : value ys i ≤ value xs m + step = elim touches [
        | inl member ↦ (round.meets i m member).0
        | inr member ↦ (round.meets m i member).1
      ] in
      omega arith

-- ---- link by link

-- the link at a place
abbrev pub link_at : List (ℕ × ℕ) → ℕ → ℕ × ℕ
link_at links k = slice_index_or links k (0, 0)

there : (links : List (ℕ × ℕ)) (k : ℕ) → k < length links → slice_get links k ≡ Some (link_at links k)
there links k below = slice_get-get_or links k (0, 0) below

among : (links : List (ℕ × ℕ)) (k : ℕ) → k < length links → In (link_at links k) links
among links k below = In-slice_get (link_at links k) links k (there links k below)

pub ends_within : (n : ℕ) (links : List (ℕ × ℕ)) (k : ℕ) → LinksAreWithin n links → k < length links
    → ((link_at links k).0 < n) × ((link_at links k).1 < n)
ends_within n links k within below = within (link_at links k).0 (link_at links k).1 (among links k below)

pub round_next : (step : ℕ) (links : List (ℕ × ℕ)) (k : ℕ) (before xs ys : List ℕ) → k < length links
    → PassRound step (take k links) before xs → ValuesPass step (link_at links k).0 (link_at links k).1 xs ys
    → PassRound step (take (k + 1) links) before ys
round_next step links k before xs ys below so_far passes =
    subst (λ ls. PassRound step ls before ys) (sym (taken links k (link_at links k) (there links k below)))
    (round_more step (link_at links k).0 (link_at links k).1 (take k links) before xs ys so_far passes)

pub came_next : (step : ℕ) (links : List (ℕ × ℕ)) (k : ℕ) (starts first xs ys : List ℕ)
    → LinksAreWithin (length first) links → k < length links → CameOver step links starts first
    → ValuesPass step (link_at links k).0 (link_at links k).1 xs ys → CameOver step links starts xs
    → CameOver step links starts ys
came_next step links k starts first xs ys within below from passes =
    came_more step links starts (link_at links k).0 (link_at links k).1 xs ys
    (subst (λ n. LinksAreWithin n links) from.long within) (among links k below) passes
