-- What becomes of links by number where one entry goes, and where one comes above all others.
use Rattle.std.proofs.Common.{◌≡◌, ◌≢◌, ℕ, ◌+◌, ◌<◌, ◌≤◌, ◌==◌, nat_lt, Bool, true, false, Option, Some, None, ◌⊎◌, if◌then◌else◌, refl, sym, ap, ◌∙◌, inl, inr, arith}
use Rattle.std.proofs.lemmas.Bool.{cases_eq, cases_lt}
use Rattle.std.proofs.lemmas.Bool.Decides.{nat_tests}
use Rattle.std.proofs.lemmas.Option.{none-some, same_Some}
use Rattle.gptp_scheduler.specs.Numbers.{Least, Greatest}
use Rattle.gptp_scheduler.specs.Chain.{leads, leads_nowhere, bypass, fill}
use Rattle.gptp_scheduler.specs.declared.key.Key.{Key}

pub both_tests : (a b : Bool) → (a ≡ true → b ≡ true) → (b ≡ true → a ≡ true) → a ≡ b
both_tests true b f g = sym (f refl)
both_tests false true f g = g refl
both_tests false false f g = refl

test : (a b : ℕ) → a ≡ b → (a == b) ≡ true
test a b same = grind (arith, nat_tests)

pub tested : (a b : ℕ) → (a == b) ≡ true → a ≡ b
tested a b same = grind (arith, nat_tests)

pub differ : (a b : ℕ) → (a == b) ≡ false → a ≢ b
differ a b test same = grind (arith, nat_tests)

pub less_than : (a b : ℕ) → nat_lt a b ≡ true → a < b
less_than a b test = grind (arith, nat_tests)

pub no_less : (a b : ℕ) → nat_lt a b ≡ false → b ≤ a
no_less a b test = grind (arith, nat_tests)

-- the entry of one number is gone, and no number stands twice
pub record Goes (f g : ℕ → Option ℕ) (key number : ℕ) : Type 0 where
  pub was : f key ≡ Some number
  pub gone : g key ≡ None
  pub others : (k : ℕ) → k ≢ key → g k ≡ f k
  pub unique : (j k n : ℕ) → f j ≡ Some n → f k ≡ Some n → j ≡ k

-- an entry has come, above all others
pub record Comes (f g : ℕ → Option ℕ) (key number : ℕ) : Type 0 where
  pub none : f key ≡ None
  pub came : g key ≡ Some number
  pub others : (k : ℕ) → k ≢ key → g k ≡ f k
  pub above : (k n : ℕ) → f k ≡ Some n → n < number

-- ---- the same numbers

module _ (f g : ℕ → Option ℕ) (same : (k : ℕ) → g k ≡ f k) where
  pub least-same : (low : ℕ) (link : Option Key) → Least f low link → Least g low link
  least-same low None h = λ k n is. h k n (sym (same k) ∙ is)
  least-same low (Some key) h = record {
    number = h.number;
    at = same key.place ∙ h.at;
    from = h.from;
    least = λ k n is. h.least k n (sym (same k) ∙ is);
  }

  pub greatest-same : (high : ℕ) (link : Option Key) → Greatest f high link → Greatest g high link
  greatest-same high None h = λ k n is. h k n (sym (same k) ∙ is)
  greatest-same high (Some key) h = record {
    number = h.number;
    at = same key.place ∙ h.at;
    below = h.below;
    greatest = λ k n is. h.greatest k n (sym (same k) ∙ is);
  }

-- ---- neighbours

module _ (f : ℕ → Option ℕ) (unique : (j k n : ℕ) → f j ≡ Some n → f k ≡ Some n → j ≡ k)
    (key number : ℕ) (at : f key ≡ Some number) where
  at_key : (k n : ℕ) → f k ≡ Some n → n ≡ number → k ≡ key
  at_key k n is same = unique k key n is (at ∙ ap Some (sym same))

  number_at : (k n : ℕ) → f k ≡ Some n → key ≡ k → n ≡ number
  number_at k n is same = same_Some n number (sym is ∙ ap f (sym same) ∙ at)

  module _ (m other : ℕ) (there : f m ≡ Some other) where
    behind : (after before : Option Key) → Least f (other + 1) after → Greatest f number before
        → leads after key ≡ true → leads before m ≡ true
    behind None before h i t = cc
    behind (Some l) None h i t =
        let same = number_at l.place h.number h.at (tested key l.place t) in let from = h.from in
        let up = i m other there in absurd (omega arith)
    behind (Some l) (Some p) h i t =
        let same = number_at l.place h.number h.at (tested key l.place t) in let from = h.from in
        let below = i.below in
        let up = i.greatest m other there (omega arith) in
        let is : i.number ≡ other = elim (cases_lt other i.number) [
          | inl more ↦ absurd (let least = h.least p.place i.number i.at (omega arith) in omega arith)
          | inr less ↦ omega arith
        ] in
        test m p.place (unique m p.place other there (i.at ∙ ap Some is))

    ahead : (after before : Option Key) → Least f (other + 1) after → Greatest f number before
        → leads before m ≡ true → leads after key ≡ true
    ahead after None h i t = cc
    ahead None (Some p) h i t =
        let is = same_Some i.number other (sym i.at ∙ ap f (sym (tested m p.place t)) ∙ there) in
        let below = i.below in let up = h key number at in absurd (omega arith)
    ahead (Some l) (Some p) h i t =
        let is = same_Some i.number other (sym i.at ∙ ap f (sym (tested m p.place t)) ∙ there) in
        let below = i.below in let from = h.from in
        let down = h.least key number at (omega arith) in
        let same : h.number ≡ number = elim (cases_lt h.number number) [
          | inl less ↦ absurd (let greatest = i.greatest l.place h.number h.at less in omega arith)
          | inr more ↦ omega arith
        ] in
        test key l.place (sym (at_key l.place h.number h.at same))

    -- one comes after another exactly where that stands before it
    pub adjacent : (after before : Option Key) → Least f (other + 1) after → Greatest f number before
        → leads after key ≡ leads before m
    adjacent after before h i = both_tests _ _ (behind after before h i) (ahead after before h i)

  first-none : (first before : Option Key) → Least f 0 first → Greatest f number before
      → leads first key ≡ true → leads_nowhere before ≡ true
  first-none None before h i t = cc
  first-none (Some l) None h i t = refl
  first-none (Some l) (Some p) h i t =
      let same = number_at l.place h.number h.at (tested key l.place t) in let below = i.below in
      let least = h.least p.place i.number i.at (omega arith) in absurd (omega arith)

  none-first : (first before : Option Key) → Least f 0 first → Greatest f number before
      → leads_nowhere before ≡ true → leads first key ≡ true
  none-first first (Some p) h i t = cc
  none-first None None h i t = let low = h key number at in absurd (omega arith)
  none-first (Some l) None h i t =
      let least = h.least key number at (omega arith) in let up = i l.place h.number h.at in
      test key l.place (sym (at_key l.place h.number h.at (omega arith)))

  -- one is the first exactly where nothing stands before it
  pub adjacent-first : (first before : Option Key) → Least f 0 first → Greatest f number before
      → leads first key ≡ leads_nowhere before
  adjacent-first first before h i = both_tests _ _ (first-none first before h i) (none-first first before h i)

  module _ (high : ℕ) (small : (k n : ℕ) → f k ≡ Some n → n < high) where
    last-none : (last after : Option Key) → Greatest f high last → Least f (number + 1) after
        → leads last key ≡ true → leads_nowhere after ≡ true
    last-none None after h i t = cc
    last-none (Some l) None h i t = refl
    last-none (Some l) (Some p) h i t =
        let same = number_at l.place h.number h.at (tested key l.place t) in let from = i.from in
        let greatest = h.greatest p.place i.number i.at (small p.place i.number i.at) in absurd (omega arith)

    none-last : (last after : Option Key) → Greatest f high last → Least f (number + 1) after
        → leads_nowhere after ≡ true → leads last key ≡ true
    none-last last (Some p) h i t = cc
    none-last None None h i t = let up = h key number at in let less = small key number at in absurd (omega arith)
    none-last (Some l) None h i t =
        let greatest = h.greatest key number at (small key number at) in let low = i l.place h.number h.at in
        test key l.place (sym (at_key l.place h.number h.at (omega arith)))

    -- one is the last exactly where nothing comes after it
    pub adjacent-last : (last after : Option Key) → Greatest f high last → Least f (number + 1) after
        → leads last key ≡ leads_nowhere after
    adjacent-last last after h i = both_tests _ _ (last-none last after h i) (none-last last after h i)

-- ---- one goes

module _ (f g : ℕ → Option ℕ) (key number : ℕ) (goes : Goes f g key number) where
  left : (k n : ℕ) → g k ≡ Some n → (f k ≡ Some n) × (k ≢ key)
  left k n is = elim (cases_eq k key) [
    | inl same ↦ absurd (none-some n (sym goes.gone ∙ sym (ap g same) ∙ is))
    | inr differs ↦ (sym (goes.others k differs) ∙ is, differs)
  ]

  other_number : (k n : ℕ) → f k ≡ Some n → k ≢ key → n ≢ number
  other_number k n is differs same = differs (goes.unique k key n is (goes.was ∙ ap Some (sym same)))

  -- it has that number
  its_number : (k n : ℕ) → f k ≡ Some n → key ≡ k → n ≡ number
  its_number k n is same = same_Some n number (sym is ∙ ap f (sym same) ∙ goes.was)

  module _ (low : ℕ) (from : low ≤ number) (least : (k n : ℕ) → f k ≡ Some n → low ≤ n → number ≤ n) where
    least-beyond : (other : Option Key) → Least f (number + 1) other → Least g low other
    least-beyond None after = λ k n is.
        let was = left k n is in
        let less = after k n was.0 in let differs = other_number k n was.0 was.1 in
        elim (cases_lt n low) [ inl below ↦ below | inr above ↦ let up = least k n was.0 above in absurd (omega arith) ]
    least-beyond (Some o) after = record {
      number = after.number;
      at = goes.others o.place (λ same.
          let is = its_number o.place after.number after.at (sym same) in let up = after.from in omega arith)
          ∙ after.at;
      from = let up = after.from in omega arith;
      least = λ k n is above.
          let was = left k n is in
          let up = least k n was.0 above in let differs = other_number k n was.0 was.1 in
          after.least k n was.0 (omega arith);
    }

  pub least-bypassed : (other : Option Key) (low : ℕ) (link : Option Key) → Least f (number + 1) other
      → Least f low link → Least g low (bypass key other link)
  least-bypassed other low None after h = λ k n is. h k n (left k n is).0
  least-bypassed other low (Some link) after h = by (key == link.place) refl where
    by : (t : Bool) → (key == link.place) ≡ t → Least g low (if t then other else Some link)
    by true t =
        let same = its_number link.place h.number h.at (tested key link.place t) in let up = h.from in
        least-beyond low (omega arith) (λ k n is above. let least = h.least k n is above in omega arith) other after
    by false t = record {
      number = h.number;
      at = goes.others link.place (λ same. differ key link.place t (sym same)) ∙ h.at;
      from = h.from;
      least = λ k n is. h.least k n (left k n is).0;
    }

  module _ (high : ℕ) (below : number < high) (greatest : (k n : ℕ) → f k ≡ Some n → n < high → n ≤ number) where
    greatest-beyond : (other : Option Key) → Greatest f number other → Greatest g high other
    greatest-beyond None before = λ k n is.
        let was = left k n is in
        let more = before k n was.0 in let differs = other_number k n was.0 was.1 in
        elim (cases_lt n high) [
          | inl under ↦ let down = greatest k n was.0 under in absurd (omega arith)
          | inr above ↦ above
        ]
    greatest-beyond (Some o) before = record {
      number = before.number;
      at = goes.others o.place (λ same.
          let is = its_number o.place before.number before.at (sym same) in let down = before.below in omega arith)
          ∙ before.at;
      below = let down = before.below in omega arith;
      greatest = λ k n is under.
          let was = left k n is in
          let down = greatest k n was.0 under in let differs = other_number k n was.0 was.1 in
          before.greatest k n was.0 (omega arith);
    }

  pub greatest-bypassed : (other : Option Key) (high : ℕ) (link : Option Key) → Greatest f number other
      → Greatest f high link → Greatest g high (bypass key other link)
  greatest-bypassed other high None before h = λ k n is. h k n (left k n is).0
  greatest-bypassed other high (Some link) before h = by (key == link.place) refl where
    by : (t : Bool) → (key == link.place) ≡ t → Greatest g high (if t then other else Some link)
    by true t =
        let same = its_number link.place h.number h.at (tested key link.place t) in let down = h.below in
        greatest-beyond high (omega arith) (λ k n is under. let greatest = h.greatest k n is under in omega arith) other
        before
    by false t = record {
      number = h.number;
      at = goes.others link.place (λ same. differ key link.place t (sym same)) ∙ h.at;
      below = h.below;
      greatest = λ k n is. h.greatest k n (left k n is).0;
    }

-- ---- one comes

module _ (f g : ℕ → Option ℕ) (key number : ℕ) (comes : Comes f g key number) where
  -- it is the one that came, or one that was there, with a lower number
  arrived : (k n : ℕ) → g k ≡ Some n → ((k ≡ key) × (n ≡ number)) ⊎ ((f k ≡ Some n) × (n < number))
  arrived k n is = elim (cases_eq k key) [
    | inl same ↦ inl (same, same_Some n number (sym is ∙ ap g same ∙ comes.came))
    | inr differs ↦ let was = sym (comes.others k differs) ∙ is in inr (was, comes.above k n was)
  ]

  still : (k n : ℕ) → f k ≡ Some n → g k ≡ Some n
  still k n is = elim (cases_eq k key) [
    | inl same ↦ absurd (none-some n (sym comes.none ∙ sym (ap f same) ∙ is))
    | inr differs ↦ comes.others k differs ∙ is
  ]

  pub least-filled : (low : ℕ) (link : Option Key) (new : Key) → new.place ≡ key → low ≤ number → Least f low link
      → Least g low (fill link new)
  least-filled low None new at below h = record {
    number = number;
    at = ap g at ∙ comes.came;
    from = below;
    least = λ k n is above. elim (arrived k n is) [
      | inl one ↦ omega (arith, one.1)
      | inr was ↦ absurd (let up = h k n was.0 in omega arith)
    ];
  }
  least-filled low (Some link) new at below h = record {
    number = h.number;
    at = still link.place h.number h.at;
    from = h.from;
    least = λ k n is above. elim (arrived k n is) [
      | inl one ↦ let less = comes.above link.place h.number h.at in omega (arith, one.1)
      | inr was ↦ h.least k n was.0 above
    ];
  }

  pub least-behind : Least g (number + 1) None
  least-behind k n is = elim (arrived k n is) [ inl one ↦ omega (arith, one.1) | inr was ↦ omega (arith, was.1) ]

  pub greatest-last : (high : ℕ) (new : Key) → new.place ≡ key → number < high → Greatest g high (Some new)
  greatest-last high new at below = record {
    number = number;
    at = ap g at ∙ comes.came;
    below = below;
    greatest = λ k n is under. elim (arrived k n is)
        [ inl one ↦ omega (arith, one.1) | inr was ↦ omega (arith, was.1) ];
  }

  pub greatest-before : (high : ℕ) (last : Option Key) → ((k n : ℕ) → f k ≡ Some n → n < high) → Greatest f high last
      → Greatest g number last
  greatest-before high None small h = λ k n is. elim (arrived k n is) [
    | inl one ↦ omega (arith, one.1)
    | inr was ↦ absurd (let up = h k n was.0 in let low = small k n was.0 in omega arith)
  ]
  greatest-before high (Some last) small h = record {
    number = h.number;
    at = still last.place h.number h.at;
    below = comes.above last.place h.number h.at;
    greatest = λ k n is under. elim (arrived k n is) [
      | inl one ↦ absurd (omega (arith, one.1))
      | inr was ↦ h.greatest k n was.0 (small k n was.0)
    ];
  }

  pub greatest-kept : (high : ℕ) (link : Option Key) → high ≤ number → Greatest f high link → Greatest g high link
  greatest-kept high None below h = λ k n is. elim (arrived k n is) [
    | inl one ↦ omega (arith, one.1)
    | inr was ↦ h k n was.0
  ]
  greatest-kept high (Some link) below h = record {
    number = h.number;
    at = still link.place h.number h.at;
    below = h.below;
    greatest = λ k n is under. elim (arrived k n is) [
      | inl one ↦ absurd (omega (arith, one.1))
      | inr was ↦ h.greatest k n was.0 under
    ];
  }
