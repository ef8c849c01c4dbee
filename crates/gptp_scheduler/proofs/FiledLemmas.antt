-- What the numbers that were filed list, and how they are found.
use Rattle.std.proofs.Common.{◌≡◌, ◌≢◌, ℕ, ◌+◌, ◌<◌, ◌≤◌, ◌==◌, nat_lt, Bool, true, false, List, [], ◌∷◌, ◌++◌, length, get_or, filter, Option, Some, None, if◌then◌else◌, refl, sym, ap, ◌∙◌, subst, inl, inr, arith}
use Prim.Native.Nat.{zero, suc}
use Rattle.std.proofs.lemmas.Bool.{cases_eq, cases_lt}
use Rattle.std.proofs.lemmas.Bool.Decides.{nat_tests}
use Rattle.std.proofs.lemmas.List.Elements.{All-cons, All-nil}
use Rattle.std.proofs.lemmas.Option.{none-some, same_Some}
use Rattle.std.specs.List.{All}
use Rattle.gptp_scheduler.specs.Pending.{AgendaEntry, entry_at, without_number, RiseFrom}
use Rattle.gptp_scheduler.specs.Chain.{held}
use Rattle.gptp_scheduler.specs.Wheel.{Puts, TakesEntry}
use Rattle.gptp_scheduler.specs.Filed.{filed_at, listed, live, entry_lives, living, AreFiled, IsInSlab, Rises}
use Rattle.gptp_scheduler.specs.declared.filed.Filed.{Filed}
use Rattle.gptp_scheduler.specs.declared.key.Node.{Node}
use Rattle.gptp_scheduler.proofs.EntryLemmas.{without-other_head}

-- ---- numbers that rise

pub rises-weaken : (low : ℕ) (fs : List Filed) (next less : ℕ) → less ≤ low → Rises low fs next → Rises less fs next
rises-weaken low [] next less h rises = omega arith
rises-weaken low (f ∷ fs) next less h rises = let from : low ≤ f.number = rises.0 in (omega arith, rises.1)

rises-from : (low : ℕ) (fs : List Filed) (next i : ℕ) (d : Filed) → Rises low fs next → i < length fs
    → low ≤ (get_or fs i d).number
rises-from low [] next i d rises h = absurd (omega arith)
rises-from low (f ∷ fs) next zero d rises h = rises.0
rises-from low (f ∷ fs) next (suc i) d rises h =
    let from : low ≤ f.number = rises.0 in let up = rises-from (f.number + 1) fs next i d rises.1 (omega arith) in
    omega arith

pub rises-order : (low : ℕ) (fs : List Filed) (next i j : ℕ) (d : Filed) → Rises low fs next → i ≤ j → j < length fs
    → (get_or fs i d).number ≤ (get_or fs j d).number
rises-order low [] next i j d rises h w = absurd (omega arith)
rises-order low (f ∷ fs) next zero zero d rises h w = omega arith
rises-order low (f ∷ fs) next zero (suc j) d rises h w =
    let up = rises-from (f.number + 1) fs next j d rises.1 (omega arith) in omega arith
rises-order low (f ∷ fs) next (suc i) zero d rises h w = absurd (omega arith)
rises-order low (f ∷ fs) next (suc i) (suc j) d rises h w =
    rises-order (f.number + 1) fs next i j d rises.1 (omega arith) (omega arith)

pub rises-push : (low : ℕ) (fs : List Filed) (f : Filed) (next : ℕ) → f.number ≡ next → Rises low fs next
    → Rises low (fs ++ f ∷ []) (next + 1)
rises-push low [] f next is rises = (omega arith, omega arith)
rises-push low (x ∷ fs) f next is rises = (rises.0, rises-push (x.number + 1) fs f next is rises.1)

pub below-next : (low : ℕ) (fs : List Filed) (next : ℕ) (f : Filed) → Rises low fs next → IsInSlab f fs
    → (low ≤ f.number) × (f.number < next)
below-next low [] next f rises at = absurd at
below-next low (x ∷ fs) next f rises (inl same) =
    let from : low ≤ x.number = rises.0 in let is : x.number ≡ f.number = ap (λ y. y.number) same in
    (omega arith, let up = low-next (x.number + 1) fs next rises.1 in omega arith) where
      low-next : (low : ℕ) (fs : List Filed) (next : ℕ) → Rises low fs next → low ≤ next
      low-next low [] next rises = rises
      low-next low (f ∷ fs) next rises =
          let from : low ≤ f.number = rises.0 in let up = low-next (f.number + 1) fs next rises.1 in omega arith
below-next low (x ∷ fs) next f rises (inr at) =
    let from : low ≤ x.number = rises.0 in
    let up = below-next (x.number + 1) fs next f rises.1 at in (omega (arith, up.0), up.1)

-- ---- the place of a number

pub rises-parted : (fs : List Filed) (next number i j : ℕ) (d : Filed) → Rises 0 fs next → i ≤ j → j < length fs
    → nat_lt (get_or fs j d).number number ≡ true → nat_lt (get_or fs i d).number number ≡ true
rises-parted fs next number i j d rises h w below =
    let less = rises-order 0 fs next i j d rises h w in grind (arith, nat_tests)

pub in-at : (fs : List Filed) (i : ℕ) (d : Filed) → i < length fs → IsInSlab (get_or fs i d) fs
in-at [] i d h = absurd (omega arith)
in-at (f ∷ fs) zero d h = inl refl
in-at (f ∷ fs) (suc i) d h = inr (in-at fs i d (omega arith))

in-index : (fs : List Filed) (f : Filed) → IsInSlab f fs → (i : ℕ) × (i < length fs) × (get_or fs i f ≡ f)
in-index [] f at = absurd at
in-index (x ∷ fs) f (inl same) = (0, omega arith, same)
in-index (x ∷ fs) f (inr at) = let one = in-index fs f at in (suc one.0, omega (arith, one.1), one.2)

pub not-filed : (fs : List Filed) (next number place : ℕ) → Rises 0 fs next
    → ((k : ℕ) (e : Filed) → 0 ≤ k → k < place → nat_lt (get_or fs k e).number number ≡ true)
    → ((k : ℕ) (e : Filed) → place ≤ k → k < length fs → nat_lt (get_or fs k e).number number ≡ false)
    → (place < length fs → (e : Filed) → (get_or fs place e).number ≢ number)
    → (key : ℕ) → IsInSlab (filed_at number key) fs → ⊥
not-filed fs next number place rises below from differs key at =
    let one = in-index fs (filed_at number key) at in
    let i = one.0 in
    let is : (get_or fs i (filed_at number key)).number ≡ number = ap (λ f. f.number) one.2 in
    elim (cases_lt i place) [
      | inl before ↦
          let less = below i (filed_at number key) (omega arith) before in no-less _ _ less is
      | inr after ↦
          let within : place < length fs = omega (arith, one.1) in
          let more = at-least _ _ (from place (filed_at number key) (omega arith) within) in
          let order = rises-order 0 fs next place i (filed_at number key) rises after one.1 in
          differs within (filed_at number key) (omega arith)
    ] where
      no-less : (a b : ℕ) → nat_lt a b ≡ true → a ≡ b → ⊥
      no-less a b less same = grind (arith, nat_tests)

      at-least : (a b : ℕ) → nat_lt a b ≡ false → b ≤ a
      at-least a b more = grind (arith, nat_tests)

pub is-filed : (number : ℕ) (f : Filed) (fs : List Filed) → f.number ≡ number → IsInSlab f fs
    → IsInSlab (filed_at number f.key.place) fs
is-filed number f fs same at = subst (λ n. IsInSlab (filed_at n f.key.place) fs) same at

-- ---- what is listed

module _ {T : Type 0} where
  entry-live : (number n : ℕ) (o : Option (AgendaEntry T)) (es : List (AgendaEntry T)) → number ≢ n
      → entry_at (live number o ++ es) n ≡ entry_at es n
  entry-live number n None es differs = refl
  entry-live number n (Some e) es differs = by (e.number == number) refl where
    by : (t : Bool) → (e.number == number) ≡ t → entry_at ((if t then e ∷ [] else []) ++ es) n ≡ entry_at es n
    by true t = grind (arith, nat_tests)
    by false t = refl

  entry-living : (n : ℕ) (o : Option (AgendaEntry T)) (es : List (AgendaEntry T)) → entry_at es n ≡ None
      → entry_at (live n o ++ es) n ≡ living n o
  entry-living n None es none = none
  entry-living n (Some e) es none = by (e.number == n) refl where
    by : (t : Bool) → (e.number == n) ≡ t
        → entry_at ((if t then e ∷ [] else []) ++ es) n ≡ (if t then Some e else None)
    by true t = grind (arith, nat_tests)
    by false t = none

  without-live : (number n : ℕ) (o : Option (AgendaEntry T)) (es : List (AgendaEntry T)) → number ≢ n
      → without_number n (live number o ++ es) ≡ live number o ++ without_number n es
  without-live number n None es differs = refl
  without-live number n (Some e) es differs = by (e.number == number) refl where
    by : (t : Bool) → (e.number == number) ≡ t
        → without_number n ((if t then e ∷ [] else []) ++ es) ≡ (if t then e ∷ [] else []) ++ without_number n es
    by true t = without-other_head e es n (λ same. grind (arith, nat_tests, same))
    by false t = refl

  without-living : (n : ℕ) (o : Option (AgendaEntry T)) (es : List (AgendaEntry T)) → entry_at es n ≡ None
      → without_number n (live n o ++ es) ≡ without_number n es
  without-living n None es none = refl
  without-living n (Some e) es none = by (e.number == n) refl where
    by : (t : Bool) → (e.number == n) ≡ t → without_number n ((if t then e ∷ [] else []) ++ es) ≡ without_number n es
    by true t = grind (arith, nat_tests)
    by false t = refl

  live-one : (n : ℕ) (e : AgendaEntry T) → e.number ≡ n → live n (Some e) ≡ e ∷ []
  live-one n e same = grind (arith, nat_tests)

  live-dead : (n : ℕ) (e : AgendaEntry T) → e.number ≢ n → live n (Some e) ≡ []
  live-dead n e differs = grind (arith, nat_tests)

  append-assoc : (a b c : List (AgendaEntry T)) → (a ++ b) ++ c ≡ a ++ (b ++ c)
  append-assoc [] b c = refl
  append-assoc (x ∷ a) b c = ap (λ xs. x ∷ xs) (append-assoc a b c)

  module _ (nodes : ℕ → Option (Node T)) where
    -- no entry has a number that isn't filed
    pub entry-nowhere : (fs : List Filed) (n : ℕ) → ((key : ℕ) → IsInSlab (filed_at n key) fs → ⊥)
        → entry_at (listed nodes fs) n ≡ None
    entry-nowhere [] n never = refl
    entry-nowhere (f ∷ fs) n never =
        entry-live f.number n (held nodes f.key.place) (listed nodes fs)
        (λ same. never f.key.place (is-filed n f (f ∷ fs) same (inl refl)))
        ∙ entry-nowhere fs n (λ key at. never key (inr at))

    above-low : (low : ℕ) (fs : List Filed) (next n : ℕ) → Rises low fs next → n < low → (key : ℕ)
        → IsInSlab (filed_at n key) fs → ⊥
    above-low low fs next n rises less key at =
        let up = below-next low fs next (filed_at n key) rises at in omega (arith, up.0)

    -- the entry of a number that is filed
    pub entry-found : (low : ℕ) (fs : List Filed) (next n key : ℕ) → Rises low fs next → IsInSlab (filed_at n key) fs
        → entry_at (listed nodes fs) n ≡ living n (held nodes key)
    entry-found low [] next n key rises at = absurd at
    entry-found low (f ∷ fs) next n key rises (inl same) =
        let is : f.number ≡ n = ap (λ x. x.number) same in
        let place : f.key.place ≡ key = ap (λ x. x.key.place) same in
        let none = entry-nowhere fs n (above-low (f.number + 1) fs next n rises.1 (omega arith)) in
        ap (λ m. entry_at (live m (held nodes f.key.place) ++ listed nodes fs) n) is
        ∙ entry-living n (held nodes f.key.place) (listed nodes fs) none ∙ ap (λ k. living n (held nodes k)) place
    entry-found low (f ∷ fs) next n key rises (inr at) =
        let up = below-next (f.number + 1) fs next (filed_at n key) rises.1 at in
        entry-live f.number n (held nodes f.key.place) (listed nodes fs) (λ same. omega (arith, up.0, same))
        ∙ entry-found (f.number + 1) fs next n key rises.1 at

    all-step : (P : AgendaEntry T → Type 0) (n : ℕ) (o : Option (AgendaEntry T)) (es : List (AgendaEntry T))
        → ((e : AgendaEntry T) → o ≡ Some e → P e) → All P es → All P (live n o ++ es)
    all-step P n None es each rest = rest
    all-step P n (Some e) es each rest = one (e.number == n) where
      one : (t : Bool) → All P ((if t then e ∷ [] else []) ++ es)
      one true = All-cons P e es (each e refl) rest
      one false = rest

    -- what holds of each entry holds of what is listed
    pub listed-all : (P : AgendaEntry T → Type 0) → ((k : ℕ) (e : AgendaEntry T) → held nodes k ≡ Some e → P e)
        → (fs : List Filed)
        → All P (listed nodes fs)
    listed-all P each [] = All-nil P
    listed-all P each (f ∷ fs) =
        all-step P f.number (held nodes f.key.place) (listed nodes fs) (each f.key.place) (listed-all P each fs)

    pub listed-none : ((k : ℕ) → held nodes k ≡ None) → (fs : List Filed) → listed nodes fs ≡ []
    listed-none none [] = refl
    listed-none none (f ∷ fs) =
        ap (λ o. live f.number o ++ listed nodes fs) (none f.key.place) ∙ listed-none none fs

    rise-weaken : (less : ℕ) (es : List (AgendaEntry T)) (low next : ℕ) → less ≤ low → RiseFrom low es next
        → RiseFrom less es next
    rise-weaken less [] low next h up = omega arith
    rise-weaken less (e ∷ es) low next h up = let from : low ≤ e.number = up.0 in (omega arith, up.1)

    rise-step : (low n next : ℕ) (o : Option (AgendaEntry T)) (es : List (AgendaEntry T)) → low ≤ n
        → RiseFrom (n + 1) es next
        → RiseFrom low (live n o ++ es) next
    rise-step low n next None es from rest = rise-weaken low es (n + 1) next (omega arith) rest
    rise-step low n next (Some e) es from rest = one (e.number == n) refl where
      one : (t : Bool) → (e.number == n) ≡ t → RiseFrom low ((if t then e ∷ [] else []) ++ es) next
      one true t =
          let same : e.number ≡ n = grind (arith, nat_tests) in
          (omega arith, subst (λ m. RiseFrom (m + 1) es next) (sym same) rest)
      one false t = rise-weaken low es (n + 1) next (omega arith) rest

    pub listed-rise : (low : ℕ) (fs : List Filed) (next : ℕ) → Rises low fs next → RiseFrom low (listed nodes fs) next
    listed-rise low [] next rises = rises
    listed-rise low (f ∷ fs) next rises =
        rise-step low f.number next (held nodes f.key.place) (listed nodes fs) rises.0
        (listed-rise (f.number + 1) fs next rises.1)

    -- ---- without what is gone

    abbrev pub kept : Filed → Bool
    kept f = entry_lives f.number (held nodes f.key.place)

    swept-step : (f : Filed) (o : Option (AgendaEntry T)) (fs left : List Filed) → held nodes f.key.place ≡ o
        → listed nodes left ≡ listed nodes fs
        → listed nodes (if entry_lives f.number o then f ∷ left else left) ≡ live f.number o ++ listed nodes fs
    swept-step f None fs left is ih = ih
    swept-step f (Some e) fs left is ih = one (e.number == f.number) refl where
      one : (t : Bool) → (e.number == f.number) ≡ t
          → listed nodes (if t then f ∷ left else left) ≡ (if t then e ∷ [] else []) ++ listed nodes fs
      one true t =
          ap (λ o. live f.number o ++ listed nodes left) is
          ∙ ap (λ xs. xs ++ listed nodes left) (live-one f.number e (grind (arith, nat_tests)))
          ∙ ap (λ xs. e ∷ xs) ih
      one false t = ih

    pub listed-swept : (fs : List Filed) → listed nodes (filter kept fs) ≡ listed nodes fs
    listed-swept [] = refl
    listed-swept (f ∷ fs) =
        swept-step f (held nodes f.key.place) fs (filter kept fs) refl (listed-swept fs)

    rises-step : (low next : ℕ) (f : Filed) (fs : List Filed) → low ≤ f.number → Rises (f.number + 1) fs next
        → (t : Bool)
        → Rises low (if t then f ∷ fs else fs) next
    rises-step low next f fs from rest true = (from, rest)
    rises-step low next f fs from rest false = rises-weaken (f.number + 1) fs next low (omega arith) rest

    rises-swept : (low : ℕ) (fs : List Filed) (next : ℕ) → Rises low fs next → Rises low (filter kept fs) next
    rises-swept low [] next rises = rises
    rises-swept low (f ∷ fs) next rises =
        rises-step low next f (filter kept fs) rises.0 (rises-swept (f.number + 1) fs next rises.1) (kept f)

    in-step : (f x : Filed) (fs : List Filed) → IsInSlab f fs → (t : Bool) → IsInSlab f (if t then x ∷ fs else fs)
    in-step f x fs at true = inr at
    in-step f x fs at false = at

    in-swept : (f : Filed) (fs : List Filed) → IsInSlab f fs → kept f ≡ true → IsInSlab f (filter kept fs)
    in-swept f [] at living = absurd at
    in-swept f (x ∷ fs) (inl same) living =
        subst (λ (t : Bool). IsInSlab f (if t then x ∷ filter kept fs else filter kept fs))
        (sym (ap kept same ∙ living)) (inl same)
    in-swept f (x ∷ fs) (inr at) living = in-step f x (filter kept fs) (in-swept f fs at living) (kept x)

    pub filed-swept : (fs : List Filed) (next : ℕ) → AreFiled nodes fs next → AreFiled nodes (filter kept fs) next
    filed-swept fs next filed = record {
      rising = rises-swept 0 fs next filed.rising;
      filed = λ k e is. in-swept (filed_at e.number k) fs (filed.filed k e is) (ap (entry_lives e.number) is ∙ own e);
    } where
      own : (e : AgendaEntry T) → (e.number == e.number) ≡ true
      own e = grind (arith, nat_tests)

  module _ (old new : ℕ → Option (Node T)) where
    -- ---- an entry more

    module _ (key : ℕ) (e : AgendaEntry T) (puts : Puts old new key e) where
      live-put : (f : Filed) → f.number ≢ e.number
          → live f.number (held new f.key.place) ≡ live f.number (held old f.key.place)
      live-put f differs = elim (cases_eq f.key.place key) [
        | inl same ↦
            ap (λ k. live f.number (held new k)) same ∙ ap (live f.number) puts.put
            ∙ live-dead f.number e (λ is. differs (sym is))
            ∙ sym (ap (live f.number) puts.free) ∙ ap (λ k. live f.number (held old k)) (sym same)
        | inr apart ↦ ap (live f.number) (puts.others f.key.place apart)
      ]

      pub listed-put : (low : ℕ) (fs : List Filed) → Rises low fs e.number
          → listed new (fs ++ filed_at e.number key ∷ []) ≡ listed old fs ++ e ∷ []
      listed-put low [] rises =
          ap (λ o. live e.number o ++ []) puts.put ∙ ap (λ xs. xs ++ []) (live-one e.number e refl)
      listed-put low (f ∷ fs) rises =
          let less = below-next low (f ∷ fs) e.number f rises (inl refl) in
          ap (λ xs. xs ++ listed new (fs ++ filed_at e.number key ∷ [])) (live-put f (λ is. omega (arith, less.1, is)))
          ∙ ap (λ xs. live f.number (held old f.key.place) ++ xs) (listed-put (f.number + 1) fs rises.1)
          ∙ sym (append-assoc (live f.number (held old f.key.place)) (listed old fs) (e ∷ []))

      in-append : (f : Filed) (fs gs : List Filed) → IsInSlab f fs → IsInSlab f (fs ++ gs)
      in-append f [] gs at = absurd at
      in-append f (x ∷ fs) gs (inl same) = inl same
      in-append f (x ∷ fs) gs (inr at) = inr (in-append f fs gs at)

      in-last : (f : Filed) (fs : List Filed) → IsInSlab f (fs ++ f ∷ [])
      in-last f [] = inl refl
      in-last f (x ∷ fs) = inr (in-last f fs)

      pub filed-put : (fs : List Filed) → AreFiled old fs e.number
          → AreFiled new (fs ++ filed_at e.number key ∷ []) (e.number + 1)
      filed-put fs filed = record {
        rising = rises-push 0 fs (filed_at e.number key) e.number refl filed.rising;
        filed = λ k d is. elim (cases_eq k key) [
          | inl same ↦
              let d_is : e ≡ d = same_Some e d (sym puts.put ∙ ap (held new) (sym same) ∙ is) in
              subst (λ (x : Filed). IsInSlab x (fs ++ filed_at e.number key ∷ []))
              (ap (λ (y : AgendaEntry T). filed_at y.number key) d_is ∙ ap (filed_at d.number) (sym same))
              (in-last (filed_at e.number key) fs)
          | inr apart ↦ in-append (filed_at d.number k) fs (filed_at e.number key ∷ [])
              (filed.filed k d (sym (puts.others k apart) ∙ is))
        ];
      }

    -- ---- an entry less

    module _ (key : ℕ) (e : AgendaEntry T) (takes : TakesEntry old new key e) (next : ℕ)
        (unique : (j k : ℕ) (d b : AgendaEntry T) → held old j ≡ Some d → held old k ≡ Some b
        → d.number ≡ b.number → j ≡ k)
      where
        live-taken : (f : Filed) (es : List (AgendaEntry T)) → (f.number ≡ e.number → entry_at es e.number ≡ None)
            → live f.number (held new f.key.place) ++ without_number e.number es
            ≡ without_number e.number (live f.number (held old f.key.place) ++ es)
        live-taken f es none = elim (cases_eq f.number e.number) [
          | inr differs ↦ elim (cases_eq f.key.place key) [
            | inl same ↦
                ap (λ k. live f.number (held new k) ++ without_number e.number es) same
                ∙ ap (λ o. live f.number o ++ without_number e.number es) takes.gone
                ∙ sym (ap (λ xs. without_number e.number (xs ++ es)) (live-dead f.number e (λ is. differs (sym is))))
                ∙ sym (ap (λ o. without_number e.number (live f.number o ++ es)) takes.was)
                ∙ ap (λ k. without_number e.number (live f.number (held old k) ++ es)) (sym same)
            | inr apart ↦
                ap (λ o. live f.number o ++ without_number e.number es) (takes.others f.key.place apart)
                ∙ sym (without-live f.number e.number (held old f.key.place) es differs)
          ]
          | inl is ↦
              gone f is ∙ sym (ap (λ n. without_number e.number (live n (held old f.key.place) ++ es)) is
              ∙ without-living e.number (held old f.key.place) es (none is))
        ] where
          dead : (f : Filed) → f.number ≡ e.number → (o : Option (AgendaEntry T)) → held new f.key.place ≡ o
              → live f.number o ≡ []
          dead f is None at = refl
          dead f is (Some d) at = live-dead f.number d (λ same.
              let apart : f.key.place ≢ key = λ k. none-some d (sym takes.gone ∙ ap (held new) (sym k) ∙ at) in
              apart (unique f.key.place key d e (sym (takes.others f.key.place apart) ∙ at) takes.was (same ∙ is)))

          gone : (f : Filed) → f.number ≡ e.number
              → live f.number (held new f.key.place) ++ without_number e.number es ≡ without_number e.number es
          gone f is = ap (λ xs. xs ++ without_number e.number es) (dead f is (held new f.key.place) refl)

        pub listed-taken : (low : ℕ) (fs : List Filed) → Rises low fs next
            → listed new fs ≡ without_number e.number (listed old fs)
        listed-taken low [] rises = refl
        listed-taken low (f ∷ fs) rises =
            ap (λ xs. live f.number (held new f.key.place) ++ xs) (listed-taken (f.number + 1) fs rises.1)
            ∙ live-taken f (listed old fs) (λ is. entry-nowhere old fs e.number
            (above-low old (f.number + 1) fs next e.number rises.1 (omega arith)))

        pub filed-taken : (fs : List Filed) → AreFiled old fs next → AreFiled new fs next
        filed-taken fs filed = record {
          rising = filed.rising;
          filed = λ k d is. filed.filed k d (sym (takes.others k (λ same.
              none-some d (sym takes.gone ∙ ap (held new) (sym same) ∙ is))) ∙ is);
        }
