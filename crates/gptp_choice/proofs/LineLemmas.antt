-- Lines are the settled choice.
use Rattle.std.proofs.Common.{◌≡◌, ◌⊎◌, ◌+◌, ◌<◌, ◌≤◌, ◌++◌, ◌∙◌, ℕ, zero, suc, true, false, Bool, List, [], ◌∷◌, length, map, take, Some, None, slice_get, refl, sym, ap, subst, inl, inr, arith}
use Rattle.std.specs.List.{range_with_len}
use Rattle.std.proofs.lemmas.List.{length-map}
use Rattle.std.proofs.lemmas.Option.{same_Some, slice_get_within}
use Rattle.gptp_lists.specs.Members.{Different, In}
use Rattle.gptp_lists.proofs.MappedLemmas.{mapped, mapped_there, taken}
use Rattle.gptp_lists.proofs.SystemSpecLemmas.{In-slice_get, slice_get-In}
use Rattle.gptp_graph.specs.Distance.{IsDistance}
use Rattle.gptp_graph.specs.Labelling.{IsLineOf, PortLine, SystemLine, line_clocks, port_numbers}
use Rattle.gptp_graph.specs.Order.{IsRising}
use Rattle.gptp_graph.specs.SettledChoice.{IsBestIdentity, IsParentIfAny, IsSettledChoice}
use Rattle.gptp_graph.specs.SettledRole.{IsSettledRole}
use Rattle.gptp_graph.specs.Snapshot.{System, Snapshot, IsWellFormed, clocks, port_of}
use Rattle.gptp_graph.proofs.SystemLemmas.{same_clock}
use Rattle.gptp_certificate_text.specs.Certificate.{IsCertificate, line_of, lines_of}
use Rattle.gptp_certificate_text.specs.declared.certificate.SystemLine as texts
use Rattle.gptp_components.specs.Distances.{IsDistanceOf}
use Rattle.gptp_components.specs.declared.distance.Distance.{Distance}
use Rattle.gptp_choice.specs.Lines.{AreFirstLines, AreRoles, IsChosenLine}
use Rattle.gptp_choice.proofs.RoleLemmas.{range_rises}

abbrev clock_of : System → ℕ
clock_of s = s.clock

abbrev line_clock : SystemLine → ℕ
line_clock line = line.clock

-- a far system
pub far_settled : (g : Snapshot) (v ports : ℕ) (own : Distance) (line : SystemLine) → IsDistanceOf g v own
    → 255 ≤ own.steps → line.clock ≡ v → line.root ≡ own.root → line.steps ≡ own.steps → line.far ≡ true
    → line.parent ≡ None → line.ports ≡ [] → IsChosenLine g v ports line
far_settled g v ports own line has over clock root steps far parent none = record {
  clock = clock;
  settled = record {
    root = subst (λ w. IsBestIdentity g w line.root) (sym clock) (subst (IsBestIdentity g v) (sym root) has.root);
    steps = subst (λ w. IsDistance g w line.steps) (sym clock) (subst (IsDistance g v) (sym steps) has.steps);
    near = λ near. absurd (let clash : true ≡ false = sym far ∙ near in cc);
    far = λ is. omega arith;
    parent = λ near. absurd (let clash : true ≡ false = sym far ∙ near in cc);
    roles = λ port member. absurd (subst (In port) none member);
  };
  numbers = λ near. absurd (let clash : true ≡ false = sym far ∙ near in cc);
  bare = λ is. record { parent = parent; ports = none };
}

-- a near one
pub near_settled : (g : Snapshot) (v ports : ℕ) (own : Distance) (line : SystemLine) → IsDistanceOf g v own
    → own.steps < 255 → line.clock ≡ v → line.root ≡ own.root → line.steps ≡ own.steps → line.far ≡ false
    → IsParentIfAny g v line.parent → AreRoles g v ports line.ports → IsChosenLine g v ports line
near_settled g v ports own line has below clock root steps near parent roles = record {
  clock = clock;
  settled = record {
    root = subst (λ w. IsBestIdentity g w line.root) (sym clock) (subst (IsBestIdentity g v) (sym root) has.root);
    steps = subst (λ w. IsDistance g w line.steps) (sym clock) (subst (IsDistance g v) (sym steps) has.steps);
    near = λ is. omega arith;
    far = λ far. absurd (let clash : true ≡ false = sym far ∙ near in cc);
    parent = λ is. subst (λ w. IsParentIfAny g w line.parent) (sym clock) parent;
    roles = λ port member.
        subst (λ w. IsSettledRole g (port_of w port.number) port.role) (sym clock) (roles.settled port member);
  };
  numbers = λ is. roles.numbers;
  bare = λ far. absurd (let clash : true ≡ false = sym far ∙ near in cc);
}

-- ---- one after another

pub no_lines : (g : Snapshot) → AreFirstLines g 0 []
no_lines g = record { clocks_are = refl; each = λ place s line there here. absurd cc }

pub one_line : (g : Snapshot) (place : ℕ) (lines : List SystemLine) (s : System) (line : SystemLine)
    → AreFirstLines g place lines → slice_get g.systems place ≡ Some s → IsChosenLine g s.clock s.ports line
    → AreFirstLines g (suc place) (lines ++ line ∷ [])
one_line g place lines s line before there is = record {
  clocks_are = joined lines ∙ ap (λ cs. cs ++ line.clock ∷ []) before.clocks_are
      ∙ ap (λ c. take place (clocks g) ++ c ∷ []) is.clock ∙ sym next;
  each = λ i t other at here. elim (parts lines i other here) [
    | inl early ↦ before.each i t other at early
    | inr (last, same) ↦ (
        let one : t ≡ s =
        same_Some t s (sym at ∙ ap (slice_get g.systems) (last ∙ many) ∙ there) in
        subst (λ (u : System). IsChosenLine g u.clock u.ports other) (sym one)
        (subst (IsChosenLine g s.clock s.ports) (sym same) is)
        )
  ];
}
  where
    joined : (xs : List SystemLine) → line_clocks (xs ++ line ∷ []) ≡ line_clocks xs ++ line.clock ∷ []
    joined [] = refl
    joined (x ∷ xs) = ap (λ cs. x.clock ∷ cs) (joined xs)

    next : take (suc place) (clocks g) ≡ take place (clocks g) ++ s.clock ∷ []
    next =
        (let more : suc place ≡ place + 1 = omega arith in ap (λ n. take n (clocks g)) more)
        ∙ taken (clocks g) place s.clock (mapped_there clock_of g.systems place s there)

    many : length lines ≡ place
    many =
        let lines_many : length (line_clocks lines) ≡ length lines =
        length-map lines line_clock in
        let clocks_many : length (clocks g) ≡ length g.systems =
        length-map g.systems clock_of in
        let same : length (line_clocks lines) ≡ length (take place (clocks g)) = ap length before.clocks_are in
        let within = slice_get_within g.systems place s there in
        let front : length (take place (clocks g)) ≡ place = front_length (clocks g) place (omega arith) in
        omega arith
      where
        front_length : (xs : List ℕ) (n : ℕ) → n ≤ length xs → length (take n xs) ≡ n
        front_length xs zero less = refl
        front_length [] (suc n) less = absurd (omega arith)
        front_length (x ∷ xs) (suc n) less = ap suc (front_length xs n (omega arith))

    parts : (xs : List SystemLine) (i : ℕ) (y : SystemLine) → slice_get (xs ++ line ∷ []) i ≡ Some y
        → (slice_get xs i ≡ Some y) ⊎ ((i ≡ length xs) × (y ≡ line))
    parts [] zero y e = inr (refl, sym (same_Some line y e))
    parts [] (suc i) y e = absurd cc
    parts (z ∷ xs) zero y e = inl e
    parts (z ∷ xs) (suc i) y e = elim (parts xs i y e) [
      | inl early ↦ inl early
      | inr (last, same) ↦ inr (ap suc last, same)
    ]

-- the same, as it is pushed
pub pushed_line : (g : Snapshot) (place : ℕ) (before after : List texts.SystemLine) (line : texts.SystemLine)
    (s : System)
    → AreFirstLines g place (lines_of before) → after ≡ before ++ line ∷ [] → slice_get g.systems place ≡ Some s
    → IsChosenLine g s.clock s.ports (line_of line) → AreFirstLines g (suc place) (lines_of after)
pushed_line g place before after line s so_far is there for_it =
    subst (AreFirstLines g (suc place)) (sym (ap lines_of is ∙ joined before))
    (one_line g place (lines_of before) s (line_of line) so_far there for_it)
  where
    joined : (xs : List texts.SystemLine) → lines_of (xs ++ line ∷ []) ≡ lines_of xs ++ line_of line ∷ []
    joined [] = refl
    joined (x ∷ xs) = ap (λ ys. line_of x ∷ ys) (joined xs)

-- ---- all

module _ (g : Snapshot) (wf : IsWellFormed g) (rising : IsRising (clocks g)) (lines : List SystemLine)
    (are : AreFirstLines g (length g.systems) lines) where
  clocks_are : line_clocks lines ≡ clocks g
  clocks_are = are.clocks_are ∙ all_taken (clocks g) (length g.systems) many
    where
      many : length (clocks g) ≤ length g.systems
      many =
          let same : length (clocks g) ≡ length g.systems =
          length-map g.systems clock_of in
          omega arith

      all_taken : (xs : List ℕ) (n : ℕ) → length xs ≤ n → take n xs ≡ xs
      all_taken [] zero less = refl
      all_taken [] (suc n) less = refl
      all_taken (x ∷ xs) zero less = absurd (omega arith)
      all_taken (x ∷ xs) (suc n) less = ap (λ (ys : List ℕ). x ∷ ys) (all_taken xs n (omega arith))

  -- a system and its line stand at one place
  record AtPlace (s : System) (line : SystemLine) : Type 0 where
    place : ℕ
    there : slice_get g.systems place ≡ Some s
    here : slice_get lines place ≡ Some line

  for_system : (s : System) → In s g.systems → (line : SystemLine) × AtPlace s line
  for_system s live =
      let (place, there) = slice_get-In s g.systems live in
      let clock = ap (λ cs. slice_get cs place) clocks_are ∙ mapped_there clock_of g.systems place s there in
      let (line, here, is) = mapped line_clock lines place s.clock clock in
      (line, record { place = place; there = there; here = here })

  for_line : (line : SystemLine) → In line lines → (s : System) × AtPlace s line
  for_line line stated =
      let (place, here) = slice_get-In line lines stated in
      let clock = ap (λ cs. slice_get cs place) (sym clocks_are) ∙ mapped_there line_clock lines place line here in
      let (s, there, is) = mapped clock_of g.systems place line.clock clock in
      (s, record { place = place; there = there; here = here })

  is_for : (s : System) (line : SystemLine) → AtPlace s line → IsChosenLine g s.clock s.ports line
  is_for s line at = are.each at.place s line at.there at.here

  is_line : (s : System) (line : SystemLine) → AtPlace s line → IsLineOf g lines s line
  is_line s line at = record {
    live = In-slice_get s g.systems at.place at.there;
    stated = In-slice_get line lines at.place at.here;
    clock = (is_for s line at).clock;
  }

  pub lines_settled : IsSettledChoice g lines
  lines_settled = record {
    systems = record {
      different = subst Different (sym clocks_are) wf.different;
      all = λ s live. let (line, at) = for_system s live in (line, is_line s line at);
      no_other = λ line stated. let (s, at) = for_line line stated in (s, is_line s line at);
      ports = λ s line of near.
          let (t, at) = for_line line of.stated in
          let for_it = is_for t line at in
          let one : t ≡ s =
          same_clock g t s wf (In-slice_get t g.systems at.place at.there) of.live (sym for_it.clock ∙ of.clock) in
          for_it.numbers near ∙ ap (λ (u : System). range_with_len 1 u.ports) one;
      bare = λ line stated far. let (s, at) = for_line line stated in (is_for s line at).bare far;
    };
    settled = λ line stated. let (s, at) = for_line line stated in (is_for s line at).settled;
  }

  pub lines_certified : IsCertificate 2 lines
  lines_certified = record {
    is_version = inr refl;
    order = record {
      clocks = subst IsRising (sym clocks_are) rising;
      ports = λ line stated. let (s, at) = for_line line stated in numbers_rise s line (is_for s line at) line.far refl;
    };
    bare = λ line stated far. let (s, at) = for_line line stated in (is_for s line at).bare far;
    second = λ line stated far. refl;
  }
    where
      numbers_rise : (s : System) (line : SystemLine) → IsChosenLine g s.clock s.ports line → (far : Bool)
          → line.far ≡ far
          → IsRising (port_numbers line)
      numbers_rise s line is true far =
          subst (λ (ports : List PortLine). IsRising (map (λ (port : PortLine). port.number) ports))
          (sym (is.bare far).ports) tt
      numbers_rise s line is false near = subst IsRising (sym (is.numbers near)) (range_rises 1 s.ports)
