-- Systems and lines place by place: where both stand by rising clock, each line is at the place of its system.
use Rattle.std.proofs.Common.{◌≡◌, ◌<◌, ℕ, zero, suc, true, false, List, [], ◌∷◌, length, map, Some, slice_get, refl, sym, ap, subst, ◌∙◌, inl, inr, arith}
use Rattle.std.proofs.lemmas.List.{map-id}
use Rattle.std.proofs.lemmas.Option.{slice_get_within}
use Rattle.std.specs.List.{range_with_len}
use Rattle.gptp_lists.specs.Members.{In}
use Rattle.gptp_graph.specs.Order.{IsRising}
use Rattle.gptp_graph.specs.Snapshot.{System, Snapshot, clocks}
use Rattle.gptp_graph.specs.Labelling.{SystemLine, line_clocks, port_numbers, IsBare, HasItsSystems}
use Rattle.gptp_lists.proofs.SystemSpecLemmas.{In-map, from_map, same_image, In-slice_get, slice_get-In}
use Rattle.gptp_graph.proofs.RisingLemmas.{Different-rising, same_rising}
use Rattle.gptp_graph.proofs.StatementLemmas.{line_clock, line_of}
use Rattle.gptp_checker.specs.Places.{IsLineFor, AgreeAt, IsLineAt}

-- the lines are those of the systems, one by one
abbrev pub AreLinesFor : List System → List SystemLine → Type 0
AreLinesFor [] [] = Unit {0}
AreLinesFor [] (line ∷ lines) = ⊥
AreLinesFor (s ∷ systems) [] = ⊥
AreLinesFor (s ∷ systems) (line ∷ lines) = IsLineFor s line × AreLinesFor systems lines

-- then there are as many
pub AreLinesFor-length : (systems : List System) (lines : List SystemLine) → AreLinesFor systems lines
    → length systems ≡ length lines
AreLinesFor-length [] [] h = refl
AreLinesFor-length [] (line ∷ lines) h = absurd h
AreLinesFor-length (s ∷ systems) [] h = absurd h
AreLinesFor-length (s ∷ systems) (line ∷ lines) h = ap suc (AreLinesFor-length systems lines h.1)

-- and they agree at each place
pub AreLinesFor-at : (systems : List System) (lines : List SystemLine) → AreLinesFor systems lines
    → (i : ℕ) → i < length lines → AgreeAt systems lines i
AreLinesFor-at [] [] h i b = absurd (omega arith)
AreLinesFor-at [] (line ∷ lines) h i b = absurd h
AreLinesFor-at (s ∷ systems) [] h i b = absurd h
AreLinesFor-at (s ∷ systems) (line ∷ lines) h zero b =
    record { system = s; line = line; system_there = refl; line_there = refl; is = h.0 }
AreLinesFor-at (s ∷ systems) (line ∷ lines) h (suc i) b =
    let at = AreLinesFor-at systems lines h.1 i (omega arith) in
    record {
      system = at.system;
      line = at.line;
      system_there = at.system_there;
      line_there = at.line_there;
      is = at.is;
    }

-- as many, which agree at each place, are the systems' lines
pub lines_agree : (systems : List System) (lines : List SystemLine) → length systems ≡ length lines
    → ((i : ℕ) → i < length lines → AgreeAt systems lines i) → AreLinesFor systems lines
lines_agree [] [] e h = tt
lines_agree [] (line ∷ lines) e h = absurd (omega arith)
lines_agree (s ∷ systems) [] e h = absurd (omega arith)
lines_agree (s ∷ systems) (line ∷ lines) e h = (
  (let at = h 0 (omega arith) in here at.system at.line at.system_there at.line_there at.is),
  lines_agree systems lines (omega arith) (λ i b. later i (h (suc i) (omega arith))),
)
  where
    here : (t : System) (l : SystemLine) → Some s ≡ Some t → Some line ≡ Some l → IsLineFor t l → IsLineFor s line
    here t l a b is =
        let c : t ≡ s = cc in let d : l ≡ line = cc in
        subst (λ x. IsLineFor x line) c (subst (λ x. IsLineFor t x) d is)

    later : (i : ℕ) → AgreeAt (s ∷ systems) (line ∷ lines) (suc i) → AgreeAt systems lines i
    later i at = record {
      system = at.system;
      line = at.line;
      system_there = at.system_there;
      line_there = at.line_there;
      is = at.is;
    }

-- each system has its line among them
found : (systems : List System) (lines : List SystemLine) → AreLinesFor systems lines → (s : System) → In s systems
    → (line : SystemLine) × In line lines × IsLineFor s line
found [] lines h s k = absurd k
found (t ∷ systems) [] h s k = absurd h
found (t ∷ systems) (line ∷ lines) h s (inl e) = (line, inl refl, subst (λ x. IsLineFor x line) (sym e) h.0)
found (t ∷ systems) (line ∷ lines) h s (inr k) = let r = found systems lines h.1 s k in (r.0, inr r.1, r.2)

-- and each line its system
owner : (systems : List System) (lines : List SystemLine) → AreLinesFor systems lines → (line : SystemLine)
    → In line lines → (s : System) × In s systems × IsLineFor s line
owner systems [] h line k = absurd k
owner [] (l ∷ lines) h line k = absurd h
owner (s ∷ systems) (l ∷ lines) h line (inl e) = (s, inl refl, subst (λ x. IsLineFor s x) (sym e) h.0)
owner (s ∷ systems) (l ∷ lines) h line (inr k) = let r = owner systems lines h.1 line k in (r.0, inr r.1, r.2)

-- lines of the systems, by rising clock, are what the test asks for
pub systems_pass : (g : Snapshot) (lines : List SystemLine) → IsRising (line_clocks lines)
    → AreLinesFor g.systems lines → HasItsSystems g lines
systems_pass g lines rising h = record {
  different = Different-rising (line_clocks lines) rising;
  all = λ s live. let r = found g.systems lines h s live in
      (r.0, record { live = live; stated = r.1; clock = r.2.clock });
  no_other = λ line stated. let r = owner g.systems lines h line stated in
      (r.0, record { live = r.1; stated = stated; clock = r.2.clock });
  ports = λ s line of. let r = found g.systems lines h s of.live in
      subst (λ l. l.far ≡ false → port_numbers l ≡ range_with_len 1 s.ports)
      (same_image (λ (l : SystemLine). l.clock) r.0 line lines (Different-rising (line_clocks lines) rising) r.1
      of.stated (r.2.clock ∙ sym of.clock)) r.2.ports;
  bare = λ line stated. (owner g.systems lines h line stated).2.bare;
}

-- two rising lists of numbers with the same members are one
same_numbers : (xs ys : List ℕ) → IsRising xs → IsRising ys → ((n : ℕ) → In n xs → In n ys)
    → ((n : ℕ) → In n ys → In n xs) → xs ≡ ys
same_numbers xs ys h k to back =
    same_rising (λ (n : ℕ). n) xs ys (subst IsRising (sym (map-id xs)) h) (subst IsRising (sym (map-id ys)) k) to back

-- lines with the clocks of the systems in their order
by_clocks : (systems : List System) (lines : List SystemLine)
    → map (λ (s : System). s.clock) systems ≡ line_clocks lines
    → ((s : System) (line : SystemLine) → In s systems → In line lines → line.clock ≡ s.clock
    → line.far ≡ false → port_numbers line ≡ range_with_len 1 s.ports)
    → ((line : SystemLine) → In line lines → line.far ≡ true → IsBare line)
    → AreLinesFor systems lines
by_clocks [] [] e h far = tt
by_clocks [] (line ∷ lines) e h far = absurd cc
by_clocks (s ∷ systems) [] e h far = absurd cc
by_clocks (s ∷ systems) (line ∷ lines) e h far =
    let same : line.clock ≡ s.clock = cc in
    let rest : map (λ (t : System). t.clock) systems ≡ line_clocks lines = cc in (
      record { clock = same; ports = h s line (inl refl) (inl refl) same; bare = far line (inl refl) },
      by_clocks systems lines rest (λ t l a b. h t l (inr a) (inr b)) (λ l i. far l (inr i)),
    )

-- lines by rising clock that pass the test are those of the systems, one by one
pub lines_of_passed : (g : Snapshot) (lines : List SystemLine) → IsRising (clocks g) → IsRising (line_clocks lines)
    → HasItsSystems g lines → AreLinesFor g.systems lines
lines_of_passed g lines rising lines_rising h =
    by_clocks g.systems lines
    (same_numbers (clocks g) (line_clocks lines) rising lines_rising
    (λ v k. let l = line_of g lines v h k in
    subst (λ w. In w (line_clocks lines)) l.clock (In-map (λ (x : SystemLine). x.clock) l.line lines l.stated))
    (λ v k. let (line, stated, e) = from_map (λ (x : SystemLine). x.clock) v lines k in
    subst (λ w. In w (clocks g)) e (line_clock g lines line h stated)))
    (λ s line live stated e. h.ports s line (record { live = live; stated = stated; clock = e })) h.bare

-- what both in rising order have where the test passes
module _ (g : Snapshot) (lines : List SystemLine) (rising : IsRising (clocks g))
    (lines_rising : IsRising (line_clocks lines)) (h : HasItsSystems g lines) where
  -- as many
  pub passed_length : length g.systems ≡ length lines
  passed_length = AreLinesFor-length g.systems lines (lines_of_passed g lines rising lines_rising h)

  -- the same at each place
  pub passed_at : (i : ℕ) → i < length lines → AgreeAt g.systems lines i
  passed_at = AreLinesFor-at g.systems lines (lines_of_passed g lines rising lines_rising h)

  -- at the place of a system, the line of its clock
  pub line_at_place : (v i : ℕ) (s : System) → slice_get g.systems i ≡ Some s → s.clock ≡ v
      → (line : SystemLine) × (slice_get lines i ≡ Some line) × IsLineAt lines v line
  line_at_place v i s there has =
      let w = slice_get_within g.systems i s there in
      let n = passed_length in
      let at = passed_at i (omega arith) in
      let same : at.system ≡ s = cc in (
        at.line,
        at.line_there,
        record {
          stated = In-slice_get at.line lines i at.line_there;
          has = at.is.clock ∙ ap (λ (t : System). t.clock) same ∙ has;
        },
      )

-- where as many agree at each place, the test passes
pub passes_where_agree : (g : Snapshot) (lines : List SystemLine) → IsRising (line_clocks lines)
    → length g.systems ≡ length lines → ((i : ℕ) → i < length lines → AgreeAt g.systems lines i)
    → HasItsSystems g lines
passes_where_agree g lines rising e h = systems_pass g lines rising (lines_agree g.systems lines e h)

-- a line's clock has a place among the systems
pub place_of_line : (g : Snapshot) (lines : List SystemLine) (v : ℕ) (line : SystemLine) → HasItsSystems g lines
    → IsLineAt lines v line → (i : ℕ) × (s : System) × (slice_get g.systems i ≡ Some s) × (s.clock ≡ v)
place_of_line g lines v line h at =
    let own = h.no_other line at.stated in
    let place = slice_get-In own.0 g.systems own.1.live in
    (place.0, own.0, place.1, sym own.1.clock ∙ at.has)
