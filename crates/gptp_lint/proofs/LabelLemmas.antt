-- Links join the systems of a component, so each has the best of its component in the end.
use Rattle.std.proofs.Common.{◌≡◌, ◌⊎◌, ◌≤◌, ◌<◌, ◌==◌, ℕ, Bool, true, false, cond, nat_lt, List, [], ◌∷◌, map, Option, Some, None, slice_get, refl, sym, ap, subst, ◌∙◌, inl, inr, arith}
use Rattle.std.proofs.lemmas.Bool.{eq-eqb, eqb-true}
use Rattle.std.proofs.lemmas.Bool.Decides.{nat_tests}
use Rattle.gptp_lists.specs.Members.{In}
use Rattle.gptp_lists.proofs.MappedLemmas.{mapped, mapped_there, same_there}
use Rattle.gptp_roles.specs.Selection.{clock_of}
use Rattle.gptp_graph.specs.Path.{Reaches, Route}
use Rattle.gptp_graph.specs.SettledChoice.{IsBestIdentity}
use Rattle.gptp_graph.specs.Snapshot.{Adjacent, IsWellFormed, Snapshot, System}
use Rattle.gptp_graph.proofs.PathLemmas.{Reaches-neighbour, Reaches-sym, Reaches-trans}
use Rattle.gptp_graph.proofs.SystemLemmas.{same_identity}
use Rattle.gptp_lint.specs.Labels.{best_if_live, joined, joined_all, live_best, relabelled, united, united_if}
use Rattle.gptp_lint.specs.declared.graph.Edge.{Edge}
use Rattle.gptp_lint.specs.declared.labels.Label.{Label}

abbrev pub own_clock : Label → ℕ
own_clock l = clock_of l.identity

-- the label at this place is that of a live system
pub record Lives (ls : List Label) (place : ℕ) (l : Label) : Type 0 where
  pub there : slice_get ls place ≡ Some l
  pub lives : l.lives ≡ true

-- the link is up between these two live systems
pub record Links (ls : List Label) (e : Edge) (x y : Label) : Type 0 where
  pub up : e.up ≡ true
  pub from : Lives ls e.from x
  pub to : Lives ls e.to y

-- an edge joins systems of these clocks
pub record Joining (ls : List Label) (es : List Edge) (v w : ℕ) : Type 0 where
  pub edge : Edge
  pub among : In edge es
  pub x : Label
  pub y : Label
  pub links : Links ls edge x y
  pub ends : ((own_clock x ≡ v) × (own_clock y ≡ w)) ⊎ ((own_clock x ≡ w) × (own_clock y ≡ v))

-- the labels and links are those of a snapshot
pub record Fits (g : Snapshot) (es : List Edge) (ls : List Label) : Type 0 where
  pub system : (place : ℕ) (l : Label) → Lives ls place l → (s : System) × In s g.systems × (s.identity ≡ l.identity)
  pub place : (s : System) → In s g.systems → (place : ℕ) × (l : Label) × Lives ls place l × (l.identity ≡ s.identity)
  pub once : (i j : ℕ) (l k : Label) → slice_get ls i ≡ Some l → slice_get ls j ≡ Some k
      → own_clock l ≡ own_clock k → i ≡ j
  pub joins : (e : Edge) (x y : Label) → In e es → Links ls e x y → Adjacent g (own_clock x) (own_clock y)
  pub joined_by : (v w : ℕ) → Adjacent g v w → Joining ls es v w

-- each live system has the identity of one that it reaches, and none higher than its own
pub record IsReached (g : Snapshot) (l : Label) : Type 0 where
  pub best : System
  pub live : In best g.systems
  pub is : best.identity ≡ l.best
  pub reached : Reaches g (own_clock l) best.clock
  pub low : l.best ≤ l.identity

-- so far, where such links have joined systems
pub record Found (g : Snapshot) (es : List Edge) (Done : Edge → Type 0) (ls : List Label) : Type 0 where
  pub fits : Fits g es ls
  pub reached : (place : ℕ) (l : Label) → Lives ls place l → IsReached g l
  pub done : (e : Edge) (x y : Label) → Done e → Links ls e x y → x.best ≡ y.best

-- ---- another best for one

abbrev swapped : ℕ → ℕ → ℕ → ℕ
swapped old new best = cond (best == old) new best

relabelled_best : (old new : ℕ) (l : Label) → (relabelled old new l).best ≡ swapped old new l.best
relabelled_best old new l = by (l.best == old)
  where
    by : (test : Bool)
        → (cond {A = Label} test (record { identity = l.identity; lives = l.lives; best = new }) l).best
        ≡ cond test new l.best
    by true = refl
    by false = refl

relabelled_identity : (old new : ℕ) (l : Label) → (relabelled old new l).identity ≡ l.identity
relabelled_identity old new l = by (l.best == old)
  where
    by : (test : Bool)
        → (cond {A = Label} test (record { identity = l.identity; lives = l.lives; best = new }) l).identity
        ≡ l.identity
    by true = refl
    by false = refl

relabelled_lives : (old new : ℕ) (l : Label) → (relabelled old new l).lives ≡ l.lives
relabelled_lives old new l = by (l.best == old)
  where
    by : (test : Bool)
        → (cond {A = Label} test (record { identity = l.identity; lives = l.lives; best = new }) l).lives ≡ l.lives
    by true = refl
    by false = refl

swapped_old : (old new : ℕ) → swapped old new old ≡ new
swapped_old old new = ap (λ test. cond test new old) (eq-eqb old old refl)

swapped_new : (old new : ℕ) → swapped old new new ≡ new
swapped_new old new = by (new == old)
  where
    by : (test : Bool) → cond test new new ≡ new
    by true = refl
    by false = refl

-- a label that lives has lived before
module _ (old new : ℕ) (ls : List Label) where
  record Before (place : ℕ) (l : Label) : Type 0 where
    label : Label
    lives : Lives ls place label
    is : relabelled old new label ≡ l

  before : (place : ℕ) (l : Label) → Lives (map (relabelled old new) ls) place l → Before place l
  before place l lives =
      let (k, there, is) = mapped (relabelled old new) ls place l lives.there in
      record {
        label = k;
        lives = record {
          there = there;
          lives = sym (relabelled_lives old new k) ∙ ap (λ (m : Label). m.lives) is ∙ lives.lives;
        };
        is = is;
      }

  after : (place : ℕ) (l : Label) → Lives ls place l → Lives (map (relabelled old new) ls) place (relabelled old new l)
  after place l lives = record {
    there = mapped_there (relabelled old new) ls place l lives.there;
    lives = relabelled_lives old new l ∙ lives.lives;
  }

  same_clock : (place : ℕ) (l : Label) (b : Before place l) → own_clock b.label ≡ own_clock l
  same_clock place l b =
      ap clock_of (sym (relabelled_identity old new b.label) ∙ ap (λ (m : Label). m.identity) b.is)

  fits_after : (g : Snapshot) (es : List Edge) → Fits g es ls → Fits g es (map (relabelled old new) ls)
  fits_after g es fits = record {
    system = λ place l lives.
        let b = before place l lives in
        let (s, live, is) = fits.system place b.label b.lives in
        (s, live, is ∙ sym (relabelled_identity old new b.label) ∙ ap (λ (m : Label). m.identity) b.is);
    place = λ s live.
        let (place, l, lives, is) = fits.place s live in
        (place, relabelled old new l, after place l lives, relabelled_identity old new l ∙ is);
    once = λ i j l k at there same.
        let (x, x-there, x-is) = mapped (relabelled old new) ls i l at in
        let (y, y-there, y-is) = mapped (relabelled old new) ls j k there in
        fits.once i j x y x-there y-there
        (ap clock_of (sym (relabelled_identity old new x) ∙ ap (λ (m : Label). m.identity) x-is) ∙ same
        ∙ ap clock_of (sym (sym (relabelled_identity old new y) ∙ ap (λ (m : Label). m.identity) y-is)));
    joins = λ e x y among links.
        let bx = before e.from x links.from in
        let by = before e.to y links.to in
        subst (λ v. Adjacent g v (own_clock y)) (same_clock e.from x bx)
        (subst (Adjacent g (own_clock bx.label)) (same_clock e.to y by)
        (fits.joins e bx.label by.label among (record { up = links.up; from = bx.lives; to = by.lives })));
    joined_by = λ v w adjacent.
        let j = fits.joined_by v w adjacent in
        let x-clock : own_clock (relabelled old new j.x) ≡ own_clock j.x =
        ap clock_of (relabelled_identity old new j.x) in
        let y-clock : own_clock (relabelled old new j.y) ≡ own_clock j.y =
        ap clock_of (relabelled_identity old new j.y) in
        record {
          edge = j.edge;
          among = j.among;
          x = relabelled old new j.x;
          y = relabelled old new j.y;
          links = record {
            up = j.links.up;
            from = after j.edge.from j.x j.links.from;
            to = after j.edge.to j.y j.links.to;
          };
          ends = elim j.ends [
            | inl h ↦ inl (x-clock ∙ h.0, y-clock ∙ h.1)
            | inr h ↦ inr (x-clock ∙ h.0, y-clock ∙ h.1)
          ];
        };
  }

-- ---- one link joins two

module _ (g : Snapshot) (wf : IsWellFormed g) (es : List Edge) where
  -- the system of a label that has this best, and of another that has it too, are joined
  same_best : (l k : Label) → IsReached g l → IsReached g k → l.best ≡ k.best → Reaches g (own_clock l) (own_clock k)
  same_best l k l-reached k-reached same =
      let one = same_identity g l-reached.best k-reached.best wf l-reached.live k-reached.live
      (l-reached.is ∙ same ∙ sym k-reached.is) in
      Reaches-trans g (own_clock l) k-reached.best.clock (own_clock k)
      (subst (λ (s : System). Reaches g (own_clock l) s.clock) one l-reached.reached)
      (Reaches-sym g (own_clock k) k-reached.best.clock wf k-reached.reached)

  -- the systems that had the best of y have that of x, which is better
  module _ (Done : Edge → Type 0) (ls : List Label) (found : Found g es Done ls) (x y : Label)
      (x-reached : IsReached g x) (y-reached : IsReached g y) (joined : Reaches g (own_clock x) (own_clock y))
      (lower : x.best < y.best) where
    relabelled_reached : (l : Label) → IsReached g l → IsReached g (relabelled y.best x.best l)
    relabelled_reached l l-reached = by (l.best == y.best) refl
      where
        by : (test : Bool) → (l.best == y.best) ≡ test
            → IsReached g
            (cond {A = Label} test (record { identity = l.identity; lives = l.lives; best = x.best }) l)
        by true is =
            let same = eqb-true l.best y.best is in
            let low = l-reached.low in
            record {
              best = x-reached.best;
              live = x-reached.live;
              is = x-reached.is;
              reached =
                  Reaches-trans g (own_clock l) (own_clock y) x-reached.best.clock
                  (same_best l y l-reached y-reached same)
                  (Reaches-trans g (own_clock y) (own_clock x) x-reached.best.clock
                  (Reaches-sym g (own_clock x) (own_clock y) wf joined) x-reached.reached);
              low = omega (arith, low, same, lower);
            }
        by false is = l-reached

    found_after : Found g es Done (map (relabelled y.best x.best) ls)
    found_after = record {
      fits = fits_after y.best x.best ls g es found.fits;
      reached = λ place l lives.
          let b = before y.best x.best ls place l lives in
          subst (IsReached g) b.is (relabelled_reached b.label (found.reached place b.label b.lives));
      done = λ e l k is links.
          let bl = before y.best x.best ls e.from l links.from in
          let bk = before y.best x.best ls e.to k links.to in
          let same = found.done e bl.label bk.label is
          (record { up = links.up; from = bl.lives; to = bk.lives }) in
          ap (λ (m : Label). m.best) (sym bl.is) ∙ relabelled_best y.best x.best bl.label
          ∙ ap (swapped y.best x.best) same ∙ sym (relabelled_best y.best x.best bk.label)
          ∙ ap (λ (m : Label). m.best) bk.is;
    }

  -- at the ends of this link
  abbrev With : (Edge → Type 0) → Edge → Edge → Type 0
  With Done e k = Done k ⊎ (k ≡ e)

  -- where the systems at the ends of a link have one best, it has joined them
  with_link : (Done : Edge → Type 0) (e : Edge) (ls : List Label) → Found g es Done ls
      → ((x y : Label) → Links ls e x y → x.best ≡ y.best) → Found g es (With Done e) ls
  with_link Done e ls found same = record {
    fits = found.fits;
    reached = found.reached;
    done = λ k x y is links. elim is [
      | inl before ↦ found.done k x y before links
      | inr here ↦ same x y (subst (λ j. Links ls j x y) here links)
    ];
  }

  -- two labels at one place are one
  one_label : (ls : List Label) (place : ℕ) (l k : Label) → Lives ls place l → Lives ls place k → l ≡ k
  one_label ls place l k first second = same_there ls place l k first.there second.there

  -- the two ends of a link have one best after it
  joined_ends : (e : Edge) (ls : List Label) (old new : ℕ) (x y : Label) → Links ls e x y
      → swapped old new x.best ≡ swapped old new y.best → (l k : Label)
      → Links (map (relabelled old new) ls) e l k → l.best ≡ k.best
  joined_ends e ls old new x y links same l k after =
      let bl = before old new ls e.from l after.from in
      let bk = before old new ls e.to k after.to in
      let first = one_label ls e.from bl.label x bl.lives links.from in
      let second = one_label ls e.to bk.label y bk.lives links.to in
      ap (λ (m : Label). m.best) (sym bl.is) ∙ relabelled_best old new bl.label
      ∙ ap (λ (m : Label). swapped old new m.best) first ∙ same
      ∙ ap (λ (m : Label). swapped old new m.best) (sym second) ∙ sym (relabelled_best old new bk.label)
      ∙ ap (λ (m : Label). m.best) bk.is

  module _ (Done : Edge → Type 0) (e : Edge) (among : In e es) (ls : List Label) (found : Found g es Done ls) where
    united_found : (x y : Label) → Links ls e x y → Found g es (With Done e) (united x.best y.best ls)
    united_found x y links = by (nat_lt x.best y.best) refl (nat_lt y.best x.best) refl
      where
        adjacent : Adjacent g (own_clock x) (own_clock y)
        adjacent = found.fits.joins e x y among links

        joined_two : Reaches g (own_clock x) (own_clock y)
        joined_two = Reaches-neighbour g (own_clock x) (own_clock y) wf adjacent

        back : Reaches g (own_clock y) (own_clock x)
        back = Reaches-sym g (own_clock x) (own_clock y) wf joined_two

        by : (first : Bool) → nat_lt x.best y.best ≡ first → (second : Bool) → nat_lt y.best x.best ≡ second
            → Found g es (With Done e)
            (cond first (map (relabelled y.best x.best) ls) (cond second (map (relabelled x.best y.best) ls) ls))
        by true is second other =
            let lower : x.best < y.best = grind (arith, nat_tests) in
            with_link Done e (map (relabelled y.best x.best) ls)
            (found_after Done ls found x y (found.reached e.from x links.from) (found.reached e.to y links.to)
            joined_two lower)
            (joined_ends e ls y.best x.best x y links
            (swapped_new y.best x.best ∙ sym (swapped_old y.best x.best)))
        by false is true other =
            let lower : y.best < x.best = grind (arith, nat_tests) in
            with_link Done e (map (relabelled x.best y.best) ls)
            (found_after Done ls found y x (found.reached e.to y links.to) (found.reached e.from x links.from) back
            lower)
            (joined_ends e ls x.best y.best x y links
            (swapped_old x.best y.best ∙ sym (swapped_new x.best y.best)))
        by false is false other =
            let same : x.best ≡ y.best = grind (arith, nat_tests) in
            with_link Done e ls found (λ l k after.
            ap (λ (m : Label). m.best) (one_label ls e.from l x after.from links.from) ∙ same
            ∙ ap (λ (m : Label). m.best) (one_label ls e.to y k links.to after.to))

    -- what stands at the end of a link, and whether it lives
    abbrev IfLives : ℕ → Option ℕ → Type 0
    IfLives place None = (l : Label) → Lives ls place l → ⊥
    IfLives place (Some best) = (l : Label) × Lives ls place l × (best ≡ l.best)

    if_lives : (place : ℕ) → IfLives place (live_best ls place)
    if_lives place = at (slice_get ls place) refl
      where
        by : (l : Label) → slice_get ls place ≡ Some l → (test : Bool) → l.lives ≡ test
            → IfLives place (cond test (Some l.best) None)
        by l there true lives = (l, record { there = there; lives = lives }, refl)
        by l there false dead = λ k lives.
            let one = same_there ls place l k there lives.there in
            let live = ap (λ (m : Label). m.lives) one ∙ lives.lives in
            absurd cc

        at : (o : Option Label) → slice_get ls place ≡ o → IfLives place (best_if_live o)
        at None none = λ l lives. let is = lives.there in absurd cc
        at (Some l) there = by l there l.lives refl

    pub joined_found : Found g es (With Done e) (joined e ls)
    joined_found = by e.up refl
      where
        both : (one : Option ℕ) → IfLives e.from one → (other : Option ℕ) → IfLives e.to other → e.up ≡ true
            → Found g es (With Done e) (united_if one other ls)
        both None none other to up =
            with_link Done e ls found (λ x y links. absurd (none x links.from))
        both (Some one) from None none up =
            with_link Done e ls found (λ x y links. absurd (none y links.to))
        both (Some one) (x, from, x-is) (Some other) (y, to, y-is) up =
            subst (λ best. Found g es (With Done e) (united best other ls)) (sym x-is)
            (subst (λ best. Found g es (With Done e) (united x.best best ls)) (sym y-is)
            (united_found x y (record { up = up; from = from; to = to })))

        by : (up : Bool) → e.up ≡ up
            → Found g es (With Done e) (cond up (united_if (live_best ls e.from) (live_best ls e.to) ls) ls)
        by true up = both (live_best ls e.from) (if_lives e.from) (live_best ls e.to) (if_lives e.to) up
        by false down =
            with_link Done e ls found (λ x y links. let up = links.up in absurd cc)

  -- ---- all links

  pub weaker : (Done More : Edge → Type 0) (ls : List Label) → ((e : Edge) → More e → Done e) → Found g es Done ls
      → Found g es More ls
  weaker Done More ls less found = record {
    fits = found.fits;
    reached = found.reached;
    done = λ e x y more links. found.done e x y (less e more) links;
  }

  pub all_found : (left : List Edge) (Done : Edge → Type 0) (ls : List Label) → ((e : Edge) → In e left → In e es)
      → Found g es Done ls → Found g es (λ e. Done e ⊎ In e left) (joined_all left ls)
  all_found [] Done ls among found =
      weaker Done (λ e. Done e ⊎ In e []) ls (λ e is. elim is [ inl done ↦ done | inr none ↦ absurd none ]) found
  all_found (e ∷ left) Done ls among found =
      weaker (λ k. With Done e k ⊎ In k left) (λ k. Done k ⊎ In k (e ∷ left)) (joined_all left (joined e ls))
      (λ k is. elim is [
        | inl done ↦ inl (inl done)
        | inr member ↦ elim member [ inl here ↦ inl (inr here) | inr behind ↦ inr behind ]
      ])
      (all_found left (With Done e) (joined e ls) (λ k member. among k (inr member))
      (joined_found Done e (among e (inl refl)) ls found))

  -- ---- what is found in the end

  module _ (ls : List Label) (found : Found g es (λ e. In e es) ls) where
    record HasBest (v best : ℕ) : Type 0 where
      place : ℕ
      label : Label
      lives : Lives ls place label
      clock : own_clock label ≡ v
      is : label.best ≡ best

    -- labels of one clock are one
    one_of_clock : (i j : ℕ) (l k : Label) → Lives ls i l → Lives ls j k → own_clock l ≡ own_clock k → l ≡ k
    one_of_clock i j l k first second same =
        let place = found.fits.once i j l k first.there second.there same in
        same_there ls j l k (subst (λ n. slice_get ls n ≡ Some l) place first.there) second.there

    over : (v w best : ℕ) → Adjacent g v w → HasBest v best → HasBest w best
    over v w best adjacent has =
        let j = found.fits.joined_by v w adjacent in
        let same = found.done j.edge j.x j.y j.among j.links in
        elim j.ends [
          | inl h ↦ record {
            place = j.edge.to;
            label = j.y;
            lives = j.links.to;
            clock = h.1;
            is = sym same
                ∙ ap (λ (m : Label). m.best)
                (one_of_clock j.edge.from has.place j.x has.label j.links.from has.lives (h.0 ∙ sym has.clock))
                ∙ has.is;
          }
          | inr h ↦ record {
            place = j.edge.from;
            label = j.x;
            lives = j.links.from;
            clock = h.0;
            is = same
                ∙ ap (λ (m : Label). m.best)
                (one_of_clock j.edge.to has.place j.y has.label j.links.to has.lives (h.1 ∙ sym has.clock))
                ∙ has.is;
          }
        ]

    along : (v w best : ℕ) (us : List ℕ) → Route g v w us → HasBest v best → HasBest w best
    along v w best [] here has = subst (λ u. HasBest u best) here has
    along v w best (u ∷ us) (first, rest) has = along u w best us rest (over v u best first has)

    system_clock : (s : System) (l : Label) → In s g.systems → s.identity ≡ l.identity → own_clock l ≡ s.clock
    system_clock s l live is = ap clock_of (sym is) ∙ (wf.identified s live).clock

    -- each live system has the best of its component
    pub has_best : (place : ℕ) (l : Label) → Lives ls place l → IsBestIdentity g (own_clock l) l.best
    has_best place l lives =
        let r = found.reached place l lives in (
          r.best,
          record {
            live = r.live;
            reached = r.reached;
            least = λ s live reaches.
                let (us, path) = reaches in
                let (there, k, k-lives, is) = found.fits.place s live in
                let has = along (own_clock l) s.clock l.best us path.route
                (record { place = place; label = l; lives = lives; clock = refl; is = refl }) in
                let one = one_of_clock has.place there has.label k has.lives k-lives
                (has.clock ∙ sym (system_clock s k live (sym is))) in
                let low = (found.reached there k k-lives).low in
                let first = r.is in
                let second : k.best ≡ l.best = ap (λ (m : Label). m.best) (sym one) ∙ has.is in
                omega (arith, low, first, second, is);
          },
          sym r.is,
        )

    -- and so it is by its system
    pub best_of_system : (s : System) → In s g.systems
        → (place : ℕ) × (l : Label) × Lives ls place l × (l.identity ≡ s.identity) × IsBestIdentity g s.clock l.best
    best_of_system s live =
        let (place, l, lives, is) = found.fits.place s live in (
          place,
          l,
          lives,
          is,
          subst (λ v. IsBestIdentity g v l.best) (system_clock s l live (sym is))
              (has_best place l lives),
        )
