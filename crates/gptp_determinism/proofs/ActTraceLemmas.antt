-- What happens in a world with events, act by act, follows from the world and the state of the fate.
use Rattle.std.proofs.Common.{◌≡◌, ◌+◌, ℕ, List, [], ◌∷◌, ◌++◌, Option, refl, sym, ap, subst, ◌∙◌}
use Rattle.gptp_links.specs.declared.bounds.Bounds.{Bounds}
use Rattle.gptp_scenario.specs.declared.change.Timed.{Timed}
use Rattle.gptp_model.specs.Acts.{at}
use Rattle.gptp_model.specs.Course.{WasDone}
use Rattle.gptp_model.specs.Pending.{NothingBefore}
use Rattle.gptp_model.specs.World.{WorldState}
use Rattle.gptp_report.specs.Transitions.{Courses, Makes, Passes, PassesTo, ActTrace, transition}
use Rattle.gptp_determinism.specs.Named.{AnswersOnce, IsNamed}
use Rattle.gptp_determinism.specs.ActTraceLaws.{IsSameTransition, IsSameWay, SameTransitions}
use Rattle.gptp_determinism.proofs.CourseLemmas.{done_once, next_once, not_left}
use Rattle.gptp_determinism.proofs.NameLemmas.{done_named, named_at}

-- ---- acts one after the other

same_append : (first second third fourth : List ActTrace) → SameTransitions first second
    → SameTransitions third fourth → SameTransitions (first ++ third) (second ++ fourth)
same_append [] [] third fourth k l = l
same_append [] (u ∷ us) third fourth k l = absurd k
same_append (t ∷ ts) [] third fourth k l = absurd k
same_append (t ∷ ts) (u ∷ us) third fourth k l = (k.0, same_append ts us third fourth k.1 l)

same_parts : (ts us first second third fourth : List ActTrace) → ts ≡ first ++ third → us ≡ second ++ fourth
    → SameTransitions first second → SameTransitions third fourth → SameTransitions ts us
same_parts ts us first second third fourth ts-is us-is k l =
    subst (λ (xs : List ActTrace). SameTransitions xs us) (sym ts-is)
    (subst (λ (xs : List ActTrace). SameTransitions (first ++ third) xs) (sym us-is)
    (same_append first second third fourth k l))

-- ---- names mean one thing all the way

module _ {F : Type 0} (answers : Bounds → ℕ → F → Option ℕ → F → Type 0) where
  passes_named : (until : ℕ) (ts : List ActTrace) (fate f : F) (w v : WorldState) → IsNamed w
      → Passes answers until ts fate f w v → IsNamed v
  passes_named until [] fate f w v is (_, v-is) = subst (λ (x : WorldState). IsNamed x) (sym v-is) is
  passes_named until (t ∷ ts) fate f w v is (drawn, _, k, ks) =
      passes_named until ts drawn f t.after v
      (done_named answers t.told.timed w t.after fate drawn t.told.done is k.was_done) ks

  pub passes_to_named : (until : ℕ) (ts : List ActTrace) (fate f : F) (w v : WorldState) → IsNamed w
      → PassesTo answers until ts fate f w v → IsNamed v
  passes_to_named until ts fate f w v is k =
      subst (λ (x : WorldState). IsNamed x) (sym k.is)
      (named_at k.between until k.between.last_change (passes_named until ts fate f w k.between is k.passes))

  pub makes_named : (event : Timed) (ts : List ActTrace) (fate f : F) (w v : WorldState) → IsNamed w
      → Makes answers event ts fate f w v → IsNamed v
  makes_named event ts fate f w v is k =
      done_named answers event k.between v k.drawn f k.done
      (passes_to_named event.at k.first fate k.drawn w k.between is k.passes) k.made

  pub courses_named : (until : ℕ) (events : List Timed) (ts : List ActTrace) (fate f : F) (w v : WorldState)
      → IsNamed w → Courses answers until events ts fate f w v → IsNamed v
  courses_named until [] ts fate f w v is k = passes_to_named until ts fate f w v is k
  courses_named until (event ∷ events) ts fate f w v is (first, rest, drawn, a, k, ks, _) =
      courses_named until events rest drawn f a v (makes_named event first fate drawn w a is k) ks

-- ---- one way

module _ {F : Type 0} (answers : Bounds → ℕ → F → Option ℕ → F → Type 0) (once : AnswersOnce answers) where
  passes_once : (until : ℕ) (ts us : List ActTrace) (fate f g : F) (w v u : WorldState) → IsNamed w
      → Passes answers until ts fate f w v → Passes answers until us fate g w u
      → NothingBefore (until + 1) v.net.pending → NothingBefore (until + 1) u.net.pending → IsSameWay ts us f g v u
  passes_once until [] [] fate f g w v u is (f-is, v-is) (g-is, u-is) none nothing =
      record { acts = tt; fate_is = f-is ∙ sym g-is; world = v-is ∙ sym u-is }
  passes_once until [] (x ∷ us) fate f g w v u is (f-is, v-is) (b, x-is, l, ls) none nothing =
      absurd (not_left answers once until x.told.timed w l.next l.early
      (subst (λ (z : WorldState). NothingBefore (until + 1) z.net.pending) v-is none))
  passes_once until (t ∷ ts) [] fate f g w v u is (a, t-is, k, ks) (g-is, u-is) none nothing =
      absurd (not_left answers once until t.told.timed w k.next k.early
      (subst (λ (z : WorldState). NothingBefore (until + 1) z.net.pending) u-is nothing))
  passes_once until (t ∷ ts) (x ∷ us) fate f g w v u is (a, t-is, k, ks) (b, x-is, l, ls) none nothing =
      let acts = next_once w x.told.timed t.told.timed l.next k.next in
      let was : WasDone answers t.told.timed fate b w x.after x.told.done =
      subst (λ (e : Timed). WasDone answers e fate b w x.after x.told.done) acts l.was_done in
      let (fates, worlds, dones) =
      done_once answers once t.told.timed w t.after x.after fate a b t.told.done x.told.done is k.was_done was in
      let rest = passes_once until ts us b f g x.after v u
      (done_named answers t.told.timed w x.after fate b x.told.done is was)
      (subst (λ (z : WorldState). Passes answers until ts b f z v) worlds
      (subst (λ (z : F). Passes answers until ts z f t.after v) fates ks)) ls none nothing in
      let first : IsSameTransition t x =
      record { timed = sym acts; done = dones; before = t-is ∙ sym x-is; after = worlds } in
      record { acts = (first, rest.acts); fate_is = rest.fate_is; world = rest.world }

  passes_to_once : (until : ℕ) (ts us : List ActTrace) (fate f g : F) (w v u : WorldState) → IsNamed w
      → PassesTo answers until ts fate f w v → PassesTo answers until us fate g w u → IsSameWay ts us f g v u
  passes_to_once until ts us fate f g w v u is k l =
      let same = passes_once until ts us fate f g w k.between l.between is k.passes l.passes k.nothing_left
      l.nothing_left in
      record { acts = same.acts; fate_is = same.fate_is; world = k.is ∙ ap (at until) same.world ∙ sym l.is }

  makes_once : (event : Timed) (ts us : List ActTrace) (fate f g : F) (w v u : WorldState) → IsNamed w
      → Makes answers event ts fate f w v → Makes answers event us fate g w u → IsSameWay ts us f g v u
  makes_once event ts us fate f g w v u is k l =
      let same = passes_to_once event.at k.first l.first fate k.drawn l.drawn w k.between l.between is k.passes
      l.passes in
      let named = passes_to_named answers event.at l.first fate l.drawn w l.between is l.passes in
      let was : WasDone answers event l.drawn f l.between v k.done =
      subst (λ (x : WorldState). WasDone answers event l.drawn f x v k.done) same.world
      (subst (λ (z : F). WasDone answers event z f k.between v k.done) same.fate_is k.made) in
      let (fates, worlds, dones) =
      done_once answers once event l.between v u l.drawn f g k.done l.done named was l.made in
      let one = transition event k.done k.between v in
      let other = transition event l.done l.between u in
      let last : IsSameTransition one other =
      record { timed = refl; done = dones; before = same.world; after = worlds } in
      record {
        acts = same_parts ts us k.first l.first (one ∷ []) (other ∷ []) k.are l.are same.acts (last, tt);
        fate_is = fates;
        world = worlds;
      }

  pub courses_once : (until : ℕ) (events : List Timed) (ts us : List ActTrace) (fate f g : F) (w v u : WorldState)
      → IsNamed w → Courses answers until events ts fate f w v → Courses answers until events us fate g w u
      → IsSameWay ts us f g v u
  courses_once until [] ts us fate f g w v u is k l = passes_to_once until ts us fate f g w v u is k l
  courses_once until (event ∷ events) ts us fate f g w v u is (first, rest, x, a, k, ks, k-is)
      (third, fourth, y, b, l, ls, l-is) =
      let front = makes_once event first third fate x y w a b is k l in
      let back = courses_once until events rest fourth y f g b v u (makes_named answers event third fate y w b is l)
      (subst (λ (c : WorldState). Courses answers until events rest y f c v) front.world
      (subst (λ (z : F). Courses answers until events rest z f a v) front.fate_is ks)) ls in
      record {
        acts = same_parts ts us first third rest fourth k-is l-is front.acts back.acts;
        fate_is = back.fate_is;
        world = back.world;
      }
