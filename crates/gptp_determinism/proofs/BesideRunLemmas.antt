-- What happens in two worlds that are the same but for the time that systems read and tell.
use Rattle.std.proofs.Common.{◌≡◌, ◌+◌, ℕ, List, [], ◌∷◌, ◌++◌, Option, refl, sym, subst, ◌∙◌}
use Rattle.std.specs.List.{AllZip}
use Rattle.gptp_links.specs.declared.bounds.Bounds.{Bounds}
use Rattle.gptp_links.specs.Fate.{Draw, Draws}
use Rattle.gptp_scenario.specs.declared.change.Timed.{Timed}
use Rattle.gptp_model.specs.declared.done.Done.{Done}
use Rattle.gptp_model.specs.Acts.{at}
use Rattle.gptp_model.specs.Course.{WasDone}
use Rattle.gptp_model.specs.Pending.{NothingBefore}
use Rattle.gptp_model.specs.World.{WorldState}
use Rattle.gptp_report.specs.Transitions.{Courses, Makes, Passes, PassesTo, ActTrace, transition}
use Rattle.gptp_determinism.specs.BesideWorlds.{ActsFitAlike, DoneBeside, WorldsBeside}
use Rattle.gptp_determinism.specs.Named.{AnswersOnce, IsNamed}
use Rattle.gptp_determinism.specs.WorldsBesideLaws.{AllFitAlike, CoursesBesideTime, IsWayBeside, TransitionsBeside}
use Rattle.gptp_determinism.proofs.ActTraceLemmas.{makes_named, passes_to_named}
use Rattle.gptp_determinism.proofs.BesideActLemmas.{acts_beside}
use Rattle.gptp_determinism.proofs.BesideBeginLemmas.{next_too}
use Rattle.gptp_determinism.proofs.CourseLemmas.{next_once, not_left}
use Rattle.gptp_determinism.proofs.NameLemmas.{done_named, named_at}
use Rattle.gptp_determinism.proofs.SendLemmas.{draws_once}

-- ---- acts one after the other

each_append : (first second third fourth : List ActTrace) → AllZip TransitionsBeside first second
    → AllZip TransitionsBeside third fourth → AllZip TransitionsBeside (first ++ third) (second ++ fourth)
each_append [] [] third fourth k l = l
each_append [] (u ∷ us) third fourth k l = absurd k
each_append (t ∷ ts) [] third fourth k l = absurd k
each_append (t ∷ ts) (u ∷ us) third fourth k l = (k.0, each_append ts us third fourth k.1 l)

each_parts : (ts us first second third fourth : List ActTrace) → ts ≡ first ++ third → us ≡ second ++ fourth
    → AllZip TransitionsBeside first second → AllZip TransitionsBeside third fourth → AllZip TransitionsBeside ts us
each_parts ts us first second third fourth ts-is us-is k l =
    subst (λ (xs : List ActTrace). AllZip TransitionsBeside xs us) (sym ts-is)
    (subst (AllZip TransitionsBeside (first ++ third)) (sym us-is) (each_append first second third fourth k l))

-- the numbers fit at the first acts, and at those after them
front_fits : (first second third fourth : List ActTrace) → AllFitAlike (first ++ third) (second ++ fourth)
    → AllFitAlike first second
front_fits [] second third fourth fit = tt
front_fits (t ∷ ts) [] third fourth fit = tt
front_fits (t ∷ ts) (u ∷ us) third fourth fit = (fit.0, front_fits ts us third fourth fit.1)

back_fits : (first second third fourth : List ActTrace) → AllZip TransitionsBeside first second
    → AllFitAlike (first ++ third) (second ++ fourth) → AllFitAlike third fourth
back_fits [] [] third fourth each fit = fit
back_fits [] (u ∷ us) third fourth each fit = absurd each
back_fits (t ∷ ts) [] third fourth each fit = absurd each
back_fits (t ∷ ts) (u ∷ us) third fourth each fit = back_fits ts us third fourth each.1 fit.1

parts_fit : (ts us first second third fourth : List ActTrace) → ts ≡ first ++ third → us ≡ second ++ fourth
    → AllFitAlike ts us → AllFitAlike (first ++ third) (second ++ fourth)
parts_fit ts us first second third fourth ts-is us-is fit =
    subst (λ (xs : List ActTrace). AllFitAlike xs (second ++ fourth)) ts-is (subst (AllFitAlike ts) us-is fit)

-- such worlds at one time
at_beside : (time : ℕ) (w v : WorldState) → WorldsBeside w v → WorldsBeside (at time w) (at time v)
at_beside time w v is =
    record { time = refl; last_change = is.last_change; stations = is.stations; net = is.net }

module _ {F : Type 0} (answers : Bounds → ℕ → F → Option ℕ → F → Type 0) (once : AnswersOnce answers) where
  done_beside : (event : Timed) (w v w' v' : WorldState) (fate f g : F) (done said : Done) → IsNamed w
      → WorldsBeside w v → ActsFitAlike event.act (at event.at w) (at event.at v)
      → WasDone answers event fate f w w' done → WasDone answers event fate g v v' said
      → (f ≡ g) × WorldsBeside w' v' × DoneBeside done said
  done_beside event w v w' v' fate f g done said named is fit k l =
      let same = acts_beside answers once event.act (at event.at w) (at event.at v) w' v' fate f g k.draws l.draws done
      said (named_at w event.at w.last_change named) (at_beside event.at w v is) fit k.drawn l.drawn k.acts l.acts in (
        draws_once answers once fate f g l.draws
            (subst (λ (ds : List Draw). Draws answers fate ds f) same.draws_are k.drawn) l.drawn,
        same.worlds,
        same.done_is,
      )

  passes_beside : (until : ℕ) (ts us : List ActTrace) (fate f g : F) (w v w' v' : WorldState) → IsNamed w
      → WorldsBeside w v → AllFitAlike ts us → Passes answers until ts fate f w w' → Passes answers until us fate g v v'
      → NothingBefore (until + 1) w'.net.pending → NothingBefore (until + 1) v'.net.pending
      → IsWayBeside ts us f g w' v'
  passes_beside until [] [] fate f g w v w' v' named is fit (f-is, w-is) (g-is, v-is) none nothing = record {
    acts = tt;
    fate_is = f-is ∙ sym g-is;
    worlds = subst (λ (z : WorldState). WorldsBeside z v') (sym w-is) (subst (WorldsBeside w) (sym v-is) is);
  }
  passes_beside until [] (x ∷ us) fate f g w v w' v' named is fit (f-is, w-is) (b, x-is, l, ls) none nothing =
      absurd (not_left answers once until x.told.timed v l.next l.early
      (subst (NothingBefore (until + 1)) is.net.pending
      (subst (λ (z : WorldState). NothingBefore (until + 1) z.net.pending) w-is none)))
  passes_beside until (t ∷ ts) [] fate f g w v w' v' named is fit (a, t-is, k, ks) (g-is, v-is) none nothing =
      absurd (not_left answers once until t.told.timed v (next_too w v t.told.timed is k.next) k.early
      (subst (λ (z : WorldState). NothingBefore (until + 1) z.net.pending) v-is nothing))
  passes_beside until (t ∷ ts) (x ∷ us) fate f g w v w' v' named is fit (a, t-is, k, ks) (b, x-is, l, ls) none
      nothing =
      let acts : x.told.timed ≡ t.told.timed =
      next_once v x.told.timed t.told.timed l.next (next_too w v t.told.timed is k.next) in
      let was : WasDone answers t.told.timed fate b v x.after x.told.done =
      subst (λ (e : Timed). WasDone answers e fate b v x.after x.told.done) acts l.was_done in
      let fits : ActsFitAlike t.told.timed.act (at t.told.timed.at w) (at t.told.timed.at v) =
      subst (λ (e : Timed). ActsFitAlike t.told.timed.act (at t.told.timed.at w) (at e.at v)) acts
      (subst (λ (z : WorldState). ActsFitAlike t.told.timed.act (at t.told.timed.at w) (at x.told.timed.at z)) x-is
      (subst (λ (z : WorldState). ActsFitAlike t.told.timed.act (at t.told.timed.at z) (at x.told.timed.at x.before))
      t-is fit.0)) in
      let (fates, worlds, dones) =
      done_beside t.told.timed w v t.after x.after fate a b t.told.done x.told.done named is fits k.was_done was in
      let rest = passes_beside until ts us b f g t.after x.after w' v'
      (done_named answers t.told.timed w t.after fate a t.told.done named k.was_done) worlds fit.1
      (subst (λ (z : F). Passes answers until ts z f t.after w') fates ks) ls none nothing in
      let first : TransitionsBeside t x = record {
        timed = sym acts;
        done = dones;
        before = subst (λ (z : WorldState). WorldsBeside z x.before) (sym t-is) (subst (WorldsBeside w) (sym x-is) is);
        after = worlds;
      } in
      record { acts = (first, rest.acts); fate_is = rest.fate_is; worlds = rest.worlds }

  passes_to_beside : (until : ℕ) (ts us : List ActTrace) (fate f g : F) (w v w' v' : WorldState) → IsNamed w
      → WorldsBeside w v → AllFitAlike ts us → PassesTo answers until ts fate f w w'
      → PassesTo answers until us fate g v v' → IsWayBeside ts us f g w' v'
  passes_to_beside until ts us fate f g w v w' v' named is fit k l =
      let same = passes_beside until ts us fate f g w v k.between l.between named is fit k.passes l.passes
      k.nothing_left l.nothing_left in
      record {
        acts = same.acts;
        fate_is = same.fate_is;
        worlds =
            subst (λ (z : WorldState). WorldsBeside z v') (sym k.is)
            (subst (WorldsBeside (at until k.between)) (sym l.is)
            (at_beside until k.between l.between same.worlds));
      }

  makes_beside : (event : Timed) (ts us : List ActTrace) (fate f g : F) (w v w' v' : WorldState) → IsNamed w
      → WorldsBeside w v → AllFitAlike ts us → Makes answers event ts fate f w w' → Makes answers event us fate g v v'
      → IsWayBeside ts us f g w' v'
  makes_beside event ts us fate f g w v w' v' named is fit k l =
      let one = transition event k.done k.between w' in
      let other = transition event l.done l.between v' in
      let all = parts_fit ts us k.first l.first (one ∷ []) (other ∷ []) k.are l.are fit in
      let same = passes_to_beside event.at k.first l.first fate k.drawn l.drawn w v k.between l.between named is
      (front_fits k.first l.first (one ∷ []) (other ∷ []) all) k.passes l.passes in
      let last = back_fits k.first l.first (one ∷ []) (other ∷ []) same.acts all in
      let between = passes_to_named answers event.at k.first fate k.drawn w k.between named k.passes in
      let was : WasDone answers event l.drawn f k.between w' k.done =
      subst (λ (z : F). WasDone answers event z f k.between w' k.done) same.fate_is k.made in
      let (fates, worlds, dones) =
      done_beside event k.between l.between w' v' l.drawn f g k.done l.done between same.worlds last.0 was l.made in
      let made : TransitionsBeside one other =
      record { timed = refl; done = dones; before = same.worlds; after = worlds } in
      record {
        acts = each_parts ts us k.first l.first (one ∷ []) (other ∷ []) k.are l.are same.acts (made, tt);
        fate_is = fates;
        worlds = worlds;
      }

  courses : (until : ℕ) (events : List Timed) (ts us : List ActTrace) (fate f g : F) (w v w' v' : WorldState)
      → IsNamed w → WorldsBeside w v → AllFitAlike ts us → Courses answers until events ts fate f w w'
      → Courses answers until events us fate g v v' → IsWayBeside ts us f g w' v'
  courses until [] ts us fate f g w v w' v' named is fit k l =
      passes_to_beside until ts us fate f g w v w' v' named is fit k l
  courses until (event ∷ events) ts us fate f g w v w' v' named is fit (first, rest, x, a, k, ks, k-is)
      (third, fourth, y, b, l, ls, l-is) =
      let all = parts_fit ts us first third rest fourth k-is l-is fit in
      let front = makes_beside event first third fate x y w v a b named is
      (front_fits first third rest fourth all) k l in
      let back = courses until events rest fourth y f g a b w' v'
      (makes_named answers event first fate x w a named k) front.worlds
      (back_fits first third rest fourth front.acts all)
      (subst (λ (z : F). Courses answers until events rest z f a w') front.fate_is ks) ls in
      record {
        acts = each_parts ts us first third rest fourth k-is l-is front.acts back.acts;
        fate_is = back.fate_is;
        worlds = back.worlds;
      }

pub courses_beside : {F : Type 0} (answers : Bounds → ℕ → F → Option ℕ → F → Type 0) → CoursesBesideTime answers
courses_beside answers once until events ts us fate f g w v w' v' named is fit k l =
    courses answers once until events ts us fate f g w v w' v' named is fit k l
