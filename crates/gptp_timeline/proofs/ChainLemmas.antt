-- The acts of a stretch, each with the systems before it and after it.
use Rattle.std.proofs.Common.{◌≡◌, ℕ, List, [], ◌∷◌, ◌++◌, Option, refl, sym, ap, subst, inl, inr}
use Rattle.gptp_model.specs.declared.station.Station.{Station}
use Rattle.gptp_model.specs.Acts.{at, Acts}
use Rattle.gptp_model.specs.Course.{WasDone}
use Rattle.gptp_model.specs.World.{WorldState}
use Rattle.gptp_links.specs.declared.bounds.Bounds.{Bounds}
use Rattle.gptp_links.specs.Fate.{Draw}
use Rattle.gptp_scenario.specs.declared.change.Timed.{Timed}
use Rattle.gptp_world.specs.Transitions.{Passes, PassesTo, ActTrace}
use Rattle.gptp_report.specs.Transitions.{Breaks, Courses, CoursesSoFar, Makes}

-- an act was done
pub record IsDone (t : ActTrace) : Type 0 where
  pub draws : List Draw
  pub acts : Acts t.told.timed.act (at t.told.timed.at t.before) draws t.told.done t.after

-- Acts were done one after another, each with the systems that the one before left.
abbrev pub Chain : List ActTrace → List Station → List Station → Type 0
Chain [] before after = before ≡ after
Chain (t ∷ ts) before after = (t.before.stations ≡ before) × IsDone t × Chain ts t.after.stations after

pub chain-append : (ts us : List ActTrace) (before between after : List Station) → Chain ts before between
    → Chain us between after → Chain (ts ++ us) before after
chain-append [] us before between after same chain = subst (λ s. Chain us s after) (sym same) chain
chain-append (t ∷ ts) us before between after (first, done, rest) chain =
    (first, done, chain-append ts us t.after.stations between after rest chain)

module _ {F : Type 0} (answers : Bounds → ℕ → F → Option ℕ → F → Type 0) where
  was_done : (t : ActTrace) (fate fate_after : F) (w : WorldState) → t.before ≡ w
      → WasDone answers t.told.timed fate fate_after w t.after t.told.done → IsDone t
  was_done t fate fate_after w before done = record {
    draws = done.draws;
    acts = subst (λ v. Acts t.told.timed.act (at t.told.timed.at v) done.draws t.told.done t.after) (sym before)
        done.acts;
  }

  pub passes_chain : (until : ℕ) (ts : List ActTrace) (fate fate_after : F) (w w' : WorldState)
      → Passes answers until ts fate fate_after w w' → Chain ts w.stations w'.stations
  passes_chain until [] fate fate_after w w' (same, is) = sym (ap (λ (v : WorldState). v.stations) is)
  passes_chain until (t ∷ ts) fate fate_after w w' (drawn, before, happens, rest) = (
    ap (λ (v : WorldState). v.stations) before,
    was_done t fate drawn w before happens.was_done,
    passes_chain until ts drawn fate_after t.after w' rest,
  )

  pub passes_to_chain : (until : ℕ) (ts : List ActTrace) (fate fate_after : F) (w w' : WorldState)
      → PassesTo answers until ts fate fate_after w w' → Chain ts w.stations w'.stations
  passes_to_chain until ts fate fate_after w w' p =
      subst (Chain ts w.stations) (sym (ap (λ (v : WorldState). v.stations) p.is))
      (passes_chain until ts fate fate_after w p.between p.passes)

  pub makes_chain : (event : Timed) (ts : List ActTrace) (fate fate_after : F) (w w' : WorldState)
      → Makes answers event ts fate fate_after w w' → Chain ts w.stations w'.stations
  makes_chain event ts fate fate_after w w' m =
      let one : IsDone (record { told = record { timed = event; done = m.done }; before = m.between; after = w' }) =
      record { draws = m.made.draws; acts = m.made.acts } in
      subst (λ us. Chain us w.stations w'.stations) (sym m.are)
      (chain-append m.first _ w.stations m.between.stations w'.stations
      (passes_to_chain event.at m.first fate m.drawn w m.between m.passes) (refl, one, refl))

  pub courses_chain : (until : ℕ) (events : List Timed) (ts : List ActTrace) (fate fate_after : F) (w w' : WorldState)
      → Courses answers until events ts fate fate_after w w' → Chain ts w.stations w'.stations
  courses_chain until [] ts fate fate_after w w' c = passes_to_chain until ts fate fate_after w w' c
  courses_chain until (e ∷ es) ts fate fate_after w w' (first, rest, drawn, between, makes, courses, is) =
      subst (λ us. Chain us w.stations w'.stations) (sym is)
      (chain-append first rest w.stations between.stations w'.stations
      (makes_chain e first fate drawn w between makes)
      (courses_chain until es rest drawn fate_after between w' courses))

  -- acts that break off are a chain too
  breaks_chain : (until : ℕ) (ts : List ActTrace) (fate : F) (w : WorldState) → Breaks answers until ts fate w
      → (after : List Station) × Chain ts w.stations after
  breaks_chain until ts fate w b = (b.after.stations, passes_chain until ts fate b.fate_after w b.after b.passes)

  pub broken_chain : (until : ℕ) (events : List Timed) (ts : List ActTrace) (fate : F) (w : WorldState)
      → CoursesSoFar answers until events ts fate w → (after : List Station) × Chain ts w.stations after
  broken_chain until [] ts fate w c = breaks_chain until ts fate w c
  broken_chain until (e ∷ es) ts fate w (inl c) = breaks_chain e.at ts fate w c
  broken_chain until (e ∷ es) ts fate w (inr (first, rest, drawn, between, makes, courses, is)) =
      let (after, chain) = broken_chain until es rest drawn between courses in (
        after,
        subst (λ us. Chain us w.stations after) (sym is)
            (chain-append first rest w.stations between.stations after
            (makes_chain e first fate drawn w between makes) chain),
      )
