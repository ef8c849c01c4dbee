-- A document that stopped before its end is on its one way, and its lines so far are the first of all.
use Rattle.std.proofs.Common.{◌≡◌, ℕ, Bool, true, false, List, [], ◌∷◌, ◌++◌, Option, refl, sym, ap, subst, ◌∙◌, inl, inr, append_assoc}
use Rattle.gptp_links.specs.declared.bounds.Bounds.{Bounds}
use Rattle.gptp_network.specs.Document.{DocumentState}
use Rattle.gptp_network.specs.Snapshot.{events_by}
use Rattle.gptp_scenario.specs.declared.change.Timed.{Timed}
use Rattle.gptp_model.specs.Advancing.{Advanced, Told}
use Rattle.gptp_model.specs.Initial.{initial}
use Rattle.gptp_model.specs.World.{WorldState}
use Rattle.gptp_report.specs.Run.{Goes, LeadsTo, ShowsFrames, ShowsIf}
use Rattle.gptp_determinism.specs.CourseLaws.{SameTold}
use Rattle.gptp_determinism.specs.Named.{AnswersOnce, IsNamed}
use Rattle.gptp_report.specs.Run.{BreaksOff, GoesSoFar, LeadsSoFar}
use Rattle.gptp_determinism.proofs.CourseLemmas.{begins_once, same_told-append, stops_on_the_way}
use Rattle.gptp_determinism.proofs.LineLemmas.{shown_once}
use Rattle.gptp_determinism.proofs.NameLemmas.{begun_named}
use Rattle.gptp_determinism.proofs.RunLemmas.{changed_named, changed_once}

-- acts that were told of are the first of more
record IsFront (told more : List Told) : Type 0 where
  first : List Told
  rest : List Told
  is : more ≡ first ++ rest
  same : SameTold told first

-- ---- lines

-- the lines of acts one after another
split_shown : (told more : List Told) (lines : List (List ℕ)) → ShowsFrames (told ++ more) lines
    → (xs : List (List ℕ)) × (ys : List (List ℕ)) × ShowsFrames told xs × (lines ≡ xs ++ ys)
split_shown [] more lines k = ([], lines, refl, refl)
split_shown (t ∷ told) more lines (first, rest, k, ks, is) =
    let (xs, ys, front, same) = split_shown told more rest ks in (
      first ++ xs,
      ys,
      (first, xs, k, front, refl),
      is ∙ ap (λ (zs : List (List ℕ)). first ++ zs) same ∙ sym (append_assoc first xs ys),
    )

front_shown : (frames : Bool) (told more : List Told) (xs ys : List (List ℕ)) → IsFront told more
    → ShowsIf frames told xs → ShowsIf frames more ys → (rest : List (List ℕ)) × (ys ≡ xs ++ rest)
front_shown true told more xs ys front k l =
    let (zs, rest, shown, is) = split_shown front.first front.rest ys
    (subst (λ (ts : List Told). ShowsFrames ts ys) front.is l) in
    let same = shown_once true told front.first xs zs front.same k shown in
    (rest, is ∙ ap (λ (vs : List (List ℕ)). vs ++ rest) (sym same))
front_shown false told more xs ys front k l = ([], l ∙ ap (λ (vs : List (List ℕ)). vs ++ []) (sym k))

-- ---- acts

module _ {F : Type 0} (answers : Bounds → ℕ → F → Option ℕ → F → Type 0) (once : AnswersOnce answers) where
  -- what broke off on the way to a time
  broken_front : (until : ℕ) (told more : List Told) (fate g : F) (w u : WorldState) → IsNamed w
      → BreaksOff answers until told fate w → Advanced answers until more fate g w u → IsFront told more
  broken_front until told more fate g w u is k l =
      let on = stops_on_the_way answers once until told more fate k.fate_after g w k.after u is k.advances l in
      record { first = on.first; rest = on.rest; is = on.is; same = on.same }

  -- so are the first of acts with more after them
  with_more : (told third fourth more : List Told) → more ≡ third ++ fourth → IsFront told third → IsFront told more
  with_more told third fourth more is k = record {
    first = k.first;
    rest = k.rest ++ fourth;
    is = is ∙ ap (λ (ts : List Told). ts ++ fourth) k.is ∙ append_assoc k.first k.rest fourth;
    same = k.same;
  }

  goes_front : (until : ℕ) (events : List Timed) (told more : List Told) (fate g : F) (w u : WorldState) → IsNamed w
      → GoesSoFar answers until events told fate w → Goes answers until events more fate g w u → IsFront told more
  goes_front until [] told more fate g w u is k l = broken_front until told more fate g w u is k l
  goes_front until (event ∷ events) told more fate g w u is (inl k) (third, fourth, y, b, l, ls, l-is) =
      with_more told third fourth more l-is
      (broken_front event.at told third fate l.drawn w l.between is k l.advanced)
  goes_front until (event ∷ events) told more fate g w u is (inr (first, rest, x, a, k, ks, k-is))
      (third, fourth, y, b, l, ls, l-is) =
      let same = changed_once answers once event first third fate x y w a b is k l in
      let on = goes_front until events rest fourth y g b u (changed_named answers event third w b fate y is l)
      (subst (λ (c : WorldState). GoesSoFar answers until events rest y c) same.world
      (subst (λ (z : F). GoesSoFar answers until events rest z a) same.fate_is ks)) ls in
      record {
        first = third ++ on.first;
        rest = on.rest;
        is = l-is ∙ ap (λ (ts : List Told). third ++ ts) on.is ∙ sym (append_assoc third on.first on.rest);
        same = subst (λ (ts : List Told). SameTold ts (third ++ on.first)) (sym k-is)
            (same_told-append first third rest on.first same.told_is on.same);
      }

  pub leads_begin_so : (d : DocumentState) (until : ℕ) (frames : Bool) (fate : F) (w : WorldState)
      (lines whole : List (List ℕ)) → IsNamed (initial d.network) → LeadsSoFar answers d until frames fate lines
      → LeadsTo answers d until frames fate w whole → (rest : List (List ℕ)) × (whole ≡ lines ++ rest)
  leads_begin_so d until frames fate w lines whole is k l =
      let events = events_by until d.events in
      let on = l.plays in
      let (fates, worlds) =
      begins_once answers once d.network fate k.started on.started k.start on.start is k.begun on.begun in
      let front = goes_front until events k.told l.told on.started on.drawn on.start w
      (begun_named answers d.network fate on.started on.start is on.begun)
      (subst (λ (x : WorldState). GoesSoFar answers until events k.told on.started x) worlds
      (subst (λ (z : F). GoesSoFar answers until events k.told z k.start) fates k.goes)) on.goes in
      front_shown frames k.told l.told lines whole front k.shows l.shows
