-- Acts one after another, and what an observer tells of them.
use Rattle.std.proofs.Common.{◌≡◌, ◌<◌, ◌≤◌, ◌+◌, ℕ, List, [], ◌∷◌, ◌++◌, map, Option, Some, None, IfSome, IfNone, refl, ap, sym, subst, ◌∙◌, append_assoc, append-nil, arith}
use Rattle.std.proofs.lemmas.List.Concat.{flat_map-append}
use Rattle.gptp_links.specs.declared.bounds.Bounds.{Bounds}
use Rattle.gptp_scenario.specs.declared.change.Timed.{Timed}
use Rattle.gptp_model.specs.declared.done.Done.{Done}
use Rattle.gptp_model.specs.Acts.{at}
use Rattle.gptp_model.specs.Advancing.{Advances, Advanced, Happens, Stopped, Told}
use Rattle.gptp_model.specs.declared.item.Item.{Item}
use Rattle.gptp_model.specs.Pending.{Entry, IsNext, NothingBefore}
use Rattle.gptp_model.proofs.AdvanceLemmas.{nothing_sooner}
use Rattle.gptp_model.proofs.MomentLemmas.{nothing_before-next}
use Rattle.gptp_model.specs.World.{WorldState}
use Rattle.gptp_world.specs.Following.{Follows, HappensUnseen, IsUpcoming, PassesSeen}
use Rattle.gptp_world.specs.Observing.{Observed, Tells, TellsAct}
use Rattle.gptp_world.specs.Transitions.{Passes, ActTrace, transition}
use Rattle.gptp_words.specs.Lines.{text_of}

-- ---- texts

-- the lines of one text after those of another
pub text_append : (xs ys : List (List ℕ)) → text_of (xs ++ ys) ≡ text_of xs ++ text_of ys
text_append xs ys = flat_map-append (λ line. line ++ 10 ∷ []) xs ys

-- ---- what is told

module _ {O : Type 0} (tells : Told → WorldState → O → O → List (List ℕ) → Type 0) where
  -- of some acts and of more after them
  pub tells-append : (ts more : List ActTrace) (o between o_after : O) (xs ys : List (List ℕ))
      → Tells tells ts o between xs → Tells tells more between o_after ys
      → Tells tells (ts ++ more) o o_after (xs ++ ys)
  tells-append [] more o between o_after xs ys (same, none) rest =
      subst (λ zs. Tells tells more o o_after (zs ++ ys)) (sym none)
      (subst (λ p. Tells tells more p o_after ys) same rest)
  tells-append (t ∷ ts) more o between o_after xs ys (mid, first, back, one, others, is) rest = (
    mid,
    first,
    back ++ ys,
    one,
    tells-append ts more mid between o_after back ys others rest,
    ap (λ zs. zs ++ ys) is ∙ append_assoc first back ys,
  )

  pub observed_none : (o : O) (So : List ℕ → Type 0) → So [] → Observed tells [] o o So
  observed_none o So so = record { lines = []; are = (refl, refl); so = so }

  pub observed_one : (t : ActTrace) (o o_after : O) (So : List ℕ → Type 0)
      → TellsAct tells t.told t.after o o_after So
      → Observed tells (t ∷ []) o o_after So
  observed_one t o o_after So (lines, one, so) =
      record { lines = lines; are = (o_after, lines, [], one, (refl, refl), sym (append-nil lines)); so = so }

  -- what follows from what is so of a text
  pub observed_so : (ts : List ActTrace) (o o_after : O) (So More : List ℕ → Type 0)
      → ((text : List ℕ) → So text → More text) → Observed tells ts o o_after So → Observed tells ts o o_after More
  observed_so ts o o_after So More more observed =
      record { lines = observed.lines; are = observed.are; so = more (text_of observed.lines) observed.so }

  pub observed_more : (ts more : List ActTrace) (o between o_after : O) (First Second Both : List ℕ → Type 0)
      → ((first second : List ℕ) → First first → Second second → Both (first ++ second))
      → Observed tells ts o between First → Observed tells more between o_after Second
      → Observed tells (ts ++ more) o o_after Both
  observed_more ts more o between o_after First Second Both both front back = record {
    lines = front.lines ++ back.lines;
    are = tells-append ts more o between o_after front.lines back.lines front.are back.are;
    so = subst Both (sym (text_append front.lines back.lines))
        (both (text_of front.lines) (text_of back.lines) front.so back.so);
  }

-- ---- acts

abbrev pub all_told : List ActTrace → List Told
all_told ts = map (λ (t : ActTrace). t.told) ts

module _ {F : Type 0} (answers : Bounds → ℕ → F → Option ℕ → F → Type 0) where
  pub passes-append : (until : ℕ) (ts more : List ActTrace) (fate drawn fate_after : F) (w between w' : WorldState)
      → Passes answers until ts fate drawn w between → Passes answers until more drawn fate_after between w'
      → Passes answers until (ts ++ more) fate fate_after w w'
  passes-append until [] more fate drawn fate_after w between w' (same, is) rest =
      subst (λ (f : F). Passes answers until more f fate_after w w') same
      (subst (λ (x : WorldState). Passes answers until more drawn fate_after x w') is rest)
  passes-append until (t ∷ ts) more fate drawn fate_after w between w' (f, is, happens, front) rest =
      (f, is, happens, passes-append until ts more f drawn fate_after t.after between w' front rest)

  pub passes-later : (until later : ℕ) (ts : List ActTrace) (fate fate_after : F) (w w' : WorldState) → until ≤ later
      → Passes answers until ts fate fate_after w w' → Passes answers later ts fate fate_after w w'
  passes-later until later [] fate fate_after w w' less none = none
  passes-later until later (t ∷ ts) fate fate_after w w' less (f, is, happens, rest) =
      let early = happens.early in (
        f,
        is,
        record { next = happens.next; early = omega (arith, less, early); was_done = happens.was_done },
        passes-later until later ts f fate_after t.after w' less rest,
      )

  -- what was told of them, one after another
  pub passes_advances : (until : ℕ) (ts : List ActTrace) (fate fate_after : F) (w w' : WorldState)
      → Passes answers until ts fate fate_after w w' → Advances answers until (all_told ts) fate fate_after w w'
  passes_advances until [] fate fate_after w w' none = none
  passes_advances until (t ∷ ts) fate fate_after w w' (drawn, is, happens, rest) =
      (drawn, t.after, happens, passes_advances until ts drawn fate_after t.after w' rest)

-- ---- acts and what is told of them

module _ {F O : Type 0} (answers : Bounds → ℕ → F → Option ℕ → F → Type 0)
    (tells : Told → WorldState → O → O → List (List ℕ) → Type 0) where
  -- no act
  pub follows_none : (until : ℕ) (fate : F) (w : WorldState) (o : O) (So : List ℕ → Type 0) → So []
      → Follows answers tells until fate fate w w o o So
  follows_none until fate w o So so =
      record { ts = []; passes = (refl, refl); observed = observed_none tells o So so }

  -- one act
  pub follows_one : (until : ℕ) (timed : Timed) (done : Done) (fate fate_after : F) (w w' : WorldState) (o o_after : O)
      (So : List ℕ → Type 0) → Happens answers until (record { timed = timed; done = done }) fate fate_after w w'
      → TellsAct tells (record { timed = timed; done = done }) w' o o_after So
      → Follows answers tells until fate fate_after w w' o o_after So
  follows_one until timed done fate fate_after w w' o o_after So happens told = record {
    ts = transition timed done w w' ∷ [];
    passes = (fate_after, refl, happens, (refl, refl));
    observed = observed_one tells (transition timed done w w') o o_after So told;
  }

  -- one act of which nothing is told
  pub follows_unseen : (time : ℕ) (fate fate_after : F) (w w' : WorldState) (o : O) (So : List ℕ → Type 0)
      → HappensUnseen answers time fate fate_after w w' → ((told : Told) (x : WorldState) → tells told x o o [])
      → So [] → Follows answers tells time fate fate_after w w' o o So
  follows_unseen time fate fate_after w w' o So unseen nothing so =
      follows_one time unseen.told.timed unseen.told.done fate fate_after w w' o o So unseen.happens
      ([], nothing unseen.told w', so)

  pub follows_so : (until : ℕ) (fate fate_after : F) (w w' : WorldState) (o o_after : O) (So More : List ℕ → Type 0)
      → ((text : List ℕ) → So text → More text) → Follows answers tells until fate fate_after w w' o o_after So
      → Follows answers tells until fate fate_after w w' o o_after More
  follows_so until fate fate_after w w' o o_after So More more follows = record {
    ts = follows.ts;
    passes = follows.passes;
    observed = observed_so tells follows.ts o o_after So More more follows.observed;
  }

  pub follows_more : (until : ℕ) (fate drawn fate_after : F) (w between w' : WorldState) (o mid o_after : O)
      (First Second Both : List ℕ → Type 0)
      → ((first second : List ℕ) → First first → Second second → Both (first ++ second))
      → Follows answers tells until fate drawn w between o mid First
      → Follows answers tells until drawn fate_after between w' mid o_after Second
      → Follows answers tells until fate fate_after w w' o o_after Both
  follows_more until fate drawn fate_after w between w' o mid o_after First Second Both both front back = record {
    ts = front.ts ++ back.ts;
    passes = passes-append answers until front.ts back.ts fate drawn fate_after w between w' front.passes back.passes;
    observed = observed_more tells front.ts back.ts o mid o_after First Second Both both front.observed back.observed;
  }

  pub follows_later : (until later : ℕ) (fate fate_after : F) (w w' : WorldState) (o o_after : O) (So : List ℕ → Type 0)
      → until ≤ later → Follows answers tells until fate fate_after w w' o o_after So
      → Follows answers tells later fate fate_after w w' o o_after So
  follows_later until later fate fate_after w w' o o_after So less follows = record {
    ts = follows.ts;
    passes = passes-later answers until later follows.ts fate fate_after w w' less follows.passes;
    observed = follows.observed;
  }

  -- It went on before its observer until nothing was left, and then its time became that.
  pub goes_on_seen : (until : ℕ) (fate fate_after : F) (w between w' : WorldState) (o o_after : O)
      (So : List ℕ → Type 0) → w.time ≤ until → Follows answers tells until fate fate_after w between o o_after So
      → NothingBefore (until + 1) between.net.pending → w' ≡ at until between
      → PassesSeen answers tells until fate fate_after w w' o o_after So
  goes_on_seen until fate fate_after w between w' o o_after So ahead follows none is = record {
    ts = follows.ts;
    passes = record {
      ahead = ahead;
      between = between;
      passes = follows.passes;
      nothing_left = none;
      is = is;
    };
    observed = follows.observed;
  }

  -- ---- whoever saw it

  pub follows_stopped : (until : ℕ) (fate fate_after : F) (w w' : WorldState) (o o_after : O) (So : List ℕ → Type 0)
      → Follows answers tells until fate fate_after w w' o o_after So → Stopped answers until fate fate_after w w'
  follows_stopped until fate fate_after w w' o o_after So follows = record {
    told = all_told follows.ts;
    advances = passes_advances answers until follows.ts fate fate_after w w' follows.passes;
  }

  pub seen_advanced : (until : ℕ) (fate fate_after : F) (w w' : WorldState) (o o_after : O) (So : List ℕ → Type 0)
      → (seen : PassesSeen answers tells until fate fate_after w w' o o_after So)
      → Advanced answers until (all_told seen.ts) fate fate_after w w'
  seen_advanced until fate fate_after w w' o o_after So seen = record {
    ahead = seen.passes.ahead;
    between = seen.passes.between;
    advances = passes_advances answers until seen.ts fate fate_after w seen.passes.between seen.passes.passes;
    nothing_left = seen.passes.nothing_left;
    is = seen.passes.is;
  }

-- ---- what is next

pub is_upcoming : (next : Option (ℕ × Item)) (es : List Entry) → IfSome next (λ due. IsNext es due.0 due.1)
    → IfNone next (es ≡ []) → IsUpcoming next es
is_upcoming None es some none = none
is_upcoming (Some due) es some none = some

pub nothing_upcoming : (until : ℕ) (es : List Entry) → es ≡ [] → NothingBefore (until + 1) es
nothing_upcoming until es none = subst (NothingBefore (until + 1)) (sym none) (λ place d within. absurd (omega arith))

-- nothing is pending before what is next
pub later_than : (time until : ℕ) (item : Item) (es : List Entry) → until < time → IsNext es time item
    → NothingBefore (until + 1) es
later_than time until item es late next =
    nothing_sooner (until + 1) time es (omega arith) (nothing_before-next es time item next)
