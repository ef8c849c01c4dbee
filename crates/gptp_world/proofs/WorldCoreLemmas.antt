-- How a world begins.
use Rattle.std.proofs.Common.{◌≡◌, ℕ, ◌<◌, ◌+◌, List, [], ◌∷◌, ◌++◌, length, Option, refl, ap, sym, subst, ◌∙◌, arith}
use Rattle.std.specs.List.{range_with_len}
use Rattle.std.proofs.lemmas.List.{length-set}
use Rattle.gptp_links.specs.declared.bounds.Bounds.{Bounds}
use Rattle.gptp_links.specs.Fate.{Draw}
use Rattle.gptp_links.proofs.DrawLemmas as draws
use Rattle.gptp_system.specs.Input.{Input}
use Rattle.gptp_scenario.specs.declared.change.Act.{Act}
use Rattle.gptp_world.specs.declared.world_parts.WorldParts.{WorldParts}
use Rattle.gptp_model.specs.Acts.{at, IsReadyAct}
use Rattle.gptp_model.specs.Changing.{fresh, CallsAll, Starts, StartsAll}
use Rattle.gptp_world.specs.WorldCore.{SystemsStarted}
use Rattle.gptp_model.specs.Sound.{IsSound}
use Rattle.gptp_world.specs.WorldParts.{world_of}
use Rattle.gptp_world.specs.Starting.{CanStart, Started}
use Rattle.gptp_model.specs.World.{WorldState}
use Rattle.gptp_world.proofs.ComingUpLemmas.{range-more}
use Rattle.gptp_lists.proofs.PlaceLemmas.{member_there}
use Rattle.gptp_model.proofs.SoundLemmas.{later_sound, starts_sound}

-- ---- one system

-- a system of a sound world can start
pub can_start : (parts : WorldParts) (place : ℕ) → IsSound (world_of parts) → place < length parts.stations.items
    → CanStart place parts
can_start parts place is less =
    let found = member_there parts.stations.items place less in
    record {
      station = found.0;
      here = found.1;
      setup = is.wired.setups place found.0 found.1;
      params = (is.on_time.stations place found.0 found.1).setup;
    }

pub same_sound : (w w' : WorldState) → w' ≡ w → IsSound w → IsSound w'
same_sound w w' same is = subst IsSound (sym same) is

-- once room is made, a world is sound at the time of an act that is ready
pub ready_sound : (act : Act) (time : ℕ) (w made : WorldState) → IsSound w → made ≡ w → IsReadyAct act time w
    → IsSound (at time made)
ready_sound act time w made is same ready =
    subst (λ (x : WorldState). IsSound (at time x)) (sym same) (later_sound w time w.last_change is ready.timely.first)

-- one start is a list of one
alone : (place : ℕ) (w : WorldState) (ds : List Draw) (w' : WorldState) → Starts place w ds w'
    → StartsAll (place ∷ []) w ds w'
alone place w ds w' starts = (ds, [], w', sym (append_none ds), starts, (refl, refl))
  where
    append_none : (xs : List Draw) → xs ++ [] ≡ xs
    append_none [] = refl
    append_none (x ∷ xs) = ap (λ ys. x ∷ ys) (append_none xs)

pub start_sound : (place : ℕ) (w : WorldState) (ds : List Draw) (w' : WorldState) → IsSound w → Starts place w ds w'
    → IsSound w'
start_sound place w ds w' is starts = starts_sound (place ∷ []) w ds w' is (alone place w ds w' starts)

calls_count : (place : ℕ) (inputs : List Input) (w : WorldState) (ds : List Draw) (w' : WorldState)
    → CallsAll place inputs w ds w' → length w'.stations ≡ length w.stations
calls_count place [] w ds w' (none, is) = ap (λ (x : WorldState). length x.stations) is
calls_count place (input ∷ inputs) w ds w' (first, rest, between, answer, are, call, calls) =
    calls_count place inputs between rest w' calls
    ∙ (ap (λ (x : WorldState). length x.stations) call.is ∙ length-set w.stations place _)

-- a start leaves as many systems
pub start_count : (place : ℕ) (w : WorldState) (ds : List Draw) (w' : WorldState) → Starts place w ds w'
    → length w'.stations ≡ length w.stations
start_count place w ds w' starts =
    calls_count place _ _ ds w' starts.calls ∙ length-set w.stations place (fresh w.time starts.station)

-- ---- one after another

starts_more : (places : List ℕ) (place : ℕ) (w between after : WorldState) (ds es : List Draw)
    → StartsAll places w ds between
    → Starts place between es after → StartsAll (places ++ place ∷ []) w (ds ++ es) after
starts_more [] place w between after ds es (none, is) starts =
    let one : StartsAll (place ∷ []) w es after =
    alone place w es after (subst (λ (x : WorldState). Starts place x es after) is starts) in
    rw none one
starts_more (p ∷ ps) place w between after ds es (first, rest, next, are, start, starts) more = (
  first,
  rest ++ es,
  next,
  ap (λ xs. xs ++ es) are
      ∙ associates first rest es,
  start,
  starts_more ps place next between after rest es starts more,
)
  where
    associates : (xs ys zs : List Draw) → (xs ++ ys) ++ zs ≡ xs ++ (ys ++ zs)
    associates [] ys zs = refl
    associates (x ∷ xs) ys zs = ap (λ us. x ∷ us) (associates xs ys zs)

pub one_started : {F : Type 0} (answers : Bounds → ℕ → F → Option ℕ → F → Type 0) (count : ℕ) (first second third : F)
    (parts between after : WorldParts) → SystemsStarted answers count first second parts between
    → Started answers count second third between after → SystemsStarted answers (count + 1) first third parts after
one_started answers count first second third parts between after so_far one =
    let places : range_with_len 0 (count + 1) ≡ range_with_len 0 count ++ count ∷ [] =
    range-more 0 count ∙ ap (λ p. range_with_len 0 count ++ p ∷ []) (omega arith) in
    record {
      draws = so_far.draws ++ one.draws;
      drawn = draws.draws-append answers first second third so_far.draws one.draws so_far.drawn one.drawn;
      starts = rw places
          (starts_more (range_with_len 0 count) count (world_of parts) (world_of between) (world_of after)
          so_far.draws one.draws so_far.starts one.starts);
    }
