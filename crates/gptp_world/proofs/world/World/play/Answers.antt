use Rattle.std.proofs.Common.{◌≡◌, ◌+◌, [], ◌∷◌, ◌++◌, ℕ, take, Some, ap, sym, subst, ◌∙◌}
use Rattle.std.proofs.lemmas.List.{take_more}
use Rattle.std.proofs.lemmas.Option.{slice_get-get_or}
use Rattle.std.proofs.lemmas.Result.{err_from_is_err_and}
use Rattle.gptp_model.specs.declared.done.Refused.{Refused}
use Rattle.gptp_model.specs.Playing.{StopsAt}
use Rattle.gptp_model.proofs.PlayLemmas.{plays_more}
use Rattle.gptp_model.proofs.PromptLemmas.{stay_prompt}
use Rattle.gptp_model.proofs.StayLemmas.{done_stays}
use Rattle.gptp_world.proofs.world.World.play.Goals as goal

pub play_next-requires-clause-prompt : goal.play_next-requires-clause-prompt
play_next-requires-clause-prompt g c =
    let i = c.loop-place.place in let acts = c.args.acts.now in let x = c.index-acts-place.result in
    c.loop-place.invariant.prompt i x
    (slice_get-get_or acts i x c.loop-place-test.true ∙ ap Some (sym c.index-acts-place.is))

pub loop-place-preserved : goal.loop-place-preserved
loop-place-preserved g c =
    let i = c.loop-place.place in let acts = c.args.acts.now in let x = c.index-acts-place.result in
    let front : take (i + 1) acts ≡ take i acts ++ x ∷ [] =
    take_more acts i x c.loop-place-test.true ∙ ap (λ y. take i acts ++ y ∷ []) (sym c.index-acts-place.is) in
    let was = c.in_ok-play_next.ensures.played in let so_far = c.loop-place.invariant in
    record {
      played = rw front (plays_more g.F.Fate.answers (take i acts) x c.args.self.now.fate c.loop-place.self.fate
          c.play_next.new.self.fate c.args.self.now.world_core c.loop-place.self.world_core
          c.play_next.new.self.world_core was.done
          so_far.played was.was);
      prompt = stay_prompt acts c.loop-place.self.world_core c.play_next.new.self.world_core
          (done_stays g.F.Fate.answers x c.loop-place.self.fate c.play_next.new.self.fate c.loop-place.self.world_core
          c.play_next.new.self.world_core was.done c.well_formed-in-loop-place.ensures.sound.wired.setups was.was)
          so_far.prompt;
    }

pub returns-in_err-play_next-clause-err : goal.returns-in_err-play_next-clause-err
returns-in_err-play_next-clause-err g c =
    let i = c.loop-place.place in let acts = c.args.acts.now in let x = c.index-acts-place.result in
    let here = slice_get-get_or acts i x c.loop-place-test.true ∙ ap Some (sym c.index-acts-place.is) in
    let passed = err_from_is_err_and c.from_residual.result c.from_residual.ensures.1 in
    let why = c.in_err-play_next.ensures in
    let Stops : ℕ × Refused → Type 0 =
    λ e. StopsAt g.F.Fate.answers acts e.0 e.1 c.args.self.now.fate c.play_next.new.self.fate c.args.self.now.world_core
    c.play_next.new.self.world_core in
    let stops : Stops c.in_err-play_next.field-0.0 = record {
      played = rw (why.place, why.kept) c.loop-place.invariant.played;
      timed = x;
      here = rw why.place here;
      refuses = rw why.kept why.refused;
    } in
    rw passed.1 (subst Stops (sym passed.2) stops)
