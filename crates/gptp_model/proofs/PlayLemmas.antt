-- Acts one after another.
use Rattle.std.proofs.Common.{ℕ, List, [], ◌∷◌, ◌++◌, Option, refl, subst}
use Rattle.gptp_links.specs.declared.bounds.Bounds.{Bounds}
use Rattle.gptp_scenario.specs.declared.change.Timed.{Timed}
use Rattle.gptp_model.specs.declared.done.Done.{Done}
use Rattle.gptp_model.specs.Playing.{Plays}
use Rattle.gptp_model.specs.Course.{WasDone}
use Rattle.gptp_model.specs.World.{WorldState}

-- one more act after others
pub plays_more : {F : Type 0} (answers : Bounds → ℕ → F → Option ℕ → F → Type 0) (acts : List Timed) (timed : Timed)
    (first second third : F) (w between after : WorldState) (done : Done) → Plays answers acts first second w between
    → WasDone answers timed second third between after done → Plays answers (acts ++ timed ∷ []) first third w after
plays_more {F} answers [] timed first second third w between after done (fates, worlds) was =
    let here : WasDone answers timed first third w after done =
    subst (λ (x : WorldState). WasDone answers timed first third x after done) worlds
    (subst (λ (f : F). WasDone answers timed f third between after done) fates was) in
    (third, done, after, here, (refl, refl))
plays_more answers (t ∷ ts) timed first second third w between after done (next, one, middle, was_one, rest) was =
    (next, one, middle, was_one, plays_more answers ts timed next second third middle between after done rest was)
