use Rattle.std.proofs.Common.{◌≡◌, ℕ, true, false, List, Some, Contains, length, slice_get, slice_index_or, refl, sym, ap, ◌∙◌, subst, arith}
use Rattle.std.proofs.lemmas.Option.{slice_get_within, slice_get_read}
use Rattle.gptp_world.specs.Directory.{DirectoryState, ArePlacesOfClocks}
use Rattle.gptp_lists.proofs.MappedLemmas.{contains_there}
use Rattle.gptp_world.proofs.DirectoryLemmas.{rank_there, same_at, places_length}
use Rattle.gptp_world.proofs.directory.Directory.place_of.Goals as goal

there : (clocks rising ranked : List ℕ) (k clock p : ℕ) → ArePlacesOfClocks clocks rising ranked
    → slice_get rising k ≡ Some clock
    → p ≡ slice_index_or ranked k p → slice_get clocks p ≡ Some clock
there clocks rising ranked k clock p h e is =
    let l = slice_get_within rising k clock e in let n = places_length clocks rising ranked h in
    same_at clocks rising ranked k p h (slice_get_read ranked (length ranked) k p refl (omega arith) is) ∙ e

pub index-requires : goal.index-requires
index-requires c =
    let rising = c.self.inside.rising.items in
    let here : slice_get rising c.in_ok-rank.rank ≡ Some c.args.clock =
    rw c.deref.ensures.value at c.in_ok-rank.ensures.some in
    let l = slice_get_within rising c.in_ok-rank.rank c.args.clock here in
    let n = places_length _ _ _ c.self.invariant.ranked in
    let v = c.self.inside.ranked.ok.0 in omega arith

pub returns-clause-some : goal.returns-clause-some
returns-clause-some c =
    let rising = c.self.inside.rising.items in
    let here : slice_get rising c.in_ok-rank.rank ≡ Some c.args.clock =
    rw c.deref.ensures.value at c.in_ok-rank.ensures.some in
    subst (λ (d : DirectoryState). slice_get d.clocks c.index.result.now ≡ Some c.args.clock) c.self.view_is
    (there _ _ _ c.in_ok-rank.rank c.args.clock c.index.result.now c.self.invariant.ranked here c.index.ensures)

pub returns-clause-only : goal.returns-clause-only
returns-clause-only c =
    let rising = c.self.inside.rising.items in
    let here : slice_get rising c.in_ok-rank.rank ≡ Some c.args.clock =
    rw c.deref.ensures.value at c.in_ok-rank.ensures.some in
    subst (λ (d : DirectoryState). (place : ℕ) → slice_get d.clocks place ≡ Some c.args.clock
    → Some c.index.result.now ≡ Some place) c.self.view_is
    (λ place e. ap Some (c.self.invariant.directory.plan.differ c.index.result.now place c.args.clock
    (there _ _ _ c.in_ok-rank.rank c.args.clock c.index.result.now c.self.invariant.ranked here c.index.ensures) e))

pub returns-in_err-rank-clause-only : goal.returns-in_err-rank-clause-only
returns-in_err-rank-clause-only c =
    let clocks = c.self.inside.clocks.items in let rising = c.self.inside.rising.items in
    subst (λ (d : DirectoryState). (place : ℕ) → slice_get d.clocks place ≡ Some c.args.clock
    → c.from_residual.result ≡ Some place) c.self.view_is
    (λ place e.
    let k = rank_there clocks rising place c.args.clock c.self.invariant.order e in
    let has : Contains c.deref.result.now c.args.clock =
    subst (λ (xs : List ℕ). Contains xs c.args.clock) (sym c.deref.ensures.value)
    (contains_there rising k.0 c.args.clock k.1) in
    let no : false ≡ true = c.in_err-rank.ensures.only has in
    absurd cc)
