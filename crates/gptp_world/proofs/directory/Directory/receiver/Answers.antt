use Rattle.std.proofs.Common.{◌≡◌, ℕ, List, Some, length, refl, slice_get, slice_index_or, subst, arith}
use Rattle.std.proofs.lemmas.Option.{slice_get_read, slice_get_within}
use Rattle.gptp_world.specs.declared.directory.Ends.{Ends}
use Rattle.gptp_world.specs.Directory.{Join, DirectoryState, AreEndPlaces, direction_end}
use Rattle.gptp_world.proofs.DirectoryLemmas.{ends_length, end_a_at, end_b_at}
use Rattle.gptp_world.proofs.directory.Directory.receiver.Goals as goal

there : (clocks : List ℕ) (joins : List Join) (ends : List Ends) (i : ℕ) (join : Join) (e : Ends)
    → AreEndPlaces clocks joins ends
    → slice_get joins i ≡ Some join → e ≡ slice_index_or ends i e → slice_get ends i ≡ Some e
there clocks joins ends i join e h at is =
    let l = slice_get_within joins i join at in let n = ends_length clocks joins ends h in
    slice_get_read ends (length ends) i e refl (omega arith) is

pub returns-in-FromA : goal.returns-in-FromA
returns-in-FromA c =
    let e = c.index-ends.result.now in let link = c.args.lane.link in let h = c.self.invariant.at_ends in
    subst (λ (d : DirectoryState). (join : Join) → slice_get d.joins c.args.lane.link ≡ Some join
    → slice_get d.clocks c.index-ends.result.now.b ≡ Some (direction_end c.args.lane.direction join).clock)
    c.self.view_is
    (λ join at. rw c.in-FromA.is (end_b_at _ _ _ link join e h at (there _ _ _ link join e h at c.index-ends.ensures)))

pub returns-in-FromB : goal.returns-in-FromB
returns-in-FromB c =
    let e = c.index-ends.result.now in let link = c.args.lane.link in let h = c.self.invariant.at_ends in
    subst (λ (d : DirectoryState). (join : Join) → slice_get d.joins c.args.lane.link ≡ Some join
    → slice_get d.clocks c.index-ends.result.now.a ≡ Some (direction_end c.args.lane.direction join).clock)
    c.self.view_is
    (λ join at. rw c.in-FromB.is (end_a_at _ _ _ link join e h at (there _ _ _ link join e h at c.index-ends.ensures)))
