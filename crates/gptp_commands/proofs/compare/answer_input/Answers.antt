use Rattle.std.proofs.Common.{◌≡◌, false, nat_le, length, codes, [], ◌∷◌, inl, inr, refl}
use Rattle.std.proofs.lemmas.Bool.{lt-leb}
use Rattle.std.proofs.lemmas.Result.{on_err_weaker}
use Rattle.gptp_sink.proofs.SinkLemmas.{after_error, front_of}
use Rattle.gptp_commands.specs.declared.failure.Status.TheVariants.{Refused}
use Rattle.gptp_commands.specs.CompareText.{size_limit}
use Rattle.gptp_commands.proofs.compare.answer_input.Goals as goal

pub returns-then-input-le-LIMIT-clause-begun : goal.returns-then-input-le-LIMIT-clause-begun
returns-then-input-le-LIMIT-clause-begun g c = on_err_weaker c.answer_lines.result
    (λ some. (some.0, inr (inl (c.if-input-le-LIMIT.true, some.1)), some.2)) c.answer_lines.ensures.some

pub returns-in_err-write_whole-clause-begun : goal.returns-in_err-write_whole-clause-begun
returns-in_err-write_whole-clause-begun g c =
    let long : nat_le (length c.args.input.now) size_limit ≡ false =
    lt-leb (length c.args.input.now) size_limit c.if-input-le-LIMIT.false in
    after_error c.from_residual.result (
      codes "refused size" ∷ [],
      inr (inr (Refused, rw long (record { shown = refl; status_is = refl }))),
      front_of (g.K.Sink.written c.args.sink.now) (g.K.Sink.written c.write_whole.new.sink) _
          c.in_err-write_whole.ensures.front,
    )

pub returns-clause-text : goal.returns-clause-text
returns-clause-text g c =
    let long : nat_le (length c.args.input.now) size_limit ≡ false =
    lt-leb (length c.args.input.now) size_limit c.if-input-le-LIMIT.false in
    (codes "refused size" ∷ [], rw long (record { shown = refl; status_is = refl }), c.in_ok-write_whole.ensures.whole)
