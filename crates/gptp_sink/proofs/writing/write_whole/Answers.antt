use Rattle.std.proofs.Common.{rules, ◌∙◌, take, drop, arith}
use Rattle.std.proofs.Math.Seq.{take-add}
use Rattle.gptp_sink.proofs.SinkLemmas.{appends_both}
use Rattle.gptp_sink.proofs.writing.write_whole.Goals as goal

pub loop-start-preserved : goal.loop-start-preserved
loop-start-preserved g c =
    let start = c.loop-start.start in
    let count = c.in_ok-start.field-0 in
    record {
      bound = omega (arith, c.in_ok-start.ensures.bound, c.split_at.ensures.back_len);
      written = rw take-add (appends_both _ _ _ (take start c.args.text.now) (take count (drop start c.args.text.now))
          c.loop-start.invariant.written (search rules));
      works = c.in_ok-start.ensures.works ∙ c.loop-start.invariant.works;
    }
