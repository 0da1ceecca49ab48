use Rattle.std.proofs.Common.{◌≡◌, sym, ◌∙◌, arith}
use Rattle.std.proofs.lemmas.List.Elements.{All-more}
use Rattle.wire_text.specs.Line.{is_blank}
use Rattle.wire_text.proofs.LineCuts.{same_from_beq}
use Rattle.script_text.proofs.words.run_len.Goals as goal

pub loop-len-preserved : goal.loop-len-preserved
loop-len-preserved c = record {
  within = omega arith;
  run = All-more (λ byte. is_blank byte ≡ c.args.blank) _ _ 0 (omega arith) c.loop-len.invariant.run (sym c.is_blank.ensures ∙ same_from_beq _ _ c.if-is_blank-blank.true);
}
