use Rattle.std.proofs.Common.{sym, ◌∙◌}
use Rattle.lp_lex.proofs.FirstByte.{minus_kind, name_kind, plus_kind, unsigned_kind, word_kind}
use Rattle.lp_lex.proofs.kinds.class.Goals as goal

pub returns-in-43 : goal.returns-in-43
returns-in-43 c = plus_kind c.args.run.now c.if-run-eq1.true c.in-43.is

pub returns-in-45 : goal.returns-in-45
returns-in-45 c = minus_kind c.args.run.now c.if-run-eq1-2.true c.in-45.is

pub returns-then-begins_unsigned : goal.returns-then-begins_unsigned
returns-then-begins_unsigned c =
    c.unsigned_number.ensures
    ∙ unsigned_kind c.args.run.now c.in-len1-up.len_at_least (sym c.begins_symbol.ensures ∙ c.if-begins_symbol.false)
    (sym c.begins_unsigned.ensures ∙ c.if-begins_unsigned.true)

pub returns-then-begins_word : goal.returns-then-begins_word
returns-then-begins_word c =
    c.classed-then-begins_word.ensures ∙ c.word_or_name.ensures
    ∙ word_kind c.args.run.now c.in-len1-up.len_at_least (sym c.begins_symbol.ensures ∙ c.if-begins_symbol.false)
    (sym c.begins_unsigned.ensures ∙ c.if-begins_unsigned.false)

pub returns-else-begins_word : goal.returns-else-begins_word
returns-else-begins_word c =
    c.classed-else-begins_word.ensures ∙ c.label_or_name.ensures
    ∙ name_kind c.args.run.now c.in-len1-up.len_at_least (sym c.begins_symbol.ensures ∙ c.if-begins_symbol.false)
    (sym c.begins_unsigned.ensures ∙ c.if-begins_unsigned.false) (sym c.begins_word.ensures ∙ c.if-begins_word.false)
