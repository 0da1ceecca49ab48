use Rattle.std.proofs.Common.{◌≡◌, sym, ◌∙◌, ap, arith, Bool}
use Rattle.lp_defs.specs.declared.token.SectionWord.TheVariants.{End, Free, General}
use Rattle.lp_lex.specs.Words.{word_if}
use Rattle.lp_lex.proofs.FirstByte.{section-b, section-e, section-f, section-g, section-m, section-other, section-p, section-s, section_short}
use Rattle.lp_lex.proofs.kinds.section.Goals as goal

pub returns-in_default : goal.returns-in_default
returns-in_default c = section_short c.args.run.now c.in_default.len_below

pub returns-in-109 : goal.returns-in-109
returns-in-109 c = c.section_in_m.ensures ∙ section-m c.args.run.now c.in-len1-up.len_at_least (sym c.to_ascii_lowercase.ensures.value ∙ c.in-109.is)

pub returns-in-115 : goal.returns-in-115
returns-in-115 c = c.section_in_s.ensures ∙ section-s c.args.run.now c.in-len1-up.len_at_least (sym c.to_ascii_lowercase.ensures.value ∙ c.in-115.is)

pub returns-in-98 : goal.returns-in-98
returns-in-98 c = c.section_in_b.ensures ∙ section-b c.args.run.now c.in-len1-up.len_at_least (sym c.to_ascii_lowercase.ensures.value ∙ c.in-98.is)

pub returns-in-112 : goal.returns-in-112
returns-in-112 c = c.unsupported_section.ensures ∙ section-p c.args.run.now c.in-len1-up.len_at_least (sym c.to_ascii_lowercase.ensures.value ∙ c.in-112.is)

pub returns-in-103 : goal.returns-in-103
returns-in-103 c =
    c.word_if.ensures ∙ ap (λ (is_word : Bool). word_if is_word General) c.is_any_word.ensures
    ∙ section-g c.args.run.now c.in-len1-up.len_at_least (sym c.to_ascii_lowercase.ensures.value ∙ c.in-103.is)

pub returns-in-102 : goal.returns-in-102
returns-in-102 c =
    c.word_if-in-102.ensures ∙ ap (λ (is_word : Bool). word_if is_word Free) c.is_any_word-in-102.ensures
    ∙ section-f c.args.run.now c.in-len1-up.len_at_least (sym c.to_ascii_lowercase.ensures.value ∙ c.in-102.is)

pub returns-in-101 : goal.returns-in-101
returns-in-101 c =
    c.word_if-in-101.ensures ∙ ap (λ (is_word : Bool). word_if is_word End) c.is_any_word-in-101.ensures
    ∙ section-e c.args.run.now c.in-len1-up.len_at_least (sym c.to_ascii_lowercase.ensures.value ∙ c.in-101.is)

pub returns-in_default-to_ascii_lowercase : goal.returns-in_default-to_ascii_lowercase
returns-in_default-to_ascii_lowercase c =
    let letter = c.to_ascii_lowercase.result in
    let value = c.to_ascii_lowercase.ensures.value in
    let not_98 : letter ≡ 98 → ⊥ = λ e. omega arith in
    let not_101 : letter ≡ 101 → ⊥ = λ e. omega arith in
    let not_102 : letter ≡ 102 → ⊥ = λ e. omega arith in
    let not_103 : letter ≡ 103 → ⊥ = λ e. omega arith in
    let not_109 : letter ≡ 109 → ⊥ = λ e. omega arith in
    let not_112 : letter ≡ 112 → ⊥ = λ e. omega arith in
    let not_115 : letter ≡ 115 → ⊥ = λ e. omega arith in
    section-other c.args.run.now c.in-len1-up.len_at_least (λ e. not_98 (value ∙ e)) (λ e. not_101 (value ∙ e)) (λ e. not_102 (value ∙ e))
    (λ e. not_103 (value ∙ e)) (λ e. not_109 (value ∙ e)) (λ e. not_112 (value ∙ e)) (λ e. not_115 (value ∙ e))
