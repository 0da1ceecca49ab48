-- The texts of answers, in whole lines.
use Rattle.std.specs.Prelude.{ℕ, List, ◌++◌, length, codes, decimal, ℤ, Option, Some, None}
use Rattle.std.specs.Fmt.{signed_decimal}
use Rattle.base_names.specs.Id.{id_text}
use Rattle.base_names.specs.RefusalText.{refusal_text}
use Rattle.base_names.specs.declared.refusal.Refusal.{Refusal}
use Rattle.cluster_defs.specs.declared.reply.Reply.{Reply}
use Rattle.cluster_defs.specs.declared.reply.Reply.TheVariants.{Made, Status, Refused}
use Rattle.frac128.specs.Fraction.{Fraction}
use Rattle.frac_text.specs.Writing.{canonical_text}
use Rattle.model_data.specs.declared.model.Sense.{Sense}
use Rattle.model_data.specs.declared.model.Sense.TheVariants.{Less, Greater, Equal}
use Rattle.model_data.specs.declared.model.VarKind.{VarKind}
use Rattle.model_data.specs.declared.model.VarKind.TheVariants.{Continuous, Integer, Binary}

abbrev pub line_of : List ℕ → List ℕ
line_of text = text ++ codes "\n"

abbrev pub done_text : List ℕ
done_text = line_of (codes "OK")

abbrev pub bye_text : List ℕ
bye_text = line_of (codes "BYE")

-- how many changes were made
abbrev pub updated_text : ℕ → List ℕ
updated_text n = line_of (codes "UPDATED " ++ decimal n)

-- what was asked for
abbrev pub value_text : List ℕ → List ℕ
value_text text = line_of (codes "VALUE " ++ text)

abbrev pub number_text : Fraction → List ℕ
number_text x = value_text (canonical_text x)

-- An infinite lower bound is below, and an infinite upper one above.
abbrev pub lower_text : Option Fraction → List ℕ
lower_text (Some x) = number_text x
lower_text None = value_text (codes "-inf")

abbrev pub upper_text : Option Fraction → List ℕ
upper_text (Some x) = number_text x
upper_text None = value_text (codes "inf")

abbrev pub kind_word : VarKind → List ℕ
kind_word Continuous = codes "C"
kind_word Integer = codes "I"
kind_word Binary = codes "B"

abbrev pub kind_text : VarKind → List ℕ
kind_text kind = value_text (kind_word kind)

abbrev pub sense_word : Sense → List ℕ
sense_word Less = codes "<="
sense_word Greater = codes ">="
sense_word Equal = codes "="

abbrev pub sense_text : Sense → List ℕ
sense_text sense = value_text (sense_word sense)

abbrev pub tag_text : List ℕ → List ℕ
tag_text tag = value_text tag

abbrev pub count_text : ℕ → List ℕ
count_text n = value_text (decimal n)

abbrev pub whole_text : ℤ → List ℕ
whole_text n = value_text (signed_decimal n)

-- a text of many lines, with its length before it
abbrev pub block_text : List ℕ → List ℕ
block_text text = line_of (codes "BLOCK " ++ decimal (length text)) ++ line_of text

abbrev pub refusal_line : Refusal → List ℕ
refusal_line refusal = line_of (refusal_text refusal)

abbrev pub reply_text : Reply → List ℕ
reply_text (Made id) = line_of (codes "BATCH " ++ id_text id)
reply_text (Status id status) = line_of (codes "BSTATUS " ++ id_text id ++ codes " " ++ decimal status)
reply_text (Refused refusal) = refusal_line refusal
