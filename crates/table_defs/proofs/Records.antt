-- Lists of records in two parts.
use Rattle.std.proofs.Common.{◌≡◌, refl, ap, ◌∙◌, List, [], ◌∷◌, ◌++◌, Option, Some, None, arith}
use Rattle.base_names.specs.declared.refusal.Refusal.{Refusal}
use Rattle.model_data.specs.declared.batch.BatchRecord.{BatchRecord}
use Rattle.table_defs.specs.Table.{Table, after, applied}
use Rattle.table_defs.specs.Taken.{first_refusal, or_else, refusal}

-- ---- the first of two refusals

pub or_first : (a b : Option Refusal) → or_else a b ≡ None → a ≡ None
or_first None b h = refl
or_first (Some a) b h = h

pub or_then : (a b : Option Refusal) → or_else a b ≡ None → b ≡ None
or_then None b h = h
or_then (Some a) b h = absurd (grind (arith, h))

pub both_none : (a b : Option Refusal) → a ≡ None → b ≡ None → or_else a b ≡ None
both_none a b p q = rw p q

-- ---- one list behind another

pub after_append : (rs more : List BatchRecord) (t : Table) → after (rs ++ more) t ≡ after more (after rs t)
after_append [] more t = refl
after_append (r ∷ rs) more t = after_append rs more (applied r t)

or_assoc : (a b c : Option Refusal) → or_else a (or_else b c) ≡ or_else (or_else a b) c
or_assoc None b c = refl
or_assoc (Some a) b c = refl

pub refusal_append : (rs more : List BatchRecord) (t : Table) → first_refusal (rs ++ more) t ≡ or_else (first_refusal rs t) (first_refusal more (after rs t))
refusal_append [] more t = refl
refusal_append (r ∷ rs) more t = ap (or_else (refusal r t)) (refusal_append rs more (applied r t)) ∙ or_assoc (refusal r t) _ _
