-- The symbols of the whole text that is written for a model.
use Rattle.std.proofs.Common.{◌≡◌, refl, sym, ◌∙◌, subst, ℕ, zero, suc, ◌<◌, Bool, true, false, List, [], ◌∷◌, ◌++◌, map, length, append_assoc, arith, codes, Option, Some, None}
use Rattle.std.specs.List.{flat_map}
use Rattle.std.specs.Prelude.{All, IfSome, if◌then◌else◌}
use Rattle.std.proofs.lemmas.List.Elements.{All-head, All-tail}
use Rattle.frac128.specs.Fraction.{Fraction}
use Rattle.frac128.specs.Lowest.{IsKept}
use Rattle.frac_text.specs.Writing.{canonical_text as number_text}
use Rattle.model_data.specs.Lawful.{IsLawful}
use Rattle.model_data.specs.Names.{IsName}
use Rattle.model_data.specs.declared.model.Direction.{Direction}
use Rattle.model_data.specs.declared.model.Direction.TheVariants.{Minimize, Maximize}
use Rattle.model_data.specs.declared.model.Model.{Model}
use Rattle.model_data.specs.declared.model.Row.{Row}
use Rattle.model_data.specs.declared.model.Sense.{Sense}
use Rattle.model_data.specs.declared.model.Sense.TheVariants.{Less, Greater, Equal}
use Rattle.model_data.specs.declared.model.Term.{Term}
use Rattle.model_data.specs.declared.model.Var.{Var}
use Rattle.model_data.specs.declared.model.VarKind.{VarKind}
use Rattle.model_data.specs.declared.model.VarKind.TheVariants.{Integer, Binary}
use Rattle.lp_defs.specs.declared.token.SectionWord.{SectionWord}
use Rattle.lp_defs.specs.declared.token.SectionWord.TheVariants.{Binary as binary_word, Bounds, End, Free, General, Subject}
use Rattle.lp_defs.specs.Canonical.{bounds_lines, bounds_of, canonical_text, constant_terms, direction_text, is_same, is_same_kind, is_zero, joined, kind_lines, lines, name_at, objective_line, row_line, row_terms, section, sense_text, signed_text, spaced, spaced_word, term_text}
use Rattle.lp_defs.specs.Items.{forbidden_after}
use Rattle.model_data.specs.Kept.{HasKeptNumbers}
use Rattle.lp_defs.specs.Symbols.{Symbol, comparison, number, keyword, label, name, infinite}
use Rattle.lp_defs.proofs.Sight.{at_blank, at_feed, IsToken, open_feed, open_word, Reads, done, blank, feed, mild, any}
use Rattle.lp_defs.proofs.Takes.{flat}
use Rattle.lp_defs.proofs.Writable.{IsWritableRow, IsWritableVar, writable_rows, writable_vars}
use Rattle.lp_defs.proofs.WrittenLines.{bound_entries, bound_entries_of, canonical_entries, constant_entries, direction_word, kind_entries, number_symbol, objective_entries, row_entry, section_entries, signed_symbols, term_entries, term_symbols}
use Rattle.lp_defs.proofs.WrittenNumbers.{number_token, number_free}
use Rattle.lp_defs.proofs.WrittenPieces.{Pieces, no_piece, one_more, constant_piece, number_piece, pieces_append, sense_piece, spaced_open, spaced_reads, term_piece}
use Rattle.lp_defs.proofs.WrittenWords.{binaries_token, bounds_token, end_token, free_sense, free_token, generals_token, infinity_token, label_token, maximize_token, minimize_token, name_token, sense_token, subject_token, to_token}

-- Lines

-- a line's text, whatever lines follow it
LineRead : List ℕ → List Symbol → Type 0
LineRead text symbols = (rest : List ℕ) (more : List Symbol) → Reads rest more → Reads (text ++ 10 ∷ rest) (symbols ++ more)

data LinesRead : List (List ℕ) → List (List Symbol) → Type 0 where
  no_line : LinesRead [] []
  more_lines : {text : List ℕ} {symbols : List Symbol} {texts : List (List ℕ)} {entries : List (List Symbol)} →
      LineRead text symbols → LinesRead texts entries → LinesRead (text ∷ texts) (symbols ∷ entries)

one_line : {text : List ℕ} {symbols : List Symbol} → LineRead text symbols → LinesRead (text ∷ []) (symbols ∷ [])
one_line line = more_lines line no_line

lines_read : {texts : List (List ℕ)} {entries : List (List Symbol)} → LinesRead texts entries → Reads (lines texts) (flat entries)
unfolding LineRead
lines_read no_line = done
lines_read (more_lines {text} {symbols} {texts} {entries} line more) =
    subst (λ t. Reads t (symbols ++ flat entries)) (sym (append_assoc text (10 ∷ []) (lines texts)))
    (line (lines texts) (flat entries) (lines_read more))

infixl 20 ◌then◌
◌then◌ : {texts texts' : List (List ℕ)} {entries entries' : List (List Symbol)} → LinesRead texts entries → LinesRead texts' entries' →
    LinesRead (texts ++ texts') (entries ++ entries')
◌then◌ no_line more = more
◌then◌ (more_lines line lines) more = more_lines line (lines then more)

lines_map : {X : Type 0} (P : X → Type 0) (f : X → List ℕ) (g : X → List Symbol) → ((x : X) → P x → LineRead (f x) (g x)) →
    (xs : List X) → All P xs → LinesRead (map f xs) (map g xs)
lines_map P f g each [] all = no_line
lines_map P f g each (x ∷ xs) all = more_lines (each x (All-head P x xs all)) (lines_map P f g each xs (All-tail P x xs all))

lines_flat_map : {X : Type 0} (P : X → Type 0) (f : X → List (List ℕ)) (g : X → List (List Symbol)) → ((x : X) → P x → LinesRead (f x) (g x)) →
    (xs : List X) → All P xs → LinesRead (flat_map f xs) (flat_map g xs)
lines_flat_map P f g each [] all = no_line
lines_flat_map P f g each (x ∷ xs) all = each x (All-head P x xs all) then lines_flat_map P f g each xs (All-tail P x xs all)

one_word : (text : List ℕ) (symbol : Symbol) → IsToken text symbol → LineRead text (symbol ∷ [])
unfolding LineRead
one_word text symbol token rest more reads = any token open_feed (feed reads)

section_read : (heading : List ℕ) (word : SectionWord) → IsToken heading (keyword word) →
    {texts : List (List ℕ)} {entries : List (List Symbol)} → LinesRead texts entries →
    LinesRead (section heading texts) (section_entries word entries)
section_read heading word token no_line = no_line
section_read heading word token (more_lines line lines) = more_lines (one_word heading (keyword word) token) (more_lines line lines)

-- The objective

joined_read : {texts : List (List ℕ)} {entries : List (List Symbol)} → Pieces texts entries → LineRead (32 ∷ joined texts) (flat entries)
unfolding LineRead
joined_read no_piece rest more reads = blank (feed reads)
joined_read (one_more piece pieces) rest more reads = spaced_reads (10 ∷ rest) more (one_more piece pieces) open_feed (feed reads)

var_terms : (vars : List Var) → All IsWritableVar vars → Pieces (map (λ v. term_text v.obj v.name) vars) (map (λ v. term_symbols v.obj v.name) vars)
var_terms [] all = no_piece
var_terms (v ∷ vars) all =
    let own = All-head IsWritableVar v vars all in
    one_more (term_piece v.obj v.name own.kept.obj own.lawful.name) (var_terms vars (All-tail IsWritableVar v vars all))

constant_pieces : (k : Fraction) → IsKept k → Pieces (constant_terms k) (constant_entries k)
constant_pieces k kept = by_test (is_zero k)
  where
    by_test : (b : Bool) → Pieces (if b then [] else signed_text k ∷ []) (if b then [] else signed_symbols k ∷ [])
    by_test true = no_piece
    by_test false = one_more (constant_piece k kept) no_piece

objective_read : (m : Model) → All IsWritableVar m.vars → IsKept m.constant → LineRead (objective_line m) (flat (objective_entries m))
objective_read m all kept = joined_read (pieces_append (var_terms m.vars all) (constant_pieces m.constant kept))

-- Rows

name_there : (vars : List Var) (place : ℕ) → All IsWritableVar vars → place < length vars → IsName (name_at vars place)
name_there [] place all h = absurd (omega (arith, h))
name_there (v ∷ vars) zero all h = (All-head IsWritableVar v vars all).lawful.name
name_there (v ∷ vars) (suc place) all h = name_there vars place (All-tail IsWritableVar v vars all) (omega (arith, h))

row_pieces : (vars : List Var) → All IsWritableVar vars → (terms : List Term) → All (λ t. t.var < length vars) terms →
    All (λ t. IsKept t.coef) terms → Pieces (row_terms vars terms) (term_entries vars terms)
row_pieces vars all [] places kept = no_piece
row_pieces vars all (t ∷ terms) places kept =
    let named = name_there vars t.var all (All-head (λ t. t.var < length vars) t terms places) in
    one_more (term_piece t.coef (name_at vars t.var) (All-head (λ t. IsKept t.coef) t terms kept) named)
    (row_pieces vars all terms (All-tail (λ t. t.var < length vars) t terms places) (All-tail (λ t. IsKept t.coef) t terms kept))

row_read : (vars : List Var) → All IsWritableVar vars → (r : Row) → IsWritableRow (length vars) r → LineRead (row_line vars r) (row_entry vars r)
unfolding LineRead
row_read vars all r good rest more reads =
    let texts = row_terms vars r.terms ++ sense_text r.sense ∷ number_text r.rhs ∷ [] in
    let entries = term_entries vars r.terms ++ (comparison r.sense ∷ []) ∷ (number_symbol r.rhs ∷ []) ∷ [] in
    let pieces : Pieces texts entries =
    pieces_append (row_pieces vars all r.terms good.lawful.places good.kept.terms)
    (one_more (sense_piece r.sense) (one_more (number_piece r.rhs good.kept.rhs) no_piece)) in
    subst (λ t. Reads (32 ∷ t) (label r.name ∷ (flat entries ++ more))) (sym (append_assoc (r.name ++ codes ":") (spaced texts) (10 ∷ rest)))
    (blank (any (label_token r.name good.lawful.name) (spaced_open (10 ∷ rest) pieces open_feed)
    (spaced_reads (10 ∷ rest) more pieces open_feed (feed reads))))

-- Bounds

-- a name, a comparison and a number at the end of a line
ending : (text : List ℕ) (sense : Sense) (x : Fraction) → IsName text → IsKept x → (rest : List ℕ) (more : List Symbol) → Reads rest more →
    Reads (text ++ 32 ∷ (sense_text sense ++ 32 ∷ (number_text x ++ 10 ∷ rest))) (name text ∷ comparison sense ∷ number_symbol x ∷ more)
ending text sense x named kept rest more reads =
    any (name_token text named) (open_word (sense_token sense).is_word (free_sense sense) at_blank)
    (blank (any (sense_token sense) (open_word (number_token x kept).is_word (number_free x kept) at_feed)
    (blank (any (number_token x kept) open_feed (feed reads)))))

infinity_mild : forbidden_after (codes "-infinity") ≡ None
unfolding forbidden_after
infinity_mild = refl

sense_mild : (sense : Sense) → forbidden_after (sense_text sense) ≡ None
unfolding forbidden_after
sense_mild Less = refl
sense_mild Greater = refl
sense_mild Equal = refl

free_read : (text : List ℕ) → IsName text → LineRead (codes " " ++ text ++ codes " free") (name text ∷ keyword Free ∷ [])
unfolding LineRead
free_read text named rest more reads =
    subst (λ t. Reads (32 ∷ t) (name text ∷ keyword Free ∷ more)) (sym (append_assoc text (codes " free") (10 ∷ rest)))
    (blank (any (name_token text named) (open_word free_token.is_word (record { no_constraints = refl; no_cuts = refl }) at_feed)
    (blank (any free_token open_feed (feed reads)))))

nested : (text middle end rest : List ℕ) → (text ++ middle ++ end) ++ rest ≡ text ++ (middle ++ (end ++ rest))
nested text middle end rest = append_assoc (text ++ middle) end rest ∙ append_assoc text middle (end ++ rest)

at_most_read : (text : List ℕ) (x : Fraction) → IsName text → IsKept x →
    LineRead (codes " -infinity <= " ++ text ++ codes " <= " ++ number_text x)
    (number true (infinite true) ∷ comparison Less ∷ name text ∷ comparison Less ∷ number_symbol x ∷ [])
unfolding LineRead
at_most_read text x named kept rest more reads =
    let symbols = number true (infinite true) ∷ comparison Less ∷ name text ∷ comparison Less ∷ number_symbol x ∷ more in
    subst (λ t. Reads (codes " -infinity <= " ++ t) symbols) (sym (nested text (codes " <= ") (number_text x) (10 ∷ rest)))
    (blank (mild infinity_token infinity_mild at_blank
    (blank (mild (sense_token Less) (sense_mild Less) at_blank
    (blank (ending text Less x named kept rest more reads))))))

at_least_read : (text : List ℕ) (x : Fraction) → IsName text → IsKept x →
    LineRead (codes " " ++ text ++ codes " >= " ++ number_text x) (name text ∷ comparison Greater ∷ number_symbol x ∷ [])
unfolding LineRead
at_least_read text x named kept rest more reads =
    subst (λ t. Reads (32 ∷ t) (name text ∷ comparison Greater ∷ number_symbol x ∷ more))
    (sym (nested text (codes " >= ") (number_text x) (10 ∷ rest)))
    (blank (ending text Greater x named kept rest more reads))

equal_read : (text : List ℕ) (x : Fraction) → IsName text → IsKept x →
    LineRead (codes " " ++ text ++ codes " = " ++ number_text x) (name text ∷ comparison Equal ∷ number_symbol x ∷ [])
unfolding LineRead
equal_read text x named kept rest more reads =
    subst (λ t. Reads (32 ∷ t) (name text ∷ comparison Equal ∷ number_symbol x ∷ more))
    (sym (nested text (codes " = ") (number_text x) (10 ∷ rest)))
    (blank (ending text Equal x named kept rest more reads))

between_read : (text : List ℕ) (x y : Fraction) → IsName text → IsKept x → IsKept y →
    LineRead (codes " " ++ number_text x ++ codes " <= " ++ text ++ codes " <= " ++ number_text y)
    (number_symbol x ∷ comparison Less ∷ name text ∷ comparison Less ∷ number_symbol y ∷ [])
unfolding LineRead
between_read text x y named kept_x kept_y rest more reads =
    let n = number_text x in
    let less : List ℕ = codes " <= " in
    let symbols = number_symbol x ∷ comparison Less ∷ name text ∷ comparison Less ∷ number_symbol y ∷ more in
    subst (λ t. Reads (32 ∷ t) symbols)
    (sym (nested (n ++ less ++ text) less (number_text y) (10 ∷ rest) ∙ nested n less text (less ++ (number_text y ++ 10 ∷ rest))))
    (blank (any (number_token x kept_x) (open_word (sense_token Less).is_word (free_sense Less) at_blank)
    (blank (mild (sense_token Less) (sense_mild Less) at_blank
    (blank (ending text Less y named kept_y rest more reads))))))

bounds_read : (text : List ℕ) (lower upper : Option Fraction) → IsName text → IfSome lower IsKept → IfSome upper IsKept →
    LinesRead (bounds_lines text lower upper) (bound_entries_of text lower upper)
bounds_read text None None named l u = one_line (free_read text named)
bounds_read text None (Some upper) named l u = one_line (at_most_read text upper named u)
bounds_read text (Some lower) None named l u = by_test (is_zero lower)
  where
    by_test : (b : Bool) → LinesRead (if b then [] else (codes " " ++ text ++ codes " >= " ++ number_text lower) ∷ [])
        (if b then [] else (name text ∷ comparison Greater ∷ number_symbol lower ∷ []) ∷ [])
    by_test true = no_line
    by_test false = one_line (at_least_read text lower named l)
bounds_read text (Some lower) (Some upper) named l u = by_test (is_same lower upper)
  where
    by_test : (b : Bool) → LinesRead
        ((if b then codes " " ++ text ++ codes " = " ++ number_text lower
        else codes " " ++ number_text lower ++ codes " <= " ++ text ++ codes " <= " ++ number_text upper) ∷ [])
        ((if b then name text ∷ comparison Equal ∷ number_symbol lower ∷ []
        else number_symbol lower ∷ comparison Less ∷ name text ∷ comparison Less ∷ number_symbol upper ∷ []) ∷ [])
    by_test true = one_line (equal_read text lower named l)
    by_test false = one_line (between_read text lower upper named l u)

-- Kinds

kind_read : (kind : VarKind) (v : Var) → IsWritableVar v → LinesRead (kind_lines kind v) (kind_entries kind v)
unfolding LineRead
kind_read kind v good = by_test (is_same_kind v.kind kind)
  where
    own : LineRead (spaced_word v.name) (name v.name ∷ [])
    own rest more reads = blank (any (name_token v.name good.lawful.name) open_feed (feed reads))

    by_test : (b : Bool) → LinesRead (if b then spaced_word v.name ∷ [] else []) (if b then (name v.name ∷ []) ∷ [] else [])
    by_test true = one_line own
    by_test false = no_line

-- The whole text

direction_token : (direction : Direction) → IsToken (direction_text direction) (keyword (direction_word direction))
direction_token Minimize = minimize_token
direction_token Maximize = maximize_token

subject_read : LineRead (codes "Subject To") (keyword Subject ∷ name (codes "To") ∷ [])
unfolding LineRead
subject_read rest more reads =
    any subject_token (open_word to_token.is_word (record { no_constraints = refl; no_cuts = refl }) at_feed)
    (blank (any to_token open_feed (feed reads)))

pub text_read : (m : Model) → IsLawful m → HasKeptNumbers m → Reads (canonical_text m) (flat (canonical_entries m))
text_read m lawful kept =
    let vars = (writable_vars m lawful kept).each in
    let rows = (writable_rows m lawful kept).each in
    let direction = one_word (direction_text m.direction) (keyword (direction_word m.direction)) (direction_token m.direction) in
    let bounds = λ (v : Var) (good : IsWritableVar v). bounds_read v.name v.lower v.upper good.lawful.name good.kept.lower good.kept.upper in
    lines_read (more_lines direction (more_lines (objective_read m vars kept.constant) (one_line subject_read))
    then lines_map (IsWritableRow (length m.vars)) (row_line m.vars) (row_entry m.vars) (row_read m.vars vars) m.rows rows
    then section_read (codes "Bounds") Bounds bounds_token (lines_flat_map IsWritableVar bounds_of bound_entries bounds m.vars vars)
    then section_read (codes "Generals") General generals_token
    (lines_flat_map IsWritableVar (kind_lines Integer) (kind_entries Integer) (kind_read Integer) m.vars vars)
    then section_read (codes "Binaries") binary_word binaries_token
    (lines_flat_map IsWritableVar (kind_lines Binary) (kind_entries Binary) (kind_read Binary) m.vars vars)
    then one_line (one_word (codes "End") (keyword End) end_token))
