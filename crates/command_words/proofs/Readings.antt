-- What the getters give of a subcommand's matches, and what a parse tells.
use Rattle.std.proofs.Common.{◌≡◌, ◌≤◌, ap₂, ℕ, ◌∙◌, ap, sym, subst, refl, arith, Option, Some, None, Bool, true, false, not, List, [], ◌∷◌, length, drop, codes, inl, inr}
use Rattle.std.specs.Prelude.{find, nat_lt, nat_eq, ◌==◌, ◌&&◌, ◌||◌, is_some, option_and_then, MatchOption}
use Rattle.std.specs.Option.{option_map_or}
use Rattle.std.specs.List.{list_all, starts_with}
use Rattle.std.specs.Str.{bytes_eq}
use Rattle.std.proofs.lemmas.Bool.Decides.{Decides-eqb, nat_tests}
use Rattle.std.proofs.lemmas.List.{drop_all}
use Rattle.std.proofs.lemmas.List.Folds.{list_all-map}
use Rattle.std.specs.Prelude.{String, string_bytes, map}
use Rattle.clap.specs.Walk.{Row, first_of, rows_of}
use Rattle.clap.specs.Matches.{first_value}
use Rattle.clap.proofs.WalkLemmas.{first_value-rows}
use Rattle.clap.specs.Simple.{subcommand_of, subcommand_rows_of}
use Rattle.clap.specs.Faults.{fault_of}
use Rattle.clap.specs.Kinds.{Kinds, IsAmong}
use Rattle.clap.specs.declared.error.kind.ErrorKind.{ErrorKind}
use Rattle.clap.specs.declared.parser.matches.Found.{Found}
use Rattle.clap.specs.declared.parser.matches.ArgMatches.{ArgMatches}
use Rattle.command_words.specs.Given.{Word, Line, Given, Standing, given_from, given, value_of, word_met, hyphens_met, nothing_yet, is_plain}
use Rattle.command_words.specs.Table.{table, subcommand, reads, given_behind}
use Rattle.command_words.specs.Commands.{kept, bare, with_commands, IsRead, is_clean}
use Rattle.command_words.specs.Asked.{is_set, is_set_as}
use Rattle.command_words.proofs.Rules.{cases, true_false, bytes_eq-true}
use Rattle.command_words.proofs.Levels.{plain_value, beside_flag, flag_value}
use Rattle.command_words.proofs.Steps.{IsFault}
use Rattle.command_words.proofs.Endings.{AreClean, IsClean}
use Rattle.command_words.proofs.Tops.{AreApart, TopIs, tops}

pub plain_read : (f : Found) (l : Line) (given : Given) (x : Word) → list_all (λ o. o.1) l.options ≡ true → rows_of f ≡ kept l given → first_value f x ≡ value_of x given
plain_read f l given x h rows = first_value-rows f x ∙ (ap (first_of x) rows ∙ plain_value l given x h)

pub beside_read : (f : Found) (n : Word) (os : List (Word × Bool)) (place : Option Word) (given : Given) (x : Word) → list_all (λ o. o.1) os ≡ true → bytes_eq n x ≡ false
    → rows_of f ≡ kept (record { options = (n, false) ∷ os; place = place }) given → first_value f x ≡ value_of x given
beside_read f n os place given x h other rows = first_value-rows f x ∙ (ap (first_of x) rows ∙ beside_flag n os place given x h other)

pub flag_read : (f : Found) (n : Word) (os : List (Word × Bool)) (place : Option Word) (given : Given) → list_all (λ o. o.1) os ≡ true
    → rows_of f ≡ kept (record { options = (n, false) ∷ os; place = place }) given → is_set_as (first_value f n) ≡ is_set n given
flag_read f n os place given h rows = ap is_set_as (first_value-rows f n ∙ ap (first_of n) rows) ∙ flag_value n os place given h

-- ---- words that are no words for clap

found_all : {X : Type 0} (p q : X → Bool) (xs : List X) (x : X) → list_all q xs ≡ true → find p xs ≡ Some x → q x ≡ true
found_all p q [] x all h = absurd (cc)
found_all p q (y ∷ ys) x all h = cases (q y)
    (λ e. cases (p y)
    (λ f. let h' : Some y ≡ Some x = (rw f at h) in let same : y ≡ x = cc in ap q (sym same) ∙ e)
    (λ f. found_all p q ys x (rw e at all) (rw f at h)))
    (λ e. absurd (true_false (sym all ∙ ap (λ (b : Bool). b && list_all q ys) e)))

abbrev pub is_apart : Line → Bool
is_apart l = option_map_or (λ p. not (is_some (find (λ o. bytes_eq o.0 p) l.options))) l.place true

apart_from : (os : List (Word × Bool)) (place : Option Word) (p : Word) → is_apart (record { options = os; place = place }) ≡ true → place ≡ Some p → find (λ o. bytes_eq o.0 p) os ≡ None
apart_from os None p h e = absurd (cc)
apart_from os (Some q) p h e = let same : q ≡ p = cc in subst (λ (w : Word). find (λ o. bytes_eq o.0 w) os ≡ None) same (go (find (λ o. bytes_eq o.0 q) os) h)
  where
    go : (o : Option (Word × Bool)) → not (is_some o) ≡ true → o ≡ None
    go None h = refl
    go (Some x) h = absurd (true_false (sym h))

table_apart : AreApart table
table_apart word p is q place = apart_from p.1.options p.1.place q (found_all (λ r. bytes_eq r.0 word) (λ r. is_apart r.1) table p refl is) place

and_both : (x y : Bool) → (x && y) ≡ true → (x ≡ true) × (y ≡ true)
and_both true y h = (refl, h)
and_both false y h = absurd (true_false (sym h))

or_else_right : (x y : Bool) → (x || y) ≡ true → x ≡ false → y ≡ true
or_else_right true y h e = absurd (true_false e)
or_else_right false y h e = h

pub clean_is : (word : Word) → is_clean word ≡ true → IsClean word
clean_is [] h = inl refl
clean_is (a ∷ []) h = cases (a == 45)
    (λ e. absurd (true_false (sym ((and_both (starts_with nat_eq (a ∷ []) (codes "--")) false (or_else_right (not (a == 45)) _ h (ap not e))).1))))
    (λ e. inl (ap not e))
clean_is (a ∷ b ∷ []) h = cases (a == 45)
    (λ e. absurd (true_false (sym ((and_both (starts_with nat_eq (a ∷ b ∷ []) (codes "--")) false (or_else_right (not (a == 45)) _ h (ap not e))).1))))
    (λ e. inl (ap not e))
clean_is (a ∷ b ∷ y ∷ ys) h = cases (a == 45)
    (λ e.
    let begins = and_both (starts_with nat_eq (a ∷ b ∷ y ∷ ys) (codes "--")) (nat_lt 2 (length (a ∷ b ∷ y ∷ ys))) (or_else_right (not (a == 45)) _ h (ap not e)) in
    let two = and_both (nat_eq 45 a) (nat_eq 45 b && true) begins.0 in
    let second = and_both (nat_eq 45 b) true two.1 in
    let first_is : 45 ≡ a = (Decides-eqb 45 a).0 two.0 in
    let second_is : 45 ≡ b = (Decides-eqb 45 b).0 second.0 in
    inr (y, ys, ap₂ (λ (c d : ℕ). c ∷ d ∷ y ∷ ys) (sym first_is) (sym second_is)))
    (λ e. inl (ap not e))

pub all_clean : (words : List Word) → list_all is_clean words ≡ true → AreClean words
all_clean [] h = tt
all_clean (word ∷ words) h = let both = and_both (is_clean word) (list_all is_clean words) h in (clean_is word both.0, all_clean words both.1)

-- one that may not be given fits no line
unclean_hyphens : (l : Line) (s : Standing) (waiting : Option Word) → find (λ o. bytes_eq o.0 []) l.options ≡ None → hyphens_met l s waiting [] ≡ None
unclean_hyphens l s None named = rw named refl
unclean_hyphens l s (Some x) named = refl

unclean_word : (l : Line) (s : Standing) (word : Word) → find (λ o. bytes_eq o.0 []) l.options ≡ None → is_clean word ≡ false → word_met l s word ≡ None
unclean_word l s word named h = cases (is_plain word)
    (λ e. absurd (true_false (sym (ap (λ (b : Bool). b || (starts_with nat_eq word (codes "--") && nat_lt 2 (length word))) e) ∙ h)))
    (λ e. rw e (cases (starts_with nat_eq word (codes "--"))
    (λ f. let short : nat_lt 2 (length word) ≡ false = rw (e, f) at h in
    let few : length word ≤ 2 = grind (arith, nat_tests) in
    let nothing : drop 2 word ≡ [] = drop_all 2 word few in
    rw (f, nothing) (unclean_hyphens l s s.waiting named))
    (λ f. rw f refl)))

after_none : (l : Line) (words : List Word) (o : Option Standing) → ((s : Standing) → given_from l s words ≡ None) → option_and_then (λ after. given_from l after words) o ≡ None
after_none l words None h = refl
after_none l words (Some s) h = h s

unclean_from : (l : Line) (words : List Word) → find (λ o. bytes_eq o.0 []) l.options ≡ None → list_all is_clean words ≡ false → (s : Standing) → given_from l s words ≡ None
unfolding given_from
unclean_from l [] named h s = absurd (true_false h)
unclean_from l (word ∷ words) named h s = cases (is_clean word)
    (λ e. after_none l words (word_met l s word) (unclean_from l words named (sym (ap (λ (b : Bool). b && list_all is_clean words) e) ∙ h)))
    (λ e. rw (unclean_word l s word named e) refl)

found_passes : {X : Type 0} (p : X → Bool) (xs : List X) (x : X) → find p xs ≡ Some x → p x ≡ true
found_passes p [] x h = absurd (cc)
found_passes p (y ∷ ys) x h = cases (p y)
    (λ f. let h' : Some y ≡ Some x = (rw f at h) in let same : y ≡ x = cc in ap p (sym same) ∙ f)
    (λ f. found_passes p ys x (rw f at h))

abbrev pub is_named : Line → Bool
is_named l = not (is_some (find (λ o. bytes_eq o.0 []) l.options))

not_some : {X : Type 0} (o : Option X) → not (is_some o) ≡ true → o ≡ None
not_some None h = refl
not_some (Some x) h = absurd (true_false (sym h))

behind_none : (words : List Word) (o : Option (Word × Line)) (h : (p : Word × Line) → o ≡ Some p → given p.1 words ≡ None) → option_and_then (given_behind words) o ≡ None
behind_none words None h = refl
behind_none words (Some p) h = rw (h p refl) refl

no_unclean : (word : Word) (o : Option (Word × Line)) → subcommand table word ≡ o → is_clean word ≡ false → o ≡ None
no_unclean word None is h = refl
no_unclean word (Some p) is h =
    let named : p.0 ≡ word = bytes_eq-true p.0 word (found_passes (λ q. bytes_eq q.0 word) table p is) in
    let plain : is_plain p.0 ≡ true = found_all (λ q. bytes_eq q.0 word) (λ q. is_plain q.0) table p refl is in
    let plain' : is_plain word ≡ true = ap is_plain (sym named) ∙ plain in
    absurd (true_false (sym (ap (λ (b : Bool). b || (starts_with nat_eq word (codes "--") && nat_lt 2 (length word))) plain') ∙ h))

unclean_reads : (words : List Word) → list_all is_clean (drop 1 words) ≡ false → reads table words ≡ None
unclean_reads [] h = refl
unclean_reads (program ∷ []) h = refl
unclean_reads (program ∷ word ∷ words) h = cases (is_clean word)
    (λ e. behind_none words (subcommand table word) (λ p is. unclean_from p.1 words
    (not_some (find (λ o. bytes_eq o.0 []) p.1.options) (found_all (λ q. bytes_eq q.0 word) (λ q. is_named q.1) table p refl is))
    (sym (ap (λ (b : Bool). b && list_all is_clean words) e) ∙ h) (nothing_yet p.1)))
    (λ e. ap (option_and_then (given_behind words)) (no_unclean word (subcommand table word) refl e))

-- ---- what a parse tells

abbrev pub line_fault : List Word → Kinds
line_fault words = fault_of (with_commands bare table) words

abbrev pub line_sub : List Word → Option (Word × List Row)
line_sub words = subcommand_of (with_commands bare table) words

whole : (words : List Word) → list_all is_clean (drop 1 words) ≡ true → TopIs table (drop 1 words) (reads table words)
whole [] clean = tops table table_apart [] [] tt
whole (program ∷ words) clean = tops table table_apart program words (all_clean words clean)

ok_from : (words : List Word) (m : ArgMatches) (o : Option (Word × Given)) → TopIs table (drop 1 words) o → line_fault words ≡ [] → subcommand_rows_of m ≡ line_sub words
    → MatchOption o (subcommand_rows_of m ≡ None) (IsRead m)
ok_from words m None (inl bad) clear is = absurd (subst IsFault clear bad)
ok_from words m None (inr none) clear is = is ∙ none
ok_from words m (Some p) h clear is = (h.1.0, h.1.1, is ∙ h.1.2)

err_from : (words : List Word) (k : ErrorKind) (o : Option (Word × Given)) → TopIs table (drop 1 words) o → IsAmong k (line_fault words) → o ≡ None
err_from words k None h among = refl
err_from words k (Some p) h among = absurd (subst (IsAmong k) h.0 among)

pub parsed_ok : (words : List Word) (m : ArgMatches) → list_all is_clean (drop 1 words) ≡ true → line_fault words ≡ [] → subcommand_rows_of m ≡ line_sub words
    → MatchOption (reads table words) (subcommand_rows_of m ≡ None) (IsRead m)
parsed_ok words m clean clear is = ok_from words m (reads table words) (whole words clean) clear is

pub parsed_err : (words : List Word) (k : ErrorKind) → list_all is_clean (drop 1 words) ≡ true → IsAmong k (line_fault words) → reads table words ≡ None
parsed_err words k clean among = err_from words k (reads table words) (whole words clean) among

pub parsed_unclean : (words : List Word) → list_all is_clean (drop 1 words) ≡ false → reads table words ≡ None
parsed_unclean = unclean_reads

pub clean_items : {Z : Type 0} (items : List (String Z)) → list_all is_clean (drop 1 (map string_bytes items)) ≡ list_all (λ word. is_clean (string_bytes word)) (drop 1 items)
clean_items [] = refl
clean_items (program ∷ items) = list_all-map is_clean string_bytes items
