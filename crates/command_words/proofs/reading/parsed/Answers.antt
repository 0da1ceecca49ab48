use Rattle.std.specs.Prelude.{String}
use Rattle.std.proofs.Common.{◌≡◌, ◌∙◌, ap, ap₂, sym, subst, true, List, map, string_bytes, drop, Global, inl, inr}
use Rattle.std.specs.List.{list_all}
use Rattle.clap.specs.Simple.{app_of, subcommand_of, is_simple}
use Rattle.clap.specs.Faults.{fault_of, is_simple_and_free}
use Rattle.clap.specs.Kinds.{HasKind, Kinds}
use Rattle.command_words.specs.Commands.{is_clean, bare, with_commands}
use Rattle.command_words.specs.Table.{table}
use Rattle.command_words.proofs.Tops.{table_free, table_simple}
use Rattle.command_words.proofs.Readings.{parsed_ok, parsed_err, parsed_unclean, clean_items}
use Rattle.command_words.proofs.reading.parsed.Goals as goal

pub returns-then-not-has_clean_words : goal.returns-then-not-has_clean_words
returns-then-not-has_clean_words c =
    parsed_unclean (map (string_bytes {Z = Global}) c.args.words.now.items)
    (clean_items c.args.words.now.items ∙ (ap (λ (xs : List (String Global)). list_all (λ word. is_clean (string_bytes word)) (drop 1 xs)) (sym c.as_slice.ensures.value) ∙ (sym c.has_clean_words.ensures ∙ c.if-not-has_clean_words.true)))

pub returns-in-Ok : goal.returns-in-Ok
returns-in-Ok c =
    let words = map (string_bytes {Z = Global}) c.args.words.now.items in
    let clean : list_all is_clean (drop 1 words) ≡ true = clean_items c.args.words.now.items ∙ (ap (λ (xs : List (String Global)). list_all (λ word. is_clean (string_bytes word)) (drop 1 xs)) (sym c.as_slice.ensures.value) ∙ (sym c.has_clean_words.ensures ∙ c.if-not-has_clean_words.false)) in
    let same : map (string_bytes {Z = Global}) c.as_slice-2.result.now ≡ words = ap (map (string_bytes {Z = Global})) c.as_slice-2.ensures.value in
    let free : is_simple_and_free (app_of c.in_ok-command.command) ≡ true = ap is_simple_and_free c.in_ok-command.ensures ∙ table_free in
    let simple : is_simple (app_of c.in_ok-command.command) ≡ true = ap is_simple c.in_ok-command.ensures ∙ table_simple in
    parsed_ok words c.in-Ok.matches clean
    (ap₂ fault_of (sym c.in_ok-command.ensures) (sym same) ∙ c.in-Ok.ensures.kinds free)
    ((c.in-Ok.ensures.matches simple).1 ∙ ap₂ subcommand_of c.in_ok-command.ensures same)

pub returns : goal.returns
returns c =
    let words = map (string_bytes {Z = Global}) c.args.words.now.items in
    let clean : list_all is_clean (drop 1 words) ≡ true = clean_items c.args.words.now.items ∙ (ap (λ (xs : List (String Global)). list_all (λ word. is_clean (string_bytes word)) (drop 1 xs)) (sym c.as_slice.ensures.value) ∙ (sym c.has_clean_words.ensures ∙ c.if-not-has_clean_words.false)) in
    let same : map (string_bytes {Z = Global}) c.as_slice-2.result.now ≡ words = ap (map (string_bytes {Z = Global})) c.as_slice-2.ensures.value in
    let free : is_simple_and_free (app_of c.in_ok-command.command) ≡ true = ap is_simple_and_free c.in_ok-command.ensures ∙ table_free in
    let faults : fault_of (app_of c.in_ok-command.command) (map (string_bytes {Z = Global}) c.as_slice-2.result.now) ≡ fault_of (with_commands bare table) words = ap₂ fault_of c.in_ok-command.ensures same in
    let has : HasKind (fault_of (with_commands bare table) words) c.in-Err.error = subst (λ (ks : Kinds). HasKind ks c.in-Err.error) faults (c.in-Err.ensures.kinds free) in
    elim has [
      | inl memory ↦ absurd (c.in_default.not-OutOfMemory (c.kind.ensures ∙ memory))
      | inr among ↦ parsed_err words c.in-Err.error.kind clean among
    ]
